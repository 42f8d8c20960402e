use Rattle.std.proofs.Common.{refl}
use Rattle.rb_num.proofs.Ends.{read}
use Rattle.rb_trig.proofs.Root.{isqrt_held}
use Rattle.rb_trig.proofs.axis.floor_root.Goals as goal

pub returns : goal.returns
returns c = isqrt_held c.args.square _ c.isqrt.result (read c.args.square c.ranges.square refl) c.requires c.ranges.square c.isqrt.ensures
