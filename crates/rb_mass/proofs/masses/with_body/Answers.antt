use Rattle.std.proofs.Common.{◌-◌, arith}
use Rattle.rb_mass.proofs.Ways.{met_below}
use Rattle.rb_mass.proofs.masses.with_body.Goals as goal

pub with_pair-requires-clause-upward : goal.with_pair-requires-clause-upward
with_pair-requires-clause-upward c = met_below _ c.args.of.body c.args.of.k c.args.a (c.loop-l.l - 1) c.requires.body.from c.requires.upward (omega (arith, c.met_columns-end.ensures.value))
