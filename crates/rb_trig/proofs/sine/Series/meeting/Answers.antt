use Rattle.std.proofs.Common.{◌+◌, arith}
use Rattle.rb_num.specs.declared.terms.TheConstants.{TERMS}
use Rattle.rb_trig.proofs.Short.{short_start}
use Rattle.rb_trig.proofs.sine.Series.meeting.Goals as goal

pub loop-k-init : goal.loop-k-init
loop-k-init c = record {
  few = short_start c.args.self c.args.square TERMS (omega arith);
  more = c.in_ok-lo.ensures.nested (TERMS + 1) (omega arith) (short_start c.args.self c.args.square (TERMS + 1) (omega arith));
  few_ordered = omega arith;
  ordered = c.in_ok-lo.ensures.ordered;
}
