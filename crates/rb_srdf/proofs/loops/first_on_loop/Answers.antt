use Rattle.std.proofs.Common.{below_more, arith}
use Rattle.rb_srdf.specs.Loops.{LeadsTo}
use Rattle.rb_srdf.proofs.LoopWays.{loop_within, not_said}
use Rattle.rb_srdf.proofs.loops.first_on_loop.Goals as goal

pub loop-k-preserved : goal.loop-k-preserved
loop-k-preserved c =
    let rows = c.args.rows.now in
    below_more (λ j. LeadsTo rows j j → ⊥) c.loop-k.k c.loop-k.invariant (not_said c.in_ok-leads_to_itself.field-0 (LeadsTo rows c.loop-k.k c.loop-k.k) c.in_ok-leads_to_itself.ensures c.if-branch.false)

pub returns : goal.returns
returns c = λ k w. c.loop-k.invariant k (omega (arith, loop_within c.args.rows.now k w)) w
