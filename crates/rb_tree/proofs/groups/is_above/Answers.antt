use Rattle.std.proofs.Common.{arith, eqb-true, eq-eqb}
use Rattle.rb_tree.proofs.GroupChains.{parent_is, above_same, above_end}
use Rattle.rb_tree.proofs.groups.is_above.Goals as goal

pub loop-body-smaller : goal.loop-body-smaller
loop-body-smaller c =
    let i = c.loop-body.body in
    let e = parent_is c.args.bodies.now i c.index-bodies-body.result (omega arith) (omega arith) c.index-bodies-body.is in
    omega (arith, e, c.requires.bodies.parents i (omega arith))

pub loop-body-preserved : goal.loop-body-preserved
loop-body-preserved c =
    let i = c.loop-body.body in
    let e = parent_is c.args.bodies.now i c.index-bodies-body.result (omega arith) (omega arith) c.index-bodies-body.is in
    record {
      there = omega (arith, e, c.requires.bodies.parents i (omega arith));
      same = above_same c.args.bodies.now c.args.above i _ c.args.body e c.loop-body-test.true c.loop-body.invariant.same;
    }

pub returns : goal.returns
returns c =
    let i = c.loop-body.body in
    let h = above_end c.args.bodies.now c.requires.bodies.parents c.args.above i c.args.body c.loop-body-test.false c.loop-body.invariant.same in
    (λ e. h.0 (eqb-true i c.args.above e), λ p. eq-eqb i c.args.above (h.1 p))
