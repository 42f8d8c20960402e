use Rattle.std.proofs.Common.{take, subst}
use Rattle.std.proofs.lemmas.List.{take_all}
use Rattle.rb_tree.specs.Roots.{IsChild, HaveOneParent}
use Rattle.rb_tree.proofs.Answered.{fails}
use Rattle.rb_tree.proofs.Rooted.{parents_more}
use Rattle.rb_tree.proofs.roots.check_parents.Goals as goal

pub loop-number-preserved : goal.loop-number-preserved
loop-number-preserved c =
    let joints = c.args.joints.now in
    let number = c.loop-number.number in
    let joint = c.index-joints-number.result in
    parents_more joints number joint c.loop-number-test.true c.index-joints-number.is c.loop-number.invariant
    (fails c.is_child.result (IsChild (take number joints) joint.child) c.is_child.ensures c.if-is_child.false)

pub returns-clause-ok : goal.returns-clause-ok
returns-clause-ok c =
    subst HaveOneParent (take_all c.loop-number.number c.args.joints.now c.loop-number-test.false) c.loop-number.invariant
