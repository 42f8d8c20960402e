use Rattle.rb_tree.specs.Roots.{IsChild}
use Rattle.rb_tree.proofs.Answered.{holds, more_from}
use Rattle.rb_tree.proofs.roots.next_root.Goals as goal

pub loop-link-preserved : goal.loop-link-preserved
loop-link-preserved c =
    more_from (IsChild c.args.joints.now) c.args.from c.loop-link.link c.loop-link.invariant
    (holds c.is_child.result (IsChild c.args.joints.now c.loop-link.link) c.is_child.ensures c.if-not-is_child.false)
