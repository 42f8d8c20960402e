use Rattle.std.proofs.Common.{◌∙◌}
use Rattle.rb_tree.proofs.GroupMaking.{named_more}
use Rattle.rb_tree.proofs.groups.groups_without_bodies.Goals as goal

pub loop-group-preserved : goal.loop-group-preserved
loop-group-preserved c =
    named_more c.args.groups.now c.loop-group.group-index c.group-item.result c.loop-group.made.items c.push.new.self.items _ c.loop-group.invariant c.loop-group-test.true
    c.group-item.is c.in_ok-push.ensures.items (c.in_ok-copy.ensures ∙ c.as_str.ensures.same)
