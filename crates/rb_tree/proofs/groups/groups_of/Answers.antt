use Rattle.std.proofs.Common.{subst}
use Rattle.rb_tree.specs.GroupMarks.{Scope}
use Rattle.rb_tree.specs.Groups.{AreGroupsOf}
use Rattle.rb_tree.proofs.GroupMaking.{groups_kept}
use Rattle.rb_tree.proofs.groups.groups_of.Goals as goal

pub returns-clause-kept : goal.returns-clause-kept
returns-clause-kept c =
    let P : Scope → Type 0 = λ s. AreGroupsOf s.bodies s.srdf.virtuals s.srdf.groups c.in_ok-make_groups.field-0.items in
    groups_kept c.args.bodies.now c.args.srdf.now.virtuals c.args.srdf.now.groups c.in_ok-make_groups.field-0.items c.requires
    (subst P c.in_ok-scope.ensures c.in_ok-make_groups.ensures)
