use Rattle.std.proofs.Common.{◌∙◌}
use Rattle.rb_tree.proofs.GroupNames.{scope_kept, virtual_found}
use Rattle.rb_tree.proofs.groups.Scope.is_virtual.Goals as goal

pub returns : goal.returns
returns c =
    let s = c.args.self.now in
    let kept = scope_kept _ s c.self.inside.virtuals c.self.inside.groups c.self.view_is c.self.invariant in
    c.is_some.ensures ∙ virtual_found c.args.name.now s.srdf.virtuals c.self.inside.virtuals c.number_of.result kept.virtuals_are c.number_of.ensures.number
