use Rattle.std.proofs.Common.{sym, ◌∙◌, ap, subst}
use Rattle.rb_srdf.specs.declared.srdf.GroupItem.{GroupItem}
use Rattle.rb_srdf.specs.declared.srdf.GroupItem.TheVariants as Item
use Rattle.rb_tree.specs.GroupMarks.{NamesGroup}
use Rattle.rb_tree.proofs.groups.Scope.mark_item.Goals as goal

pub mark_held-requires-clause-held : goal.mark_held-requires-clause-held
mark_held-requires-clause-held c = λ k n.
    let P : GroupItem → Type 0 = λ item. NamesGroup c.args.self.now.srdf.groups item k in
    c.requires.held k (subst P (ap Item.Group c.as_str-in-Group.ensures.same ∙ sym c.in-Group.is) n)
