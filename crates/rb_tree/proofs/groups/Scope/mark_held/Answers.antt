use Rattle.std.proofs.Common.{ℕ, List, sym, subst, arith}
use Rattle.std.specs.List.{Contains}
use Rattle.std.proofs.lemmas.Option.{slice_get_within}
use Rattle.rb_srdf.specs.declared.srdf.GroupItem.TheVariants as Item
use Rattle.rb_tree.specs.GroupMarks.{AreBodiesOf, ItemGivesAll}
use Rattle.rb_tree.proofs.GroupMarking.{Adds-same, Adds-none}
use Rattle.rb_tree.proofs.GroupNames.{scope_kept, found_in, unfound_in, held_found, found_group, held_gives, unfound_gives, group_there}
use Rattle.rb_tree.proofs.groups.Scope.mark_held.Goals as goal

pub bounds-made-held : goal.bounds-made-held
bounds-made-held c =
    let s = c.args.self.now in
    let kept = scope_kept _ s c.self.inside.virtuals c.self.inside.groups c.self.view_is c.self.invariant in
    let g = found_group s.srdf.groups c.args.name.now c.in-Some.held
    (found_in s c.self.inside.virtuals c.self.inside.groups kept c.args.name.now c.number_of.result c.in-Some.held c.number_of.ensures.number c.in-Some.is) in
    omega (arith, slice_get_within s.srdf.groups c.in-Some.held g.group g.is, c.requires.count)

pub mark_list-requires : goal.mark_list-requires
mark_list-requires c = λ i h.
    let s = c.args.self.now in
    let kept = scope_kept _ s c.self.inside.virtuals c.self.inside.groups c.self.view_is c.self.invariant in
    let are = held_found s c.self.inside.virtuals c.self.inside.groups kept c.args.name.now c.args.made.now c.number_of.result c.in-Some.held c.index-made-held.result
    c.requires.count c.number_of.ensures.number c.in-Some.is c.index-made-held.is c.requires.held in
    let P : List ℕ → Type 0 = λ numbers. Contains numbers i in
    let t = (group_there s.bodies kept.bodies s.srdf.groups c.in-Some.held i ((are.all i).0 (subst P c.as_slice.ensures h))).to in
    omega (arith, c.requires.room)

pub returns-in-Some : goal.returns-in-Some
returns-in-Some c =
    let s = c.args.self.now in
    let kept = scope_kept _ s c.self.inside.virtuals c.self.inside.groups c.self.view_is c.self.invariant in
    let are = held_found s c.self.inside.virtuals c.self.inside.groups kept c.args.name.now c.args.made.now c.number_of.result c.in-Some.held c.index-made-held.result
    c.requires.count c.number_of.ensures.number c.in-Some.is c.index-made-held.is c.requires.held in
    let found = found_in s c.self.inside.virtuals c.self.inside.groups kept c.args.name.now c.number_of.result c.in-Some.held c.number_of.ensures.number c.in-Some.is in
    let P : List ℕ → Type 0 = λ numbers. AreBodiesOf s.bodies s.srdf.groups c.in-Some.held numbers in
    Adds-same (Contains c.as_slice.result.now) (ItemGivesAll s.bodies s.srdf.groups (Item.Group c.args.name.now)) c.args.marks.now c.mark_list.new.marks
    (held_gives s.bodies s.srdf.groups c.args.name.now c.in-Some.held c.as_slice.result.now kept.srdf.groups_differ found (subst P (sym c.as_slice.ensures) are)) c.mark_list.ensures

pub returns-in_default : goal.returns-in_default
returns-in_default c =
    let s = c.args.self.now in
    let kept = scope_kept _ s c.self.inside.virtuals c.self.inside.groups c.self.view_is c.self.invariant in
    let unfound = unfound_in s c.self.inside.virtuals c.self.inside.groups kept c.args.name.now c.number_of.result c.number_of.ensures.number c.in_default.is in
    Adds-none (ItemGivesAll s.bodies s.srdf.groups (Item.Group c.args.name.now)) c.args.marks.now
    (unfound_gives s.bodies s.srdf.groups c.args.name.now kept.srdf.groups_differ unfound)
