use Rattle.std.proofs.Common.{◌≡◌, Some, length, get_or, refl, ◌∙◌, ap}
use Rattle.std.specs.List.{slice_get}
use Rattle.std.proofs.lemmas.Option.{slice_get_read}
use Rattle.rb_tree.proofs.GroupMarking.{none_marked}
use Rattle.rb_tree.proofs.GroupMaking.{holds_named, marks_tell}
use Rattle.rb_tree.proofs.groups.Scope.marks_of.Goals as goal

pub mark_items-requires-clause-held : goal.mark_items-requires-clause-held
mark_items-requires-clause-held c =
    let groups = c.args.self.now.srdf.groups in
    let number = c.args.number in
    let group = c.index-as_slice-number.result in
    let e = c.as_slice.ensures ∙ c.groups.ensures.same ∙ ap (λ s. s.srdf.groups) c.self.view_is in
    let at : slice_get groups number ≡ Some group =
    slice_get_read groups (length groups) number group refl c.requires.there (c.index-as_slice-number.is ∙ ap (λ xs. get_or xs number group) e) in
    λ k a. c.requires.held k (holds_named groups number k group c.as_slice-2.result.now at c.as_slice-2.ensures a)

pub returns-clause-marks : goal.returns-clause-marks
returns-clause-marks c =
    let s = c.args.self.now in
    let groups = s.srdf.groups in
    let number = c.args.number in
    let group = c.index-as_slice-number.result in
    let e = c.as_slice.ensures ∙ c.groups.ensures.same ∙ ap (λ s. s.srdf.groups) c.self.view_is in
    let at : slice_get groups number ≡ Some group =
    slice_get_read groups (length groups) number group refl c.requires.there (c.index-as_slice-number.is ∙ ap (λ xs. get_or xs number group) e) in
    marks_tell s.bodies groups number group c.as_slice-2.result.now _ c.mark_items.new.marks at c.as_slice-2.ensures (none_marked 257) c.mark_items.ensures
