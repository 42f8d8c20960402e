use Rattle.std.proofs.Common.{◌≡◌, ◌≢◌, Some, get_or, List, subst, sym}
use Rattle.std.specs.List.{All}
use Rattle.std.proofs.lemmas.List.{take_all}
use Rattle.std.proofs.lemmas.List.Elements.{All-more}
use Rattle.rb_tree.specs.declared.order.Stem.{Stem}
use Rattle.rb_tree.specs.Order.{no_stem}
use Rattle.rb_tree.proofs.Answered.{fails}
use Rattle.rb_tree.proofs.Borne.{none_bears}
use Rattle.rb_tree.proofs.Stems.{read_same}
use Rattle.rb_tree.proofs.build.body_borne_by.Goals as goal

pub loop-place-preserved : goal.loop-place-preserved
loop-place-preserved c =
    let order = c.args.order.now in
    let n = c.loop-place.place in
    let P : Stem → Type 0 = λ stem. stem.joint ≢ Some c.args.number in
    All-more P order n (get_or order n no_stem) c.loop-place-test.true c.loop-place.invariant
    (subst P (sym (read_same order n (get_or order n no_stem) no_stem c.loop-place-test.true)) (fails c.is_borne_by.result ((get_or order n no_stem).joint ≡ Some c.args.number) c.is_borne_by.ensures c.if-is_borne_by.false))

pub returns : goal.returns
returns c =
    let P : List Stem → Type 0 = λ stems. All (λ (stem : Stem). stem.joint ≢ Some c.args.number) stems in
    none_bears c.args.order.now c.args.number (subst P (take_all c.loop-place.place c.args.order.now c.loop-place-test.false) c.loop-place.invariant)
