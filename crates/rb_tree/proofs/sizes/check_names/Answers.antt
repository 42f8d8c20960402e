use Rattle.std.proofs.Common.{take, get_or, subst, sym}
use Rattle.std.specs.List.{Any}
use Rattle.std.proofs.lemmas.List.{take_all}
use Rattle.rb_tree.specs.declared.order.Stem.{Stem}
use Rattle.rb_tree.specs.Order.{no_stem}
use Rattle.rb_tree.specs.Sizes.{StemsShare, HaveOwnNames}
use Rattle.rb_tree.proofs.Answered.{fails}
use Rattle.rb_tree.proofs.ListLaws.{pairs_more}
use Rattle.rb_tree.proofs.Stems.{read_same}
use Rattle.rb_tree.proofs.NameLaws.{unborne_apart}
use Rattle.rb_tree.proofs.sizes.check_names.Goals as goal
use Rattle.rb_tree.proofs.sizes.check_names.Goals.{then-is_shared+in_default, else-is_shared}

pub loop-number-preserved : goal.loop-number-preserved
loop-number-preserved c =
    let root = c.args.root.now in
    let joints = c.args.joints.now in
    let stems = c.args.stems.now in
    let n = c.loop-number.number in
    let stem = get_or stems n no_stem in
    pairs_more (StemsShare root joints) stems n stem c.loop-number-test.true (sym (read_same stems n stem no_stem c.loop-number-test.true)) c.loop-number.invariant
    (λ shared. elim c.if-is_shared.branch [
      | then-is_shared+in_default w ↦ unborne_apart root joints stem (take n stems) (sym w.in_default.ensures) shared
      | else-is_shared w ↦ fails c.is_shared.result (Any (λ (earlier : Stem). StemsShare root joints earlier stem) (take n stems)) c.is_shared.ensures w.if-is_shared.false shared
    ])

pub returns-clause-ok : goal.returns-clause-ok
returns-clause-ok c = subst (HaveOwnNames c.args.root.now c.args.joints.now) (take_all c.loop-number.number c.args.stems.now c.loop-number-test.false) c.loop-number.invariant
