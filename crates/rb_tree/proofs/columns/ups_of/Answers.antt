use Rattle.std.proofs.Common.{◌≡◌, ◌+◌, ◌∙◌, ap, sym, arith, get_or, length, List, ℕ, Some}
use Rattle.std.specs.List.{slice_get}
use Rattle.std.proofs.lemmas.Option.{slice_get-get_or}
use Rattle.rb_tree.specs.Columns.{up_of, owners_from, column_count}
use Rattle.rb_tree.proofs.ListLaws.{IsListOf-push}
use Rattle.rb_tree.proofs.ColumnLaws.{owner_in, length-owners, sum_all_small, up_mimic, up_plain}
use Rattle.rb_tree.proofs.columns.ups_of.Goals as goal
use Rattle.rb_tree.proofs.columns.ups_of.Goals.{then-mimics, else-mimics}

pub up_from-up-requires-clause-from : goal.up_from-up-requires-clause-from
up_from-up-requires-clause-from c =
    (owner_in 1 c.args.bodies.now c.loop-owner.owner-index _ (ap (λ (xs : List ℕ). slice_get xs c.loop-owner.owner-index) (sym c.requires.owners) ∙ slice_get-get_or c.args.owners.now c.loop-owner.owner-index 0 c.loop-owner-test.true)).from

pub up_from-up-requires-clause-to : goal.up_from-up-requires-clause-to
up_from-up-requires-clause-to c =
    let o = owner_in 1 c.args.bodies.now c.loop-owner.owner-index _ (ap (λ (xs : List ℕ). slice_get xs c.loop-owner.owner-index) (sym c.requires.owners) ∙ slice_get-get_or c.args.owners.now c.loop-owner.owner-index 0 c.loop-owner-test.true) in
    omega (arith, o.to)

pub overflow_add-previous : goal.overflow_add-previous
overflow_add-previous c =
    omega (arith, c.loop-owner.invariant.0, c.loop-owner-test.true, ap length c.requires.owners, length-owners 1 c.args.bodies.now, sum_all_small c.args.bodies.now)

pub loop-owner-preserved : goal.loop-owner-preserved
loop-owner-preserved c =
    let bodies = c.args.bodies.now in
    let k = c.loop-owner.owner-index in
    let owner = get_or c.args.owners.now k 0 in
    let o : slice_get (owners_from 1 bodies) k ≡ Some owner = ap (λ (xs : List ℕ). slice_get xs k) (sym c.requires.owners) ∙ slice_get-get_or c.args.owners.now k 0 c.loop-owner-test.true in
    let up : c.if-mimics.up ≡ up_of bodies (k + 1) =
    elim c.if-mimics.branch [
      | then-mimics w ↦ w.up-is ∙ (c.loop-owner.invariant.0 ∙ up_mimic bodies k (sym c.has_mimic-mimics.ensures ∙ w.if-mimics.true))
      | else-mimics w ↦ w.up-is ∙ (w.up_from-up.ensures ∙ rw c.loop-owner.invariant.0 (up_plain bodies k owner (sym c.has_mimic-mimics.ensures ∙ w.if-mimics.false) o))
    ] in
    (omega arith, rw c.in_ok-push.ensures.items (IsListOf-push k (λ j. up_of bodies (j + 1)) c.loop-owner.ups.items _ c.loop-owner.invariant.1 up))

pub returns : goal.returns
returns c =
    let bodies = c.args.bodies.now in
    let n : c.loop-owner.owner-index ≡ column_count bodies =
    omega (arith, ap length c.requires.owners, length-owners 1 bodies, c.loop-owner-test.false) in
    rw (← n) c.loop-owner.invariant.1
