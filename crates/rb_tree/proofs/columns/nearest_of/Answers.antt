use Rattle.std.proofs.Common.{◌≡◌, ◌+◌, sym, ◌∙◌, refl, arith, length, take, add-one}
use Rattle.std.specs.List.{sum_by}
use Rattle.std.proofs.lemmas.Option.{slice_get_read}
use Rattle.rb_tree.specs.Columns.{own_columns, nearest_column}
use Rattle.rb_tree.proofs.ListLaws.{IsListOf-push, IsListOf-first, IsListOf-get}
use Rattle.rb_tree.proofs.ColumnLaws.{nearest_first, nearest_none, nearest_own, parent_low, sum_small_own, sum_more}
use Rattle.rb_tree.proofs.columns.nearest_of.Goals as goal
use Rattle.rb_tree.proofs.columns.nearest_of.Goals.{then-own-eq0, else-own-eq0}

pub loop-body-init : goal.loop-body-init
loop-body-init c =
    (refl, rw (c.in_ok-push.ensures.items, c.new-lasts.ensures.items) (IsListOf-first (nearest_column c.args.bodies.now) 0 (nearest_first c.args.bodies.now)))

pub overflow_add-columns : goal.overflow_add-columns
overflow_add-columns c = omega (arith, sum_small_own c.args.bodies.now c.loop-body.body-index)

pub index-requires : goal.index-requires
index-requires c =
    let bodies = c.args.bodies.now in
    let k = c.loop-body.body-index in
    let h = slice_get_read bodies (length bodies) k c.body-item.result refl c.loop-body-test.true c.body-item.is in
    omega (arith, parent_low bodies c.requires.parents k c.body-item.result h, c.loop-body.invariant.1.count)

pub loop-body-preserved : goal.loop-body-preserved
loop-body-preserved c =
    let bodies = c.args.bodies.now in
    let k = c.loop-body.body-index in
    let b = c.body-item.result in
    let h = slice_get_read bodies (length bodies) k b refl c.loop-body-test.true c.body-item.is in
    let columns : c.loop-body.columns + c.own_columns-own.result ≡ sum_by own_columns (take (k + 1) bodies) =
    rw add-one (omega (arith, sum_more own_columns bodies k b h, c.own_columns-own.ensures.value, c.loop-body.invariant.0)) in
    let last : c.if-own-eq0.last ≡ nearest_column bodies (k + 1) =
    elim c.if-own-eq0.branch [
      | then-own-eq0 w ↦
          let low = parent_low bodies c.requires.parents k b h in
          w.last-is ∙ (w.index.ensures ∙ (IsListOf-get (k + 1) (nearest_column bodies) c.loop-body.lasts.items b.parent _ c.loop-body.invariant.1 (omega (arith, low))
          ∙ nearest_none bodies c.requires.parents k b h (sym c.own_columns-own.ensures.value ∙ w.if-own-eq0.true)))
      | else-own-eq0 w ↦
          w.last-is ∙ (columns ∙ nearest_own bodies c.requires.parents k b h (λ e. w.if-own-eq0.false (c.own_columns-own.ensures.value ∙ e)))
    ] in
    (columns, rw c.in_ok-push-2.ensures.items (IsListOf-push (k + 1) (nearest_column bodies) c.loop-body.lasts.items _ c.loop-body.invariant.1 last))
