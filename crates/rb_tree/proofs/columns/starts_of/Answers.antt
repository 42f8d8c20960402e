use Rattle.std.proofs.Common.{◌≡◌, ◌+◌, ap, sym, refl, arith, length}
use Rattle.std.proofs.lemmas.Option.{slice_get_read}
use Rattle.rb_tree.specs.declared.columns.Start.{Start}
use Rattle.rb_tree.specs.Columns.{start_behind}
use Rattle.rb_tree.proofs.ListLaws.{IsListOf-push, IsListOf-first}
use Rattle.rb_tree.proofs.ColumnLaws.{start_first, start_next, full_small, column_small, entry_small}
use Rattle.rb_tree.proofs.columns.starts_of.Goals as goal

pub loop-body-init : goal.loop-body-init
loop-body-init c =
    let e : record { full = 1; column = 1; entry = 0 } ≡ start_behind c.args.bodies.now 0 = sym (start_first c.args.bodies.now) in
    (e, rw (c.in_ok-push.ensures.items, c.new-starts.ensures.items) (IsListOf-first (start_behind c.args.bodies.now) _ e))

pub overflow_add-next : goal.overflow_add-next
overflow_add-next c = omega (arith, full_small c.args.bodies.now c.loop-body.body-index, ap (λ (s : Start). s.full) c.loop-body.invariant.0)

pub overflow_add-next-in-loop-body : goal.overflow_add-next-in-loop-body
overflow_add-next-in-loop-body c = omega (arith, column_small c.args.bodies.now c.loop-body.body-index, ap (λ (s : Start). s.column) c.loop-body.invariant.0)

pub overflow_add-next-in-loop-body-2 : goal.overflow_add-next-in-loop-body-2
overflow_add-next-in-loop-body-2 c = omega (arith, entry_small c.args.bodies.now c.loop-body.body-index, ap (λ (s : Start). s.entry) c.loop-body.invariant.0)

pub loop-body-preserved : goal.loop-body-preserved
loop-body-preserved c =
    let bodies = c.args.bodies.now in
    let k = c.loop-body.body-index in
    let h = slice_get_read bodies (length bodies) k c.body-item.result refl c.loop-body-test.true c.body-item.is in
    let e : record { full = c.loop-body.next.full + c.full_columns.result; column = c.loop-body.next.column + c.own_columns.result; entry = c.loop-body.next.entry + c.own_entries.result } ≡ start_behind bodies (k + 1) = rw (c.full_columns.ensures.value, c.own_columns.ensures.value, c.own_entries.ensures.value) (start_next bodies k c.body-item.result c.loop-body.next h c.loop-body.invariant.0) in
    (e, rw c.in_ok-push-2.ensures.items (IsListOf-push (k + 1) (start_behind bodies) c.loop-body.starts.items _ c.loop-body.invariant.1 e))
