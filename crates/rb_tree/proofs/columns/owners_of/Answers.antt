use Rattle.std.proofs.Common.{◌≡◌, ◌+◌, ◌-◌, sym, ◌∙◌, refl, arith, length, take, add-one, vec_len}
use Rattle.std.proofs.lemmas.Option.{slice_get_read}
use Rattle.std.proofs.lemmas.List.{take_all}
use Rattle.rb_tree.specs.Columns.{own_columns}
use Rattle.rb_tree.proofs.ColumnLaws.{owners_more}
use Rattle.rb_tree.proofs.columns.owners_of.Goals as goal

pub loop-body-preserved : goal.loop-body-preserved
loop-body-preserved c =
    let bodies = c.args.bodies.now in
    let k = c.loop-body.body-index in
    let h = slice_get_read bodies (length bodies) k c.body-item.result refl c.loop-body-test.true c.body-item.is in
    let e = owners_more 1 bodies k c.body-item.result h in
    let kept : take (c.len.result + c.own_columns.result) c.loop-body.owners.items ≡ c.loop-body.owners.items = take_all _ _ (omega arith) in
    let count : c.len.result + c.own_columns.result - vec_len c.loop-body.owners ≡ own_columns c.body-item.result = omega (arith, c.own_columns.ensures.value) in
    let number : c.loop-body.number + 1 ≡ 1 + k = omega arith in
    (omega arith, c.in_ok-resize.ensures.items ∙ rw (kept, count, number, c.loop-body.invariant.1, add-one) (sym e))
