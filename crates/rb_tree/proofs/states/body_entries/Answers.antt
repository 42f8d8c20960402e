use Rattle.std.proofs.Common.{◌-◌, refl, ap, sym, arith}
use Rattle.std.proofs.lemmas.Option.{slice_get_read}
use Rattle.std.proofs.lemmas.Result.{err_from_is_err_and}
use Rattle.rb_tree.specs.declared.columns.Start.{Start}
use Rattle.rb_tree.proofs.ColumnLaws.{body_found}
use Rattle.rb_tree.proofs.StateEntries.{body_gives, body_refuses, start_read, start_low}
use Rattle.std.proofs.Common.{length}
use Rattle.rb_tree.proofs.states.body_entries.Goals as goal

pub returns-in_err-values : goal.returns-in_err-values
returns-in_err-values c =
    let bodies = c.args.bodies.now in
    let p = err_from_is_err_and c.from_residual.result c.from_residual.ensures.1 in
    let body = c.index-bodies-at.result in
    let is = body_found bodies c.args.number body c.requires.from (slice_get_read bodies (length bodies) (c.args.number - 1) body refl (omega arith) c.index-bodies-at.is) in
    rw (p.1, p.2) (body_refuses bodies c.args.number c.args.numbers.now body is c.in_err-values.field-0.0 (sym c.in_err-values.ensures))

pub invariant_of-result : goal.invariant_of-result
invariant_of-result c =
    let k = c.args.number - 1 in
    let e = ap (λ (s : Start). s.entry) (start_read c.args.bodies.now c.args.starts.now k (record { full = 0; column = 0; entry = 0 }) c.requires.starts (omega arith)) in
    omega (arith, e, start_low c.args.bodies.now k (omega arith))

pub returns : goal.returns
returns c =
    let bodies = c.args.bodies.now in
    let k = c.args.number - 1 in
    let body = c.index-bodies-at.result in
    let is = body_found bodies c.args.number body c.requires.from (slice_get_read bodies (length bodies) k body refl (omega arith) c.index-bodies-at.is) in
    let e = ap (λ (s : Start). s.entry) (start_read bodies c.args.starts.now k (record { full = 0; column = 0; entry = 0 }) c.requires.starts (omega arith)) in
    body_gives bodies c.args.number c.args.numbers.now body is c.in_ok-values.values _ e (sym c.in_ok-values.ensures)
