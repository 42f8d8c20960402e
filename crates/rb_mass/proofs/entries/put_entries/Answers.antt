use Rattle.std.proofs.Common.{arith}
use Rattle.std.proofs.lemmas.Result.{err_from_is_err_and}
use Rattle.rb_mass.proofs.Ways.{met_below, up_refused}
use Rattle.rb_mass.proofs.entries.put_entries.Goals as goal

pub put_entry-requires-clause-above : goal.put_entry-requires-clause-above
put_entry-requires-clause-above c =
    rw c.full_number-f.ensures.value (met_below _ c.args.of.body c.args.of.k c.args.a c.loop-l.l c.requires.body.from c.requires.upward (omega (arith, c.met_columns-end.ensures.value)))

pub returns-in_err-put_entry-clause-step : goal.returns-in_err-put_entry-clause-step
returns-in_err-put_entry-clause-step c =
    let p = err_from_is_err_and c.from_residual.result c.from_residual.ensures.1 in
    rw (p.1, p.2)
    (up_refused _ c.loop-l.l _ c.loop-l.work _ _ (omega (arith, c.met_columns-end.ensures.value)) (rw c.full_number-f.ensures.value at c.in_err-put_entry.ensures.step) c.loop-l.invariant.rest)
