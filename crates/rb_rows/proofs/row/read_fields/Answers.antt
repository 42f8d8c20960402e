use Rattle.std.proofs.Common.{◌<◌, ◌∙◌, ap, arith, length}
use Rattle.std.proofs.lemmas.Result.{err_from_is_err_and}
use Rattle.csv.specs.Records.{fields_of}
use Rattle.rb_rows.proofs.HeaderSteps.{field_here}
use Rattle.rb_rows.proofs.RowSteps.{places_stay, read_none, read_more, read_whole}
use Rattle.rb_rows.proofs.row.read_fields.Goals as goal

pub loop-index-init : goal.loop-index-init
loop-index-init c = read_none _ _ _

pub read_at-requires-clause-places : goal.read_at-requires-clause-places
read_at-requires-clause-places c = places_stay _ c.loop-index.into c.loop-index.invariant.alike c.args.header.now c.requires.places

pub returns-in_err-read_at-clause-err : goal.returns-in_err-read_at-clause-err
returns-in_err-read_at-clause-err c =
    let fields = fields_of c.args.fields.now in
    let within : c.loop-index.index < length fields = omega (arith, ap length c.targets-index-end.ensures, c.loop-index-test.true, c.requires.count) in
    let here = field_here fields c.loop-index.index c.get.result _ c.unwrap_or-field.result within c.get.ensures.value c.unwrap_or-field.ensures in
    let p = err_from_is_err_and c.from_residual.result c.from_residual.ensures.1 in
    rw (p.1, p.2) (c.loop-index.invariant.whole ∙ c.in_err-read_at.ensures.err fields within here)

pub loop-index-preserved : goal.loop-index-preserved
loop-index-preserved c =
    let fields = fields_of c.args.fields.now in
    let within : c.loop-index.index < length fields = omega (arith, ap length c.targets-index-end.ensures, c.loop-index-test.true, c.requires.count) in
    let here = field_here fields c.loop-index.index c.get.result _ c.unwrap_or-field.result within c.get.ensures.value c.unwrap_or-field.ensures in
    read_more _ _ _ _ _ c.loop-index.index c.loop-index.invariant (c.in_ok-read_at.ensures.ok fields within here) c.in_ok-read_at.ensures.alike

pub returns-clause-ok : goal.returns-clause-ok
returns-clause-ok c = read_whole _ _ _ _ c.loop-index.index (omega (arith, ap length c.targets-index-end.ensures, c.loop-index-test.false)) c.loop-index.invariant
