use Rattle.std.proofs.Common.{◌<◌, ◌∙◌, ap, arith, length}
use Rattle.std.proofs.lemmas.Result.{err_from_is_err_and}
use Rattle.rb_rows.specs.Plain.{parts_of}
use Rattle.rb_rows.proofs.PlainRows.{FirstPart, part_here, parts_left}
use Rattle.rb_rows.proofs.RowSteps.{places_stay, read_more, read_whole}
use Rattle.rb_rows.proofs.row.read_parts.Goals as goal

pub read_at-requires-clause-places : goal.read_at-requires-clause-places
read_at-requires-clause-places c = places_stay _ c.loop-index.into c.loop-index.invariant.read.alike c.args.header.now c.requires.places

pub returns-in_err-read_at-clause-err : goal.returns-in_err-read_at-clause-err
returns-in_err-read_at-clause-err c =
    let parts = parts_of c.args.line.now in
    let within : c.loop-index.index < length parts = omega (arith, ap length c.targets-index-end.ensures, c.loop-index-test.true, c.requires.count) in
    let cut : FirstPart c.loop-index.rest.now c.first_field.result.0.now c.first_field.result.1.now = record { more = c.first_field.ensures.more; last = c.first_field.ensures.last } in
    let here = part_here c.args.line.now c.loop-index.rest.now c.first_field.result.0.now c.first_field.result.1.now c.loop-index.index within (c.loop-index.invariant.left within) cut in
    let p = err_from_is_err_and c.from_residual.result c.from_residual.ensures.1 in
    rw (p.1, p.2) (c.loop-index.invariant.read.whole ∙ c.in_err-read_at.ensures.err parts within here)

pub loop-index-preserved : goal.loop-index-preserved
loop-index-preserved c =
    let parts = parts_of c.args.line.now in
    let within : c.loop-index.index < length parts = omega (arith, ap length c.targets-index-end.ensures, c.loop-index-test.true, c.requires.count) in
    let cut : FirstPart c.loop-index.rest.now c.first_field.result.0.now c.first_field.result.1.now = record { more = c.first_field.ensures.more; last = c.first_field.ensures.last } in
    let left = c.loop-index.invariant.left within in
    let here = part_here c.args.line.now c.loop-index.rest.now c.first_field.result.0.now c.first_field.result.1.now c.loop-index.index within left cut in
    record {
      read = read_more _ _ _ _ _ c.loop-index.index c.loop-index.invariant.read (c.in_ok-read_at.ensures.ok parts within here) c.in_ok-read_at.ensures.alike;
      left = parts_left c.args.line.now c.loop-index.rest.now c.first_field.result.0.now c.first_field.result.1.now c.loop-index.index within left cut;
    }

pub returns-clause-ok : goal.returns-clause-ok
returns-clause-ok c = read_whole _ _ _ _ c.loop-index.index (omega (arith, ap length c.targets-index-end.ensures, c.loop-index-test.false)) c.loop-index.invariant.read
