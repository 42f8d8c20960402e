use Rattle.std.proofs.Common.{◌≡◌, ◌≤◌, Err, ap, length}
use Rattle.std.proofs.lemmas.Result.{err_from_is_err_and}
use Rattle.rbd.specs.declared.stop.RobotFault.TheVariants as why
use Rattle.rbd.specs.declared.stop.ReadStop.TheVariants as read
use Rattle.rbd.specs.Plan.{most_file}
use Rattle.rbd.specs.Stops.{stop_of_refusal}
use Rattle.rbd.proofs.Refusals.{file_refused, never_long}
use Rattle.rbd.proofs.read.read_tags_of.Goals as goal

pub returns-in-Err-clause-refused : goal.returns-in-Err-clause-refused
returns-in-Err-clause-refused g c = λ tells. file_refused c.args.file _ _ _ c.file_stop.ensures (λ is. c.in-Err.ensures.longer tells (ap Err is))

pub returns-in_err-tags_of_bytes-clause-long : goal.returns-in_err-tags_of_bytes-clause-long
returns-in_err-tags_of_bytes-clause-long g c =
    let p = err_from_is_err_and c.from_residual.result c.from_residual.ensures.1 in
    let short : length c.as_slice.result.now ≤ most_file = rw c.as_slice.ensures c.in-Ok.ensures.within in
    λ which is.
    let same : stop_of_refusal c.in_err-tags_of_bytes.field-0.0 ≡ read.Fault (why.TooLong which) = cc in
    absurd (never_long c.args.file which c.as_slice.result.now _ short c.in_err-tags_of_bytes.ensures.err same)
