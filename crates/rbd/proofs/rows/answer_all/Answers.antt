use Rattle.std.proofs.Common.{◌≡◌, refl}
use Rattle.rb_io.specs.Cut.{lines_of}
use Rattle.rbd.specs.declared.stop.RowsFault.TheVariants.{TooLong}
use Rattle.rbd.specs.declared.stop.RowsStop.TheVariants.{Fault}
use Rattle.rbd.proofs.Courses.{header_stops, stop_otherwise}
use Rattle.rbd.proofs.rows.answer_all.Goals as goal

pub returns-in-Err-clause-follows : goal.returns-in-Err-clause-follows
returns-in-Err-clause-follows g c = header_stops _ _ _ _ _ c.in-Err.ensures.err (λ told. refl)

pub returns-in-Ok-clause-follows : goal.returns-in-Ok-clause-follows
returns-in-Ok-clause-follows g c = rw c.in-Ok.ensures.ok c.answer_behind.ensures.follows

pub returns-in-Err-clause-long : goal.returns-in-Err-clause-long
returns-in-Err-clause-long g c = λ is.
    let same : c.in-Err.stop ≡ Fault TooLong = cc in
    stop_otherwise c.args.job.now.robot (lines_of c.args.bytes.now) c.in-Err.stop c.in-Err.ensures.err same
