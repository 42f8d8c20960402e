use Rattle.std.proofs.Common.{refl}
use Rattle.rb_io.specs.Cut.{lines_of}
use Rattle.rbd.specs.Inputs.{rows}
use Rattle.rbd.proofs.Courses.{follows_nothing, follows_first, follows_behind, behind_otherwise}
use Rattle.rbd.proofs.rows.answer_behind.Goals as goal

pub returns-in-Err-clause-follows : goal.returns-in-Err-clause-follows
returns-in-Err-clause-follows g c = follows_nothing _ _ _ refl (λ told. refl)

pub returns-in-Ok-put-clause-follows : goal.returns-in-Ok-put-clause-follows
returns-in-Ok-put-clause-follows g c =
    follows_behind c.args.job.now c.args.start.now (rows c.args.header.now (lines_of c.args.rest.now)) _ _ _ _ _ _ _ _
    (λ told. rw (c.bytes_of.ensures, c.in-Ok.ensures.first) at (c.in-Ok-put.ensures.whole (c.put_rows.ensures.tells told)))
    c.put_rows.ensures.follows

pub returns-in-Ok-put-clause-long : goal.returns-in-Ok-put-clause-long
returns-in-Ok-put-clause-long g c = λ is. behind_otherwise c.args.job.now c.args.start.now (rows c.args.header.now (lines_of c.args.rest.now)) _ (rw is at c.put_rows.ensures.follows)

pub returns-clause-follows : goal.returns-clause-follows
returns-clause-follows g c =
    rw c.in-Err-put.ensures.only
    (follows_first c.args.job.now c.args.start.now (rows c.args.header.now (lines_of c.args.rest.now)) _ (λ told. rw (c.bytes_of.ensures, c.in-Ok.ensures.first) at (c.in-Err-put.ensures.part told)))
