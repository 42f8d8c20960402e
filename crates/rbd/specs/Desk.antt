-- Room for one row.
use Rattle.std.specs.Prelude.{◌≤◌, ◌+◌, length}
use Rattle.rb_run.specs.declared.job.Job.{Job}
use Rattle.rb_run.specs.Jobs.{IsWorkOf}
use Rattle.rb_run.specs.Line.{line_room}
use Rattle.rb_run.specs.Slots.{IsSlotOf}
use Rattle.rbd.specs.declared.desk.Desk.{Desk}

-- the slot and the work are of the job, and there is room for the longest line
pub record IsDeskOf (job : Job) (desk : Desk) : Type 0 where
  pub slot : IsSlotOf job desk.slot
  pub work : IsWorkOf job desk.work
  pub room : line_room job ≤ desk.line.spare + length desk.line.bytes
