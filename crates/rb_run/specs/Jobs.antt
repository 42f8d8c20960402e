-- What can be asked of the rows of a robot.
use Rattle.std.specs.Prelude.{◌≡◌, ◌≤◌, false, List}
use Rattle.rb_flat.specs.Contact.{RowsFit}
use Rattle.rb_work.specs.View.{View}
use Rattle.rb_tree.specs.Columns.{has_mimic}
use Rattle.rb_tree.specs.Places.{IsFor}
use Rattle.rb_tree.specs.Robot.{Tree}
use Rattle.rb_tree.specs.Shape.{shape_of}
use Rattle.rb_constraint.specs.declared.constraints.Constraint.{Constraint}
use Rattle.rb_constraint.specs.Constraints.{constraints_of}
use Rattle.rb_rows.specs.declared.task.Task.{Task}
use Rattle.rb_rows.specs.declared.task.Task.TheVariants as task
use Rattle.rb_run.specs.declared.job.Job.{Job}

-- articulated bodies are asked of a robot in which no joint follows another, and the constraints are between bodies of the robot
pub record Suits (asked : Task) (tree : Tree) (cons : List Constraint) : Type 0 where
  pub leads : asked ≡ task.Aba → has_mimic tree.bodies ≡ false
  pub fit : RowsFit (shape_of tree) (constraints_of cons)

-- what is asked of all rows can be answered
abbrev pub IsJob : Job → Type 0
IsJob job = Suits job.task job.robot job.cons

-- a work is one for the robot, and has room for the rows of the constraints
pub record IsWorkOf (job : Job) (w : View) : Type 0 where
  pub robot : IsFor job.robot w
  pub rows : (constraints_of job.cons).rows ≤ w.rows
