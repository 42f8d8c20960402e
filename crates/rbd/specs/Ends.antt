-- The status and the line on standard error of an answer.
use Rattle.std.specs.Prelude.{List, ℕ, [], ◌∷◌, ◌++◌, Bool, true, false, Result, Ok, Err, codes, decimal}
use Rattle.rbd.specs.declared.stop.UsageFault.{UsageFault}
use Rattle.rbd.specs.declared.stop.UsageFault.TheVariants as usage
use Rattle.rbd.specs.declared.stop.RobotFault.{RobotFault}
use Rattle.rbd.specs.declared.stop.RobotFault.TheVariants as robot
use Rattle.rbd.specs.declared.stop.ConstraintsFault.{ConstraintsFault}
use Rattle.rbd.specs.declared.stop.ConstraintsFault.TheVariants as constraints
use Rattle.rbd.specs.declared.stop.RowsFault.{RowsFault}
use Rattle.rbd.specs.declared.stop.RowsFault.TheVariants as rows
use Rattle.rbd.specs.declared.stop.Stop.{Stop}
use Rattle.rbd.specs.declared.stop.Stop.TheVariants.{Usage, Robot, Constraints, Rows, Input, Output, Memory}
use Rattle.rbd.specs.declared.status.Status.{Status}
use Rattle.rbd.specs.declared.status.Status.TheVariants as status
use Rattle.rb_words.specs.Words.{fault_word as words_word}
use Rattle.rb_constraint.specs.Faults.{fault_text as constraints_fault_text}
use Rattle.rb_rows.specs.Faults.{header_text}
use Rattle.rb_tags.specs.Faults as Tags
use Rattle.rb_urdf.specs.Faults as Urdf
use Rattle.rb_srdf.specs.Faults as Srdf
use Rattle.rb_tree.specs.Faults as Tree
use Rattle.rb_tree.specs.Faults.{file_word}
use Rattle.rb_tree.specs.declared.faults.WhichFile.{WhichFile}
use Rattle.rb_tree.specs.declared.faults.WhichFile.TheVariants as file

-- ---- the status
abbrev pub status_of_stop : Stop → Status
status_of_stop (Usage fault) = status.Usage
status_of_stop (Robot fault) = status.Robot
status_of_stop (Constraints fault) = status.Robot
status_of_stop (Rows fault) = status.Rows
status_of_stop Input = status.InputFault
status_of_stop Output = status.OutputFault
status_of_stop Memory = status.Memory

abbrev pub status_of : Result Bool Stop → Status
status_of (Ok true) = status.Refused
status_of (Ok false) = status.Done
status_of (Err stop) = status_of_stop stop

-- ---- the line
abbrev pub usage_word : UsageFault → List ℕ
usage_word (usage.Words fault) = words_word fault
usage_word usage.State = codes "state"
usage_word usage.Mimic = codes "mimic"

-- what is wrong in a file of the robot
unfoldable pub in_file : WhichFile → List ℕ → List ℕ
in_file file text = file_word file ++ codes ": " ++ text

abbrev pub robot_text : RobotFault → List ℕ
robot_text (robot.TooLong file) = in_file file (codes "TooLong")
robot_text (robot.Tags file fault) = in_file file (Tags.fault_text fault)
robot_text (robot.Urdf fault) = in_file file.Urdf (Urdf.fault_text fault)
robot_text (robot.Srdf fault) = in_file file.Srdf (Srdf.fault_text fault)
robot_text (robot.Tree fault) = Tree.fault_text fault

abbrev pub constraints_text : ConstraintsFault → List ℕ
constraints_text constraints.TooLong = codes "constraints: TooLong"
constraints_text (constraints.File fault) = codes "constraints: " ++ constraints_fault_text fault

abbrev pub rows_text : RowsFault → List ℕ
rows_text rows.TooLong = codes "rows: TooLong"
rows_text (rows.Header fault) = codes "rows: " ++ header_text fault
rows_text (rows.LineTooLong row) = codes "rows: LineTooLong at row " ++ decimal row

abbrev pub stop_text : Stop → List ℕ
stop_text (Usage fault) = codes "usage: " ++ usage_word fault
stop_text (Robot fault) = robot_text fault
stop_text (Constraints fault) = constraints_text fault
stop_text (Rows fault) = rows_text fault
stop_text Input = codes "input failed"
stop_text Output = codes "output failed"
stop_text Memory = codes "no memory"

-- none where all rows have their lines
unfoldable pub text_of : Result Bool Stop → List ℕ
text_of (Ok refused) = []
text_of (Err stop) = codes "rbd: " ++ stop_text stop ++ 10 ∷ []
