-- The stops of the parts of a run, as stops of the run.
use Rattle.rb_tags.specs.declared.read.TagFault.{TagFault}
use Rattle.rb_tags.specs.declared.read.TagKind.{TagKind}
use Rattle.rb_tags.specs.declared.read.TagKind.TheVariants as tags
use Rattle.rb_urdf.specs.declared.faults.UrdfFault.{UrdfFault}
use Rattle.rb_urdf.specs.declared.faults.UrdfFaultKind.{UrdfFaultKind}
use Rattle.rb_urdf.specs.declared.faults.UrdfFaultKind.TheVariants as urdf
use Rattle.rb_srdf.specs.declared.faults.SrdfFault.{SrdfFault}
use Rattle.rb_srdf.specs.declared.faults.SrdfFaultKind.{SrdfFaultKind}
use Rattle.rb_srdf.specs.declared.faults.SrdfFaultKind.TheVariants as srdf
use Rattle.rb_tree.specs.declared.faults.WhichFile.{WhichFile}
use Rattle.rb_tree.specs.declared.faults.TreeFault.{TreeFault}
use Rattle.rb_tree.specs.declared.faults.TreeKind.{TreeKind}
use Rattle.rb_tree.specs.declared.faults.TreeKind.TheVariants as tree
use Rattle.rb_constraint.specs.declared.faults.ConFault.{ConFault}
use Rattle.rb_constraint.specs.declared.faults.ConKind.{ConKind}
use Rattle.rb_constraint.specs.declared.faults.ConKind.TheVariants as con
use Rattle.rb_rows.specs.declared.faults.HeaderFault.{HeaderFault}
use Rattle.rb_rows.specs.declared.faults.HeaderKind.{HeaderKind}
use Rattle.rb_rows.specs.declared.faults.HeaderKind.TheVariants as header
use Rattle.rb_words.specs.declared.faults.WordsStop.{WordsStop}
use Rattle.rb_words.specs.declared.faults.WordsStop.TheVariants as words
use Rattle.rb_io.specs.declared.calls.FileFault.{FileFault}
use Rattle.rb_io.specs.declared.calls.FileFault.TheVariants as file
use Rattle.rbd.specs.declared.stop.RobotFault.{RobotFault}
use Rattle.rbd.specs.declared.stop.RobotFault.TheVariants as robot
use Rattle.rbd.specs.declared.stop.ConstraintsFault.{ConstraintsFault}
use Rattle.rbd.specs.declared.stop.ConstraintsFault.TheVariants as wrong
use Rattle.rbd.specs.declared.stop.Refusal.{Refusal}
use Rattle.rbd.specs.declared.stop.Refusal.TheVariants as refusal
use Rattle.rbd.specs.declared.stop.ReadStop.{ReadStop}
use Rattle.rbd.specs.declared.stop.ReadStop.TheVariants as read
use Rattle.rbd.specs.declared.stop.RowsStop.{RowsStop}
use Rattle.rbd.specs.declared.stop.RowsStop.TheVariants as rows
use Rattle.rbd.specs.declared.stop.StartStop.{StartStop}
use Rattle.rbd.specs.declared.stop.StartStop.TheVariants as start
use Rattle.rbd.specs.declared.stop.UsageFault.TheVariants.{State, Words}
use Rattle.rbd.specs.declared.stop.RowsFault.{RowsFault}
use Rattle.rbd.specs.declared.stop.Stop.{Stop}
use Rattle.rbd.specs.declared.stop.Stop.TheVariants.{Usage, Rows, Input, Output, Memory}

-- a fact of the fault, where there is one
abbrev pub IfRefused : {F : Type 0} → (F → Type 0) → Refusal F → Type 0
IfRefused P (refusal.Fault fault) = P fault
IfRefused P refusal.Memory = Unit {0}

abbrev pub IfFault : {F : Type 0} → (F → Type 0) → ReadStop F → Type 0
IfFault P (read.Fault fault) = P fault
IfFault P read.Input = Unit {0}
IfFault P read.Memory = Unit {0}

-- ---- the parts of reading a robot
-- want of memory where the kind of a fault says so, and what is wrong with the robot's files where it is another
abbrev pub tags_kind : TagKind → RobotFault → Refusal RobotFault
tags_kind tags.Memory fault = refusal.Memory
tags_kind kind fault = refusal.Fault fault

abbrev pub refusal_of_tags : WhichFile → TagFault → Refusal RobotFault
refusal_of_tags file fault = tags_kind fault.kind (robot.Tags file fault)

abbrev pub urdf_kind : UrdfFaultKind → RobotFault → Refusal RobotFault
urdf_kind urdf.Memory fault = refusal.Memory
urdf_kind kind fault = refusal.Fault fault

abbrev pub refusal_of_urdf : UrdfFault → Refusal RobotFault
refusal_of_urdf fault = urdf_kind fault.kind (robot.Urdf fault)

abbrev pub srdf_kind : SrdfFaultKind → RobotFault → Refusal RobotFault
srdf_kind srdf.Memory fault = refusal.Memory
srdf_kind kind fault = refusal.Fault fault

abbrev pub refusal_of_srdf : SrdfFault → Refusal RobotFault
refusal_of_srdf fault = srdf_kind fault.kind (robot.Srdf fault)

abbrev pub tree_kind : TreeKind → RobotFault → Refusal RobotFault
tree_kind tree.Memory fault = refusal.Memory
tree_kind kind fault = refusal.Fault fault

abbrev pub refusal_of_tree : TreeFault → Refusal RobotFault
refusal_of_tree fault = tree_kind fault.kind (robot.Tree fault)

abbrev pub header_kind : HeaderKind → RowsFault → RowsStop
header_kind header.Memory fault = rows.Memory
header_kind kind fault = rows.Fault fault

-- of reading a header
abbrev pub stop_of_header : HeaderFault → RowsStop
stop_of_header fault = header_kind fault.kind (RowsFault.Header fault)

-- of reading words
abbrev pub stop_of_words : WordsStop → Stop
stop_of_words (words.Fault fault) = Usage (Words fault)
stop_of_words words.Memory = Memory

abbrev pub con_kind : ConKind → ConstraintsFault → ReadStop ConstraintsFault
con_kind con.Memory fault = read.Memory
con_kind kind fault = read.Fault fault

-- of reading constraints
abbrev pub stop_of_con : ConFault → ReadStop ConstraintsFault
stop_of_con fault = con_kind fault.kind (wrong.File fault)

abbrev pub stop_of_refusal : {F : Type 0} → Refusal F → ReadStop F
stop_of_refusal (refusal.Fault fault) = read.Fault fault
stop_of_refusal refusal.Memory = read.Memory

-- ---- the stops of a run
-- the stop for a state that the robot has not
abbrev pub stop_of_start : StartStop → Stop
stop_of_start start.NoState = Usage State
stop_of_start start.Memory = Memory

-- the stop for a fault of reading a name whole, where `long` is that of a name that holds too much
abbrev pub file_stop : {F : Type 0} → FileFault → F → ReadStop F
file_stop file.TooLong long = read.Fault long
file_stop file.Failed long = read.Input
file_stop file.Memory long = read.Memory

-- as stops of the run
abbrev pub stop_of_read : {F : Type 0} → (F → Stop) → ReadStop F → Stop
stop_of_read of (read.Fault fault) = of fault
stop_of_read of read.Input = Input
stop_of_read of read.Memory = Memory

abbrev pub stop_of_rows : RowsStop → Stop
stop_of_rows (rows.Fault fault) = Rows fault
stop_of_rows rows.Output = Output
stop_of_rows rows.Memory = Memory
