-- How the faults of the crates below are those of a body, and the words of these.
use Rattle.std.specs.Prelude.{ℕ, List, codes}
use Rattle.rb_num.specs.declared.interval.NumFault.{NumFault}
use Rattle.rb_trig.specs.declared.axis.AxisFault.{AxisFault}
use Rattle.rb_trig.specs.declared.axis.AxisFault.TheVariants as Axis
use Rattle.rb_joint.specs.declared.faults.JointFault.{JointFault}
use Rattle.rb_joint.specs.declared.faults.JointFault.TheVariants as Joint
use Rattle.rb_body.specs.declared.faults.BodyFault.{BodyFault}
use Rattle.rb_body.specs.declared.faults.BodyFault.TheVariants.{AngleRange, ZeroAxis, Size}

abbrev pub of_frame : JointFault → BodyFault
of_frame Joint.Range = AngleRange
of_frame Joint.Size = Size
-- no frame is refused so
of_frame Joint.NotUnit = Size

abbrev pub of_axis : AxisFault → BodyFault
of_axis Axis.Size = Size
of_axis Axis.ZeroAxis = ZeroAxis

abbrev pub of_number : NumFault → BodyFault
of_number e = Size

abbrev pub word_of : BodyFault → List ℕ
word_of AngleRange = codes "AngleRange"
word_of ZeroAxis = codes "ZeroAxis"
word_of Size = codes "Size"
