-- The words of the faults.
use Rattle.std.specs.Prelude.{ℕ, List, codes}
use Rattle.rb_joint.specs.declared.faults.JointFault.{JointFault}
use Rattle.rb_joint.specs.declared.faults.JointFault.TheVariants.{Range, NotUnit, Size}

abbrev pub word_of : JointFault → List ℕ
word_of Range = codes "Range"
word_of NotUnit = codes "NotUnit"
word_of Size = codes "Size"
