-- What reading is to the format.
use Rattle.std.specs.Prelude.{◌≡◌, List, Ok, Err}
use Rattle.rb_tags.specs.declared.tag.Tag.{Tag}
use Rattle.rb_urdf.specs.declared.faults.UrdfFault.{UrdfFault}
use Rattle.rb_urdf.specs.Robot.{Robot}
use Rattle.rb_urdf.specs.Profile.{IsUrdf}
use Rattle.rb_urdf.specs.Refusals.{HasFault}
use Rattle.rb_urdf.specs.Urdf.{urdf_of}

-- the robot that is read is one that the tags describe
abbrev pub ReadsDescribed : Type 0
ReadsDescribed = (tags : List Tag) (robot : Robot) → urdf_of tags ≡ Ok robot → IsUrdf tags robot

-- the robot that the tags describe is read
abbrev pub DescribedIsRead : Type 0
DescribedIsRead = (tags : List Tag) (robot : Robot) → IsUrdf tags robot → urdf_of tags ≡ Ok robot

-- tags that are refused have the fault
abbrev pub RefusesFaulty : Type 0
RefusesFaulty = (tags : List Tag) (fault : UrdfFault) → urdf_of tags ≡ Err fault → HasFault tags fault

-- tags that have a fault are refused with it
abbrev pub FaultyIsRefused : Type 0
FaultyIsRefused = (tags : List Tag) (fault : UrdfFault) → HasFault tags fault → urdf_of tags ≡ Err fault

-- tags have at most one fault
abbrev pub HasOneFault : Type 0
HasOneFault = (tags : List Tag) (fault other : UrdfFault) → HasFault tags fault → HasFault tags other → fault ≡ other

-- and none where they describe a robot
abbrev pub FaultExcludesRobot : Type 0
FaultExcludesRobot = (tags : List Tag) (robot : Robot) (fault : UrdfFault) → IsUrdf tags robot → HasFault tags fault → ⊥
