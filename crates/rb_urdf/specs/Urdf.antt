-- The robot that the tags of a file describe.
use Rattle.std.specs.Prelude.{ℕ, Bool, nat_eq, if◌then◌else◌, List, [], ◌∷◌, codes, bytes_eq, find, Option, Some, None, Result, Ok, Err}
use Rattle.std.specs.List.{starts_with}
use Rattle.rb_tags.specs.declared.tag.Tag.{Tag}
use Rattle.rb_urdf.specs.declared.faults.UrdfFault.{UrdfFault}
use Rattle.rb_urdf.specs.declared.faults.UrdfFaultKind.TheVariants.{NoRobot, Xacro}
use Rattle.rb_urdf.specs.Robot.{Robot, names_of_links}
use Rattle.rb_urdf.specs.Faults.{fault_at}
use Rattle.rb_tags.specs.Elements.{element_of, elements}
use Rattle.rb_urdf.specs.Names.{name_of}
use Rattle.rb_urdf.specs.Links.{links_after}
use Rattle.rb_urdf.specs.Joints.{drafts_after}
use Rattle.rb_urdf.specs.Mimics.{joints_of}
pub use Rattle.rb_urdf.specs.Faults.{no_memory}
use Rattle.rb_result.specs.Steps.{◌>>=◌, placed}

unfoldable pub is_xacro : Tag → Bool
is_xacro tag = starts_with nat_eq tag.name (codes "xacro:")

abbrev pub plain_but : Option Tag → List Tag → Result (List Tag) UrdfFault
plain_but None tags = Ok tags
plain_but (Some tag) tags = Err (fault_at Xacro tag.place)

-- the tags, where no name begins with xacro:
unfoldable pub plain_tags : List Tag → Result (List Tag) UrdfFault
plain_tags tags = plain_but (find is_xacro tags) tags

-- the links and joints of the tags behind the outermost one, for a robot of this name
unfoldable pub robot_with : List ℕ → ℕ → List Tag → Result Robot UrdfFault
robot_with name place tags =
    links_after [] (elements (codes "link") 1 tags) >>= λ links.
    drafts_after (names_of_links links) [] (elements (codes "joint") 1 tags) >>= λ drafts.
    joints_of drafts >>= λ joints.
    Ok (record { name = name; place = place; links = links; joints = joints })

-- the robot of the outermost element, whose tag is before these
unfoldable pub robot_of : Tag → List Tag → Result Robot UrdfFault
robot_of root tags =
    plain_tags (root ∷ tags) >>= λ _.
    placed fault_at root.place (name_of (element_of root tags)) >>= λ name.
    robot_with name root.place tags

-- the outermost element is the first, and its name is robot
unfoldable pub urdf_of : List Tag → Result Robot UrdfFault
urdf_of [] = Err (fault_at NoRobot 0)
urdf_of (root ∷ tags) = if bytes_eq root.name (codes "robot") then robot_of root tags else Err (fault_at NoRobot root.place)
