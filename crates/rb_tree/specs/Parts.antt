-- What a link and the joint that bears it give a body, or why they are refused.
use Rattle.std.specs.Prelude.{◌≡◌, ◌⊎◌, ◌+◌, ◌==◌, ℕ, Bool, if◌then◌else◌, List, [], ◌∷◌, codes, find, bytes_eq, Option, None, Some, Result, Ok, Err, IsOk}
use Rattle.std.specs.List.{list_any}
use Rattle.rb_num.specs.Interval.{Interval}
use Rattle.rb_frac.specs.Spatial.{BodyInertia}
use Rattle.rb_result.specs.Steps.{placed}
use Rattle.rb_joint.specs.declared.any.AnyJoint.{AnyJoint}
use Rattle.rb_urdf.specs.declared.robot.UrdfKind.{UrdfKind}
use Rattle.rb_urdf.specs.declared.robot.UrdfKind.TheVariants.{Fixed, Planar, Floating}
use Rattle.rb_tags.specs.declared.root.RootKind.{RootKind}
use Rattle.rb_tags.specs.declared.root.RootKind.TheVariants as Root
use Rattle.rb_urdf.specs.declared.robot.UrdfLink.{UrdfLink}
use Rattle.rb_urdf.specs.declared.robot.UrdfJoint.{UrdfJoint}
use Rattle.rb_urdf.specs.Numbers.{zeros}
use Rattle.rb_urdf.specs.Robot.{Robot}
use Rattle.rb_srdf.specs.declared.srdf.Virtual.{Virtual}
use Rattle.rb_body.specs.declared.faults.BodyFault.{BodyFault}
use Rattle.rb_body.specs.declared.faults.BodyFault.TheVariants as Why
use Rattle.rb_body.specs.declared.raw.LinkRaw.{LinkRaw}
use Rattle.rb_body.specs.declared.raw.JointRaw.{JointRaw}
use Rattle.rb_body.specs.Raw.{link_brackets}
use Rattle.rb_body.specs.Inertia.{inertia_by}
use Rattle.rb_body.specs.Joint.{joint_by}
use Rattle.rb_tree.specs.declared.faults.TreeFault.{TreeFault}
use Rattle.rb_tree.specs.declared.faults.TreeKind.{TreeKind}
use Rattle.rb_tree.specs.declared.faults.TreeKind.TheVariants.{AngleRange, ZeroAxis, Size}
use Rattle.rb_tree.specs.declared.faults.WhichFile.TheVariants.{Urdf}
use Rattle.rb_tree.specs.declared.robot.Body.{Body}

-- ---- constants, or their refusal at a place
abbrev pub kind_of : BodyFault → TreeKind
kind_of Why.AngleRange = AngleRange
kind_of Why.ZeroAxis = ZeroAxis
kind_of Why.Size = Size

abbrev pub fault_at : BodyFault → ℕ → TreeFault
fault_at why at = record { kind = kind_of why; file = Urdf; at = at }

abbrev pub raw_of : UrdfLink → LinkRaw
raw_of link = record { mass = link.mass; «com» = link.com; rpy = link.rpy; six = link.six }

-- the inertia that a link gives its body
unfoldable pub inertia_made : UrdfLink → Result (BodyInertia Interval) TreeFault
inertia_made link = placed fault_at link.place (inertia_by (link_brackets (raw_of link)))

-- the model of a joint, and the numbers that it is made of
unfoldable pub joint_made : UrdfJoint → Result (AnyJoint × JointRaw) TreeFault
joint_made joint = placed fault_at joint.place (joint_by joint.kind joint.xyz joint.rpy joint.axis)

-- ---- the root
-- the kind of the root's joint, which is fixed where none is asked for
abbrev pub root_kind : Option RootKind → UrdfKind
root_kind None = Fixed
root_kind (Some Root.Fixed) = Fixed
root_kind (Some Root.Planar) = Planar
root_kind (Some Root.Floating) = Floating

-- the joint of this kind and name that bears the root: its frame is the identity, and its place that of the robot
abbrev pub root_joint : UrdfKind → List ℕ → ℕ → UrdfJoint
root_joint kind name at = record {
  name = name;
  place = at;
  kind = kind;
  parent = 0;
  child = 0;
  xyz = zeros;
  rpy = zeros;
  axis = zeros;
  mimic = None;
}

-- the names of the links, the first of which has this number, that are the child of no joint
unfoldable pub roots_from : List UrdfJoint → ℕ → List UrdfLink → List (List ℕ)
roots_from joints number [] = []
roots_from joints number (link ∷ links) =
    if list_any (λ joint. joint.child == number) joints then roots_from joints (number + 1) links else link.name ∷ roots_from joints (number + 1) links

-- a virtual joint bears a root
unfoldable pub bears_root : Robot → Virtual → Bool
bears_root robot virtual = list_any (bytes_eq virtual.child) (roots_from robot.joints 0 robot.links)

-- the joint at this place that a virtual joint is, or a fixed one where there is none
abbrev pub root_by : ℕ → Option Virtual → UrdfJoint
root_by at None = root_joint Fixed (codes "root_joint") at
root_by at (Some virtual) = root_joint (root_kind (Some virtual.kind)) virtual.name at

-- the joint that bears the root: of the kind that is asked for, else the first virtual joint that bears the root, else fixed
unfoldable pub root_of : Robot → List Virtual → Option RootKind → UrdfJoint
root_of robot virtuals (Some kind) = root_joint (root_kind (Some kind)) (codes "root_joint") robot.place
root_of robot virtuals None = root_by robot.place (find (bears_root robot) virtuals)

-- a body has the names, the brackets and the constants of its link and its joint
pub record IsMadeOf (link : UrdfLink) (joint : UrdfJoint) (body : Body) : Type 0 where
  pub link_name : body.link_name ≡ link.name
  pub link_raw : body.link_raw ≡ raw_of link
  pub inertia : inertia_made link ≡ Ok body.inertia
  pub joint_name : body.joint_name ≡ joint.name
  pub model : joint_made joint ≡ Ok (body.joint, body.joint_raw)

-- the constants of the joint are refused, or where they are not, those of the link
abbrev pub IsRefusedAt : UrdfLink → UrdfJoint → TreeFault → Type 0
IsRefusedAt link joint fault = (joint_made joint ≡ Err fault) ⊎ (IsOk (joint_made joint) × (inertia_made link ≡ Err fault))
