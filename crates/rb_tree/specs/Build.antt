-- What it is for a robot to be built from its files.
use Rattle.std.specs.Prelude.{◌≡◌, ◌<◌, ◌≤◌, ℕ, List, [], length, Option, None, Some, IfSome, Ok, slice_get}
use Rattle.std.specs.List.{Any, AllByRecursion, AllZip, Contains}
use Rattle.rb_flat.specs.Choice.{MimicOrdered}
use Rattle.rb_joint.specs.Any.{kind_of}
use Rattle.rb_body.specs.Raw.{kind_of as joint_kind}
use Rattle.rb_tags.specs.declared.root.RootKind.{RootKind}
use Rattle.rb_urdf.specs.declared.robot.UrdfLink.{UrdfLink}
use Rattle.rb_urdf.specs.declared.robot.UrdfJoint.{UrdfJoint}
use Rattle.rb_urdf.specs.declared.robot.UrdfMimic.{UrdfMimic}
use Rattle.rb_urdf.specs.Robot.{Robot, names_of_links}
use Rattle.rb_srdf.specs.declared.srdf.Group.{Group}
use Rattle.rb_srdf.specs.declared.srdf.GroupState.{GroupState}
use Rattle.rb_srdf.specs.declared.srdf.Virtual.{Virtual}
use Rattle.rb_srdf.specs.Srdf.{Semantics}
use Rattle.rb_tree.specs.declared.order.Stem.{Stem}
use Rattle.rb_tree.specs.declared.robot.Body.{Body}
use Rattle.rb_tree.specs.declared.robot.Mimic.{Mimic}
use Rattle.rb_tree.specs.Sizes.{bearer_of}
use Rattle.rb_tree.specs.Order.{stem_of, IsOrder, IsAccepted}
use Rattle.rb_tree.specs.Robot.{Tree, IsBodyKept, mimic_brackets}
use Rattle.rb_tree.specs.Parts.{root_of, IsMadeOf}
use Rattle.rb_tree.specs.Groups.{AreGroupsOf}
use Rattle.rb_tree.specs.States.{states_made}

-- ---- what a robot is built from
-- its own file, what another tells of groups, states and virtual joints, and the kind of root that is asked for
pub record Source : Type 0 where
  pub urdf : Robot
  pub srdf : Option Semantics
  pub root : Option RootKind

abbrev pub groups_in : Option Semantics → List Group
groups_in None = []
groups_in (Some srdf) = srdf.groups

abbrev pub states_in : Option Semantics → List GroupState
states_in None = []
states_in (Some srdf) = srdf.states

abbrev pub virtuals_in : Option Semantics → List Virtual
virtuals_in None = []
virtuals_in (Some srdf) = srdf.virtuals

-- the joint that bears the root
abbrev pub root_joint_of : Source → UrdfJoint
root_joint_of source = root_of source.urdf (virtuals_in source.srdf) source.root

-- ---- bodies
-- the link and the joint of a body of the order, where this joint bears the root
pub record IsPair (robot : Robot) (root : UrdfJoint) (stem : Stem) (link : UrdfLink) (joint : UrdfJoint) : Type 0 where
  pub link_is : slice_get robot.links stem.link ≡ Some link
  pub joint_is : bearer_of root robot.joints stem.joint ≡ Some joint

-- a body follows that which the joint bears that its own joint follows
pub record IsFollowing (order : List Stem) (followed : UrdfMimic) (mimic : Mimic) : Type 0 where
  pub from : 1 ≤ mimic.master
  pub to : mimic.master ≤ length order
  pub bears : (stem_of order mimic.master).joint ≡ Some followed.master
  pub multiplier : mimic.multiplier ≡ followed.multiplier
  pub offset : mimic.offset ≡ followed.offset

-- a body follows another where its joint does
abbrev pub Follows : List Stem → Option UrdfMimic → Option Mimic → Type 0
Follows order None None = Unit {0}
Follows order (Some followed) (Some mimic) = IsFollowing order followed mimic
Follows order _ _ = ⊥

pub record IsBody (robot : Robot) (root : UrdfJoint) (order : List Stem) (stem : Stem) (body : Body) : Type 0 where
  pub link : UrdfLink
  pub joint : UrdfJoint
  pub pair : IsPair robot root stem link joint
  pub parent : body.parent ≡ stem.parent
  pub made : IsMadeOf link joint body
  pub follows : Follows order joint.mimic body.mimic

-- body by body what the file tells, in the order of the bodies, and nothing is wrong with this
pub record AreBuilt (robot : Robot) (root : UrdfJoint) (bodies : List Body) : Type 0 where
  pub order : List Stem
  pub ordered : IsOrder robot order
  pub accepted : IsAccepted robot root order
  pub each : AllZip (IsBody robot root order) order bodies

-- ---- robots
-- groups and states are those of this robot
abbrev pub IsOfRobot : Robot → Option Semantics → Type 0
IsOfRobot robot None = Unit {0}
IsOfRobot robot (Some srdf) = srdf.name ≡ robot.name

-- a virtual joint bears one of the links of these names
abbrev pub BearsLink : List (List ℕ) → Virtual → Type 0
BearsLink names virtual = Contains names virtual.child

-- a robot has the bodies, the groups and the states that its files tell
pub record IsBuilt (source : Source) (tree : Tree) : Type 0 where
  pub name : tree.name ≡ source.urdf.name
  pub of_robot : IsOfRobot source.urdf source.srdf
  pub virtuals : AllByRecursion (BearsLink (names_of_links source.urdf.links)) (virtuals_in source.srdf)
  pub bodies : AreBuilt source.urdf (root_joint_of source) tree.bodies
  pub groups : AreGroupsOf tree.bodies (virtuals_in source.srdf) (groups_in source.srdf) tree.groups
  pub states : states_made tree.bodies (virtuals_in source.srdf) (states_in source.srdf) ≡ Ok tree.states

-- ---- while a robot is built
abbrev pub IsJointThere : List UrdfJoint → Option ℕ → Type 0
IsJointThere joints None = Unit {0}
IsJointThere joints (Some number) = number < length joints

-- the link and the joint of a body of the order are there
pub record IsStemThere (robot : Robot) (stem : Stem) : Type 0 where
  pub link : stem.link < length robot.links
  pub joint : IsJointThere robot.joints stem.joint

-- the joint of this number bears a body of the order
abbrev pub BearsBody : List Stem → ℕ → Type 0
BearsBody order number = Any (λ stem. stem.joint ≡ Some number) order

-- the body of this number is that which the joint bears
pub record IsBorneBy (order : List Stem) (number i : ℕ) : Type 0 where
  pub from : 1 ≤ i
  pub to : i ≤ length order
  pub bears : (stem_of order i).joint ≡ Some number

-- the ends of the brackets of a joint that follows another are in order
abbrev pub IsMimicOrdered : Option Mimic → Type 0
IsMimicOrdered mimic = IfSome mimic (λ follower. MimicOrdered (mimic_brackets follower))

-- a body of the robot that keeps what bodies keep, with a joint of the kind of that which bears it
pub record IsBodyOf (robot : Robot) (root : UrdfJoint) (order : List Stem) (stem : Stem) (body : Body) : Type 0 where
  pub is : IsBody robot root order stem body
  pub kept : IsBodyKept body
  pub kind : kind_of body.joint ≡ joint_kind is.joint.kind
  pub ordered : IsMimicOrdered body.mimic
