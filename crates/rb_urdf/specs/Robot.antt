-- What contracts see of a robot, and what each robot keeps.
use Rattle.std.specs.Prelude.{◌≡◌, ◌≢◌, ◌⊎◌, ℕ, ◌<◌, ◌≤◌, List, [], ◌∷◌, length, map, pos, ◌≤ℤ◌, slice_get, Option, None, Some}
use Rattle.std.specs.List.{AllByRecursion}
use Rattle.rb_num.specs.Interval.{Interval, interval, grid}
use Rattle.rb_urdf.specs.declared.robot.UrdfKind.{UrdfKind}
use Rattle.rb_urdf.specs.declared.robot.UrdfKind.TheVariants.{Revolute, Prismatic, Planar}
use Rattle.rb_urdf.specs.declared.robot.UrdfLink.{UrdfLink}
use Rattle.rb_urdf.specs.declared.robot.UrdfMimic.{UrdfMimic}
use Rattle.rb_urdf.specs.declared.robot.UrdfJoint.{UrdfJoint}
use Rattle.rb_tags.specs.declared.tag.TheConstants.{MAX_TAGS}
use Rattle.rb_tags.specs.Names.{AreDifferent}

-- its name, the place of its element, its links and its joints in file order
pub record Robot : Type 0 where
  pub name : List ℕ
  pub place : ℕ
  pub links : List UrdfLink
  pub joints : List UrdfJoint

-- names are given, and no two are the same
pub record AreNames (names : List (List ℕ)) : Type 0 where
  pub given : AllByRecursion (λ name. name ≢ []) names
  pub differ : AreDifferent names

abbrev pub names_of_links : List UrdfLink → List (List ℕ)
names_of_links links = map (λ link. link.name) links

abbrev pub names_of_joints : List UrdfJoint → List (List ℕ)
names_of_joints joints = map (λ joint. joint.name) joints

-- no number of the mass is negative
abbrev pub IsLinkKept : UrdfLink → Type 0
IsLinkKept link = pos 0 ≤ℤ link.mass.lo

-- a joint that may be followed: revolute or prismatic, and it follows none
pub record IsMaster (joint : UrdfJoint) : Type 0 where
  pub moves : (joint.kind ≡ Revolute) ⊎ (joint.kind ≡ Prismatic)
  pub leads : joint.mimic ≡ None

-- the joint of this number may be followed
pub record HasMaster (joints : List UrdfJoint) (number : ℕ) : Type 0 where
  pub joint : UrdfJoint
  pub is : slice_get joints number ≡ Some joint
  pub master : IsMaster joint

abbrev pub FollowsWell : List UrdfJoint → UrdfKind → Option UrdfMimic → Type 0
FollowsWell joints kind None = Unit {0}
FollowsWell joints kind (Some mimic) = ((kind ≡ Revolute) ⊎ (kind ≡ Prismatic)) × HasMaster joints mimic.master

-- 0 0 1
abbrev pub plane_axis : List Interval
plane_axis = interval (pos 0) (pos 0) ∷ interval (pos 0) (pos 0) ∷ interval (pos grid) (pos grid) ∷ []

-- a joint stands between links that are there, a planar one moves in the plane across 0 0 1, and a mimic follows a joint that leads
pub record IsJointKept (links : List UrdfLink) (joints : List UrdfJoint) (joint : UrdfJoint) : Type 0 where
  pub parent : joint.parent < length links
  pub child : joint.child < length links
  pub planar : joint.kind ≡ Planar → joint.axis ≡ plane_axis
  pub follows : FollowsWell joints joint.kind joint.mimic

-- what each robot keeps
pub record IsRobot (links : List UrdfLink) (joints : List UrdfJoint) : Type 0 where
  pub few_links : length links ≤ MAX_TAGS
  pub few_joints : length joints ≤ MAX_TAGS
  pub link_names : AreNames (names_of_links links)
  pub joint_names : AreNames (names_of_joints joints)
  pub masses : AllByRecursion IsLinkKept links
  pub fits : AllByRecursion (IsJointKept links joints) joints
