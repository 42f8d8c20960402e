-- Which links are children, and the links that are none: the roots.
use Rattle.std.specs.Prelude.{◌≡◌, ◌≢◌, ◌⊎◌, ◌<◌, ◌≤◌, ℕ, List, length, take, Some, slice_get}
use Rattle.std.specs.List.{AllPairs, Any}
use Rattle.rb_urdf.specs.declared.robot.UrdfJoint.{UrdfJoint}
use Rattle.rb_urdf.specs.Robot.{Robot}
use Rattle.rb_tree.specs.declared.faults.TreeFault.{TreeFault}
use Rattle.rb_tree.specs.declared.faults.TreeKind.TheVariants.{NoRoot, TwoRoots}
use Rattle.rb_tree.specs.Faults.{IsOfKind, IsLinkPlace}

-- a link is a child where it is the child of some joint
abbrev pub IsChild : List UrdfJoint → ℕ → Type 0
IsChild joints link = Any (λ joint. joint.child ≡ link) joints

-- no link is the child of two joints
abbrev pub HaveOneParent : List UrdfJoint → Type 0
HaveOneParent joints = AllPairs (λ a b. a.child ≢ b.child) joints

-- the first joint whose child is the child of an earlier joint
pub record HasTwoParents (joints : List UrdfJoint) (at : ℕ) : Type 0 where
  pub number : ℕ
  pub joint : UrdfJoint
  pub is : slice_get joints number ≡ Some joint
  pub place : at ≡ joint.place
  pub twice : IsChild (take number joints) joint.child
  pub first : HaveOneParent (take number joints)

-- each link is a child
abbrev pub HasNoRoot : Robot → Type 0
HasNoRoot robot = (link : ℕ) → link < length robot.links → IsChild robot.joints link

-- one link of the first ones, as many as `number`, is no child
pub record HasRootBelow (joints : List UrdfJoint) (number root : ℕ) : Type 0 where
  pub within : root < number
  pub no_child : IsChild joints root → ⊥
  pub only : (link : ℕ) → link < number → link ≢ root → IsChild joints link

-- the second link that is no child
pub record HasTwoRoots (robot : Robot) (at : ℕ) : Type 0 where
  pub number : ℕ
  pub is : IsLinkPlace robot.links number at
  pub no_child : IsChild robot.joints number → ⊥
  pub first : ℕ
  pub second : HasRootBelow robot.joints number first

-- the first link from a number on that is no child
pub record IsRootFrom (joints : List UrdfJoint) (from links root : ℕ) : Type 0 where
  pub behind : from ≤ root
  pub within : root < links
  pub no_child : IsChild joints root → ⊥
  pub before : (link : ℕ) → from ≤ link → link < root → IsChild joints link

-- the fault of the root
abbrev pub HasRootFault : Robot → TreeFault → Type 0
HasRootFault robot fault = IsOfKind NoRoot fault (HasNoRoot robot × (fault.at ≡ robot.place)) ⊎ IsOfKind TwoRoots fault (HasTwoRoots robot fault.at)
