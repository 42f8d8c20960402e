-- Why a robot is not built: the refusals in the order in which they are looked for, each with its file, its kind and its place.
use Rattle.std.specs.Prelude.{◌≡◌, ◌≢◌, ℕ, List, [], ◌∷◌, ◌++◌, take, Option, None, Some, Err, slice_get}
use Rattle.std.specs.List.{AllByRecursion}
use Rattle.rb_tags.specs.declared.root.RootKind.{RootKind}
use Rattle.rb_urdf.specs.declared.robot.UrdfLink.{UrdfLink}
use Rattle.rb_urdf.specs.declared.robot.UrdfJoint.{UrdfJoint}
use Rattle.rb_urdf.specs.Robot.{Robot, names_of_links}
use Rattle.rb_srdf.specs.declared.srdf.Virtual.{Virtual}
use Rattle.rb_srdf.specs.Srdf.{Semantics}
use Rattle.rb_tree.specs.declared.faults.TreeFault.{TreeFault}
use Rattle.rb_tree.specs.declared.faults.TreeKind.TheVariants as Kind
use Rattle.rb_tree.specs.declared.faults.WhichFile.TheVariants.{Srdf}
use Rattle.rb_tree.specs.declared.order.Stem.{Stem}
use Rattle.rb_tree.specs.declared.robot.Body.{Body}
use Rattle.rb_tree.specs.declared.sizes.TheConstants.{MAX_LINKS}
use Rattle.rb_tree.specs.Faults.{IsIn, IsOfKind, IsLinkPlace}
use Rattle.rb_tree.specs.Sizes.{IsNamedAsRoot}
use Rattle.rb_tree.specs.Roots.{HasTwoParents, HasNoRoot, HasTwoRoots}
use Rattle.rb_tree.specs.Order.{IsOrder, HasCycle, HasNameTwice, HasTooManyColumns}
use Rattle.rb_tree.specs.Parts.{IsRefusedAt}
use Rattle.rb_tree.specs.Groups.{HasGroupFault}
use Rattle.rb_tree.specs.States.{states_made}
use Rattle.rb_tree.specs.Build.{Source, groups_in, states_in, virtuals_in, root_joint_of, IsPair, IsBody, AreBuilt, BearsLink}

-- ---- groups, states and virtual joints of another robot
abbrev pub IsOtherRobot : Robot → Option Semantics → ℕ → Type 0
IsOtherRobot robot None at = ⊥
IsOtherRobot robot (Some srdf) at = (srdf.name ≢ robot.name) × (at ≡ srdf.place)

-- the first virtual joint that bears none of the links of these names
pub record BearsNoLink (names : List (List ℕ)) (virtuals : List Virtual) (at : ℕ) : Type 0 where
  pub before : List Virtual
  pub virtual : Virtual
  pub after : List Virtual
  pub are : virtuals ≡ before ++ virtual ∷ after
  pub place : at ≡ virtual.place
  pub none : BearsLink names virtual → ⊥
  pub first : AllByRecursion (BearsLink names) before

-- ---- constants
pub record IsRefused (robot : Robot) (root : UrdfJoint) (stem : Stem) (fault : TreeFault) : Type 0 where
  pub link : UrdfLink
  pub joint : UrdfJoint
  pub pair : IsPair robot root stem link joint
  pub refused : IsRefusedAt link joint fault

-- a body has constants
abbrev pub HasConstants : Robot → UrdfJoint → List Stem → Stem → Type 0
HasConstants robot root order stem = (body : Body) × IsBody robot root order stem body

-- the first body in order whose constants are refused
pub record HasConstantFault (robot : Robot) (root : UrdfJoint) (fault : TreeFault) : Type 0 where
  pub order : List Stem
  pub ordered : IsOrder robot order
  pub number : ℕ
  pub stem : Stem
  pub is : slice_get order number ≡ Some stem
  pub before : AllByRecursion (HasConstants robot root order) (take number order)
  pub refused : IsRefused robot root stem fault

-- ---- groups and states over the bodies
pub record HasBadGroup (source : Source) (fault : TreeFault) : Type 0 where
  pub bodies : List Body
  pub built : AreBuilt source.urdf (root_joint_of source) bodies
  pub refused : HasGroupFault bodies (virtuals_in source.srdf) (groups_in source.srdf) fault

pub record HasBadState (source : Source) (fault : TreeFault) : Type 0 where
  pub bodies : List Body
  pub built : AreBuilt source.urdf (root_joint_of source) bodies
  pub refused : states_made bodies (virtuals_in source.srdf) (states_in source.srdf) ≡ Err fault

-- ---- the order
pub data Step : Type 0 where
  other_robot virtual_child many_links two_parents no_root two_roots cycle root_name name_twice many_columns constants groups states : Step

-- the steps in which the robot's name and the virtual joints are looked at
abbrev pub semantics_steps : List Step
semantics_steps = other_robot ∷ virtual_child ∷ []

-- those in which the links and joints are put in order
abbrev pub order_steps : List Step
order_steps = many_links ∷ two_parents ∷ no_root ∷ two_roots ∷ cycle ∷ []

-- those in which names and columns are looked at
abbrev pub name_steps : List Step
name_steps = root_name ∷ name_twice ∷ many_columns ∷ []

-- those in which bodies, groups and states are made
abbrev pub made_steps : List Step
made_steps = constants ∷ groups ∷ states ∷ []

abbrev pub steps : List Step
steps = semantics_steps ++ order_steps ++ name_steps ++ made_steps

-- a step refuses with this fault
abbrev pub Refuses : Source → Step → TreeFault → Type 0
Refuses source other_robot fault = IsIn Srdf Kind.OtherRobot fault (IsOtherRobot source.urdf source.srdf fault.at)
Refuses source virtual_child fault = IsIn Srdf Kind.UnknownName fault (BearsNoLink (names_of_links source.urdf.links) (virtuals_in source.srdf) fault.at)
Refuses source many_links fault = IsOfKind Kind.TooManyLinks fault (IsLinkPlace source.urdf.links MAX_LINKS fault.at)
Refuses source two_parents fault = IsOfKind Kind.TwoParents fault (HasTwoParents source.urdf.joints fault.at)
Refuses source no_root fault = IsOfKind Kind.NoRoot fault (HasNoRoot source.urdf × (fault.at ≡ source.urdf.place))
Refuses source two_roots fault = IsOfKind Kind.TwoRoots fault (HasTwoRoots source.urdf fault.at)
Refuses source cycle fault = IsOfKind Kind.Cycle fault (HasCycle source.urdf fault.at)
Refuses source root_name fault = IsOfKind Kind.RootName fault (IsNamedAsRoot (root_joint_of source) source.urdf.joints fault.at)
Refuses source name_twice fault = IsOfKind Kind.NameTwice fault (HasNameTwice source.urdf (root_joint_of source) fault.at)
Refuses source many_columns fault = IsOfKind Kind.TooManyColumns fault (HasTooManyColumns source.urdf (root_joint_of source) fault.at)
Refuses source constants fault = HasConstantFault source.urdf (root_joint_of source) fault
Refuses source groups fault = HasBadGroup source fault
Refuses source states fault = HasBadState source fault

-- a step refuses nothing
abbrev pub Passes : Source → Step → Type 0
Passes source step = (fault : TreeFault) → Refuses source step fault → ⊥

-- the fault of the first of these steps that refuses
pub record IsFirstFault (source : Source) (order : List Step) (fault : TreeFault) : Type 0 where
  pub before : List Step
  pub step : Step
  pub after : List Step
  pub order_is : order ≡ before ++ step ∷ after
  pub passed : AllByRecursion (Passes source) before
  pub refused : Refuses source step fault

-- why a robot is not built
abbrev pub HasFault : Source → TreeFault → Type 0
HasFault source fault = IsFirstFault source steps fault

-- ---- while a robot is built
-- the fault of the robot's name and the virtual joints, whatever root is asked for
abbrev pub IsFirstSemanticsFault : Robot → Option Semantics → TreeFault → Type 0
IsFirstSemanticsFault robot srdf fault = (root : Option RootKind) → IsFirstFault (record { urdf = robot; srdf = srdf; root = root }) semantics_steps fault

-- the fault of the order, whatever the robot is built from besides
abbrev pub IsFirstOrderFault : Robot → TreeFault → Type 0
IsFirstOrderFault robot fault =
    (srdf : Option Semantics) (root : Option RootKind) → IsFirstFault (record { urdf = robot; srdf = srdf; root = root }) order_steps fault

-- the fault of names and columns, whatever the source is besides
abbrev pub IsFirstNameFault : Robot → UrdfJoint → TreeFault → Type 0
IsFirstNameFault robot root fault = (source : Source) → source.urdf ≡ robot → root_joint_of source ≡ root → IsFirstFault source name_steps fault
