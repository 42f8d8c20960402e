-- What may be wrong with tags, in the words of the format, and the order in which it is told.
use Rattle.std.specs.Prelude.{◌≡◌, ◌≢◌, ◌⊎◌, ℕ, List, [], ◌∷◌, ◌++◌, map, slice_get, codes, pos, ◌<ℤ◌, Option, None, Some}
use Rattle.std.specs.List.{AllByRecursion}
use Rattle.rb_num.specs.Interval.{Interval, zero_interval, one_interval}
use Rattle.rb_tags.specs.declared.tag.Tag.{Tag}
use Rattle.rb_tags.specs.InOrder.{SaysNone, Refusal, ◌when◌, IsFirst, at_place, in_turn}
use Rattle.rb_urdf.specs.declared.robot.UrdfKind.{UrdfKind}
use Rattle.rb_urdf.specs.declared.robot.UrdfKind.TheVariants.{Fixed, Revolute, Prismatic, Planar, Floating}
use Rattle.rb_urdf.specs.declared.faults.UrdfFault.{UrdfFault}
use Rattle.rb_urdf.specs.declared.faults.UrdfFaultKind.{UrdfFaultKind}
use Rattle.rb_urdf.specs.declared.faults.UrdfFaultKind.TheVariants as kind
use Rattle.rb_urdf.specs.Faults.{fault_at}
use Rattle.rb_urdf.specs.Robot.{plane_axis}
use Rattle.rb_tags.specs.Elements.{Element, element_of, elements, child, child_in, attribute, attribute_in}
use Rattle.rb_urdf.specs.Numbers.{zeros}
use Rattle.rb_urdf.specs.Profile.{SaysNumber, SaysThree, SaysSix, SaysAxisNumbers, HasName, type_name, IsXacro}

-- ---- what may be wrong

-- an element has no name, or an empty one
abbrev pub LacksName : Element → Type 0
LacksName element = SaysNone (HasName element)

-- an element has the name of one before it
pub record HasNameAgain (before : List Element) (element : Element) : Type 0 where
  pub name : List ℕ
  pub says : HasName element name
  pub number : ℕ
  pub earlier : Element
  pub is : slice_get before number ≡ Some earlier
  pub same : HasName earlier name

-- an `origin` has a text that is not three brackets
abbrev pub HasBadOrigin : Option Element → Type 0
HasBadOrigin origin = SaysNone (SaysThree zeros (codes "xyz") origin) ⊎ SaysNone (SaysThree zeros (codes "rpy") origin)

-- a link has a text that is no number
abbrev pub LinkHasBadNumber : Element → Type 0
LinkHasBadNumber link =
    HasBadOrigin (child_in (codes "origin") (child (codes "inertial") link))
    ⊎ (SaysNone (SaysNumber zero_interval (codes "value") (child_in (codes "mass") (child (codes "inertial") link)))
    ⊎ SaysNone (SaysSix (child_in (codes "inertia") (child (codes "inertial") link))))

-- the lower end of a link's mass is below 0
pub record HasNegativeMass (link : Element) : Type 0 where
  pub mass : Interval
  pub says : SaysNumber zero_interval (codes "value") (child_in (codes "mass") (child (codes "inertial") link)) mass
  pub negative : mass.lo <ℤ pos 0

-- a joint is of this type
abbrev pub HasType : Element → UrdfKind → Type 0
HasType joint type = attribute (codes "type") joint ≡ Some (type_name type)

-- a joint has no `parent` or no `child` with a `link`
abbrev pub LacksEnd : List ℕ → Element → Type 0
LacksEnd end joint = attribute_in (codes "link") (child end joint) ≡ None

-- none of these elements has the name
abbrev pub NoneHasName : List Element → List ℕ → Type 0
NoneHasName elements name = AllByRecursion (λ element. ¬ HasName element name) elements

-- the `parent` or the `child` of a joint names none of these links
pub record HasUnknownEnd (links : List Element) (end : List ℕ) (joint : Element) : Type 0 where
  pub name : List ℕ
  pub says : attribute_in (codes "link") (child end joint) ≡ Some name
  pub unknown : NoneHasName links name

pub record HasBadAxis (joint : Element) : Type 0 where
  pub type : UrdfKind
  pub type_is : HasType joint type
  pub bad : SaysNone (SaysAxisNumbers type (child (codes "axis") joint))

pub record HasBadMimic (joint : Element) : Type 0 where
  pub mimic : Element
  pub is : child (codes "mimic") joint ≡ Some mimic
  pub bad : SaysNone (SaysNumber one_interval (codes "multiplier") (Some mimic)) ⊎ SaysNone (SaysNumber zero_interval (codes "offset") (Some mimic))

-- a joint has a text that is no number
abbrev pub JointHasBadNumber : Element → Type 0
JointHasBadNumber joint = HasBadOrigin (child (codes "origin") joint) ⊎ (HasBadAxis joint ⊎ HasBadMimic joint)

-- a planar joint has another axis than 0 0 1
pub record HasOtherAxis (joint : Element) : Type 0 where
  pub type_is : HasType joint Planar
  pub axis : List Interval
  pub says : SaysThree plane_axis (codes "xyz") (child (codes "axis") joint) axis
  pub other : axis ≢ plane_axis

-- the mimic of a joint names none of these joints
pub record FollowsNone (joints : List Element) (joint : Element) : Type 0 where
  pub mimic : Element
  pub is : child (codes "mimic") joint ≡ Some mimic
  pub unknown : (name : List ℕ) → attribute (codes "joint") mimic ≡ Some name → NoneHasName joints name

-- the mimic of a joint names this one of these joints
pub record Follows (joints : List Element) (joint master : Element) : Type 0 where
  pub mimic : Element
  pub is : child (codes "mimic") joint ≡ Some mimic
  pub name : List ℕ
  pub says : attribute (codes "joint") mimic ≡ Some name
  pub number : ℕ
  pub among : slice_get joints number ≡ Some master
  pub named : HasName master name

-- a joint follows one that follows another
pub record FollowsFollower (joints : List Element) (joint : Element) : Type 0 where
  pub master : Element
  pub follows : Follows joints joint master
  pub mimic : Element
  pub is : child (codes "mimic") master ≡ Some mimic

-- a joint follows one that is neither revolute nor prismatic, or it is fixed, planar or floating itself
pub record FollowsUnfit (joints : List Element) (joint : Element) : Type 0 where
  pub master : Element
  pub follows : Follows joints joint master
  pub master_type : UrdfKind
  pub type : UrdfKind
  pub master_type_is : HasType master master_type
  pub type_is : HasType joint type
  pub unfit : ((master_type ≢ Revolute) × (master_type ≢ Prismatic)) ⊎ ((type ≡ Fixed) ⊎ ((type ≡ Planar) ⊎ (type ≡ Floating)))

-- ---- the order in which it is told

-- the refusals of a link behind these
abbrev pub link_refusals : List Element → Element → List (Refusal UrdfFaultKind)
link_refusals before link =
    kind.NoName when LacksName link
    ∷ kind.NameTwice when HasNameAgain before link
    ∷ kind.BadNumber when LinkHasBadNumber link
    ∷ kind.NegativeMass when HasNegativeMass link
    ∷ []

-- the refusals of a joint behind these, in a robot with these links
abbrev pub joint_refusals : List Element → List Element → Element → List (Refusal UrdfFaultKind)
joint_refusals links before joint =
    kind.NoName when LacksName joint
    ∷ kind.NameTwice when HasNameAgain before joint
    ∷ kind.BadType when SaysNone (HasType joint)
    ∷ kind.NoParent when LacksEnd (codes "parent") joint
    ∷ kind.NoChild when LacksEnd (codes "child") joint
    ∷ kind.UnknownLink when (HasUnknownEnd links (codes "parent") joint ⊎ HasUnknownEnd links (codes "child") joint)
    ∷ kind.BadNumber when JointHasBadNumber joint
    ∷ kind.PlanarAxis when HasOtherAxis joint
    ∷ []

-- the refusals of one of these joints as one that follows another
abbrev pub mimic_refusals : List Element → Element → List (Refusal UrdfFaultKind)
mimic_refusals joints joint =
    kind.MimicUnknown when FollowsNone joints joint
    ∷ kind.MimicChain when FollowsFollower joints joint
    ∷ kind.MimicMaster when FollowsUnfit joints joint
    ∷ []

-- the refusals of these elements in file order, behind those before
abbrev pub in_order : (List Element → Element → List (Refusal UrdfFaultKind)) → List Element → List Element → List (Refusal UrdfFault)
in_order refusals before elements = in_turn (λ before element. at_place fault_at element.tag.place (refusals before element)) before elements

-- of all links, then of all joints, then of all joints as those that follow others
abbrev pub part_refusals : List Element → List Element → List (Refusal UrdfFault)
part_refusals links joints =
    in_order link_refusals [] links
    ++ (in_order (joint_refusals links) [] joints
    ++ in_order (λ before joint. mimic_refusals joints joint) [] joints)

abbrev pub xacro_refusals : List Tag → List (Refusal UrdfFault)
xacro_refusals tags = map (λ tag. fault_at kind.Xacro tag.place when IsXacro tag) tags

-- all refusals of tags in their order
abbrev pub refusals : List Tag → List (Refusal UrdfFault)
refusals [] = fault_at kind.NoRobot 0 when Unit {0} ∷ []
refusals (root ∷ behind) =
    fault_at kind.NoRobot root.place when (root.name ≢ codes "robot")
    ∷ (xacro_refusals (root ∷ behind)
    ++ (fault_at kind.NoName root.place when LacksName (element_of root behind)
    ∷ part_refusals (elements (codes "link") 1 behind) (elements (codes "joint") 1 behind)))

-- the fault of the first of all refusals whose condition holds
abbrev pub HasFault : List Tag → UrdfFault → Type 0
HasFault tags fault = IsFirst (refusals tags) fault
