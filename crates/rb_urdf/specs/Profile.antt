-- Which robot a list of tags describes, in the words of the format.
use Rattle.std.specs.Prelude.{◌≡◌, ◌≢◌, ℕ, List, [], ◌∷◌, ◌++◌, slice_get, codes, pos, ◌≤ℤ◌, Option, None, Some, Ok}
use Rattle.std.specs.List.{AllByRecursion, AllZip}
use Rattle.rb_num.specs.Interval.{Interval, zero_interval, one_interval}
use Rattle.rb_text.specs.Bracket.{bracket_of}
use Rattle.rb_tags.specs.declared.tag.Tag.{Tag}
use Rattle.rb_urdf.specs.declared.robot.UrdfKind.{UrdfKind}
use Rattle.rb_urdf.specs.declared.robot.UrdfKind.TheVariants.{Fixed, Revolute, Prismatic, Continuous, Planar, Floating}
use Rattle.rb_urdf.specs.declared.robot.UrdfLink.{UrdfLink}
use Rattle.rb_urdf.specs.declared.robot.UrdfMimic.{UrdfMimic}
use Rattle.rb_urdf.specs.declared.robot.UrdfJoint.{UrdfJoint}
use Rattle.rb_urdf.specs.Robot.{Robot, plane_axis, FollowsWell, names_of_links, names_of_joints}
use Rattle.rb_tags.specs.Elements.{Element, element_of, elements, child, child_in, attribute, attribute_in}
use Rattle.rb_urdf.specs.Numbers.{zeros, first_axis}
use Rattle.rb_text.specs.Three.{IsThree}
use Rattle.rb_tags.specs.Names.{AreDifferent}

-- the value that a text says, or the default where there is none
abbrev pub SaidOr : {A : Type 0} → A → (List ℕ → A → Type 0) → Option (List ℕ) → A → Type 0
SaidOr default Says None v = v ≡ default
SaidOr default Says (Some text) v = Says text v

abbrev pub IsNumber : List ℕ → Interval → Type 0
IsNumber text v = bracket_of text ≡ Ok v

-- the number of an attribute of an element, where either may be missing
abbrev pub SaysNumber : Interval → List ℕ → Option Element → Interval → Type 0
SaysNumber default key element v = SaidOr default IsNumber (attribute_in key element) v

abbrev pub SaysThree : List Interval → List ℕ → Option Element → List Interval → Type 0
SaysThree default key element v = SaidOr default IsThree (attribute_in key element) v

-- what the element `origin` says
pub record SaysOrigin (origin : Option Element) (xyz rpy : List Interval) : Type 0 where
  pub place : SaysThree zeros (codes "xyz") origin xyz
  pub turn : SaysThree zeros (codes "rpy") origin rpy

-- what the element `inertia` says
pub record SaysSix (inertia : Option Element) (six : List Interval) : Type 0 where
  pub ixx : Interval
  pub ixy : Interval
  pub ixz : Interval
  pub iyy : Interval
  pub iyz : Interval
  pub izz : Interval
  pub ixx_is : SaysNumber zero_interval (codes "ixx") inertia ixx
  pub ixy_is : SaysNumber zero_interval (codes "ixy") inertia ixy
  pub ixz_is : SaysNumber zero_interval (codes "ixz") inertia ixz
  pub iyy_is : SaysNumber zero_interval (codes "iyy") inertia iyy
  pub iyz_is : SaysNumber zero_interval (codes "iyz") inertia iyz
  pub izz_is : SaysNumber zero_interval (codes "izz") inertia izz
  pub are : six ≡ ixx ∷ ixy ∷ ixz ∷ iyy ∷ iyz ∷ izz ∷ []

-- what the element `inertial` says of a link
pub record IsInertial (inertial : Option Element) (link : UrdfLink) : Type 0 where
  pub origin : SaysOrigin (child_in (codes "origin") inertial) link.«com» link.rpy
  pub mass : SaysNumber zero_interval (codes "value") (child_in (codes "mass") inertial) link.mass
  pub not_negative : pos 0 ≤ℤ link.mass.lo
  pub six : SaysSix (child_in (codes "inertia") inertial) link.six

-- the element has this name, which is given
pub record HasName (element : Element) (name : List ℕ) : Type 0 where
  pub says : attribute (codes "name") element ≡ Some name
  pub given : name ≢ []

pub record IsLink (element : Element) (link : UrdfLink) : Type 0 where
  pub name : HasName element link.name
  pub place : link.place ≡ element.tag.place
  pub inertial : IsInertial (child (codes "inertial") element) link

-- the element names the link of this number
pub record NamesLink (links : List UrdfLink) (element : Option Element) (number : ℕ) : Type 0 where
  pub name : List ℕ
  pub says : attribute_in (codes "link") element ≡ Some name
  pub link : slice_get (names_of_links links) number ≡ Some name

abbrev pub type_name : UrdfKind → List ℕ
type_name Fixed = codes "fixed"
type_name Revolute = codes "revolute"
type_name Prismatic = codes "prismatic"
type_name Continuous = codes "continuous"
type_name Planar = codes "planar"
type_name Floating = codes "floating"

-- the numbers of the `axis` of a joint of a type: a fixed or floating one reads none
abbrev pub SaysAxisNumbers : UrdfKind → Option Element → List Interval → Type 0
SaysAxisNumbers Fixed axis v = v ≡ zeros
SaysAxisNumbers Floating axis v = v ≡ zeros
SaysAxisNumbers Planar axis v = SaysThree plane_axis (codes "xyz") axis v
SaysAxisNumbers Revolute axis v = SaysThree first_axis (codes "xyz") axis v
SaysAxisNumbers Prismatic axis v = SaysThree first_axis (codes "xyz") axis v
SaysAxisNumbers Continuous axis v = SaysThree first_axis (codes "xyz") axis v

-- the axis that the element `axis` says of a joint of a type: none where it is fixed or floating, and 0 0 1 where it is planar
abbrev pub SaysAxis : UrdfKind → Option Element → List Interval → Type 0
SaysAxis Planar axis v = SaysAxisNumbers Planar axis v × (v ≡ plane_axis)
SaysAxis type axis v = SaysAxisNumbers type axis v

-- what an element `mimic` says: the joint of its number has the name that it says
pub record IsMimic (joints : List UrdfJoint) (element : Element) (mimic : UrdfMimic) : Type 0 where
  pub name : List ℕ
  pub says : attribute (codes "joint") element ≡ Some name
  pub joint : slice_get (names_of_joints joints) mimic.master ≡ Some name
  pub multiplier : SaysNumber one_interval (codes "multiplier") (Some element) mimic.multiplier
  pub offset : SaysNumber zero_interval (codes "offset") (Some element) mimic.offset

-- a joint has a mimic where the element is there
abbrev pub SaysMimic : List UrdfJoint → Option Element → Option UrdfMimic → Type 0
SaysMimic joints None None = Unit {0}
SaysMimic joints None (Some mimic) = ⊥
SaysMimic joints (Some element) None = ⊥
SaysMimic joints (Some element) (Some mimic) = IsMimic joints element mimic

-- the kind of a joint of a type: a continuous one that follows another is taken as revolute
abbrev pub kind_of_type : UrdfKind → Option UrdfMimic → UrdfKind
kind_of_type Continuous (Some mimic) = Revolute
kind_of_type type mimic = type

pub record IsJoint (links : List UrdfLink) (joints : List UrdfJoint) (element : Element) (joint : UrdfJoint) : Type 0 where
  pub name : HasName element joint.name
  pub place : joint.place ≡ element.tag.place
  pub type : UrdfKind
  pub type_is : attribute (codes "type") element ≡ Some (type_name type)
  pub kind : joint.kind ≡ kind_of_type type joint.mimic
  pub parent : NamesLink links (child (codes "parent") element) joint.parent
  pub child_link : NamesLink links (child (codes "child") element) joint.child
  pub origin : SaysOrigin (child (codes "origin") element) joint.xyz joint.rpy
  pub axis : SaysAxis type (child (codes "axis") element) joint.axis
  pub mimic : SaysMimic joints (child (codes "mimic") element) joint.mimic
  pub follows : FollowsWell joints joint.kind joint.mimic

-- the name of the tag begins with xacro:
abbrev pub IsXacro : Tag → Type 0
IsXacro tag = (rest : List ℕ) × (tag.name ≡ codes "xacro:" ++ rest)

-- the outermost element is a robot, and the elements `link` and `joint` directly inside it are its links and joints one by one
pub record IsUrdf (tags : List Tag) (robot : Robot) : Type 0 where
  pub root : Tag
  pub behind : List Tag
  pub tags_are : tags ≡ root ∷ behind
  pub root_name : root.name ≡ codes "robot"
  pub plain : AllByRecursion (λ tag. ¬ IsXacro tag) tags
  pub name : HasName (element_of root behind) robot.name
  pub place : robot.place ≡ root.place
  pub links : AllZip IsLink (elements (codes "link") 1 behind) robot.links
  pub link_names_differ : AreDifferent (names_of_links robot.links)
  pub joints : AllZip (IsJoint robot.links robot.joints) (elements (codes "joint") 1 behind) robot.joints
  pub joint_names_differ : AreDifferent (names_of_joints robot.joints)
