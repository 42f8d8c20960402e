-- What contracts see of a robot, and what each robot keeps.
use Rattle.std.specs.Prelude.{◌≡◌, ◌≢◌, ◌⊎◌, ℕ, ◌<◌, ◌≤◌, List, length, None, Some, Ok}
use Rattle.std.specs.List.{AllByRecursion}
use Rattle.std.specs.List.Sorted.{IsStrictlyIncreasing}
use Rattle.rb_num.specs.Interval.{zero_interval}
use Rattle.rb_spatial.specs.Vectors.{vector_of}
use Rattle.rb_trig.specs.Axis.{MakesUnit}
use Rattle.rb_flat.specs.Joint as Kinds
use Rattle.rb_flat.specs.Choice.{MimicBrackets, IsOrdered, LinkOrdered, JointOrdered, MimicOrdered}
use Rattle.rb_joint.specs.Any.{kind_of}
use Rattle.rb_tags.specs.declared.tag.TheConstants.{MAX_TAGS}
use Rattle.rb_urdf.specs.Numbers.{zeros}
use Rattle.rb_body.specs.declared.raw.JointRaw.{JointRaw}
use Rattle.rb_body.specs.Raw.{HasAxis, link_brackets, joint_brackets}
use Rattle.rb_body.specs.Inertia.{inertia_by}
use Rattle.rb_body.specs.Joint.{joint_by}
use Rattle.rb_tree.specs.declared.robot.Body.{Body}
use Rattle.rb_tree.specs.declared.robot.Mimic.{Mimic}
use Rattle.rb_tree.specs.declared.columns.Start.{Start}
use Rattle.rb_tree.specs.declared.groups.BodyGroup.{BodyGroup}
use Rattle.rb_tree.specs.declared.states.Entry.{Entry}
use Rattle.rb_tree.specs.declared.states.NamedState.{NamedState}
use Rattle.rb_tree.specs.declared.sizes.TheConstants.{MAX_LINKS, MAX_COLUMNS}
use Rattle.rb_tree.specs.Names.{ShareName}
use Rattle.rb_tree.specs.Columns.{body_at, parent_at, leader_at, full_count, column_count, entry_count, owners_from, AreUps, AreStarts}

-- its name, its bodies from body 1 on, and its groups and states in file order
pub record Tree : Type 0 where
  pub name : List ℕ
  pub bodies : List Body
  pub groups : List BodyGroup
  pub states : List NamedState

-- there is a body of this number
pub record HasBody (tree : Tree) (i : ℕ) : Type 0 where
  pub from : 1 ≤ i
  pub to : i ≤ length tree.bodies

-- there is a column of this number
pub record HasColumn (tree : Tree) (c : ℕ) : Type 0 where
  pub from : 1 ≤ c
  pub to : c ≤ column_count tree.bodies

-- ---- constants
-- the factor makes the axis one unit long; a joint without an axis has both zero
pub record IsAxisKept (raw : JointRaw) : Type 0 where
  pub unit : HasAxis raw.kind → MakesUnit (vector_of raw.axis).x (vector_of raw.axis).y (vector_of raw.axis).z raw.factor
  pub zero : ¬ HasAxis raw.kind → (raw.axis ≡ zeros) × (raw.factor ≡ zero_interval)

-- the inertia and the joint are those that the body's brackets give, and the ends of these are in order
pub record IsBodyKept (body : Body) : Type 0 where
  pub inertia : inertia_by (link_brackets body.link_raw) ≡ Ok body.inertia
  pub joint : joint_by body.joint_raw.kind body.joint_raw.xyz body.joint_raw.rpy body.joint_raw.axis ≡ Ok (body.joint, body.joint_raw)
  pub axis : IsAxisKept body.joint_raw
  pub link_ordered : LinkOrdered (link_brackets body.link_raw)
  pub joint_ordered : JointOrdered (joint_brackets body.joint_raw)

-- ---- names
-- no other body has a link of this name
abbrev pub IsOnlyLink : List Body → ℕ → List ℕ → Type 0
IsOnlyLink bodies i name = (j : ℕ) (body : Body) → j ≢ i → body_at bodies j ≡ Some body → body.link_name ≢ name

-- the name of the joint is no other joint's: a root's may be, where it is fixed
abbrev pub HasOwnJointName : ℕ → Body → Type 0
HasOwnJointName i body = (1 < i) ⊎ (kind_of body.joint ≢ Kinds.Fixed)

-- no other body has a joint of this name, but for a fixed root
abbrev pub IsOnlyJoint : List Body → ℕ → List ℕ → Type 0
IsOnlyJoint bodies i name = (j : ℕ) (body : Body) → j ≢ i → body_at bodies j ≡ Some body → HasOwnJointName j body → body.joint_name ≢ name

-- no two bodies have a name of entries in common, or of columns; a joint that follows another has none of its own
abbrev pub HaveOwnNames : List Body → Type 0
HaveOwnNames bodies = (i j : ℕ) (a b : Body) → i ≢ j → body_at bodies i ≡ Some a → body_at bodies j ≡ Some b → a.mimic ≡ None → b.mimic ≡ None →
    ShareName (kind_of a.joint) a.joint_name (kind_of b.joint) b.joint_name → ⊥

-- ---- joints that follow others
-- the brackets of a joint that follows another
abbrev pub mimic_brackets : Mimic → MimicBrackets
mimic_brackets mimic = record { multiplier = mimic.multiplier; offset = mimic.offset }

-- both have one entry, and the other is the joint of a body that follows none; the ends of the brackets are in order
pub record FollowsMaster (bodies : List Body) (body : Body) (mimic : Mimic) : Type 0 where
  pub master : Body
  pub is : body_at bodies mimic.master ≡ Some master
  pub leads : master.mimic ≡ None
  pub entry : Kinds.entry_count (kind_of body.joint) ≡ 1
  pub master_entry : Kinds.entry_count (kind_of master.joint) ≡ 1
  pub ordered : MimicOrdered (mimic_brackets mimic)

-- ---- robots
-- what the bodies of each robot keep: the parent of a body has a smaller number, and the body that it moves by is there
pub record AreBodies (bodies : List Body) : Type 0 where
  pub some : 1 ≤ length bodies
  pub few : length bodies ≤ MAX_LINKS
  pub few_columns : column_count bodies ≤ MAX_COLUMNS
  pub few_full : full_count bodies ≤ MAX_COLUMNS
  pub columns_within : column_count bodies ≤ full_count bodies
  pub parents : (i : ℕ) → 1 ≤ i → parent_at bodies i < i
  pub leads_from : (i : ℕ) → 1 ≤ i → 1 ≤ leader_at bodies i
  pub leads_to : (i : ℕ) → i ≤ length bodies → leader_at bodies i ≤ length bodies
  pub follows : (i : ℕ) (body : Body) (mimic : Mimic) → body_at bodies i ≡ Some body → body.mimic ≡ Some mimic → FollowsMaster bodies body mimic
  pub links : (i : ℕ) (body : Body) → body_at bodies i ≡ Some body → IsOnlyLink bodies i body.link_name
  pub joints : (i : ℕ) (body : Body) → body_at bodies i ≡ Some body → HasOwnJointName i body → IsOnlyJoint bodies i body.joint_name
  pub names : HaveOwnNames bodies
  pub kept : AllByRecursion IsBodyKept bodies

-- the bodies of a group are there, in ascending order
pub record IsGroupKept (bodies : List Body) (group : BodyGroup) : Type 0 where
  pub there : AllByRecursion (λ i. (1 ≤ i) × (i ≤ length bodies)) group.bodies
  pub ascending : IsStrictlyIncreasing group.bodies

-- an entry of a state is there, and the ends of its bracket are in order
pub record IsEntryKept (bodies : List Body) (entry : Entry) : Type 0 where
  pub there : entry.place < entry_count bodies
  pub ordered : IsOrdered entry.value

abbrev pub IsStateKept : List Body → NamedState → Type 0
IsStateKept bodies state = AllByRecursion (IsEntryKept bodies) state.entries

-- the bodies, where their columns begin, the bodies of the columns, and the columns upward; groups and states
pub record IsRobot (tree : Tree) (starts : List Start) (owners ups : List ℕ) : Type 0 where
  pub bodies_kept : AreBodies tree.bodies
  pub groups_kept : AllByRecursion (IsGroupKept tree.bodies) tree.groups
  pub few_groups : length tree.groups ≤ MAX_TAGS
  pub states_kept : AllByRecursion (IsStateKept tree.bodies) tree.states
  pub starts_are : AreStarts tree.bodies starts
  pub owners_are : owners ≡ owners_from 1 tree.bodies
  pub ups_are : AreUps tree.bodies ups
