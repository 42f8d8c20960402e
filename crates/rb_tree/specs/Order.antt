-- The order of the bodies of a robot, and the first thing that is wrong where it has none.
use Rattle.std.specs.Prelude.{◌≡◌, ◌≢◌, ◌<◌, ◌≤◌, ◌+◌, ℕ, zero, suc, List, [], ◌∷◌, length, None, Some, slice_get, slice_index_or}
use Rattle.std.specs.List.{Contains, sum_by}
use Rattle.rb_urdf.specs.declared.robot.UrdfJoint.{UrdfJoint}
use Rattle.rb_urdf.specs.Robot.{Robot}
use Rattle.rb_tree.specs.declared.order.Stem.{Stem}
use Rattle.rb_tree.specs.declared.sizes.TheConstants.{MAX_LINKS, MAX_COLUMNS}
use Rattle.rb_tree.specs.Faults.{IsLinkPlace}
use Rattle.rb_tree.specs.Sizes.{stem_columns, PassColumns, HasOwnRootName, HaveOwnNames, SharesName}
use Rattle.rb_tree.specs.Roots.{IsChild, HaveOneParent, HasRootBelow}

-- the joints lead, one behind the other, from one link to another
abbrev pub Leads : List UrdfJoint → ℕ → List UrdfJoint → ℕ → Type 0
Leads joints from [] to = from ≡ to
Leads joints from (joint ∷ way) to = Contains joints joint × (joint.parent ≡ from) × Leads joints joint.child way to

-- there is a way of joints from the root to the link
abbrev pub Reaches : List UrdfJoint → ℕ → ℕ → Type 0
Reaches joints root link = (way : List UrdfJoint) × Leads joints root way link

-- what stands for the world, and for a body that is not there
abbrev pub no_stem : Stem
no_stem = record { link = 0; joint = None; parent = 0 }

-- the body of this number: bodies are numbered from 1, and the world is 0
abbrev pub stem_of : List Stem → ℕ → Stem
stem_of stems zero = no_stem
stem_of stems (suc before) = slice_index_or stems before no_stem

-- the number of the body, or the world, that is so many steps nearer to the world
abbrev pub climbed : List Stem → ℕ → ℕ → ℕ
climbed stems zero number = number
climbed stems (suc steps) number = climbed stems steps (stem_of stems number).parent

-- a body is another one, or above it
abbrev pub IsAtOrAbove : List Stem → ℕ → ℕ → Type 0
IsAtOrAbove stems above number = (steps : ℕ) × (climbed stems steps number ≡ above)

-- the root is no joint's child, no joint bears it, and its parent is the world
pub record IsRoot (joints : List UrdfJoint) (root : Stem) : Type 0 where
  pub no_child : IsChild joints root.link → ⊥
  pub no_joint : root.joint ≡ None
  pub world : root.parent ≡ 0

-- a joint bears the body: its child is the body's link, and its parent is the link of the parent body
pub record IsBorne (joints : List UrdfJoint) (stem parent : Stem) : Type 0 where
  pub number : ℕ
  pub joint : UrdfJoint
  pub named : stem.joint ≡ Some number
  pub is : slice_get joints number ≡ Some joint
  pub child : joint.child ≡ stem.link
  pub parent_is : joint.parent ≡ parent.link

-- The bodies are the links, each once, and no link is the child of two joints. Body 1 is the root; each later body is borne by a joint, and
-- its parent is a body before it. Depth first: the parent of a body is the body before it, or one above that. Of two bodies with one parent
-- the earlier one's joint is earlier in the file.
pub record IsOrder (robot : Robot) (stems : List Stem) : Type 0 where
  pub some : 0 < length stems
  pub count : length stems ≡ length robot.links
  pub there : (number : ℕ) → 0 < number → number ≤ length stems → (stem_of stems number).link < length robot.links
  pub once : (a b : ℕ) → 0 < a → a < b → b ≤ length stems → (stem_of stems a).link ≢ (stem_of stems b).link
  pub one_parent : HaveOneParent robot.joints
  pub root : IsRoot robot.joints (stem_of stems 1)
  pub borne : (number : ℕ) → 1 < number → number ≤ length stems → IsBorne robot.joints (stem_of stems number) (stem_of stems (stem_of stems number).parent)
  pub parent_before : (number : ℕ) → 1 < number → number ≤ length stems → (0 < (stem_of stems number).parent) × ((stem_of stems number).parent < number)
  pub depth_first : (number : ℕ) → 0 < number → number < length stems → IsAtOrAbove stems (stem_of stems (number + 1)).parent number
  pub in_file_order : (a b first second : ℕ) → 1 < a → a < b → b ≤ length stems → (stem_of stems a).parent ≡ (stem_of stems b).parent →
      (stem_of stems a).joint ≡ Some first → (stem_of stems b).joint ≡ Some second → first < second

-- ---- what is asked besides
-- there are no more links, and no more columns in all, than there may be; and each entry and column has a name of its own
pub record IsAccepted (robot : Robot) (root : UrdfJoint) (stems : List Stem) : Type 0 where
  pub links : length robot.links ≤ MAX_LINKS
  pub root_name : HasOwnRootName root robot.joints
  pub names : HaveOwnNames root robot.joints stems
  pub columns : sum_by (stem_columns root robot.joints) stems ≤ MAX_COLUMNS

-- ---- faults
-- the first link that no way of joints reaches from the root
pub record HasCycle (robot : Robot) (at : ℕ) : Type 0 where
  pub root : ℕ
  pub only : HasRootBelow robot.joints (length robot.links) root
  pub number : ℕ
  pub is : IsLinkPlace robot.links number at
  pub apart : Reaches robot.joints root number → ⊥
  pub first : (link : ℕ) → link < number → Reaches robot.joints root link

-- in the order of the bodies two entries, or two columns, have one name
pub record HasNameTwice (robot : Robot) (root : UrdfJoint) (at : ℕ) : Type 0 where
  pub stems : List Stem
  pub order : IsOrder robot stems
  pub shares : SharesName root robot.joints stems at

-- in the order of the bodies there are too many columns
pub record HasTooManyColumns (robot : Robot) (root : UrdfJoint) (at : ℕ) : Type 0 where
  pub stems : List Stem
  pub order : IsOrder robot stems
  pub pass : PassColumns root robot.joints stems at
