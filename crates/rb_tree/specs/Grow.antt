-- A part of the order: the bodies placed so far. Joints are known by the links `up` and `down` of each number, and bodies by their links,
-- parents and joints, at places from 0.
use Rattle.std.specs.Prelude.{◌≡◌, ◌≢◌, ◌<◌, ◌≤◌, ◌+◌, ◌-◌, ℕ, List, length, map, slice_index, slice_index_or, unwrap_or, None, Some}
use Rattle.rb_urdf.specs.declared.robot.UrdfJoint.{UrdfJoint}
use Rattle.rb_tree.specs.declared.order.Stem.{Stem}
use Rattle.rb_tree.specs.Order.{no_stem}

-- the numbers of the parent and the child link of a joint
unfoldable pub parent_link : List UrdfJoint → ℕ → ℕ
parent_link joints number = slice_index (map (λ joint. joint.parent) joints) number

unfoldable pub child_link : List UrdfJoint → ℕ → ℕ
child_link joints number = slice_index (map (λ joint. joint.child) joints) number

-- a stem by its place from 0
abbrev pub stem_at : List Stem → ℕ → Stem
stem_at stems place = slice_index_or stems place no_stem

-- the link, the place of the parent and the joint of the stem at a place
unfoldable pub link_of : List Stem → ℕ → ℕ
link_of stems place = (stem_at stems place).link

unfoldable pub parent_of : List Stem → ℕ → ℕ
parent_of stems place = (stem_at stems place).parent - 1

unfoldable pub joint_of : List Stem → ℕ → ℕ
joint_of stems place = unwrap_or (stem_at stems place).joint 0

-- a link is that of one of the first bodies
pub record IsPlaced (bodies : ℕ) (links : ℕ → ℕ) (link : ℕ) : Type 0 where
  pub number : ℕ
  pub within : number < bodies
  pub is : links number ≡ link

-- each child of the link is placed
abbrev pub IsFull : ℕ → (ℕ → ℕ) → (ℕ → ℕ) → ℕ → (ℕ → ℕ) → ℕ → Type 0
IsFull joints up down bodies links link = (j : ℕ) → j < joints → up j ≡ link → IsPlaced bodies links (down j)

-- the first joint of the link whose child is not placed
pub record IsFree (joints : ℕ) (up down : ℕ → ℕ) (bodies : ℕ) (links : ℕ → ℕ) (link joint : ℕ) : Type 0 where
  pub within : joint < joints
  pub starts : up joint ≡ link
  pub free : IsPlaced bodies links (down joint) → ⊥
  pub first : (j : ℕ) → j < joint → up j ≡ link → IsPlaced bodies links (down j)

-- what may come next behind the bodies: the free joint of a body above which, and behind which, all is placed
pub record IsNext (joints : ℕ) (up down : ℕ → ℕ) (bodies : ℕ) (links parents : ℕ → ℕ) (parent joint : ℕ) : Type 0 where
  pub within : parent < bodies
  pub free : IsFree joints up down bodies links (links parent) joint
  pub behind : (k : ℕ) → parent < k → k < bodies → parent ≤ parents k
  pub full : (k : ℕ) → parent < k → k < bodies → IsFull joints up down bodies links (links k)

-- the bodies placed so far
pub record IsPart (joints : ℕ) (up down : ℕ → ℕ) (bodies : ℕ) (links parents bearers : ℕ → ℕ) : Type 0 where
  pub some : 0 < bodies
  pub once : (a b : ℕ) → a < b → b < bodies → links a ≢ links b
  pub earlier : (k : ℕ) → 0 < k → k < bodies → parents k < k
  pub bearer : (k : ℕ) → 0 < k → k < bodies → bearers k < joints
  pub child : (k : ℕ) → 0 < k → k < bodies → down (bearers k) ≡ links k
  pub parent : (k : ℕ) → 0 < k → k < bodies → up (bearers k) ≡ links (parents k)
  pub nested : (k i : ℕ) → i < bodies → parents i < k → k < i → parents i ≤ parents k
  pub first : (k j : ℕ) → 0 < k → k < bodies → j < bearers k → up j ≡ up (bearers k) → IsPlaced bodies links (down j)
  pub in_file_order : (a b : ℕ) → 0 < a → a < b → b < bodies → parents a ≡ parents b → bearers a < bearers b
  pub full : (k i : ℕ) → k < i → i < bodies → parents i < k → IsFull joints up down bodies links (links k)

-- the free joint of a link
abbrev pub IsFreeJoint : List UrdfJoint → List Stem → ℕ → ℕ → Type 0
IsFreeJoint joints stems link joint = IsFree (length joints) (parent_link joints) (child_link joints) (length stems) (link_of stems) link joint

-- each child of the link is placed
abbrev pub IsFullLink : List UrdfJoint → List Stem → ℕ → Type 0
IsFullLink joints stems link = IsFull (length joints) (parent_link joints) (child_link joints) (length stems) (link_of stems) link

-- the link is that of a body
abbrev pub HasLink : List Stem → ℕ → Type 0
HasLink stems link = IsPlaced (length stems) (link_of stems) link

-- each child of each body is placed
abbrev pub IsClosed : List UrdfJoint → List Stem → Type 0
IsClosed joints stems = (k : ℕ) → k < length stems → IsFullLink joints stems (link_of stems k)

-- the bodies placed so far
abbrev pub IsPartOf : List UrdfJoint → List Stem → Type 0
IsPartOf joints stems = IsPart (length joints) (parent_link joints) (child_link joints) (length stems) (link_of stems) (parent_of stems) (joint_of stems)

-- the parent of the first is the world, and those of the others are bodies
pub record AreNumbered (stems : List Stem) : Type 0 where
  pub root : (stem_at stems 0).parent ≡ 0
  pub later : (k : ℕ) → 0 < k → k < length stems → (stem_at stems k).parent ≡ parent_of stems k + 1

-- the bodies placed so far from the root, of which no link has this number or a higher one
pub record IsGrown (joints : List UrdfJoint) (links root : ℕ) (stems : List Stem) : Type 0 where
  pub part : IsPartOf joints stems
  pub root_is : stem_at stems 0 ≡ record { link = root; joint = None; parent = 0 }
  pub numbered : AreNumbered stems
  pub named : (k : ℕ) → 0 < k → k < length stems → (stem_at stems k).joint ≡ Some (joint_of stems k)
  pub there : (k : ℕ) → k < length stems → link_of stems k < links

-- the stem that comes next
pub record IsNextStem (joints : List UrdfJoint) (stems : List Stem) (stem : Stem) : Type 0 where
  pub number : ℕ
  pub place : ℕ
  pub named : stem.joint ≡ Some number
  pub link_is : stem.link ≡ child_link joints number
  pub parent_is : stem.parent ≡ place + 1
  pub next : IsNext (length joints) (parent_link joints) (child_link joints) (length stems) (link_of stems) (parent_of stems) place number

-- the first link that is not placed
pub record IsFirstApart (stems : List Stem) (links apart : ℕ) : Type 0 where
  pub within : apart < links
  pub free : HasLink stems apart → ⊥
  pub first : (link : ℕ) → link < apart → HasLink stems link
