-- How many columns joints have, which names these have, and the limits of a robot.
use Rattle.std.specs.Prelude.{◌≡◌, ◌≢◌, ◌<◌, ◌≤◌, ◌+◌, ℕ, List, take, Option, None, Some, slice_get}
use Rattle.std.specs.List.{All, AllPairs, Any, sum_by}
use Rattle.rb_urdf.specs.declared.robot.UrdfKind.{UrdfKind}
use Rattle.rb_urdf.specs.declared.robot.UrdfKind.TheVariants.{Fixed, Revolute, Prismatic, Continuous, Planar, Floating}
use Rattle.rb_urdf.specs.declared.robot.UrdfJoint.{UrdfJoint}
use Rattle.rb_body.specs.Raw.{kind_of}
use Rattle.rb_tree.specs.declared.order.Stem.{Stem}
use Rattle.rb_tree.specs.declared.sizes.TheConstants.{MAX_COLUMNS}
use Rattle.rb_tree.specs.Names.{ShareName}

-- how many columns of a Jacobian a joint of this kind has
abbrev pub columns_of : UrdfKind → ℕ
columns_of Fixed = 0
columns_of Revolute = 1
columns_of Prismatic = 1
columns_of Continuous = 1
columns_of Planar = 3
columns_of Floating = 6

-- the joint that bears a body: the root's, or that of a number
abbrev pub bearer_of : UrdfJoint → List UrdfJoint → Option ℕ → Option UrdfJoint
bearer_of root joints None = Some root
bearer_of root joints (Some number) = slice_get joints number

-- how many columns the joint of a body has
abbrev pub bearer_columns : Option UrdfJoint → ℕ
bearer_columns None = 0
bearer_columns (Some joint) = columns_of joint.kind

abbrev pub stem_columns : UrdfJoint → List UrdfJoint → Stem → ℕ
stem_columns root joints stem = bearer_columns (bearer_of root joints stem.joint)

-- the first joint in body order with which the columns pass the most
pub record PassColumns (root : UrdfJoint) (joints : List UrdfJoint) (stems : List Stem) (at : ℕ) : Type 0 where
  pub number : ℕ
  pub stem : Stem
  pub stem_is : slice_get stems number ≡ Some stem
  pub joint : UrdfJoint
  pub bears : bearer_of root joints stem.joint ≡ Some joint
  pub place : at ≡ joint.place
  pub before : sum_by (stem_columns root joints) (take number stems) ≤ MAX_COLUMNS
  pub passed : MAX_COLUMNS < sum_by (stem_columns root joints) (take (number + 1) stems)

-- ---- names
-- a root's joint that has columns has a name of its own
abbrev pub HasOwnRootName : UrdfJoint → List UrdfJoint → Type 0
HasOwnRootName root joints = 0 < columns_of root.kind → All (λ joint. joint.name ≢ root.name) joints

-- the joint of the file whose name a root's joint with columns has
pub record IsNamedAsRoot (root : UrdfJoint) (joints : List UrdfJoint) (at : ℕ) : Type 0 where
  pub moves : 0 < columns_of root.kind
  pub number : ℕ
  pub joint : UrdfJoint
  pub is : slice_get joints number ≡ Some joint
  pub name : joint.name ≡ root.name
  pub place : at ≡ joint.place

-- two joints have a name of entries in common, or of columns; one that follows another has none of its own
pub record JointsShare (a b : UrdfJoint) : Type 0 where
  pub first_leads : a.mimic ≡ None
  pub second_leads : b.mimic ≡ None
  pub share : ShareName (kind_of a.kind) a.name (kind_of b.kind) b.name

-- the joints of two bodies have
abbrev pub BearersShare : Option UrdfJoint → Option UrdfJoint → Type 0
BearersShare (Some a) (Some b) = JointsShare a b
BearersShare _ _ = ⊥

unfoldable pub StemsShare : UrdfJoint → List UrdfJoint → Stem → Stem → Type 0
StemsShare root joints a b = BearersShare (bearer_of root joints a.joint) (bearer_of root joints b.joint)

-- no two bodies have
abbrev pub HaveOwnNames : UrdfJoint → List UrdfJoint → List Stem → Type 0
HaveOwnNames root joints stems = AllPairs (λ a b. StemsShare root joints a b → ⊥) stems

-- the first joint in body order that has a name in common with that of an earlier body
pub record SharesName (root : UrdfJoint) (joints : List UrdfJoint) (stems : List Stem) (at : ℕ) : Type 0 where
  pub number : ℕ
  pub stem : Stem
  pub stem_is : slice_get stems number ≡ Some stem
  pub joint : UrdfJoint
  pub bears : bearer_of root joints stem.joint ≡ Some joint
  pub place : at ≡ joint.place
  pub shares : Any (λ earlier. StemsShare root joints earlier stem) (take number stems)
  pub first : HaveOwnNames root joints (take number stems)
