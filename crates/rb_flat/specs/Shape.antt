-- A tree of bodies without numbers. Bodies and columns are numbered from 1, and body 0 is the world; the entries of a position have places
-- from 0. Featherstone, Rigid Body Dynamics Algorithms, chapter 4.
use Rattle.std.specs.Prelude.{◌≡◌, ℕ, ◌+◌, ◌<◌, ◌≤◌, Option, None, Some}
use Rattle.rb_flat.specs.Joint.{Kind, entry_count, column_count}

-- of each body its parent, the kind of its joint, the first column and the place of the first entry, which are its master's where its joint
-- follows another (URDF mimic), and the body whose joint it follows; of each column its owner, the body whose joint has it and follows none
pub record Shape : Type 0 where
  pub bodies : ℕ
  pub columns : ℕ
  pub parent : ℕ → ℕ
  pub kind : ℕ → Kind
  pub first_column : ℕ → ℕ
  pub first_entry : ℕ → ℕ
  pub mimic : ℕ → Option ℕ
  pub owner : ℕ → ℕ

pub record HasBody (shape : Shape) (i : ℕ) : Type 0 where
  pub from : 1 ≤ i
  pub to : i ≤ shape.bodies

pub record HasColumn (shape : Shape) (c : ℕ) : Type 0 where
  pub from : 1 ≤ c
  pub to : c ≤ shape.columns

-- the joint of body i may follow that of the master: both have one entry, and the master follows none
pub record MayFollow (shape : Shape) (i master : ℕ) : Type 0 where
  pub there : HasBody shape master
  pub entry : entry_count (shape.kind i) ≡ 1
  pub master_entry : entry_count (shape.kind master) ≡ 1
  pub leads : shape.mimic master ≡ None

-- each joint that follows another may
abbrev pub MimicsFit : Shape → Type 0
MimicsFit shape = (i master : ℕ) → HasBody shape i → shape.mimic i ≡ Some master → MayFollow shape i master

-- the parent of a body has a smaller number
abbrev pub ParentsComeFirst : Shape → Type 0
ParentsComeFirst shape = (i : ℕ) → HasBody shape i → shape.parent i < i

-- column c is one of the joint of body i, which follows none
pub record OwnsColumn (shape : Shape) (i c : ℕ) : Type 0 where
  pub there : HasBody shape i
  pub leads : shape.mimic i ≡ None
  pub from : shape.first_column i ≤ c
  pub below : c < shape.first_column i + column_count (shape.kind i)

-- the columns of each joint are there, each column has its owner alone, and a joint that follows another has the columns of the other
pub record ColumnsFit (shape : Shape) : Type 0 where
  pub there : (i k : ℕ) → HasBody shape i → k < column_count (shape.kind i) → HasColumn shape (shape.first_column i + k)
  pub owner : (c : ℕ) → HasColumn shape c → OwnsColumn shape (shape.owner c) c
  pub alone : (i c : ℕ) → OwnsColumn shape i c → shape.owner c ≡ i
  pub follower : (i master : ℕ) → HasBody shape i → shape.mimic i ≡ Some master → shape.first_column i ≡ shape.first_column master
