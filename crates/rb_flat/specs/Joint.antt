-- The joint relation: the place and the columns that a choice of numbers gives a joint. Featherstone, Rigid Body Dynamics Algorithms,
-- chapter 4; the frame and the axis as in URDF, and the entries as in Pinocchio.
use Rattle.std.specs.Prelude.{◌≡◌, ℕ, ◌==◌, ◌-◌, nat_lt, if◌then◌else◌, List, [], ◌∷◌, length}
use Rattle.rb_frac.specs.Ops.{Ops, Signs, signs, V3, vscale}
use Rattle.rb_frac.specs.Frac.{Frac, fracs}
use Rattle.rb_frac.specs.Tables.{Table, vector, nothing, unit, identity}
use Rattle.rb_frac.specs.Spatial.{Motion, Place, Frame, SineCosine}
use Rattle.rb_num.specs.Sine.{GoesWith}
use Rattle.rb_flat.specs.Turns.{about_z, roll_pitch_yaw, about_axis, about_quaternion, placed}

pub data Kind : Type 0 where
  Fixed : Kind
  Revolute : Kind
  Continuous : Kind
  Prismatic : Kind
  Planar : Kind
  Free : Kind

-- how many entries the position has, and how many columns
abbrev pub entry_count : Kind → ℕ
entry_count Fixed = 0
entry_count Revolute = 1
entry_count Continuous = 2
entry_count Prismatic = 1
entry_count Planar = 4
entry_count Free = 7

abbrev pub column_count : Kind → ℕ
column_count Fixed = 0
column_count Revolute = 1
column_count Continuous = 1
column_count Prismatic = 1
column_count Planar = 3
column_count Free = 6

-- ---- columns
module _ {A : Type 0} (s : Signs A) where
  abbrev pub along : V3 A → Motion A
  along a = record { lin = a; ang = nothing s }

  abbrev pub around : V3 A → Motion A
  around a = record { lin = nothing s; ang = a }

  -- column k of S, from 0 and below the count, of a joint with the axis a; a fixed joint has none
  unfoldable pub joint_column : Kind → V3 A → ℕ → Motion A
  joint_column Fixed a k = along (nothing s)
  joint_column Revolute a k = around a
  joint_column Continuous a k = around a
  joint_column Prismatic a k = along a
  joint_column Planar a k = if k == 2 then around (unit s 2) else along (unit s k)
  joint_column Free a k = if nat_lt k 3 then along (unit s k) else around (unit s (k - 3))

-- ---- places
module _ {A : Type 0} (o : Ops A) where
  -- the turn Rj: about the axis a by the angle, which a revolute joint has by the pair t and a continuous joint by its entries, cosine first;
  -- about z by a cosine and a sine; by a quaternion; and none
  unfoldable pub joint_turn : Kind → V3 A → SineCosine A → List A → Table A
  joint_turn Revolute a t q = about_axis o a t
  joint_turn Continuous a t (c ∷ (s ∷ [])) = about_axis o a (record { sin = s; cos = c })
  joint_turn Planar a t (x ∷ (y ∷ (c ∷ (s ∷ [])))) = about_z (signs o) (record { sin = s; cos = c })
  joint_turn Free a t (x ∷ (y ∷ (z ∷ (i ∷ (j ∷ (k ∷ (w ∷ []))))))) = about_quaternion o (record { x = i; y = j; z = k; w = w })
  joint_turn _ a t q = identity (signs o)

  -- the shift p
  unfoldable pub joint_shift : Kind → V3 A → List A → V3 A
  joint_shift Prismatic a (d ∷ []) = vscale o d a
  joint_shift Planar a (x ∷ (y ∷ (c ∷ (s ∷ [])))) = vector x y o.nul
  joint_shift Free a (x ∷ (y ∷ (z ∷ (i ∷ (j ∷ (k ∷ (w ∷ []))))))) = vector x y z
  joint_shift _ a q = nothing (signs o)

-- ---- choices
-- the numbers of a joint and of its position: the frame's origin and angles with their sines and cosines, the axis and its factor, the
-- entries, the sine and cosine of a revolute joint's angle, and by how much it follows another joint
pub record JointChoice : Type 0 where
  pub origin : V3 Frac
  pub rpy : V3 Frac
  pub roll : SineCosine Frac
  pub pitch : SineCosine Frac
  pub yaw : SineCosine Frac
  pub axis : V3 Frac
  pub factor : Frac
  pub entries : List Frac
  pub angle : SineCosine Frac
  pub multiplier : Frac
  pub offset : Frac

-- t may be the sine and the cosine of x
abbrev pub HasAngle : Frac → SineCosine Frac → Type 0
HasAngle x t = GoesWith x t.sin t.cos

-- these may be the sines and cosines of roll, pitch and yaw
pub record HasAngles (rpy : V3 Frac) (r p y : SineCosine Frac) : Type 0 where
  pub roll : HasAngle rpy.x r
  pub pitch : HasAngle rpy.y p
  pub yaw : HasAngle rpy.z y

-- of the entries of a joint: one angle, where it is revolute
abbrev pub EntryHasAngle : Kind → List Frac → SineCosine Frac → Type 0
EntryHasAngle Revolute (x ∷ []) t = HasAngle x t
EntryHasAngle _ q t = Unit {0}

-- a choice for a joint of kind k: as many entries as it has, and each pair goes with its angle
pub record IsJointChoice (k : Kind) (c : JointChoice) : Type 0 where
  pub frame : HasAngles c.rpy c.roll c.pitch c.yaw
  pub count : length c.entries ≡ entry_count k
  pub angle : EntryHasAngle k c.entries c.angle

-- Ro and ro
unfoldable pub chosen_frame : JointChoice → Frame Frac
chosen_frame c = record { rot = roll_pitch_yaw fracs c.roll c.pitch c.yaw; at = c.origin }

-- a = factor * axis
unfoldable pub chosen_axis : JointChoice → V3 Frac
chosen_axis c = vscale fracs c.factor c.axis

-- E and r
unfoldable pub chosen_place : Kind → JointChoice → Place Frac
chosen_place k c =
    placed fracs (chosen_frame c) (joint_turn fracs k (chosen_axis c) c.angle c.entries) (joint_shift fracs k (chosen_axis c) c.entries)

-- column j of S
unfoldable pub chosen_column : Kind → JointChoice → ℕ → Motion Frac
chosen_column k c j = joint_column (signs fracs) k (chosen_axis c) j
