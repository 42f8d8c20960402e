-- The composite rigid body algorithm over exact fractions: inertias of bodies with all that they bear, the entries of pairs of joint columns, and
-- the table of a robot in which joints may follow others. Featherstone, Rigid Body Dynamics Algorithms, chapter 6.
use Rattle.std.specs.Prelude.{◌≡◌, ℕ, zero, suc, ◌+◌, ◌<◌, ◌==◌, if◌then◌else◌}
use Rattle.rb_frac.specs.Ops.{signs, sum}
use Rattle.rb_frac.specs.Frac.{Frac, Same, fracs, add, mul}
use Rattle.rb_frac.specs.Tables.{Symmetric, nothing}
use Rattle.rb_frac.specs.Spatial.{Force, Inertia, Inertias}
use Rattle.rb_frac.specs.Mechanics.{body_of}
use Rattle.rb_num.specs.Arith.{fractions}
use Rattle.rb_spatial.specs.Motions.{apply_dual, power}
use Rattle.rb_spatial.specs.Inertias.{table, times, sum as sum_of_two}
use Rattle.rb_spatial.specs.Carrying.{carry}
use Rattle.rb_flat.specs.Shape.{Shape, HasBody, HasColumn}
use Rattle.rb_flat.specs.Joint.{column_count}
use Rattle.rb_flat.specs.Mechanism.{Mechanism}
use Rattle.rb_flat.specs.Dynamics.{followed}

-- ---- the tree
-- the body above body i; there is none above the world
abbrev pub above : Shape → ℕ → ℕ
above shape zero = zero
above shape (suc i) = shape.parent (suc i)

-- the body so many steps above body j
unfoldable pub ancestor : Shape → ℕ → ℕ → ℕ
ancestor shape j zero = j
ancestor shape j (suc n) = above shape (ancestor shape j n)

-- body i is body j or stands above it
abbrev pub IsOnPath : Shape → ℕ → ℕ → Type 0
IsOnPath shape j i = (n : ℕ) × (ancestor shape j n ≡ i)

-- neither stands above the other, and they are not the same
pub record AreApart (shape : Shape) (i j : ℕ) : Type 0 where
  pub upward : IsOnPath shape i j → ⊥
  pub downward : IsOnPath shape j i → ⊥

-- the joint of body i has a column k, from 0; a joint that follows another has its own
pub record HasJointColumn (shape : Shape) (i k : ℕ) : Type 0 where
  pub there : HasBody shape i
  pub below : k < column_count (shape.kind i)

-- ---- sums
abbrev pub no_symmetric : Symmetric Frac
no_symmetric = record { xx = fracs.nul; xy = fracs.nul; xz = fracs.nul; yy = fracs.nul; yz = fracs.nul; zz = fracs.nul }

abbrev pub no_inertia : Inertia Frac
no_inertia =
    let o = nothing (signs fracs) in
    record { a = no_symmetric; b = record { x = o; y = o; z = o }; c = no_symmetric }

-- f 0 + .. + f (n - 1)
unfoldable pub inertia_sum : ℕ → (ℕ → Inertia Frac) → Inertia Frac
inertia_sum zero f = no_inertia
inertia_sum (suc n) f = sum_of_two fractions (inertia_sum n f) (f n)

-- over the columns of all joints
abbrev pub over_joints : Shape → (ℕ → ℕ → Frac) → Frac
over_joints shape f = sum fracs shape.bodies (λ i. sum fracs (column_count (shape.kind (suc i))) (f (suc i)))

-- over the columns above column k of the joint of body i: the earlier ones of the same joint, and all of the joints above it
unfoldable pub over_above : Shape → ℕ → ℕ → (ℕ → ℕ → Frac) → Frac
over_above shape i k f =
    add (sum fracs k (f i))
    (sum fracs shape.bodies (λ n. let a = ancestor shape i (suc n) in if a == 0 then fracs.nul else sum fracs (column_count (shape.kind a)) (f a)))

module _ (shape : Shape) (m : Mechanism Frac) where
  -- ---- composite inertias
  -- a body about its own origin
  abbrev pub own_inertia : ℕ → Inertia Frac
  own_inertia i = table fractions (body_of fracs (m.mass i) (m.centre i) (m.inertia i))

  -- those of the children of body i, carried to it; a body with another parent adds nothing
  unfoldable pub children_inertia : (ℕ → Inertia Frac) → ℕ → Inertia Frac
  children_inertia inertia i =
      inertia_sum shape.bodies (λ k. if shape.parent (suc k) == i then carry fractions (m.place (suc k)) (inertia (suc k)) else no_inertia)

  -- of each body the inertia that it has as one rigid body with all that it bears
  pub record AreComposites (inertia : ℕ → Inertia Frac) : Type 0 where
    pub each : (i : ℕ) → HasBody shape i → Inertias Same (inertia i) (sum_of_two fractions (own_inertia i) (children_inertia inertia i))

  -- ---- pairs of joint columns
  -- the force f on body j, seen from the body so many steps above it
  unfoldable pub carried : ℕ → Force Frac → ℕ → Force Frac
  carried j f zero = f
  carried j f (suc n) = apply_dual fractions (m.place (ancestor shape j n)) (carried j f n)

  -- the entries of pairs, as if no joint followed another
  pub record ArePairs (inertia : ℕ → Inertia Frac) (pair : ℕ → ℕ → ℕ → ℕ → Frac) : Type 0 where
    -- the force that the composite of body j needs at its column k, at column l of the joint of body j or of one above it
    pub met : (j k n l : ℕ) → HasJointColumn shape j k → HasJointColumn shape (ancestor shape j n) l → Same (pair j k (ancestor shape j n) l)
        (power fractions (m.column (ancestor shape j n) l) (carried j (times fractions (inertia j) (m.column j k)) n))
    pub symmetric : (i k j l : ℕ) → HasJointColumn shape i k → HasJointColumn shape j l → Same (pair i k j l) (pair j l i k)
    pub apart : (i k j l : ℕ) → HasJointColumn shape i k → HasJointColumn shape j l → AreApart shape i j → Same (pair i k j l) fracs.nul

  -- ---- columns
  -- by how much column k of the joint of body i moves with column c, which it is or follows
  unfoldable pub share : ℕ → ℕ → ℕ → Frac
  share c i k = if shape.first_column i + k == c then followed fracs (shape.mimic i) (m.multiplier i) fracs.one else fracs.nul

  -- what the two joint columns, one for c and the other for d, add to the entry of c and d
  abbrev pub shared : (ℕ → ℕ → ℕ → ℕ → Frac) → ℕ → ℕ → ℕ → ℕ → ℕ → ℕ → Frac
  shared pair c d i k j l = mul (mul (share c i k) (share d j l)) (pair i k j l)

  -- over all pairs of joint columns, in both orders
  abbrev pub gathered : (ℕ → ℕ → ℕ → ℕ → Frac) → ℕ → ℕ → Frac
  gathered pair c d = over_joints shape (λ i k. over_joints shape (λ j l. shared pair c d i k j l))

  -- each pair once: each joint column with itself, and with each one above it, where both may stand for c and for d
  abbrev pub gathered_once : (ℕ → ℕ → ℕ → ℕ → Frac) → ℕ → ℕ → Frac
  gathered_once pair c d =
      over_joints shape (λ i k.
      add (shared pair c d i k i k) (over_above shape i k (λ j l. mul (add (mul (share c i k) (share d j l)) (mul (share d i k) (share c j l))) (pair i k j l))))

  -- the table that the composite inertias give
  pub record IsCompositeTable (table : ℕ → ℕ → Frac) : Type 0 where
    pub inertia : ℕ → Inertia Frac
    pub pair : ℕ → ℕ → ℕ → ℕ → Frac
    pub composites : AreComposites inertia
    pub pairs : ArePairs inertia pair
    pub entry : (c d : ℕ) → HasColumn shape c → HasColumn shape d → Same (table c d) (gathered pair c d)
