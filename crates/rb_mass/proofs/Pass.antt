-- The premises: what the composite rigid body algorithm over intervals is given and what it finds, by body and by joint column. Featherstone,
-- Rigid Body Dynamics Algorithms, chapter 6.
use Rattle.std.specs.Prelude.{◌≡◌, ℕ, suc, ◌+◌, ◌<◌, ◌≤◌, ◌==◌, ◌&&◌, ◌||◌, not, Bool, true, if◌then◌else◌, [], ◌∷◌, Some, Result, Ok}
use Rattle.rb_result.specs.Steps.{◌>>=◌}
use Rattle.rb_sweep.specs.Sweep.{sweep, upward, downward}
use Rattle.rb_frac.specs.Frac.{Frac, fracs}
use Rattle.rb_frac.specs.Spatial.{Motion, Force, Place, BodyInertia, Inertia, Motions, Places, BodyInertias}
use Rattle.rb_frac.specs.Mechanics.{body_of}
use Rattle.rb_num.specs.declared.interval.NumFault.{NumFault}
use Rattle.rb_num.specs.Interval.{Interval, zero_interval}
use Rattle.rb_num.specs.Dot.{iv_dot}
use Rattle.rb_num.specs.Refusing.{iv_add}
use Rattle.rb_num.specs.Fraction.{LiesIn}
use Rattle.rb_num.specs.Arith.{intervals}
use Rattle.rb_spatial.specs.Motions.{apply_dual, power}
use Rattle.rb_spatial.specs.Inertias.{table, times, sum as sum_of_two}
use Rattle.rb_spatial.specs.Carrying.{carry}
use Rattle.rb_flat.specs.Shape.{Shape, HasBody}
use Rattle.rb_flat.specs.Joint.{column_count}
use Rattle.rb_flat.specs.Mechanism.{Mechanism}
use Rattle.rb_flat.specs.Dynamics.{followed}
use Rattle.rb_composite.specs.Composite.{ancestor, HasJointColumn}

-- ---- what it is given
-- by body how many columns its joint has, none at the world, its place in its parent, the columns of its joint, from 0, its inertia, and by how much
-- its joint moves with the one that it follows, which is one where it follows none; by column whether it is one of a joint that others follow
pub record Given : Type 0 where
  pub count : ℕ → ℕ
  pub place : ℕ → Place Interval
  pub column : ℕ → ℕ → Motion Interval
  pub inertia : ℕ → BodyInertia Interval
  pub gear : ℕ → Interval
  pub is_followed : ℕ → Bool

-- the numbers of a mechanism lie in it
pub record BodyWithin (shape : Shape) (m : Mechanism Frac) (g : Given) (i : ℕ) : Type 0 where
  pub count : g.count i ≡ column_count (shape.kind i)
  pub place : Places LiesIn (m.place i) (g.place i)
  pub column : (k : ℕ) → k < column_count (shape.kind i) → Motions LiesIn (m.column i k) (g.column i k)
  pub inertia : BodyInertias LiesIn (body_of fracs (m.mass i) (m.centre i) (m.inertia i)) (g.inertia i)
  pub gear : LiesIn (followed fracs (shape.mimic i) (m.multiplier i) fracs.one) (g.gear i)

pub record IsWithin (shape : Shape) (m : Mechanism Frac) (g : Given) : Type 0 where
  pub world : g.count 0 ≡ 0
  pub each : (i : ℕ) → HasBody shape i → BodyWithin shape m g i
  pub followed : (i master k : ℕ) → HasJointColumn shape i k → shape.mimic i ≡ Some master → g.is_followed (shape.first_column i + k) ≡ true

-- with how many columns of body a column k of body i makes a pair: with those up to itself of its own joint, and with all of a joint above
abbrev pub met_columns : Given → ℕ → ℕ → ℕ → ℕ
met_columns g i k a = if a == i then k + 1 else g.count a

-- ---- what it finds
-- by body its inertia with all that it bears; by joint column the force that this needs, as the body so many steps above sees it; and its power
-- along each column there
pub record Found : Type 0 where
  pub I : ℕ → Inertia Interval
  pub force : ℕ → ℕ → ℕ → Result (Force Interval) NumFault
  pub H : ℕ → ℕ → ℕ → ℕ → Interval

-- one more body: a child of body i adds what it bears, carried to body i
abbrev pub add_child : Shape → Given → Found → ℕ → ℕ → Inertia Interval → Result (Inertia Interval) NumFault
add_child shape g w i j sum =
    if shape.parent j == i then (carry intervals (g.place j) (w.I j) >>= λ x. sum_of_two intervals sum x) else Ok sum

-- each value is what its rule gives
pub record IsPass (shape : Shape) (g : Given) (w : Found) : Type 0 where
  pub each_I : (i : ℕ) → HasBody shape i → sweep (add_child shape g w i) (downward (i + 1) (shape.bodies + 1)) (table intervals (g.inertia i)) ≡ Ok (w.I i)
  pub first_force : (i k : ℕ) → HasJointColumn shape i k → w.force i k 0 ≡ times intervals (w.I i) (g.column i k)
  pub next_force : (i k n : ℕ) → HasJointColumn shape i k → 1 ≤ ancestor shape i (suc n)
      → w.force i k (suc n) ≡ (w.force i k n >>= λ f. apply_dual intervals (g.place (ancestor shape i n)) f)
  pub each_H : (i k n l : ℕ) → HasJointColumn shape i k → n < shape.bodies → l < met_columns g i k (ancestor shape i n)
      → (w.force i k n >>= λ f. power intervals (g.column (ancestor shape i n) l) f) ≡ Ok (w.H i k (ancestor shape i n) l)

-- ---- the entries of the table
-- a number times two others, or that twice
abbrev pub weighed : Interval → Interval → Interval → Result Interval NumFault
weighed r s x = iv_dot ((r, s) ∷ []) >>= λ both. iv_dot ((both, x) ∷ [])

abbrev pub twice_if : Bool → Interval → Result Interval NumFault
twice_if twice x = if twice then iv_add x x else Ok x

-- what a pair adds, whose joints move by r and s
abbrev pub pair_adds : Bool → Bool → Interval → Interval → Interval → Result Interval NumFault
pair_adds follow twice r s entry = if follow then (weighed r s entry >>= λ x. twice_if twice x) else Ok entry

-- columns that are or follow p and q are c and d
abbrev pub is_pair : ℕ → ℕ → ℕ → ℕ → Bool
is_pair c d p q = (p == c && q == d) || (p == d && q == c)

abbrev pub add_counted : ℕ → ℕ → ℕ → ℕ → Bool → Bool → Interval → Interval → Interval → Interval → Result Interval NumFault
add_counted c d p q follow own r s entry sum =
    if is_pair c d p q then (pair_adds follow (c == d && not own) r s entry >>= λ x. iv_add sum x) else Ok sum

module _ (shape : Shape) (g : Given) (w : Found) (c d : ℕ) where
  -- columns k of body i and l of body a
  abbrev pub add_pair : ℕ → ℕ → ℕ → ℕ → Interval → Result Interval NumFault
  add_pair i k a l sum =
      add_counted c d (shape.first_column i + k) (shape.first_column a + l) (g.is_followed c || g.is_followed d) (a == i && l == k) (g.gear i) (g.gear a) (w.H i k a l) sum

  -- the columns of body a, descending
  abbrev pub add_body : ℕ → ℕ → ℕ → Interval → Result Interval NumFault
  add_body i k a sum = sweep (add_pair i k a) (downward 0 (met_columns g i k a)) sum

  -- body i and those above it
  abbrev pub add_column : ℕ → ℕ → Interval → Result Interval NumFault
  add_column i k sum =
      if shape.first_column i + k == c || shape.first_column i + k == d
      then sweep (λ n. add_body i k (ancestor shape i n)) (upward 0 shape.bodies) sum
      else Ok sum

  abbrev pub add_joint : ℕ → Interval → Result Interval NumFault
  add_joint i sum = sweep (add_column i) (upward 0 (g.count i)) sum

  -- over the columns of all joints, ascending
  abbrev pub entry_of : Result Interval NumFault
  entry_of = sweep add_joint (upward 1 (shape.bodies + 1)) zero_interval
