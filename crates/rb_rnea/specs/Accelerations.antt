-- The accelerations of the bodies and the forces that they need, from the root on. Featherstone, Rigid Body Dynamics Algorithms, chapter 5.
use Rattle.std.specs.Prelude.{◌≡◌, ℕ, ◌+◌, List, [], ◌∷◌, length, flat_map, Result, Ok}
use Rattle.rb_num.specs.Interval.{Interval, zero_interval, negative_of}
use Rattle.rb_num.specs.Arith.{intervals, signs_of}
use Rattle.rb_frac.specs.Tables.{vector, nothing}
use Rattle.rb_frac.specs.Spatial.{Motion, Force, BodyInertia}
use Rattle.rb_result.specs.Steps.{◌>>=◌}
use Rattle.rb_sweep.specs.Sweep.{upward}
use Rattle.rb_spatial.specs.Motions.{apply, cross, cross_dual, sum_spatial}
use Rattle.rb_spatial.specs.Inertias.{table, times}
use Rattle.rb_work.specs.declared.names.NameKind.TheVariants as K
use Rattle.rb_work.specs.declared.names.RowFault.{RowFault}
use Rattle.rb_work.specs.Names.{one, named_as}
use Rattle.rb_work.specs.View.{View, X_at, s_at, v_at, c_at, a_at, b_at}
use Rattle.rb_work.specs.Place.{Place, c_of, a_of, b_of}
use Rattle.rb_num.specs.declared.interval.NumFault.{NumFault}
use Rattle.rb_tree.specs.declared.robot.Body.{Body}
use Rattle.rb_tree.specs.Columns.{parent_at}
use Rattle.rb_tree.specs.Numbers.{inertia_at}
use Rattle.rb_tree.specs.Robot.{Tree, HasBody}
use Rattle.rb_tree.specs.State.{Row}
use Rattle.rb_rnea.specs.Rates.{motion_of, motion_by}

-- the world accelerates against gravity
abbrev pub world_acceleration : Row → Motion Interval
world_acceleration row =
    record { lin = vector (negative_of row.gravity.x) (negative_of row.gravity.y) (negative_of row.gravity.z); ang = nothing (signs_of intervals) }

-- how the motion over the joint changes as it moves along with the body
unfoldable pub turning_by : List Body → ℕ → View → Result (Motion Interval) NumFault
turning_by bodies i w = motion_of bodies i (s_at w i) >>= λ j. cross intervals (v_at w i) j

-- c[i]: the acceleration by the velocity
unfoldable pub c_rule : Tree → ℕ → View → Result (Motion Interval) RowFault
c_rule tree i w = named_as (one K.c i) (turning_by tree.bodies i w)

-- the parent's acceleration, seen from the body, the joint's own, and c[i]
unfoldable pub acceleration_by : List Body → List Interval → ℕ → View → Result (Motion Interval) NumFault
acceleration_by bodies numbers i w =
    motion_by bodies numbers i >>= λ j.
    apply intervals (X_at w i) (a_at w (parent_at bodies i)) >>= λ m.
    sum_spatial intervals m j >>= λ n.
    sum_spatial intervals n (c_at w i)

-- a[i]: the acceleration of the body
unfoldable pub a_rule : Tree → Row → ℕ → View → Result (Motion Interval) RowFault
a_rule tree row i w = named_as (one K.a i) (acceleration_by tree.bodies row.a i w)

-- a body with neither mass nor inertia, which needs no force
abbrev pub massless : BodyInertia Interval
massless =
    let o = nothing (signs_of intervals) in
    record { mass = zero_interval; first = o; six = record { xx = zero_interval; xy = zero_interval; xz = zero_interval; yy = zero_interval; yz = zero_interval; zz = zero_interval } }

-- what moves the body, I a + v x* (I v)
unfoldable pub need_by : List Body → ℕ → View → Result (Force Interval) NumFault
need_by bodies i w =
    let inertia = table intervals (inertia_at bodies i) in
    times intervals inertia (a_at w i) >>= λ f.
    times intervals inertia (v_at w i) >>= λ h.
    cross_dual intervals (v_at w i) h >>= λ g.
    sum_spatial intervals f g

-- b[i]: the force that the body needs
unfoldable pub b_rule : Tree → ℕ → View → Result (Force Interval) RowFault
b_rule tree i w = named_as (one K.b i) (need_by tree.bodies i w)

-- each value is what its rule gives, and the world accelerates against gravity
pub record AreAccelerations (tree : Tree) (row : Row) (w : View) : Type 0 where
  pub at_world : a_at w 0 ≡ world_acceleration row
  pub each_c : (i : ℕ) → HasBody tree i → c_rule tree i w ≡ Ok (c_at w i)
  pub each_a : (i : ℕ) → HasBody tree i → a_rule tree row i w ≡ Ok (a_at w i)
  pub each_b : (i : ℕ) → HasBody tree i → b_rule tree i w ≡ Ok (b_at w i)

abbrev pub order : Tree → List Place
order tree = a_of 0 ∷ flat_map (λ i. c_of i ∷ a_of i ∷ b_of i ∷ []) (upward 1 (length tree.bodies + 1))
