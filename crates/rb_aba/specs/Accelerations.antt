-- The accelerations of the joints and of the bodies, from the root on. Featherstone, Rigid Body Dynamics Algorithms, chapter 7.
use Rattle.std.specs.Prelude.{◌≡◌, ℕ, ◌+◌, List, [], ◌∷◌, ◌++◌, length, flat_map, Result, Ok}
use Rattle.rb_num.specs.Interval.{Interval}
use Rattle.rb_num.specs.Arith.{intervals, interval_field}
use Rattle.rb_num.specs.declared.interval.NumFault.{NumFault}
use Rattle.rb_frac.specs.Spatial.{Motion}
use Rattle.rb_result.specs.Steps.{◌>>=◌}
use Rattle.rb_sweep.specs.Sweep.{sweep, upward}
use Rattle.rb_spatial.specs.Motions.{apply, sum_spatial}
use Rattle.rb_work.specs.declared.names.NameKind.TheVariants as K
use Rattle.rb_work.specs.declared.names.RowFault.{RowFault}
use Rattle.rb_work.specs.Names.{one, named_as}
use Rattle.rb_work.specs.View.{View, X_at, c_at, a_at, U_at, D_at, u_at, x_at}
use Rattle.rb_work.specs.Place.{Place, a_of, x_of}
use Rattle.rb_tree.specs.declared.robot.Body.{Body}
use Rattle.rb_tree.specs.Columns.{parent_at}
use Rattle.rb_tree.specs.Robot.{Tree, HasBody}
use Rattle.rb_tree.specs.State.{Row}
use Rattle.rb_rnea.specs.Rates.{joint_columns}
use Rattle.rb_rnea.specs.Accelerations.{world_acceleration}
use Rattle.rb_articulated.specs.Rules.{and_multiple, less_power}
use Rattle.rb_aba.specs.Articulated.{HasJointColumn, column_of, axis_at}

-- the parent's acceleration, seen from the body, and c[i]: without the joint's own
unfoldable pub carried_to : List Body → ℕ → View → Result (Motion Interval) NumFault
carried_to bodies i w = apply intervals (X_at w i) (a_at w (parent_at bodies i)) >>= λ m. sum_spatial intervals m (c_at w i)

-- column k adds its own acceleration
unfoldable pub moved_by : List Body → View → ℕ → ℕ → Motion Interval → Result (Motion Interval) NumFault
moved_by bodies w i k y = and_multiple intervals y (x_at w (column_of bodies i k)) (axis_at bodies i k)

-- the acceleration of column k where the body has y before it, with which the body has to move
unfoldable pub checked_rate : List Body → ℕ → ℕ → View → Motion Interval → Result Interval NumFault
checked_rate bodies i k w y =
    let c = column_of bodies i k in
    less_power intervals (u_at w c) y (U_at w c) >>= λ r.
    interval_field.div r (D_at w c) >>= λ x.
    and_multiple intervals y x (axis_at bodies i k) >>= λ next.
    Ok x

-- x[c]: what the body's acceleration leaves of the torque, divided by the pivot. Where the parent's acceleration cannot be carried to the body, a[i]
-- is refused.
unfoldable pub x_rule : Tree → ℕ → ℕ → View → Result Interval RowFault
x_rule tree i k w =
    named_as (one K.a i) (carried_to tree.bodies i w) >>= λ start.
    named_as (one K.x (column_of tree.bodies i k)) (sweep (moved_by tree.bodies w i) (upward 0 k) start >>= λ y. checked_rate tree.bodies i k w y)

-- a[i]: the parent's acceleration and c[i], and what the columns add, ascending
unfoldable pub a_rule : Tree → ℕ → View → Result (Motion Interval) RowFault
a_rule tree i w =
    named_as (one K.a i) (carried_to tree.bodies i w >>= λ start. sweep (moved_by tree.bodies w i) (upward 0 (joint_columns tree.bodies i)) start)

-- each value is what its rule gives, and the world accelerates against gravity
pub record AreAccelerated (tree : Tree) (row : Row) (w : View) : Type 0 where
  pub at_world : a_at w 0 ≡ world_acceleration row
  pub each_x : (i k : ℕ) → HasJointColumn tree i k → x_rule tree i k w ≡ Ok (x_at w (column_of tree.bodies i k))
  pub each_a : (i : ℕ) → HasBody tree i → a_rule tree i w ≡ Ok (a_at w i)

abbrev pub body_names : Tree → ℕ → List Place
body_names tree i = flat_map (λ k. x_of (column_of tree.bodies i k) ∷ []) (upward 0 (joint_columns tree.bodies i)) ++ (a_of i ∷ [])

abbrev pub order : Tree → List Place
order tree = a_of 0 ∷ flat_map (body_names tree) (upward 1 (length tree.bodies + 1))
