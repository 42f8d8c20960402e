-- What the joints bear along their columns, and the torques of the columns. Featherstone, Rigid Body Dynamics Algorithms, chapter 5.
use Rattle.std.specs.Prelude.{◌≡◌, ℕ, ◌+◌, ◌-◌, if◌then◌else◌, List, [], ◌∷◌, length, replicate, slice_set, flat_map, Result, Ok}
use Rattle.rb_num.specs.Interval.{Interval, zero_interval}
use Rattle.rb_num.specs.Dot.{iv_dot}
use Rattle.rb_num.specs.Refusing.{iv_add}
use Rattle.rb_num.specs.declared.interval.NumFault.{NumFault}
use Rattle.rb_result.specs.Steps.{◌>>=◌}
use Rattle.rb_sweep.specs.Sweep.{sweep, upward}
use Rattle.rb_flat.specs.Dynamics.{follows}
use Rattle.rb_joint.specs.Columns.{joint_power}
use Rattle.rb_work.specs.declared.names.NameKind.TheVariants as K
use Rattle.rb_work.specs.declared.names.RowFault.{RowFault}
use Rattle.rb_work.specs.Names.{one, named_as}
use Rattle.rb_work.specs.View.{View, f_at, t_at, T_at}
use Rattle.rb_work.specs.Place.{Place, t_of, T_of}
use Rattle.rb_tree.specs.declared.robot.Body.{Body}
use Rattle.rb_tree.specs.Columns.{column_count, first_column, body_of_column}
use Rattle.rb_tree.specs.Numbers.{joint_at, mimic_at}
use Rattle.rb_tree.specs.Shape.{master_of, following_at}
use Rattle.rb_tree.specs.Robot.{Tree, HasBody, HasColumn}
use Rattle.rb_tree.specs.State.{at_place}
use Rattle.rb_rnea.specs.Rates.{joint_columns}

-- one more column
unfoldable pub add_power : List Body → View → ℕ → ℕ → List Interval → Result (List Interval) NumFault
add_power bodies w i k powers = joint_power (joint_at bodies i) k (f_at w i) >>= λ x. Ok (slice_set powers k x)

-- t[i]: what the joint bears along each of its columns, and zeros behind them
unfoldable pub t_rule : Tree → ℕ → View → Result (List Interval) RowFault
t_rule tree i w =
    named_as (one K.t i) (sweep (add_power tree.bodies w i) (upward 0 (joint_columns tree.bodies i)) (replicate 6 zero_interval))

-- one more body: a joint that follows that of body i adds what it bears along column k, times its multiplier
unfoldable pub add_follower : List Body → View → ℕ → ℕ → ℕ → Interval → Result Interval NumFault
add_follower bodies w i k j sum =
    if follows (master_of (mimic_at bodies j)) i
    then (iv_dot (((following_at bodies j).multiplier, at_place (t_at w j) k) ∷ []) >>= λ x. iv_add sum x)
    else Ok sum

-- T[c]: what its joint bears along column c, and what the joints that follow do, ascending
unfoldable pub T_rule : Tree → ℕ → View → Result Interval RowFault
T_rule tree c w =
    let i = body_of_column tree.bodies c in
    let k = c - first_column tree.bodies i in
    named_as (one K.T c) (sweep (add_follower tree.bodies w i k) (upward 1 (length tree.bodies + 1)) (at_place (t_at w i) k))

-- each value is what its rule gives
pub record AreTorques (tree : Tree) (w : View) : Type 0 where
  pub each_t : (i : ℕ) → HasBody tree i → t_rule tree i w ≡ Ok (t_at w i)
  pub each_T : (c : ℕ) → HasColumn tree c → T_rule tree c w ≡ Ok (T_at w c)

abbrev pub body_order : Tree → List Place
body_order tree = flat_map (λ i. t_of i ∷ []) (upward 1 (length tree.bodies + 1))

abbrev pub column_order : Tree → List Place
column_order tree = flat_map (λ c. T_of c ∷ []) (upward 1 (column_count tree.bodies + 1))
