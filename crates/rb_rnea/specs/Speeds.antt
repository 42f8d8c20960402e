-- The speeds of the joints and the velocities of the bodies, from the root on. Featherstone, Rigid Body Dynamics Algorithms, chapter 5.
use Rattle.std.specs.Prelude.{◌≡◌, ℕ, ◌+◌, List, [], ◌∷◌, length, flat_map, Result, Ok}
use Rattle.rb_num.specs.Interval.{Interval}
use Rattle.rb_num.specs.Arith.{intervals}
use Rattle.rb_num.specs.declared.interval.NumFault.{NumFault}
use Rattle.rb_frac.specs.Spatial.{Motion}
use Rattle.rb_result.specs.Steps.{◌>>=◌}
use Rattle.rb_sweep.specs.Sweep.{upward}
use Rattle.rb_spatial.specs.Motions.{apply, sum_spatial}
use Rattle.rb_work.specs.declared.names.NameKind.TheVariants as K
use Rattle.rb_work.specs.declared.names.RowFault.{RowFault}
use Rattle.rb_work.specs.Names.{one, named_as}
use Rattle.rb_work.specs.View.{View, X_at, s_at, v_at}
use Rattle.rb_work.specs.Zeros.{zero_motion}
use Rattle.rb_work.specs.Place.{Place, s_of, v_of}
use Rattle.rb_tree.specs.declared.robot.Body.{Body}
use Rattle.rb_tree.specs.Columns.{parent_at}
use Rattle.rb_tree.specs.Robot.{Tree, HasBody}
use Rattle.rb_tree.specs.State.{Row}
use Rattle.rb_rnea.specs.Rates.{rates_of, motion_of}

-- the rates of a joint's columns, with which its motion has to be within the limit
unfoldable pub checked_rates : List Body → List Interval → ℕ → Result (List Interval) NumFault
checked_rates bodies numbers i = rates_of bodies numbers i >>= λ rates. motion_of bodies i rates >>= λ m. Ok rates

-- s[i]: the speeds of the joint
unfoldable pub s_rule : Tree → Row → ℕ → Result (List Interval) RowFault
s_rule tree row i = named_as (one K.s i) (checked_rates tree.bodies row.v i)

-- the parent's velocity, seen from the body, and the motion over the joint
unfoldable pub velocity_by : List Body → ℕ → View → Result (Motion Interval) NumFault
velocity_by bodies i w =
    apply intervals (X_at w i) (v_at w (parent_at bodies i)) >>= λ m. motion_of bodies i (s_at w i) >>= λ j. sum_spatial intervals m j

-- v[i]: the velocity of the body
unfoldable pub v_rule : Tree → ℕ → View → Result (Motion Interval) RowFault
v_rule tree i w = named_as (one K.v i) (velocity_by tree.bodies i w)

-- each value is what its rule gives, and the world stands still
pub record AreSpeeds (tree : Tree) (row : Row) (w : View) : Type 0 where
  pub at_world : v_at w 0 ≡ zero_motion
  pub each_s : (i : ℕ) → HasBody tree i → s_rule tree row i ≡ Ok (s_at w i)
  pub each_v : (i : ℕ) → HasBody tree i → v_rule tree i w ≡ Ok (v_at w i)

abbrev pub order : Tree → List Place
order tree = v_of 0 ∷ flat_map (λ i. s_of i ∷ v_of i ∷ []) (upward 1 (length tree.bodies + 1))
