-- The forces across the joints, to the root. Featherstone, Rigid Body Dynamics Algorithms, chapter 5.
use Rattle.std.specs.Prelude.{◌≡◌, ℕ, ◌+◌, ◌==◌, if◌then◌else◌, List, [], ◌∷◌, length, flat_map, Result, Ok}
use Rattle.rb_num.specs.Interval.{Interval}
use Rattle.rb_num.specs.Arith.{intervals}
use Rattle.rb_num.specs.declared.interval.NumFault.{NumFault}
use Rattle.rb_frac.specs.Spatial.{Force}
use Rattle.rb_result.specs.Steps.{◌>>=◌}
use Rattle.rb_sweep.specs.Sweep.{sweep, downward}
use Rattle.rb_spatial.specs.Motions.{apply_dual, sum_spatial}
use Rattle.rb_work.specs.declared.names.NameKind.TheVariants as K
use Rattle.rb_work.specs.declared.names.RowFault.{RowFault}
use Rattle.rb_work.specs.Names.{one, named_as}
use Rattle.rb_work.specs.View.{View, X_at, b_at, f_at}
use Rattle.rb_work.specs.Place.{Place, f_of}
use Rattle.rb_tree.specs.declared.robot.Body.{Body}
use Rattle.rb_tree.specs.Columns.{parent_at}
use Rattle.rb_tree.specs.Robot.{Tree, HasBody}

-- what the joint of body j bears, seen from its parent, is added
unfoldable pub join_child : View → ℕ → Force Interval → Result (Force Interval) NumFault
join_child w j sum = apply_dual intervals (X_at w j) (f_at w j) >>= λ g. sum_spatial intervals sum g

-- one more body: that of a child of body i is
unfoldable pub add_child : List Body → View → ℕ → ℕ → Force Interval → Result (Force Interval) NumFault
add_child bodies w i j sum = if parent_at bodies j == i then join_child w j sum else Ok sum

-- f[i]: what the body needs, and what the joints of its children bear, descending
unfoldable pub f_rule : Tree → ℕ → View → Result (Force Interval) RowFault
f_rule tree i w =
    named_as (one K.f i) (sweep (add_child tree.bodies w i) (downward (i + 1) (length tree.bodies + 1)) (b_at w i))

-- each value is what its rule gives
pub record AreForces (tree : Tree) (w : View) : Type 0 where
  pub each_f : (i : ℕ) → HasBody tree i → f_rule tree i w ≡ Ok (f_at w i)

abbrev pub order : Tree → List Place
order tree = flat_map (λ i. f_of i ∷ []) (downward 1 (length tree.bodies + 1))
