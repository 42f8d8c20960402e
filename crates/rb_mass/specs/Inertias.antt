-- The inertias of bodies with all that they bear, from the last body to the root. Featherstone, Rigid Body Dynamics Algorithms, chapter 6.
use Rattle.std.specs.Prelude.{◌≡◌, ℕ, ◌+◌, ◌==◌, if◌then◌else◌, List, length, Result, Ok}
use Rattle.rb_num.specs.Interval.{Interval}
use Rattle.rb_num.specs.Arith.{intervals}
use Rattle.rb_num.specs.declared.interval.NumFault.{NumFault}
use Rattle.rb_frac.specs.Spatial.{Inertia}
use Rattle.rb_result.specs.Steps.{◌>>=◌}
use Rattle.rb_sweep.specs.Sweep.{sweep, downward}
use Rattle.rb_spatial.specs.Inertias.{table, sum as sum_of_two}
use Rattle.rb_spatial.specs.Carrying.{carry}
use Rattle.rb_work.specs.declared.names.NameKind.TheVariants as K
use Rattle.rb_work.specs.declared.names.RowFault.{RowFault}
use Rattle.rb_work.specs.Names.{one, named_as}
use Rattle.rb_work.specs.View.{View, X_at, I_at}
use Rattle.rb_tree.specs.declared.robot.Body.{Body}
use Rattle.rb_tree.specs.Columns.{parent_at}
use Rattle.rb_tree.specs.Numbers.{inertia_at}
use Rattle.rb_tree.specs.Robot.{Tree, HasBody}

-- the inertia of body j with all that it bears, about its parent's origin, is added
unfoldable pub bear : View → ℕ → Inertia Interval → Result (Inertia Interval) NumFault
bear w j total = carry intervals (X_at w j) (I_at w j) >>= λ one. sum_of_two intervals total one

-- one more body: that of a child of body i is
unfoldable pub add_child : List Body → View → ℕ → ℕ → Inertia Interval → Result (Inertia Interval) NumFault
add_child bodies w i j total = if parent_at bodies j == i then bear w j total else Ok total

-- I[i]: the body's own, and its children's with all that they bear, descending
unfoldable pub I_rule : Tree → ℕ → View → Result (Inertia Interval) RowFault
I_rule tree i w =
    named_as (one K.I i) (sweep (add_child tree.bodies w i) (downward (i + 1) (length tree.bodies + 1)) (table intervals (inertia_at tree.bodies i)))

-- each value is what its rule gives
pub record AreInertias (tree : Tree) (w : View) : Type 0 where
  pub each_I : (i : ℕ) → HasBody tree i → I_rule tree i w ≡ Ok (I_at w i)
