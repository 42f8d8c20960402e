-- The forces that move composite bodies along the columns of their joints, seen from the bodies above them, and the entries of pairs of columns. A
-- joint that follows another has columns of its own here. Featherstone, Rigid Body Dynamics Algorithms, chapter 6.
use Rattle.std.specs.Prelude.{◌≡◌, ℕ, zero, suc, ◌+◌, ◌<◌, ◌==◌, if◌then◌else◌, ⊤, List, length, Result, Ok}
use Rattle.rb_num.specs.Interval.{Interval}
use Rattle.rb_num.specs.Arith.{intervals}
use Rattle.rb_num.specs.declared.interval.NumFault.{NumFault}
use Rattle.rb_frac.specs.Spatial.{Force}
use Rattle.rb_result.specs.Steps.{◌>>=◌}
use Rattle.rb_spatial.specs.Motions.{apply_dual}
use Rattle.rb_spatial.specs.Inertias.{times}
use Rattle.rb_joint.specs.Any.{any_column}
use Rattle.rb_joint.specs.Columns.{joint_power}
use Rattle.rb_composite.specs.Composite.{ancestor}
use Rattle.rb_work.specs.declared.names.NameKind.TheVariants as K
use Rattle.rb_work.specs.declared.names.RowFault.{RowFault}
use Rattle.rb_work.specs.Names.{one, named_as}
use Rattle.rb_work.specs.View.{View, X_at, I_at, H_at}
use Rattle.rb_tree.specs.declared.robot.Body.{Body}
use Rattle.rb_tree.specs.Columns.{parent_at, full_at, first_full}
use Rattle.rb_tree.specs.Numbers.{joint_at}
use Rattle.rb_tree.specs.Shape.{shape_of}
use Rattle.rb_tree.specs.Robot.{Tree, HasBody}

-- the joint of body i has a column k, from 0
pub record HasJointColumn (tree : Tree) (i k : ℕ) : Type 0 where
  pub body : HasBody tree i
  pub below : k < full_at tree.bodies i

-- the body so many steps above body i, or the world
abbrev pub above : Tree → ℕ → ℕ → ℕ
above tree i n = ancestor (shape_of tree) i n

-- with how many columns of body a column k of body i makes a pair: with those up to itself of its own joint, and with all of a joint above
abbrev pub met_columns : List Body → ℕ → ℕ → ℕ → ℕ
met_columns bodies i k a = if a == i then k + 1 else full_at bodies a

-- columns k of body i and l of the body n steps above make a pair
pub record HasEntry (tree : Tree) (i k n l : ℕ) : Type 0 where
  pub column : HasJointColumn tree i k
  pub steps : n < length tree.bodies
  pub below : l < met_columns tree.bodies i k (above tree i n)

-- a force on body a, seen from its parent, or from body a where its parent is the world
unfoldable pub leave : List Body → View → ℕ → Force Interval → Result (Force Interval) NumFault
leave bodies w a f = if parent_at bodies a == 0 then Ok f else apply_dual intervals (X_at w a) f

-- the force that moves body i, with all that it bears, along column k of its joint, seen from the body n steps above, or from the last below the world
unfoldable pub force : Tree → View → ℕ → ℕ → ℕ → Result (Force Interval) NumFault
force tree w i k zero = times intervals (I_at w i) (any_column (joint_at tree.bodies i) k)
force tree w i k (suc n) = force tree w i k n >>= λ f. leave tree.bodies w (above tree i n) f

-- the entry of columns k of body i and l of the body n steps above: the power of that force along the second
unfoldable pub H_rule : Tree → ℕ → ℕ → ℕ → ℕ → View → Result Interval RowFault
H_rule tree i k n l w = named_as (one K.H i) (force tree w i k n >>= λ f. joint_power (joint_at tree.bodies (above tree i n)) l f)

-- the force is within the limit all the way up
unfoldable pub carried_rule : Tree → ℕ → ℕ → View → Result ⊤ RowFault
carried_rule tree i k w = named_as (one K.H i) (force tree w i k (length tree.bodies) >>= λ f. Ok tt)

-- what a work holds for columns k of body i and l of body a
abbrev pub entry_at : List Body → View → ℕ → ℕ → ℕ → ℕ → Interval
entry_at bodies w i k a l = H_at w (first_full bodies i + k) (first_full bodies a + l)

-- each value is what its rule gives
pub record AreEntries (tree : Tree) (w : View) : Type 0 where
  pub each_H : (i k n l : ℕ) → HasEntry tree i k n l → H_rule tree i k n l w ≡ Ok (entry_at tree.bodies w i k (above tree i n) l)
  pub each_carried : (i k : ℕ) → HasJointColumn tree i k → carried_rule tree i k w ≡ Ok tt
