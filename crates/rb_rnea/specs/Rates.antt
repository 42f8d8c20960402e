-- The rates of the joints, and the motion over a joint. Featherstone, Rigid Body Dynamics Algorithms, chapter 3.
use Rattle.std.specs.Prelude.{ℕ, ◌-◌, List, [], ◌∷◌, take, Option, None, Some, Result, Ok}
use Rattle.rb_num.specs.Interval.{Interval}
use Rattle.rb_num.specs.Dot.{iv_dot}
use Rattle.rb_num.specs.declared.interval.NumFault.{NumFault}
use Rattle.rb_frac.specs.Spatial.{Motion}
use Rattle.rb_result.specs.Steps.{◌>>=◌}
use Rattle.rb_flat.specs.Joint as Kinds
use Rattle.rb_flat.specs.Choice.{items_from}
use Rattle.rb_joint.specs.Any.{kind_of}
use Rattle.rb_joint.specs.Columns.{joint_motion}
use Rattle.rb_tree.specs.declared.robot.Body.{Body}
use Rattle.rb_tree.specs.declared.robot.Mimic.{Mimic}
use Rattle.rb_tree.specs.Columns.{first_column}
use Rattle.rb_tree.specs.Numbers.{joint_at, mimic_at}
use Rattle.rb_tree.specs.State.{at_place}
use Rattle.rb_tree.specs.Places.{padded}

-- the columns of the joint of body i, also where it follows another
abbrev pub joint_columns : List Body → ℕ → ℕ
joint_columns bodies i = Kinds.column_count (kind_of (joint_at bodies i))

-- the rates of the columns of the joint of body i, of which column c has the place c - 1: its own, or its master's times the multiplier
abbrev pub rates_by : List Body → List Interval → ℕ → Option Mimic → Result (List Interval) NumFault
rates_by bodies numbers i None = Ok (padded 6 (items_from (at_place numbers) (first_column bodies i - 1) (joint_columns bodies i)))
rates_by bodies numbers i (Some mimic) =
    iv_dot ((mimic.multiplier, at_place numbers (first_column bodies i - 1)) ∷ []) >>= λ x. Ok (padded 6 (x ∷ []))

unfoldable pub rates_of : List Body → List Interval → ℕ → Result (List Interval) NumFault
rates_of bodies numbers i = rates_by bodies numbers i (mimic_at bodies i)

-- the motion over the joint of body i at these rates
unfoldable pub motion_of : List Body → ℕ → List Interval → Result (Motion Interval) NumFault
motion_of bodies i rates = joint_motion (joint_at bodies i) (take (joint_columns bodies i) rates)

-- and at the numbers of the columns
unfoldable pub motion_by : List Body → List Interval → ℕ → Result (Motion Interval) NumFault
motion_by bodies numbers i = rates_of bodies numbers i >>= λ rates. motion_of bodies i rates
