-- What the sweeps leave.
use Rattle.std.specs.Prelude.{ℕ, ◌+◌, max, min, if◌then◌else◌, List, length, map, slice_set, Result, Ok}
use Rattle.rb_num.specs.Interval.{Interval}
use Rattle.rb_num.specs.Arith.{intervals}
use Rattle.rb_num.specs.declared.interval.NumFault.{NumFault}
use Rattle.rb_frac.specs.Spatial.{Force}
use Rattle.rb_result.specs.Steps.{◌>>=◌}
use Rattle.rb_sweep.specs.Sweep.{sweep, upward, downward}
use Rattle.rb_spatial.specs.Inertias.{times}
use Rattle.rb_joint.specs.Any.{any_column}
use Rattle.rb_joint.specs.Columns.{joint_power}
use Rattle.rb_work.specs.declared.names.NameKind.TheVariants as K
use Rattle.rb_work.specs.declared.names.RowFault.{RowFault}
use Rattle.rb_work.specs.Names.{one, named_as}
use Rattle.rb_work.specs.Path.{path, is_on, packed_place}
use Rattle.rb_work.specs.View.{View, I_at, full_place}
use Rattle.rb_tree.specs.declared.robot.Body.{Body}
use Rattle.rb_tree.specs.Columns.{column_count, full_at, first_full}
use Rattle.rb_tree.specs.Numbers.{joint_at}
use Rattle.rb_tree.specs.Robot.{Tree}
use Rattle.rb_mass.specs.Inertias.{I_rule}
use Rattle.rb_mass.specs.Entries.{met_columns, leave}
use Rattle.rb_mass.specs.Table.{ups_of, M_rule}

-- the body above each, from body 1 on
abbrev pub parents_of : List Body → List ℕ
parents_of bodies = map (λ body. body.parent) bodies

-- ---- inertias
unfoldable pub inertia_step : Tree → ℕ → View → Result View RowFault
inertia_step tree i w = I_rule tree i w >>= λ x. Ok (record w { I = slice_set w.I i x })

abbrev pub inertias_of : Tree → View → Result View RowFault
inertias_of tree w = sweep (inertia_step tree) (downward 1 (length tree.bodies + 1)) w

-- ---- entries
-- that of full column f and column l of body a, from a force seen from body a
unfoldable pub entry_step : List Body → ℕ → ℕ → Force Interval → ℕ → View → Result View NumFault
entry_step bodies f a force l w =
    joint_power (joint_at bodies a) l force >>= λ x. Ok (record w { H = slice_set w.H (full_place w f (first_full bodies a + l)) x })

abbrev pub entries_on : List Body → ℕ → ℕ → ℕ → Force Interval → View → Result View NumFault
entries_on bodies i k a force w = sweep (entry_step bodies (first_full bodies i + k) a force) (upward 0 (met_columns bodies i k a)) w

-- a force on the way upward, and the work
pub record Way : Type 0 where
  pub force : Force Interval
  pub work : View

abbrev pub goes_on : Result (Force Interval) NumFault → View → Result Way NumFault
goes_on seen w = seen >>= λ g. Ok (record { force = g; work = w })

unfoldable pub way_step : List Body → ℕ → ℕ → ℕ → Way → Result Way NumFault
way_step bodies i k a s =
    entries_on bodies i k a s.force s.work >>= λ w. goes_on (leave bodies w a s.force) w

-- from a force on body i
abbrev pub way_from : List Body → ℕ → ℕ → View → Force Interval → Result View NumFault
way_from bodies i k w force = sweep (way_step bodies i k) (path (parents_of bodies) i) (record { force = force; work = w }) >>= λ s. Ok s.work

-- from the force that moves body i along column k
unfoldable pub column_walk : List Body → ℕ → ℕ → View → Result View NumFault
column_walk bodies i k w = times intervals (I_at w i) (any_column (joint_at bodies i) k) >>= λ force. way_from bodies i k w force

unfoldable pub column_step : Tree → ℕ → ℕ → View → Result View RowFault
column_step tree i k w = named_as (one K.H i) (column_walk tree.bodies i k w)

unfoldable pub joint_step : Tree → ℕ → View → Result View RowFault
joint_step tree i w = sweep (column_step tree i) (upward 0 (full_at tree.bodies i)) w

abbrev pub entries_of : Tree → View → Result View RowFault
entries_of tree w = sweep (joint_step tree) (upward 1 (length tree.bodies + 1)) w

-- ---- the table
unfoldable pub pair_step : Tree → ℕ → ℕ → View → Result View RowFault
pair_step tree c d w =
    if is_on (ups_of tree) d c
    then (M_rule tree c d w >>= λ x. Ok (record w { packed = slice_set w.packed (packed_place w.up (max c d) (min c d)) x }))
    else Ok w

unfoldable pub mass_step : Tree → ℕ → View → Result View RowFault
mass_step tree c w = sweep (pair_step tree c) (upward c (column_count tree.bodies + 1)) w

abbrev pub masses_of : Tree → View → Result View RowFault
masses_of tree w = sweep (mass_step tree) (upward 1 (column_count tree.bodies + 1)) w

-- one after the other
abbrev pub sweeps_of : Tree → View → Result View RowFault
sweeps_of tree w = inertias_of tree w >>= λ s. (entries_of tree s >>= λ t. masses_of tree t)
