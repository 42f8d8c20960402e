-- What the sweeps of a row leave, behind the places and the speeds.
use Rattle.std.specs.Prelude.{ℕ, ◌+◌, length, slice_set, Result, Ok}
use Rattle.rb_num.specs.Interval.{Interval}
use Rattle.rb_num.specs.Arith.{intervals, interval_field}
use Rattle.rb_frac.specs.Spatial.{Motion}
use Rattle.rb_result.specs.Steps.{◌>>=◌}
use Rattle.rb_sweep.specs.Sweep.{sweep, upward, downward}
use Rattle.rb_spatial.specs.Motions.{power}
use Rattle.rb_spatial.specs.Inertias.{times}
use Rattle.rb_work.specs.declared.names.NameKind.TheVariants as K
use Rattle.rb_work.specs.declared.names.RowFault.{RowFault}
use Rattle.rb_work.specs.Names.{one, named_as, pivot_as}
use Rattle.rb_work.specs.Path.{packed_place}
use Rattle.rb_work.specs.View.{View, c_at, U_at, D_at, u_at}
use Rattle.rb_tree.specs.Robot.{Tree}
use Rattle.rb_tree.specs.State.{Row}
use Rattle.rb_rnea.specs.Rates.{joint_columns}
use Rattle.rb_rnea.specs.Accelerations.{world_acceleration, c_rule}
use Rattle.rb_rnea.specs.Steps.{speeds_of}
use Rattle.rb_articulated.specs.Rules.{and_multiple, less_power}
use Rattle.rb_aba.specs.Articulated.{Rest, column_of, axis_at, torque_at, IA_rule, p_rule, give_way, handed_with}
use Rattle.rb_aba.specs.Accelerations.{carried_to}

-- ---- from the leaves to the root
-- what a body leaves as its columns give way: the work, and the inertia and the bias that are left
abbrev pub Giving : Type 0
Giving = View × Rest

abbrev pub giving : View → Rest → Giving
giving w rest = (w, rest)

-- column c, which moves its body along the axis, gives way to this torque
unfoldable pub column_by : ℕ → Motion Interval → Interval → Giving → Result Giving RowFault
column_by c axis torque s =
    let w = s.0 in
    named_as (one K.U c) (times intervals s.1.0 axis) >>= λ U.
    named_as (one K.D c) (power intervals axis U) >>= λ power.
    pivot_as (one K.D c) power >>= λ D.
    named_as (one K.u c) (less_power intervals torque axis s.1.1) >>= λ u.
    named_as (one K.u c) (give_way U D u s.1) >>= λ rest.
    Ok (giving (record w { U = slice_set w.U c U; packed = slice_set w.packed (packed_place w.up c c) D; u = slice_set w.u c u }) rest)

abbrev pub column_step : Tree → Row → ℕ → ℕ → Giving → Result Giving RowFault
column_step tree row i k s =
    let c = column_of tree.bodies i k in
    column_by c (axis_at tree.bodies i k) (torque_at row c) s

abbrev pub columns_of : Tree → Row → ℕ → Giving → Result Giving RowFault
columns_of tree row i s = sweep (column_step tree row i) (downward 0 (joint_columns tree.bodies i)) s

-- what is left once all columns have given way, and what the parent gets of it
unfoldable pub handed_by : ℕ → Giving → Result View RowFault
handed_by i s =
    let w = s.0 in
    let rest = s.1 in
    named_as (one K.pa i) (handed_with rest (c_at w i)) >>= λ pa.
    Ok (record w { IA = slice_set w.IA i rest.0; p = slice_set w.p i rest.1; Ia = slice_set w.Ia i rest.0; pa = slice_set w.pa i pa })

-- the same, of what is left and the work where it was
abbrev pub giving_in : View → Result Rest RowFault → Result Giving RowFault
giving_in w result = result >>= λ rest. Ok (giving w rest)

-- a body with all that it bears, before its own columns give way
unfoldable pub first_step : Tree → ℕ → View → Result Giving RowFault
first_step tree i w =
    c_rule tree i w >>= λ c.
    let w1 = record w { c = slice_set w.c i c } in
    IA_rule tree i w1 >>= λ inertia.
    p_rule tree i w1 >>= λ bias.
    Ok (giving w1 (inertia, bias))

unfoldable pub up_step : Tree → Row → ℕ → View → Result View RowFault
up_step tree row i w = first_step tree i w >>= λ first. (columns_of tree row i first >>= λ last. handed_by i last)

abbrev pub ups_of : Tree → Row → View → Result View RowFault
ups_of tree row w = sweep (up_step tree row) (downward 1 (length tree.bodies + 1)) w

-- ---- from the root on
-- what a body leaves as its columns add their accelerations: the work, and the body's acceleration so far
abbrev pub Moving : Type 0
Moving = View × Motion Interval

abbrev pub moving : View → Motion Interval → Moving
moving w y = (w, y)

-- column c moves its body along the axis
unfoldable pub rate_by : ℕ → Motion Interval → Moving → Result Moving RowFault
rate_by c axis s =
    let w = s.0 in
    named_as (one K.x c) (less_power intervals (u_at w c) s.1 (U_at w c)) >>= λ r.
    named_as (one K.x c) (interval_field.div r (D_at w c)) >>= λ x.
    named_as (one K.x c) (and_multiple intervals s.1 x axis) >>= λ y.
    Ok (moving (record w { x = slice_set w.x c x }) y)

abbrev pub rate_step : Tree → ℕ → ℕ → Moving → Result Moving RowFault
rate_step tree i k s = rate_by (column_of tree.bodies i k) (axis_at tree.bodies i k) s

abbrev pub rates_of : Tree → ℕ → Moving → Result Moving RowFault
rates_of tree i s = sweep (rate_step tree i) (upward 0 (joint_columns tree.bodies i)) s

unfoldable pub down_step : Tree → ℕ → View → Result View RowFault
down_step tree i w =
    named_as (one K.a i) (carried_to tree.bodies i w) >>= λ start.
    rates_of tree i (moving w start) >>= λ s.
    Ok (record s.0 { a = slice_set s.0.a i s.1 })

abbrev pub downs_of : Tree → Row → View → Result View RowFault
downs_of tree row w =
    sweep (down_step tree) (upward 1 (length tree.bodies + 1)) (record w { a = slice_set w.a 0 (world_acceleration row) })

-- one after the other, behind the places
abbrev pub sweeps_of : Tree → Row → View → Result View RowFault
sweeps_of tree row w = speeds_of tree row w >>= λ v. (ups_of tree row v >>= λ u. downs_of tree row u)
