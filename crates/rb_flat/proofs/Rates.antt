-- The columns of each joint are the rates of its turn and its shift.
use Rattle.std.proofs.Common.{ℕ, zero, suc, ◌<◌, [], ◌∷◌, refl, arith}
use Rattle.rb_frac.specs.Ops.{V3, signs, vadd, vscale, vdot}
use Rattle.rb_frac.specs.Frac.{Frac}
use Rattle.rb_frac.specs.Tables.{Table, cross_table, table_product, table_sum, table_scaled}
use Rattle.rb_frac.proofs.Below.{below_six}
use Rattle.rb_frac.proofs.Ring.{Expr, expr, var}
use Rattle.rb_frac.proofs.Variables.{vector, of_vector, vectors, tables}
use Rattle.rb_flat.specs.Turns.{about_axis, about_z, about_quaternion}
use Rattle.rb_flat.specs.Joint.{Kind, Fixed, Revolute, Continuous, Prismatic, Planar, Free, joint_column, joint_turn, joint_shift}
use Rattle.rb_flat.specs.Rates.{moving, still_vector, started, started_angle, started_speed, vector_rate, table_rate, ColumnIsRate, ColumnsAreRates}

-- ---- over expressions: the variables are the rate and the axis
abbrev turn_rate : Kind → ℕ → Table Expr
turn_rate kind k = table_rate (joint_turn (moving expr) kind (still_vector expr (vector 1)) (started_angle expr k (var 0)) (started expr kind k (var 0)))

abbrev turn_column : Kind → ℕ → Table Expr
turn_column kind k = table_scaled expr (started_speed expr kind k (var 0)) (cross_table (signs expr) (joint_column (signs expr) kind (vector 1) k).ang)

abbrev shift_rate : Kind → ℕ → V3 Expr
shift_rate kind k = vector_rate (joint_shift (moving expr) kind (still_vector expr (vector 1)) (started expr kind k (var 0)))

abbrev shift_column : Kind → ℕ → V3 Expr
shift_column kind k = vscale expr (started_speed expr kind k (var 0)) (joint_column (signs expr) kind (vector 1) k).lin

-- ---- by kind
revolute : (a : V3 Frac) (h : Frac) → ColumnIsRate Revolute a 0 h
unfolding joint_column joint_turn joint_shift about_axis table_product table_sum table_scaled vadd vscale vdot
revolute a h =
    let l = h ∷ of_vector a [] in
    record {
      turn = tables l (turn_rate Revolute 0) (turn_column Revolute 0) (refl, refl, refl) (refl, refl, refl) (refl, refl, refl);
      shift = vectors l (shift_rate Revolute 0) (shift_column Revolute 0) (refl, refl, refl);
    }

continuous : (a : V3 Frac) (h : Frac) → ColumnIsRate Continuous a 0 h
unfolding joint_column joint_turn joint_shift about_axis table_product table_sum table_scaled vadd vscale vdot
continuous a h =
    let l = h ∷ of_vector a [] in
    record {
      turn = tables l (turn_rate Continuous 0) (turn_column Continuous 0) (refl, refl, refl) (refl, refl, refl) (refl, refl, refl);
      shift = vectors l (shift_rate Continuous 0) (shift_column Continuous 0) (refl, refl, refl);
    }

prismatic : (a : V3 Frac) (h : Frac) → ColumnIsRate Prismatic a 0 h
unfolding joint_column joint_turn joint_shift table_scaled vscale
prismatic a h =
    let l = h ∷ of_vector a [] in
    record {
      turn = tables l (turn_rate Prismatic 0) (turn_column Prismatic 0) (refl, refl, refl) (refl, refl, refl) (refl, refl, refl);
      shift = vectors l (shift_rate Prismatic 0) (shift_column Prismatic 0) (refl, refl, refl);
    }

planar : (a : V3 Frac) (k : ℕ) (h : Frac) → k < 3 → ColumnIsRate Planar a k h
unfolding joint_column joint_turn joint_shift about_z table_scaled vscale
planar a zero h m =
    let l = h ∷ of_vector a [] in
    record {
      turn = tables l (turn_rate Planar 0) (turn_column Planar 0) (refl, refl, refl) (refl, refl, refl) (refl, refl, refl);
      shift = vectors l (shift_rate Planar 0) (shift_column Planar 0) (refl, refl, refl);
    }
planar a (suc zero) h m =
    let l = h ∷ of_vector a [] in
    record {
      turn = tables l (turn_rate Planar 1) (turn_column Planar 1) (refl, refl, refl) (refl, refl, refl) (refl, refl, refl);
      shift = vectors l (shift_rate Planar 1) (shift_column Planar 1) (refl, refl, refl);
    }
planar a (suc (suc zero)) h m =
    let l = h ∷ of_vector a [] in
    record {
      turn = tables l (turn_rate Planar 2) (turn_column Planar 2) (refl, refl, refl) (refl, refl, refl) (refl, refl, refl);
      shift = vectors l (shift_rate Planar 2) (shift_column Planar 2) (refl, refl, refl);
    }
planar a (suc (suc (suc k))) h m = absurd (omega arith)

free_0 : (a : V3 Frac) (h : Frac) → ColumnIsRate Free a 0 h
unfolding joint_column joint_turn joint_shift about_quaternion table_product table_sum table_scaled vadd vscale vdot
free_0 a h =
    let l = h ∷ of_vector a [] in
    record {
      turn = tables l (turn_rate Free 0) (turn_column Free 0) (refl, refl, refl) (refl, refl, refl) (refl, refl, refl);
      shift = vectors l (shift_rate Free 0) (shift_column Free 0) (refl, refl, refl);
    }

free_1 : (a : V3 Frac) (h : Frac) → ColumnIsRate Free a 1 h
unfolding joint_column joint_turn joint_shift about_quaternion table_product table_sum table_scaled vadd vscale vdot
free_1 a h =
    let l = h ∷ of_vector a [] in
    record {
      turn = tables l (turn_rate Free 1) (turn_column Free 1) (refl, refl, refl) (refl, refl, refl) (refl, refl, refl);
      shift = vectors l (shift_rate Free 1) (shift_column Free 1) (refl, refl, refl);
    }

free_2 : (a : V3 Frac) (h : Frac) → ColumnIsRate Free a 2 h
unfolding joint_column joint_turn joint_shift about_quaternion table_product table_sum table_scaled vadd vscale vdot
free_2 a h =
    let l = h ∷ of_vector a [] in
    record {
      turn = tables l (turn_rate Free 2) (turn_column Free 2) (refl, refl, refl) (refl, refl, refl) (refl, refl, refl);
      shift = vectors l (shift_rate Free 2) (shift_column Free 2) (refl, refl, refl);
    }

free_3 : (a : V3 Frac) (h : Frac) → ColumnIsRate Free a 3 h
unfolding joint_column joint_turn joint_shift about_quaternion table_product table_sum table_scaled vadd vscale vdot
free_3 a h =
    let l = h ∷ of_vector a [] in
    record {
      turn = tables l (turn_rate Free 3) (turn_column Free 3) (refl, refl, refl) (refl, refl, refl) (refl, refl, refl);
      shift = vectors l (shift_rate Free 3) (shift_column Free 3) (refl, refl, refl);
    }

free_4 : (a : V3 Frac) (h : Frac) → ColumnIsRate Free a 4 h
unfolding joint_column joint_turn joint_shift about_quaternion table_product table_sum table_scaled vadd vscale vdot
free_4 a h =
    let l = h ∷ of_vector a [] in
    record {
      turn = tables l (turn_rate Free 4) (turn_column Free 4) (refl, refl, refl) (refl, refl, refl) (refl, refl, refl);
      shift = vectors l (shift_rate Free 4) (shift_column Free 4) (refl, refl, refl);
    }

free_5 : (a : V3 Frac) (h : Frac) → ColumnIsRate Free a 5 h
unfolding joint_column joint_turn joint_shift about_quaternion table_product table_sum table_scaled vadd vscale vdot
free_5 a h =
    let l = h ∷ of_vector a [] in
    record {
      turn = tables l (turn_rate Free 5) (turn_column Free 5) (refl, refl, refl) (refl, refl, refl) (refl, refl, refl);
      shift = vectors l (shift_rate Free 5) (shift_column Free 5) (refl, refl, refl);
    }

pub columns_are_rates : ColumnsAreRates
columns_are_rates Fixed a k h m = absurd (omega arith)
columns_are_rates Revolute a zero h m = revolute a h
columns_are_rates Revolute a (suc k) h m = absurd (omega arith)
columns_are_rates Continuous a zero h m = continuous a h
columns_are_rates Continuous a (suc k) h m = absurd (omega arith)
columns_are_rates Prismatic a zero h m = prismatic a h
columns_are_rates Prismatic a (suc k) h m = absurd (omega arith)
columns_are_rates Planar a k h m = planar a k h m
columns_are_rates Free a k h m =
    below_six (λ j. ColumnIsRate Free a j h) (free_0 a h) (free_1 a h) (free_2 a h) (free_3 a h) (free_4 a h) (free_5 a h) k m
