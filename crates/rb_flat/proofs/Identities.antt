-- Identities between tables of fractions, each as one of polynomials.
use Rattle.std.proofs.Common.{[], ◌∷◌, refl}
use Rattle.rb_frac.specs.Ops.{signs, vadd, vscale, vdot, vcross}
use Rattle.rb_frac.specs.Frac.{Frac, fracs}
use Rattle.rb_frac.specs.Tables.{transpose, full, upper, unit, cross_table, table_times, table_product, table_sum, table_scaled, outer, congruent}
use Rattle.rb_frac.specs.Spatial.{SineCosine}
use Rattle.rb_frac.specs.Mechanics.{parallel_axes, symmetric_sum, body_of}
use Rattle.rb_frac.proofs.Ring.{expr, var}
use Rattle.rb_frac.proofs.Variables.{vector, rows, frame, symmetric, sine_cosine, quaternion, of_vector, of_rows, of_frame, of_symmetric, of_sine_cosine, of_quaternion, at, vectors, tables}
use Rattle.rb_frac.proofs.Hom.{frac_ring}
use Rattle.rb_flat.specs.Turns.{about_x, about_y, about_z, roll_pitch_yaw, about_axis, about_quaternion, placed}
use Rattle.rb_flat.specs.Body.{about_centre, chosen_inertia}
use Rattle.rb_flat.specs.Laws.{TurnKeepsAxis, QuaternionKeepsVector, TurnsAboutCoordinates, RollPitchYawInTurn, PointsInTurn, InertiaAboutAxis, CongruentIsSymmetric, ParallelAxesIsSquare}

pub turn_keeps_axis : TurnKeepsAxis
unfolding table_times about_axis table_product table_sum table_scaled vadd vscale vdot
turn_keeps_axis a t =
    vectors (of_vector a (of_sine_cosine t [])) (table_times expr (about_axis expr (vector 0) (sine_cosine 3)) (vector 0)) (vector 0) (refl, refl, refl)

pub quaternion_keeps_vector : QuaternionKeepsVector
unfolding table_times about_quaternion table_product table_sum table_scaled vadd vscale vdot
quaternion_keeps_vector q =
    vectors (of_quaternion q []) (table_times expr (about_quaternion expr (quaternion 0)) (vector 0)) (vector 0) (refl, refl, refl)

pub turns_about_coordinates : (t : SineCosine Frac) → TurnsAboutCoordinates t
unfolding about_x about_y about_z about_axis table_product table_sum table_scaled vadd vscale vdot
turns_about_coordinates t =
    let l = of_sine_cosine t [] in
    record {
      x = tables l (about_axis expr (unit (signs expr) 0) (sine_cosine 0)) (about_x (signs expr) (sine_cosine 0)) (refl, refl, refl) (refl, refl, refl) (refl, refl, refl);
      y = tables l (about_axis expr (unit (signs expr) 1) (sine_cosine 0)) (about_y (signs expr) (sine_cosine 0)) (refl, refl, refl) (refl, refl, refl) (refl, refl, refl);
      z = tables l (about_axis expr (unit (signs expr) 2) (sine_cosine 0)) (about_z (signs expr) (sine_cosine 0)) (refl, refl, refl) (refl, refl, refl) (refl, refl, refl);
    }

pub roll_pitch_yaw_in_turn : RollPitchYawInTurn
unfolding about_x about_y about_z roll_pitch_yaw table_times table_product vdot
roll_pitch_yaw_in_turn roll pitch yaw v =
    let s = signs expr in
    vectors (of_sine_cosine roll (of_sine_cosine pitch (of_sine_cosine yaw (of_vector v []))))
    (table_times expr (roll_pitch_yaw expr (sine_cosine 0) (sine_cosine 2) (sine_cosine 4)) (vector 6))
    (table_times expr (about_z s (sine_cosine 4)) (table_times expr (about_y s (sine_cosine 2)) (table_times expr (about_x s (sine_cosine 0)) (vector 6))))
    (refl, refl, refl)

pub points_in_turn : PointsInTurn
unfolding placed table_times table_product vadd vdot
points_in_turn f turn p v =
    let x = placed expr (frame 0) (rows 12) (vector 21) in
    vectors (of_frame f (of_rows turn (of_vector p (of_vector v []))))
    (vadd expr x.r (table_times expr (transpose x.e) (vector 24)))
    (vadd expr (vector 9) (table_times expr (rows 0) (vadd expr (vector 21) (table_times expr (rows 12) (vector 24)))))
    (refl, refl, refl)

pub inertia_about_axis : InertiaAboutAxis
unfolding chosen_inertia about_centre body_of symmetric_sum parallel_axes outer congruent table_times table_product table_sum table_scaled vadd vscale vdot vcross
inertia_about_axis b w =
    let r = roll_pitch_yaw fracs b.roll b.pitch b.yaw in
    let u = table_times expr (transpose (rows 0)) (vector 15) in
    let d = vcross expr (vector 15) (vector 19) in
    let six = (body_of expr (var 18) (vector 19) (upper (congruent expr (rows 0) (full (symmetric 9))))).six in
    frac_ring (at (of_rows r (of_symmetric b.six (of_vector w (b.mass ∷ of_vector b.centre [])))))
    (vdot expr (vector 15) (table_times expr (full six) (vector 15)))
    (expr.add (vdot expr u (table_times expr (full (symmetric 9)) u)) (expr.mul (var 18) (vdot expr d d)))
    refl

pub congruent_is_symmetric : CongruentIsSymmetric
unfolding congruent table_product vdot
congruent_is_symmetric r j =
    let t = congruent expr (rows 0) (full (symmetric 9)) in
    tables (of_rows r (of_symmetric j [])) t (transpose t) (refl, refl, refl) (refl, refl, refl) (refl, refl, refl)

pub parallel_axes_is_square : ParallelAxesIsSquare
unfolding parallel_axes outer table_product table_sum table_scaled vadd vscale vdot
parallel_axes_is_square m c =
    tables (m ∷ of_vector c []) (parallel_axes expr (var 0) (vector 1))
    (table_scaled expr (expr.neg (var 0)) (table_product expr (cross_table (signs expr) (vector 1)) (cross_table (signs expr) (vector 1))))
    (refl, refl, refl) (refl, refl, refl) (refl, refl, refl)
