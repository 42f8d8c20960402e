-- Identities between the rules of joints at fractions, each as one of polynomials.
use Rattle.std.proofs.Common.{[], ◌∷◌, refl}
use Rattle.rb_frac.specs.Ops.{V3, signs, vadd, vscale, vdot}
use Rattle.rb_frac.specs.Pairs.{dot}
use Rattle.rb_frac.specs.Frac.{Frac, Same, fracs}
use Rattle.rb_frac.specs.Tables.{nothing, identity, table_times, table_product, table_sum, table_scaled}
use Rattle.rb_frac.specs.Spatial.{Frame, Places, SineCosine, Quaternion}
use Rattle.rb_frac.proofs.Ring.{expr, var}
use Rattle.rb_frac.proofs.Variables.{vector, rows, frame, sine_cosine, quaternion, of_vector, of_rows, of_frame, of_sine_cosine, of_quaternion, vectors, tables}
use Rattle.rb_num.specs.Arith.{fractions}
use Rattle.rb_num.proofs.Bridges.{expressions}
use Rattle.rb_spatial.specs.Motions.{multiple}
use Rattle.rb_spatial.specs.Carrying.{row_mul, product}
use Rattle.rb_flat.specs.Turns.{about_x, about_y, about_z, roll_pitch_yaw, about_axis, about_quaternion, placed}
use Rattle.rb_joint.specs.Turns.{rotation_row_x, rotation_row_y, rotation_row_z, rotation, axis_products, axis_row_x, axis_row_y, axis_row_z, turn_about, quaternion_row_x, quaternion_row_y, quaternion_row_z, twice, turn_of}
use Rattle.rb_joint.specs.Places.{outside, place_of, place_shifted}
use Rattle.rb_joint.specs.Models.{place_fixed, place_turned, place_along, place_level, place_free}
use Rattle.rb_joint.specs.Laws.{RotationIsProduct, TurnIsAboutAxis, TurnIsAboutQuaternion, PlaceIsProduct, ShiftedPlaceTurnsNot}

pub rotation-product : RotationIsProduct
unfolding rotation rotation_row_x rotation_row_y rotation_row_z dot roll_pitch_yaw table_product about_x about_y about_z vdot
rotation-product roll pitch yaw =
    tables (of_sine_cosine roll (of_sine_cosine pitch (of_sine_cosine yaw [])))
    (rotation expressions (sine_cosine 0) (sine_cosine 2) (sine_cosine 4))
    (roll_pitch_yaw expr (sine_cosine 0) (sine_cosine 2) (sine_cosine 4))
    (refl, refl, refl) (refl, refl, refl) (refl, refl, refl)

pub turn_about-axis : TurnIsAboutAxis
unfolding turn_about axis_products axis_row_x axis_row_y axis_row_z dot about_axis table_product table_sum table_scaled vadd vscale vdot
turn_about-axis a t =
    tables (of_vector a (of_sine_cosine t []))
    (turn_about expressions (vector 0) (axis_products expressions (vector 0)) (sine_cosine 3))
    (about_axis expr (vector 0) (sine_cosine 3))
    (refl, refl, refl) (refl, refl, refl) (refl, refl, refl)

pub turn_of-quaternion : TurnIsAboutQuaternion
unfolding turn_of twice quaternion_row_x quaternion_row_y quaternion_row_z dot about_quaternion table_product table_sum table_scaled vadd vscale vdot
turn_of-quaternion q =
    tables (of_quaternion q []) (turn_of expressions (quaternion 0)) (about_quaternion expr (quaternion 0))
    (refl, refl, refl) (refl, refl, refl) (refl, refl, refl)

pub place_of-placed : PlaceIsProduct
unfolding place_of product row_mul outside dot placed table_product table_times vadd vdot
place_of-placed f t p =
    let l = of_frame f (of_rows t (of_vector p [])) in
    let got = place_of expressions (frame 0) (rows 12) (vector 21) in
    let want = (placed expr (frame 0) (rows 12) (vector 21)) in
    record {
      e = tables l got.e want.e (refl, refl, refl) (refl, refl, refl) (refl, refl, refl);
      r = vectors l got.r want.r (refl, refl, refl);
    }

pub place_shifted-placed : ShiftedPlaceTurnsNot
unfolding place_shifted outside dot placed table_product table_times vadd vdot
place_shifted-placed f p =
    let l = of_frame f (of_vector p []) in
    let got = place_shifted expressions (frame 0) (vector 12) in
    let want = (placed expr (frame 0) (identity (signs expr)) (vector 12)) in
    record {
      e = tables l got.e want.e (refl, refl, refl) (refl, refl, refl) (refl, refl, refl);
      r = vectors l got.r want.r (refl, refl, refl);
    }

-- ---- the places of the joint models
pub place_fixed-placed : (f : Frame Frac) → Places Same (place_fixed fractions f) (placed fracs f (identity (signs fracs)) (nothing (signs fracs)))
unfolding place_fixed place_shifted outside dot placed table_product table_times vadd vdot
place_fixed-placed f =
    let l = of_frame f [] in
    let got = place_fixed expressions (frame 0) in
    let want = (placed expr (frame 0) (identity (signs expr)) (nothing (signs expr))) in
    record {
      e = tables l got.e want.e (refl, refl, refl) (refl, refl, refl) (refl, refl, refl);
      r = vectors l got.r want.r (refl, refl, refl);
    }

pub place_along-placed : (f : Frame Frac) (a : V3 Frac) (d : Frac) → Places Same (place_along fractions f a d) (placed fracs f (identity (signs fracs)) (vscale fracs d a))
unfolding place_along multiple place_shifted outside dot placed table_product table_times vadd vscale vdot
place_along-placed f a d =
    let l = of_frame f (of_vector a (d ∷ [])) in
    let got = place_along expressions (frame 0) (vector 12) (var 15) in
    let want = (placed expr (frame 0) (identity (signs expr)) (vscale expr (var 15) (vector 12))) in
    record {
      e = tables l got.e want.e (refl, refl, refl) (refl, refl, refl) (refl, refl, refl);
      r = vectors l got.r want.r (refl, refl, refl);
    }

pub place_turned-placed : (f : Frame Frac) (a : V3 Frac) (t : SineCosine Frac) → Places Same (place_turned fractions f a t) (placed fracs f (about_axis fracs a t) (nothing (signs fracs)))
unfolding place_turned place_of product row_mul turn_about axis_products axis_row_x axis_row_y axis_row_z outside dot placed about_axis table_product table_sum table_scaled table_times vadd vscale vdot
place_turned-placed f a t =
    let l = of_frame f (of_vector a (of_sine_cosine t [])) in
    let got = place_turned expressions (frame 0) (vector 12) (sine_cosine 15) in
    let want = (placed expr (frame 0) (about_axis expr (vector 12) (sine_cosine 15)) (nothing (signs expr))) in
    record {
      e = tables l got.e want.e (refl, refl, refl) (refl, refl, refl) (refl, refl, refl);
      r = vectors l got.r want.r (refl, refl, refl);
    }

pub place_level-placed : (f : Frame Frac) (p : V3 Frac) (t : SineCosine Frac) → Places Same (place_level fractions f p t) (placed fracs f (about_z (signs fracs) t) p)
unfolding place_level
place_level-placed f p t = place_of-placed f (about_z (signs fracs) t) p

pub place_free-placed : (f : Frame Frac) (p : V3 Frac) (q : Quaternion Frac) → Places Same (place_free fractions f p q) (placed fracs f (about_quaternion fracs q) p)
unfolding place_free place_of product row_mul turn_of twice quaternion_row_x quaternion_row_y quaternion_row_z outside dot placed about_quaternion table_product table_sum table_scaled table_times vadd vscale vdot
place_free-placed f p q =
    let l = of_frame f (of_vector p (of_quaternion q [])) in
    let got = place_free expressions (frame 0) (vector 12) (quaternion 15) in
    let want = (placed expr (frame 0) (about_quaternion expr (quaternion 15)) (vector 12)) in
    record {
      e = tables l got.e want.e (refl, refl, refl) (refl, refl, refl) (refl, refl, refl);
      r = vectors l got.r want.r (refl, refl, refl);
    }
