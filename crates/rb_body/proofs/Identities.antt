-- The rule of a body at fractions and the body relation, as identities of polynomials.
use Rattle.std.proofs.Common.{[], ◌∷◌, refl}
use Rattle.rb_frac.specs.Ops.{V3, vadd, vscale, vdot}
use Rattle.rb_frac.specs.Pairs.{dot}
use Rattle.rb_frac.specs.Frac.{Frac, Same, fracs}
use Rattle.rb_frac.specs.Tables.{Table, Symmetric, full, upper, table_product, table_sum, table_scaled, outer, congruent}
use Rattle.rb_frac.specs.Spatial.{BodyInertias}
use Rattle.rb_frac.specs.Mechanics.{symmetric_sum, parallel_axes, body_of}
use Rattle.rb_frac.proofs.Ring.{expr, var}
use Rattle.rb_frac.proofs.Hom.{frac_ring}
use Rattle.rb_frac.proofs.Variables.{vector, rows, symmetric, of_vector, of_rows, of_symmetric, at, vectors}
use Rattle.rb_num.specs.Arith.{fractions}
use Rattle.rb_num.proofs.Bridges.{expressions}
use Rattle.rb_spatial.specs.Motions.{multiple}
use Rattle.rb_spatial.specs.Carrying.{row_mul, product, upper_product}
use Rattle.rb_flat.specs.Turns.{roll_pitch_yaw}
use Rattle.rb_flat.specs.Body.{about_centre, chosen_inertia}
use Rattle.rb_body.specs.Inertia.{turned, moved, body}
use Rattle.rb_body.specs.Laws.{BodyIsRelation}

-- of any rotation
body-about : (r : Table Frac) (m : Frac) (c : V3 Frac) (j : Symmetric Frac) → BodyInertias Same (body fractions r m c j) (body_of fracs m c (upper (congruent fracs r (full j))))
unfolding body body_of multiple turned moved product row_mul upper_product dot congruent parallel_axes symmetric_sum outer table_product table_sum table_scaled vadd vscale vdot
body-about r m c j =
    let l = m ∷ of_vector c (of_symmetric j (of_rows r [])) in
    let got = body expressions (rows 10) (var 0) (vector 1) (symmetric 4) in
    let want = body_of expr (var 0) (vector 1) (upper (congruent expr (rows 10) (full (symmetric 4)))) in
    record {
      mass = frac_ring (at l) (var 0) (var 0) refl;
      first = vectors l got.first want.first (refl, refl, refl);
      six = record {
        xx = frac_ring (at l) got.six.xx want.six.xx refl;
        xy = frac_ring (at l) got.six.xy want.six.xy refl;
        xz = frac_ring (at l) got.six.xz want.six.xz refl;
        yy = frac_ring (at l) got.six.yy want.six.yy refl;
        yz = frac_ring (at l) got.six.yz want.six.yz refl;
        zz = frac_ring (at l) got.six.zz want.six.zz refl;
      };
    }

pub body-relation : BodyIsRelation
unfolding chosen_inertia about_centre
body-relation c = body-about (roll_pitch_yaw fracs c.roll c.pitch c.yaw) c.mass c.centre c.six
