-- The vector of a row is its force of size 1, and its value the acceleration along the row.
use Rattle.std.proofs.Common.{Bool, true, false, [], refl}
use Rattle.rb_frac.specs.Ops.{V3, signs, vadd, vscale, vdot, vcross}
use Rattle.rb_frac.specs.Pairs.{dot}
use Rattle.rb_frac.specs.Frac.{Frac, Same, fracs}
use Rattle.rb_frac.specs.Tables.{nothing}
use Rattle.rb_frac.specs.Spatial.{Motion, Spatials}
use Rattle.rb_frac.proofs.Ring.{expr}
use Rattle.rb_frac.proofs.Hom.{frac_ring}
use Rattle.rb_frac.proofs.Variables.{vector, spatial, of_vector, of_spatial, at, identity}
use Rattle.rb_num.specs.Arith.{fractions}
use Rattle.rb_num.proofs.Bridges.{expressions}
use Rattle.rb_spatial.specs.Motions.{cross3, plus_cross, power}
use Rattle.rb_flat.specs.Contact.{point_acceleration, row_acceleration, row_force}
use Rattle.rb_jacobian.specs.Rules.{row_vector, point_turning, row_value}
use Rattle.rb_jacobian.specs.Laws.{VectorIsUnitForce, ValueIsAcceleration}

vector_at : (turns : Bool) (d q : V3 Frac) → Spatials Same (row_vector fractions turns d q) (row_force fracs turns d q fracs.one)
unfolding row_vector row_force cross3 dot vscale vcross
vector_at true d q =
    identity (of_vector d (of_vector q [])) (record { lin = nothing (signs expr); ang = vector 0 })
    (record { lin = nothing (signs expr); ang = vscale expr expr.one (vector 0) }) (refl, refl, refl) (refl, refl, refl)
vector_at false d q =
    identity (of_vector d (of_vector q [])) (row_vector expressions false (vector 0) (vector 3)) (row_force expr false (vector 0) (vector 3) expr.one) (refl, refl, refl) (refl, refl, refl)

pub vector_is_unit_force : VectorIsUnitForce
vector_is_unit_force turns d q = vector_at turns d q

value_at : (turns : Bool) (d q : V3 Frac) (v a : Motion Frac) → Same (row_value fractions turns q (row_vector fractions turns d q) v a) (row_acceleration fracs turns d q v a)
unfolding row_value row_vector point_turning plus_cross cross3 power dot row_acceleration point_acceleration vadd vdot vcross
value_at true d q v a =
    frac_ring (at (of_vector d (of_vector q (of_spatial v (of_spatial a [])))))
    (row_value expressions true (vector 3) (row_vector expressions true (vector 0) (vector 3)) (spatial 6) (spatial 12))
    (row_acceleration expr true (vector 0) (vector 3) (spatial 6) (spatial 12))
    refl
value_at false d q v a =
    frac_ring (at (of_vector d (of_vector q (of_spatial v (of_spatial a [])))))
    (row_value expressions false (vector 3) (row_vector expressions false (vector 0) (vector 3)) (spatial 6) (spatial 12))
    (row_acceleration expr false (vector 0) (vector 3) (spatial 6) (spatial 12))
    refl

pub value_is_acceleration : ValueIsAcceleration
value_is_acceleration turns d q v a = value_at turns d q v a
