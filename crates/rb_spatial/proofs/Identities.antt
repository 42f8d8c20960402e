-- Identities between the rules at fractions, each as one of polynomials.
use Rattle.std.proofs.Common.{[], ◌∷◌, refl}
use Rattle.rb_frac.specs.Ops.{vadd, vneg, vscale, vdot, vcross}
use Rattle.rb_frac.specs.Pairs.{dot}
use Rattle.rb_frac.specs.Frac.{Frac, Same, fracs, neg}
use Rattle.rb_frac.proofs.Ring.{Expr, expr, var}
use Rattle.rb_frac.proofs.Hom.{frac_ring}
use Rattle.rb_num.specs.Arith.{fractions}
use Rattle.rb_num.proofs.Bridges.{expressions}
use Rattle.rb_frac.specs.Spatial.{Spatial, BodyInertia, Inertia, Spatials}
use Rattle.rb_spatial.specs.Motions.{cross3, cross_twice, plus_cross, multiple, mul, apply, apply_dual, cross, cross_dual, power, sum_vector}
use Rattle.rb_spatial.specs.Inertias.{mul_both, table, times, sum_table, sum_symmetric, sum, less_vector, less_table, less_symmetric, less_outer}
use Rattle.rb_spatial.specs.Carrying.{row_mul, product, upper_product, less_row, less_product, correct, turn_symmetric, turn_table, carry}
use Rattle.rb_frac.specs.Mechanics.{plus, scaled, opposite, combined, in_body, in_parent, motion_product, force_product, power_of, momentum, parallel_axes, symmetric_sum, symmetric_scaled, combined_bodies, body_of, newton, euler, needed}
use Rattle.rb_frac.specs.Tables.{table_times, table_sum, table_scaled, outer}
use Rattle.rb_spatial.specs.Laws.{ApplyIsInBody, ApplyDualIsInParent, CrossIsMotionProduct, CrossDualIsForceProduct, MultipleIsScaled, PowerIsSum, TableGivesMomentum, ApplyDuality, CrossDuality, CrossIsAlternating, TimesIsSymmetric, CarryIsCongruence, NewtonEuler, ApplyIsLinear, ApplyDualIsLinear, CrossIsLinear, CrossDualIsLinear, TimesIsLinear, PowerIsLinear, SumIsAdditive, TableIsLinear, NeededIsLinear}
use Rattle.rb_frac.proofs.Variables.{vector, symmetric, spatial, place, body, inertia, of_vector, of_symmetric, of_spatial, of_place, of_body, of_inertia, at, vectors, identity}

-- ---- formulas
pub apply-in_body : ApplyIsInBody
unfolding apply plus_cross mul dot in_body table_times vadd vdot vcross
apply-in_body x m =
    identity (of_place x (of_spatial m [])) (apply expressions (place 0) (spatial 12)) (in_body expr (place 0) (spatial 12)) (refl, refl, refl) (refl, refl, refl)

pub apply_dual-in_parent : ApplyDualIsInParent
unfolding apply_dual plus_cross mul dot in_parent table_times vadd vdot vcross
apply_dual-in_parent x f =
    identity (of_place x (of_spatial f [])) (apply_dual expressions (place 0) (spatial 12)) (in_parent expr (place 0) (spatial 12)) (refl, refl, refl) (refl, refl, refl)

pub cross-motion_product : CrossIsMotionProduct
unfolding cross cross3 cross_twice dot motion_product vadd vcross
cross-motion_product a b =
    identity (of_spatial a (of_spatial b [])) (cross expressions (spatial 0) (spatial 6)) (motion_product expr (spatial 0) (spatial 6)) (refl, refl, refl) (refl, refl, refl)

pub cross_dual-force_product : CrossDualIsForceProduct
unfolding cross_dual cross3 cross_twice dot force_product vadd vcross
cross_dual-force_product a f =
    identity (of_spatial a (of_spatial f [])) (cross_dual expressions (spatial 0) (spatial 6)) (force_product expr (spatial 0) (spatial 6)) (refl, refl, refl) (refl, refl, refl)

pub multiple-scaled : MultipleIsScaled
unfolding multiple dot vscale
multiple-scaled k v =
    vectors (k ∷ of_vector v []) (multiple expressions (var 0) (vector 1)) (vscale expr (var 0) (vector 1)) (refl, refl, refl)

pub power-sum : PowerIsSum
unfolding power dot power_of vdot
power-sum m f =
    frac_ring (at (of_spatial m (of_spatial f []))) (power expressions (spatial 0) (spatial 6)) (power_of expr (spatial 0) (spatial 6)) refl

pub table-momentum : TableGivesMomentum
unfolding table times mul_both dot momentum table_times vadd vscale vdot vcross
table-momentum i v =
    identity (of_body i (of_spatial v [])) (times expressions (table expressions (body 0)) (spatial 10)) (momentum expr (body 0) (spatial 10)) (refl, refl, refl) (refl, refl, refl)

-- ---- duality and symmetry
pub apply-dual : ApplyDuality
unfolding apply apply_dual power plus_cross mul dot
apply-dual x m f =
    frac_ring (at (of_place x (of_spatial m (of_spatial f []))))
    (power expressions (apply expressions (place 0) (spatial 12)) (spatial 18))
    (power expressions (spatial 12) (apply_dual expressions (place 0) (spatial 18)))
    refl

pub cross-dual : CrossDuality
unfolding cross cross_dual power cross3 cross_twice dot
cross-dual v m f =
    frac_ring (at (of_spatial v (of_spatial m (of_spatial f []))))
    (power expressions (cross expressions (spatial 0) (spatial 6)) (spatial 12))
    (expr.neg (power expressions (spatial 6) (cross_dual expressions (spatial 0) (spatial 12))))
    refl

pub cross-alternating : CrossIsAlternating
unfolding cross cross3 cross_twice dot opposite vneg
cross-alternating a b =
    identity (of_spatial a (of_spatial b [])) (cross expressions (spatial 0) (spatial 6)) (opposite expr (cross expressions (spatial 6) (spatial 0))) (refl, refl, refl) (refl, refl, refl)

pub times-symmetric : TimesIsSymmetric
unfolding times power mul_both dot
times-symmetric i m n =
    frac_ring (at (of_inertia i (of_spatial m (of_spatial n []))))
    (power expressions (spatial 21) (times expressions (inertia 0) (spatial 27)))
    (power expressions (spatial 27) (times expressions (inertia 0) (spatial 21)))
    refl

-- ---- inertias
pub carry-congruence : CarryIsCongruence
unfolding times mul_both dot apply apply_dual plus_cross mul carry turn_symmetric turn_table less_product correct less_row product upper_product row_mul
carry-congruence x i m =
    identity (of_place x (of_inertia i (of_spatial m [])))
    (times expressions (carry expressions (place 0) (inertia 12)) (spatial 33))
    (apply_dual expressions (place 0) (times expressions (inertia 12) (apply expressions (place 0) (spatial 33))))
    (refl, refl, refl) (refl, refl, refl)

pub newton-euler : NewtonEuler
unfolding table times mul_both cross_dual cross3 cross_twice dot plus needed newton euler body_of parallel_axes symmetric_sum table_times table_sum table_scaled outer vadd vscale vdot vcross
newton-euler m c ic v a =
    let i = table expressions (body_of expr (var 0) (vector 1) (symmetric 4)) in
    identity (m ∷ of_vector c (of_symmetric ic (of_spatial v (of_spatial a []))))
    (plus expr (times expressions i (spatial 16)) (cross_dual expressions (spatial 10) (times expressions i (spatial 10))))
    (needed expr (var 0) (vector 1) (symmetric 4) (spatial 10) (spatial 16))
    (refl, refl, refl) (refl, refl, refl)

pub less_outer-scaled : (i : Inertia Frac) (u m : Spatial Frac) (k : Frac) → Spatials Same (times fractions (less_outer fractions i u (scaled fracs k u)) m) (combined fracs (neg (power fractions m (scaled fracs k u))) u (times fractions i m))
unfolding less_outer less_symmetric less_table less_vector times mul_both power dot plus scaled vadd vscale
less_outer-scaled i u m k =
    let w = scaled expr (var 33) (spatial 21) in
    identity (of_inertia i (of_spatial u (of_spatial m (k ∷ []))))
    (times expressions (less_outer expressions (inertia 0) (spatial 21) w) (spatial 27))
    (combined expr (expr.neg (power expressions (spatial 27) w)) (spatial 21) (times expressions (inertia 0) (spatial 27)))
    (refl, refl, refl) (refl, refl, refl)

pub sum-additive : SumIsAdditive
unfolding sum sum_symmetric sum_table sum_vector times mul_both dot plus vadd
sum-additive i j m =
    identity (of_inertia i (of_inertia j (of_spatial m [])))
    (times expressions (sum expressions (inertia 0) (inertia 21)) (spatial 42))
    (plus expr (times expressions (inertia 0) (spatial 42)) (times expressions (inertia 21) (spatial 42)))
    (refl, refl, refl) (refl, refl, refl)

-- ---- linearity
pub apply-linear : ApplyIsLinear
unfolding apply plus_cross mul dot plus scaled vadd vscale
apply-linear x k m n =
    identity (k ∷ of_place x (of_spatial m (of_spatial n [])))
    (apply expressions (place 1) (combined expr (var 0) (spatial 13) (spatial 19)))
    (combined expr (var 0) (apply expressions (place 1) (spatial 13)) (apply expressions (place 1) (spatial 19)))
    (refl, refl, refl) (refl, refl, refl)

pub apply_dual-linear : ApplyDualIsLinear
unfolding apply_dual plus_cross mul dot plus scaled vadd vscale
apply_dual-linear x k f g =
    identity (k ∷ of_place x (of_spatial f (of_spatial g [])))
    (apply_dual expressions (place 1) (combined expr (var 0) (spatial 13) (spatial 19)))
    (combined expr (var 0) (apply_dual expressions (place 1) (spatial 13)) (apply_dual expressions (place 1) (spatial 19)))
    (refl, refl, refl) (refl, refl, refl)

pub cross-linear : CrossIsLinear
unfolding cross cross3 cross_twice dot plus scaled vadd vscale
cross-linear a k m n =
    identity (k ∷ of_spatial a (of_spatial m (of_spatial n [])))
    (cross expressions (spatial 1) (combined expr (var 0) (spatial 7) (spatial 13)))
    (combined expr (var 0) (cross expressions (spatial 1) (spatial 7)) (cross expressions (spatial 1) (spatial 13)))
    (refl, refl, refl) (refl, refl, refl)

pub cross_dual-linear : CrossDualIsLinear
unfolding cross_dual cross3 cross_twice dot plus scaled vadd vscale
cross_dual-linear a k f g =
    identity (k ∷ of_spatial a (of_spatial f (of_spatial g [])))
    (cross_dual expressions (spatial 1) (combined expr (var 0) (spatial 7) (spatial 13)))
    (combined expr (var 0) (cross_dual expressions (spatial 1) (spatial 7)) (cross_dual expressions (spatial 1) (spatial 13)))
    (refl, refl, refl) (refl, refl, refl)

pub times-linear : TimesIsLinear
unfolding times mul_both dot plus scaled vadd vscale
times-linear i k m n =
    identity (k ∷ of_inertia i (of_spatial m (of_spatial n [])))
    (times expressions (inertia 1) (combined expr (var 0) (spatial 22) (spatial 28)))
    (combined expr (var 0) (times expressions (inertia 1) (spatial 22)) (times expressions (inertia 1) (spatial 28)))
    (refl, refl, refl) (refl, refl, refl)

pub power-linear : PowerIsLinear
unfolding power dot plus scaled vadd vscale
power-linear m k f g =
    frac_ring (at (k ∷ of_spatial m (of_spatial f (of_spatial g []))))
    (power expressions (spatial 1) (combined expr (var 0) (spatial 7) (spatial 13)))
    (expr.add (expr.mul (var 0) (power expressions (spatial 1) (spatial 7))) (power expressions (spatial 1) (spatial 13)))
    refl

-- ---- in the ten numbers of a body
pub table-linear : TableIsLinear
unfolding table times mul_both dot combined_bodies symmetric_sum symmetric_scaled plus scaled vadd vscale
table-linear k i j m =
    identity (k ∷ of_body i (of_body j (of_spatial m [])))
    (times expressions (table expressions (combined_bodies expr (var 0) (body 1) (body 11))) (spatial 21))
    (combined expr (var 0) (times expressions (table expressions (body 1)) (spatial 21)) (times expressions (table expressions (body 11)) (spatial 21)))
    (refl, refl, refl) (refl, refl, refl)

pub needed-linear : NeededIsLinear
unfolding table times mul_both cross_dual cross3 cross_twice dot combined_bodies symmetric_sum symmetric_scaled plus scaled vadd vscale
needed-linear k i j v a =
    let needs = λ (b : BodyInertia Expr). plus expr (times expressions (table expressions b) (spatial 27)) (cross_dual expressions (spatial 21) (times expressions (table expressions b) (spatial 21))) in
    identity (k ∷ of_body i (of_body j (of_spatial v (of_spatial a []))))
    (needs (combined_bodies expr (var 0) (body 1) (body 11)))
    (combined expr (var 0) (needs (body 1)) (needs (body 11)))
    (refl, refl, refl) (refl, refl, refl)
