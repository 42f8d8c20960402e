-- Rows of constraints: their power, and the acceleration of a point. The impulse that a body needs.
use Rattle.std.proofs.Common.{◌≡◌, ℕ, zero, suc, ◌≤◌, ◌==◌, Bool, true, false, if◌then◌else◌, [], ◌∷◌, refl, sym, ◌∙◌, ap, arith}
use mathlib.Core.Path.{ap₂}
use Rattle.rb_frac.specs.Ops.{V3, signs, minus, vadd, vneg, vscale, vdot, vcross}
use Rattle.rb_frac.specs.Frac.{Frac, Same, fracs, add, neg, mul}
use Rattle.rb_frac.specs.Tables.{Table, Vectors, nothing, row, cross_table, table_times, table_product}
use Rattle.rb_frac.specs.Spatial.{Spatial, Motion, Force, Spatials}
use Rattle.rb_frac.specs.Mechanics.{opposite, power_of, newton, euler, needed}
use Rattle.rb_frac.proofs.Ring.{Expr, expr, var}
use Rattle.rb_frac.proofs.Rational.{◌+ℚ◌, neg_ℚ, 0ℚ, qo, rats, cls, sound, exact}
use Rattle.rb_frac.proofs.Hom.{frac_ring, cls_of_add, cls_of_neg}
use Rattle.rb_frac.proofs.Sums.{sum, sum_ext, sum-add, sum_swap}
use Rattle.rb_frac.proofs.Transfer.{cls-sum}
use Rattle.rb_frac.proofs.Variables.{vector, rows, symmetric, spatial, of_vector, of_rows, of_symmetric, of_spatial, at, vectors, identity}
use Rattle.rb_flat.specs.Shape.{Shape}
use Rattle.rb_flat.specs.Dynamics.{none}
use Rattle.rb_flat.specs.Rates.{Moving, moving, still_vector, vector_now, vector_rate, table_now, table_rate, spatial_now, spatial_rate}
use Rattle.rb_flat.specs.Contact.{Constraints, HasRow, RowsFit, point_speed, point_acceleration, row_speed, row_force, difference, on_body, row_on, rows_on}
use Rattle.rb_flat.specs.Impact.{needed_impulse}
use Rattle.rb_flat.specs.TreeLaws.{RowsHavePower, PointAccelerationIsRate, ImpulseIsForceAtRest}
use Rattle.rb_flat.proofs.Equality.{same_fractions, vectors_trans, vectors_refl, vadd_same, table_same}
use Rattle.rb_flat.proofs.Derivatives.{moving_vector}
use Rattle.rb_flat.proofs.Powers.{power, power-swap, power-same, power-plus, power-none, power-sum, sum_none, sum_one}
use Rattle.rb_flat.proofs.VirtualWork.{if_zero, if_is}
use Rattle.rb_flat.proofs.Symmetric.{never, met, unmet}

-- ---- one row
along_power : (v : Motion Frac) (d q : V3 Frac) (x : Frac) → Same (power_of fracs v (row_force fracs false d q x)) (mul x (row_speed fracs false d q v))
unfolding power_of row_force row_speed point_speed vadd vscale vdot vcross
along_power v d q x =
    let force : Spatial Expr = record { lin = vscale expr (var 12) (vector 6); ang = vcross expr (vector 9) (vscale expr (var 12) (vector 6)) } in
    frac_ring (at (of_spatial v (of_vector d (of_vector q (x ∷ [])))))
    (power_of expr (spatial 0) force)
    (expr.mul (var 12) (vdot expr (vector 6) (vadd expr (vector 0) (vcross expr (vector 3) (vector 9)))))
    refl

about_power : (v : Motion Frac) (d q : V3 Frac) (x : Frac) → Same (power_of fracs v (row_force fracs true d q x)) (mul x (row_speed fracs true d q v))
unfolding power_of row_force row_speed vscale vdot
about_power v d q x =
    let force : Spatial Expr = record { lin = nothing (signs expr); ang = vscale expr (var 9) (vector 6) } in
    frac_ring (at (of_spatial v (of_vector d (x ∷ []))))
    (power_of expr (spatial 0) force)
    (expr.mul (var 9) (vdot expr (vector 6) (vector 3)))
    refl

row_power : (turns : Bool) (v : Motion Frac) (d q : V3 Frac) (x : Frac) → power v (row_force fracs turns d q x) ≡ cls (mul x (row_speed fracs turns d q v))
unfolding power
row_power false v d q x = sound _ _ (along_power v d q x)
row_power true v d q x = sound _ _ (about_power v d q x)

opposed : (v f : Spatial Frac) → Same (power_of fracs v (opposite fracs f)) (neg (power_of fracs v f))
unfolding power_of opposite vneg vdot
opposed v f =
    frac_ring (at (of_spatial v (of_spatial f []))) (power_of expr (spatial 0) (opposite expr (spatial 6))) (expr.neg (power_of expr (spatial 0) (spatial 6))) refl

difference_of : (x a b : Frac) → Same (add (mul x a) (neg (mul x b))) (mul x (minus fracs a b))
difference_of x a b =
    frac_ring (at (x ∷ a ∷ b ∷ [])) (expr.add (expr.mul (var 0) (var 1)) (expr.neg (expr.mul (var 0) (var 2)))) (expr.mul (var 0) (expr.add (var 1) (expr.neg (var 2)))) refl

opposite_power : (v f : Spatial Frac) (y : Frac) → power v f ≡ cls y → power v (opposite fracs f) ≡ cls (neg y)
unfolding power
opposite_power v f y e = turned ∙ cls_of_neg (power_of fracs v f) ∙ ap neg_ℚ e ∙ sym (cls_of_neg y)
  where
    turned : cls (power_of fracs v (opposite fracs f)) ≡ cls (neg (power_of fracs v f))
    turned = sound _ _ (opposed v f)

-- ---- the bodies of a row
if_power : (v f : Spatial Frac) (b : Bool) → power v (if b then f else none fracs) ≡ (if b then power v f else 0ℚ)
if_power v f true = refl
if_power v f false = power-none v

module _ (v : ℕ → Motion Frac) (world : Spatials Same (v 0) (none fracs)) where
  body_power : (n body : ℕ) (f : Force Frac) → body ≤ n → sum qo n (λ i. power (v (suc i)) (on_body fracs (suc i) body f)) ≡ power (v body) f
  body_power n zero f l =
      sum_none n _ (λ i b. if_power (v (suc i)) f (0 == suc i) ∙ if_zero (0 == suc i) (power (v (suc i)) f) (never 0 i refl))
      ∙ sym (power-swap (v 0) f ∙ power-same f world ∙ power-none f)
  body_power n (suc j) f l =
      sum_one n j _ (omega arith) (λ i b e. if_power (v (suc i)) f (suc j == suc i) ∙ if_zero (suc j == suc i) (power (v (suc i)) f) (unmet (suc j) i j refl e))
      ∙ if_power (v (suc j)) f (suc j == suc j) ∙ if_is (suc j == suc j) (power (v (suc j)) f) (met (suc j) j refl)

  module _ (shape : Shape) (k : Constraints Frac) (turn : ℕ → Table Frac) (fits : RowsFit shape k) where
    row_powers : (r : ℕ) (x : Frac) → HasRow k r
        → sum qo shape.bodies (λ i. power (v (suc i)) (row_on fracs k turn (suc i) r x)) ≡ cls (mul x (difference fracs k turn r (λ t d q i. row_speed fracs t d q (v i))))
    row_powers r x there =
        let w = k.row r in
        let n = k.numbers r in
        let d = row (turn w.first) w.axis in
        let e = row (turn w.second) w.axis in
        let f = row_force fracs w.turns d n.first_point x in
        let g = opposite fracs (row_force fracs w.turns e n.second_point x) in
        let a = row_speed fracs w.turns d n.first_point (v w.first) in
        let b = row_speed fracs w.turns e n.second_point (v w.second) in
        let second = opposite_power (v w.second) (row_force fracs w.turns e n.second_point x) (mul x b) (row_power w.turns (v w.second) e n.second_point x) in
        sum_ext qo shape.bodies _ _ (λ i l. power-plus (v (suc i)) (on_body fracs (suc i) w.first f) (on_body fracs (suc i) w.second g))
        ∙ sum-add rats shape.bodies (λ i. power (v (suc i)) (on_body fracs (suc i) w.first f)) (λ i. power (v (suc i)) (on_body fracs (suc i) w.second g))
        ∙ ap₂ ◌+ℚ◌ (body_power shape.bodies w.first f (fits r there).first ∙ row_power w.turns (v w.first) d n.first_point x) (body_power shape.bodies w.second g (fits r there).second ∙ second)
        ∙ sym (cls_of_add (mul x a) (neg (mul x b)))
        ∙ sound (add (mul x a) (neg (mul x b))) (mul x (minus fracs a b)) (difference_of x a b)

    pub all_powers : (x : ℕ → Frac) → sum qo shape.bodies (λ i. power (v (suc i)) (rows_on fracs k turn x (suc i)))
        ≡ sum qo k.rows (λ r. cls (mul (x (suc r)) (difference fracs k turn (suc r) (λ t d q i. row_speed fracs t d q (v i)))))
    unfolding rows_on
    all_powers x =
        sum_ext qo shape.bodies _ _ (λ i l. power-sum (v (suc i)) k.rows (λ r. row_on fracs k turn (suc i) (suc r) (x (suc r))))
        ∙ sum_swap rats shape.bodies k.rows (λ i r. power (v (suc i)) (row_on fracs k turn (suc i) (suc r) (x (suc r))))
        ∙ sum_ext qo k.rows _ _ (λ r l. row_powers (suc r) (x (suc r)) (record { from = omega arith; to = omega arith }))

pub rows_have_power : RowsHavePower
unfolding power
rows_have_power shape k turn x v fits world =
    exact _ _ (cls-sum shape.bodies (λ i. power_of fracs (v (suc i)) (rows_on fracs k turn x (suc i)))
    ∙ all_powers v world shape k turn fits x
    ∙ sym (cls-sum k.rows (λ r. mul (x (suc r)) (difference fracs k turn (suc r) (λ t d q i. row_speed fracs t d q (v i))))))

-- ---- the acceleration of a point
module _ (turn : Table (Moving Frac)) (q : V3 Frac) (v : Motion (Moving Frac)) where
  abbrev speed : V3 Frac
  speed = point_speed fracs q (spatial_now v)

  abbrev changed : V3 Frac
  changed = vadd fracs (vector_rate v.lin) (vcross fracs (vector_rate v.ang) q)

  abbrev spun : Table Frac
  spun = table_product fracs (table_now turn) (cross_table (signs fracs) (vector_now v.ang))

  speed-parts : Vectors Same
      (vector_rate (table_times (moving fracs) turn (point_speed (moving fracs) (still_vector fracs q) v)))
      (vadd fracs (table_times fracs (table_rate turn) speed) (table_times fracs (table_now turn) changed))
  unfolding point_speed table_times vadd vdot vcross
  speed-parts =
      let p : Table (Moving Expr) = record { x = moving_vector 0 9; y = moving_vector 3 12; z = moving_vector 6 15 } in
      let w : Spatial (Moving Expr) = record { lin = moving_vector 21 27; ang = moving_vector 24 30 } in
      vectors
      (of_rows (table_now turn) (of_rows (table_rate turn) (of_vector q (of_spatial (spatial_now v) (of_spatial (spatial_rate v) [])))))
      (vector_rate (table_times (moving expr) p (point_speed (moving expr) (still_vector expr (vector 18)) w)))
      (vadd expr (table_times expr (rows 9) (point_speed expr (vector 18) (spatial 21))) (table_times expr (rows 0) (vadd expr (vector 27) (vcross expr (vector 30) (vector 18)))))
      (refl, refl, refl)

  spun-acceleration : Vectors Same
      (vadd fracs (table_times fracs spun speed) (table_times fracs (table_now turn) changed))
      (table_times fracs (table_now turn) (point_acceleration fracs q (spatial_now v) (spatial_rate v)))
  unfolding point_speed point_acceleration table_times table_product vadd vdot vcross
  spun-acceleration =
      vectors
      (of_rows (table_now turn) (of_vector q (of_spatial (spatial_now v) (of_spatial (spatial_rate v) []))))
      (vadd expr (table_times expr (table_product expr (rows 0) (cross_table (signs expr) (vector 15))) (point_speed expr (vector 9) (spatial 12))) (table_times expr (rows 0) (vadd expr (vector 18) (vcross expr (vector 21) (vector 9)))))
      (table_times expr (rows 0) (point_acceleration expr (vector 9) (spatial 12) (spatial 18)))
      (refl, refl, refl)

pub point_acceleration_is_rate : PointAccelerationIsRate
point_acceleration_is_rate turn q v h =
    vectors_trans same_fractions (speed-parts turn q v)
    (vectors_trans same_fractions
    (vadd_same same_fractions (table_same same_fractions (speed turn q v) h) (vectors_refl same_fractions (table_times fracs (table_now turn) (changed turn q v))))
    (spun-acceleration turn q v))

-- ---- impulses
pub impulse_is_force_at_rest : ImpulseIsForceAtRest
unfolding needed_impulse needed newton euler table_times vadd vscale vdot vcross
impulse_is_force_at_rest m c ic d =
    identity (m ∷ of_vector c (of_symmetric ic (of_spatial d [])))
    (needed_impulse expr (var 0) (vector 1) (symmetric 4) (spatial 10))
    (needed expr (var 0) (vector 1) (symmetric 4) (none expr) (spatial 10))
    (refl, refl, refl) (refl, refl, refl)
