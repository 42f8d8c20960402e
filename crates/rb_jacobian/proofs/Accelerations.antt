-- The Jacobian gives the accelerations of the rows, but for the bias.
use Rattle.std.proofs.Common.{◌≡◌, ℕ, suc, Bool, true, false, [], refl, sym, ◌∙◌, ap, arith}
use mathlib.Core.Path.{ap₂}
use Rattle.rb_frac.specs.Ops.{V3, signs, minus, vadd, vscale, vdot, vcross, sum as sum_of}
use Rattle.rb_frac.specs.Frac.{Frac, Same, fracs, add, neg, mul}
use Rattle.rb_frac.specs.Tables.{Table, Symmetric, nothing, row, table_times}
use Rattle.rb_frac.specs.Spatial.{Spatial, Motion, Force, Spatials}
use Rattle.rb_frac.specs.Mechanics.{plus, scaled, combined, in_body, motion_product, power_of, newton, euler, needed}
use Rattle.rb_frac.proofs.Ring.{Expr, expr, mul_nul}
use Rattle.rb_frac.proofs.Reduce.{same_refl}
use Rattle.rb_frac.proofs.Rational.{ℚ, ◌+ℚ◌, ◌*ℚ◌, neg_ℚ, 0ℚ, qo, rats, cls, sound, exact, cls-zero, add_comm, add_nul}
use Rattle.rb_frac.proofs.Hom.{frac_ring, cls_of_add, cls_of_neg, cls_of_mul}
use Rattle.rb_frac.proofs.Quote.{with4, finish, quote}
use Rattle.rb_frac.proofs.Sums.{sum, sum_ext}
use Rattle.rb_frac.proofs.Transfer.{cls-sum}
use Rattle.rb_frac.proofs.Variables.{vector, spatial, of_vector, of_spatial, at, identity}
use Rattle.rb_flat.specs.Shape.{Shape, HasColumn, ParentsComeFirst, ColumnsFit}
use Rattle.rb_flat.specs.Mechanism.{Mechanism}
use Rattle.rb_flat.specs.Dynamics.{Unknowns, none, joint_motion, Moves}
use Rattle.rb_flat.specs.Contact.{Constraints, HasRow, RowsFit, point_speed, point_acceleration, row_speed, row_acceleration}
use Rattle.rb_flat.proofs.Equality.{same_fractions, spatials_refl, spatials_sym, spatials_trans, plus_same, scaled_same, motion_product_same, needed_same}
use Rattle.rb_flat.proofs.Linear.{blend, in_body-linear, plus-linear, plus-none, joint_motion-linear}
use Rattle.rb_flat.proofs.Powers.{power}
use Rattle.rb_flat.proofs.Superposed.{other_accelerations}
use Rattle.rb_composite.specs.Composite.{no_symmetric}
use Rattle.rb_composite.proofs.Forms.{power-same_first}
use Rattle.rb_jacobian.specs.Jacobian.{row_speeds, row_accelerations, MovesAt, IsJacobian}
use Rattle.rb_jacobian.specs.Laws.{JacobianGivesAccelerations}
use Rattle.rb_jacobian.proofs.Descent.{speeds_alike}
use Rattle.rb_jacobian.proofs.Speeds.{row_speeds_are}

abbrev less_one : Frac
less_one = neg fracs.one

combined_same : (k : Frac) {a a' b b' : Spatial Frac} → Spatials Same a a' → Spatials Same b b' → Spatials Same (combined fracs k a b) (combined fracs k a' b')
combined_same k h l = plus_same same_fractions (scaled_same same_fractions {k = k} {k' = k} (same_refl k) h) l

undone : (a : Spatial Frac) → Spatials Same (combined fracs less_one a a) (none fracs)
unfolding plus scaled vadd vscale
undone a =
    identity (of_spatial a []) (combined expr (expr.neg expr.one) (spatial 0) (spatial 0)) (none expr) (refl, refl, refl) (refl, refl, refl)

-- ---- one body of a row
abbrev no_expressions : Symmetric Expr
no_expressions = record { xx = expr.nul; xy = expr.nul; xz = expr.nul; yy = expr.nul; yz = expr.nul; zz = expr.nul }

along : V3 Frac → Force Frac
along d = record { lin = d; ang = nothing (signs fracs) }

need_along : (d q : V3 Frac) (v a : Motion Frac) → cls (row_acceleration fracs false d q v a) ≡ power (needed fracs fracs.one q no_symmetric v a) (along d)
unfolding row_acceleration point_acceleration along power power_of needed newton euler table_times vadd vscale vdot vcross
need_along d q v a =
    sound (row_acceleration fracs false d q v a) (power_of fracs (needed fracs fracs.one q no_symmetric v a) (along d))
    (frac_ring (at (of_vector d (of_vector q (of_spatial v (of_spatial a [])))))
    (row_acceleration expr false (vector 0) (vector 3) (spatial 6) (spatial 12))
    (power_of expr (needed expr expr.one (vector 3) no_expressions (spatial 6) (spatial 12)) (record { lin = vector 0; ang = nothing (signs expr) }))
    refl)

same_speed : (turns : Bool) (d q : V3 Frac) {v w : Motion Frac} (a : Motion Frac) → Spatials Same v w → cls (row_acceleration fracs turns d q v a) ≡ cls (row_acceleration fracs turns d q w a)
unfolding row_acceleration
same_speed true d q a h = refl
same_speed false d q {v} {w} a h =
    need_along d q v a
    ∙ power-same_first (along d) (needed_same same_fractions fracs.one q no_symmetric h (spatials_refl same_fractions a))
    ∙ sym (need_along d q w a)

changed : (turns : Bool) (d q : V3 Frac) (v a b : Motion Frac)
    → Same (row_acceleration fracs turns d q v a) (add (row_speed fracs turns d q (combined fracs less_one b a)) (row_acceleration fracs turns d q v b))
unfolding row_acceleration row_speed point_acceleration point_speed plus scaled vadd vscale vdot vcross
changed true d q v a b =
    frac_ring (at (of_vector d (of_vector q (of_spatial v (of_spatial a (of_spatial b []))))))
    (row_acceleration expr true (vector 0) (vector 3) (spatial 6) (spatial 12))
    (expr.add (row_speed expr true (vector 0) (vector 3) (combined expr (expr.neg expr.one) (spatial 18) (spatial 12))) (row_acceleration expr true (vector 0) (vector 3) (spatial 6) (spatial 18)))
    refl
changed false d q v a b =
    frac_ring (at (of_vector d (of_vector q (of_spatial v (of_spatial a (of_spatial b []))))))
    (row_acceleration expr false (vector 0) (vector 3) (spatial 6) (spatial 12))
    (expr.add (row_speed expr false (vector 0) (vector 3) (combined expr (expr.neg expr.one) (spatial 18) (spatial 12))) (row_acceleration expr false (vector 0) (vector 3) (spatial 6) (spatial 18)))
    refl

body_part : (turns : Bool) (d q : V3 Frac) {v w : Motion Frac} (a b : Motion Frac) → Spatials Same v w
    → cls (row_acceleration fracs turns d q v a) ≡ cls (row_speed fracs turns d q (combined fracs less_one b a)) +ℚ cls (row_acceleration fracs turns d q w b)
body_part turns d q {v} {w} a b h =
    let x = row_speed fracs turns d q (combined fracs less_one b a) in
    let y = row_acceleration fracs turns d q v b in
    sound (row_acceleration fracs turns d q v a) (add x y) (changed turns d q v a b)
    ∙ cls_of_add x y
    ∙ ap (λ (t : ℚ). cls x +ℚ t) (same_speed turns d q b h)

parted : (a b x y : ℚ) → (a +ℚ x) +ℚ neg_ℚ (b +ℚ y) ≡ (a +ℚ neg_ℚ b) +ℚ (x +ℚ neg_ℚ y)
parted a b x y = with4 a b x y λ ρ a b x y. simp (a, b, x, y, quote) (finish ρ _ _ refl)

cls_minus : (x y : Frac) → cls (minus fracs x y) ≡ cls x +ℚ neg_ℚ (cls y)
cls_minus x y = cls_of_add x (neg y) ∙ ap (λ (t : ℚ). cls x +ℚ t) (cls_of_neg y)

-- ---- two motions of the mechanism
module _ (shape : Shape) (m : Mechanism Frac) (parents : ParentsComeFirst shape) (fit : ColumnsFit shape) (outside other : ℕ → Force Frac) (s bias : Unknowns Frac)
    (hs : Moves fracs shape m Same outside s) (hb : Moves fracs shape m Same other bias) where
  abbrev change : ℕ → Motion Frac
  change i = combined fracs less_one (bias.acceleration i) (s.acceleration i)

  abbrev rate : ℕ → Frac
  rate c = blend less_one (bias.joint_acceleration c) (s.joint_acceleration c)

  changes_move : MovesAt shape m rate change
  changes_move = record {
    world = spatials_trans same_fractions (combined_same less_one hb.world_acceleration hs.world_acceleration) (undone _);
    each = λ i there.
        let x = m.place i in
        let up = bias.acceleration (shape.parent i) in
        let above = s.acceleration (shape.parent i) in
        let jb = joint_motion fracs shape m bias.joint_acceleration i in
        let js = joint_motion fracs shape m s.joint_acceleration i in
        let over = joint_motion fracs shape m m.speed i in
        let pb = motion_product fracs (bias.speed i) over in
        let ps = motion_product fracs (s.speed i) over in
        spatials_trans same_fractions (combined_same less_one (hb.accelerations i there) (hs.accelerations i there))
        (spatials_trans same_fractions (spatials_sym same_fractions (plus-linear less_one (plus fracs (in_body fracs x up) jb) (plus fracs (in_body fracs x above) js) pb ps))
        (spatials_trans same_fractions
        (plus_same same_fractions
        (spatials_trans same_fractions (spatials_sym same_fractions (plus-linear less_one (in_body fracs x up) (in_body fracs x above) jb js))
        (plus_same same_fractions (spatials_sym same_fractions (in_body-linear x less_one up above))
        (spatials_sym same_fractions (joint_motion-linear shape m i less_one bias.joint_acceleration s.joint_acceleration))))
        (spatials_trans same_fractions
        (combined_same less_one
        (motion_product_same same_fractions (speeds_alike shape m parents fit other outside bias s hb hs i there.to) (spatials_refl same_fractions over))
        (spatials_refl same_fractions ps))
        (undone ps)))
        (plus-none _)));
  }

  module _ (k : Constraints Frac) (turn : ℕ → Table Frac) (fits : RowsFit shape k) where
    row_parts : (r : ℕ) → HasRow k r → cls (row_accelerations k turn s r) ≡ cls (row_speeds k turn change r) +ℚ cls (row_accelerations k turn bias r)
    row_parts r hr =
        let w = k.row r in
        let n = k.numbers r in
        let d = row (turn w.first) w.axis in
        let e = row (turn w.second) w.axis in
        let p = n.first_point in
        let q = n.second_point in
        let alike = speeds_alike shape m parents fit outside other s bias hs hb in
        let a = row_speed fracs w.turns d p (change w.first) in
        let b = row_speed fracs w.turns e q (change w.second) in
        let x = row_acceleration fracs w.turns d p (bias.speed w.first) (bias.acceleration w.first) in
        let y = row_acceleration fracs w.turns e q (bias.speed w.second) (bias.acceleration w.second) in
        cls_minus (row_acceleration fracs w.turns d p (s.speed w.first) (s.acceleration w.first)) (row_acceleration fracs w.turns e q (s.speed w.second) (s.acceleration w.second))
        ∙ ap₂ (λ (u v : ℚ). u +ℚ neg_ℚ v)
        (body_part w.turns d p (s.acceleration w.first) (bias.acceleration w.first) (alike w.first (fits r hr).first))
        (body_part w.turns e q (s.acceleration w.second) (bias.acceleration w.second) (alike w.second (fits r hr).second))
        ∙ parted (cls a) (cls b) (cls x) (cls y)
        ∙ sym (ap₂ ◌+ℚ◌ (cls_minus a b) (cls_minus x y))

    module _ (J : ℕ → ℕ → Frac) (is : IsJacobian shape m k turn J) (still : (c : ℕ) → HasColumn shape c → Same (bias.joint_acceleration c) fracs.nul) where
      rate_is : (c : ℕ) → HasColumn shape c → cls (rate c) ≡ cls (s.joint_acceleration c)
      rate_is c there =
          let x = s.joint_acceleration c in
          let y = bias.joint_acceleration c in
          cls_of_add (mul less_one y) x
          ∙ ap (λ (t : ℚ). t +ℚ cls x) (cls_of_mul less_one y ∙ ap (λ (t : ℚ). cls less_one *ℚ t) (sound y fracs.nul (still c there) ∙ cls-zero) ∙ mul_nul rats (cls less_one))
          ∙ add_comm 0ℚ (cls x) ∙ add_nul (cls x)

      pub row_accelerations_are : (r : ℕ) → HasRow k r
          → cls (row_accelerations k turn s r) ≡ sum qo shape.columns (λ c. cls (J r (suc c)) *ℚ cls (s.joint_acceleration (suc c))) +ℚ cls (row_accelerations k turn bias r)
      row_accelerations_are r hr =
          row_parts r hr
          ∙ ap (λ (t : ℚ). t +ℚ cls (row_accelerations k turn bias r))
          (row_speeds_are shape m k turn J parents fit fits is rate change changes_move r hr
          ∙ sum_ext qo shape.columns _ _ (λ c l. ap (λ (t : ℚ). cls (J r (suc c)) *ℚ t) (rate_is (suc c) (record { from = omega arith; to = omega arith }))))

pub jacobian_gives_accelerations : JacobianGivesAccelerations
jacobian_gives_accelerations shape m k turn J outside other s bias parents fit fits is hs hb r hr =
    let x = sum_of fracs shape.columns (λ c. mul (J r (suc c)) (s.joint_acceleration (suc c))) in
    let y = row_accelerations k turn bias r in
    exact (row_accelerations k turn s r) (add x y)
    (row_accelerations_are shape m parents fit outside other s bias hs (other_accelerations shape m other (λ c. fracs.nul) bias hb.moves) k turn fits J is hb.given r hr
    ∙ ap (λ (t : ℚ). t +ℚ cls y)
    (sym (cls-sum shape.columns (λ c. mul (J r (suc c)) (s.joint_acceleration (suc c))) ∙ sum_ext qo shape.columns _ _ (λ c l. cls_of_mul (J r (suc c)) (s.joint_acceleration (suc c)))))
    ∙ sym (cls_of_add x y))
