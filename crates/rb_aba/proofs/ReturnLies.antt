-- The accelerations that articulated inertias give lie in what a pass finds from the root on.
use Rattle.std.proofs.Common.{ℕ, zero, suc, ◌<◌, ◌≤◌, sym, subst, arith}
use Rattle.rb_frac.specs.Ops.{vneg}
use Rattle.rb_frac.specs.Frac.{Frac, fracs, quot}
use Rattle.rb_frac.specs.Tables.{nothing}
use Rattle.rb_frac.specs.Spatial.{Motion, Spatials}
use Rattle.rb_frac.proofs.Reduce.{same_sym}
use Rattle.rb_num.specs.Interval.{Interval}
use Rattle.rb_num.specs.Fraction.{LiesIn}
use Rattle.rb_num.specs.Arith.{fractions, signs_of}
use Rattle.rb_num.proofs.Same.{lies_in_same}
use Rattle.rb_num.proofs.Relates.{div_met}
use Rattle.rb_num.proofs.Bridges.{to_intervals, ok_met}
use Rattle.rb_spatial.proofs.Keep.{apply_met}
use Rattle.rb_flat.specs.Shape.{Shape, HasBody, ParentsComeFirst}
use Rattle.rb_flat.specs.Joint.{column_count}
use Rattle.rb_flat.specs.Mechanism.{Mechanism}
use Rattle.rb_flat.proofs.Equality.{same_fractions, spatials_sym}
use Rattle.rb_composite.specs.Composite.{HasJointColumn}
use Rattle.rb_joint.proofs.JointMotionLies.{spatials_same}
use Rattle.rb_rnea.proofs.Enclosed.{plus_lies}
use Rattle.rb_rnea.proofs.MotionsLie.{against_lies}
use Rattle.rb_articulated.specs.Rules.{less_power}
use Rattle.rb_articulated.specs.Articulated.{Articulated, Accelerated, AreAccelerated}
use Rattle.rb_articulated.proofs.Rules.{and_multiple_met, less_power_met}
use Rattle.rb_composite.proofs.Adding.{then_lies}
use Rattle.rb_aba.proofs.Pass.{Given, IsWithin, IsReturn, ArticulatedLies, AcceleratedLies}
use Rattle.rb_aba.proofs.PassLies.{quotients}

module _ (shape : Shape) (m : Mechanism Frac) (g : Given) (t : Articulated Frac) (w : Articulated Interval) (d : Accelerated Frac) (x : Accelerated Interval)
    (parents : ParentsComeFirst shape) (within : IsWithin shape m g) (lies : ArticulatedLies shape t w) (acc : AreAccelerated shape m t d) (pass : IsReturn shape g w x) where
  abbrev columns : ℕ → ℕ
  columns i = column_count (shape.kind i)

  -- ---- a column
  rate_lies : (i k : ℕ) → HasJointColumn shape i k → Spatials LiesIn (d.y i k) (x.y i k) → LiesIn (d.x i k) (x.x i k)
  rate_lies i k col before =
      let q = quot (less_power fractions (t.u i k) (d.y i k) (t.U i k)) (t.D i k) in
      lies_in_same q (d.x i k) (x.x i k) (same_sym (d.x i k) q (acc.rates i k col))
      (ok_met (pass.each_x i k col)
      (then_lies (less_power_met to_intervals (lies.u i k col) before (lies.U i k col)) (λ r hr. div_met quotients hr (lies.D i k col))))

  next_lies : (i k : ℕ) → HasJointColumn shape i k → Spatials LiesIn (d.y i k) (x.y i k) → Spatials LiesIn (d.y i (suc k)) (x.y i (suc k))
  next_lies i k col before =
      spatials_same (spatials_sym same_fractions (acc.parts i k col))
      (ok_met (pass.each_y i k col) (and_multiple_met to_intervals before (rate_lies i k col before) ((within.each i col.there).column k col.below)))

  -- ---- a body
  parts_lie : (i : ℕ) → HasBody shape i → Spatials LiesIn (d.a (shape.parent i)) (x.a (shape.parent i)) → (k : ℕ) → k ≤ columns i → Spatials LiesIn (d.y i k) (x.y i k)
  parts_lie i there up zero l =
      spatials_same (spatials_sym same_fractions (acc.starts i there))
      (ok_met (pass.each_start i there) (then_lies (apply_met to_intervals (within.each i there).place up) (λ y hy. plus_lies hy (lies.c i there))))
  parts_lie i there up (suc k) l =
      next_lies i k (record { there = there; below = omega arith }) (parts_lie i there up k (omega arith))

  acceleration_within : (n i : ℕ) → i < n → i ≤ shape.bodies → Spatials LiesIn (d.a i) (x.a i)
  acceleration_within zero i l h = absurd (omega arith)
  acceleration_within (suc n) zero l h =
      spatials_same (spatials_sym same_fractions acc.world)
      (subst (λ (v : Motion Interval). Spatials LiesIn (record { lin = vneg fracs m.gravity; ang = nothing (signs_of fractions) }) v) (sym pass.world) (against_lies m.gravity g.gravity within.gravity))
  acceleration_within (suc n) (suc j) l h =
      let i = suc j in
      let there : HasBody shape (suc j) = record { from = omega arith; to = h } in
      let b : shape.parent (suc j) < suc j = parents (suc j) there in
      spatials_same (spatials_sym same_fractions (acc.ends (suc j) there))
      (subst (λ (v : Motion Interval). Spatials LiesIn (d.y (suc j) (columns (suc j))) v) (sym (pass.each_a (suc j) there))
      (parts_lie (suc j) there (acceleration_within n (shape.parent (suc j)) (omega arith) (omega arith)) (columns (suc j)) (omega arith)))

  accelerations_lie : (i : ℕ) → i ≤ shape.bodies → Spatials LiesIn (d.a i) (x.a i)
  accelerations_lie i h = acceleration_within (suc i) i (omega arith) h

  rates_lie : (i k : ℕ) → HasJointColumn shape i k → LiesIn (d.x i k) (x.x i k)
  rates_lie i k col =
      let there : HasBody shape i = col.there in
      let to : i ≤ shape.bodies = there.to in
      let b : shape.parent i < i = parents i there in
      rate_lies i k col (parts_lie i there (accelerations_lie (shape.parent i) (omega (arith, to, b))) k (omega (arith, col.below)))

  pub accelerated_lies : AcceleratedLies shape d x
  accelerated_lies = record { a = accelerations_lie; x = rates_lie }
