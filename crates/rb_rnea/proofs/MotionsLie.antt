-- The velocities and the accelerations of the bodies lie in what a pass finds, from the root on, and what each body needs.
use Rattle.std.proofs.Common.{ℕ, zero, suc, ◌<◌, ◌≤◌, sym, subst, arith}
use Rattle.rb_frac.specs.Ops.{V3, vneg}
use Rattle.rb_frac.specs.Frac.{Frac, Same, fracs}
use Rattle.rb_frac.specs.Tables.{Vectors, nothing}
use Rattle.rb_frac.specs.Spatial.{Motion, Spatials}
use Rattle.rb_num.specs.Interval.{Interval}
use Rattle.rb_num.specs.Fraction.{LiesIn}
use Rattle.rb_num.specs.Arith.{fractions, signs_of}
use Rattle.rb_num.proofs.Bridges.{to_intervals, ok_met}
use Rattle.rb_flat.specs.Shape.{Shape, HasBody, ParentsComeFirst, ColumnsFit}
use Rattle.rb_flat.specs.Mechanism.{Mechanism}
use Rattle.rb_flat.specs.Dynamics.{Unknowns, none, no_force, InverseDynamics}
use Rattle.rb_flat.proofs.Equality.{same_fractions, spatials_refl, spatials_sym, spatials_trans, plus_same}
use Rattle.rb_flat.proofs.OneSolution.{same_motion_of}
use Rattle.rb_joint.proofs.JointMotionLies.{spatials_same}
use Rattle.rb_rnea.proofs.Enclosed.{then_lies, plus_lies, in_body_lies, product_lies, needed_lies}
use Rattle.rb_rnea.proofs.Pass.{Given, Found, BodyWithin, IsWithin, IsPass, at_rest, against}

pub none_lies : Spatials LiesIn (none fracs) at_rest
none_lies =
    let o = to_intervals.zero in
    record { lin = record { x = o; y = o; z = o }; ang = record { x = o; y = o; z = o } }

pub against_lies : (u : V3 Frac) (v : V3 Interval) → Vectors LiesIn u v → Spatials LiesIn (record { lin = vneg fracs u; ang = nothing (signs_of fractions) }) (against v)
unfolding vneg
against_lies u v h = record {
  lin = record { x = to_intervals.neg _ _ h.x; y = to_intervals.neg _ _ h.y; z = to_intervals.neg _ _ h.z };
  ang = none_lies.ang;
}

module _ (shape : Shape) (m : Mechanism Frac) (g : Given) (w : Found) (s : Unknowns Frac) (parents : ParentsComeFirst shape) (fit : ColumnsFit shape)
    (within : IsWithin shape m g) (pass : IsPass shape g w) (solves : InverseDynamics fracs shape m Same (no_force fracs) s) where
  -- a body whose parent comes first
  parent_first : (j : ℕ) → HasBody shape j → shape.parent j < j
  parent_first j there = parents j there

  speed_within : (n i : ℕ) → i < n → i ≤ shape.bodies → Spatials LiesIn (s.speed i) (w.v i)
  speed_within zero i l h = absurd (omega arith)
  speed_within (suc n) zero l h =
      spatials_same (spatials_sym same_fractions solves.moves.world_speed)
      (subst (λ (v : Motion Interval). Spatials LiesIn (none fracs) v) (sym pass.world_v) none_lies)
  speed_within (suc n) (suc j) l h =
      let there : HasBody shape (suc j) = record { from = omega arith; to = h } in
      let b : shape.parent (suc j) < suc j = parents (suc j) there in
      let body : BodyWithin shape m g (suc j) = within.each (suc j) there in
      spatials_same (spatials_sym same_fractions (solves.moves.speeds (suc j) there))
      (ok_met (pass.each_v (suc j) there)
      (then_lies (in_body_lies body.place (speed_within n (shape.parent (suc j)) (omega arith) (omega arith))) (λ x hx.
      then_lies body.velocity_over (λ y hy. plus_lies hx hy))))

  pub speeds_lie : (i : ℕ) → i ≤ shape.bodies → Spatials LiesIn (s.speed i) (w.v i)
  speeds_lie i h = speed_within (suc i) i (omega arith) h

  acceleration_within : (n i : ℕ) → i < n → i ≤ shape.bodies → Spatials LiesIn (s.acceleration i) (w.a i)
  acceleration_within zero i l h = absurd (omega arith)
  acceleration_within (suc n) zero l h =
      spatials_same (spatials_sym same_fractions solves.moves.world_acceleration)
      (subst (λ (v : Motion Interval). Spatials LiesIn (record { lin = vneg fracs m.gravity; ang = nothing (signs_of fractions) }) v) (sym pass.world_a) (against_lies m.gravity g.gravity within.gravity))
  acceleration_within (suc n) (suc j) l h =
      let i = suc j in
      let there : HasBody shape (suc j) = record { from = omega arith; to = h } in
      let b : shape.parent (suc j) < suc j = parents (suc j) there in
      let body : BodyWithin shape m g (suc j) = within.each (suc j) there in
      spatials_same (spatials_sym same_fractions
      (spatials_trans same_fractions (solves.moves.accelerations (suc j) there)
      (plus_same same_fractions
      (plus_same same_fractions (spatials_refl same_fractions _)
      (same_motion_of same_fractions shape m (suc j) s.joint_acceleration m.acceleration (λ k r. solves.given _ (fit.there (suc j) k there r))))
      (spatials_refl same_fractions _))))
      (ok_met (pass.each_a (suc j) there)
      (then_lies body.acceleration_over (λ y hy.
      then_lies (in_body_lies body.place (acceleration_within n (shape.parent (suc j)) (omega arith) (omega arith))) (λ x hx.
      then_lies (plus_lies hx hy) (λ z hz.
      plus_lies hz
      (ok_met (pass.each_c (suc j) there) (then_lies body.velocity_over (λ u hu. product_lies (speeds_lie (suc j) h) hu))))))))

  pub accelerations_lie : (i : ℕ) → i ≤ shape.bodies → Spatials LiesIn (s.acceleration i) (w.a i)
  accelerations_lie i h = acceleration_within (suc i) i (omega arith) h

  pub needs_lie : (i : ℕ) → HasBody shape i → Spatials LiesIn (s.needed i) (w.b i)
  needs_lie i there =
      spatials_same (spatials_sym same_fractions (solves.moves.newton_euler i there))
      (ok_met (pass.each_b i there) (needed_lies (m.mass i) (m.centre i) (m.inertia i) (within.each i there).inertia (speeds_lie i there.to) (accelerations_lie i there.to)))
