-- Bodies at rest do not move, and need what bears their weights.
use Rattle.std.proofs.Common.{ℕ, zero, suc, ◌+◌, ◌<◌, ◌≤◌, [], ◌∷◌, refl, arith}
use Rattle.rb_frac.specs.Ops.{V3, signs, vadd, vneg, vscale, vdot, vcross}
use Rattle.rb_frac.specs.Frac.{Frac, Same, fracs}
use Rattle.rb_frac.specs.Tables.{Symmetric, Vectors, nothing, table_times}
use Rattle.rb_frac.specs.Spatial.{Motion, Force, Place, Spatials}
use Rattle.rb_frac.specs.Mechanics.{plus, in_body, newton, euler, needed}
use Rattle.rb_frac.proofs.Ring.{expr, var}
use Rattle.rb_frac.proofs.Variables.{vector, symmetric, place, of_vector, of_symmetric, of_place, identity}
use Rattle.rb_flat.specs.Shape.{Shape, HasBody, HasColumn, ParentsComeFirst, ColumnsFit}
use Rattle.rb_flat.specs.Mechanism.{Mechanism}
use Rattle.rb_flat.specs.Dynamics.{Unknowns, none, joint_motion, Moves, at_rest}
use Rattle.rb_flat.specs.TreeLaws.{RestNeedsWeight}
use Rattle.rb_flat.proofs.Equality.{same_fractions, vectors_refl, vectors_sym, vneg_same, spatials_refl, spatials_trans, plus_same, in_body_same, motion_product_same, needed_same}
use Rattle.rb_flat.proofs.OneSolution.{same_motion_of}
use Rattle.rb_flat.proofs.Linear.{plus-none, in_body-none, product-none, joint_motion-still}

module _ (shape : Shape) (m : Mechanism Frac) (parents : ParentsComeFirst shape) (outside : ℕ → Force Frac) (s : Unknowns Frac)
    (h : Moves fracs shape (at_rest fracs m) Same outside s) where
  still_within : (n i : ℕ) → i < n → i ≤ shape.bodies → Spatials Same (s.speed i) (none fracs)
  still_within zero i l b = absurd (omega arith)
  still_within (suc n) zero l b = h.world_speed
  still_within (suc n) (suc j) l b =
      let there : HasBody shape (suc j) = record { from = omega arith; to = b } in
      let before : shape.parent (suc j) < suc j = parents (suc j) there in
      let x = m.place (suc j) in
      spatials_trans same_fractions (h.speeds (suc j) there)
      (spatials_trans same_fractions
      (plus_same same_fractions
      (spatials_trans same_fractions (in_body_same same_fractions x (still_within n (shape.parent (suc j)) (omega arith) (omega arith))) (in_body-none x))
      (joint_motion-still shape (at_rest fracs m) (suc j)))
      (plus-none (none fracs)))

  pub still : (i : ℕ) → i ≤ shape.bodies → Spatials Same (s.speed i) (none fracs)
  still i b = still_within (suc i) i (omega arith) b

-- ---- weight
-- what accelerates against the gravity h
abbrev against : V3 Frac → Motion Frac
against h = record { lin = vneg fracs h; ang = nothing (signs fracs) }

against_same : {h k : V3 Frac} → Vectors Same h k → Spatials Same (against h) (against k)
against_same e = record { lin = vneg_same same_fractions e; ang = vectors_refl same_fractions (nothing (signs fracs)) }

against-turned : (x : Place Frac) (h : V3 Frac) → Spatials Same (in_body fracs x (against h)) (against (table_times fracs x.e h))
unfolding in_body table_times vadd vneg vdot vcross
against-turned x h =
    identity (of_place x (of_vector h []))
    (in_body expr (place 0) (record { lin = vneg expr (vector 12); ang = nothing (signs expr) }))
    (record { lin = vneg expr (table_times expr (place 0).e (vector 12)); ang = nothing (signs expr) })
    (refl, refl, refl) (refl, refl, refl)

abbrev bearing : Frac → V3 Frac → V3 Frac → Force Frac
bearing m c h =
    let weight = vscale fracs m (vneg fracs h) in
    record { lin = weight; ang = vcross fracs c weight }

needed-against : (m : Frac) (c : V3 Frac) (ic : Symmetric Frac) (h : V3 Frac) → Spatials Same (needed fracs m c ic (none fracs) (against h)) (bearing m c h)
unfolding needed newton euler table_times vadd vneg vscale vdot vcross
needed-against m c ic h =
    let weight = vscale expr (var 0) (vneg expr (vector 10)) in
    identity (m ∷ of_vector c (of_symmetric ic (of_vector h [])))
    (needed expr (var 0) (vector 1) (symmetric 4) (none expr) (record { lin = vneg expr (vector 10); ang = nothing (signs expr) }))
    (record { lin = weight; ang = vcross expr (vector 1) weight })
    (refl, refl, refl) (refl, refl, refl)

module _ (shape : Shape) (m : Mechanism Frac) (outside : ℕ → Force Frac) (s : Unknowns Frac) (g : ℕ → V3 Frac) (parents : ParentsComeFirst shape) (fit : ColumnsFit shape)
    (hs : Moves fracs shape (at_rest fracs m) Same outside s) (given : (c : ℕ) → HasColumn shape c → Same (s.joint_acceleration c) fracs.nul)
    (world : Vectors Same (g 0) m.gravity) (seen : (i : ℕ) → HasBody shape i → Vectors Same (g i) (table_times fracs (m.place i).e (g (shape.parent i)))) where
  over_joint : (i : ℕ) → HasBody shape i → Spatials Same (joint_motion fracs shape (at_rest fracs m) s.joint_acceleration i) (none fracs)
  over_joint i there =
      spatials_trans same_fractions
      (same_motion_of same_fractions shape (at_rest fracs m) i s.joint_acceleration (λ c. fracs.nul) (λ k l. given (shape.first_column i + k) (fit.there i k there l)))
      (joint_motion-still shape (at_rest fracs m) i)

  falls : (n i : ℕ) → i < n → i ≤ shape.bodies → Spatials Same (s.acceleration i) (against (g i))
  falls zero i l b = absurd (omega arith)
  falls (suc n) zero l b = spatials_trans same_fractions hs.world_acceleration (against_same (vectors_sym same_fractions world))
  falls (suc n) (suc j) l b =
      let there : HasBody shape (suc j) = record { from = omega arith; to = b } in
      let before : shape.parent (suc j) < suc j = parents (suc j) there in
      let x = m.place (suc j) in
      let up = g (shape.parent (suc j)) in
      spatials_trans same_fractions (hs.accelerations (suc j) there)
      (spatials_trans same_fractions
      (plus_same same_fractions
      (plus_same same_fractions (in_body_same same_fractions x (falls n (shape.parent (suc j)) (omega arith) (omega arith))) (over_joint (suc j) there))
      (spatials_trans same_fractions
      (motion_product_same same_fractions (spatials_refl same_fractions (s.speed (suc j))) (joint_motion-still shape (at_rest fracs m) (suc j)))
      (product-none (s.speed (suc j)))))
      (spatials_trans same_fractions (plus-none (plus fracs (in_body fracs x (against up)) (none fracs)))
      (spatials_trans same_fractions (plus-none (in_body fracs x (against up)))
      (spatials_trans same_fractions (against-turned x up) (against_same (vectors_sym same_fractions (seen (suc j) there)))))))

  bears : (i : ℕ) → HasBody shape i → Spatials Same (s.needed i) (bearing (m.mass i) (m.centre i) (g i))
  bears i there =
      spatials_trans same_fractions (hs.newton_euler i there)
      (spatials_trans same_fractions
      (needed_same same_fractions (m.mass i) (m.centre i) (m.inertia i) (still shape m parents outside s hs i there.to) (falls (suc i) i (omega arith) there.to))
      (needed-against (m.mass i) (m.centre i) (m.inertia i) (g i)))

pub rest_needs_weight : RestNeedsWeight
rest_needs_weight shape m outside s g parents fit hs given world seen i there = bears shape m outside s g parents fit hs given world seen i there
