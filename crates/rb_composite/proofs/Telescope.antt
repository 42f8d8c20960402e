-- The power of what the bodies need, by composite inertias: at two accelerations of a tree it is a sum over the joints alone.
use Rattle.std.proofs.Common.{◌≡◌, ℕ, zero, suc, ◌<◌, ◌≤◌, ◌==◌, Bool, true, false, if◌then◌else◌, refl, sym, ◌∙◌, ap, arith}
use mathlib.Core.Path.{ap₂}
use Rattle.rb_frac.specs.Frac.{Frac, Same, fracs}
use Rattle.rb_frac.specs.Spatial.{Motion, Inertia, Spatials}
use Rattle.rb_frac.specs.Mechanics.{in_body}
use Rattle.rb_frac.proofs.Ring.{add_cancel}
use Rattle.rb_frac.proofs.Rational.{ℚ, ◌+ℚ◌, 0ℚ, qo, rats}
use Rattle.rb_frac.proofs.Quote.{with3, with4, finish, quote}
use Rattle.rb_frac.proofs.Sums.{sum, sum_ext, sum-add, sum_swap}
use Rattle.rb_num.specs.Arith.{fractions}
use Rattle.rb_spatial.specs.Carrying.{carry}
use Rattle.rb_flat.specs.Shape.{Shape, HasBody, ParentsComeFirst}
use Rattle.rb_flat.specs.Mechanism.{Mechanism}
use Rattle.rb_flat.specs.Dynamics.{Unknowns, none, joint_motion}
use Rattle.rb_flat.proofs.Equality.{same_fractions, spatials_trans, in_body_same}
use Rattle.rb_flat.proofs.Linear.{in_body-none}
use Rattle.rb_flat.proofs.Powers.{power, power-same, sum_none, sum_one}
use Rattle.rb_flat.proofs.VirtualWork.{if_zero, if_is}
use Rattle.rb_flat.proofs.Symmetric.{never, met, unmet}
use Rattle.rb_flat.proofs.Superposed.{Added}
use Rattle.rb_composite.specs.Composite.{no_inertia, own_inertia, children_inertia, AreComposites}
use Rattle.rb_composite.proofs.Paths.{equal_is}
use Rattle.rb_composite.proofs.Forms.{form, form-same, form-same_second, form-plus, form-plus_second, form-none, form-same_inertia, form-sum_of_two, form-carry, form-no_inertia, form-inertia_sum, power-at_rest}

-- ---- numbers
-- where (a + j) (b + k) is multiplied out
split : (ab ak jb jk : ℚ) → ((ab +ℚ ak) +ℚ (jb +ℚ jk)) +ℚ jk ≡ ab +ℚ ((jb +ℚ jk) +ℚ (ak +ℚ jk))
split ab ak jb jk = with4 ab ak jb jk λ ρ a b c d. simp (a, b, c, d, quote) (finish ρ _ _ refl)

to_front : (e r g : ℚ) → r +ℚ (e +ℚ g) ≡ (e +ℚ r) +ℚ g
to_front e r g = with3 e r g λ ρ a b c. simp (a, b, c, quote) (finish ρ _ _ refl)

module _ (shape : Shape) (m : Mechanism Frac) (parents : ParentsComeFirst shape) (inertia : ℕ → Inertia Frac) (composites : AreComposites shape m inertia)
    (u s : Unknowns Frac) (hu : Added shape m u) (hs : Added shape m s) where
  abbrev over : Unknowns Frac → ℕ → Motion Frac
  over t i = joint_motion fracs shape m t.joint_acceleration i

  -- the acceleration that a body has from its parent alone
  abbrev taken : Unknowns Frac → ℕ → Motion Frac
  taken t i = in_body fracs (m.place i) (t.acceleration (shape.parent i))

  abbrev whole : ℕ → ℚ
  whole i = form (inertia i) (u.acceleration i) (s.acceleration i)

  abbrev own : ℕ → ℚ
  own i = power (u.acceleration i) (s.needed i)

  abbrev brought : ℕ → ℚ
  brought i = form (inertia i) (taken u i) (taken s i)

  -- ---- body by body
  own_part : (i : ℕ) → HasBody shape i → form (own_inertia shape m i) (u.acceleration i) (s.acceleration i) ≡ own i
  own_part i there =
      sym (power-same (u.acceleration i) (hs.needs i there) ∙ power-at_rest (m.mass i) (m.centre i) (m.inertia i) (u.acceleration i) (s.acceleration i))

  child_part : (i k : ℕ) (b : Bool) → (shape.parent k == i) ≡ b
      → form (if b then carry fractions (m.place k) (inertia k) else no_inertia) (u.acceleration i) (s.acceleration i) ≡ (if b then brought k else 0ℚ)
  child_part i k true e =
      let same : shape.parent k ≡ i = equal_is (shape.parent k) i e in
      form-carry (m.place k) (inertia k) (u.acceleration i) (s.acceleration i)
      ∙ ap (λ (p : ℕ). form (inertia k) (in_body fracs (m.place k) (u.acceleration p)) (in_body fracs (m.place k) (s.acceleration p))) (sym same)
  child_part i k false e = form-no_inertia (u.acceleration i) (s.acceleration i)

  abbrev term : ℕ → ℕ → ℚ
  term i k = if shape.parent (suc k) == suc i then brought (suc k) else 0ℚ

  children_part : (i : ℕ) → form (children_inertia shape m inertia (suc i)) (u.acceleration (suc i)) (s.acceleration (suc i)) ≡ sum qo shape.bodies (term i)
  unfolding children_inertia
  children_part i =
      form-inertia_sum shape.bodies (λ k. if shape.parent (suc k) == suc i then carry fractions (m.place (suc k)) (inertia (suc k)) else no_inertia) (u.acceleration (suc i)) (s.acceleration (suc i))
      ∙ sum_ext qo shape.bodies _ _ (λ k l. child_part (suc i) (suc k) (shape.parent (suc k) == suc i) refl)

  whole_parts : (i : ℕ) → HasBody shape (suc i) → whole (suc i) ≡ own (suc i) +ℚ sum qo shape.bodies (term i)
  whole_parts i there =
      form-same_inertia (u.acceleration (suc i)) (s.acceleration (suc i)) (composites.each (suc i) there)
      ∙ form-sum_of_two (own_inertia shape m (suc i)) (children_inertia shape m inertia (suc i)) (u.acceleration (suc i)) (s.acceleration (suc i))
      ∙ ap₂ ◌+ℚ◌ (own_part (suc i) there) (children_part i)

  -- ---- each body is brought to its parent
  to_parent : (k : ℕ) → HasBody shape (suc k) → (q : ℕ) → shape.parent (suc k) ≡ q → sum qo shape.bodies (λ i. term i k) ≡ brought (suc k)
  to_parent k there zero e =
      let x = m.place (suc k) in
      let still : Spatials Same (in_body fracs x (u.acceleration 0)) (none fracs) = spatials_trans same_fractions (in_body_same same_fractions x hu.world) (in_body-none x) in
      sum_none shape.bodies (λ i. term i k) (λ i l. if_zero (shape.parent (suc k) == suc i) _ (never (shape.parent (suc k)) i e))
      ∙ sym (ap (λ (p : ℕ). form (inertia (suc k)) (in_body fracs x (u.acceleration p)) (taken s (suc k))) e
      ∙ form-same (inertia (suc k)) (taken s (suc k)) still ∙ form-none (inertia (suc k)) (taken s (suc k)))
  to_parent k there (suc j) e =
      let before : shape.parent (suc k) < suc k = parents (suc k) there in
      let to : suc k ≤ shape.bodies = there.to in
      sum_one shape.bodies j (λ i. term i k) (omega (arith, e, before, to)) (λ i l d. if_zero (shape.parent (suc k) == suc i) _ (unmet (shape.parent (suc k)) i j e d))
      ∙ if_is (shape.parent (suc k) == suc j) _ (met (shape.parent (suc k)) j e)

  all_parts : sum qo shape.bodies (λ i. whole (suc i)) ≡ sum qo shape.bodies (λ i. own (suc i)) +ℚ sum qo shape.bodies (λ i. brought (suc i))
  all_parts =
      sum_ext qo shape.bodies _ _ (λ i l. whole_parts i (record { from = omega arith; to = omega arith }))
      ∙ sum-add rats shape.bodies (λ i. own (suc i)) (λ i. sum qo shape.bodies (term i))
      ∙ ap (λ (t : ℚ). sum qo shape.bodies (λ i. own (suc i)) +ℚ t)
      (sum_swap rats shape.bodies shape.bodies term
      ∙ sum_ext qo shape.bodies _ _ (λ k l. to_parent k (record { from = omega arith; to = omega arith }) (shape.parent (suc k)) refl))

  -- ---- over its joint
  abbrev across : ℕ → ℚ
  across i = form (inertia i) (over u i) (over s i)

  abbrev first : ℕ → ℚ
  first i = form (inertia i) (over u i) (s.acceleration i)

  abbrev second : ℕ → ℚ
  second i = form (inertia i) (u.acceleration i) (over s i)

  first_parts : (i : ℕ) → HasBody shape i → first i ≡ form (inertia i) (over u i) (taken s i) +ℚ across i
  first_parts i there = form-same_second (inertia i) (over u i) (hs.accelerations i there) ∙ form-plus_second (inertia i) (over u i) (taken s i) (over s i)

  second_parts : (i : ℕ) → HasBody shape i → second i ≡ form (inertia i) (taken u i) (over s i) +ℚ across i
  second_parts i there = form-same (inertia i) (over s i) (hu.accelerations i there) ∙ form-plus (inertia i) (taken u i) (over u i) (over s i)

  four_parts : (i : ℕ) → HasBody shape i
      → whole i ≡ (brought i +ℚ form (inertia i) (taken u i) (over s i)) +ℚ (form (inertia i) (over u i) (taken s i) +ℚ across i)
  four_parts i there =
      form-same (inertia i) (s.acceleration i) (hu.accelerations i there)
      ∙ form-plus (inertia i) (taken u i) (over u i) (s.acceleration i)
      ∙ ap₂ ◌+ℚ◌
      (form-same_second (inertia i) (taken u i) (hs.accelerations i there) ∙ form-plus_second (inertia i) (taken u i) (taken s i) (over s i))
      (first_parts i there)

  by_joint : (i : ℕ) → HasBody shape i → whole i +ℚ across i ≡ brought i +ℚ (first i +ℚ second i)
  by_joint i there =
      ap (λ (t : ℚ). t +ℚ across i) (four_parts i there)
      ∙ split (brought i) (form (inertia i) (taken u i) (over s i)) (form (inertia i) (over u i) (taken s i)) (across i)
      ∙ ap (λ (t : ℚ). brought i +ℚ t) (sym (ap₂ ◌+ℚ◌ (first_parts i there) (second_parts i there)))

  pub needs-by_joints : sum qo shape.bodies (λ i. own (suc i)) +ℚ sum qo shape.bodies (λ i. across (suc i))
      ≡ sum qo shape.bodies (λ i. first (suc i)) +ℚ sum qo shape.bodies (λ i. second (suc i))
  needs-by_joints =
      let needs = sum qo shape.bodies (λ i. own (suc i)) in
      let gone = sum qo shape.bodies (λ i. brought (suc i)) in
      let twice = sum qo shape.bodies (λ i. across (suc i)) in
      add_cancel rats gone (needs +ℚ twice) (sum qo shape.bodies (λ i. first (suc i)) +ℚ sum qo shape.bodies (λ i. second (suc i)))
      (to_front needs gone twice
      ∙ ap (λ (t : ℚ). t +ℚ twice) (sym all_parts)
      ∙ sym (sum-add rats shape.bodies (λ i. whole (suc i)) (λ i. across (suc i)))
      ∙ sum_ext qo shape.bodies _ _ (λ i l. by_joint (suc i) (record { from = omega arith; to = omega arith }))
      ∙ sum-add rats shape.bodies (λ i. brought (suc i)) (λ i. first (suc i) +ℚ second (suc i))
      ∙ ap (λ (t : ℚ). gone +ℚ t) (sum-add rats shape.bodies (λ i. first (suc i)) (λ i. second (suc i))))
