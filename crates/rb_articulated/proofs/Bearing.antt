-- From the leaves on, the joint of a body bears what its articulated inertia needs for its acceleration, and its bias.
use Rattle.std.proofs.Common.{◌≡◌, ℕ, zero, suc, ◌+◌, ◌-◌, ◌<◌, ◌≤◌, ◌==◌, Bool, true, false, if◌then◌else◌, pos, refl, sym, ◌∙◌, ap, subst, arith}
use mathlib.Core.Path.{ap₂}
use Rattle.rb_frac.specs.Frac.{Frac, Same, fracs}
use Rattle.rb_frac.specs.Spatial.{Motion, Force, Spatials}
use Rattle.rb_frac.specs.Mechanics.{plus, in_body, in_parent}
use Rattle.rb_frac.proofs.Ring.{add_swap}
use Rattle.rb_frac.proofs.Rational.{ℚ, ◌+ℚ◌, 0ℚ, qo, rats, add_assoc, add_comm, add_nul}
use Rattle.rb_frac.proofs.Sums.{sum_ext, sum-add}
use Rattle.rb_num.specs.Arith.{fractions}
use Rattle.rb_spatial.specs.Motions.{cross_dual}
use Rattle.rb_spatial.specs.Inertias.{times}
use Rattle.rb_spatial.specs.Carrying.{carry}
use Rattle.rb_spatial.proofs.Identities.{newton-euler}
use Rattle.rb_flat.specs.Shape.{Shape, HasBody, ParentsComeFirst}
use Rattle.rb_flat.specs.Mechanism.{Mechanism}
use Rattle.rb_flat.specs.Dynamics.{Unknowns, none, children_force, Moves, no_force}
use Rattle.rb_flat.proofs.Equality.{same_fractions, spatials_refl, spatials_sym, spatials_trans, needed_same}
use Rattle.rb_flat.proofs.Linear.{plus-none}
use Rattle.rb_flat.proofs.Powers.{power, power-same, power-plus, power-none, power-sum, power-dual}
use Rattle.rb_composite.specs.Composite.{above, HasJointColumn, no_inertia, own_inertia, children_inertia}
use Rattle.rb_composite.proofs.Forms.{form, form_is, form-same_second, form-plus_second, form-same_inertia, form-sum_of_two, form-carry, form-no_inertia, form-inertia_sum}
use Rattle.rb_composite.proofs.Paths.{equal_is, ancestor-here, ancestor-next}
use Rattle.rb_articulated.specs.Articulated.{Articulated, IsAbove, columns, AreArticulated, HasPivotsBelow}
use Rattle.rb_articulated.specs.Laws.{AllLead}
use Rattle.rb_articulated.proofs.Borne.{Bears, bears-same, IsBalanced, gives_way}
use Rattle.rb_articulated.proofs.Moving.{speeds_same, motion_at, motion_next, motion_first, motion_last}

-- ---- the bodies above
module _ (shape : Shape) where
  above-parent : (j : ℕ) → HasBody shape j → above shape j ≡ shape.parent j
  above-parent zero there = absurd (omega (arith, there.from))
  above-parent (suc j) there = refl

  parent_above : (i j : ℕ) → HasBody shape j → shape.parent j ≡ i → IsAbove shape i j
  parent_above i j there e = (0, ancestor-next shape j 0 ∙ ap (above shape) (ancestor-here shape j) ∙ above-parent j there ∙ e)

  further_above : (i j k : ℕ) → HasBody shape j → shape.parent j ≡ i → IsAbove shape j k → IsAbove shape i k
  further_above i j k there e h = (suc h.0, ancestor-next shape k (suc h.0) ∙ ap (above shape) h.1 ∙ above-parent j there ∙ e)

module _ (shape : Shape) (m : Mechanism Frac) (t : Articulated Frac) (s : Unknowns Frac) (parents : ParentsComeFirst shape) (lead : AllLead shape)
    (art : AreArticulated shape m t) (moves : Moves fracs shape m Same (no_force fracs) s) where
  -- with the first k columns of its joint
  abbrev at : ℕ → ℕ → Motion Frac
  at = motion_at shape m t s parents lead art moves

  abbrev rate : ℕ → ℕ → Frac
  rate i k = s.joint_acceleration (shape.first_column i + k)

  -- once the columns from k on have given way
  abbrev pub BearsFrom : ℕ → ℕ → Type 0
  BearsFrom i k = Bears (s.joint_force i) (t.IA i k) (motion_at shape m t s parents lead art moves i k) (t.p i k)

  -- what is borne before a column gives way
  abbrev pub BearsAll : ℕ → Type 0
  BearsAll i = Bears (s.joint_force i) (t.IA i (columns shape m i)) (s.acceleration i) (t.p i (columns shape m i))

  from_all : (i : ℕ) → HasBody shape i → BearsAll i → BearsFrom i (columns shape m i)
  from_all i there all = bears-same (motion_last shape m t s parents lead art moves i there) all

  abbrev pub IsBalancedAt : ℕ → ℕ → Type 0
  IsBalancedAt i k = IsBalanced t i k (motion_at shape m t s parents lead art moves i k) (s.joint_acceleration (shape.first_column i + k))

  -- each column of a body gives way
  module _ (i : ℕ) (there : HasBody shape i) (all : BearsAll i)
      (some : (k : ℕ) → HasJointColumn shape i k → ¬ ((t.D i k).num ≡ pos 0))
      (balance : (k : ℕ) → HasJointColumn shape i k → BearsFrom i (suc k) → IsBalancedAt i k) where
    bears_down : (j k : ℕ) → k + j ≡ columns shape m i → BearsFrom i k
    bears_down zero k e = subst (λ (n : ℕ). BearsFrom i n) (omega (arith, e)) (from_all i there all)
    bears_down (suc j) k e =
        let col : HasJointColumn shape i k = record { there = there; below = omega (arith, e) } in
        let before = bears_down j (suc k) (omega (arith, e)) in
        gives_way shape m t i k (art.eliminated i k col) (s.joint_force i) (at i k) (at i (suc k)) (rate i k)
        (motion_next shape m t s parents lead art moves i k) before (some k col) (balance k col before)

    pub bears_at : (k : ℕ) → k ≤ columns shape m i → BearsFrom i k
    bears_at k l = bears_down (columns shape m i - k) k (omega arith)

    last-first : (x y z : ℚ) → (x +ℚ y) +ℚ z ≡ x +ℚ (z +ℚ y)
    last-first x y z = add_assoc x y z ∙ ap (λ (r : ℚ). x +ℚ r) (add_comm y z)

    -- as the parent's acceleration makes it
    pub hands : (z : Motion Frac) → power z (s.joint_force i) ≡ form (t.IA i 0) z (in_body fracs (m.place i) (s.acceleration (shape.parent i))) +ℚ power z (t.pa i)
    hands z =
        let up = in_body fracs (m.place i) (s.acceleration (shape.parent i)) in
        (bears_at 0 (omega arith)).at z
        ∙ ap (λ (r : ℚ). r +ℚ power z (t.p i 0))
        (form-same_second (t.IA i 0) z (motion_first shape m t s parents lead art moves i) ∙ form-plus_second (t.IA i 0) z up (t.c i))
        ∙ last-first (form (t.IA i 0) z up) (form (t.IA i 0) z (t.c i)) (power z (t.p i 0))
        ∙ ap (λ (r : ℚ). form (t.IA i 0) z up +ℚ r)
        (sym (power-same z (art.handed i there) ∙ power-plus z (t.p i 0) (times fractions (t.IA i 0) (t.c i))
        ∙ ap (λ (r : ℚ). power z (t.p i 0) +ℚ r) (sym (form_is (t.IA i 0) z (t.c i)))))

  -- ---- a body and its children
  abbrev Hands : ℕ → Type 0
  Hands k = (z : Motion Frac) → power z (s.joint_force k) ≡ form (t.IA k 0) z (in_body fracs (m.place k) (s.acceleration (shape.parent k))) +ℚ power z (t.pa k)

  child_power : (i k : ℕ) → (shape.parent k ≡ i → Hands k) → (z : Motion Frac) (b : Bool) → (shape.parent k == i) ≡ b
      → power z (if b then in_parent fracs (m.place k) (s.joint_force k) else none fracs)
      ≡ form (if b then carry fractions (m.place k) (t.IA k 0) else no_inertia) z (s.acceleration i) +ℚ power z (if b then in_parent fracs (m.place k) (t.pa k) else none fracs)
  child_power i k handed z true e =
      let same : shape.parent k ≡ i = equal_is (shape.parent k) i e in
      let x = m.place k in
      sym (power-dual x z (s.joint_force k))
      ∙ handed same (in_body fracs x z)
      ∙ ap₂ ◌+ℚ◌
      (ap (λ (p : ℕ). form (t.IA k 0) (in_body fracs x z) (in_body fracs x (s.acceleration p))) same ∙ sym (form-carry x (t.IA k 0) z (s.acceleration i)))
      (power-dual x z (t.pa k))
  child_power i k handed z false e = sym (ap₂ ◌+ℚ◌ (form-no_inertia z (s.acceleration i)) (power-none z) ∙ add_nul 0ℚ ∙ sym (power-none z))

  children_power : (i : ℕ) → ((k : ℕ) → HasBody shape k → shape.parent k ≡ i → Hands k) → (z : Motion Frac)
      → power z (children_force fracs shape m s.joint_force i) ≡ form (children_inertia shape m (λ j. t.IA j 0) i) z (s.acceleration i) +ℚ power z (children_force fracs shape m t.pa i)
  unfolding children_force children_inertia
  children_power i handed z =
      let force = λ (f : ℕ → Force Frac) (k : ℕ). if shape.parent (suc k) == i then in_parent fracs (m.place (suc k)) (f (suc k)) else none fracs in
      let inertia = λ (k : ℕ). if shape.parent (suc k) == i then carry fractions (m.place (suc k)) (t.IA (suc k) 0) else no_inertia in
      power-sum z shape.bodies (force s.joint_force)
      ∙ sum_ext qo shape.bodies _ _ (λ k l.
      child_power i (suc k) (handed (suc k) (record { from = omega arith; to = omega arith })) z (shape.parent (suc k) == i) refl)
      ∙ sum-add rats shape.bodies (λ k. form (inertia k) z (s.acceleration i)) (λ k. power z (force t.pa k))
      ∙ ap₂ ◌+ℚ◌ (sym (form-inertia_sum shape.bodies inertia z (s.acceleration i))) (sym (power-sum z shape.bodies (force t.pa)))

  abbrev own_bias : ℕ → Force Frac
  own_bias i = cross_dual fractions (t.v i) (times fractions (own_inertia shape m i) (t.v i))

  own_power : (i : ℕ) → HasBody shape i → (z : Motion Frac) → power z (s.needed i) ≡ form (own_inertia shape m i) z (s.acceleration i) +ℚ power z (own_bias i)
  own_power i there z =
      power-same z
      (spatials_trans same_fractions (moves.newton_euler i there)
      (spatials_trans same_fractions
      (needed_same same_fractions (m.mass i) (m.centre i) (m.inertia i) (speeds_same shape m t s parents lead art moves i there.to) (spatials_refl same_fractions (s.acceleration i)))
      (spatials_sym same_fractions (newton-euler (m.mass i) (m.centre i) (m.inertia i) (t.v i) (s.acceleration i)))))
      ∙ power-plus z (times fractions (own_inertia shape m i) (s.acceleration i)) (own_bias i)
      ∙ ap (λ (r : ℚ). r +ℚ power z (own_bias i)) (sym (form_is (own_inertia shape m i) z (s.acceleration i)))

  borne : (i : ℕ) → HasBody shape i → Spatials Same (s.joint_force i) (plus fracs (s.needed i) (children_force fracs shape m s.joint_force i))
  borne i there = spatials_trans same_fractions (spatials_sym same_fractions (plus-none (s.joint_force i))) (moves.balance i there)

  bears_with : (i : ℕ) → HasBody shape i → ((k : ℕ) → HasBody shape k → shape.parent k ≡ i → Hands k) → BearsAll i
  bears_with i there handed = record {
    at = λ z.
        let a = s.acceleration i in
        let own = own_inertia shape m i in
        let others = children_inertia shape m (λ j. t.IA j 0) i in
        let theirs = children_force fracs shape m t.pa i in
        power-same z (borne i there)
        ∙ power-plus z (s.needed i) (children_force fracs shape m s.joint_force i)
        ∙ ap₂ ◌+ℚ◌ (own_power i there z) (children_power i handed z)
        ∙ add_swap rats (form own z a) (power z (own_bias i)) (form others z a) (power z theirs)
        ∙ sym (ap₂ ◌+ℚ◌
        (form-same_inertia z a (art.inertias i there) ∙ form-sum_of_two own others z a)
        (power-same z (art.biases i there) ∙ power-plus z (own_bias i) theirs));
  }

  -- ---- from the leaves on
  module _ (balance : (i k : ℕ) → HasJointColumn shape i k → BearsFrom i (suc k) → IsBalancedAt i k) where
    -- a child comes later
    later : (i j n : ℕ) → HasBody shape j → shape.parent j ≡ i → shape.bodies - i < suc n → shape.bodies - j < n
    later i j n there e l =
        let b : shape.parent j < j = parents j there in
        let h : j ≤ shape.bodies = there.to in
        omega arith

    bears_within : (n i : ℕ) → shape.bodies - i < n → HasBody shape i → HasPivotsBelow shape m t i → BearsAll i
    bears_within zero i l there some = absurd (omega arith)
    bears_within (suc n) i l there some =
        bears_with i there (λ j child e.
        hands j child
        (bears_within n j (later i j n child e l) child (record { each = λ k c col h. some.each k c col (further_above shape i j k child e h) }))
        (λ k col. some.each j k col (parent_above shape i j child e))
        (balance j))

    pub bears_all : (i : ℕ) → HasBody shape i → HasPivotsBelow shape m t i → BearsAll i
    bears_all i there some = bears_within (suc (shape.bodies - i)) i (omega arith) there some
