-- The entry of a pair of joint columns, as a form in two motions over joints.
use Rattle.std.proofs.Common.{◌≡◌, ℕ, zero, suc, ◌+◌, ◌≤◌, ◌==◌, Bool, true, false, if◌then◌else◌, refl, sym, ◌∙◌, ap, subst, arith}
use mathlib.Core.Path.{ap₂}
use mathlib.Core.Logic.{◌⊎◌, inl, inr}
use Rattle.rb_frac.specs.Frac.{Frac, fracs}
use Rattle.rb_frac.specs.Spatial.{Motion, Force, Inertia}
use Rattle.rb_frac.proofs.Ring.{neg_nul}
use Rattle.rb_frac.proofs.Rational.{ℚ, ◌+ℚ◌, neg_ℚ, 0ℚ, rats, cls, sound, cls-zero, add_comm, add_nul, add_assoc, add_neg}
use Rattle.rb_num.specs.Arith.{fractions}
use Rattle.rb_spatial.specs.Motions.{power as rule_power}
use Rattle.rb_spatial.specs.Inertias.{times}
use Rattle.rb_flat.specs.Shape.{Shape, HasBody, ParentsComeFirst}
use Rattle.rb_flat.specs.Mechanism.{Mechanism}
use Rattle.rb_flat.proofs.Powers.{power}
use Rattle.rb_composite.specs.Composite.{ancestor, IsOnPath, AreApart, HasJointColumn, carried, ArePairs}
use Rattle.rb_composite.proofs.Forms.{power-by_rule, form, form_is, form-swap}
use Rattle.rb_composite.proofs.Functionals.{IsLinear, linear-power, linear-like, linear-if, linear-add, linear-neg}
use Rattle.rb_composite.proofs.Paths.{ancestor-here, path_falls, meets}
use Rattle.rb_composite.proofs.Seen.{seen, seen-linear, seen-linear_first, seen-apart, seen-at}

module _ (shape : Shape) (m : Mechanism Frac) (inertia : ℕ → Inertia Frac) where
  alone : ℕ → ℕ → Motion Frac → Motion Frac → ℚ
  alone i j u w = if i == j then form (inertia i) u w else 0ℚ

  -- what the composite of body i needs for the motion u over its joint, at the motion w over the joint of body j above it, or the other way round
  pub joined : ℕ → ℕ → Motion Frac → Motion Frac → ℚ
  joined i j u w =
      (seen shape m i j (times fractions (inertia i) u) w +ℚ seen shape m j i (times fractions (inertia j) w) u) +ℚ neg_ℚ (alone i j u w)

  pub joined_is : (i j : ℕ) (u w : Motion Frac) → joined i j u w
      ≡ (seen shape m i j (times fractions (inertia i) u) w +ℚ seen shape m j i (times fractions (inertia j) w) u) +ℚ neg_ℚ (if i == j then form (inertia i) u w else 0ℚ)
  unfolding joined alone
  joined_is i j u w = refl

  -- ---- both ways
  alone-swap : (i j : ℕ) (u w : Motion Frac) → alone i j u w ≡ alone j i w u
  unfolding alone
  alone-swap i j u w = go (i == j) (j == i) refl refl
    where
      go : (b c : Bool) → (i == j) ≡ b → (j == i) ≡ c → (if b then form (inertia i) u w else 0ℚ) ≡ (if c then form (inertia j) w u else 0ℚ)
      go true true d e = let same : i ≡ j = grind arith in form-swap (inertia i) u w ∙ ap (λ (k : ℕ). form (inertia k) w u) same
      go true false d e = absurd (let same : i ≡ j = grind arith in grind arith)
      go false true d e = absurd (let same : j ≡ i = grind arith in grind arith)
      go false false d e = refl

  pub joined-swap : (i j : ℕ) (u w : Motion Frac) → joined i j u w ≡ joined j i w u
  unfolding joined
  joined-swap i j u w =
      ap₂ (λ (x y : ℚ). x +ℚ neg_ℚ y) (add_comm (seen shape m i j (times fractions (inertia i) u) w) (seen shape m j i (times fractions (inertia j) w) u)) (alone-swap i j u w)

  -- ---- linear in both
  pub joined-linear : (i j : ℕ) (u : Motion Frac) → IsLinear (joined i j u)
  unfolding joined alone
  joined-linear i j u =
      linear-add
      (linear-add (seen-linear shape m i j (times fractions (inertia i) u)) (seen-linear_first shape m j i (inertia j) u))
      (linear-neg (linear-if (i == j) (linear-like (λ w. sym (form_is (inertia i) w u) ∙ form-swap (inertia i) w u) (linear-power (times fractions (inertia i) u)))))

  pub joined-linear_first : (i j : ℕ) (w : Motion Frac) → IsLinear (λ u. joined i j u w)
  joined-linear_first i j w = linear-like (λ u. joined-swap j i w u) (joined-linear j i w)

  module _ (parents : ParentsComeFirst shape) where
    -- ---- where body j is apart from body i
    no_three : (x y z : ℚ) → x ≡ 0ℚ → y ≡ 0ℚ → z ≡ 0ℚ → (x +ℚ y) +ℚ neg_ℚ z ≡ 0ℚ
    no_three x y z d e f = ap₂ (λ (s t : ℚ). s +ℚ neg_ℚ t) (ap₂ ◌+ℚ◌ d e ∙ add_nul 0ℚ) f ∙ ap (λ (t : ℚ). 0ℚ +ℚ t) (neg_nul rats) ∙ add_nul 0ℚ

    not_alone : (i j : ℕ) (u w : Motion Frac) → (i ≡ j → ⊥) → alone i j u w ≡ 0ℚ
    unfolding alone
    not_alone i j u w h = go (i == j) refl
      where
        go : (b : Bool) → (i == j) ≡ b → (if b then form (inertia i) u w else 0ℚ) ≡ 0ℚ
        go true e = absurd (h (let same : i ≡ j = grind arith in same))
        go false e = refl

    pub joined-apart : (i j : ℕ) (u w : Motion Frac) → AreApart shape i j → joined i j u w ≡ 0ℚ
    unfolding joined
    joined-apart i j u w h =
        no_three _ _ _ (seen-apart shape m i j (times fractions (inertia i) u) w h.upward) (seen-apart shape m j i (times fractions (inertia j) w) u h.downward)
        (not_alone i j u w (λ e. h.upward (0, ancestor-here shape i ∙ e)))

    -- ---- where body j is on the path of body i
    first_alone : (x y z : ℚ) → y ≡ 0ℚ → z ≡ 0ℚ → (x +ℚ y) +ℚ neg_ℚ z ≡ x
    first_alone x y z e f = ap₂ (λ (s t : ℚ). (x +ℚ s) +ℚ neg_ℚ t) e f ∙ ap₂ ◌+ℚ◌ (add_nul x) (neg_nul rats) ∙ add_nul x

    itself : (x y z : ℚ) → y ≡ z → (x +ℚ y) +ℚ neg_ℚ z ≡ x
    itself x y z e = ap (λ (s : ℚ). (x +ℚ s) +ℚ neg_ℚ z) e ∙ add_assoc x z (neg_ℚ z) ∙ ap (λ (s : ℚ). x +ℚ s) (add_neg z) ∙ add_nul x

    at_itself : (i : ℕ) → HasBody shape i → (f : Force Frac) (w : Motion Frac) → seen shape m i i f w ≡ power w f
    unfolding ancestor carried
    at_itself i there f w = seen-at shape m parents i 0 f w there.to there.from

    pub joined-above : (i n : ℕ) (u w : Motion Frac) → HasBody shape i → 1 ≤ ancestor shape i n
        → joined i (ancestor shape i n) u w ≡ power w (carried shape m i (times fractions (inertia i) u) n)
    unfolding joined alone ancestor carried
    joined-above i zero u w there some =
        itself (seen shape m i i (times fractions (inertia i) u) w) (seen shape m i i (times fractions (inertia i) w) u) (alone i i u w)
        (at_itself i there (times fractions (inertia i) w) u ∙ sym (form_is (inertia i) u w) ∙ sym here)
        ∙ at_itself i there (times fractions (inertia i) u) w
      where
        here : alone i i u w ≡ form (inertia i) u w
        here = let same : (i == i) ≡ true = grind arith in ap (λ (b : Bool). if b then form (inertia i) u w else 0ℚ) same
    joined-above i (suc n) u w there some =
        first_alone (seen shape m i j (times fractions (inertia i) u) w) (seen shape m j i (times fractions (inertia j) w) u) (alone i j u w)
        (seen-apart shape m j i (times fractions (inertia j) w) u not_below) (not_alone i j u w (λ e. omega (arith, fall, e)))
        ∙ seen-at shape m parents i (suc n) (times fractions (inertia i) u) w there.to some
      where
        j : ℕ
        j = ancestor shape i (suc n)

        fall : ancestor shape i (suc n) + suc n ≤ i
        fall = path_falls shape parents i (suc n) there.to some

        to : i ≤ shape.bodies
        to = there.to

        not_below : IsOnPath shape (ancestor shape i (suc n)) i → ⊥
        not_below p =
            let q : ancestor shape (ancestor shape i (suc n)) p.0 ≡ i = p.1 in
            let from : 1 ≤ i = there.from in
            let low : ancestor shape (ancestor shape i (suc n)) p.0 + p.0 ≤ ancestor shape i (suc n) = path_falls shape parents (ancestor shape i (suc n)) p.0 (omega (arith, fall, to)) (omega (arith, q, from)) in
            omega (arith, q, low, fall)

    -- ---- the entries
    module _ (pair : ℕ → ℕ → ℕ → ℕ → Frac) (pairs : ArePairs shape m inertia pair) where
      along : (i k j l : ℕ) → HasJointColumn shape i k → HasJointColumn shape j l → IsOnPath shape i j → cls (pair i k j l) ≡ joined i j (m.column i k) (m.column j l)
      along i k j l hi hj p =
          let at : ancestor shape i p.0 ≡ j = p.1 in
          let hj' : HasJointColumn shape (ancestor shape i p.0) l = subst (λ (a : ℕ). HasJointColumn shape a l) (sym at) hj in
          subst (λ (a : ℕ). cls (pair i k a l) ≡ joined i a (m.column i k) (m.column a l)) at
          (sound (pair i k (ancestor shape i p.0) l) (rule_power fractions (m.column (ancestor shape i p.0) l) (carried shape m i (times fractions (inertia i) (m.column i k)) p.0)) (pairs.met i k p.0 l hi hj')
          ∙ power-by_rule (m.column (ancestor shape i p.0) l) (carried shape m i (times fractions (inertia i) (m.column i k)) p.0)
          ∙ sym (joined-above i p.0 (m.column i k) (m.column (ancestor shape i p.0) l) hi.there hj'.there.from))

      pub pair-joined : (i k j l : ℕ) → HasJointColumn shape i k → HasJointColumn shape j l → cls (pair i k j l) ≡ joined i j (m.column i k) (m.column j l)
      pair-joined i k j l hi hj = go (meets shape parents i j hi.there.to hj.there.from) (meets shape parents j i hj.there.to hi.there.from)
        where
          go : IsOnPath shape i j ⊎ (IsOnPath shape i j → ⊥) → IsOnPath shape j i ⊎ (IsOnPath shape j i → ⊥) → cls (pair i k j l) ≡ joined i j (m.column i k) (m.column j l)
          go (inl p) d = along i k j l hi hj p
          go (inr h) (inl p) =
              sound (pair i k j l) (pair j l i k) (pairs.symmetric i k j l hi hj) ∙ along j l i k hj hi p ∙ joined-swap j i (m.column j l) (m.column i k)
          go (inr h) (inr d) =
              let apart : AreApart shape i j = record { upward = h; downward = d } in
              sound (pair i k j l) fracs.nul (pairs.apart i k j l hi hj apart) ∙ cls-zero ∙ sym (joined-apart i j (m.column i k) (m.column j l) apart)
