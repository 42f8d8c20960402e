-- Where no joint follows another, columns of bodies that are apart have the entry zero.
use Rattle.std.proofs.Common.{◌≡◌, ℕ, ◌+◌, ◌==◌, Bool, true, false, None, refl, sym, ◌∙◌, ap, subst, arith, if◌then◌else◌}
use Rattle.rb_frac.specs.Frac.{Frac, fracs, mul}
use Rattle.rb_frac.proofs.Ring.{mul_nul}
use Rattle.rb_frac.proofs.Rational.{ℚ, ◌*ℚ◌, 0ℚ, rats, cls, sound, exact, cls-zero, mul_comm_ℚ}
use Rattle.rb_frac.proofs.Hom.{cls_of_mul}
use Rattle.rb_flat.specs.Shape.{Shape, HasBody, OwnsColumn, ColumnsFit}
use Rattle.rb_flat.specs.Mechanism.{Mechanism}
use Rattle.rb_flat.specs.Dynamics.{followed}
use Rattle.rb_composite.specs.Composite.{AreApart, HasJointColumn, over_joints, share, shared, gathered, IsCompositeTable}
use Rattle.rb_composite.specs.Laws.{ApartIsZero}
use Rattle.rb_composite.proofs.Joints.{cls-over_joints, total-none}

module _ (shape : Shape) (m : Mechanism Frac) (fit : ColumnsFit shape) (lead : (i : ℕ) → HasBody shape i → shape.mimic i ≡ None) where
  -- a column moves its owner's joint alone
  owner_moves : (c i k : ℕ) → HasJointColumn shape i k → (shape.owner c ≡ i → ⊥) → cls (share shape m c i k) ≡ 0ℚ
  unfolding share
  owner_moves c i k there h = go (shape.first_column i + k == c) refl
    where
      go : (b : Bool) → (shape.first_column i + k == c) ≡ b → cls (if b then followed fracs (shape.mimic i) (m.multiplier i) fracs.one else fracs.nul) ≡ 0ℚ
      go true e =
          let at : shape.first_column i + k ≡ c = grind arith in
          let own : OwnsColumn shape i c = record { there = there.there; leads = lead i there.there; from = omega (arith, at); below = omega (arith, at, there.below) } in
          absurd (h (fit.alone i c own))
      go false e = cls-zero

  zero_first : (x y z : ℚ) → x ≡ 0ℚ → (x *ℚ y) *ℚ z ≡ 0ℚ
  zero_first x y z e = ap (λ (t : ℚ). (t *ℚ y) *ℚ z) e ∙ ap (λ (t : ℚ). t *ℚ z) (mul_comm_ℚ 0ℚ y ∙ mul_nul rats y) ∙ mul_comm_ℚ 0ℚ z ∙ mul_nul rats z

  zero_second : (x y z : ℚ) → y ≡ 0ℚ → (x *ℚ y) *ℚ z ≡ 0ℚ
  zero_second x y z e = ap (λ (t : ℚ). t *ℚ z) (mul_comm_ℚ x y) ∙ zero_first y x z e

  zero_last : (x y z : ℚ) → z ≡ 0ℚ → (x *ℚ y) *ℚ z ≡ 0ℚ
  zero_last x y z e = ap (λ (t : ℚ). (x *ℚ y) *ℚ t) e ∙ mul_nul rats (x *ℚ y)

  module _ (table : ℕ → ℕ → Frac) (is : IsCompositeTable shape m table) (c d : ℕ) (apart : AreApart shape (shape.owner c) (shape.owner d)) where
    no_share : (i k j l : ℕ) → HasJointColumn shape i k → HasJointColumn shape j l → cls (shared shape m is.pair c d i k j l) ≡ 0ℚ
    no_share i k j l hi hj =
        cls_of_mul (mul (share shape m c i k) (share shape m d j l)) (is.pair i k j l)
        ∙ ap (λ (t : ℚ). t *ℚ cls (is.pair i k j l)) (cls_of_mul (share shape m c i k) (share shape m d j l))
        ∙ go (shape.owner c == i) (shape.owner d == j) refl refl
      where
        go : (a b : Bool) → (shape.owner c == i) ≡ a → (shape.owner d == j) ≡ b → (cls (share shape m c i k) *ℚ cls (share shape m d j l)) *ℚ cls (is.pair i k j l) ≡ 0ℚ
        go false b e f = zero_first _ _ _ (owner_moves c i k hi (let differ : ¬ (shape.owner c ≡ i) = grind arith in differ))
        go true false e f = zero_second _ _ _ (owner_moves d j l hj (let differ : ¬ (shape.owner d ≡ j) = grind arith in differ))
        go true true e f =
            let first : shape.owner c ≡ i = grind arith in
            let second : shape.owner d ≡ j = grind arith in
            let at : AreApart shape i j = subst (λ (a : ℕ). AreApart shape i a) second (subst (λ (a : ℕ). AreApart shape a (shape.owner d)) first apart) in
            zero_last _ _ _ (sound (is.pair i k j l) fracs.nul (is.pairs.apart i k j l hi hj at) ∙ cls-zero)

    none_gathered : cls (gathered shape m is.pair c d) ≡ 0ℚ
    none_gathered =
        cls-over_joints shape (λ i k. over_joints shape (λ j l. shared shape m is.pair c d i k j l))
        ∙ total-none shape (λ i k. cls (over_joints shape (λ j l. shared shape m is.pair c d i k j l))) (λ i k hi.
        cls-over_joints shape (λ j l. shared shape m is.pair c d i k j l)
        ∙ total-none shape (λ j l. cls (shared shape m is.pair c d i k j l)) (λ j l hj. no_share i k j l hi hj))

pub apart_is_zero : ApartIsZero
apart_is_zero shape m table fit lead is c d hc hd apart =
    exact (table c d) fracs.nul
    (sound (table c d) (gathered shape m is.pair c d) (is.entry c d hc hd) ∙ none_gathered shape m fit lead table is c d apart ∙ sym cls-zero)
