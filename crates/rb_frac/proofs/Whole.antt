-- ℤ as a commutative ring, with what cancels and the order by differences.
use mathlib.Core.Path.{◌≡◌, refl, sym, ◌∙◌, ap, ap₂}
use mathlib.Core.Logic.{◌⊎◌, inl, inr}
use Prim.Native.Nat.{ℕ, zero, suc, ◌*◌, ◌<◌}
use mathlib.Core.List.{[], ◌∷◌}
use native.Mathlib.Omega.{arith}
use native.Mathlib.Nat as NatL
use lib.Signed.{◌≤ℤ◌}
use Rattle.std.proofs.lemmas.Int.{ints}
use lib.IntN.{ℤ, pos, negsuc, ◌+ℤ◌, ◌-ℤ◌, ◌*ℤ◌, neg_ℤ, suc_ℤ, pred_ℤ, suc_ℤ-+ℤ, pred_ℤ-+ℤ, +ℤ_assoc, +ℤ_comm, +ℤ_idl, +ℤ_idr, +ℤ_invr, suc_ℤ-*ℤ, pred_ℤ-*ℤ, *ℤ_comm, zero-*ℤ, nat_abs}
use Rattle.rb_frac.proofs.Ring.{Ops, CommRing, var, plus, minus, ring}
use Rattle.rb_frac.proofs.Vec.{nth}

pub induct : (P : ℤ → Type 0) → P (pos zero) → ((z : ℤ) → P z → P (suc_ℤ z)) → ((z : ℤ) → P z → P (pred_ℤ z)) → (z : ℤ) → P z
induct P b s p (pos zero) = b
induct P b s p (pos (suc n)) = s (pos n) (induct P b s p (pos n))
induct P b s p (negsuc zero) = p (pos zero) b
induct P b s p (negsuc (suc n)) = p (negsuc n) (induct P b s p (negsuc n))

pub add-mul : (a b k : ℤ) → (a +ℤ b) *ℤ k ≡ a *ℤ k +ℤ b *ℤ k
add-mul a b k = induct (λ z. (z +ℤ b) *ℤ k ≡ z *ℤ k +ℤ b *ℤ k)
    (ap (λ x. x *ℤ k) (+ℤ_idl b) ∙ sym (ap (λ x. x +ℤ b *ℤ k) (zero-*ℤ k) ∙ +ℤ_idl (b *ℤ k)))
    (λ z h. ap (λ x. x *ℤ k) (suc_ℤ-+ℤ z b) ∙ suc_ℤ-*ℤ (z +ℤ b) k ∙ ap (λ x. x +ℤ k) h ∙ shift (z *ℤ k) (b *ℤ k) k ∙ ap (λ x. x +ℤ b *ℤ k) (sym (suc_ℤ-*ℤ z k)))
    (λ z h. ap (λ x. x *ℤ k) (pred_ℤ-+ℤ z b) ∙ pred_ℤ-*ℤ (z +ℤ b) k ∙ ap (λ x. x -ℤ k) h ∙ shift (z *ℤ k) (b *ℤ k) (neg_ℤ k) ∙ ap (λ x. x +ℤ b *ℤ k) (sym (pred_ℤ-*ℤ z k)))
    a
  where
    shift : (x y w : ℤ) → (x +ℤ y) +ℤ w ≡ (x +ℤ w) +ℤ y
    shift x y w = +ℤ_assoc x y w ∙ ap (λ t. x +ℤ t) (+ℤ_comm y w) ∙ sym (+ℤ_assoc x w y)

pub mul-add : (k a b : ℤ) → k *ℤ (a +ℤ b) ≡ k *ℤ a +ℤ k *ℤ b
mul-add k a b = *ℤ_comm k (a +ℤ b) ∙ add-mul a b k ∙ ap₂ ◌+ℤ◌ (*ℤ_comm a k) (*ℤ_comm b k)

pub neg-mul : (a b : ℤ) → neg_ℤ a *ℤ b ≡ neg_ℤ (a *ℤ b)
neg-mul a b = sym (+ℤ_idl (neg_ℤ a *ℤ b)) ∙ ap (λ x. x +ℤ neg_ℤ a *ℤ b) (sym (+ℤ_comm (neg_ℤ (a *ℤ b)) (a *ℤ b) ∙ +ℤ_invr (a *ℤ b))) ∙ +ℤ_assoc (neg_ℤ (a *ℤ b)) (a *ℤ b) (neg_ℤ a *ℤ b) ∙ ap (λ x. neg_ℤ (a *ℤ b) +ℤ x) (sym (add-mul a (neg_ℤ a) b) ∙ ap (λ x. x *ℤ b) (+ℤ_invr a) ∙ zero-*ℤ b) ∙ +ℤ_idr (neg_ℤ (a *ℤ b))

pub mul_assoc : (a b c : ℤ) → (a *ℤ b) *ℤ c ≡ a *ℤ (b *ℤ c)
mul_assoc a b c = induct (λ z. (z *ℤ b) *ℤ c ≡ z *ℤ (b *ℤ c))
    (ap (λ x. x *ℤ c) (zero-*ℤ b) ∙ zero-*ℤ c ∙ sym (zero-*ℤ (b *ℤ c)))
    (λ z h. ap (λ x. x *ℤ c) (suc_ℤ-*ℤ z b) ∙ add-mul (z *ℤ b) b c ∙ ap (λ x. x +ℤ b *ℤ c) h ∙ sym (suc_ℤ-*ℤ z (b *ℤ c)))
    (λ z h. ap (λ x. x *ℤ c) (pred_ℤ-*ℤ z b) ∙ add-mul (z *ℤ b) (neg_ℤ b) c ∙ ap₂ ◌+ℤ◌ h (neg-mul b c) ∙ sym (pred_ℤ-*ℤ z (b *ℤ c)))
    a

abbrev pub whole_ops : Ops ℤ
whole_ops = record { add = ◌+ℤ◌; mul = ◌*ℤ◌; neg = neg_ℤ; nul = pos 0; one = pos 1 }

abbrev pub whole : CommRing ℤ
whole = record { ops = whole_ops; add_assoc = +ℤ_assoc; add_comm = +ℤ_comm; add_nul = +ℤ_idr; add_neg = +ℤ_invr; mul_assoc = mul_assoc; mul_comm = *ℤ_comm; mul_one = mul-one; mul_add = mul-add }
  where
    mul-one : (a : ℤ) → a *ℤ pos 1 ≡ a
    mul-one (pos n) = ap pos (NatL.mul-one n)
    mul-one (negsuc n) = ap (λ x. neg_ℤ (pos x)) (NatL.mul-one (suc n))

pub abs-neg : (n : ℕ) → nat_abs (neg_ℤ (pos n)) ≡ n
abs-neg zero = refl
abs-neg (suc n) = refl

-- a product with a positive number that is zero has the other factor zero
pub null_of_product : (a : ℤ) (k : ℕ) → 0 < k → a *ℤ pos k ≡ pos 0 → a ≡ pos 0
null_of_product (pos n) k h e = ap pos (go n k h (ap nat_abs e))
  where
    go : (n k : ℕ) → 0 < k → n * k ≡ 0 → n ≡ 0
    go n k h e = grind arith
null_of_product (negsuc n) k h e = absurd (go n k h (ap nat_abs e))
  where
    go : (n k : ℕ) → 0 < k → nat_abs (neg_ℤ (pos (suc n * k))) ≡ 0 → ⊥
    go n k h e = absurd (grind (arith, sym (abs-neg (suc n * k)) ∙ e))

pub cancel : (a b : ℤ) (k : ℕ) → 0 < k → a *ℤ pos k ≡ b *ℤ pos k → a ≡ b
cancel a b k h e = ring whole (nth (pos 0) (a ∷ b ∷ [])) (var 0) (plus (plus (var 0) (minus (var 1))) (var 1)) refl ∙ ap (λ x. x +ℤ b) (null_of_product (a +ℤ neg_ℤ b) k h diff) ∙ +ℤ_idl b
  where
    diff : (a +ℤ neg_ℤ b) *ℤ pos k ≡ pos 0
    diff = add-mul a (neg_ℤ b) (pos k) ∙ ap₂ ◌+ℤ◌ e (neg-mul b (pos k)) ∙ +ℤ_invr (b *ℤ pos k)

-- ---- not negative
abbrev pub NonNeg : ℤ → Type 0
NonNeg (pos n) = Unit {0}
NonNeg (negsuc n) = ⊥

pub NonNeg-add : (a b : ℤ) → NonNeg a → NonNeg b → NonNeg (a +ℤ b)
NonNeg-add (pos m) (pos n) h k = tt
NonNeg-add (pos m) (negsuc n) h k = absurd k
NonNeg-add (negsuc m) b h k = absurd h

pub NonNeg-mul : (a b : ℤ) → NonNeg a → NonNeg b → NonNeg (a *ℤ b)
NonNeg-mul (pos m) (pos n) h k = tt
NonNeg-mul (pos m) (negsuc n) h k = absurd k
NonNeg-mul (negsuc m) b h k = absurd h

pub NonNeg_total : (a : ℤ) → NonNeg a ⊎ NonNeg (neg_ℤ a)
NonNeg_total (pos n) = inl tt
NonNeg_total (negsuc n) = inr tt

pub null_from_NonNeg : (a : ℤ) → NonNeg a → NonNeg (neg_ℤ a) → a ≡ pos 0
null_from_NonNeg (pos zero) h k = refl
null_from_NonNeg (pos (suc n)) h k = absurd k
null_from_NonNeg (negsuc n) h k = absurd h

neg_not : (n : ℕ) → 0 < n → NonNeg (neg_ℤ (pos n)) → ⊥
neg_not zero h k = omega arith
neg_not (suc n) h k = k

pub NonNeg_cancel : (a : ℤ) (k : ℕ) → 0 < k → NonNeg (a *ℤ pos k) → NonNeg a
NonNeg_cancel (pos n) k h t = tt
NonNeg_cancel (negsuc n) k h t = neg_not (suc n * k) (some n k h) t
  where
    some : (n k : ℕ) → 0 < k → 0 < suc n * k
    some n k h = grind arith

pub le-diff : (a b : ℤ) → a ≤ℤ b → NonNeg (b -ℤ a)
le-diff a b h = go (b -ℤ a) refl
  where
    go : (z : ℤ) → b -ℤ a ≡ z → NonNeg z
    go (pos n) e = tt
    go (negsuc n) e = absurd (omega (arith, ints))

pub diff-le : (a b : ℤ) → NonNeg (b -ℤ a) → a ≤ℤ b
diff-le a b h = go (b -ℤ a) refl h
  where
    go : (z : ℤ) → b -ℤ a ≡ z → NonNeg z → a ≤ℤ b
    go (pos n) e k = omega (arith, ints)
    go (negsuc n) e k = absurd k
