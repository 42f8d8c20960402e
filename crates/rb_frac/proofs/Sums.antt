-- Finite sums over a commutative ring.
use mathlib.Core.Path.{◌≡◌, refl, sym, ◌∙◌, ap, ap₂}
use Prim.Native.Nat.{ℕ, zero, suc, ◌+◌, ◌<◌}
use native.Mathlib.Omega.{arith}
use native.Mathlib.Nat as NatL
unfoldable pub use Rattle.rb_frac.specs.Ops.{sum}
use Rattle.rb_frac.proofs.Ring.{Ops, CommRing, add_swap, mul_nul, neg_nul, neg_add}

pub sum-zero : {A : Type 0} (o : Ops A) (f : ℕ → A) → sum o 0 f ≡ o.nul
unfolding sum
sum-zero o f = refl

pub sum-suc : {A : Type 0} (o : Ops A) (n : ℕ) (f : ℕ → A) → sum o (suc n) f ≡ o.add (sum o n f) (f n)
unfolding sum
sum-suc o n f = refl

pub sum_ext : {A : Type 0} (o : Ops A) (n : ℕ) (f g : ℕ → A) → ((i : ℕ) → i < n → f i ≡ g i) → sum o n f ≡ sum o n g
unfolding sum
sum_ext o zero f g h = refl
sum_ext o (suc n) f g h = ap₂ o.add (sum_ext o n f g (λ i l. h i (omega arith))) (h n (omega arith))

module _ {A : Type 0} (R : CommRing A) where
  open R.ops use {add as ◌⊕◌, mul as ◌⊗◌, neg, nul, one}

  infixl 6 ◌⊕◌
  infixl 7 ◌⊗◌
  pub sum-add : (n : ℕ) (f g : ℕ → A) → sum R.ops n (λ i. f i ⊕ g i) ≡ sum R.ops n f ⊕ sum R.ops n g
  unfolding sum
  sum-add zero f g = sym (R.add_nul nul)
  sum-add (suc n) f g = ap (λ t. t ⊕ (f n ⊕ g n)) (sum-add n f g) ∙ add_swap R (sum R.ops n f) (sum R.ops n g) (f n) (g n)

  pub sum-mul : (n : ℕ) (k : A) (f : ℕ → A) → sum R.ops n (λ i. k ⊗ f i) ≡ k ⊗ sum R.ops n f
  unfolding sum
  sum-mul zero k f = sym (mul_nul R k)
  sum-mul (suc n) k f = ap (λ t. t ⊕ k ⊗ f n) (sum-mul n k f) ∙ sym (R.mul_add k (sum R.ops n f) (f n))

  pub sum-neg : (n : ℕ) (f : ℕ → A) → sum R.ops n (λ i. neg (f i)) ≡ neg (sum R.ops n f)
  unfolding sum
  sum-neg zero f = sym (neg_nul R)
  sum-neg (suc n) f = ap (λ t. t ⊕ neg (f n)) (sum-neg n f) ∙ sym (neg_add R (sum R.ops n f) (f n))

  pub sum-nul : (n : ℕ) → sum R.ops n (λ i. nul) ≡ nul
  unfolding sum
  sum-nul zero = refl
  sum-nul (suc n) = ap (λ t. t ⊕ nul) (sum-nul n) ∙ R.add_nul nul

  pub sum_first : (n : ℕ) (f : ℕ → A) → sum R.ops (suc n) f ≡ f 0 ⊕ sum R.ops n (λ i. f (suc i))
  unfolding sum
  sum_first zero f = R.add_comm nul (f 0)
  sum_first (suc n) f = ap (λ t. t ⊕ f (suc n)) (sum_first n f) ∙ R.add_assoc (f 0) (sum R.ops n (λ i. f (suc i))) (f (suc n))

  pub sum_swap : (n m : ℕ) (f : ℕ → ℕ → A) → sum R.ops n (λ i. sum R.ops m (λ j. f i j)) ≡ sum R.ops m (λ j. sum R.ops n (λ i. f i j))
  unfolding sum
  sum_swap zero m f = sym (sum-nul m)
  sum_swap (suc n) m f = ap (λ t. t ⊕ sum R.ops m (λ j. f n j)) (sum_swap n m f) ∙ sym (sum-add m (λ j. sum R.ops n (λ i. f i j)) (λ j. f n j))

  pub sum_split : (m n : ℕ) (f : ℕ → A) → sum R.ops (m + n) f ≡ sum R.ops m f ⊕ sum R.ops n (λ i. f (m + i))
  unfolding sum
  sum_split m zero f = ap (λ k. sum R.ops k f) (NatL.add-zero m) ∙ sym (R.add_nul (sum R.ops m f))
  sum_split m (suc n) f = ap (λ k. sum R.ops k f) (NatL.add-suc m n) ∙ ap (λ t. t ⊕ f (m + n)) (sum_split m n f) ∙ R.add_assoc (sum R.ops m f) (sum R.ops n (λ i. f (m + i))) (f (m + n))
