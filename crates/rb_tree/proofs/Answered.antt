-- What the answer of a test tells, and what holds of each number below the next.
use Rattle.std.proofs.Common.{◌≡◌, ◌<◌, ◌≤◌, ◌+◌, ℕ, Bool, true, false, IsTrue, ◌↔◌, Option, None, Some, is_some, refl, ◌⊎◌, arith, inl, inr, subst, sym}
use Rattle.std.proofs.Math.Nat.{eq-or-lt_of_le}

pub holds : (b : Bool) (P : Type 0) → (IsTrue b ↔ P) → b ≡ true → P
holds b P e h = e.0 h

pub fails : (b : Bool) (P : Type 0) → (IsTrue b ↔ P) → b ≡ false → P → ⊥
fails b P e h p = let t : b ≡ true = e.1 p in cc

-- a number below the next is below the last, or the last
pub below_or_last : (k m : ℕ) → k < m + 1 → (k < m) ⊎ (k ≡ m)
below_or_last k m h =
    let le : k ≤ m = omega arith in
    elim (eq-or-lt_of_le le) [ inl e ↦ inr e | inr l ↦ inl l ]

-- what holds from a number on, and of the next
pub more_from : (P : ℕ → Type 0) (low n : ℕ) → ((k : ℕ) → low ≤ k → k < n → P k) → P n → (k : ℕ) → low ≤ k → k < n + 1 → P k
more_from P low n below here k least high =
    elim (below_or_last k n high) [ inl lt ↦ below k least lt | inr e ↦ subst P (sym e) here ]

pub none_is : {A : Type 0} (o : Option A) → is_some o ≡ false → o ≡ None
none_is None h = refl
none_is (Some x) h = cc
