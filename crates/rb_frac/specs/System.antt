-- Square systems of equations over fractions.
use Rattle.std.specs.Prelude.{ℕ, zero, suc, ◌<◌, ◌≡◌, pos}
use Rattle.rb_frac.specs.Frac.{Frac, Same, sub, mul, quot, fracs}
use Rattle.rb_frac.specs.Ops.{sum}

-- x_0 .. x_(n-1) solve the n equations
abbrev pub Solves : ℕ → (ℕ → ℕ → Frac) → (ℕ → Frac) → (ℕ → Frac) → Type 0
Solves n m w x = (i : ℕ) → i < n → Same (sum fracs n (λ d. mul (m i d) (x d))) (w i)

-- what is left once the unknown n is eliminated
unfoldable pub eliminated : ℕ → (ℕ → ℕ → Frac) → ℕ → ℕ → Frac
eliminated n m i d = sub (m i d) (mul (quot (m i n) (m n n)) (m n d))

unfoldable pub HasPivots : ℕ → (ℕ → ℕ → Frac) → Type 0
HasPivots zero m = Unit {0}
HasPivots (suc n) m = (¬ ((m n n).num ≡ pos 0)) × HasPivots n (eliminated n m)

abbrev pub HasOneSolution : ℕ → (ℕ → ℕ → Frac) → (ℕ → Frac) → Type 0
HasOneSolution n m w = (x : ℕ → Frac) × Solves n m w x × ((y : ℕ → Frac) → Solves n m w y → (i : ℕ) → i < n → Same (y i) (x i))

abbrev pub Solvable : Type 0
Solvable = (n : ℕ) (m : ℕ → ℕ → Frac) (w : ℕ → Frac) → HasPivots n m → HasOneSolution n m w
