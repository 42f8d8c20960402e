-- Equations are solved by factors in three steps: with L transposed from the last column down, with D, and with L from the first column up.
-- Featherstone, Rigid Body Dynamics Algorithms, chapter 6.
use Rattle.std.specs.Prelude.{ℕ, suc, ◌<◌}
use Rattle.rb_elimination.specs.Paths.{IsColumn, IsAncestor}
use Rattle.rb_elimination.specs.Factors.{Steps}

module _ {A : Type 0} (s : Steps A) (n : ℕ) (up : ℕ → ℕ) where
  -- w is the right side with L transposed undone: left c is what is left of the right side when only the columns 1 to c still have to be taken, and
  -- that of column c + 1, times the factors in its row, is taken from those of its ancestors
  pub record IsReduced (L : ℕ → ℕ → A) (right : ℕ → A) (left : ℕ → ℕ → A) (w : ℕ → A) : Type 0 where
    pub first : (c : ℕ) → IsColumn n c → s.Equal (left n c) (right c)
    pub result : (c : ℕ) → IsColumn n c → s.Equal (w c) (left c c)
    pub updates : (c d : ℕ) → c < n → IsAncestor up (suc c) d → s.IsLessened (left (suc c) d) (L (suc c) d) (w (suc c)) (left c d)
    pub others : (c d : ℕ) → c < n → IsColumn c d → ¬ IsAncestor up (suc c) d → s.Equal (left c d) (left (suc c) d)

  -- z is w with D undone
  abbrev pub IsDivided : (ℕ → A) → (ℕ → A) → (ℕ → A) → Type 0
  IsDivided D w z = (c : ℕ) → IsColumn n c → s.IsQuotient (w c) (D c) (z c)

  -- x is z with L undone: of z c the factors in row c, times the ancestors' x, are taken, the nearest first. part c d is what is left before
  -- ancestor d has its turn, and part c 0 after all.
  pub record IsSubstituted (L : ℕ → ℕ → A) (z : ℕ → A) (part : ℕ → ℕ → A) (x : ℕ → A) : Type 0 where
    pub first : (c : ℕ) → IsColumn n c → s.Equal (part c (up c)) (z c)
    pub result : (c : ℕ) → IsColumn n c → s.Equal (x c) (part c 0)
    pub updates : (c d : ℕ) → IsColumn n c → IsAncestor up c d → s.IsLessened (part c d) (L c d) (x d) (part c (up d))

  -- x is found from the right side by the three steps
  pub record IsFound (L : ℕ → ℕ → A) (D right x : ℕ → A) : Type 0 where
    pub left : ℕ → ℕ → A
    pub w : ℕ → A
    pub z : ℕ → A
    pub part : ℕ → ℕ → A
    pub reduced : IsReduced L right left w
    pub divided : IsDivided D w z
    pub substituted : IsSubstituted L z part x
