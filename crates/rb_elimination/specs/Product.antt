-- The table that has given factors, and what it is to be the one solution of its equations.
use Rattle.std.specs.Prelude.{ℕ, suc, ◌<◌}
use Rattle.rb_frac.specs.Ops.{sum}
use Rattle.rb_frac.specs.Frac.{Frac, Same, fracs, mul}
use Rattle.rb_frac.specs.System.{Solves}
use Rattle.rb_elimination.specs.Paths.{IsColumn, IsAncestor, IsOn}

-- lower is the lower triangular table of L: in row c it has one at c, and L at the ancestors of c
pub record IsLower (n : ℕ) (up : ℕ → ℕ) (L lower : ℕ → ℕ → Frac) : Type 0 where
  pub diagonal : (c : ℕ) → IsColumn n c → Same (lower c c) fracs.one
  pub ancestors : (c d : ℕ) → IsColumn n c → IsAncestor up c d → Same (lower c d) (L c d)
  pub others : (c d : ℕ) → IsColumn n c → IsColumn n d → ¬ IsOn up c d → Same (lower c d) fracs.nul

-- the table is the product of the lower triangular table transposed, the diagonal one of D, and the lower triangular one
pub record HasFactors (n : ℕ) (up : ℕ → ℕ) (m L : ℕ → ℕ → Frac) (D : ℕ → Frac) : Type 0 where
  pub lower : ℕ → ℕ → Frac
  pub is_lower : IsLower n up L lower
  pub product : (c d : ℕ) → IsColumn n c → IsColumn n d →
      Same (m c d) (sum fracs n (λ k. mul (mul (lower (suc k) c) (D (suc k))) (lower (suc k) d)))

-- a table, or a list, of columns that are numbered from 1, from 0 on
abbrev pub rows_of : (ℕ → ℕ → Frac) → ℕ → ℕ → Frac
rows_of m c d = m (suc c) (suc d)

abbrev pub numbers_of : (ℕ → Frac) → ℕ → Frac
numbers_of w c = w (suc c)

-- x solves the equations of the table with this right side, and nothing else does
pub record IsOneSolution (n : ℕ) (m : ℕ → ℕ → Frac) (right x : ℕ → Frac) : Type 0 where
  pub solves : Solves n (rows_of m) (numbers_of right) (numbers_of x)
  pub only : (y : ℕ → Frac) → Solves n (rows_of m) (numbers_of right) y → (c : ℕ) → c < n → Same (y c) (x (suc c))
