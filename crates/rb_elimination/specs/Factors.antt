-- The factors of a symmetric table that is zero off the paths of a tree: the table is the product of three, a lower triangular one with ones on its
-- diagonal, transposed, a diagonal one, and the lower triangular one (L^T D L, by columns from the last). Featherstone, Rigid Body Dynamics
-- Algorithms, chapter 6: factors without fill-in, since an entry changes only where both of its columns are ancestors of the one that is eliminated.
use Rattle.std.specs.Prelude.{ℕ, suc, ◌<◌}
use Rattle.rb_frac.specs.Frac.{Frac, Same, sub, mul, quot}
use Rattle.rb_elimination.specs.Paths.{IsColumn, IsAncestor, IsOn}

-- what the steps of an elimination give, at fractions or at intervals: Equal x y says that both are one number, IsLessened a l b r that r is a
-- lessened by the product of l and b, and IsQuotient a b q that q is a divided by b. Of steps that may be refused they also say that they are not.
pub record Steps (A : Type 0) : Type 1 where
  pub Equal : A → A → Type 0
  pub IsLessened : A → A → A → A → Type 0
  pub IsQuotient : A → A → A → Type 0

-- exact fractions; a quotient by 0 is 0
abbrev pub fraction_steps : Steps Frac
fraction_steps = record {
  Equal = Same;
  IsLessened = λ a l b r. Same r (sub a (mul l b));
  IsQuotient = λ a b q. Same q (quot a b);
}

-- L and D are the factors of the given table, and table c is what is left of it when only the columns 1 to c still have to be eliminated. Column
-- c + 1 has its pivot and its quotients in its row. The entries of its ancestors change, the others of the columns up to c do not.
-- Only entries (c, d) with d on the path of c are spoken of.
pub record AreFactors {A : Type 0} (s : Steps A) (n : ℕ) (up : ℕ → ℕ) (given : ℕ → ℕ → A) (table : ℕ → ℕ → ℕ → A) (L : ℕ → ℕ → A) (D : ℕ → A) : Type 0 where
  pub first : (c d : ℕ) → IsColumn n c → IsOn up c d → s.Equal (table n c d) (given c d)
  pub pivots : (c : ℕ) → c < n → s.Equal (D (suc c)) (table (suc c) (suc c) (suc c))
  pub quotients : (c d : ℕ) → c < n → IsAncestor up (suc c) d → s.IsQuotient (table (suc c) (suc c) d) (D (suc c)) (L (suc c) d)
  pub updates : (c d e : ℕ) → c < n → IsAncestor up (suc c) d → IsOn up d e →
      s.IsLessened (table (suc c) d e) (L (suc c) d) (table (suc c) (suc c) e) (table c d e)
  pub others : (c d e : ℕ) → c < n → IsColumn c d → ¬ IsAncestor up (suc c) d → IsOn up d e → s.Equal (table c d e) (table (suc c) d e)
