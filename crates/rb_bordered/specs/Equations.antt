-- The bordered equations: those of a table m, with the forces of rows of constraints, and one for each row. Featherstone, Rigid Body Dynamics Algorithms,
-- chapter 8.
use Rattle.std.specs.Prelude.{ℕ, suc}
use Rattle.rb_frac.specs.Ops.{sum}
use Rattle.rb_frac.specs.Frac.{Frac, Same, fracs, add, mul}
use Rattle.rb_elimination.specs.Paths.{IsColumn}
use Rattle.rb_bordered.specs.Steps.{IsRow}

module _ (n R : ℕ) (m J : ℕ → ℕ → Frac) (mu k g : ℕ → Frac) where
  pub record AreBordered (x lam : ℕ → Frac) : Type 0 where
    -- m x = k + J^T lam
    pub columns : (c : ℕ) → IsColumn n c →
        Same (sum fracs n (λ d. mul (m c (suc d)) (x (suc d)))) (add (k c) (sum fracs R (λ r. mul (J (suc r) c) (lam (suc r)))))
    -- J x + g + mu lam = 0
    pub rows : (r : ℕ) → IsRow R r →
        Same (add (add (sum fracs n (λ c. mul (J r (suc c)) (x (suc c)))) (g r)) (mul (mu r) (lam r))) fracs.nul

  -- the same numbers on the columns and rows
  pub record AreSameSolutions (x lam y nu : ℕ → Frac) : Type 0 where
    pub columns : (c : ℕ) → IsColumn n c → Same (y c) (x c)
    pub rows : (r : ℕ) → IsRow R r → Same (nu r) (lam r)

  -- x and lam solve the bordered equations, and nothing else does
  pub record IsOneBorderedSolution (x lam : ℕ → Frac) : Type 0 where
    pub solves : AreBordered x lam
    pub only : (y nu : ℕ → Frac) → AreBordered y nu → AreSameSolutions x lam y nu
