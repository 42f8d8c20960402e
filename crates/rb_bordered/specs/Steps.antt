-- The steps of an elimination, and sums, at fractions or at intervals.
use Rattle.std.specs.Prelude.{ℕ, suc}
use Rattle.rb_frac.specs.Ops.{sum}
use Rattle.rb_frac.specs.Frac.{Frac, Same, fracs, add, mul, neg}
use Rattle.rb_elimination.specs.Paths.{IsColumn}
use Rattle.rb_elimination.specs.Factors.{Steps, fraction_steps}

-- IsSumOfProducts n a b t says that t is the sum over c from 1 to n of a c times b c, IsSum a b t that t is a and b, and IsNegative a t that t is the
-- negative of a. Of steps that may be refused they also say that they are not.
pub record RowSteps (A : Type 0) : Type 1 where
  pub steps : Steps A
  pub IsSumOfProducts : ℕ → (ℕ → A) → (ℕ → A) → A → Type 0
  pub IsSum : A → A → A → Type 0
  pub IsNegative : A → A → Type 0

-- exact fractions
abbrev pub fraction_row_steps : RowSteps Frac
fraction_row_steps = record {
  steps = fraction_steps;
  IsSumOfProducts = λ n a b t. Same t (sum fracs n (λ c. mul (a (suc c)) (b (suc c))));
  IsSum = λ a b t. Same t (add a b);
  IsNegative = λ a t. Same t (neg a);
}

-- rows of constraints are numbered from 1 to R
abbrev pub IsRow : ℕ → ℕ → Type 0
IsRow R r = IsColumn R r
