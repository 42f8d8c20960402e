-- Sums over intervals, with their refusals.
use Rattle.std.specs.Prelude.{◌≡◌, ℕ, zero, suc, List, [], ◌∷◌, ◌++◌, slice_index_or, Ok}
use Rattle.rb_num.specs.Interval.{Interval, zero_interval, negative_of}
use Rattle.rb_num.specs.Dot.{iv_dot}
use Rattle.rb_num.specs.Refusing.{iv_add}
use Rattle.rb_factor.specs.Steps.{interval_steps}
use Rattle.rb_bordered.specs.Steps.{RowSteps}

-- the pairs (a 1, b 1), .., (a n, b n)
unfoldable pub pairs_of : (ℕ → Interval) → (ℕ → Interval) → ℕ → List (Interval × Interval)
pairs_of a b zero = []
pairs_of a b (suc n) = pairs_of a b n ++ ((a (suc n), b (suc n)) ∷ [])

abbrev pub interval_row_steps : RowSteps Interval
interval_row_steps = record {
  steps = interval_steps;
  IsSumOfProducts = λ n a b t. iv_dot (pairs_of a b n) ≡ Ok t;
  IsSum = λ a b t. iv_add a b ≡ Ok t;
  IsNegative = λ a t. t ≡ negative_of a;
}

-- what a list has for a row; its first is that of row 1
abbrev pub of_row : List Interval → ℕ → Interval
of_row mus zero = zero_interval
of_row mus (suc k) = slice_index_or mus k zero_interval
