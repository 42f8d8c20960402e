-- The steps of an elimination over intervals, with their refusals.
use Rattle.std.specs.Prelude.{◌≡◌, ℕ, [], ◌∷◌, Result, Ok}
use Rattle.rb_num.specs.Interval.{Interval, one_interval, negative_of}
use Rattle.rb_num.specs.Dot.{iv_dot}
use Rattle.rb_num.specs.Refusing.{iv_div}
use Rattle.rb_num.specs.Quotient.{HasZero}
use Rattle.rb_num.specs.declared.interval.NumFault.{NumFault}
use Rattle.rb_elimination.specs.Paths.{IsColumn}
use Rattle.rb_elimination.specs.Factors.{Steps}

-- a, and the product of m and b added
abbrev pub with_product : Interval → Interval → Interval → Result Interval NumFault
with_product a m b = iv_dot ((a, one_interval) ∷ (m, b) ∷ [])

-- a, lessened by the product of l and b
abbrev pub lessened : Interval → Interval → Interval → Result Interval NumFault
lessened a l b = with_product a (negative_of l) b

abbrev pub interval_steps : Steps Interval
interval_steps = record {
  Equal = λ x y. x ≡ y;
  IsLessened = λ a l b r. lessened a l b ≡ Ok r;
  IsQuotient = λ a b q. iv_div a b ≡ Ok q;
}

-- zero lies in none of the pivots of the columns
abbrev pub AreDivisors : ℕ → (ℕ → Interval) → Type 0
AreDivisors n D = (c : ℕ) → IsColumn n c → ¬ HasZero (D c)
