-- The bracket of a number text.
use Rattle.std.specs.Prelude.{◌≡◌, ◌⊎◌, ℕ, ◌*◌, ◌<◌, ◌≤◌, pos, ◌*ℤ◌, ◌≤ℤ◌, ◌<ℤ◌, Bool, ◌||◌, nat_lt, if◌then◌else◌, unsigned_abs, List, Option, Some, None, Result, Ok, Err}
use Rattle.std.specs.Int.Signed.{lt_z}
use Rattle.rb_frac.specs.Frac.{Frac}
use Rattle.rb_num.specs.Interval.{Interval, interval, grid}
use Rattle.rb_num.specs.Dot.{floor_of, ceil_of}
use Rattle.rb_num.specs.Fraction.{LiesIn}
use Rattle.rb_text.specs.Decimal.{Decimal, exact_value}
use Rattle.rb_text.specs.Range.{Number, single, range, IsWritten, IsRange, number_of}
use Rattle.rb_text.specs.declared.bracket.TextFault.{TextFault}
use Rattle.rb_text.specs.declared.bracket.TextFault.TheVariants.{NotNumber, TooLarge, Backwards}
use Rattle.rb_text.specs.declared.size.TheConstants.{LARGEST}
use Rattle.rb_num.specs.Least.{IsLeast}

-- whether the size is above the largest
abbrev pub is_large : Frac → Bool
is_large x = nat_lt (LARGEST * x.den) (unsigned_abs x.num)

-- size / tens is not too large, and in units of the grid `low` when rounded down and `high` when rounded up
pub record IsRounded (size tens low high : ℕ) : Type 0 where
  pub fits : size ≤ LARGEST * tens
  pub low_is : pos low ≡ floor_of (pos size *ℤ pos grid) tens
  pub high_is : pos high ≡ ceil_of (pos size *ℤ pos grid) tens
  pub ordered : low ≤ high
  pub small : high ≤ LARGEST * grid

-- the value rounded down and up to the grid
unfoldable pub rounded : Frac → Interval
rounded x = interval (floor_of (x.num *ℤ pos grid) x.den) (ceil_of (x.num *ℤ pos grid) x.den)

unfoldable pub bracket_of_value : Frac → Result Interval TextFault
bracket_of_value x = if is_large x then Err TooLarge else Ok (rounded x)

-- whether an end of the first is above that of the second
abbrev pub is_backwards : Interval → Interval → Bool
is_backwards v w = lt_z w.lo v.lo || lt_z w.hi v.hi

-- from the lower end of the first to the upper end of the second
unfoldable pub between : Interval → Interval → Result Interval TextFault
between v w = if is_backwards v w then Err Backwards else Ok (interval v.lo w.hi)

abbrev pub bracket_of_range : Result Interval TextFault → Result Interval TextFault → Result Interval TextFault
bracket_of_range (Ok v) (Ok w) = between v w
bracket_of_range (Ok v) (Err fault) = Err fault
bracket_of_range (Err fault) second = Err fault

abbrev pub bracket_of_number : Option Number → Result Interval TextFault
bracket_of_number None = Err NotNumber
bracket_of_number (Some (single d)) = bracket_of_value (exact_value d)
bracket_of_number (Some (range lower upper)) = bracket_of_range (bracket_of_value (exact_value lower)) (bracket_of_value (exact_value upper))

unfoldable pub bracket_of : List ℕ → Result Interval TextFault
bracket_of text = bracket_of_number (number_of text)

-- v goes from the lower end of the least interval of the one value to the upper end of that of the other
pub record IsSpan (lower upper : Frac) (v : Interval) : Type 0 where
  pub first : Interval
  pub second : Interval
  pub first_least : IsLeast (LiesIn lower) first
  pub second_least : IsLeast (LiesIn upper) second
  pub low_is : v.lo ≡ first.lo
  pub high_is : v.hi ≡ second.hi
  pub low_ordered : first.lo ≤ℤ second.lo
  pub high_ordered : first.hi ≤ℤ second.hi

-- v is the number's bracket
abbrev pub IsBracketOf : Number → Interval → Type 0
IsBracketOf (single d) v = IsLeast (LiesIn (exact_value d)) v
IsBracketOf (range lower upper) v = IsSpan (exact_value lower) (exact_value upper) v

-- the text says one number and no other, whose bracket is v
pub record IsBracket (text : List ℕ) (v : Interval) : Type 0 where
  pub number : Number
  pub is_written : IsWritten text number
  pub only : (other : Number) → IsWritten text other → other ≡ number
  pub bracket : IsBracketOf number v

-- the text is a decimal or a range of two
pub record IsNumber (text : List ℕ) : Type 0 where
  pub number : Number
  pub is_written : IsWritten text number

-- the size is above the largest
abbrev pub IsLarge : Frac → Type 0
IsLarge x = LARGEST * x.den < unsigned_abs x.num

-- a value of the number is too large
abbrev pub HasLarge : Number → Type 0
HasLarge (single d) = IsLarge (exact_value d)
HasLarge (range lower upper) = IsLarge (exact_value lower) ⊎ IsLarge (exact_value upper)

-- the text is a number, of which a value has a size above the largest
pub record IsLargeNumber (text : List ℕ) : Type 0 where
  pub number : Number
  pub is_written : IsWritten text number
  pub large : HasLarge number

-- the text is a range of two values that are not too large, and an end of the least interval of the first is above that of the second
pub record IsBackwards (text : List ℕ) : Type 0 where
  pub lower : Decimal
  pub upper : Decimal
  pub is_range : IsRange text lower upper
  pub lower_fits : ¬ IsLarge (exact_value lower)
  pub upper_fits : ¬ IsLarge (exact_value upper)
  pub first : Interval
  pub second : Interval
  pub first_least : IsLeast (LiesIn (exact_value lower)) first
  pub second_least : IsLeast (LiesIn (exact_value upper)) second
  pub backwards : (second.lo <ℤ first.lo) ⊎ (second.hi <ℤ first.hi)
