-- The forms of a number text: one decimal, or a range of two.
use Rattle.std.specs.Prelude.{◌≡◌, ℕ, ◌≤◌, Bool, false, ◌==◌, ◌&&◌, if◌then◌else◌, List, [], ◌∷◌, ◌++◌, length, drop, codes, Option, Some, None}
use Rattle.std.specs.List.{AllPass}
use Rattle.rb_text.specs.Decimal.{Decimal, IsPlainDecimal, IsDecimal, is_blank, decimal_of, lower_of, upper_of}

-- two points stand between the texts, and no two points in a row begin earlier
pub record IsSplit (text first second : List ℕ) : Type 0 where
  pub text_is : text ≡ first ++ (codes ".." ++ second)
  pub earliest : (head tail : List ℕ) → text ≡ head ++ (codes ".." ++ tail) → length first ≤ length head

-- the text is two decimals, split at the first two points in a row, between blanks
pub record IsRange (text : List ℕ) (lower upper : Decimal) : Type 0 where
  pub before : List ℕ
  pub first : List ℕ
  pub second : List ℕ
  pub after : List ℕ
  pub split : IsSplit text (before ++ first) (second ++ after)
  pub before_blank : AllPass is_blank before
  pub first_is : IsPlainDecimal first lower
  pub second_is : IsPlainDecimal second upper
  pub after_blank : AllPass is_blank after

-- what a number text says
pub data Number : Type 0 where
  single : Decimal → Number
  range : Decimal → Decimal → Number

-- the text has the number's form
abbrev pub IsWritten : List ℕ → Number → Type 0
IsWritten text (single d) = IsDecimal text d
IsWritten text (range lower upper) = IsRange text lower upper

-- the texts before and behind two points
pub record Halves : Type 0 where
  pub first : List ℕ
  pub second : List ℕ

abbrev pub begins_with_point : List ℕ → Bool
begins_with_point [] = false
begins_with_point (byte ∷ bytes) = byte == 46

abbrev pub behind : ℕ → Option Halves → Option Halves
behind byte None = None
behind byte (Some h) = Some (record { first = byte ∷ h.first; second = h.second })

-- the texts before and behind the first two points in a row
unfoldable pub split_of : List ℕ → Option Halves
split_of [] = None
split_of (byte ∷ bytes) =
    if byte == 46 && begins_with_point bytes then Some (record { first = []; second = drop 1 bytes })
    else behind byte (split_of bytes)

abbrev pub single_of : Option Decimal → Option Number
single_of None = None
single_of (Some d) = Some (single d)

abbrev pub range_of : Option Decimal → Option Decimal → Option Number
range_of (Some lower) (Some upper) = Some (range lower upper)
range_of (Some lower) None = None
range_of None upper = None

abbrev pub number_of_halves : List ℕ → Option Halves → Option Number
number_of_halves text None = single_of (decimal_of text)
number_of_halves text (Some h) = range_of (lower_of h.first) (upper_of h.second)

-- what a text says, if it is a number text
unfoldable pub number_of : List ℕ → Option Number
number_of text = number_of_halves text (split_of text)
