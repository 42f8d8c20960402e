-- Decimal number texts, and the numbers that they say.
use Rattle.std.specs.Prelude.{◌≡◌, ◌⊎◌, ℕ, ◌<◌, ◌+◌, ◌*◌, ◌^◌, Bool, true, false, not, ◌==◌, ◌||◌, nat_lt, if◌then◌else◌, List, [], ◌∷◌, ◌++◌, length, drop, take_while, codes, Option, Some, None, ℤ, pos, neg_ℤ}
use Rattle.std.specs.List.{AllPass, prefix_len, list_all}
use Rattle.std.specs.Char.{is_ascii_digit}
use Rattle.std.specs.Str.Parse.{digits_value}
use Rattle.rb_frac.specs.Frac.{Frac}
use Rattle.std.proofs.Math.Nat.{mul-pos}
use native.Mathlib.Nat.{one-le-pow, zero-lt-suc}

-- the sign of a number, its digits before and behind the point, and the sign and the digits of its exponent
pub record Decimal : Type 0 where
  pub negative : Bool
  pub whole : List ℕ
  pub part : List ℕ
  pub down : Bool
  pub exponent : List ℕ

abbrev pub decimal_from : Bool → List ℕ → List ℕ → Bool → List ℕ → Decimal
decimal_from negative whole part down exponent = record { negative = negative; whole = whole; part = part; down = down; exponent = exponent }

-- a space or a tab
abbrev pub is_blank : ℕ → Bool
is_blank byte = byte == 32 || byte == 9

-- a minus, or a plus or nothing
abbrev pub IsSign : List ℕ → Bool → Type 0
IsSign sign true = sign ≡ codes "-"
IsSign sign false = (sign ≡ codes "+") ⊎ (sign ≡ [])

-- a point, or nothing where no digits are behind it
abbrev pub IsPoint : List ℕ → List ℕ → Type 0
IsPoint point part = (point ≡ codes ".") ⊎ ((point ≡ []) × (part ≡ []))

-- an `e` or an `E`, a sign and at least one digit
pub record IsWrittenExponent (text : List ℕ) (down : Bool) (digits : List ℕ) : Type 0 where
  pub letter : List ℕ
  pub sign : List ℕ
  pub text_is : text ≡ letter ++ (sign ++ digits)
  pub letter_is : (letter ≡ codes "e") ⊎ (letter ≡ codes "E")
  pub sign_is : IsSign sign down
  pub all_digits : AllPass is_ascii_digit digits
  pub some_digit : 0 < length digits

-- nothing at all
pub record IsNoExponent (text : List ℕ) (down : Bool) (digits : List ℕ) : Type 0 where
  pub text_is : text ≡ []
  pub down_is : down ≡ false
  pub digits_are : digits ≡ []

-- an exponent, or nothing
abbrev pub IsExponent : List ℕ → Bool → List ℕ → Type 0
IsExponent text down digits = IsWrittenExponent text down digits ⊎ IsNoExponent text down digits

-- the text is a sign, digits with at most one point and at least one digit, and an exponent or none
pub record IsPlainDecimal (text : List ℕ) (d : Decimal) : Type 0 where
  pub sign : List ℕ
  pub point : List ℕ
  pub exponent : List ℕ
  pub text_is : text ≡ sign ++ (d.whole ++ (point ++ (d.part ++ exponent)))
  pub sign_is : IsSign sign d.negative
  pub whole_digits : AllPass is_ascii_digit d.whole
  pub point_is : IsPoint point d.part
  pub part_digits : AllPass is_ascii_digit d.part
  pub exponent_is : IsExponent exponent d.down d.exponent
  pub some_digit : 0 < length d.whole + length d.part

-- the text is a decimal between blanks
pub record IsDecimal (text : List ℕ) (d : Decimal) : Type 0 where
  pub before : List ℕ
  pub plain : List ℕ
  pub after : List ℕ
  pub text_is : text ≡ before ++ (plain ++ after)
  pub before_blank : AllPass is_blank before
  pub plain_is : IsPlainDecimal plain d
  pub after_blank : AllPass is_blank after

-- the first bytes that pass, and those behind them
unfoldable pub span_of : (ℕ → Bool) → List ℕ → List ℕ × List ℕ
span_of test text = (take_while test text, drop (prefix_len test text) text)

-- whether a minus is first, and what is behind the sign
unfoldable pub sign_of : List ℕ → Bool × List ℕ
sign_of [] = (false, [])
sign_of (byte ∷ bytes) = if byte == 45 then (true, bytes) else if byte == 43 then (false, bytes) else (false, byte ∷ bytes)

-- the digits behind a point, and what is behind them
unfoldable pub part_of : List ℕ → List ℕ × List ℕ
part_of [] = ([], [])
part_of (byte ∷ bytes) = if byte == 46 then span_of is_ascii_digit bytes else ([], byte ∷ bytes)

-- an exponent at the start, and what is behind it
pub record Exponent : Type 0 where
  pub down : Bool
  pub digits : List ℕ
  pub rest : List ℕ

abbrev pub no_exponent : List ℕ → Exponent
no_exponent text = record { down = false; digits = []; rest = text }

-- the sign and the digits behind the letter, where there is a digit
unfoldable pub scale_of : List ℕ → List ℕ → Exponent
scale_of text behind =
    let signed = sign_of behind in
    let digits = span_of is_ascii_digit signed.1 in
    if nat_lt 0 (length digits.0) then record { down = signed.0; digits = digits.0; rest = digits.1 } else no_exponent text

unfoldable pub exponent_of : List ℕ → Exponent
exponent_of [] = no_exponent []
exponent_of (byte ∷ bytes) = if byte == 101 || byte == 69 then scale_of (byte ∷ bytes) bytes else no_exponent (byte ∷ bytes)

-- a decimal at the start of a text, and what is behind it
pub record Start : Type 0 where
  pub decimal : Decimal
  pub rest : List ℕ

unfoldable pub start_of : List ℕ → Option Start
start_of text =
    let signed = sign_of text in
    let whole = span_of is_ascii_digit signed.1 in
    let part = part_of whole.1 in
    let exponent = exponent_of part.1 in
    if nat_lt 0 (length whole.0 + length part.0)
    then Some (record { decimal = record { negative = signed.0; whole = whole.0; part = part.0; down = exponent.down; exponent = exponent.digits }; rest = exponent.rest })
    else None

-- the decimal, where what is behind it passes
abbrev pub ended : (List ℕ → Bool) → Option Start → Option Decimal
ended test None = None
ended test (Some s) = if test s.rest then Some s.decimal else None

abbrev pub is_empty : List ℕ → Bool
is_empty text = length text == 0

-- the decimal that a text is, with blanks before and behind it
unfoldable pub decimal_of : List ℕ → Option Decimal
decimal_of text = ended (list_all is_blank) (start_of (span_of is_blank text).1)

-- the decimal that a text is, with blanks before it
unfoldable pub lower_of : List ℕ → Option Decimal
lower_of text = ended is_empty (start_of (span_of is_blank text).1)

-- the decimal that a text is, with blanks behind it
unfoldable pub upper_of : List ℕ → Option Decimal
upper_of text = ended (list_all is_blank) (start_of text)

abbrev pub signed_by : Bool → ℕ → ℤ
signed_by true n = neg_ℤ (pos n)
signed_by false n = pos n

-- ten to the power where it counts, else 1
abbrev pub power_where : Bool → ℕ → ℕ
power_where true exponent = 10 ^ exponent
power_where false exponent = 1

pub power_positive : (n : ℕ) → 0 < 10 ^ n
power_positive n = one-le-pow n 10 (zero-lt-suc 9)

pub power_where_positive : (b : Bool) (n : ℕ) → 0 < power_where b n
power_where_positive true n = power_positive n
power_where_positive false n = zero-lt-suc 0

-- the digits as a whole number, times ten to the exponent
unfoldable pub numerator_of : Decimal → ℕ
numerator_of d = digits_value 10 (d.whole ++ d.part) * power_where (not d.down) (digits_value 10 d.exponent)

-- ten for each digit behind the point, times ten to the exponent where it is negative
unfoldable pub denominator_of : Decimal → ℕ
denominator_of d = 10 ^ length d.part * power_where d.down (digits_value 10 d.exponent)

pub denominator_positive : (d : Decimal) → 0 < denominator_of d
unfolding denominator_of
denominator_positive d = mul-pos (power_positive (length d.part)) (power_where_positive d.down (digits_value 10 d.exponent))

-- the digits as a fraction, times a power of ten
unfoldable pub exact_value : Decimal → Frac
exact_value d = record {
  num = signed_by d.negative (numerator_of d);
  den = denominator_of d;
  some = denominator_positive d;
}
