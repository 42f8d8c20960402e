-- The text of an end, and the number that it says.
use Rattle.std.proofs.Common.{◌≡◌, ℕ, zero, suc, ◌+◌, ◌-◌, ◌*◌, ◌/◌, ◌%◌, ◌^◌, ◌<◌, ◌≤◌, ℤ, pos, negsuc, neg_ℤ, ◌*ℤ◌, Bool, true, false, List, [], ◌∷◌, ◌++◌, length, drop, take, inl, inr, refl, sym, ap, ◌∙◌, subst, arith, length-append, append_assoc}
use Rattle.std.specs.Prelude.{replicate, decimal}
use Rattle.std.specs.Int.RustNames.{unsigned_abs}
use Rattle.std.specs.List.{AllPass, list_all, list_any}
use Rattle.std.specs.Char.{is_ascii_digit, digit_value}
use Rattle.std.specs.Str.Parse.{AllDigits, digits_value}
use Rattle.std.proofs.lemmas.Fmt.{decimal_is_IsNumeral_wide, length-decimal-le_wide}
use Rattle.std.proofs.lemmas.List.{length-replicate, drop-replicate, take_all, append-nil}
use Rattle.std.proofs.lemmas.List.Sums.{AllPass-from_list_all}
use Rattle.std.proofs.lemmas.Str.Parse.{digit_from_value}
use Rattle.std.proofs.lemmas.Int.{ints, to_z-of_z}
use mir.Syntax.{w128}
use mir.Val.{SFits, to_z, of_z}
use Rattle.std.proofs.lemmas.Bool.{and_from, le-leb}
use Rattle.rb_num.specs.Interval.{Interval, IsInterval, grid, limit, IsWithin}
use Rattle.rb_num.specs.Text.{part_text, end_text, iv_text, minus_text}
use Rattle.rb_text.specs.Print.{Says}
use Rattle.rb_text.specs.Decimal.{Decimal, IsPlainDecimal, IsDecimal, IsSign, is_blank, signed_by, numerator_of, denominator_of, exact_value}
use Rattle.rb_text.proofs.Digits.{digits_value-append, is_other, none_other}

few_digits : (n : ℕ) → n < grid → length (decimal n) ≤ 12
few_digits n h =
    let wide : n < 10 ^ 64 = omega arith in
    let twelve : n < 10 ^ 12 = h in
    length-decimal-le_wide 12 n (omega arith) twelve wide

pub length-part_text : (n : ℕ) → n < grid → length (part_text n) ≡ 12
unfolding part_text
length-part_text n h =
    omega (arith, length-append (replicate (12 - length (decimal n)) 48) (decimal n), length-replicate {A = ℕ} (12 - length (decimal n)) 48, few_digits n h)

pub few_bytes : (ds : List ℕ) (n : ℕ) → ds ≡ decimal n → n < grid → length ds ≤ 12
few_bytes ds n e h = subst (λ (x : List ℕ). length x ≤ 12) (sym e) (few_digits n h)

-- zeros before the digits, up to twelve
pub padded : (ds rest before new : List ℕ) (n : ℕ) → ds ≡ decimal n → n < grid → rest ≡ replicate (12 - length ds) 48 → new ≡ (before ++ rest) ++ ds → new ≡ before ++ part_text n
unfolding part_text
padded ds rest before new n e h z w =
    let same : rest ≡ replicate (12 - length (decimal n)) 48 = z ∙ ap (λ (x : List ℕ). replicate (12 - length x) 48) e in
    w ∙ append_assoc before rest ds ∙ ap (λ (x : List ℕ). before ++ (x ++ ds)) same ∙ ap (λ (x : List ℕ). before ++ (replicate (12 - length (decimal n)) 48 ++ x)) e

pub rest_of_zeros : (all ds : List ℕ) → all ≡ replicate 12 48 → length ds ≤ 12 → take (length all - length ds) (drop (length ds) all) ≡ replicate (12 - length ds) 48
rest_of_zeros all ds e h =
    let len : length all ≡ 12 = ap length e in
    let cut : drop (length ds) all ≡ replicate (12 - length ds) 48 = ap (drop (length ds)) e ∙ drop-replicate (length ds) 12 48 in
    let whole : length (drop (length ds) all) ≤ length all - length ds = omega (arith, ap length cut, length-replicate {A = ℕ} (12 - length ds) 48) in
    take_all _ _ whole ∙ cut

-- ---- a whole end
within_size : (z : ℤ) → IsWithin z → unsigned_abs z ≤ limit
within_size (pos n) h = omega (arith, ints, h.below)
within_size (negsuc n) h = omega (arith, ints, h.above)

-- the size of a number that was read from its bits
size_read : (z : ℤ) (size : ℕ) → IsWithin z → size ≡ unsigned_abs (to_z w128 (of_z w128 z)) → size ≡ unsigned_abs z
size_read z size h e = let fits : SFits w128 z = omega (arith, ints, h) in e ∙ ap unsigned_abs (to_z-of_z w128 z fits)

pub whole_bytes : (z : ℤ) (size : ℕ) (ds : List ℕ) → IsWithin z → size ≡ unsigned_abs (to_z w128 (of_z w128 z)) → ds ≡ decimal (size / grid) → length ds ≤ 25
whole_bytes z size ds h r f =
    let e = size_read z size h r in
    let small : size ≤ limit = omega (arith, e, within_size z h) in
    let below : size / grid < 10 ^ 25 = omega arith in
    let wide : size / grid < 10 ^ 64 = omega arith in
    subst (λ (x : List ℕ). length x ≤ 25) (sym f) (length-decimal-le_wide 25 (size / grid) (omega arith) below wide)

-- the length of an end by that of its whole part
pub length-end_text : (z : ℤ) (size : ℕ) (ds : List ℕ) → IsWithin z → size ≡ unsigned_abs (to_z w128 (of_z w128 z)) → ds ≡ decimal (size / grid) → length (end_text z) ≡ length (minus_text (to_z w128 (of_z w128 z))) + (length ds + 13)
unfolding end_text
length-end_text z size ds h r f =
    let e = size_read z size h r in
    let n = unsigned_abs z in
    let whole : length ds ≡ length (decimal (n / grid)) = ap length f ∙ ap (λ (x : ℕ). length (decimal (x / grid))) e in
    let part : length (part_text (n % grid)) ≡ 12 = length-part_text (n % grid) (omega arith) in
    let fits : SFits w128 z = omega (arith, ints, h) in
    omega (
      arith,
      ap (λ (x : ℤ). length (minus_text x)) (to_z-of_z w128 z fits),
      length-append (minus_text z) (decimal (n / grid) ++ (46 ∷ part_text (n % grid))),
      length-append (decimal (n / grid)) (46 ∷ part_text (n % grid)),
    )

end_as_read : (z end : ℤ) → z ≡ end → IsWithin end → length (end_text (to_z w128 (of_z w128 z))) ≡ length (end_text end)
end_as_read z end e h =
    let fits : SFits w128 end = omega (arith, ints, h) in
    ap (λ (x : ℤ). length (end_text (to_z w128 (of_z w128 x)))) e ∙ ap (λ (x : ℤ). length (end_text x)) (to_z-of_z w128 end fits)

-- the length of an interval's text by those of its ends
pub length-iv_text : (v : Interval) (lo hi : ℤ) → lo ≡ v.lo → hi ≡ v.hi → IsInterval v.lo v.hi
    → length (iv_text v) ≡ length (end_text (to_z w128 (of_z w128 lo))) + (2 + length (end_text (to_z w128 (of_z w128 hi))))
unfolding iv_text
length-iv_text v lo hi e f h =
    let low : IsWithin v.lo = record { above = h.low; below = omega (arith, ints, h.ordered, h.high) } in
    let high : IsWithin v.hi = record { above = omega (arith, ints, h.ordered, h.low); below = h.high } in
    omega (arith, length-append (end_text v.lo) (46 ∷ (46 ∷ end_text v.hi)), end_as_read lo v.lo e low, end_as_read hi v.hi f high)

-- ---- the number that an end says
digit_passes : (c : ℕ) → digit_value c < 10 → is_ascii_digit c ≡ true
digit_passes c h = let r = digit_from_value c h in and_from _ _ (le-leb 48 c r.0) (le-leb c 57 r.1)

digits_pass : (ds : List ℕ) → AllDigits 10 ds → list_all is_ascii_digit ds ≡ true
digits_pass [] h = refl
digits_pass (c ∷ cs) h = and_from _ _ (digit_passes c h.0) (digits_pass cs h.1)

zeros_pass : (k : ℕ) (ds : List ℕ) → list_all is_ascii_digit ds ≡ true → list_all is_ascii_digit (replicate k 48 ++ ds) ≡ true
zeros_pass zero ds h = h
zeros_pass (suc k) ds h = zeros_pass k ds h

zeros_say : (k : ℕ) → list_any is_other (replicate k 48) ≡ false
zeros_say zero = refl
zeros_say (suc k) = zeros_say k

decimal_pass : (n : ℕ) → n < 10 ^ 64 → AllPass is_ascii_digit (decimal n)
decimal_pass n h = AllPass-from_list_all is_ascii_digit _ (digits_pass _ (decimal_is_IsNumeral_wide n h).0.1)

part_pass : (n : ℕ) → n < grid → AllPass is_ascii_digit (part_text n)
unfolding part_text
part_pass n h =
    let wide : n < 10 ^ 64 = omega arith in
    AllPass-from_list_all is_ascii_digit _ (zeros_pass (12 - length (decimal n)) (decimal n) (digits_pass _ (decimal_is_IsNumeral_wide n wide).0.1))

part_says : (n : ℕ) → n < grid → digits_value 10 (part_text n) ≡ n
unfolding part_text
part_says n h =
    let wide : n < 10 ^ 64 = omega arith in
    let k = 12 - length (decimal n) in
    let none = none_other (replicate k 48) (zeros_say k) in
    digits_value-append (replicate k 48) (decimal n) ∙ ap (λ (x : ℕ). x * 10 ^ length (decimal n) + digits_value 10 (decimal n)) none
    ∙ (let e = (decimal_is_IsNumeral_wide n wide).1 in omega arith)

abbrev is_negative : ℤ → Bool
is_negative (pos n) = false
is_negative (negsuc n) = true

-- the sign, the whole part and the part behind the point
abbrev decimal_at : ℤ → Decimal
decimal_at z = record { negative = is_negative z; whole = decimal (unsigned_abs z / grid); part = part_text (unsigned_abs z % grid); down = false; exponent = [] }

sign_at : (z : ℤ) → IsSign (minus_text z) (is_negative z)
sign_at (pos n) = inr refl
sign_at (negsuc n) = refl

signed_at : (z : ℤ) (n : ℕ) → n ≡ unsigned_abs z → signed_by (is_negative z) n ≡ z
signed_at (pos m) n e = ap pos e
signed_at (negsuc m) n e = ap (λ (x : ℕ). neg_ℤ (pos x)) e

end_plain : (z : ℤ) → IsWithin z → IsPlainDecimal (end_text z) (decimal_at z)
unfolding end_text
end_plain z h =
    let n = unsigned_abs z in
    let small = within_size z h in
    let wide : n / grid < 10 ^ 64 = omega arith in
    record {
      sign = minus_text z;
      point = 46 ∷ [];
      exponent = [];
      text_is = ap (λ (x : List ℕ). minus_text z ++ (decimal (n / grid) ++ (46 ∷ x))) (sym (append-nil (part_text (n % grid))));
      sign_is = sign_at z;
      whole_digits = decimal_pass (n / grid) wide;
      point_is = inl refl;
      part_digits = part_pass (n % grid) (omega arith);
      exponent_is = inr (record { text_is = refl; down_is = refl; digits_are = refl });
      some_digit = omega (arith, length-part_text (n % grid) (omega arith));
    }

end_decimal : (z : ℤ) → IsWithin z → IsDecimal (end_text z) (decimal_at z)
end_decimal z h = record {
  before = [];
  plain = end_text z;
  after = [];
  text_is = sym (append-nil (end_text z));
  before_blank = AllPass-from_list_all is_blank [] refl;
  plain_is = end_plain z h;
  after_blank = AllPass-from_list_all is_blank [] refl;
}

end_size : (n : ℕ) → n / grid < 10 ^ 64 → digits_value 10 (decimal (n / grid) ++ part_text (n % grid)) ≡ n
end_size n wide =
    let low : n % grid < grid = omega arith in
    let part = part_says (n % grid) low in
    let whole = (decimal_is_IsNumeral_wide (n / grid) wide).1 in
    let long = length-part_text (n % grid) low in
    let tens : 10 ^ length (part_text (n % grid)) ≡ grid = ap (λ (x : ℕ). 10 ^ x) long in
    digits_value-append (decimal (n / grid)) (part_text (n % grid)) ∙ ap (λ (x : ℕ). digits_value 10 (decimal (n / grid)) * x + digits_value 10 (part_text (n % grid))) tens ∙ omega arith

numerator_at : (z : ℤ) → unsigned_abs z / grid < 10 ^ 64 → numerator_of (decimal_at z) ≡ unsigned_abs z
unfolding numerator_of
numerator_at z wide = omega (arith, end_size (unsigned_abs z) wide)

denominator_at : (z : ℤ) → denominator_of (decimal_at z) ≡ grid
unfolding denominator_of
denominator_at z =
    let low : unsigned_abs z % grid < grid = omega arith in
    let tens : 10 ^ length (part_text (unsigned_abs z % grid)) ≡ grid = ap (λ (x : ℕ). 10 ^ x) (length-part_text (unsigned_abs z % grid) low) in
    omega arith

pub end_says : (z : ℤ) → IsWithin z → Says (end_text z) z
unfolding exact_value
end_says z h =
    let small = within_size z h in
    let wide : unsigned_abs z / grid < 10 ^ 64 = omega arith in
    record {
      decimal = decimal_at z;
      is_decimal = end_decimal z h;
      value = ap (λ (x : ℤ). x *ℤ pos grid) (signed_at z _ (numerator_at z wide)) ∙ ap (λ (x : ℕ). z *ℤ pos x) (sym (denominator_at z));
    }
