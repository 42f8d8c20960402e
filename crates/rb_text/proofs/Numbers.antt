-- What a text says, and that it says nothing else.
use Rattle.std.proofs.Common.{◌≡◌, ◌⊎◌, ⊎_elim, ℕ, ◌+◌, ◌≤◌, Bool, true, false, cond, eqb, List, [], ◌∷◌, ◌++◌, Option, Some, None, refl, ap, ◌∙◌, subst, arith}
use Rattle.std.specs.List.{list_all, AllPass}
use Rattle.std.specs.Char.{is_ascii_digit}
use Rattle.std.proofs.lemmas.Bool.{and_parts, ne_eqb}
use Rattle.std.proofs.lemmas.List.Sums.{list_all-from_AllPass}
use Rattle.rb_text.specs.Decimal.{Decimal, IsPlainDecimal, IsDecimal, IsSign, IsPoint, IsExponent, IsWrittenExponent, IsNoExponent, is_blank, decimal_of, lower_of, upper_of}
use Rattle.rb_text.specs.Range.{IsSplit, IsRange, Number, single, range, IsWritten, Halves, split_of, single_of, range_of, number_of_halves, number_of}
use Rattle.rb_text.proofs.Digits.{digit_is}
use Rattle.rb_text.proofs.Grammar.{blank_low, decimal_is, decimal_read, IsLower, lower_is, lower_read, IsUpper, upper_is, upper_read}
use Rattle.rb_text.proofs.Splits.{split_some, split_read, none_read}

-- ---- a decimal has one point at most
abbrev points : List ℕ → ℕ
points [] = 0
points (byte ∷ bytes) = cond (eqb byte 46) 1 0 + points bytes

points-append : (xs ys : List ℕ) → points (xs ++ ys) ≡ points xs + points ys
points-append [] ys = omega arith
points-append (x ∷ xs) ys = omega (arith, points-append xs ys)

no_points : (test : ℕ → Bool) (xs : List ℕ) → ((byte : ℕ) → test byte ≡ true → eqb byte 46 ≡ false) → AllPass test xs → points xs ≡ 0
no_points test xs h k = none xs (list_all-from_AllPass test xs k)
  where
    none : (ys : List ℕ) → list_all test ys ≡ true → points ys ≡ 0
    none [] l = refl
    none (y ∷ ys) l =
        let p = and_parts (test y) (list_all test ys) l in
        let first = ap (λ (b : Bool). let n : ℕ = cond b 1 0 in n) (h y p.0) in
        omega (arith, none ys p.1, first)

digit_no_point : (byte : ℕ) → is_ascii_digit byte ≡ true → eqb byte 46 ≡ false
digit_no_point byte h = let d = digit_is byte h in ne_eqb byte 46 (λ (e : byte ≡ 46). absurd (omega (arith, d.low)))

blank_no_point : (byte : ℕ) → is_blank byte ≡ true → eqb byte 46 ≡ false
blank_no_point byte h = let l = blank_low byte h in ne_eqb byte 46 (λ (e : byte ≡ 46). absurd (omega arith))

sign_points : (sign : List ℕ) (negative : Bool) → IsSign sign negative → points sign ≡ 0
sign_points sign true h = ap points h
sign_points sign false h = ⊎_elim {C = points sign ≡ 0} (λ (e : sign ≡ 43 ∷ []). ap points e) (λ (e : sign ≡ []). ap points e) h

point_points : (point part : List ℕ) → IsPoint point part → points point ≤ 1
point_points point part h = ⊎_elim {C = points point ≤ 1}
    (λ (e : point ≡ 46 ∷ []). let one : points point ≡ 1 = ap points e in omega arith)
    (λ (e : (point ≡ []) × (part ≡ [])). let none : points point ≡ 0 = ap points e.0 in omega arith)
    h

letter_points : (letter : List ℕ) → (letter ≡ 101 ∷ []) ⊎ (letter ≡ 69 ∷ []) → points letter ≡ 0
letter_points letter h = ⊎_elim {C = points letter ≡ 0} (λ (e : letter ≡ 101 ∷ []). ap points e) (λ (e : letter ≡ 69 ∷ []). ap points e) h

exponent_points : (exponent : List ℕ) (down : Bool) (digits : List ℕ) → IsExponent exponent down digits → points exponent ≡ 0
exponent_points exponent down digits h = ⊎_elim {C = points exponent ≡ 0}
    (λ (w : IsWrittenExponent exponent down digits).
    omega (
      arith,
      ap points w.text_is,
      points-append w.letter (w.sign ++ digits),
      points-append w.sign digits,
      letter_points w.letter w.letter_is,
      sign_points w.sign down w.sign_is,
      no_points is_ascii_digit digits digit_no_point w.all_digits,
    ))
    (λ (n : IsNoExponent exponent down digits). ap points n.text_is)
    h

plain_points : (plain : List ℕ) (d : Decimal) → IsPlainDecimal plain d → points plain ≤ 1
plain_points plain d h =
    omega (
      arith,
      ap points h.text_is,
      points-append h.sign (d.whole ++ (h.point ++ (d.part ++ h.exponent))),
      points-append d.whole (h.point ++ (d.part ++ h.exponent)),
      points-append h.point (d.part ++ h.exponent),
      points-append d.part h.exponent,
      sign_points h.sign d.negative h.sign_is,
      no_points is_ascii_digit d.whole digit_no_point h.whole_digits,
      point_points h.point d.part h.point_is,
      no_points is_ascii_digit d.part digit_no_point h.part_digits,
      exponent_points h.exponent d.down d.exponent h.exponent_is,
    )

decimal_points : (text : List ℕ) (d : Decimal) → IsDecimal text d → points text ≤ 1
decimal_points text d h =
    omega (
      arith,
      ap points h.text_is,
      points-append h.before (h.plain ++ h.after),
      points-append h.plain h.after,
      no_points is_blank h.before blank_no_point h.before_blank,
      plain_points h.plain d h.plain_is,
      no_points is_blank h.after blank_no_point h.after_blank,
    )

decimal_whole : (text : List ℕ) (d : Decimal) → IsDecimal text d → split_of text ≡ None
decimal_whole text d h = none_read text (λ head tail e.
    let many : points text ≡ points head + (1 + (1 + points tail)) = ap points e ∙ points-append head (46 ∷ (46 ∷ tail)) in
    absurd (omega (arith, decimal_points text d h)))

-- ---- what a text says is written so
single_is : (text : List ℕ) (n : Number) (o : Option Decimal) → decimal_of text ≡ o → single_of o ≡ Some n → IsWritten text n
single_is text n None e h = absurd (cc)
single_is text n (Some d) e h = let same : single d ≡ n = cc in subst (IsWritten text) same (decimal_is text d e)

range_joined : (text first second : List ℕ) (lower upper : Decimal) → IsSplit text first second → IsLower first lower → IsUpper second upper → IsRange text lower upper
range_joined text first second lower upper s l u = record {
  before = l.before;
  first = l.plain;
  second = u.plain;
  after = u.after;
  split = subst (λ (x : List ℕ). IsSplit text x (u.plain ++ u.after)) l.text_is (subst (IsSplit text first) u.text_is s);
  before_blank = l.before_blank;
  first_is = l.plain_is;
  second_is = u.plain_is;
  after_blank = u.after_blank;
}

range_is : (text first second : List ℕ) (n : Number) (o p : Option Decimal) → IsSplit text first second → lower_of first ≡ o → upper_of second ≡ p → range_of o p ≡ Some n → IsWritten text n
range_is text first second n None p s e f h = absurd (cc)
range_is text first second n (Some lower) None s e f h = absurd (cc)
range_is text first second n (Some lower) (Some upper) s e f h =
    let same : range lower upper ≡ n = cc in
    subst (IsWritten text) same (range_joined text first second lower upper s (lower_is first lower e) (upper_is second upper f))

halves_are : (text : List ℕ) (n : Number) (o : Option Halves) → split_of text ≡ o → number_of_halves text o ≡ Some n → IsWritten text n
halves_are text n None e h = single_is text n (decimal_of text) refl h
halves_are text n (Some x) e h = range_is text x.first x.second n (lower_of x.first) (upper_of x.second) (split_some text x e) refl refl h

pub number_is : (text : List ℕ) (n : Number) → number_of text ≡ Some n → IsWritten text n
unfolding number_of
number_is text n h = halves_are text n (split_of text) refl h

-- ---- what is written so is what a text says
decimal_said : (text : List ℕ) (d : Decimal) → IsDecimal text d → number_of text ≡ Some (single d)
unfolding number_of
decimal_said text d h = ap (number_of_halves text) (decimal_whole text d h) ∙ ap single_of (decimal_read text d h)

range_said : (text : List ℕ) (lower upper : Decimal) → IsRange text lower upper → number_of text ≡ Some (range lower upper)
unfolding number_of
range_said text lower upper h =
    ap (number_of_halves text) (split_read text (h.before ++ h.first) (h.second ++ h.after) h.split)
    ∙ ap (λ (o : Option Decimal). range_of o (upper_of (h.second ++ h.after))) (lower_read h.before h.first lower h.before_blank h.first_is)
    ∙ ap (range_of (Some lower)) (upper_read h.second h.after upper h.second_is h.after_blank)

pub number_read : (text : List ℕ) (n : Number) → IsWritten text n → number_of text ≡ Some n
number_read text (single d) h = decimal_said text d h
number_read text (range lower upper) h = range_said text lower upper h
