-- The bracket that is read is the least, and when there is none.
use Rattle.std.proofs.Common.{◌≡◌, ◌↔◌, ◌⊎◌, inl, inr, ⊎_elim, ℕ, zero, suc, ◌*◌, ◌<◌, ◌≤◌, ℤ, pos, neg_ℤ, ◌+ℤ◌, ◌*ℤ◌, ◌≤ℤ◌, ◌<ℤ◌, Bool, true, false, not, ◌||◌, T, cond, List, Option, Some, None, Result, Ok, Err, IfOk, refl, sym, ap, ◌∙◌, subst, arith}
use Rattle.std.specs.Int.RustNames.{unsigned_abs}
use Rattle.std.specs.Int.Signed.{lt_z, lt_z_no}
use Rattle.std.proofs.lemmas.Bool.{ltb-true, ltb-false, lt-ltb, le-ltb}
use Rattle.std.proofs.lemmas.Int.{ints, by_lt_z}
use Rattle.std.proofs.Math.Nat.{mul-le-mul_left}
use Rattle.std.proofs.Math.IntN.{neg_ℤ-neg_ℤ}
use borrow.Author.Differences.{lt_out}
use Rattle.rb_frac.specs.Frac.{Frac}
use Rattle.rb_frac.proofs.Whole.{neg-mul}
use Rattle.rb_num.specs.Interval.{Interval, interval, grid}
use Rattle.rb_num.specs.Dot.{floor_of, ceil_of}
use Rattle.rb_num.proofs.Quotients.{floor-low, floor-high, ceil-low, ceil-high}
use Rattle.rb_text.specs.declared.bracket.TextFault.{TextFault}
use Rattle.rb_text.specs.declared.bracket.TextFault.TheVariants.{NotNumber, TooLarge, Backwards}
use Rattle.rb_text.specs.Decimal.{Decimal, decimal_from, decimal_of, lower_of, upper_of, numerator_of, denominator_of, exact_value}
use Rattle.rb_text.specs.Range.{Number, single, range, IsWritten, Halves, split_of, single_of, range_of, number_of_halves, number_of}
use Rattle.rb_text.specs.Bracket.{is_large, rounded, bracket_of_value, between, bracket_of_range, bracket_of_number, bracket_of, IsRounded, IsSpan, IsBracketOf, IsBracket, IsNumber, IsLarge, HasLarge, IsLargeNumber, IsBackwards}
use Rattle.rb_text.proofs.Grammar.{decimal_is}
use Rattle.rb_text.proofs.Numbers.{number_is, number_read}
use Rattle.rb_text.specs.declared.size.TheConstants.{LARGEST}
use Rattle.rb_num.specs.Least.{IsLeast}
use Rattle.rb_num.specs.Fraction.{LiesIn}

-- ---- the least interval
at_most : (q f z : ℤ) (n : ℕ) → 0 < n → (q *ℤ pos n) ≤ℤ z → z <ℤ (f *ℤ pos n +ℤ pos n) → q ≤ℤ f
at_most q f z n p h k = by_lt_z f q (λ (l : f <ℤ q). absurd (omega (arith, ints, mul-le-mul_left n (lt_out f q l)))) (λ l. l)

at_least : (q c z : ℤ) (n : ℕ) → 0 < n → z ≤ℤ (q *ℤ pos n) → (c *ℤ pos n +ℤ pos 1) ≤ℤ (z +ℤ pos n) → c ≤ℤ q
at_least q c z n p h k = by_lt_z q c (λ (l : q <ℤ c). absurd (omega (arith, ints, mul-le-mul_left n (lt_out q c l)))) (λ l. l)

pub least : (x : Frac) → IsLeast (LiesIn x) (rounded x)
unfolding rounded
least x =
    let z = x.num *ℤ pos grid in
    record {
      has = record { above = floor-low z x.den x.some; below = ceil-high z x.den x.some };
      least = λ other l. record {
        low = at_most other.lo (floor_of z x.den) z x.den x.some l.above (floor-high z x.den x.some);
        high = at_least other.hi (ceil_of z x.den) z x.den x.some l.below (ceil-low z x.den x.some);
      };
    }

-- ---- a value by its size
size_of_negative : (n : ℕ) → unsigned_abs (neg_ℤ (pos n)) ≡ n
size_of_negative zero = refl
size_of_negative (suc n) = refl

floor_negative : (z : ℤ) (n : ℕ) (high : ℤ) → high ≡ ceil_of z n → floor_of (neg_ℤ z) n ≡ neg_ℤ high
floor_negative z n high e = sym (neg_ℤ-neg_ℤ (floor_of (neg_ℤ z) n)) ∙ ap neg_ℤ (sym e)

ceil_negative : (z : ℤ) (n : ℕ) (low : ℤ) → low ≡ floor_of z n → ceil_of (neg_ℤ z) n ≡ neg_ℤ low
ceil_negative z n low e = ap (λ (x : ℤ). neg_ℤ (floor_of x n)) (neg_ℤ-neg_ℤ z) ∙ ap neg_ℤ (sym e)

same_ends : {a b c d : ℤ} → a ≡ c → b ≡ d → interval a b ≡ interval c d
same_ends {a} {b} {c} {d} p q = ap (λ (x : ℤ). interval x b) p ∙ ap (λ (y : ℤ). interval c y) q

abbrev of_size : Bool → ℕ → ℕ → Interval
of_size negative low high = cond negative (interval (neg_ℤ (pos high)) (neg_ℤ (pos low))) (interval (pos low) (pos high))

small_value : (x : Frac) (v : Interval) → unsigned_abs x.num ≤ LARGEST * x.den → rounded x ≡ v → bracket_of_value x ≡ Ok v
unfolding bracket_of_value
small_value x v h e = rw (le-ltb (LARGEST * x.den) (unsigned_abs x.num) h) (ap (λ (w : Interval). Ok w) e)

large_value : (x : Frac) → LARGEST * x.den < unsigned_abs x.num → bracket_of_value x ≡ Err TooLarge
unfolding bracket_of_value
large_value x h = rw (lt-ltb (LARGEST * x.den) (unsigned_abs x.num) h)

pub value_rounded : (negative : Bool) (whole part : List ℕ) (down : Bool) (exponent : List ℕ) (low high : ℕ)
    → IsRounded (numerator_of (decimal_from negative whole part down exponent)) (denominator_of (decimal_from negative whole part down exponent)) low high
    → bracket_of_value (exact_value (decimal_from negative whole part down exponent)) ≡ Ok (of_size negative low high)
unfolding rounded exact_value
value_rounded true whole part down exponent low high r =
    let d = decimal_from true whole part down exponent in
    let n = numerator_of d in
    let tens = denominator_of d in
    let turned = neg-mul (pos n) (pos grid) in
    small_value (exact_value d) _ (subst (λ (m : ℕ). m ≤ LARGEST * tens) (sym (size_of_negative n)) r.fits)
    (same_ends
    (ap (λ (z : ℤ). floor_of z tens) turned ∙ floor_negative (pos n *ℤ pos grid) tens (pos high) r.high_is)
    (ap (λ (z : ℤ). ceil_of z tens) turned ∙ ceil_negative (pos n *ℤ pos grid) tens (pos low) r.low_is))
value_rounded false whole part down exponent low high r =
    small_value (exact_value (decimal_from false whole part down exponent)) _ r.fits (same_ends (sym r.low_is) (sym r.high_is))

pub value_large : (negative : Bool) (whole part : List ℕ) (down : Bool) (exponent : List ℕ)
    → LARGEST * denominator_of (decimal_from negative whole part down exponent) < numerator_of (decimal_from negative whole part down exponent)
    → bracket_of_value (exact_value (decimal_from negative whole part down exponent)) ≡ Err TooLarge
unfolding exact_value
value_large true whole part down exponent h =
    let d = decimal_from true whole part down exponent in
    large_value (exact_value d) (subst (λ (m : ℕ). LARGEST * denominator_of d < m) (sym (size_of_negative (numerator_of d))) h)
value_large false whole part down exponent h = large_value (exact_value (decimal_from false whole part down exponent)) h

-- ---- the answer at a value
abbrev pub Answer : Type 0
Answer = Result Interval TextFault

abbrev Fits : Frac → Type 0
Fits x = IsLarge x → ⊥

-- too large, or the least interval
record IsSmall (x : Frac) (r : Answer) : Type 0 where
  pub fits : Fits x
  pub is : r ≡ Ok (rounded x)

record IsTooLarge (x : Frac) (r : Answer) : Type 0 where
  pub above : IsLarge x
  pub is : r ≡ Err TooLarge

value_cases : (x : Frac) → IsSmall x (bracket_of_value x) ⊎ IsTooLarge x (bracket_of_value x)
unfolding bracket_of_value
value_cases x =
    elim (is_large x) as (λ b. is_large x ≡ b → IsSmall x (cond b (Err TooLarge) (Ok (rounded x))) ⊎ IsTooLarge x (cond b (Err TooLarge) (Ok (rounded x)))) [
      | true ↦ λ e. inr (record { above = ltb-true _ _ e; is = refl })
      | false ↦ λ e. inl (record { fits = λ h. let at_most : unsigned_abs x.num ≤ LARGEST * x.den = ltb-false _ _ e in absurd (omega arith); is = refl })
    ] refl

-- ---- the answer at two
lt_true : (a b : ℤ) → lt_z a b ≡ true → a <ℤ b
lt_true a b e = record { lt = subst T (sym e) tt }

lt_false : (a b : ℤ) → lt_z a b ≡ false → b ≤ℤ a
lt_false a b e = lt_z_no (subst (λ (x : Bool). T (not x)) (sym e) tt)

-- an end of the first is above that of the second
abbrev Falls : Interval → Interval → Type 0
Falls v w = (w.lo <ℤ v.lo) ⊎ (w.hi <ℤ v.hi)

record IsOrdered (v w : Interval) (r : Answer) : Type 0 where
  pub low : v.lo ≤ℤ w.lo
  pub high : v.hi ≤ℤ w.hi
  pub is : r ≡ Ok (interval v.lo w.hi)

record IsFalling (v w : Interval) (r : Answer) : Type 0 where
  pub falls : Falls v w
  pub is : r ≡ Err Backwards

between_at : (v w : Interval) (b c : Bool) → lt_z w.lo v.lo ≡ b → lt_z w.hi v.hi ≡ c
    → IsOrdered v w (cond (b || c) (Err Backwards) (Ok (interval v.lo w.hi))) ⊎ IsFalling v w (cond (b || c) (Err Backwards) (Ok (interval v.lo w.hi)))
between_at v w true c e f = inr (record { falls = inl (lt_true w.lo v.lo e); is = refl })
between_at v w false true e f = inr (record { falls = inr (lt_true w.hi v.hi f); is = refl })
between_at v w false false e f = inl (record { low = lt_false w.lo v.lo e; high = lt_false w.hi v.hi f; is = refl })

between_cases : (v w : Interval) → IsOrdered v w (between v w) ⊎ IsFalling v w (between v w)
unfolding between
between_cases v w = between_at v w (lt_z w.lo v.lo) (lt_z w.hi v.hi) refl refl

-- what the answer at two values is
data RangeCase (lower upper : Frac) (r : Answer) : Type 0 where
  large : IsLarge lower ⊎ IsLarge upper → r ≡ Err TooLarge → RangeCase lower upper r
  ordered : Fits lower → Fits upper → IsOrdered (rounded lower) (rounded upper) r → RangeCase lower upper r
  falling : Fits lower → Fits upper → IsFalling (rounded lower) (rounded upper) r → RangeCase lower upper r

both_small : (lower upper : Frac) (r : Answer) → Fits lower → Fits upper → IsOrdered (rounded lower) (rounded upper) r ⊎ IsFalling (rounded lower) (rounded upper) r → RangeCase lower upper r
both_small lower upper r h k c = ⊎_elim {C = RangeCase lower upper r} (λ (o : IsOrdered (rounded lower) (rounded upper) r). ordered h k o) (λ (f : IsFalling (rounded lower) (rounded upper) r). falling h k f) c

range_at : (lower upper : Frac) (r s : Answer) → IsSmall lower r ⊎ IsTooLarge lower r → IsSmall upper s ⊎ IsTooLarge upper s → RangeCase lower upper (bracket_of_range r s)
range_at lower upper r s c e = ⊎_elim {C = RangeCase lower upper (bracket_of_range r s)}
    (λ (small : IsSmall lower r).
    ⊎_elim {C = RangeCase lower upper (bracket_of_range r s)}
    (λ (also : IsSmall upper s).
    subst (λ (x : Answer). RangeCase lower upper (bracket_of_range x s)) (sym small.is) (subst (λ (x : Answer). RangeCase lower upper (bracket_of_range (Ok (rounded lower)) x)) (sym also.is)
    (both_small lower upper (between (rounded lower) (rounded upper)) small.fits also.fits (between_cases (rounded lower) (rounded upper)))))
    (λ (above : IsTooLarge upper s). large (inr above.above) (ap (λ (x : Answer). bracket_of_range x s) small.is ∙ ap (bracket_of_range (Ok (rounded lower))) above.is))
    e)
    (λ (above : IsTooLarge lower r). large (inl above.above) (ap (λ (x : Answer). bracket_of_range x s) above.is))
    c

range_case : (lower upper : Frac) → RangeCase lower upper (bracket_of_range (bracket_of_value lower) (bracket_of_value upper))
range_case lower upper = range_at lower upper (bracket_of_value lower) (bracket_of_value upper) (value_cases lower) (value_cases upper)

-- ---- what the answers mean
none_large : (lower upper : Frac) → IsLarge lower ⊎ IsLarge upper → Fits lower → Fits upper → ⊥
none_large lower upper h k l = ⊎_elim {C = ⊥} (λ (a : IsLarge lower). k a) (λ (a : IsLarge upper). l a) h

-- an answer at one value
record Single (x : Frac) (r : Answer) : Type 0 where
  pub number : r ≡ Err NotNumber → ⊥
  pub forward : r ≡ Err Backwards → ⊥
  pub is_large : r ≡ Err TooLarge → IsLarge x
  pub large_is : IsLarge x → r ≡ Err TooLarge
  pub least : (v : Interval) → r ≡ Ok v → IsLeast (LiesIn x) v

single_by : (x : Frac) (r : Answer) → IsSmall x r ⊎ IsTooLarge x r → Single x r
single_by x r c = ⊎_elim {C = Single x r}
    (λ (s : IsSmall x r).
    let is = s.is in
    record {
      number = λ e. cc;
      forward = λ e. cc;
      is_large = λ e. absurd (cc);
      large_is = λ h. absurd (s.fits h);
      least = λ v e. let same : rounded x ≡ v = cc in subst (IsLeast (LiesIn x)) same (least x);
    })
    (λ (t : IsTooLarge x r).
    let is = t.is in
    record {
      number = λ e. cc;
      forward = λ e. cc;
      is_large = λ e. t.above;
      large_is = λ h. is;
      least = λ v e. absurd (cc);
    })
    c

-- the range of two values falls
record IsFallingRange (lower upper : Frac) : Type 0 where
  pub lower_fits : Fits lower
  pub upper_fits : Fits upper
  pub first : Interval
  pub second : Interval
  pub first_least : IsLeast (LiesIn lower) first
  pub second_least : IsLeast (LiesIn upper) second
  pub backwards : (second.lo <ℤ first.lo) ⊎ (second.hi <ℤ first.hi)

-- an answer at two values
record Double (lower upper : Frac) (r : Answer) : Type 0 where
  pub number : r ≡ Err NotNumber → ⊥
  pub is_large : r ≡ Err TooLarge → IsLarge lower ⊎ IsLarge upper
  pub large_is : IsLarge lower ⊎ IsLarge upper → r ≡ Err TooLarge
  pub is_falling : r ≡ Err Backwards → IsFallingRange lower upper
  pub falling_is : IsFallingRange lower upper → r ≡ Err Backwards
  pub span : (v : Interval) → r ≡ Ok v → IsSpan lower upper v

-- every least interval of a value has the ends of this one
rises : (lower upper : Frac) (r : Answer) → IsOrdered (rounded lower) (rounded upper) r → IsFallingRange lower upper → ⊥
rises lower upper r o f =
    let a = ((least lower).least f.first f.first_least.has).low in
    let b = (f.second_least.least (rounded upper) (least upper).has).low in
    let c = (f.first_least.least (rounded lower) (least lower).has).high in
    let d = ((least upper).least f.second f.second_least.has).high in
    ⊎_elim {C = ⊥}
    (λ (l : f.second.lo <ℤ f.first.lo). omega (arith, ints, a, b, o.low))
    (λ (l : f.second.hi <ℤ f.first.hi). omega (arith, ints, c, d, o.high))
    f.backwards

span_at : (lower upper : Frac) (r : Answer) (v : Interval) → IsOrdered (rounded lower) (rounded upper) r → r ≡ Ok v → IsSpan lower upper v
span_at lower upper r v o e =
    let is = o.is in
    let same : interval (rounded lower).lo (rounded upper).hi ≡ v = cc in
    subst (IsSpan lower upper) same (record {
      first = rounded lower;
      second = rounded upper;
      first_least = least lower;
      second_least = least upper;
      low_is = refl;
      high_is = refl;
      low_ordered = o.low;
      high_ordered = o.high;
    })

falling_at : (lower upper : Frac) (r : Answer) → Fits lower → Fits upper → IsFalling (rounded lower) (rounded upper) r → IsFallingRange lower upper
falling_at lower upper r h k f = record {
  lower_fits = h;
  upper_fits = k;
  first = rounded lower;
  second = rounded upper;
  first_least = least lower;
  second_least = least upper;
  backwards = f.falls;
}

double_by : (lower upper : Frac) (r : Answer) → RangeCase lower upper r → Double lower upper r
double_by lower upper r (large h is) = record {
  number = λ e. cc;
  is_large = λ e. h;
  large_is = λ k. is;
  is_falling = λ e. absurd (cc);
  falling_is = λ f. absurd (none_large lower upper h f.lower_fits f.upper_fits);
  span = λ v e. absurd (cc);
}
double_by lower upper r (ordered h k o) =
    let is = o.is in
    record {
      number = λ e. cc;
      is_large = λ e. absurd (cc);
      large_is = λ l. absurd (none_large lower upper l h k);
      is_falling = λ e. absurd (cc);
      falling_is = λ f. absurd (rises lower upper r o f);
      span = λ v e. span_at lower upper r v o e;
    }
double_by lower upper r (falling h k f) =
    let is = f.is in
    record {
      number = λ e. cc;
      is_large = λ e. absurd (cc);
      large_is = λ l. absurd (none_large lower upper l h k);
      is_falling = λ e. falling_at lower upper r h k f;
      falling_is = λ g. is;
      span = λ v e. absurd (cc);
    }

-- a number's answer
abbrev FallsBy : Number → Type 0
FallsBy (single d) = ⊥
FallsBy (range lower upper) = IsFallingRange (exact_value lower) (exact_value upper)

record Outcome (n : Number) (r : Answer) : Type 0 where
  pub number : r ≡ Err NotNumber → ⊥
  pub is_large : r ≡ Err TooLarge → HasLarge n
  pub large_is : HasLarge n → r ≡ Err TooLarge
  pub is_falling : r ≡ Err Backwards → FallsBy n
  pub falling_is : FallsBy n → r ≡ Err Backwards
  pub bracket : (v : Interval) → r ≡ Ok v → IsBracketOf n v

outcome : (n : Number) → Outcome n (bracket_of_number (Some n))
outcome (single d) =
    let s = single_by (exact_value d) (bracket_of_value (exact_value d)) (value_cases (exact_value d)) in
    record { number = s.number; is_large = s.is_large; large_is = s.large_is; is_falling = s.forward; falling_is = λ h. absurd h; bracket = s.least }
outcome (range lower upper) =
    let s = double_by (exact_value lower) (exact_value upper) _ (range_case (exact_value lower) (exact_value upper)) in
    record { number = s.number; is_large = s.is_large; large_is = s.large_is; is_falling = s.is_falling; falling_is = s.falling_is; bracket = s.span }

-- ---- the text's bracket
bracket_some : (text : List ℕ) (n : Number) → number_of text ≡ Some n → bracket_of text ≡ bracket_of_number (Some n)
unfolding bracket_of
bracket_some text n e = ap bracket_of_number e

bracket_none : (text : List ℕ) → number_of text ≡ None → bracket_of text ≡ Err NotNumber
unfolding bracket_of
bracket_none text e = ap bracket_of_number e

outcome_at : (text : List ℕ) (n : Number) → number_of text ≡ Some n → Outcome n (bracket_of text)
outcome_at text n e = subst (Outcome n) (sym (bracket_some text n e)) (outcome n)

found_number : (text : List ℕ) {P : Type 0} → (number_of text ≡ None → P) → ((n : Number) → number_of text ≡ Some n → P) → P
found_number text {P} none some = elim (number_of text) as (λ o. number_of text ≡ o → P) [ None ↦ none | Some n ↦ some n ] refl

bracket_at : (text : List ℕ) (v : Interval) → bracket_of text ≡ Ok v → IsBracket text v
bracket_at text v h = found_number text {P = IsBracket text v}
    (λ e. let n = bracket_none text e in absurd (cc))
    (λ n e. record {
      number = n;
      is_written = number_is text n e;
      only = λ other i. let f = number_read text other i in cc;
      bracket = (outcome_at text n e).bracket v h;
    })

pub bracket_least : (text : List ℕ) (r : Answer) → r ≡ bracket_of text → IfOk r (IsBracket text)
bracket_least text (Ok v) e = bracket_at text v (sym e)
bracket_least text (Err f) e = tt

pub bracket_number : (text : List ℕ) (r : Answer) → r ≡ bracket_of text → (r ≡ Err NotNumber) ↔ (IsNumber text → ⊥)
bracket_number text r e = (
  λ h i. (outcome_at text i.number (number_read text i.number i.is_written)).number (sym e ∙ h),
  λ none. e ∙ found_number text {P = bracket_of text ≡ Err NotNumber} (bracket_none text) (λ n f. absurd (none (record { number = n; is_written = number_is text n f }))),
)

large_number : (text : List ℕ) → bracket_of text ≡ Err TooLarge → IsLargeNumber text
large_number text h = found_number text {P = IsLargeNumber text}
    (λ e. let n = bracket_none text e in absurd (cc))
    (λ n e. record { number = n; is_written = number_is text n e; large = (outcome_at text n e).is_large h })

pub bracket_large : (text : List ℕ) (r : Answer) → r ≡ bracket_of text → (r ≡ Err TooLarge) ↔ IsLargeNumber text
bracket_large text r e = (
  λ h. large_number text (sym e ∙ h),
  λ i. e ∙ (outcome_at text i.number (number_read text i.number i.is_written)).large_is i.large,
)

falling_text : (text : List ℕ) (n : Number) → IsWritten text n → FallsBy n → IsBackwards text
falling_text text (single d) i h = absurd h
falling_text text (range lower upper) i h = record {
  lower = lower;
  upper = upper;
  is_range = i;
  lower_fits = h.lower_fits;
  upper_fits = h.upper_fits;
  first = h.first;
  second = h.second;
  first_least = h.first_least;
  second_least = h.second_least;
  backwards = h.backwards;
}

backwards_text : (text : List ℕ) → bracket_of text ≡ Err Backwards → IsBackwards text
backwards_text text h = found_number text {P = IsBackwards text}
    (λ e. let n = bracket_none text e in absurd (cc))
    (λ n e. falling_text text n (number_is text n e) ((outcome_at text n e).is_falling h))

backwards_falls : (text : List ℕ) (i : IsBackwards text) → IsFallingRange (exact_value i.lower) (exact_value i.upper)
backwards_falls text i = record {
  lower_fits = i.lower_fits;
  upper_fits = i.upper_fits;
  first = i.first;
  second = i.second;
  first_least = i.first_least;
  second_least = i.second_least;
  backwards = i.backwards;
}

pub bracket_backwards : (text : List ℕ) (r : Answer) → r ≡ bracket_of text → (r ≡ Err Backwards) ↔ IsBackwards text
bracket_backwards text r e = (
  λ h. backwards_text text (sym e ∙ h),
  λ i. e ∙ (outcome_at text (range i.lower i.upper) (number_read text (range i.lower i.upper) i.is_range)).falling_is (backwards_falls text i),
)

-- the bracket by the halves of a text, and of a text that is not split
pub bracket_halves : (text first second : List ℕ) → split_of text ≡ Some (record { first = first; second = second }) → bracket_of_number (range_of (lower_of first) (upper_of second)) ≡ bracket_of text
unfolding bracket_of number_of
bracket_halves text first second e = ap (λ (o : Option Halves). bracket_of_number (number_of_halves text o)) (sym e)

pub bracket_whole : (text : List ℕ) → split_of text ≡ None → bracket_of_number (single_of (decimal_of text)) ≡ bracket_of text
unfolding bracket_of number_of
bracket_whole text e = ap (λ (o : Option Halves). bracket_of_number (number_of_halves text o)) (sym e)

pub bracket_single : (text : List ℕ) (d : Decimal) → decimal_of text ≡ Some d → bracket_of_value (exact_value d) ≡ bracket_of text
unfolding bracket_of
bracket_single text d e = sym (ap bracket_of_number (number_read text (single d) (decimal_is text d e)))

pub bracket_neither : (text : List ℕ) → decimal_of text ≡ None → split_of text ≡ None → Err NotNumber ≡ bracket_of text
bracket_neither text e f = sym (ap (λ (o : Option Decimal). bracket_of_number (single_of o)) e) ∙ bracket_whole text f
