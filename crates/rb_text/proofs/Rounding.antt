-- How the digits of a number round to the grid.
use Rattle.std.proofs.Common.{◌≡◌, ℕ, zero, suc, ◌+◌, ◌-◌, ◌*◌, ◌/◌, ◌^◌, ◌<◌, ◌≤◌, ◌⊎◌, inl, inr, ⊎_elim, min, pos, neg_ℤ, Bool, true, false, not, List, [], ◌∷◌, ◌++◌, length, take, drop, refl, sym, ap, ◌∙◌, subst, arith, length-append, length-drop}
use Rattle.std.specs.List.{list_all, list_any, AllPass}
use Rattle.std.specs.Char.{is_ascii_digit}
use Rattle.std.specs.Str.Parse.{digits_value, AllDigits}
use Rattle.std.proofs.lemmas.Bool.{cases_lt, and_parts, and_from}
use Rattle.std.proofs.lemmas.List.{take-append-drop, take-append-le, drop-append-le, take_all, drop_all, append-nil}
use Rattle.std.proofs.Math.Seq.{take-append-add, drop-append-add}
use Rattle.std.proofs.lemmas.List.Folds.{list_all-append}
use Rattle.std.proofs.lemmas.List.Sums.{list_all-from_AllPass, AllPass-from_list_all}
use Rattle.std.proofs.lemmas.Int.Digits.{digits_value-lt}
use Rattle.std.proofs.Math.Nat.{mul-le-mul_left, mul-lt-mul_of_pos_right, mul-pos}
use native.Mathlib.Nat.{div-eq_of_lt-le, pow-le-pow_right, zero-lt-suc}
use lib.Pow.{pow-add}
use Rattle.rb_num.specs.Interval.{grid}
use Rattle.rb_num.specs.Dot.{floor_of, ceil_of}
use Rattle.rb_text.specs.Decimal.{Decimal, decimal_from, power_where, numerator_of, denominator_of, denominator_positive}
use Rattle.rb_text.specs.Size.{raised_of, lowered_of}
use Rattle.rb_text.specs.Bracket.{IsRounded}
use Rattle.rb_text.proofs.Digits.{digits_value-append, all_digits, AllDigits-drop, ten_positive, is_other, none_other, some_other}
use Rattle.rb_text.specs.declared.size.TheConstants.{LARGEST, FARTHEST}

-- n units of one part in d, of which `low` are whole and `rest` are left
pub record Divides (n d low rest : ℕ) : Type 0 where
  pub sum : n ≡ low * d + rest
  pub below : rest < d

pub floor_is : (n d low rest : ℕ) → Divides n d low rest → floor_of (pos n) d ≡ pos low
floor_is n d low rest h = ap pos (div-eq_of_lt-le d (omega (arith, h.sum)) (omega (arith, h.sum, h.below)))

quotient_zero : (d : ℕ) → 0 < d → 0 / d ≡ 0
quotient_zero d p = div-eq_of_lt-le d (omega arith) (omega arith)

pub ceil_is : (n d high : ℕ) → 0 < d → n ≤ high * d → high * d < n + d → ceil_of (pos n) d ≡ pos high
ceil_is zero d zero p a b = ap (λ (x : ℕ). neg_ℤ (pos x)) (quotient_zero d p)
ceil_is zero d (suc g) p a b = absurd (omega arith)
ceil_is (suc n) d zero p a b = absurd (omega arith)
ceil_is (suc n) d (suc g) p a b = ap (λ (x : ℕ). pos (suc x)) (div-eq_of_lt-le d (omega arith) (omega arith))

-- ---- the digits of a number, in units of the grid
-- the last digits are cut off, or zeros put behind them
cut_none : (d t r a b n kept : ℕ) → b ≤ a → kept ≡ n - (b - a) → d ≡ t * 10 ^ (n - kept) + r → r < 10 ^ (n - kept) → Divides (d * 10 ^ a) (10 ^ b) (t * 10 ^ (a - b)) (r * 10 ^ a)
cut_none d t r a b n kept l k e h =
    let all : n - kept ≡ 0 = omega arith in
    let one : 10 ^ (n - kept) ≡ 1 = ap (λ (x : ℕ). 10 ^ x) all in
    let none : r ≡ 0 = omega arith in
    let same : d ≡ t = omega (arith, ap (λ (x : ℕ). t * x) one) in
    let back : a ≡ (a - b) + b = omega arith in
    let p : 10 ^ a ≡ 10 ^ (a - b) * 10 ^ b = ap (λ (x : ℕ). 10 ^ x) back ∙ pow-add 10 (a - b) b in
    record {
      sum = omega (arith, ap (λ (x : ℕ). x * 10 ^ a) same, ap (λ (x : ℕ). t * x) p, ap (λ (x : ℕ). x * 10 ^ a) none);
      below = omega (arith, ap (λ (x : ℕ). x * 10 ^ a) none, ten_positive b);
    }

cut_some : (d t r a b n kept : ℕ) → a ≤ b → b - a ≤ n → kept ≡ n - (b - a) → d ≡ t * 10 ^ (n - kept) + r → r < 10 ^ (n - kept) → Divides (d * 10 ^ a) (10 ^ b) (t * 10 ^ (a - b)) (r * 10 ^ a)
cut_some d t r a b n kept l m k e h =
    let c : n - kept ≡ b - a = omega arith in
    let q : 10 ^ (n - kept) ≡ 10 ^ (b - a) = ap (λ (x : ℕ). 10 ^ x) c in
    let back : b ≡ (b - a) + a = omega arith in
    let p : 10 ^ b ≡ 10 ^ (b - a) * 10 ^ a = ap (λ (x : ℕ). 10 ^ x) back ∙ pow-add 10 (b - a) a in
    let none : a - b ≡ 0 = omega arith in
    let one : 10 ^ (a - b) ≡ 1 = ap (λ (x : ℕ). 10 ^ x) none in
    let few : r < 10 ^ (b - a) = omega arith in
    let joined : d ≡ t * 10 ^ (b - a) + r = omega (arith, ap (λ (x : ℕ). t * x) q) in
    record {
      sum = omega (arith, ap (λ (x : ℕ). x * 10 ^ a) joined, ap (λ (x : ℕ). t * x) p, ap (λ (x : ℕ). t * x * 10 ^ b) one);
      below = omega (arith, mul-lt-mul_of_pos_right few (ten_positive a));
    }

cut_all : (d t r a b n kept : ℕ) → n < b - a → (kept ≡ 0 → t ≡ 0) → kept ≡ n - (b - a) → d ≡ t * 10 ^ (n - kept) + r → r < 10 ^ (n - kept) → Divides (d * 10 ^ a) (10 ^ b) (t * 10 ^ (a - b)) (r * 10 ^ a)
cut_all d t r a b n kept l z k e h =
    let none : kept ≡ 0 = omega arith in
    let no : t ≡ 0 = z none in
    let c : n - kept ≤ b - a = omega arith in
    let few : r < 10 ^ (b - a) = omega (arith, pow-le-pow_right (zero-lt-suc 9) c) in
    let back : b ≡ (b - a) + a = omega arith in
    let p : 10 ^ b ≡ 10 ^ (b - a) * 10 ^ a = ap (λ (x : ℕ). 10 ^ x) back ∙ pow-add 10 (b - a) a in
    let same : d ≡ r = omega (arith, ap (λ (x : ℕ). x * 10 ^ (n - kept)) no) in
    record {
      sum = omega (arith, ap (λ (x : ℕ). x * 10 ^ a) same, ap (λ (x : ℕ). x * 10 ^ (a - b) * 10 ^ b) no);
      below = omega (arith, mul-lt-mul_of_pos_right few (ten_positive a));
    }

shifted : (d t r a b n kept : ℕ) → (kept ≡ 0 → t ≡ 0) → kept ≡ n - (b - a) → d ≡ t * 10 ^ (n - kept) + r → r < 10 ^ (n - kept) → Divides (d * 10 ^ a) (10 ^ b) (t * 10 ^ (a - b)) (r * 10 ^ a)
shifted d t r a b n kept z k e h = ⊎_elim {C = Divides (d * 10 ^ a) (10 ^ b) (t * 10 ^ (a - b)) (r * 10 ^ a)}
    (λ (l : n < b - a). cut_all d t r a b n kept l z k e h)
    (λ (l : b - a ≤ n).
    ⊎_elim {C = Divides (d * 10 ^ a) (10 ^ b) (t * 10 ^ (a - b)) (r * 10 ^ a)}
    (λ (m : a < b). cut_some d t r a b n kept (omega arith) l k e h)
    (λ (m : b ≤ a). cut_none d t r a b n kept m k e h)
    (cases_lt a b))
    (cases_lt n (b - a))

-- the digits that are kept, and those that are cut off
value_split : (ds : List ℕ) (kept : ℕ) → digits_value 10 ds ≡ digits_value 10 (take kept ds) * 10 ^ (length ds - kept) + digits_value 10 (drop kept ds)
value_split ds kept =
    ap (digits_value 10) (sym (take-append-drop kept ds)) ∙ digits_value-append (take kept ds) (drop kept ds)
    ∙ ap (λ (x : ℕ). digits_value 10 (take kept ds) * 10 ^ x + digits_value 10 (drop kept ds)) (length-drop kept ds)

rest_small : (ds : List ℕ) (kept : ℕ) → AllDigits 10 ds → digits_value 10 (drop kept ds) < 10 ^ (length ds - kept)
rest_small ds kept h = subst (λ (x : ℕ). digits_value 10 (drop kept ds) < 10 ^ x) (length-drop kept ds) (digits_value-lt 10 _ (AllDigits-drop kept ds h))

none_kept : (ds : List ℕ) (kept : ℕ) → kept ≡ 0 → digits_value 10 (take kept ds) ≡ 0
none_kept ds kept e = ap (λ (x : ℕ). digits_value 10 (take x ds)) e

digits_shifted : (ds : List ℕ) (a b kept : ℕ) → AllDigits 10 ds → kept ≡ length ds - (b - a)
    → Divides (digits_value 10 ds * 10 ^ a) (10 ^ b) (digits_value 10 (take kept ds) * 10 ^ (a - b)) (digits_value 10 (drop kept ds) * 10 ^ a)
digits_shifted ds a b kept h k = shifted (digits_value 10 ds) _ _ a b (length ds) kept (none_kept ds kept) k (value_split ds kept) (rest_small ds kept h)

-- ---- the exponent
raised : (d : ℕ) (down : Bool) (e : ℕ) → d * power_where (not down) e * grid ≡ d * 10 ^ raised_of down e
raised d true e = omega arith
raised d false e = let p : 10 ^ (12 + e) ≡ 10 ^ 12 * 10 ^ e = pow-add 10 12 e in omega (arith, ap (λ (x : ℕ). d * x) p)

lowered : (m : ℕ) (down : Bool) (e : ℕ) → 10 ^ m * power_where down e ≡ 10 ^ lowered_of m down e
lowered m true e = sym (pow-add 10 m e)
lowered m false e = omega arith

-- past the farthest exponent the same digits are kept,
kept_same : (n m e : ℕ) (down : Bool) → n < 2 ^ 65 → m < 2 ^ 65
    → n - (lowered_of m down (min e FARTHEST) - raised_of down (min e FARTHEST)) ≡ n - (lowered_of m down e - raised_of down e)
kept_same n m e true h k = omega arith
kept_same n m e false h k = omega arith

-- and as many zeros put behind them, or more than fit any digit but 0
abbrev AreAsGood : ℕ → ℕ → Type 0
AreAsGood places real = (places ≡ real) ⊎ ((25 ≤ places) × (25 ≤ real))

zeros_same : (m e : ℕ) (down : Bool) → m < 2 ^ 65
    → AreAsGood (raised_of down (min e FARTHEST) - lowered_of m down (min e FARTHEST)) (raised_of down e - lowered_of m down e)
zeros_same m e true k = inl (omega arith)
zeros_same m e false k = ⊎_elim {C = AreAsGood (12 + min e FARTHEST - m) (12 + e - m)}
    (λ (l : e < FARTHEST). inl (omega arith))
    (λ (l : FARTHEST ≤ e). inr (omega arith, omega arith))
    (cases_lt e FARTHEST)

many_zeros : (t places : ℕ) → 25 ≤ places → 0 < t → LARGEST * grid < t * 10 ^ places
many_zeros t places h p =
    let ten : 10 ^ 25 ≤ 10 ^ places = pow-le-pow_right (zero-lt-suc 9) h in
    let one : 1 ≤ t = p in
    omega (arith, mul-le-mul_left (10 ^ places) one)

low_same : (t places real : ℕ) → AreAsGood places real → t * 10 ^ places ≤ LARGEST * grid → t * 10 ^ places ≡ t * 10 ^ real
low_same t places real h l = ⊎_elim {C = t * 10 ^ places ≡ t * 10 ^ real}
    (λ (e : places ≡ real). ap (λ (x : ℕ). t * 10 ^ x) e)
    (λ (e : (25 ≤ places) × (25 ≤ real)).
    ⊎_elim {C = t * 10 ^ places ≡ t * 10 ^ real}
    (λ (p : 0 < t). absurd (omega (arith, many_zeros t places e.0 p)))
    (λ (p : t ≤ 0). let none : t ≡ 0 = omega arith in omega (arith, ap (λ (x : ℕ). x * 10 ^ places) none, ap (λ (x : ℕ). x * 10 ^ real) none))
    (cases_lt 0 t))
    h

low_large : (t places real : ℕ) → AreAsGood places real → LARGEST * grid < t * 10 ^ places → LARGEST * grid < t * 10 ^ real
low_large t places real h l = ⊎_elim {C = LARGEST * grid < t * 10 ^ real}
    (λ (e : places ≡ real). subst (λ (x : ℕ). LARGEST * grid < t * 10 ^ x) e l)
    (λ (e : (25 ≤ places) × (25 ≤ real)).
    ⊎_elim {C = LARGEST * grid < t * 10 ^ real}
    (λ (p : 0 < t). many_zeros t real e.1 p)
    (λ (p : t ≤ 0). let none : t ≡ 0 = omega arith in absurd (omega (arith, ap (λ (x : ℕ). x * 10 ^ places) none)))
    (cases_lt 0 t))
    h

-- ---- rounded up
-- the least number of units that is not below
abbrev pub IsUp : ℕ → ℕ → ℕ → Type 0
IsUp low rest high = ((rest ≡ 0) × (high ≡ low)) ⊎ ((0 < rest) × (high ≡ low + 1))

pub ceil_up : (n d low rest high : ℕ) → 0 < d → Divides n d low rest → IsUp low rest high → ceil_of (pos n) d ≡ pos high
ceil_up n d low rest high p h up = ⊎_elim {C = ceil_of (pos n) d ≡ pos high}
    (λ (u : (rest ≡ 0) × (high ≡ low)).
    let same : high * d ≡ low * d = ap (λ (x : ℕ). x * d) u.1 in
    ceil_is n d high p (omega (arith, h.sum, u.0)) (omega (arith, h.sum, u.0)))
    (λ (u : (0 < rest) × (high ≡ low + 1)).
    let same : high * d ≡ (low + 1) * d = ap (λ (x : ℕ). x * d) u.1 in
    ceil_is n d high p (omega (arith, h.sum, h.below)) (omega (arith, h.sum, h.below, u.0)))
    up

pub large_up : (n d low rest high : ℕ) → 0 < d → Divides (n * grid) d low rest → IsUp low rest high → LARGEST * grid < high → LARGEST * d < n
large_up n d low rest high p h up l = ⊎_elim {C = LARGEST * d < n}
    (λ (u : (rest ≡ 0) × (high ≡ low)).
    let above : LARGEST * grid + 1 ≤ low = omega (arith, u.1) in
    omega (arith, h.sum, mul-le-mul_left d above))
    (λ (u : (0 < rest) × (high ≡ low + 1)).
    let above : LARGEST * grid ≤ low = omega (arith, u.1) in
    omega (arith, h.sum, u.0, mul-le-mul_left d above))
    up

pub fits_up : (n d low rest high : ℕ) → Divides (n * grid) d low rest → IsUp low rest high → high ≤ LARGEST * grid → n ≤ LARGEST * d
fits_up n d low rest high h up l = ⊎_elim {C = n ≤ LARGEST * d}
    (λ (u : (rest ≡ 0) × (high ≡ low)).
    let below : low ≤ LARGEST * grid = omega (arith, u.1) in
    omega (arith, h.sum, u.0, mul-le-mul_left d below))
    (λ (u : (0 < rest) × (high ≡ low + 1)).
    let below : low + 1 ≤ LARGEST * grid = omega (arith, u.1) in
    omega (arith, h.sum, h.below, mul-le-mul_left d below))
    up

pub large_low : (n d low rest : ℕ) → 0 < d → Divides (n * grid) d low rest → LARGEST * grid < low → LARGEST * d < n
large_low n d low rest p h l =
    let above : LARGEST * grid + 1 ≤ low = omega arith in
    omega (arith, h.sum, mul-le-mul_left d above)

-- ---- what the code finds
list_all-drop : (p : ℕ → Bool) (n : ℕ) (xs : List ℕ) → list_all p xs ≡ true → list_all p (drop n xs) ≡ true
list_all-drop p zero xs h = h
list_all-drop p (suc n) [] h = refl
list_all-drop p (suc n) (x ∷ xs) h = list_all-drop p n xs (and_parts (p x) (list_all p xs) h).1

list_all-take : (p : ℕ → Bool) (n : ℕ) (xs : List ℕ) → list_all p xs ≡ true → list_all p (take n xs) ≡ true
list_all-take p zero xs h = refl
list_all-take p (suc n) [] h = refl
list_all-take p (suc n) (x ∷ xs) h = let e = and_parts (p x) (list_all p xs) h in and_from _ _ e.0 (list_all-take p n xs e.1)

-- the digits that the code keeps, how many zeros it puts behind them, and the digits that it cuts off
pub record IsCut (d : Decimal) (cut places : ℕ) (kept rest : List ℕ) : Type 0 where
  pub whole_digits : AllPass is_ascii_digit d.whole
  pub part_digits : AllPass is_ascii_digit d.part
  pub whole_short : length d.whole < 2 ^ 64
  pub part_short : length d.part < 2 ^ 64
  pub cut_is : cut ≡ lowered_of (length d.part) d.down (min (digits_value 10 d.exponent) FARTHEST) - raised_of d.down (min (digits_value 10 d.exponent) FARTHEST)
  pub zeros_is : places ≡ raised_of d.down (min (digits_value 10 d.exponent) FARTHEST) - lowered_of (length d.part) d.down (min (digits_value 10 d.exponent) FARTHEST)
  pub kept_is : kept ≡ take (length (d.whole ++ d.part) - cut) (d.whole ++ d.part)
  pub rest_is : rest ≡ drop (length (d.whole ++ d.part) - cut) (d.whole ++ d.part)

digits_pass : (d : Decimal) (cut places : ℕ) (kept rest : List ℕ) → IsCut d cut places kept rest → list_all is_ascii_digit (d.whole ++ d.part) ≡ true
digits_pass d cut places kept rest h =
    list_all-append is_ascii_digit d.whole d.part ∙ and_from _ _ (list_all-from_AllPass is_ascii_digit d.whole h.whole_digits) (list_all-from_AllPass is_ascii_digit d.part h.part_digits)

abbrev up_of : Decimal → ℕ
up_of d = raised_of d.down (digits_value 10 d.exponent)

abbrev down_of : Decimal → ℕ
down_of d = lowered_of (length d.part) d.down (digits_value 10 d.exponent)

divided : (d : Decimal) (cut places : ℕ) (kept rest : List ℕ) → IsCut d cut places kept rest
    → Divides (numerator_of d * grid) (denominator_of d) (digits_value 10 kept * 10 ^ (up_of d - down_of d)) (digits_value 10 rest * 10 ^ up_of d)
unfolding numerator_of denominator_of
divided d cut places kept rest h =
    let ds = d.whole ++ d.part in
    let e = digits_value 10 d.exponent in
    let m = length d.part in
    let n = length ds in
    let long : n < 2 ^ 65 = omega (arith, length-append d.whole d.part, h.whole_short, h.part_short) in
    let same : n - cut ≡ n - (down_of d - up_of d) = ap (λ (x : ℕ). n - x) h.cut_is ∙ kept_same n m e d.down long (omega (arith, h.part_short)) in
    let all = all_digits ds (AllPass-from_list_all is_ascii_digit ds (digits_pass d cut places kept rest h)) in
    let by = digits_shifted ds (up_of d) (down_of d) (n - cut) all same in
    record {
      sum = raised (digits_value 10 ds) d.down e ∙ by.sum ∙ ap (λ (x : ℕ). digits_value 10 (take (n - cut) ds) * 10 ^ (up_of d - down_of d) * x + digits_value 10 (drop (n - cut) ds) * 10 ^ up_of d) (sym (lowered m d.down e))
          ∙ ap (λ (x : List ℕ). digits_value 10 x * 10 ^ (up_of d - down_of d) * (10 ^ m * power_where d.down e) + digits_value 10 (drop (n - cut) ds) * 10 ^ up_of d) (sym h.kept_is)
          ∙ ap (λ (x : List ℕ). digits_value 10 kept * 10 ^ (up_of d - down_of d) * (10 ^ m * power_where d.down e) + digits_value 10 x * 10 ^ up_of d) (sym h.rest_is);
      below = subst (λ (x : ℕ). digits_value 10 rest * 10 ^ up_of d < x) (sym (lowered m d.down e)) (subst (λ (x : List ℕ). digits_value 10 x * 10 ^ up_of d < 10 ^ down_of d) (sym h.rest_is) by.below);
    }

as_good : (d : Decimal) (cut places : ℕ) (kept rest : List ℕ) → IsCut d cut places kept rest → AreAsGood places (up_of d - down_of d)
as_good d cut places kept rest h = subst (λ (x : ℕ). AreAsGood x (up_of d - down_of d)) (sym h.zeros_is) (zeros_same (length d.part) (digits_value 10 d.exponent) d.down (omega (arith, h.part_short)))

pub kept_large : (d : Decimal) (cut places : ℕ) (kept rest : List ℕ) → IsCut d cut places kept rest → (digits_value 10 kept * 10 ^ places ≤ LARGEST * grid → ⊥) → LARGEST * denominator_of d < numerator_of d
kept_large d cut places kept rest h large =
    let above : LARGEST * grid < digits_value 10 kept * 10 ^ places = omega (arith, large) in
    large_low _ _ _ _ (denominator_positive d) (divided d cut places kept rest h) (low_large _ places _ (as_good d cut places kept rest h) above)

-- whether a digit that is cut off is not 0, and the units rounded up
abbrev pub IsUpBy : List ℕ → ℕ → ℕ → Type 0
IsUpBy rest low high = ((list_any is_other rest ≡ false) × (high ≡ low)) ⊎ ((list_any is_other rest ≡ true) × (high ≡ low + 1))

up_by : (rest : List ℕ) (low high a : ℕ) → list_all is_ascii_digit rest ≡ true → IsUpBy rest low high → IsUp low (digits_value 10 rest * 10 ^ a) high
up_by rest low high a h up = ⊎_elim {C = IsUp low (digits_value 10 rest * 10 ^ a) high}
    (λ (u : (list_any is_other rest ≡ false) × (high ≡ low)). inl (ap (λ (x : ℕ). x * 10 ^ a) (none_other rest u.0) ∙ omega arith, u.1))
    (λ (u : (list_any is_other rest ≡ true) × (high ≡ low + 1)).
    inr (mul-pos (some_other rest (all_digits rest (AllPass-from_list_all is_ascii_digit rest h)) h u.0) (ten_positive a), u.1))
    up

rest_pass : (d : Decimal) (cut places : ℕ) (kept rest : List ℕ) → IsCut d cut places kept rest → list_all is_ascii_digit rest ≡ true
rest_pass d cut places kept rest h = ap (list_all is_ascii_digit) h.rest_is ∙ list_all-drop is_ascii_digit (length (d.whole ++ d.part) - cut) (d.whole ++ d.part) (digits_pass d cut places kept rest h)

up_ordered : (low rest high : ℕ) → IsUp low rest high → low ≤ high
up_ordered low rest high up = ⊎_elim {C = low ≤ high}
    (λ (u : (rest ≡ 0) × (high ≡ low)). omega (arith, u.1)) (λ (u : (0 < rest) × (high ≡ low + 1)). omega (arith, u.1)) up

-- the units that the code finds
pub record IsFound (d : Decimal) (cut places : ℕ) (kept rest : List ℕ) (low high : ℕ) : Type 0 where
  pub cut_off : IsCut d cut places kept rest
  pub fits : digits_value 10 kept * 10 ^ places ≤ LARGEST * grid
  pub low_is : low ≡ digits_value 10 kept * 10 ^ places
  pub up : IsUpBy rest low high

found_divided : (d : Decimal) (cut places : ℕ) (kept rest : List ℕ) (low high : ℕ) → IsFound d cut places kept rest low high
    → Divides (numerator_of d * grid) (denominator_of d) low (digits_value 10 rest * 10 ^ up_of d)
found_divided d cut places kept rest low high f =
    let same = low_same _ places _ (as_good d cut places kept rest f.cut_off) f.fits in
    subst (λ (x : ℕ). Divides (numerator_of d * grid) (denominator_of d) x (digits_value 10 rest * 10 ^ up_of d)) (sym (f.low_is ∙ same)) (divided d cut places kept rest f.cut_off)

pub found_rounded : (d : Decimal) (cut places : ℕ) (kept rest : List ℕ) (low high : ℕ) → IsFound d cut places kept rest low high → high ≤ LARGEST * grid
    → IsRounded (numerator_of d) (denominator_of d) low high
found_rounded d cut places kept rest low high f l =
    let by = found_divided d cut places kept rest low high f in
    let up = up_by rest low high (up_of d) (rest_pass d cut places kept rest f.cut_off) f.up in
    record {
      fits = fits_up _ _ _ _ high by up l;
      low_is = sym (floor_is _ _ _ _ by);
      high_is = sym (ceil_up _ _ _ _ high (denominator_positive d) by up);
      ordered = up_ordered _ _ high up;
      small = l;
    }

pub found_large : (d : Decimal) (cut places : ℕ) (kept rest : List ℕ) (low high : ℕ) → IsFound d cut places kept rest low high → LARGEST * grid < high
    → LARGEST * denominator_of d < numerator_of d
found_large d cut places kept rest low high f l =
    large_up _ _ _ _ high (denominator_positive d) (found_divided d cut places kept rest low high f) (up_by rest low high (up_of d) (rest_pass d cut places kept rest f.cut_off) f.up) l

-- the digits that are kept are digits
pub kept_pass : (whole part a b : List ℕ) (k : ℕ) → AllPass is_ascii_digit whole → AllPass is_ascii_digit part → a ++ b ≡ take k (whole ++ part) → AllPass is_ascii_digit a × AllPass is_ascii_digit b
kept_pass whole part a b k h l e =
    let all = list_all-append is_ascii_digit whole part ∙ and_from _ _ (list_all-from_AllPass is_ascii_digit whole h) (list_all-from_AllPass is_ascii_digit part l) in
    let parts = and_parts _ _ (sym (list_all-append is_ascii_digit a b) ∙ ap (list_all is_ascii_digit) e ∙ list_all-take is_ascii_digit k (whole ++ part) all) in
    (AllPass-from_list_all is_ascii_digit a parts.0, AllPass-from_list_all is_ascii_digit b parts.1)

-- the first k elements of two lists, and those behind them
pub kept_cut : (xs ys : List ℕ) (k i j : ℕ) → i ≡ min k (length xs) → j ≡ k - i → take i xs ++ take j ys ≡ take k (xs ++ ys)
kept_cut xs ys k i j e f = ⊎_elim {C = take i xs ++ take j ys ≡ take k (xs ++ ys)}
    (λ (l : k < length xs).
    let few : k ≤ length xs = omega arith in
    let same : i ≡ k = omega arith in
    let none : j ≡ 0 = omega arith in
    ap (λ (x : ℕ). take x xs ++ take j ys) same ∙ ap (λ (x : ℕ). take k xs ++ take x ys) none ∙ append-nil (take k xs) ∙ sym (take-append-le k xs ys few))
    (λ (l : length xs ≤ k).
    let all : length xs ≤ i = omega arith in
    let sum : length xs + j ≡ k = omega arith in
    ap (λ (x : List ℕ). x ++ take j ys) (take_all i xs all) ∙ sym (take-append-add xs ys j) ∙ ap (λ (x : ℕ). take x (xs ++ ys)) sum)
    (cases_lt k (length xs))

pub rest_cut : (xs ys : List ℕ) (k i j : ℕ) → i ≡ min k (length xs) → j ≡ k - i → drop i xs ++ drop j ys ≡ drop k (xs ++ ys)
rest_cut xs ys k i j e f = ⊎_elim {C = drop i xs ++ drop j ys ≡ drop k (xs ++ ys)}
    (λ (l : k < length xs).
    let few : k ≤ length xs = omega arith in
    let same : i ≡ k = omega arith in
    let none : j ≡ 0 = omega arith in
    ap (λ (x : ℕ). drop x xs ++ drop j ys) same ∙ ap (λ (x : ℕ). drop k xs ++ drop x ys) none ∙ sym (drop-append-le k xs ys few))
    (λ (l : length xs ≤ k).
    let all : length xs ≤ i = omega arith in
    let sum : length xs + j ≡ k = omega arith in
    ap (λ (x : List ℕ). x ++ drop j ys) (drop_all i xs all) ∙ sym (drop-append-add xs ys j) ∙ ap (λ (x : ℕ). drop x (xs ++ ys)) sum)
    (cases_lt k (length xs))

pub cut_by : (negative : Bool) (whole part : List ℕ) (down : Bool) (exponent : List ℕ) (read cut places : ℕ) (kept rest : List ℕ)
    → AllPass is_ascii_digit whole → AllPass is_ascii_digit part → length whole < 2 ^ 64 → length part < 2 ^ 64 → read ≡ min (digits_value 10 exponent) FARTHEST
    → cut ≡ lowered_of (length part) down read - raised_of down read → places ≡ raised_of down read - lowered_of (length part) down read
    → kept ≡ take (length (whole ++ part) - cut) (whole ++ part) → rest ≡ drop (length (whole ++ part) - cut) (whole ++ part)
    → IsCut (decimal_from negative whole part down exponent) cut places kept rest
cut_by negative whole part down exponent read cut places kept rest w p lw lp e c z k r = record {
  whole_digits = w;
  part_digits = p;
  whole_short = lw;
  part_short = lp;
  cut_is = c ∙ ap (λ (x : ℕ). lowered_of (length part) down x - raised_of down x) e;
  zeros_is = z ∙ ap (λ (x : ℕ). raised_of down x - lowered_of (length part) down x) e;
  kept_is = k;
  rest_is = r;
}

pub found_by : (d : Decimal) (cut places : ℕ) (kept rest : List ℕ) (low high : ℕ) → IsCut d cut places kept rest → digits_value 10 kept * 10 ^ places ≤ LARGEST * grid → low ≡ digits_value 10 kept * 10 ^ places
    → IsUpBy rest low high → IsFound d cut places kept rest low high
found_by d cut places kept rest low high c f l up = record { cut_off = c; fits = f; low_is = l; up = up }
