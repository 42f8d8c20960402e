-- Pairs of columns, and the entries of the mass table at them.
use Rattle.std.proofs.Common.{◌≡◌, ◌<◌, ◌≤◌, ◌+◌, ◌-◌, ◌*◌, ◌/◌, ℕ, zero, suc, List, [], ◌∷◌, ◌++◌, length, map, flat_map, take, Some, refl, ◌∙◌, ap, sym, arith, append-nil, append_assoc, length-append, inl, inr}
use Rattle.std.specs.List.{range_with_len}
use Rattle.std.specs.Prelude.{slice_get}
use Rattle.std.proofs.lemmas.List.{map-append, take_all, length-map}
use Rattle.std.proofs.lemmas.List.FromFn.{length-range_with_len, get_or-range_with_len}
use Rattle.std.proofs.lemmas.Option.{get_or_from_slice_get, slice_get_within}
use Rattle.std.proofs.lemmas.Bool.{cases_lt}
use Rattle.std.proofs.lemmas.Simd.{map-map}
use Rattle.rb_num.specs.Interval.{Interval}
use Rattle.rb_sweep.specs.Sweep.{upward, counting_up}
use Rattle.rb_urdf.proofs.Zips.{slice_get-of_map}
use Rattle.rb_work.specs.View.{View, mass_at}
use Rattle.rb_tree.proofs.ListLaws.{slice_get-append_left}
use Rattle.rb_rows.specs.Head.{pairs_at, pairs_of}
use Rattle.rb_run.specs.Answers.{mass_of_pair}

-- ---- columns as numbers
counting_is : (lo n : ℕ) → counting_up lo n ≡ range_with_len lo n
counting_is lo zero = refl
counting_is lo (suc n) = ap (λ ns. lo ∷ ns) (counting_is (lo + 1) n)

-- the entries at column c and each from it on are those of its pairs
pub row_is : (w : View) (n c : ℕ) → map (mass_at w c) (upward c (n + 1)) ≡ map (mass_of_pair w) (pairs_at n c)
unfolding upward
row_is w n c = ap (map (mass_at w c)) (counting_is c (n + 1 - c)) ∙ sym (map-map (mass_of_pair w) (λ d. (c, d)) (range_with_len c (n + 1 - c)))

pub row_long : (n c : ℕ) → length (pairs_at n c) ≡ n + 1 - c
row_long n c = length-map (range_with_len c (n + 1 - c)) (λ d. (c, d)) ∙ length-range_with_len c (n + 1 - c)

-- ---- the pairs from a column on
abbrev pub pairs_from : ℕ → ℕ → List (ℕ × ℕ)
pairs_from n c = flat_map (pairs_at n) (range_with_len c (n + 1 - c))

pub from_first : (n : ℕ) → pairs_from n 1 ≡ pairs_of n
from_first n = let e : n + 1 - 1 ≡ n = omega arith in ap (λ k. flat_map (pairs_at n) (range_with_len 1 k)) e

pub from_next : (n c : ℕ) → c ≤ n → pairs_from n c ≡ pairs_at n c ++ pairs_from n (c + 1)
from_next n c within =
    let e : n + 1 - c ≡ suc (n - c) = omega arith in
    let f : n - c ≡ n + 1 - (c + 1) = omega arith in
    ap (λ k. flat_map (pairs_at n) (range_with_len c k)) e ∙ ap (λ k. pairs_at n c ++ flat_map (pairs_at n) (range_with_len (c + 1) k)) f

pub from_none : (n c : ℕ) → n < c → pairs_from n c ≡ []
from_none n c past = let e : n + 1 - c ≡ 0 = omega arith in ap (λ k. flat_map (pairs_at n) (range_with_len c k)) e

-- ---- how many there are
more_pairs : (m : ℕ) → 2 * suc m + m * (m + 1) ≡ suc m * (suc m + 1)
more_pairs m = omega arith

counted : (n c m : ℕ) → c + m ≡ n + 1 → 2 * length (flat_map (pairs_at n) (range_with_len c m)) ≡ m * (m + 1)
counted n c zero is = refl
counted n c (suc m) is =
    let first : length (pairs_at n c) ≡ suc m = omega (arith, row_long n c, is) in
    let later = counted n (c + 1) m (omega (arith, is)) in
    let all = length-append (pairs_at n c) (flat_map (pairs_at n) (range_with_len (c + 1) m)) in
    ap (λ k. 2 * k) all ∙ omega (arith, first, later, more_pairs m)

pub pairs_counted : (n : ℕ) → length (pairs_of n) ≡ n * (n + 1) / 2
pairs_counted n = omega (arith, counted n 1 n (omega arith))

-- ---- which they are
pub record IsPair (n c d : ℕ) : Type 0 where
  pub from : 1 ≤ c
  pub order : c ≤ d
  pub to : d ≤ n

abbrev pair : ℕ → ℕ → ℕ × ℕ
pair c d = (c, d)

in_row : (n c k a b : ℕ) → 1 ≤ c → slice_get (pairs_at n c) k ≡ Some (a, b) → IsPair n a b
in_row n c k a b some is =
    let found = slice_get-of_map (λ d. (c, d)) (range_with_len c (n + 1 - c)) k (a, b) is in
    let within = slice_get_within (range_with_len c (n + 1 - c)) k found.0 found.1 in
    let long = length-range_with_len c (n + 1 - c) in
    let at = sym (get_or_from_slice_get (range_with_len c (n + 1 - c)) k found.0 0 found.1) ∙ get_or-range_with_len c (n + 1 - c) k 0 (omega (arith, within, long)) in
    pair_is c found.0 a b found.2 some at (omega (arith, within, long))
  where
    pair_is : (c d a b : ℕ) → pair c d ≡ pair a b → 1 ≤ c → d ≡ c + k → k < n + 1 - c → IsPair n a b
    pair_is c d a b same some at few =
        let first : c ≡ a = ap (λ (p : ℕ × ℕ). p.0) same in
        let second : d ≡ b = ap (λ (p : ℕ × ℕ). p.1) same in
        record { from = omega (arith, some, first); order = omega (arith, first, second, at); to = omega (arith, second, at, few) }

behind_row : (xs ys : List (ℕ × ℕ)) (k : ℕ) → length xs ≤ k → slice_get (xs ++ ys) k ≡ slice_get ys (k - length xs)
behind_row [] ys k past = let e : k ≡ k - 0 = omega arith in ap (slice_get ys) e
behind_row (x ∷ xs) ys zero past = absurd (omega (arith, past))
behind_row (x ∷ xs) ys (suc k) past = let e : k - length xs ≡ suc k - suc (length xs) = omega arith in behind_row xs ys k (omega (arith, past)) ∙ ap (slice_get ys) e

in_rows : (n c m k a b : ℕ) → 1 ≤ c → slice_get (flat_map (pairs_at n) (range_with_len c m)) k ≡ Some (a, b) → IsPair n a b
in_rows n c zero k a b some is = absurd cc
in_rows n c (suc m) k a b some is =
    let others = flat_map (pairs_at n) (range_with_len (c + 1) m) in
    elim (cases_lt k (length (pairs_at n c))) [
      | inl here ↦ in_row n c k a b some (sym (slice_get-append_left (pairs_at n c) others k here) ∙ is)
      | inr later ↦ in_rows n (c + 1) m (k - length (pairs_at n c)) a b (omega arith) (sym (behind_row (pairs_at n c) others k (omega (arith, later))) ∙ is)
    ]

pub pair_at : (n k c d : ℕ) → slice_get (pairs_of n) k ≡ Some (c, d) → IsPair n c d
pair_at n k c d is = in_rows n 1 n k c d (omega arith) is

-- ---- rows of entries, taken one after the other
-- those of the columns below c are taken, which are so many
pub record MassesTaken (w : View) (n : ℕ) (old new : List Interval) (c behind : ℕ) : Type 0 where
  pub taken : take behind new ++ map (mass_of_pair w) (pairs_from n c) ≡ map (mass_of_pair w) (pairs_of n)
  pub left : behind + length (pairs_from n c) ≡ length old
  pub long : length new ≡ length old

pub masses_none : (w : View) (n : ℕ) (old : List Interval) → length old ≡ n * (n + 1) / 2 → MassesTaken w n old old 1 0
masses_none w n old all = record {
  taken = ap (map (mass_of_pair w)) (from_first n);
  left = omega (arith, ap length (from_first n), pairs_counted n, all);
  long = refl;
}

-- there is room for one more row
pub masses_room : (w : View) (n : ℕ) (old new : List Interval) (c behind : ℕ) → c ≤ n → MassesTaken w n old new c behind → behind + (n + 1 - c) ≤ length new
masses_room w n old new c behind within so_far =
    let more = ap length (from_next n c within) ∙ length-append (pairs_at n c) (pairs_from n (c + 1)) in
    omega (arith, more, row_long n c, so_far.left, so_far.long)

pub masses_more : (w : View) (n : ℕ) (old mid new : List Interval) (c behind next : ℕ) → c ≤ n → next ≡ behind + (n + 1 - c) → length new ≡ length mid
    → take (behind + (n + 1 - c)) new ≡ take behind mid ++ map (mass_of_pair w) (pairs_at n c) → MassesTaken w n old mid c behind → MassesTaken w n old new (c + 1) next
masses_more w n old mid new c behind next within is long put so_far =
    let f = mass_of_pair w in
    let more = ap length (from_next n c within) ∙ length-append (pairs_at n c) (pairs_from n (c + 1)) in
    record {
      taken =
          ap (λ k. take k new ++ map f (pairs_from n (c + 1))) is ∙ ap (λ xs. xs ++ map f (pairs_from n (c + 1))) put
          ∙ append_assoc (take behind mid) (map f (pairs_at n c)) (map f (pairs_from n (c + 1)))
          ∙ ap (λ xs. take behind mid ++ xs) (sym (map-append f (pairs_at n c) (pairs_from n (c + 1))))
          ∙ ap (λ ps. take behind mid ++ map f ps) (sym (from_next n c within)) ∙ so_far.taken;
      left = omega (arith, is, more, row_long n c, so_far.left);
      long = long ∙ so_far.long;
    }

pub masses_whole : (w : View) (n : ℕ) (old new : List Interval) (c behind : ℕ) → c ≡ n + 1 → MassesTaken w n old new c behind → new ≡ map (mass_of_pair w) (pairs_of n)
masses_whole w n old new c behind end taken =
    let none = from_none n c (omega (arith, end)) in
    let no_more = ap length none in
    sym (take_all behind new (omega (arith, taken.left, taken.long, no_more))) ∙ sym (append-nil (take behind new)) ∙ ap (λ ps. take behind new ++ map (mass_of_pair w) ps) (sym none) ∙ taken.taken
