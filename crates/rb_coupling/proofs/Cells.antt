-- What a table by rows and columns, and a list, tell once a value is put there.
use Rattle.std.proofs.Common.{◌≡◌, ◌≢◌, ℕ, zero, suc, ◌+◌, ◌*◌, ◌<◌, ◌≤◌, List, length, slice_set, refl, ap, arith, get_or-set_other, get_or-set_same, length-set}
use Rattle.rb_num.specs.Interval.{Interval}
use Rattle.rb_factor.specs.Sweeps.{number_at}
use Rattle.rb_coupling.specs.Sweeps.{place_of, cell_at}

same_two : (n a b c d : ℕ) → b < n → d < n → a * n + b ≡ c * n + d → (a ≡ c) × (b ≡ d)
same_two n zero b zero d h k e = (refl, omega arith)
same_two n zero b (suc c) d h k e = let m : suc c * n ≡ c * n + n = omega arith in absurd (omega arith)
same_two n (suc a) b zero d h k e = let m : suc a * n ≡ a * n + n = omega arith in absurd (omega arith)
same_two n (suc a) b (suc c) d h k e =
    let m : suc a * n ≡ a * n + n = omega arith in
    let l : suc c * n ≡ c * n + n = omega arith in
    let s = same_two n a b c d h k (omega arith) in
    (ap suc s.0, s.1)

two_within : (n m a b : ℕ) → a < m → b < n → a * n + b < m * n
two_within n zero a b h k = absurd (omega arith)
two_within n (suc m) zero b h k = let l : suc m * n ≡ m * n + n = omega arith in omega arith
two_within n (suc m) (suc a) b h k =
    let l : suc m * n ≡ m * n + n = omega arith in
    let j : suc a * n ≡ a * n + n = omega arith in
    let r : a * n + b < m * n = two_within n m a b (omega arith) k in
    omega arith

-- a table has a place for each of so many rows and columns, and for 0
abbrev pub Fits : ℕ → ℕ → List Interval → Type 0
Fits R n cells = length cells ≡ (R + 1) * (n + 1)

pub place_within : (R n r c : ℕ) → r ≤ R → c ≤ n → place_of n r c < (R + 1) * (n + 1)
place_within R n r c l k = two_within (n + 1) (R + 1) r c (omega arith) (omega arith)

pub cell_same : (R n : ℕ) (cells : List Interval) (r c : ℕ) (x : Interval) → r ≤ R → c ≤ n → Fits R n cells → cell_at n (slice_set cells (place_of n r c) x) r c ≡ x
cell_same R n cells r c x l k f =
    let m : place_of n r c < (R + 1) * (n + 1) = place_within R n r c l k in
    let j : place_of n r c < length cells = rw f m in
    rw get_or-set_same refl

pub cell_other : (n : ℕ) (cells : List Interval) (r c : ℕ) (x : Interval) (q d : ℕ) → c ≤ n → d ≤ n → (q ≡ r → d ≡ c → ⊥)
    → cell_at n (slice_set cells (place_of n r c) x) q d ≡ cell_at n cells q d
cell_other n cells r c x q d l k differ =
    let ne : place_of n q d ≢ place_of n r c = λ e. let s = same_two (n + 1) q d r c (omega arith) (omega arith) e in differ s.0 s.1 in
    rw get_or-set_other refl

pub long_put : (cells : List Interval) (p : ℕ) (x : Interval) → length cells ≡ length (slice_set cells p x)
long_put cells p x = rw length-set refl

pub number_same : (n : ℕ) (numbers : List Interval) (c : ℕ) (x : Interval) → c ≤ n → length numbers ≡ n + 1 → number_at (slice_set numbers c x) c ≡ x
number_same n numbers c x l f = let m : c < length numbers = omega arith in rw get_or-set_same refl

pub number_other : (numbers : List Interval) (c : ℕ) (x : Interval) (d : ℕ) → d ≢ c → number_at (slice_set numbers c x) d ≡ number_at numbers d
number_other numbers c x d ne = rw get_or-set_other refl
