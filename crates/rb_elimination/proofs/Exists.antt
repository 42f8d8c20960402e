-- There are factors of each table, and numbers that are found for each right side.
use Rattle.std.proofs.Common.{◌≡◌, ℕ, zero, suc, ◌-◌, ◌<◌, [], ◌∷◌, refl, sym, ◌∙◌, ap, ap₂, subst, arith}
use native.Mathlib.Decide.{ℕ_discrete}
use Rattle.rb_frac.specs.Frac as F
use Rattle.rb_frac.specs.Frac.{Frac, Same}
use Rattle.rb_frac.proofs.Ring.{var, plus, times, minus, ring}
use Rattle.rb_frac.proofs.Vec.{nth}
use Rattle.rb_frac.proofs.Sums.{sum-zero, sum_ext}
use Rattle.rb_frac.proofs.Reduce.{same_refl}
use Rattle.rb_frac.proofs.Rational.{ℚ, ◌+ℚ◌, ◌*ℚ◌, neg_ℚ, 0ℚ, qo, rats, cls, exact, cls-rep, add_nul}
use Rattle.rb_frac.proofs.Eliminate.{put, put_at, put_other}
use Rattle.rb_elimination.specs.Paths.{IsColumn, IsRegular, IsAncestor}
use Rattle.rb_elimination.specs.Factors.{fraction_steps}
use Rattle.rb_elimination.specs.Solving.{IsReduced, IsSubstituted, IsFound}
use Rattle.rb_elimination.specs.Laws.{HaveFactors, FactorsExist, FoundExists}
use Rattle.rb_elimination.proofs.Paths.{is_known, column_of}
use Rattle.rb_elimination.proofs.Numbers.{rows, less_back}
use Rattle.rb_elimination.proofs.Triangle.{IsTriangle, along, along_above, along_next}
use Rattle.rb_elimination.proofs.Lower.{triangle_of, lower_at, lower_is}

-- ---- from the last column down
module _ {X : Type 0} (step : ℕ → X → X) (n : ℕ) (start : X) where
  -- when the last k columns have had their step
  after : ℕ → X
  after zero = start
  after (suc k) = step (n - k) (after k)

  -- when the first c columns still have theirs to come
  before : ℕ → X
  before c = after (n - c)

  before_first : before n ≡ start
  unfolding before after
  before_first = let e : n - n ≡ 0 = omega arith in ap after e

  before_next : (c : ℕ) → c < n → before c ≡ step (suc c) (before (suc c))
  unfolding before after
  before_next c l =
      let e : n - c ≡ suc (n - suc c) = omega arith in
      let f : n - (n - suc c) ≡ suc c = omega arith in
      ap after e ∙ ap (λ j. step j (after (n - suc c))) f

-- ---- a choice
choice : {P : Type 0} → Dec P → Frac → Frac → Frac
choice (yes p) x y = x
choice (no m) x y = y

chosen : {P : Type 0} (r : Dec P) (x y : Frac) → P → choice r x y ≡ x
unfolding choice
chosen (yes p) x y q = refl
chosen (no m) x y q = absurd (m q)

not_chosen : {P : Type 0} (r : Dec P) (x y : Frac) → ¬ P → choice r x y ≡ y
unfolding choice
not_chosen (yes p) x y o = absurd (o p)
not_chosen (no m) x y o = refl

same_of : (x y : Frac) → x ≡ y → Same x y
same_of x y e = subst (λ t. Same x t) e (same_refl x)

module _ (n : ℕ) (up : ℕ → ℕ) (regular : IsRegular n up) where
  column : (c : ℕ) → c < n → IsColumn n (suc c)
  column c l = record { from = omega arith; to = omega arith }

  -- ---- factors
  module _ (given : ℕ → ℕ → Frac) where
    changed : ℕ → (ℕ → ℕ → Frac) → ℕ → ℕ → Frac
    changed c t d e = choice (is_known n up regular c d) (F.sub (t d e) (F.mul (F.quot (t c d) (t c c)) (t c e))) (t d e)

    table : ℕ → ℕ → ℕ → Frac
    table c = before changed n given c

    first_table : (c d : ℕ) → table n c d ≡ given c d
    unfolding table
    first_table c d = ap (λ t. t c d) (before_first changed n given)

    next_table : (c d e : ℕ) → c < n → table c d e ≡ changed (suc c) (table (suc c)) d e
    unfolding table
    next_table c d e l = ap (λ t. t d e) (before_next changed n given c l)

    changed_on : (c d e : ℕ) (t : ℕ → ℕ → Frac) → IsColumn n c → IsAncestor up c d → changed c t d e ≡ F.sub (t d e) (F.mul (F.quot (t c d) (t c c)) (t c e))
    unfolding changed
    changed_on c d e t k a = chosen (is_known n up regular c d) (F.sub (t d e) (F.mul (F.quot (t c d) (t c c)) (t c e))) (t d e) (k, a)

    not_changed : (c d e : ℕ) (t : ℕ → ℕ → Frac) → ¬ IsAncestor up c d → changed c t d e ≡ t d e
    unfolding changed
    not_changed c d e t o = not_chosen (is_known n up regular c d) (F.sub (t d e) (F.mul (F.quot (t c d) (t c c)) (t c e))) (t d e) (λ p. o p.1)

    pub have_factors : HaveFactors n up given
    have_factors = record {
      table = table;
      L = λ c d. F.quot (table c c d) (table c c c);
      D = λ c. table c c c;
      are = record {
        first = λ c d k o. same_of (table n c d) (given c d) (first_table c d);
        pivots = λ c l. same_refl (table (suc c) (suc c) (suc c));
        quotients = λ c d l a. same_refl (F.quot (table (suc c) (suc c) d) (table (suc c) (suc c) (suc c)));
        updates = λ c d e l a o. same_of _ _ (next_table c d e l ∙ changed_on (suc c) d e (table (suc c)) (column c l) a);
        others = λ c d e l k m o. same_of _ _ (next_table c d e l ∙ not_changed (suc c) d e (table (suc c)) m);
      };
    }

  -- ---- the right side reduced
  module _ (L : ℕ → ℕ → Frac) (D right : ℕ → Frac) where
    taken_from : ℕ → (ℕ → Frac) → ℕ → Frac
    taken_from c t d = choice (is_known n up regular c d) (F.sub (t d) (F.mul (L c d) (t c))) (t d)

    left : ℕ → ℕ → Frac
    left c = before taken_from n right c

    first_left : (c : ℕ) → left n c ≡ right c
    unfolding left
    first_left c = ap (λ t. t c) (before_first taken_from n right)

    next_left : (c d : ℕ) → c < n → left c d ≡ taken_from (suc c) (left (suc c)) d
    unfolding left
    next_left c d l = ap (λ t. t d) (before_next taken_from n right c l)

    taken_on : (c d : ℕ) (t : ℕ → Frac) → IsColumn n c → IsAncestor up c d → taken_from c t d ≡ F.sub (t d) (F.mul (L c d) (t c))
    unfolding taken_from
    taken_on c d t k a = chosen (is_known n up regular c d) (F.sub (t d) (F.mul (L c d) (t c))) (t d) (k, a)

    not_taken : (c d : ℕ) (t : ℕ → Frac) → ¬ IsAncestor up c d → taken_from c t d ≡ t d
    unfolding taken_from
    not_taken c d t o = not_chosen (is_known n up regular c d) (F.sub (t d) (F.mul (L c d) (t c))) (t d) (λ p. o p.1)

    abbrev w : ℕ → Frac
    w c = left c c

    abbrev z : ℕ → Frac
    z c = F.quot (w c) (D c)

    is_reduced : IsReduced fraction_steps n up L right left w
    is_reduced = record {
      first = λ c k. same_of (left n c) (right c) (first_left c);
      result = λ c k. same_refl (left c c);
      updates = λ c d l a. same_of _ _ (next_left c d l ∙ taken_on (suc c) d (left (suc c)) (column c l) a);
      others = λ c d l k m. same_of _ _ (next_left c d l ∙ not_taken (suc c) d (left (suc c)) m);
    }

    -- ---- from the first column up
    abbrev lower : ℕ → ℕ → ℚ
    lower = rows (lower_at n up regular L)

    abbrev triangle : IsTriangle n up (rows L) lower
    triangle = triangle_of n up L (lower_at n up regular L) (lower_is n up regular L)

    abbrev before_own : (ℕ → ℚ) → ℕ → ℕ → ℚ
    before_own x c b = along n up regular (rows L) lower triangle x c b

    -- the first k numbers
    first_numbers : ℕ → ℕ → ℚ
    first_numbers zero = λ d. 0ℚ
    first_numbers (suc k) = put (suc k) (cls (z (suc k)) +ℚ neg_ℚ (before_own (first_numbers k) (suc k) k)) (first_numbers k)

    pub numbers : ℕ → ℚ
    numbers d = first_numbers d d

    own_number : (c : ℕ) → first_numbers (suc c) (suc c) ≡ cls (z (suc c)) +ℚ neg_ℚ (before_own (first_numbers c) (suc c) c)
    unfolding first_numbers
    own_number c = put_at (suc c) (cls (z (suc c)) +ℚ neg_ℚ (before_own (first_numbers c) (suc c) c)) (first_numbers c)

    same_number : (k d : ℕ) → d < k → first_numbers (suc k) (suc d) ≡ first_numbers k (suc d)
    unfolding first_numbers
    same_number k d l = put_other (suc k) (cls (z (suc k)) +ℚ neg_ℚ (before_own (first_numbers k) (suc k) k)) (first_numbers k) (suc d) (omega arith)

    number_of : (k d : ℕ) → d < k → first_numbers k (suc d) ≡ numbers (suc d)
    unfolding numbers
    number_of zero d l = absurd (omega arith)
    number_of (suc k) d l =
        elim (ℕ_discrete d k) [
          | yes e ↦ ap (λ j. first_numbers (suc j) (suc d)) (sym e)
          | no m ↦ let q : d < k = omega (arith, m) in same_number k d q ∙ number_of k d q
        ]

    number_is : (c : ℕ) → numbers (suc c) ≡ cls (z (suc c)) +ℚ neg_ℚ (before_own numbers (suc c) c)
    unfolding numbers
    number_is c =
        own_number c
        ∙ ap (λ t. cls (z (suc c)) +ℚ neg_ℚ t)
        (sum_ext qo c (λ d. lower (suc c) (suc d) *ℚ first_numbers c (suc d)) (λ d. lower (suc c) (suc d) *ℚ numbers (suc d)) (λ d l. ap (λ t. lower (suc c) (suc d) *ℚ t) (number_of c d l)))

    -- what is left of z before a column has its turn
    part_of : ℕ → ℕ → ℚ
    part_of c e = numbers c +ℚ before_own numbers c e

    again : (z s : ℚ) → (z +ℚ neg_ℚ s) +ℚ s ≡ z
    again z s = ring rats (nth 0ℚ (z ∷ s ∷ [])) (plus (plus (var 0) (minus (var 1))) (var 1)) (var 0) refl

    without_last : (x s l y : ℚ) → x +ℚ s ≡ (x +ℚ (s +ℚ l *ℚ y)) +ℚ neg_ℚ (l *ℚ y)
    without_last x s l y =
        ring rats (nth 0ℚ (x ∷ s ∷ l ∷ y ∷ [])) (plus (var 0) (var 1)) (plus (plus (var 0) (plus (var 1) (times (var 2) (var 3)))) (minus (times (var 2) (var 3)))) refl

    part_first : (c : ℕ) → IsColumn n c → part_of c (up c) ≡ cls (z c)
    unfolding part_of
    part_first zero k = absurd (omega (arith, k.from))
    part_first (suc c) k =
        let l : c < n = omega (arith, k.to) in
        ap₂ ◌+ℚ◌ (number_is c) (sym (along_above n up regular (rows L) lower triangle numbers c l)) ∙ again (cls (z (suc c))) (before_own numbers (suc c) c)

    part_result : (c : ℕ) → numbers c ≡ part_of c 0
    unfolding part_of
    part_result c = sym (ap (λ t. numbers c +ℚ t) (sum-zero qo (λ d. lower c (suc d) *ℚ numbers (suc d))) ∙ add_nul (numbers c))

    part_next : (c d : ℕ) → IsColumn n c → IsColumn n d → IsAncestor up c d → part_of c (up d) ≡ part_of c d +ℚ neg_ℚ (cls (L c d) *ℚ numbers d)
    unfolding part_of
    part_next c zero k j a = absurd (omega (arith, j.from))
    part_next c (suc d) k j a =
        without_last (numbers c) (before_own numbers c (up (suc d))) (cls (L c (suc d))) (numbers (suc d))
        ∙ ap (λ t. (numbers c +ℚ t) +ℚ neg_ℚ (cls (L c (suc d)) *ℚ numbers (suc d))) (sym (along_next n up regular (rows L) lower triangle numbers c d k a))

    is_substituted : IsSubstituted fraction_steps n up L z (λ c e. (part_of c e).rep) (λ c. (numbers c).rep)
    is_substituted = record {
      first = λ c k. exact (part_of c (up c)).rep (z c) (cls-rep (part_of c (up c)) ∙ part_first c k);
      result = λ c k. exact (numbers c).rep (part_of c 0).rep (ap (λ (q : ℚ). cls q.rep) (part_result c));
      updates = λ c d k a. less_back (part_of c d).rep (L c d) (numbers d).rep (part_of c (up d)).rep
          (cls-rep (part_of c (up d)) ∙ part_next c d k (column_of n up regular c d k a) a
          ∙ ap₂ (λ s t. s +ℚ neg_ℚ (cls (L c d) *ℚ t)) (sym (cls-rep (part_of c d))) (sym (cls-rep (numbers d))));
    }

    pub is_found : IsFound fraction_steps n up L D right (λ c. (numbers c).rep)
    is_found = record {
      left = left;
      w = w;
      z = z;
      part = λ c e. (part_of c e).rep;
      reduced = is_reduced;
      divided = λ c k. same_refl (z c);
      substituted = is_substituted;
    }

pub factors_exist : FactorsExist
factors_exist n up given regular = have_factors n up regular given

pub found_exists : FoundExists
found_exists n up L D right regular = (λ c. (numbers n up regular L D right c).rep, is_found n up regular L D right)
