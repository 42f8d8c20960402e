-- Factors over fractions: the table that they have, and what they find for a right side.
use Rattle.std.proofs.Common.{◌≡◌, ℕ, zero, suc, ◌<◌, sym, ◌∙◌, ap, ap₂, arith}
use Rattle.rb_frac.specs.Frac as F
use Rattle.rb_frac.specs.Frac.{Frac, Same, fracs}
use Rattle.rb_frac.proofs.Sums.{sum, sum_ext}
use Rattle.rb_frac.proofs.Reduce.{same_refl}
use Rattle.rb_frac.proofs.Rational.{ℚ, ◌*ℚ◌, 0ℚ, qo, cls, sound, exact, cls-zero, null-cls}
use Rattle.rb_frac.proofs.Hom.{cls_of_mul}
use Rattle.rb_frac.proofs.Transfer.{cls-sum}
use Rattle.rb_elimination.specs.Paths.{IsColumn, IsRegular, IsOn}
use Rattle.rb_elimination.specs.Factors.{fraction_steps}
use Rattle.rb_elimination.specs.Solving.{IsFound}
use Rattle.rb_elimination.specs.Product.{IsLower, HasFactors, IsOneSolution}
use Rattle.rb_elimination.specs.Laws.{ArePivots, IsFactored, FactorsMultiplyOut, FactorsTellTable, FactorsSolve, EliminationSolves, TableExists}
use Rattle.rb_elimination.proofs.Paths.{is_on}
use Rattle.rb_elimination.proofs.Numbers.{row, rows, factors_of, reduced_of, divided_of, substituted_of}
use Rattle.rb_elimination.proofs.Triangle.{IsTriangle, taken, along, reduced_gives, substituted_gives}
use Rattle.rb_elimination.proofs.Product.{entry, solves, only, entry_on, entry_symmetric, entry_off}
use Rattle.rb_elimination.proofs.Lower.{triangle_of, lower_at, lower_is, same_lower}

column : (n c : ℕ) → c < n → IsColumn n (suc c)
column n c l = record { from = omega arith; to = omega arith }

not_null : (n : ℕ) (D : ℕ → Frac) → ArePivots n D → (c : ℕ) → c < n → ¬ (row D (suc c) ≡ 0ℚ)
not_null n D p c l e = p (suc c) (column n c l) (null-cls (D (suc c)) e)

-- what the factors give at two columns
abbrev product : ℕ → (ℕ → ℕ → Frac) → (ℕ → Frac) → ℕ → ℕ → Frac
product n lower D c d = sum fracs n (λ k. F.mul (F.mul (lower (suc k) c) (D (suc k))) (lower (suc k) d))

module _ (n : ℕ) (up : ℕ → ℕ) (regular : IsRegular n up) (L lower : ℕ → ℕ → Frac) (is : IsLower n up L lower) (D : ℕ → Frac) where
  abbrev triangle : IsTriangle n up (rows L) (rows lower)
  triangle = triangle_of n up L lower is

  abbrev entry_at : ℕ → ℕ → ℚ
  entry_at c d = entry n up regular (rows L) (rows lower) triangle (row D) c d

  cls_of_product : (c d : ℕ) → cls (product n lower D c d) ≡ entry_at c d
  cls_of_product c d =
      cls-sum n (λ k. F.mul (F.mul (lower (suc k) c) (D (suc k))) (lower (suc k) d))
      ∙ sum_ext qo n (λ k. cls (F.mul (F.mul (lower (suc k) c) (D (suc k))) (lower (suc k) d))) (λ k. (cls (lower (suc k) c) *ℚ cls (D (suc k))) *ℚ cls (lower (suc k) d))
      (λ k l. cls_of_mul (F.mul (lower (suc k) c) (D (suc k))) (lower (suc k) d) ∙ ap (λ t. t *ℚ cls (lower (suc k) d)) (cls_of_mul (lower (suc k) c) (D (suc k))))

  -- ---- solutions
  module _ (m : ℕ → ℕ → Frac) (has : (c d : ℕ) → IsColumn n c → IsColumn n d → Same (m c d) (product n lower D c d)) (pivots : ArePivots n D)
      (right x : ℕ → Frac) (found : IsFound fraction_steps n up L D right x) where
    entry_is : (c d : ℕ) → c < n → d < n → cls (m (suc c) (suc d)) ≡ entry_at (suc c) (suc d)
    entry_is c d l k = sound (m (suc c) (suc d)) (product n lower D (suc c) (suc d)) (has (suc c) (suc d) (column n c l) (column n d k)) ∙ cls_of_product (suc c) (suc d)

    -- a row of the equations, in numbers
    row_of : (y : ℕ → Frac) (c : ℕ) → c < n → cls (sum fracs n (λ d. F.mul (m (suc c) (suc d)) (y d))) ≡ sum qo n (λ d. entry_at (suc c) (suc d) *ℚ cls (y d))
    row_of y c l =
        cls-sum n (λ d. F.mul (m (suc c) (suc d)) (y d))
        ∙ sum_ext qo n (λ d. cls (F.mul (m (suc c) (suc d)) (y d))) (λ d. entry_at (suc c) (suc d) *ℚ cls (y d))
        (λ d k. cls_of_mul (m (suc c) (suc d)) (y d) ∙ ap (λ t. t *ℚ cls (y d)) (entry_is c d l k))

    -- the same numbers, from 1 on
    abbrev shifted : (ℕ → Frac) → ℕ → ℚ
    shifted y zero = 0ℚ
    shifted y (suc c) = cls (y c)

    gives_right : (c : ℕ) → IsColumn n c → taken n up regular (rows L) (rows lower) triangle (row found.w) n c ≡ row right c
    gives_right = reduced_gives n up regular (rows L) (rows lower) triangle (row right) (rows found.left) (row found.w) (reduced_of n up L right found.left found.w found.reduced)

    gives_z : (c : ℕ) → c < n → along n up regular (rows L) (rows lower) triangle (row x) (suc c) n ≡ row found.z (suc c)
    gives_z =
        substituted_gives n up regular (rows L) (rows lower) triangle (row found.z) (rows found.part) (row x) (substituted_of n up L found.z found.part x found.substituted)

    pub is_one_solution : IsOneSolution n m right x
    is_one_solution = record {
      solves = λ c l. exact (sum fracs n (λ d. F.mul (m (suc c) (suc d)) (x (suc d)))) (right (suc c))
          (row_of (λ d. x (suc d)) c l
          ∙ solves n up regular (rows L) (rows lower) triangle (row D) (not_null n D pivots) (row right) (row found.w) (row found.z) (row x) gives_right
          (divided_of n up D found.w found.z found.divided) gives_z c l);
      only = λ y h c l. exact (y c) (x (suc c))
          (only n up regular (rows L) (rows lower) triangle (row D) (not_null n D pivots) (row right) (row found.w) (row found.z) (row x) gives_right
          (divided_of n up D found.w found.z found.divided) gives_z (shifted y)
          (λ d k. sym (row_of y d k) ∙ sound (sum fracs n (λ e. F.mul (m (suc d) (suc e)) (y e))) (right (suc d)) (h d k)) c l);
    }

pub factors_solve : FactorsSolve
factors_solve n up m L D right x regular has pivots found = is_one_solution n up regular L has.lower has.is_lower D m has.product pivots right x found

-- ---- factors of a table
module _ (n : ℕ) (up : ℕ → ℕ) (given : ℕ → ℕ → Frac) (table : ℕ → ℕ → ℕ → Frac) (L : ℕ → ℕ → Frac) (D : ℕ → Frac) (h : IsFactored n up given table L D) (pivots : ArePivots n D) where
  abbrev lower : ℕ → ℕ → Frac
  lower = lower_at n up h.regular L

  abbrev is_lower : IsLower n up L lower
  is_lower = lower_is n up h.regular L

  abbrev entry_of : ℕ → ℕ → ℚ
  entry_of c d = entry_at n up h.regular L lower is_lower D c d

  given_on : (c d : ℕ) → IsColumn n c → IsOn up c d → cls (given c d) ≡ entry_of c d
  given_on c d k o =
      sym (entry_on n up h.regular (rows L) (rows lower) (triangle_of n up L lower is_lower) (row D) (not_null n D pivots) (rows given) (λ c. rows (table c))
      (factors_of n up given table L D h.factors) c d k o)

  given_at : (c d : ℕ) → IsColumn n c → IsColumn n d → Dec (IsOn up c d) → Dec (IsOn up d c) → cls (given c d) ≡ entry_of c d
  given_at c d k j (yes o) r = given_on c d k o
  given_at c d k j (no b) (yes o) =
      sound (given c d) (given d c) (h.symmetric c d k j) ∙ given_on d c j o
      ∙ entry_symmetric n up h.regular (rows L) (rows lower) (triangle_of n up L lower is_lower) (row D) d c
  given_at c d k j (no b) (no a) =
      sound (given c d) fracs.nul (h.sparse c d k j b a) ∙ cls-zero
      ∙ sym (entry_off n up h.regular (rows L) (rows lower) (triangle_of n up L lower is_lower) (row D) c d k j b a)

  multiplied : HasFactors n up given L D
  multiplied = record {
    lower = lower;
    is_lower = is_lower;
    product = λ c d k j. exact (given c d) (product n lower D c d)
        (given_at c d k j (is_on n up h.regular c d k) (is_on n up h.regular d c j) ∙ sym (cls_of_product n up h.regular L lower is_lower D c d));
  }

pub factors_multiply_out : FactorsMultiplyOut
factors_multiply_out = multiplied

pub elimination_solves : EliminationSolves
elimination_solves n up given table L D right x h pivots found = factors_solve n up given L D right x h.regular (multiplied n up given table L D h pivots) pivots found

-- ---- the table of factors
pub table_exists : TableExists
table_exists n up L D regular = (
  product n (lower_at n up regular L) D,
  record {
    lower = lower_at n up regular L;
    is_lower = lower_is n up regular L;
    product = λ c d k j. same_refl (product n (lower_at n up regular L) D c d);
  },
)

module _ (n : ℕ) (up : ℕ → ℕ) (regular : IsRegular n up) (L lower other : ℕ → ℕ → Frac) (D : ℕ → Frac) (is : IsLower n up L lower) (is' : IsLower n up L other) where
  lower_same : (c d : ℕ) → IsColumn n c → IsColumn n d → cls (lower c d) ≡ cls (other c d)
  lower_same c d k j = same_lower n up regular (rows L) (rows lower) (rows other) (triangle_of n up L lower is) (triangle_of n up L other is') c d k j

  products_same : (c d : ℕ) → IsColumn n c → IsColumn n d → cls (product n lower D c d) ≡ cls (product n other D c d)
  products_same c d k j =
      cls_of_product n up regular L lower is D c d
      ∙ sum_ext qo n (λ i. (cls (lower (suc i) c) *ℚ cls (D (suc i))) *ℚ cls (lower (suc i) d)) (λ i. (cls (other (suc i) c) *ℚ cls (D (suc i))) *ℚ cls (other (suc i) d))
      (λ i l. ap₂ (λ s t. (s *ℚ cls (D (suc i))) *ℚ t) (lower_same (suc i) c (column n i l) k) (lower_same (suc i) d (column n i l) j))
      ∙ sym (cls_of_product n up regular L other is' D c d)

pub factors_tell_table : FactorsTellTable
factors_tell_table n up L m k D regular h g c d i j =
    exact (m c d) (k c d)
    (sound (m c d) (product n h.lower D c d) (h.product c d i j)
    ∙ products_same n up regular L h.lower g.lower D h.is_lower g.is_lower c d i j
    ∙ sym (sound (k c d) (product n g.lower D c d) (g.product c d i j)))
