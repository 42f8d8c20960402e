-- What is found is the one solution of the bordered equations.
use Rattle.std.proofs.Common.{◌≡◌, ℕ, zero, suc, ◌<◌, ◌≤◌, [], ◌∷◌, refl, sym, ◌∙◌, ap, ap₂, subst, arith}
use native.Mathlib.Decide.{ℕ_discrete}
use Rattle.rb_frac.specs.Frac as F
use Rattle.rb_frac.specs.Frac.{Frac, Same, fracs}
use Rattle.rb_frac.proofs.Ring.{var, plus, times, ring}
use Rattle.rb_frac.proofs.Vec.{nth}
use Rattle.rb_frac.proofs.Sums.{sum, sum_ext}
use Rattle.rb_frac.proofs.Reduce.{same_refl}
use Rattle.rb_frac.proofs.Rational.{ℚ, ◌+ℚ◌, ◌*ℚ◌, neg_ℚ, 0ℚ, inv, qo, rats, cls, sound, exact, cls-zero, cls-null, null-cls, add_nul}
use Rattle.rb_frac.proofs.Hom.{cls_of_add, cls_of_mul}
use Rattle.rb_frac.proofs.Transfer.{cls-sum}
use Rattle.rb_elimination.specs.Paths.{IsColumn, IsRegular}
use Rattle.rb_elimination.specs.Product.{IsLower, HasFactors}
use Rattle.rb_elimination.specs.Laws.{ArePivots}
use Rattle.rb_elimination.proofs.Numbers.{row, rows, reduced_of, divided_of, substituted_of}
use Rattle.rb_elimination.proofs.Triangle.{IsTriangle, along, reduced_gives, substituted_gives, rows_tell}
use Rattle.rb_elimination.proofs.Product.{entry, given_by}
use Rattle.rb_elimination.proofs.Lower.{triangle_of, lower_at, lower_is}
use Rattle.rb_bordered.specs.Steps.{fraction_row_steps, IsRow}
use Rattle.rb_bordered.specs.Coupling.{AreRowsReduced, AreCoupled}
use Rattle.rb_bordered.specs.Forces.{HaveRowFactors, HaveRigidFactors, AreForcesFound, IsFoundWithForces}
use Rattle.rb_bordered.specs.Equations.{AreBordered, AreSameSolutions, IsOneBorderedSolution}
use Rattle.rb_bordered.specs.Laws.{BorderedSolves, RigidBorderedSolves}
use Rattle.rb_bordered.proofs.Tails.{tail, tail_all}
use Rattle.rb_bordered.proofs.Own.{own, own_same, own_other}
use Rattle.rb_bordered.proofs.Dense.{whole, whole_start, IsBack, back_solves, solves_back, back_one, forces_back}
use Rattle.rb_bordered.proofs.Table.{pivot_is, quotient_is}
use Rattle.rb_bordered.proofs.Numbers.{number, less_of, quotient_of, cls_of_products, products_of, sum_of, negative_of}
use Rattle.rb_bordered.proofs.Rows.{col, IsAdded, between, at_rest, coupling, coupling_symmetric, columns_hold, columns_say, rows_hold, rows_say}

by_pivots : (y z i : ℚ) → y *ℚ (z *ℚ i) ≡ (z *ℚ y) *ℚ i
by_pivots y z i = ring rats (nth 0ℚ (y ∷ z ∷ i ∷ [])) (times (var 0) (times (var 1) (var 2))) (times (times (var 1) (var 0)) (var 2)) refl

pub not_null : (n : ℕ) (D : ℕ → Frac) → ArePivots n D → (c : ℕ) → c < n → ¬ (row D (suc c) ≡ 0ℚ)
not_null n D p c l e = p (suc c) (number n c l) (null-cls (D (suc c)) e)

-- ---- rows over a lower triangular table
module _ (n : ℕ) (up : ℕ → ℕ) (R : ℕ) (regular : IsRegular n up) (L : ℕ → ℕ → Frac) (D : ℕ → Frac) (J : ℕ → ℕ → Frac) (left : ℕ → ℕ → ℕ → Frac) (Y Z : ℕ → ℕ → Frac)
    (h : AreRowsReduced fraction_row_steps n up R L D J left Y Z) (lower : ℕ → ℕ → Frac) (is : IsLower n up L lower) where
  pub row_gives : (r c : ℕ) → r < R → IsColumn n c → col n up regular (rows L) (rows lower) (triangle_of n up L lower is) (rows Y (suc r)) c ≡ rows J (suc r) c
  row_gives r c l =
      reduced_gives n up regular (rows L) (rows lower) (triangle_of n up L lower is) (row (J (suc r))) (rows (left (suc r))) (row (Y (suc r)))
      (reduced_of n up L (J (suc r)) (left (suc r)) (Y (suc r)) (h.reduced (suc r) (number R r l))) c

-- two rows by the pivots, in numbers
abbrev pub pair : ℕ → (ℕ → ℕ → Frac) → (ℕ → Frac) → ℕ → ℕ → ℚ
pair n Y D q t = sum qo n (λ c. (cls (Y q (suc c)) *ℚ cls (Y t (suc c))) *ℚ inv (cls (D (suc c))))

module _ (n : ℕ) (up : ℕ → ℕ) (R : ℕ) (L : ℕ → ℕ → Frac) (D : ℕ → Frac) (J : ℕ → ℕ → Frac) (left : ℕ → ℕ → ℕ → Frac) (Y Z : ℕ → ℕ → Frac)
    (h : AreRowsReduced fraction_row_steps n up R L D J left Y Z) where
  pub pair_of : (q t : ℕ) (x : Frac) → IsRow R q → Same x (sum fracs n (λ c. F.mul (Y t (suc c)) (Z q (suc c)))) → cls x ≡ pair n Y D q t
  pair_of q t x there e =
      products_of n (Y t) (Z q) x e
      ∙ sum_ext qo n (λ c. cls (Y t (suc c)) *ℚ cls (Z q (suc c))) (λ c. (cls (Y q (suc c)) *ℚ cls (Y t (suc c))) *ℚ inv (cls (D (suc c))))
      (λ c l. ap (λ s. cls (Y t (suc c)) *ℚ s) (divided_of n up D (Y q) (Z q) (h.divided q there) (suc c) (number n c l)) ∙ by_pivots (cls (Y t (suc c))) (cls (Y q (suc c))) (inv (cls (D (suc c)))))

  module _ (mu alone : ℕ → Frac) (G : ℕ → ℕ → Frac) (g : AreCoupled fraction_row_steps n up R Y Z mu alone G) where
    coupling_at : (q t : ℕ) → IsRow R q → IsRow R t → t ≤ q → Dec (q ≡ t) → cls (G q t) ≡ pair n Y D q t +ℚ own q t (cls (mu q))
    coupling_at q t a b p (yes e) =
        subst (λ j. cls (G q j) ≡ pair n Y D q j +ℚ own q j (cls (mu q))) e
        (sum_of (alone q) (mu q) (G q q) (g.compliant q a) ∙ ap₂ ◌+ℚ◌ (pair_of q q (alone q) a (g.own q a)) (sym (own_same q (cls (mu q)))))
    coupling_at q t a b p (no m) =
        pair_of q t (G q t) a (g.pairs q t a b (omega (arith, m)))
        ∙ sym (ap (λ s. pair n Y D q t +ℚ s) (own_other q t (cls (mu q)) m) ∙ add_nul (pair n Y D q t))

    pub coupling_is : (q t : ℕ) → IsRow R q → IsRow R t → t ≤ q → cls (G q t) ≡ pair n Y D q t +ℚ own q t (cls (mu q))
    coupling_is q t a b p = coupling_at q t a b p (ℕ_discrete q t)

-- ---- the elimination of the coupling
module _ (n : ℕ) (up : ℕ → ℕ) (R : ℕ) (L : ℕ → ℕ → Frac) (D : ℕ → Frac) (J : ℕ → ℕ → Frac) (mu : ℕ → Frac) (Y l : ℕ → ℕ → Frac) (C : ℕ → Frac)
    (h : HaveRowFactors fraction_row_steps n up R L D J mu Y l C) where
  abbrev pub start : ℕ → ℕ → ℚ
  start q t = pair n Y D q t +ℚ own q t (cls (mu q))

  first_is : (q t : ℕ) → 0 < t → t ≤ q → q ≤ R → cls (h.table 0 q t) ≡ start q t
  first_is q t p b k =
      sound (h.table 0 q t) (h.G q t) (h.eliminated.first q t (record { from = omega arith; to = omega arith }) (record { from = omega arith; to = omega arith }))
      ∙ coupling_is n up R L D J h.left Y h.Z h.reduced mu h.alone h.G h.coupled q t (record { from = omega arith; to = omega arith }) (record { from = omega arith; to = omega arith }) b

  pivots_are : (r : ℕ) → r < R → cls (C (suc r)) ≡ cls (h.table r (suc r) (suc r))
  pivots_are r b = sound (C (suc r)) (h.table r (suc r) (suc r)) (h.eliminated.pivots r b)

  quotients_are : (r q : ℕ) → suc r < q → q ≤ R → cls (l q (suc r)) ≡ cls (h.table r q (suc r)) *ℚ inv (cls (C (suc r)))
  quotients_are r q p k = quotient_of (h.table r q (suc r)) (C (suc r)) (l q (suc r)) (h.eliminated.quotients r q p k)

  updates_are : (r q t : ℕ) → suc r < t → t ≤ q → q ≤ R → cls (h.table (suc r) q t) ≡ cls (h.table r q t) +ℚ neg_ℚ (cls (l q (suc r)) *ℚ cls (h.table r t (suc r)))
  updates_are r q t p b k = less_of (h.table r q t) (l q (suc r)) (h.table r t (suc r)) (h.table (suc r) q t) (h.eliminated.updates r q t p b k)

  pub pivot : (r : ℕ) → r < R → cls (C (suc r)) ≡ whole start r (suc r) (suc r)
  pivot = pivot_is start R (λ r. rows (h.table r)) (rows l) (row C) first_is pivots_are quotients_are updates_are

  pub quotient : (r q : ℕ) → suc r < q → q ≤ R → cls (l q (suc r)) ≡ whole start r q (suc r) *ℚ inv (cls (C (suc r)))
  quotient = quotient_is start R (λ r. rows (h.table r)) (rows l) (row C) first_is pivots_are quotients_are updates_are

  to_sum : (v : ℕ → ℚ) (q : ℕ) → tail R 0 (λ t. whole start 0 q t *ℚ v t) ≡ sum qo R (λ t. start q (suc t) *ℚ v (suc t))
  to_sum v q =
      tail_all R (λ t. whole start 0 q t *ℚ v t)
      ∙ sum_ext qo R (λ t. whole start 0 q (suc t) *ℚ v (suc t)) (λ t. start q (suc t) *ℚ v (suc t)) (λ t b. ap (λ s. s *ℚ v (suc t)) (whole_start start q (suc t)))

  module _ (k g w lam : ℕ → Frac) (f : AreForcesFound fraction_row_steps n up R L D Y l C k g w lam) (row_pivots : ArePivots R C) (symmetric : (q t : ℕ) → start q t ≡ start t q) where
    -- what row q has at the solution without forces
    abbrev rest : ℕ → ℚ
    rest q = sum qo n (λ c. cls (Y q (suc c)) *ℚ (cls (w (suc c)) *ℚ inv (cls (D (suc c)))))

    abbrev pub side : ℕ → ℚ
    side q = neg_ℚ (cls (g q) +ℚ rest q)

    side_is : (q : ℕ) → IsRow R q → cls (f.e q) ≡ side q
    side_is q there =
        negative_of (f.total q) (f.e q) (f.sides.negatives q there)
        ∙ ap neg_ℚ
        (sum_of (g q) (f.without q) (f.total q) (f.sides.totals q there)
        ∙ ap (λ s. cls (g q) +ℚ s)
        (products_of n (Y q) f.z (f.without q) (f.sides.sums q there)
        ∙ sum_ext qo n (λ c. cls (Y q (suc c)) *ℚ cls (f.z (suc c))) (λ c. cls (Y q (suc c)) *ℚ (cls (w (suc c)) *ℚ inv (cls (D (suc c)))))
        (λ c b. ap (λ s. cls (Y q (suc c)) *ℚ s) (divided_of n up D w f.z f.divided (suc c) (number n c b)))))

    first_side : (q : ℕ) → 0 < q → q ≤ R → cls (f.row_left 0 q) ≡ side q
    first_side q p b =
        sound (f.row_left 0 q) (f.e q) (f.right_reduced.first q (record { from = omega arith; to = omega arith }))
        ∙ side_is q (record { from = omega arith; to = omega arith })

    reduced_is : (r : ℕ) → r < R → cls (f.row_reduced (suc r)) ≡ cls (f.row_left r (suc r))
    reduced_is r b = sound (f.row_reduced (suc r)) (f.row_left r (suc r)) (f.right_reduced.result r b)

    side_updates : (r q : ℕ) → suc r < q → q ≤ R → cls (f.row_left (suc r) q) ≡ cls (f.row_left r q) +ℚ neg_ℚ (cls (l q (suc r)) *ℚ cls (f.row_left r (suc r)))
    side_updates r q p b =
        less_of (f.row_left r q) (l q (suc r)) (f.row_reduced (suc r)) (f.row_left (suc r) q) (f.right_reduced.updates r q p b)
        ∙ ap (λ s. cls (f.row_left r q) +ℚ neg_ℚ (cls (l q (suc r)) *ℚ s)) (reduced_is r (omega arith))

    divides : (r : ℕ) → r < R → cls (f.row_divided (suc r)) ≡ cls (f.row_left r (suc r)) *ℚ inv (cls (C (suc r)))
    divides r b =
        quotient_of (f.row_reduced (suc r)) (C (suc r)) (f.row_divided (suc r)) (f.right_divided (suc r) (number R r b))
        ∙ ap (λ s. s *ℚ inv (cls (C (suc r)))) (reduced_is r b)

    lam_back : (r : ℕ) → r < R → cls (lam (suc r)) +ℚ tail R (suc r) (λ t. cls (l t (suc r)) *ℚ cls (lam t)) ≡ cls (f.row_divided (suc r))
    lam_back =
        forces_back R (rows l) (row f.row_divided) (rows f.row_part) (row lam)
        (λ r b. sound (f.row_part (suc r) (suc (suc r))) (f.row_divided (suc r)) (f.forces.first (suc r) (number R r b)))
        (λ r b. sound (lam (suc r)) (f.row_part (suc r) (suc R)) (f.forces.result (suc r) (number R r b)))
        (λ r q b p k. less_of (f.row_part (suc r) q) (l q (suc r)) (lam q) (f.row_part (suc r) (suc q)) (f.forces.updates (suc r) q (number R r b) p k))

    pub lam_solves : (q : ℕ) → q < R → sum qo R (λ t. start (suc q) (suc t) *ℚ cls (lam (suc t))) ≡ side (suc q)
    lam_solves q b =
        sym (to_sum (row lam) (suc q))
        ∙ back_solves start symmetric R (rows l) (row C) pivot quotient (not_null R C row_pivots) side (rows f.row_left) (row f.row_divided) first_side side_updates divides (row lam) lam_back q b

    given_side : (v : ℕ → ℚ) → ((q : ℕ) → q < R → sum qo R (λ t. start (suc q) (suc t) *ℚ v (suc t)) ≡ side (suc q)) →
        (q : ℕ) → 0 < q → q ≤ R → tail R 0 (λ t. whole start 0 q t *ℚ v t) ≡ side q
    given_side v s zero p b = absurd (omega arith)
    given_side v s (suc q) p b = to_sum v (suc q) ∙ s q (omega arith)

    pub lam_only : (v : ℕ → ℚ) → ((q : ℕ) → q < R → sum qo R (λ t. start (suc q) (suc t) *ℚ v (suc t)) ≡ side (suc q)) → (t : ℕ) → 0 < t → t ≤ R → v t ≡ cls (lam t)
    lam_only v s =
        back_one start symmetric R (rows l) (row C) pivot quotient (not_null R C row_pivots) side (rows f.row_left) (row f.row_divided) first_side side_updates divides v (row lam)
        (solves_back start symmetric R (rows l) (row C) pivot quotient (not_null R C row_pivots) side (rows f.row_left) (row f.row_divided) first_side side_updates divides v (given_side v s))
        lam_back

-- ---- the bordered equations
module _ (n : ℕ) (up : ℕ → ℕ) (R : ℕ) (regular : IsRegular n up) (m L : ℕ → ℕ → Frac) (D : ℕ → Frac) (J : ℕ → ℕ → Frac) (mu : ℕ → Frac) (Y l : ℕ → ℕ → Frac)
    (C k g w lam x : ℕ → Frac) (has : HasFactors n up m L D) (pivots : ArePivots n D) (h : HaveRowFactors fraction_row_steps n up R L D J mu Y l C) (row_pivots : ArePivots R C)
    (f : AreForcesFound fraction_row_steps n up R L D Y l C k g w lam) (s : IsFoundWithForces fraction_row_steps n up R L D Y w lam x) where
  abbrev lower : ℕ → ℕ → ℚ
  lower = rows has.lower

  abbrev triangle : IsTriangle n up (rows L) lower
  triangle = triangle_of n up L has.lower has.is_lower

  gives_row : (r c : ℕ) → r < R → IsColumn n c → col n up regular (rows L) lower triangle (rows Y (suc r)) c ≡ rows J (suc r) c
  gives_row = row_gives n up R regular L D J h.left Y h.Z h.reduced has.lower has.is_lower

  gives_k : (c : ℕ) → IsColumn n c → col n up regular (rows L) lower triangle (row w) c ≡ row k c
  gives_k = reduced_gives n up regular (rows L) lower triangle (row k) (rows f.left) (row w) (reduced_of n up L k f.left w f.reduced)

  symmetric : (q t : ℕ) → start n up R L D J mu Y l C h q t ≡ start n up R L D J mu Y l C h t q
  symmetric = coupling_symmetric n up regular (rows L) lower triangle (row D) (not_null n D pivots) R (rows J) (rows Y) gives_row (row k) (row w) gives_k (row mu) (row g)

  -- ---- the equations in numbers
  entry_is : (c d : ℕ) → c < n → d < n → cls (m (suc c) (suc d)) ≡ entry n up regular (rows L) lower triangle (row D) (suc c) (suc d)
  entry_is c d b q =
      sound (m (suc c) (suc d)) (sum fracs n (λ i. F.mul (F.mul (has.lower (suc i) (suc c)) (D (suc i))) (has.lower (suc i) (suc d)))) (has.product (suc c) (suc d) (number n c b) (number n d q))
      ∙ cls_of_products n (λ i. F.mul (has.lower (suc i) (suc c)) (D (suc i))) (λ i. has.lower (suc i) (suc d))
      ∙ sum_ext qo n (λ i. cls (F.mul (has.lower (suc i) (suc c)) (D (suc i))) *ℚ cls (has.lower (suc i) (suc d)))
      (λ i. (cls (has.lower (suc i) (suc c)) *ℚ cls (D (suc i))) *ℚ cls (has.lower (suc i) (suc d)))
      (λ i p. ap (λ t. t *ℚ cls (has.lower (suc i) (suc d))) (cls_of_mul (has.lower (suc i) (suc c)) (D (suc i))))

  column_left : (y : ℕ → Frac) (c : ℕ) → c < n → cls (sum fracs n (λ d. F.mul (m (suc c) (suc d)) (y (suc d)))) ≡ given_by n up regular (rows L) lower triangle (row D) (row y) (suc c)
  column_left y c b =
      cls_of_products n (λ d. m (suc c) (suc d)) (λ d. y (suc d))
      ∙ sum_ext qo n (λ d. cls (m (suc c) (suc d)) *ℚ cls (y (suc d))) (λ d. entry n up regular (rows L) lower triangle (row D) (suc c) (suc d) *ℚ cls (y (suc d)))
      (λ d q. ap (λ t. t *ℚ cls (y (suc d))) (entry_is c d b q))

  column_right : (nu : ℕ → Frac) (c : ℕ) → cls (F.add (k c) (sum fracs R (λ r. F.mul (J (suc r) c) (nu (suc r))))) ≡ cls (k c) +ℚ sum qo R (λ r. cls (J (suc r) c) *ℚ cls (nu (suc r)))
  column_right nu c =
      cls_of_add (k c) (sum fracs R (λ r. F.mul (J (suc r) c) (nu (suc r)))) ∙ ap (λ t. cls (k c) +ℚ t) (cls_of_products R (λ r. J (suc r) c) (λ r. nu (suc r)))

  row_left : (y nu : ℕ → Frac) (r : ℕ) → cls (F.add (F.add (sum fracs n (λ c. F.mul (J r (suc c)) (y (suc c)))) (g r)) (F.mul (mu r) (nu r)))
      ≡ (sum qo n (λ c. cls (J r (suc c)) *ℚ cls (y (suc c))) +ℚ cls (g r)) +ℚ cls (mu r) *ℚ cls (nu r)
  row_left y nu r =
      cls_of_add (F.add (sum fracs n (λ c. F.mul (J r (suc c)) (y (suc c)))) (g r)) (F.mul (mu r) (nu r))
      ∙ ap₂ ◌+ℚ◌
      (cls_of_add (sum fracs n (λ c. F.mul (J r (suc c)) (y (suc c)))) (g r) ∙ ap (λ t. t +ℚ cls (g r)) (cls_of_products n (λ c. J r (suc c)) (λ c. y (suc c))))
      (cls_of_mul (mu r) (nu r))

  -- ---- what is found solves them
  abbrev Added : (ℕ → ℚ) → (ℕ → ℚ) → Type 0
  Added v y = IsAdded n up regular (rows L) lower triangle (row D) (not_null n D pivots) R (rows J) (rows Y) gives_row (row k) (row w) gives_k v y

  found_added : Added (row lam) (row x)
  found_added c b =
      substituted_gives n up regular (rows L) lower triangle (row s.z) (rows s.part) (row x) (substituted_of n up L s.z s.part x s.substituted) c b
      ∙ divided_of n up D s.added s.z s.divided (suc c) (number n c b)
      ∙ ap (λ t. t *ℚ inv (cls (D (suc c))))
      (sum_of (w (suc c)) (s.more (suc c)) (s.added (suc c)) (s.adds.totals (suc c) (number n c b))
      ∙ ap (λ t. cls (w (suc c)) +ℚ t) (products_of R (λ r. Y r (suc c)) lam (s.more (suc c)) (s.adds.sums (suc c) (number n c b))))

  column_holds : (c : ℕ) → c < n → Same (sum fracs n (λ d. F.mul (m (suc c) (suc d)) (x (suc d)))) (F.add (k (suc c)) (sum fracs R (λ r. F.mul (J (suc r) (suc c)) (lam (suc r)))))
  column_holds c b =
      exact (sum fracs n (λ d. F.mul (m (suc c) (suc d)) (x (suc d)))) (F.add (k (suc c)) (sum fracs R (λ r. F.mul (J (suc r) (suc c)) (lam (suc r)))))
      (column_left x c b
      ∙ columns_hold n up regular (rows L) lower triangle (row D) (not_null n D pivots) R (rows J) (rows Y) gives_row (row k) (row w) gives_k (row lam) (row x) found_added c b
      ∙ sym (column_right lam (suc c)))

  row_holds : (r : ℕ) → r < R → Same (F.add (F.add (sum fracs n (λ c. F.mul (J (suc r) (suc c)) (x (suc c)))) (g (suc r))) (F.mul (mu (suc r)) (lam (suc r)))) fracs.nul
  row_holds r b =
      exact (F.add (F.add (sum fracs n (λ c. F.mul (J (suc r) (suc c)) (x (suc c)))) (g (suc r))) (F.mul (mu (suc r)) (lam (suc r)))) fracs.nul
      (row_left x lam (suc r)
      ∙ rows_hold n up regular (rows L) lower triangle (row D) (not_null n D pivots) R (rows J) (rows Y) gives_row (row k) (row w) gives_k (row mu) (row g) (row lam) (row x) found_added r b
      (lam_solves n up R L D J mu Y l C h k g w lam f row_pivots symmetric r b)
      ∙ sym cls-zero)

  from_column : (P : ℕ → Type 0) → ((c : ℕ) → c < n → P (suc c)) → (c : ℕ) → IsColumn n c → P c
  from_column P q zero there = absurd (omega (arith, there.from))
  from_column P q (suc c) there = q c (omega (arith, there.to))

  from_row : (P : ℕ → Type 0) → ((r : ℕ) → r < R → P (suc r)) → (r : ℕ) → IsRow R r → P r
  from_row P q zero there = absurd (omega (arith, there.from))
  from_row P q (suc r) there = q r (omega (arith, there.to))

  are_bordered : AreBordered n R m J mu k g x lam
  are_bordered = record {
    columns = from_column (λ c. Same (sum fracs n (λ d. F.mul (m c (suc d)) (x (suc d)))) (F.add (k c) (sum fracs R (λ r. F.mul (J (suc r) c) (lam (suc r)))))) column_holds;
    rows = from_row (λ r. Same (F.add (F.add (sum fracs n (λ c. F.mul (J r (suc c)) (x (suc c)))) (g r)) (F.mul (mu r) (lam r))) fracs.nul) row_holds;
  }

  -- ---- and nothing else does
  module _ (y nu : ℕ → Frac) (o : AreBordered n R m J mu k g y nu) where
    other_added : Added (row nu) (row y)
    other_added =
        columns_say n up regular (rows L) lower triangle (row D) (not_null n D pivots) R (rows J) (rows Y) gives_row (row k) (row w) gives_k (row nu) (row y)
        (λ c b. sym (column_left y c b)
        ∙ sound (sum fracs n (λ d. F.mul (m (suc c) (suc d)) (y (suc d)))) (F.add (k (suc c)) (sum fracs R (λ r. F.mul (J (suc r) (suc c)) (nu (suc r))))) (o.columns (suc c) (number n c b))
        ∙ column_right nu (suc c))

    same_force : (r : ℕ) → 0 < r → r ≤ R → cls (nu r) ≡ cls (lam r)
    same_force =
        lam_only n up R L D J mu Y l C h k g w lam f row_pivots symmetric (row nu)
        (λ r b. rows_say n up regular (rows L) lower triangle (row D) (not_null n D pivots) R (rows J) (rows Y) gives_row (row k) (row w) gives_k (row mu) (row g) (row nu) (row y) other_added r b
        (sym (row_left y nu (suc r))
        ∙ sound (F.add (F.add (sum fracs n (λ c. F.mul (J (suc r) (suc c)) (y (suc c)))) (g (suc r))) (F.mul (mu (suc r)) (nu (suc r)))) fracs.nul (o.rows (suc r) (number R r b))
        ∙ cls-zero))

    same_row : (c : ℕ) → c < n → along n up regular (rows L) lower triangle (row y) (suc c) n ≡ along n up regular (rows L) lower triangle (row x) (suc c) n
    same_row c b =
        other_added c b
        ∙ ap (λ t. (cls (w (suc c)) +ℚ t) *ℚ inv (cls (D (suc c))))
        (sum_ext qo R (λ r. cls (Y (suc r) (suc c)) *ℚ cls (nu (suc r))) (λ r. cls (Y (suc r) (suc c)) *ℚ cls (lam (suc r)))
        (λ r q. ap (λ t. cls (Y (suc r) (suc c)) *ℚ t) (same_force (suc r) (omega arith) (omega arith))))
        ∙ sym (found_added c b)

    same_solutions : AreSameSolutions n R m J mu k g x lam y nu
    same_solutions = record {
      columns = from_column (λ c. Same (y c) (x c)) (λ c b. exact (y (suc c)) (x (suc c)) (rows_tell n up regular (rows L) lower triangle (row y) (row x) same_row c b));
      rows = from_row (λ r. Same (nu r) (lam r)) (λ r b. exact (nu (suc r)) (lam (suc r)) (same_force (suc r) (omega arith) (omega arith)));
    }

  pub is_one_solution : IsOneBorderedSolution n R m J mu k g x lam
  is_one_solution = record { solves = are_bordered; only = same_solutions }

pub bordered_solves : BorderedSolves
bordered_solves n up R m L D J mu Y l C k g w lam x regular has pivots h row_pivots f s = is_one_solution n up R regular m L D J mu Y l C k g w lam x has pivots h row_pivots f s

-- ---- without compliance
nothing_more : (a : ℚ) → a ≡ a +ℚ 0ℚ
nothing_more a = sym (add_nul a)

pub compliant : (n : ℕ) (up : ℕ → ℕ) (R : ℕ) (L : ℕ → ℕ → Frac) (D : ℕ → Frac) (J Y l : ℕ → ℕ → Frac) (C : ℕ → Frac) →
    HaveRigidFactors fraction_row_steps n up R L D J Y l C → HaveRowFactors fraction_row_steps n up R L D J (λ r. fracs.nul) Y l C
compliant n up R L D J Y l C h = record {
  left = h.left;
  Z = h.Z;
  alone = λ r. h.G r r;
  G = h.G;
  table = h.table;
  reduced = h.reduced;
  coupled = record {
    pairs = h.coupled.pairs;
    own = h.coupled.own;
    compliant = λ r there. exact (h.G r r) (F.add (h.G r r) fracs.nul) (nothing_more (cls (h.G r r)) ∙ ap (λ t. cls (h.G r r) +ℚ t) (sym cls-zero) ∙ sym (cls_of_add (h.G r r) fracs.nul));
  };
  eliminated = h.eliminated;
}

pub rigid_bordered_solves : RigidBorderedSolves
rigid_bordered_solves n up R m L D J Y l C k g w lam x regular has pivots h row_pivots f s =
    bordered_solves n up R m L D J (λ r. fracs.nul) Y l C k g w lam x regular has pivots (compliant n up R L D J Y l C h) row_pivots f s
