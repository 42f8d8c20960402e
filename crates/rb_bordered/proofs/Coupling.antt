-- The coupling of two rows is what the one has at the solution for the other, and the pivots of rows are told by what is given.
use Rattle.std.proofs.Common.{◌≡◌, ℕ, zero, suc, ◌<◌, ◌≤◌, [], ◌∷◌, refl, sym, ◌∙◌, ap, ap₂, subst, arith}
use Rattle.rb_frac.specs.Frac as F
use Rattle.rb_frac.specs.Frac.{Frac, Same, fracs}
use Rattle.rb_frac.proofs.Ring.{var, times, ring}
use Rattle.rb_frac.proofs.Vec.{nth}
use Rattle.rb_frac.proofs.Sums.{sum, sum_ext}
use Rattle.rb_frac.proofs.Rational.{ℚ, ◌+ℚ◌, ◌*ℚ◌, neg_ℚ, 0ℚ, inv, qo, rats, cls, exact}
use Rattle.rb_frac.proofs.Hom.{cls_of_add}
use Rattle.rb_elimination.specs.Paths.{IsColumn, IsRegular}
use Rattle.rb_elimination.specs.Factors.{fraction_steps}
use Rattle.rb_elimination.specs.Solving.{IsReduced, IsFound}
use Rattle.rb_elimination.proofs.Numbers.{row, rows, reduced_of, divided_of, substituted_of}
use Rattle.rb_elimination.proofs.Triangle.{IsTriangle, reduced_gives, substituted_gives, columns_tell}
use Rattle.rb_elimination.proofs.Lower.{triangle_of, lower_at, lower_is}
use Rattle.rb_bordered.specs.Steps.{fraction_row_steps, IsRow}
use Rattle.rb_bordered.specs.Coupling.{AreRowsReduced, AreCoupled}
use Rattle.rb_bordered.specs.Forces.{HaveRowFactors}
use Rattle.rb_bordered.specs.Laws.{CouplingIs, RowPivotsAreOne}
use Rattle.rb_bordered.proofs.Own.{own}
use Rattle.rb_bordered.proofs.Dense.{whole, whole_start, whole_next}
use Rattle.rb_bordered.proofs.Numbers.{number, cls_of_products, sum_of}
use Rattle.rb_bordered.proofs.Rows.{col, transposed}
use Rattle.rb_bordered.proofs.Solves.{pair, pair_of, start, pivot}

grouped : (y z i : ℚ) → y *ℚ (z *ℚ i) ≡ (y *ℚ z) *ℚ i
grouped y z i = ring rats (nth 0ℚ (y ∷ z ∷ i ∷ [])) (times (var 0) (times (var 1) (var 2))) (times (times (var 0) (var 1)) (var 2)) refl

module _ (n : ℕ) (up : ℕ → ℕ) (regular : IsRegular n up) (L : ℕ → ℕ → Frac) where
  abbrev lower : ℕ → ℕ → ℚ
  lower = rows (lower_at n up regular L)

  abbrev triangle : IsTriangle n up (rows L) lower
  triangle = triangle_of n up L (lower_at n up regular L) (lower_is n up regular L)

  gives : (right : ℕ → Frac) (left : ℕ → ℕ → Frac) (w : ℕ → Frac) → IsReduced fraction_steps n up L right left w → (c : ℕ) → IsColumn n c → col n up regular (rows L) lower triangle (row w) c ≡ row right c
  gives right left w h = reduced_gives n up regular (rows L) lower triangle (row right) (rows left) (row w) (reduced_of n up L right left w h)

  -- a right side is reduced to one list of numbers
  pub same_reduced : (right : ℕ → Frac) (left left' : ℕ → ℕ → Frac) (w w' : ℕ → Frac) → IsReduced fraction_steps n up L right left w → IsReduced fraction_steps n up L right left' w' →
      (c : ℕ) → c < n → cls (w (suc c)) ≡ cls (w' (suc c))
  same_reduced right left left' w w' h g =
      columns_tell n up regular (rows L) lower triangle (row w) (row w') n (omega arith) (λ d there. gives right left w h d there ∙ sym (gives right left' w' g d there))

  module _ (R : ℕ) (D : ℕ → Frac) (J : ℕ → ℕ → Frac) (left : ℕ → ℕ → ℕ → Frac) (Y Z : ℕ → ℕ → Frac) (h : AreRowsReduced fraction_row_steps n up R L D J left Y Z) where
    -- what row q has at the solution for row r
    row_has : (q r : ℕ) → IsRow R q → IsRow R r → (x : ℕ → Frac) → IsFound fraction_steps n up L D (J r) x → cls (sum fracs n (λ c. F.mul (J q (suc c)) (x (suc c)))) ≡ pair n Y D q r
    row_has q r a b x f =
        cls_of_products n (λ c. J q (suc c)) (λ c. x (suc c))
        ∙ sum_ext qo n (λ c. cls (J q (suc c)) *ℚ cls (x (suc c))) (λ c. col n up regular (rows L) lower triangle (row (Y q)) (suc c) *ℚ cls (x (suc c)))
        (λ c l. ap (λ t. t *ℚ cls (x (suc c))) (sym (gives (J q) (left q) (Y q) (h.reduced q a) (suc c) (number n c l))))
        ∙ transposed n up regular (rows L) lower triangle (row (Y q)) (row x)
        ∙ sum_ext qo n (λ c. cls (Y q (suc c)) *ℚ sum qo n (λ d. lower (suc c) (suc d) *ℚ cls (x (suc d)))) (λ c. (cls (Y q (suc c)) *ℚ cls (Y r (suc c))) *ℚ inv (cls (D (suc c))))
        (λ c l. ap (λ t. cls (Y q (suc c)) *ℚ t)
        (substituted_gives n up regular (rows L) lower triangle (row f.z) (rows f.part) (row x) (substituted_of n up L f.z f.part x f.substituted) c l
        ∙ divided_of n up D f.w f.z f.divided (suc c) (number n c l)
        ∙ ap (λ t. t *ℚ inv (cls (D (suc c)))) (same_reduced (J r) f.left (left r) f.w (Y r) f.reduced (h.reduced r b) c l))
        ∙ grouped (cls (Y q (suc c))) (cls (Y r (suc c))) (inv (cls (D (suc c)))))

pub coupling_is : CouplingIs
coupling_is n up R L D J left Y Z mu alone G regular h g = record {
  pairs = λ q r a b l x f. exact (G q r) (sum fracs n (λ c. F.mul (J q (suc c)) (x (suc c))))
      (pair_of n up R L D J left Y Z h q r (G q r) a (g.pairs q r a b l) ∙ sym (row_has n up regular L R D J left Y Z h q r a b x f));
  own = λ r a x f. exact (G r r) (F.add (sum fracs n (λ c. F.mul (J r (suc c)) (x (suc c)))) (mu r))
      (sum_of (alone r) (mu r) (G r r) (g.compliant r a)
      ∙ ap (λ t. t +ℚ cls (mu r)) (pair_of n up R L D J left Y Z h r r (alone r) a (g.own r a) ∙ sym (row_has n up regular L R D J left Y Z h r r a a x f))
      ∙ sym (cls_of_add (sum fracs n (λ c. F.mul (J r (suc c)) (x (suc c)))) (mu r)));
}

-- ---- pivots
module _ (R : ℕ) (one other : ℕ → ℕ → ℚ) (same : (q t : ℕ) → 0 < q → q ≤ R → 0 < t → t ≤ R → one q t ≡ other q t) where
  whole_same : (r q t : ℕ) → r < q → q ≤ R → r < t → t ≤ R → whole one r q t ≡ whole other r q t
  whole_same zero q t a b c d = whole_start one q t ∙ same q t a b c d ∙ sym (whole_start other q t)
  whole_same (suc r) q t a b c d =
      whole_next one r q t
      ∙ ap₂ (λ x y. x +ℚ neg_ℚ ((y *ℚ inv (whole one r (suc r) (suc r))) *ℚ whole one r t (suc r))) (whole_same r q t (omega arith) b (omega arith) d) (whole_same r q (suc r) (omega arith) b (omega arith) (omega arith))
      ∙ ap₂ (λ x y. whole other r q t +ℚ neg_ℚ ((whole other r q (suc r) *ℚ inv x) *ℚ y)) (whole_same r (suc r) (suc r) (omega arith) (omega arith) (omega arith) (omega arith))
      (whole_same r t (suc r) (omega arith) d (omega arith) (omega arith))
      ∙ sym (whole_next other r q t)

module _ (n : ℕ) (up : ℕ → ℕ) (R : ℕ) (L : ℕ → ℕ → Frac) (D : ℕ → Frac) (J : ℕ → ℕ → Frac) (mu : ℕ → Frac) (Y l : ℕ → ℕ → Frac) (C : ℕ → Frac)
    (Y' l' : ℕ → ℕ → Frac) (C' : ℕ → Frac) (regular : IsRegular n up)
    (h : HaveRowFactors fraction_row_steps n up R L D J mu Y l C) (g : HaveRowFactors fraction_row_steps n up R L D J mu Y' l' C') where
  same_entry : (r : ℕ) → IsRow R r → (c : ℕ) → c < n → cls (Y r (suc c)) ≡ cls (Y' r (suc c))
  same_entry r there = same_reduced n up regular L (J r) (h.left r) (g.left r) (Y r) (Y' r) (h.reduced.reduced r there) (g.reduced.reduced r there)

  same_start : (q t : ℕ) → 0 < q → q ≤ R → 0 < t → t ≤ R → start n up R L D J mu Y l C h q t ≡ start n up R L D J mu Y' l' C' g q t
  same_start q t a b c d =
      ap (λ s. s +ℚ own q t (cls (mu q)))
      (sum_ext qo n (λ i. (cls (Y q (suc i)) *ℚ cls (Y t (suc i))) *ℚ inv (cls (D (suc i)))) (λ i. (cls (Y' q (suc i)) *ℚ cls (Y' t (suc i))) *ℚ inv (cls (D (suc i))))
      (λ i p. ap₂ (λ x y. (x *ℚ y) *ℚ inv (cls (D (suc i)))) (same_entry q (record { from = omega arith; to = b }) i p) (same_entry t (record { from = omega arith; to = d }) i p)))

  same_pivot : (r : ℕ) → IsRow R r → Same (C r) (C' r)
  same_pivot zero there = absurd (omega (arith, there.from))
  same_pivot (suc r) there =
      let b : r < R = omega (arith, there.to) in
      exact (C (suc r)) (C' (suc r))
      (pivot n up R L D J mu Y l C h r b
      ∙ whole_same R (start n up R L D J mu Y l C h) (start n up R L D J mu Y' l' C' g) same_start r (suc r) (suc r) (omega arith) (omega arith) (omega arith) (omega arith)
      ∙ sym (pivot n up R L D J mu Y' l' C' g r b))

pub row_pivots_are_one : RowPivotsAreOne
row_pivots_are_one n up R L D J mu Y l C Y' l' C' regular h g = same_pivot n up R L D J mu Y l C Y' l' C' regular h g
