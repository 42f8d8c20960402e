-- There is one answer of the coupling of rows: the same factors or the same refusal, and not both.
use Rattle.std.proofs.Common.{◌≡◌, inl, inr, ℕ, zero, suc, ◌<◌, ◌≤◌, Ok, Err, refl, ap, sym, ◌∙◌, subst, arith}
use mathlib.Core.Path.{ap₂}
use Rattle.std.proofs.lemmas.Bool.{cases_lt}
use Rattle.rb_result.proofs.Results.{same_ok, not-both}
use Rattle.rb_num.specs.declared.interval.NumFault.TheVariants as N
use Rattle.rb_num.specs.Interval.{Interval}
use Rattle.rb_num.specs.Dot.{iv_dot}
use Rattle.rb_num.specs.Refusing.{iv_add, iv_div}
use Rattle.rb_num.specs.Quotient.{HasZero}
use Rattle.rb_work.specs.declared.names.NameKind.TheVariants as K
use Rattle.rb_work.specs.declared.names.RowFault.{RowFault}
use Rattle.rb_work.specs.declared.names.RowFault.TheVariants.{Size, Pivot}
use Rattle.rb_work.specs.Names.{one, two}
use Rattle.rb_elimination.specs.Paths.{IsRegular}
use Rattle.rb_elimination.specs.Solving.{IsReduced, IsDivided}
use Rattle.rb_factor.specs.Steps.{lessened, interval_steps, AreDivisors}
use Rattle.rb_factor.specs.Laws.{SameNumbers, SameFactors}
use Rattle.rb_factor.proofs.Relations.{intervals_same}
use Rattle.rb_factor.proofs.OneSolve.{reduce_either, divide_either, w_same}
use Rattle.rb_bordered.specs.Steps.{IsRow}
use Rattle.rb_bordered.specs.Coupling.{AreRowsReduced, AreCoupled}
use Rattle.rb_bordered.specs.Elimination.{AreEliminated}
use Rattle.rb_bordered.specs.Forces.{HaveRowFactors}
use Rattle.rb_coupling.specs.Steps.{pairs_of, interval_row_steps}
use Rattle.rb_coupling.specs.Couple.{IsRowRefused, by_reduce, by_divide, IsEntry, of_two, of_one, IsEntryRefused, in_sum, in_compliance, StandsBefore, EliminatesRow, AreEliminatedUntil, IsEliminationRefused, by_pivot, by_quotient, by_update, IsCoupleRefused, by_row, by_entry, by_elimination}
use Rattle.rb_coupling.specs.Laws.{SameRows, CouplingIsOne}
use Rattle.rb_coupling.proofs.Meeting.{row_factors_met, rows_met, coupled_met}
use Rattle.rb_coupling.proofs.Enclosing.{pairs_same, rows_same}

numbers_back : (n : ℕ) (v w : ℕ → Interval) → SameNumbers n v w → SameNumbers n w v
numbers_back n v w h c i = sym (h c i)

factors_back : (n : ℕ) (up : ℕ → ℕ) (v w : ℕ → ℕ → Interval) → SameFactors n up v w → SameFactors n up w v
factors_back n up v w h c d i a = sym (h c d i a)

rows_back : (n R : ℕ) (v w : ℕ → ℕ → Interval) → SameRows n R v w → SameRows n R w v
rows_back n R v w h r i = numbers_back n (v r) (w r) (h r i)

-- ---- one row
module _ (n : ℕ) (up : ℕ → ℕ) (regular : IsRegular n up) (L L' : ℕ → ℕ → Interval) (D D' : ℕ → Interval) (factors : SameFactors n up L L') (diagonal : SameNumbers n D D')
    (row row' : ℕ → Interval) (same : SameNumbers n row row') where
  row_not : (left : ℕ → ℕ → Interval) (y z : ℕ → Interval) → IsReduced interval_steps n up L row left y → IsDivided interval_steps n up D y z → (r : ℕ) (e : RowFault) →
      IsRowRefused n up L' D' row' r e → ⊥
  row_not left y z h k r e (by_reduce f g) = reduce_either n up regular L L' factors row row' same left y f h g
  row_not left y z h k r e (by_divide left' w f h' g) =
      divide_either n up D D' y w z diagonal (w_same n up regular L L' D D' factors diagonal row row' same left left' y w h h') k f g

row_refusal : (n : ℕ) (up : ℕ → ℕ) → IsRegular n up → (L L' : ℕ → ℕ → Interval) (D D' : ℕ → Interval) → SameFactors n up L L' → (row row' : ℕ → Interval) → SameNumbers n row row' →
    (r : ℕ) (d e : RowFault) → IsRowRefused n up L D row r d → IsRowRefused n up L' D' row' r e → d ≡ e
row_refusal n up regular L L' D D' factors row row' same r d e (by_reduce f g) (by_reduce f' g') = refl
row_refusal n up regular L L' D D' factors row row' same r d e (by_reduce f g) (by_divide left w f' h g') =
    absurd (reduce_either n up regular L' L (factors_back n up L L' factors) row' row (numbers_back n row row' same) left w f h g)
row_refusal n up regular L L' D D' factors row row' same r d e (by_divide left w f h g) (by_reduce f' g') =
    absurd (reduce_either n up regular L L' factors row row' same left w f' h g')
row_refusal n up regular L L' D D' factors row row' same r d e (by_divide left w f h g) (by_divide left' w' f' h' g') = refl

-- ---- one entry
module _ (n : ℕ) (Y Z Y' Z' : ℕ → ℕ → Interval) (mu mu' : ℕ → Interval) (q r : ℕ) (y : SameNumbers n (Y r) (Y' r)) (z : SameNumbers n (Z q) (Z' q)) (m : mu r ≡ mu' r) where
  sums : iv_dot (pairs_of (Y r) (Z q) n) ≡ iv_dot (pairs_of (Y' r) (Z' q) n)
  sums = ap iv_dot (pairs_same n (Y r) (Z q) (Y' r) (Z' q) y z)

  sum_of_entry : (v : Interval) → IsEntry n Y Z mu q r v → (t : Interval) × (iv_dot (pairs_of (Y r) (Z q) n) ≡ Ok t) × (q ≡ r → iv_add t (mu r) ≡ Ok v)
  sum_of_entry v (of_two l h) = (v, h, λ e. absurd (omega arith))
  sum_of_entry v (of_one alone e h k) = (alone, h, λ e. k)

  entry_not : (v : Interval) → IsEntry n Y Z mu q r v → IsEntryRefused n Y' Z' mu' q r → ⊥
  entry_not v h (in_sum f) = let p = sum_of_entry v h in not-both (iv_dot (pairs_of (Y' r) (Z' q) n)) p.0 N.Size (sym sums ∙ p.1) f
  entry_not v h (in_compliance alone e f g) =
      let p = sum_of_entry v h in
      let t : p.0 ≡ alone = same_ok p.0 alone (sym p.1 ∙ sums ∙ f) in
      not-both (iv_add alone (mu' r)) v N.Size (sym (ap₂ iv_add t m) ∙ p.2 e) g

entry_of : (n : ℕ) (up : ℕ → ℕ) (R : ℕ) (Y Z : ℕ → ℕ → Interval) (mu alone : ℕ → Interval) (G : ℕ → ℕ → Interval) → AreCoupled interval_row_steps n up R Y Z mu alone G →
    (q r : ℕ) → IsRow R q → IsRow q r → IsEntry n Y Z mu q r (G q r)
entry_of n up R Y Z mu alone G h q r i j =
    let there : IsRow R r = record { from = j.from; to = omega (arith, j.to, i.to) } in
    elim (cases_lt r q) [
      | inl l ↦ of_two l (h.pairs q r i there l)
      | inr g ↦
          let same : q ≡ r = omega (arith, j.to) in
          subst (λ t. IsEntry n Y Z mu q t (G q t)) same (of_one (alone q) refl (h.own q i) (h.compliant q i))
    ]

-- ---- one row is eliminated
module _ (R r : ℕ) (from : 1 ≤ r) (to : r ≤ R) (table table' : ℕ → ℕ → Interval) (same : (q t : ℕ) → r ≤ t → t ≤ q → q ≤ R → table q t ≡ table' q t) where
  pivot_same : table r r ≡ table' r r
  pivot_same = same r r (omega arith) (omega arith) to

  quotient_same : (q : ℕ) → r < q → q ≤ R → iv_div (table q r) (table r r) ≡ iv_div (table' q r) (table' r r)
  quotient_same q low high = ap₂ iv_div (same q r (omega arith) (omega arith) high) pivot_same

  update_same : (q t : ℕ) (x x' : Interval) → r < t → t ≤ q → q ≤ R → x ≡ x' → lessened (table q t) x (table t r) ≡ lessened (table' q t) x' (table' t r)
  update_same q t x x' low mid high e =
      ap (λ v. lessened v x (table t r)) (same q t (omega arith) mid high)
      ∙ ap (λ v. lessened (table' q t) v (table t r)) e
      ∙ ap (λ v. lessened (table' q t) x' v) (same t r (omega arith) (omega arith) (omega arith))

  module _ (left : ℕ → ℕ → Interval) (l : ℕ → ℕ → Interval) (C : ℕ → Interval) (h : EliminatesRow R r table left l C) where
    divides : (q : ℕ) → r < q → q ≤ R → iv_div (table q r) (table r r) ≡ Ok (l q r)
    divides q low high = ap (λ x. iv_div (table q r) x) (sym h.pivot) ∙ h.quotients q low high

    -- a row that is eliminated from one table is not refused in the other
    gone_not : (e : RowFault) → IsEliminationRefused R r table' e → ⊥
    gone_not e (by_pivot z) = h.divisor (subst (λ v. HasZero v) (sym (h.pivot ∙ pivot_same)) z)
    gone_not e (by_quotient q nz low high until refused) =
        not-both (iv_div (table' q r) (table' r r)) (l q r) N.Size (sym (quotient_same q low high) ∙ divides q low high) refused
    gone_not e (by_update quotient q t nz low mid high all until refused) =
        let x : l q r ≡ quotient q = same_ok (l q r) (quotient q) (sym (divides q (omega arith) high) ∙ quotient_same q (omega arith) high ∙ all q (omega arith) high) in
        not-both (lessened (table' q t) (quotient q) (table' t r)) (left q t) N.Size (sym (update_same q t (l q r) (quotient q) low mid high x) ∙ h.updates q t low mid high) refused

    -- what is left of the two is the same
    module _ (left' : ℕ → ℕ → Interval) (l' : ℕ → ℕ → Interval) (C' : ℕ → Interval) (h' : EliminatesRow R r table' left' l' C') where
      left_same : (q t : ℕ) → r < t → t ≤ q → q ≤ R → left q t ≡ left' q t
      left_same q t low mid high =
          let x : l q r ≡ l' q r =
          same_ok (l q r) (l' q r)
          (sym (divides q (omega arith) high) ∙ quotient_same q (omega arith) high ∙ ap (λ v. iv_div (table' q r) v) (sym h'.pivot) ∙ h'.quotients q (omega arith) high) in
          same_ok (left q t) (left' q t) (sym (h.updates q t low mid high) ∙ update_same q t (l q r) (l' q r) low mid high x ∙ h'.updates q t low mid high)

  -- the first refusal of one is not passed in the other
  quotient_passed : (q p : ℕ) → r < q → q < p → p ≤ R → ((s : ℕ) → r < s → s < p → (v : Interval) × (iv_div (table' s r) (table' r r) ≡ Ok v)) →
      iv_div (table q r) (table r r) ≡ Err N.Size → ⊥
  quotient_passed q p low less high until refused =
      let f = until q low less in
      not-both (iv_div (table q r) (table r r)) f.0 N.Size (quotient_same q low (omega arith) ∙ f.1) refused

  update_passed : (quotient quotient' : ℕ → Interval) (q t p u : ℕ) → r < t → t ≤ q → q ≤ R →
      ((s : ℕ) → r < s → s ≤ R → iv_div (table s r) (table r r) ≡ Ok (quotient s)) → ((s : ℕ) → r < s → s ≤ R → iv_div (table' s r) (table' r r) ≡ Ok (quotient' s)) →
      ((s w : ℕ) → r < w → w ≤ s → StandsBefore s w p u → (v : Interval) × (lessened (table' s w) (quotient' s) (table' w r) ≡ Ok v)) → q < p →
      lessened (table q t) (quotient q) (table t r) ≡ Err N.Size → ⊥
  update_passed quotient quotient' q t p u low mid high all all' until less refused =
      let f = until q t low mid (inl less) in
      let x : quotient q ≡ quotient' q = same_ok (quotient q) (quotient' q) (sym (all q (omega arith) high) ∙ quotient_same q (omega arith) high ∙ all' q (omega arith) high) in
      not-both (lessened (table q t) (quotient q) (table t r)) f.0 N.Size (update_same q t (quotient q) (quotient' q) low mid high x ∙ f.1) refused

elimination_refusal : (R r : ℕ) → 1 ≤ r → r ≤ R → (table table' : ℕ → ℕ → Interval) → ((q t : ℕ) → r ≤ t → t ≤ q → q ≤ R → table q t ≡ table' q t) →
    ((q t : ℕ) → r ≤ t → t ≤ q → q ≤ R → table' q t ≡ table q t) → (d e : RowFault) → IsEliminationRefused R r table d → IsEliminationRefused R r table' e → d ≡ e
elimination_refusal R r from to table table' same back d e (by_pivot z) (by_pivot z') = ap (λ v. Pivot (one K.C r) v) (same r r (omega arith) (omega arith) to)
elimination_refusal R r from to table table' same back d e (by_pivot z) (by_quotient q' nz' low' high' until' refused') =
    absurd (nz' (subst (λ v. HasZero v) (same r r (omega arith) (omega arith) to) z))
elimination_refusal R r from to table table' same back d e (by_pivot z) (by_update quotient' q' t' nz' low' mid' high' all' until' refused') =
    absurd (nz' (subst (λ v. HasZero v) (same r r (omega arith) (omega arith) to) z))
elimination_refusal R r from to table table' same back d e (by_quotient q nz low high until refused) (by_pivot z') =
    absurd (nz (subst (λ v. HasZero v) (back r r (omega arith) (omega arith) to) z'))
elimination_refusal R r from to table table' same back d e (by_quotient q nz low high until refused) (by_quotient q' nz' low' high' until' refused') =
    elim (cases_lt q q') [
      | inl m ↦ absurd (quotient_passed R r from to table table' same q q' low m high' until' refused)
      | inr m ↦ elim (cases_lt q' q) [
        | inl k ↦ absurd (quotient_passed R r from to table' table back q' q low' k high until refused')
        | inr k ↦ let s : q ≡ q' = omega arith in ap (λ p. Size (two K.l p r)) s
      ]
    ]
elimination_refusal R r from to table table' same back d e (by_quotient q nz low high until refused) (by_update quotient' q' t' nz' low' mid' high' all' until' refused') =
    absurd
    (not-both (iv_div (table q r) (table r r)) (quotient' q) N.Size (quotient_same R r from to table table' same q low high ∙ all' q low high) refused)
elimination_refusal R r from to table table' same back d e (by_update quotient q t nz low mid high all until refused) (by_pivot z') =
    absurd (nz (subst (λ v. HasZero v) (back r r (omega arith) (omega arith) to) z'))
elimination_refusal R r from to table table' same back d e (by_update quotient q t nz low mid high all until refused) (by_quotient q' nz' low' high' until' refused') =
    absurd
    (not-both (iv_div (table' q' r) (table' r r)) (quotient q') N.Size (quotient_same R r from to table' table back q' low' high' ∙ all q' low' high') refused')
elimination_refusal R r from to table table' same back d e (by_update quotient q t nz low mid high all until refused) (by_update quotient' q' t' nz' low' mid' high' all' until' refused') =
    elim (cases_lt q q') [
      | inl m ↦ absurd (update_passed R r from to table table' same quotient quotient' q t q' t' low mid high all all' until' m refused)
      | inr m ↦ elim (cases_lt q' q) [
        | inl k ↦ absurd (update_passed R r from to table' table back quotient' quotient q' t' q t low' mid' high' all' all until k refused')
        | inr k ↦ let s : q ≡ q' = omega arith in ap (λ p. Size (two K.l p r)) s
      ]
    ]

-- ---- the rows from the first on
eliminated_back : (R : ℕ) (G : ℕ → ℕ → Interval) (table : ℕ → ℕ → ℕ → Interval) (l : ℕ → ℕ → Interval) (C : ℕ → Interval) → AreEliminated interval_row_steps R G table l C → AreDivisors R C
    → AreEliminatedUntil R R G table l C
eliminated_back R G table l C h divisors = record {
  first = h.first;
  each = λ r m. record {
    pivot = h.pivots r m;
    divisor = divisors (suc r) (record { from = omega arith; to = omega arith });
    quotients = λ q low high. h.quotients r q low high;
    updates = λ q t low mid high. h.updates r q t low mid high;
  };
}

module _ (R : ℕ) (G G' : ℕ → ℕ → Interval) (start : (q r : ℕ) → IsRow R q → IsRow q r → G q r ≡ G' q r) (k k' : ℕ) (table table' : ℕ → ℕ → ℕ → Interval) (l l' : ℕ → ℕ → Interval)
    (C C' : ℕ → Interval) (h : AreEliminatedUntil k R G table l C) (h' : AreEliminatedUntil k' R G' table' l' C') where
  tables_same : (c : ℕ) → c ≤ R → c ≤ k → c ≤ k' → (q t : ℕ) → suc c ≤ t → t ≤ q → q ≤ R → table c q t ≡ table' c q t
  tables_same zero m a b q t low mid high =
      let row : IsRow R q = record { from = omega arith; to = high } in
      let entry : IsRow q t = record { from = low; to = mid } in
      h.first q t row entry ∙ start q t row entry ∙ sym (h'.first q t row entry)
  tables_same (suc c) m a b q t low mid high =
      left_same R (suc c) (omega arith) m (table c) (table' c) (tables_same c (omega arith) (omega arith) (omega arith)) (table (suc c)) l C (h.each c (omega arith)) (table' (suc c)) l' C'
      (h'.each c (omega arith)) q t (omega arith) mid high

  -- a row that is eliminated in one is not refused in the other, which has come to it
  done_not : k' < k → k' < R → (e : RowFault) → IsEliminationRefused R (suc k') (table' k') e → ⊥
  done_not less there e r =
      gone_not R (suc k') (omega arith) (omega arith) (table k') (table' k') (tables_same k' (omega arith) (omega arith) (omega arith)) (table (suc k')) l C (h.each k' less) e r

-- ---- all steps
module _ (n : ℕ) (up : ℕ → ℕ) (R : ℕ) (L L' : ℕ → ℕ → Interval) (D D' : ℕ → Interval) (J J' : ℕ → ℕ → Interval) (mu mu' : ℕ → Interval) (regular : IsRegular n up)
    (factors : SameFactors n up L L') (diagonal : SameNumbers n D D') (rows : SameRows n R J J') (compliances : SameNumbers R mu mu') where
  within : (k : ℕ) → k < R → IsRow R (suc k)
  within k l = record { from = omega arith; to = omega arith }

  -- the rows up to one are reduced, and the next one is not refused before that
  reduced_not : (m : ℕ) (left : ℕ → ℕ → ℕ → Interval) (Y Z : ℕ → ℕ → Interval) → AreRowsReduced interval_row_steps n up m L D J left Y Z → (k : ℕ) → k < m → k < R → (e : RowFault) →
      IsRowRefused n up L' D' (J' (suc k)) (suc k) e → ⊥
  reduced_not m left Y Z h k l b e r =
      let i : IsRow m (suc k) = record { from = omega arith; to = omega arith } in
      row_not n up regular L L' D D' factors diagonal (J (suc k)) (J' (suc k)) (rows (suc k) (within k b)) (left (suc k)) (Y (suc k)) (Z (suc k)) (h.reduced (suc k) i) (h.divided (suc k) i) (suc k) e r

  module _ (left left' : ℕ → ℕ → ℕ → Interval) (Y Z Y' Z' : ℕ → ℕ → Interval) (h : AreRowsReduced interval_row_steps n up R L D J left Y Z)
      (h' : AreRowsReduced interval_row_steps n up R L' D' J' left' Y' Z') where
    both_same : SameRows n R Y Y' × SameRows n R Z Z'
    unfolding rows_same intervals_same
    both_same = rows_met rows_same R n up regular L D L' D' factors diagonal J left Y Z J' left' Y' Z' h h' rows

    entries_not : (q r : ℕ) (v : Interval) → IsRow R q → IsRow q r → IsEntry n Y Z mu q r v → IsEntryRefused n Y' Z' mu' q r → ⊥
    entries_not q r v i j e f =
        let there : IsRow R r = record { from = j.from; to = omega (arith, j.to, i.to) } in
        entry_not n Y Z Y' Z' mu mu' q r (both_same.0 r there) (both_same.1 q i) (compliances r there) v e f

    coupling_same : (alone alone' : ℕ → Interval) (G G' : ℕ → ℕ → Interval) → AreCoupled interval_row_steps n up R Y Z mu alone G → AreCoupled interval_row_steps n up R Y' Z' mu' alone' G' →
        (q r : ℕ) → IsRow R q → IsRow q r → G q r ≡ G' q r
    unfolding rows_same intervals_same
    coupling_same alone alone' G G' c c' = coupled_met rows_same R n Y Z mu alone G Y' Z' mu' alone' G' up c c' both_same.0 both_same.1 compliances

  either : (Y l : ℕ → ℕ → Interval) (C : ℕ → Interval) (e : RowFault) → HaveRowFactors interval_row_steps n up R L D J mu Y l C → AreDivisors R C →
      IsCoupleRefused n up R L' D' J' mu' e → ⊥
  either Y l C e h divisors (by_row k left' Y' Z' less until r) = reduced_not R h.left Y h.Z h.reduced k less less e r
  either Y l C e h divisors (by_entry left' Y' Z' q r h' i j until refused named) =
      entries_not h.left left' Y h.Z Y' Z' h.reduced h' q r (h.G q r) i j (entry_of n up R Y h.Z mu h.alone h.G h.coupled q r i j) refused
  either Y l C e h divisors (by_elimination left' Y' Z' alone' G' k table' l' C' h' c' less until r) =
      done_not R h.G G' (coupling_same h.left left' Y h.Z Y' Z' h.reduced h' h.alone alone' h.G G' h.coupled c') R k h.table table' l l' C C' (eliminated_back R h.G h.table l C h.eliminated divisors)
      until less less e r

module _ (n : ℕ) (up : ℕ → ℕ) (R : ℕ) (L L' : ℕ → ℕ → Interval) (D D' : ℕ → Interval) (J J' : ℕ → ℕ → Interval) (mu mu' : ℕ → Interval) (regular : IsRegular n up)
    (factors : SameFactors n up L L') (diagonal : SameNumbers n D D') (rows : SameRows n R J J') (compliances : SameNumbers R mu mu') where
  abbrev factors' : SameFactors n up L' L
  factors' = factors_back n up L L' factors

  abbrev diagonal' : SameNumbers n D' D
  diagonal' = numbers_back n D D' diagonal

  abbrev rows' : SameRows n R J' J
  rows' = rows_back n R J J' rows

  abbrev compliances' : SameNumbers R mu' mu
  compliances' = numbers_back R mu mu' compliances

  refusal : (d e : RowFault) → IsCoupleRefused n up R L D J mu d → IsCoupleRefused n up R L' D' J' mu' e → d ≡ e
  refusal d e (by_row k left Y Z less until r) (by_row k' left' Y' Z' less' until' r') =
      elim (cases_lt k k') [
        | inl m ↦ absurd (reduced_not n up R L' L D' D J' J mu' mu regular factors' diagonal' rows' compliances' k' left' Y' Z' until' k m less d r)
        | inr m ↦ elim (cases_lt k' k) [
          | inl o ↦ absurd (reduced_not n up R L L' D D' J J' mu mu' regular factors diagonal rows compliances k left Y Z until k' o less' e r')
          | inr o ↦
              let s : k' ≡ k = omega arith in
              row_refusal n up regular L L' D D' factors (J (suc k)) (J' (suc k)) (rows (suc k) (record { from = omega arith; to = omega arith })) (suc k) d e r
              (subst (λ c. IsRowRefused n up L' D' (J' (suc c)) (suc c) e) s r')
        ]
      ]
  refusal d e (by_row k left Y Z less until r) (by_entry left' Y' Z' q' r' h' i' j' until' refused' named') =
      absurd (reduced_not n up R L' L D' D J' J mu' mu regular factors' diagonal' rows' compliances' R left' Y' Z' h' k less less d r)
  refusal d e (by_row k left Y Z less until r) (by_elimination left' Y' Z' alone' G' k' table' l' C' h' c' less' until' r') =
      absurd (reduced_not n up R L' L D' D J' J mu' mu regular factors' diagonal' rows' compliances' R left' Y' Z' h' k less less d r)
  refusal d e (by_entry left Y Z q r h i j until refused named) (by_row k' left' Y' Z' less' until' r') =
      absurd (reduced_not n up R L L' D D' J J' mu mu' regular factors diagonal rows compliances R left Y Z h k' less' less' e r')
  refusal d e (by_entry left Y Z q r h i j until refused named) (by_entry left' Y' Z' q' r' h' i' j' until' refused' named') =
      let fine : StandsBefore q r q' r' → ⊥ = λ b.
      (let v = until' q r i j b in
      entries_not n up R L' L D' D J' J mu' mu regular factors' diagonal' rows' compliances' left' left Y' Z' Y Z h' h q r v.0 i j v.1 refused) in
      let fine' : StandsBefore q' r' q r → ⊥ = λ b.
      (let v = until q' r' i' j' b in
      entries_not n up R L L' D D' J J' mu mu' regular factors diagonal rows compliances left left' Y Z Y' Z' h h' q' r' v.0 i' j' v.1 refused') in
      elim (cases_lt q q') [
        | inl m ↦ absurd (fine (inl m))
        | inr m ↦ elim (cases_lt q' q) [
          | inl o ↦ absurd (fine' (inl o))
          | inr o ↦
              let s : q ≡ q' = omega arith in
              elim (cases_lt r r') [
                | inl a ↦ absurd (fine (inr (s, a)))
                | inr a ↦ elim (cases_lt r' r) [
                  | inl b ↦ absurd (fine' (inr (sym s, b)))
                  | inr b ↦ let t : r ≡ r' = omega arith in named ∙ ap₂ (λ x y. Size (two K.G x y)) s t ∙ sym named'
                ]
              ]
        ]
      ]
  refusal d e (by_entry left Y Z q r h i j until refused named) (by_elimination left' Y' Z' alone' G' k' table' l' C' h' c' less' until' r') =
      absurd
      (entries_not n up R L' L D' D J' J mu' mu regular factors' diagonal' rows' compliances' left' left Y' Z' Y Z h' h q r (G' q r) i j (entry_of n up R Y' Z' mu' alone' G' c' q r i j) refused)
  refusal d e (by_elimination left Y Z alone G k table l C h c less until r) (by_row k' left' Y' Z' less' until' r') =
      absurd (reduced_not n up R L L' D D' J J' mu mu' regular factors diagonal rows compliances R left Y Z h k' less' less' e r')
  refusal d e (by_elimination left Y Z alone G k table l C h c less until r) (by_entry left' Y' Z' q' r' h' i' j' until' refused' named') =
      absurd
      (entries_not n up R L L' D D' J J' mu mu' regular factors diagonal rows compliances left left' Y Z Y' Z' h h' q' r' (G q' r') i' j' (entry_of n up R Y Z mu alone G c q' r' i' j') refused')
  refusal d e (by_elimination left Y Z alone G k table l C h c less until r) (by_elimination left' Y' Z' alone' G' k' table' l' C' h' c' less' until' r') =
      let start : (q t : ℕ) → IsRow R q → IsRow q t → G q t ≡ G' q t =
      coupling_same n up R L L' D D' J J' mu mu' regular factors diagonal rows compliances left left' Y Z Y' Z' h h' alone alone' G G' c c' in
      let start' : (q t : ℕ) → IsRow R q → IsRow q t → G' q t ≡ G q t = λ q t i j. sym (start q t i j) in
      elim (cases_lt k k') [
        | inl m ↦ absurd (done_not R G' G start' k' k table' table l' l C' C until' until m less d r)
        | inr m ↦ elim (cases_lt k' k) [
          | inl o ↦ absurd (done_not R G G' start k k' table table' l l' C C' until until' o less' e r')
          | inr o ↦
              let s : k' ≡ k = omega arith in
              elimination_refusal R (suc k) (omega arith) (omega arith) (table k) (table' k) (tables_same R G G' start k k' table table' l l' C C' until until' k (omega arith) (omega arith) (omega arith))
              (tables_same R G' G start' k' k table' table l' l C' C until' until k (omega arith) (omega arith) (omega arith)) d e r
              (subst (λ x. IsEliminationRefused R (suc x) (table' x) e) s r')
        ]
      ]

pub coupling_is_one : CouplingIsOne
unfolding rows_same intervals_same
coupling_is_one n up R L L' D D' J J' mu mu' regular factors diagonal rows compliances =
    let met = row_factors_met rows_same R n up regular L D L' D' factors diagonal J mu in
    record {
      rows = λ Y Y' l l' C C' h h'. (met Y l C J' mu' Y' l' C' h h' rows compliances).rows;
      quotients = λ Y Y' l l' C C' h h'. (met Y l C J' mu' Y' l' C' h h' rows compliances).quotients;
      pivots = λ Y Y' l l' C C' h h'. (met Y l C J' mu' Y' l' C' h h' rows compliances).pivots;
      either = either n up R L L' D D' J J' mu mu' regular factors diagonal rows compliances;
      refusal = refusal n up R L L' D D' J J' mu mu' regular factors diagonal rows compliances;
    }
