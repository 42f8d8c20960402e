-- There is one answer of the forces: the same numbers or the same refusal, and not both.
use Rattle.std.proofs.Common.{◌≡◌, inl, inr, ℕ, zero, suc, ◌+◌, ◌-◌, ◌<◌, ◌≤◌, Ok, Err, ap, sym, ◌∙◌, subst, arith}
use mathlib.Core.Path.{ap₂}
use Rattle.std.proofs.lemmas.Bool.{cases_lt}
use Rattle.rb_result.proofs.Results.{same_ok, not-both}
use Rattle.rb_num.specs.declared.interval.NumFault.TheVariants as N
use Rattle.rb_num.specs.Interval.{Interval}
use Rattle.rb_num.specs.Refusing.{iv_div}
use Rattle.rb_work.specs.declared.names.NameKind.TheVariants as K
use Rattle.rb_work.specs.declared.names.RowFault.{RowFault}
use Rattle.rb_work.specs.declared.names.RowFault.TheVariants.{Size}
use Rattle.rb_work.specs.Names.{one}
use Rattle.rb_factor.specs.Steps.{lessened}
use Rattle.rb_factor.specs.Laws.{SameNumbers}
use Rattle.rb_factor.proofs.Relations.{intervals_same}
use Rattle.rb_bordered.specs.Steps.{IsRow}
use Rattle.rb_bordered.specs.Forces.{IsRightReduced, IsRightDivided, AreForces}
use Rattle.rb_coupling.specs.Steps.{interval_row_steps}
use Rattle.rb_coupling.specs.Forces.{IsRightReducedUntil, AreForcesAbove, IsForceRefused, by_reduce, by_divide, by_force}
use Rattle.rb_coupling.specs.Laws.{SameQuotients, ForcesAreOne}
use Rattle.rb_coupling.proofs.Meeting.{right_reduced_met, right_met}
use Rattle.rb_coupling.proofs.Enclosing.{rows_same}

taken_back : (R : ℕ) (l : ℕ → ℕ → Interval) (e : ℕ → Interval) (left : ℕ → ℕ → Interval) (reduced : ℕ → Interval) → IsRightReduced interval_row_steps R l e left reduced
    → IsRightReducedUntil R R l e left
taken_back R l e left reduced h = record {
  first = h.first;
  updates = λ r q m low high. ap (λ x. lessened (left r q) (l q (suc r)) x) (sym (h.result r m)) ∙ h.updates r q low high;
}

all_above : (R : ℕ) (l : ℕ → ℕ → Interval) (divided : ℕ → Interval) (part : ℕ → ℕ → Interval) (lam : ℕ → Interval) → AreForces interval_row_steps R l divided part lam
    → AreForcesAbove 0 R l divided part lam
all_above R l divided part lam h = record {
  first = λ r low high. h.first r (record { from = low; to = high });
  result = λ r low high. h.result r (record { from = low; to = high });
  updates = λ r q low mid high. h.updates r q (record { from = low; to = omega arith }) mid high;
}

module _ (R : ℕ) (l l' : ℕ → ℕ → Interval) (factors : SameQuotients R l l') where
  factor : (q r : ℕ) → 1 ≤ r → r < q → q ≤ R → l q r ≡ l' q r
  factor q r from less to = factors q r (record { from = omega arith; to = to }) (record { from = from; to = omega arith }) less

  -- ---- the rows are taken
  module _ (e e' : ℕ → Interval) (start : SameNumbers R e e') (k k' : ℕ) (left left' : ℕ → ℕ → Interval)
      (h : IsRightReducedUntil k R l e left) (h' : IsRightReducedUntil k' R l' e' left') where
    abbrev LeftSame : ℕ → Type 0
    LeftSame c = (q : ℕ) → c < q → q ≤ R → left c q ≡ left' c q

    step_same : (c : ℕ) → LeftSame c → (q : ℕ) → suc c < q → q ≤ R → lessened (left c q) (l q (suc c)) (left c (suc c)) ≡ lessened (left' c q) (l' q (suc c)) (left' c (suc c))
    step_same c g q low high =
        ap (λ x. lessened x (l q (suc c)) (left c (suc c))) (g q (omega arith) high)
        ∙ ap (λ x. lessened (left' c q) x (left c (suc c))) (factor q (suc c) (omega arith) low high)
        ∙ ap (λ x. lessened (left' c q) (l' q (suc c)) x) (g (suc c) (omega arith) (omega arith))

    lefts_same : (c : ℕ) → c ≤ k → c ≤ k' → LeftSame c
    lefts_same zero m m' q low high =
        let row : IsRow R q = record { from = low; to = high } in
        h.first q row ∙ start q row ∙ sym (h'.first q row)
    lefts_same (suc c) m m' q low high =
        same_ok (left (suc c) q) (left' (suc c) q)
        (sym (h.updates c q (omega arith) low high) ∙ step_same c (lefts_same c (omega arith) (omega arith)) q low high ∙ h'.updates c q (omega arith) low high)

    -- a row that is taken from one is not refused in the other
    taken_not : k' < k → (q : ℕ) → suc k' < q → q ≤ R → lessened (left' k' q) (l' q (suc k')) (left' k' (suc k')) ≡ Err N.Size → ⊥
    taken_not less q low high r =
        not-both (lessened (left' k' q) (l' q (suc k')) (left' k' (suc k'))) (left (suc k') q) N.Size
        (sym (step_same k' (lefts_same k' (omega arith) (omega arith)) q low high) ∙ h.updates k' q less low high) r

  -- ---- what is left of a row, later row by later row
  module _ (r : ℕ) (from : 1 ≤ r) (lam lam' own own' : ℕ → Interval) (first : own (suc r) ≡ own' (suc r)) (later : (q : ℕ) → r < q → q ≤ R → lam q ≡ lam' q) where
    turn_same : (q : ℕ) → r < q → q ≤ R → own q ≡ own' q → lessened (own q) (l q r) (lam q) ≡ lessened (own' q) (l' q r) (lam' q)
    turn_same q low high s =
        ap (λ x. lessened x (l q r) (lam q)) s
        ∙ ap (λ x. lessened (own' q) x (lam q)) (factor q r from low high)
        ∙ ap (λ x. lessened (own' q) (l' q r) x) (later q low high)

    own_same : (end : ℕ) → end ≤ suc R → ((q : ℕ) → r < q → q < end → lessened (own q) (l q r) (lam q) ≡ Ok (own (suc q))) →
        ((q : ℕ) → r < q → q < end → lessened (own' q) (l' q r) (lam' q) ≡ Ok (own' (suc q))) → (i q : ℕ) → suc r + i ≡ q → q ≤ end → own q ≡ own' q
    own_same end most steps steps' zero q e m = let n : suc r ≡ q = omega arith in subst (λ v. own v ≡ own' v) n first
    own_same end most steps steps' (suc i) zero e m = absurd (omega arith)
    own_same end most steps steps' (suc i) (suc q) e m =
        same_ok (own (suc q)) (own' (suc q))
        (sym (steps q (omega arith) (omega arith))
        ∙ turn_same q (omega arith) (omega arith) (own_same end most steps steps' i q (omega arith) (omega arith))
        ∙ steps' q (omega arith) (omega arith))

  module _ (divided divided' : ℕ → Interval) (start : SameNumbers R divided divided') (k k' : ℕ) (part part' : ℕ → ℕ → Interval) (lam lam' : ℕ → Interval)
      (h : AreForcesAbove k R l divided part lam) (h' : AreForcesAbove k' R l' divided' part' lam') where
    forces_from : (j r : ℕ) → R < r + j → k < r → k' < r → r ≤ R → lam r ≡ lam' r
    forces_from zero r m a b to = absurd (omega arith)
    forces_from (suc j) r m a b to =
        let row : IsRow R r = record { from = omega arith; to = to } in
        h.result r a to
        ∙ own_same r (omega arith) lam lam' (part r) (part' r) (h.first r a to ∙ start r row ∙ sym (h'.first r b to))
        (λ q low high. forces_from j q (omega arith) (omega arith) (omega arith) high) (suc R) (omega arith)
        (λ q low high. h.updates r q a low (omega arith)) (λ q low high. h'.updates r q b low (omega arith)) (R - r) (suc R) (omega arith) (omega arith)
        ∙ sym (h'.result r b to)

  -- a force that is found from one is not refused in the other
  force_not : (divided divided' : ℕ → Interval) → SameNumbers R divided divided' → (k k' : ℕ) (part part' : ℕ → ℕ → Interval) (lam lam' own : ℕ → Interval) →
      AreForcesAbove k R l divided part lam → AreForcesAbove (suc k') R l' divided' part' lam' → k ≤ k' → k' < R → own (suc (suc k')) ≡ divided' (suc k') →
      (q : ℕ) → suc k' < q → q ≤ R → ((p : ℕ) → suc k' < p → p < q → lessened (own p) (l' p (suc k')) (lam' p) ≡ Ok (own (suc p))) →
      lessened (own q) (l' q (suc k')) (lam' q) ≡ Err N.Size → ⊥
  force_not divided divided' start k k' part part' lam lam' own h h' order less first q low high near refused =
      let row : IsRow R (suc k') = record { from = omega arith; to = omega arith } in
      let begin : part (suc k') (suc (suc k')) ≡ own (suc (suc k')) = h.first (suc k') (omega arith) (omega arith) ∙ start (suc k') row ∙ sym first in
      let later : (p : ℕ) → suc k' < p → p ≤ R → lam p ≡ lam' p =
      λ p a b. forces_from divided divided' start k (suc k') part part' lam lam' h h' (suc R) p (omega arith) (omega arith) a b in
      let same : part (suc k') q ≡ own q =
      own_same (suc k') (omega arith) lam lam' (part (suc k')) own begin later q (omega arith)
      (λ p a b. h.updates (suc k') p (omega arith) a (omega arith)) near (q - suc (suc k')) q (omega arith) (omega arith) in
      not-both (lessened (own q) (l' q (suc k')) (lam' q)) (part (suc k') (suc q)) N.Size
      (sym (turn_same (suc k') (omega arith) lam lam' (part (suc k')) own begin later q low high same) ∙ h.updates (suc k') q (omega arith) low high) refused

  -- ---- all three steps
  module _ (C C' e e' : ℕ → Interval) (pivots : SameNumbers R C C') (start : SameNumbers R e e') where
    reduced_same : (left left' : ℕ → ℕ → Interval) (reduced reduced' : ℕ → Interval) → IsRightReduced interval_row_steps R l e left reduced →
        IsRightReduced interval_row_steps R l' e' left' reduced' → SameNumbers R reduced reduced'
    unfolding rows_same intervals_same
    reduced_same left left' reduced reduced' a a' = right_reduced_met rows_same R l l' factors e left reduced e' left' reduced' a a' start

    quotient_same : (left left' : ℕ → ℕ → Interval) (reduced reduced' : ℕ → Interval) → IsRightReduced interval_row_steps R l e left reduced →
        IsRightReduced interval_row_steps R l' e' left' reduced' → (r : ℕ) → IsRow R r → iv_div (reduced r) (C r) ≡ iv_div (reduced' r) (C' r)
    quotient_same left left' reduced reduced' a a' r i = ap₂ iv_div (reduced_same left left' reduced reduced' a a' r i) (pivots r i)

    divided_same : (left left' : ℕ → ℕ → Interval) (reduced reduced' divided divided' : ℕ → Interval) → IsRightReduced interval_row_steps R l e left reduced →
        IsRightReduced interval_row_steps R l' e' left' reduced' → IsRightDivided interval_row_steps R C reduced divided → IsRightDivided interval_row_steps R C' reduced' divided' →
        SameNumbers R divided divided'
    divided_same left left' reduced reduced' divided divided' a a' b b' r i =
        same_ok (divided r) (divided' r) (sym (b r i) ∙ quotient_same left left' reduced reduced' a a' r i ∙ b' r i)

    reduce_not : (left : ℕ → ℕ → Interval) (reduced : ℕ → Interval) → IsRightReduced interval_row_steps R l e left reduced → (k q : ℕ) (left' : ℕ → ℕ → Interval) → k < R →
        IsRightReducedUntil k R l' e' left' → suc k < q → q ≤ R → lessened (left' k q) (l' q (suc k)) (left' k (suc k)) ≡ Err N.Size → ⊥
    reduce_not left reduced a k q left' less until low high refused =
        taken_not e e' start R k left left' (taken_back R l e left reduced a) until less q low high refused

    divide_not : (left left' : ℕ → ℕ → Interval) (reduced reduced' divided : ℕ → Interval) → IsRightReduced interval_row_steps R l e left reduced →
        IsRightReduced interval_row_steps R l' e' left' reduced' → IsRightDivided interval_row_steps R C reduced divided → (r : ℕ) → IsRow R r →
        iv_div (reduced' r) (C' r) ≡ Err N.Size → ⊥
    divide_not left left' reduced reduced' divided a a' b r i refused =
        not-both (iv_div (reduced' r) (C' r)) (divided r) N.Size (sym (quotient_same left left' reduced reduced' a a' r i) ∙ b r i) refused

    either : (left : ℕ → ℕ → Interval) (reduced divided : ℕ → Interval) (part : ℕ → ℕ → Interval) (lam : ℕ → Interval) (f : RowFault) →
        IsRightReduced interval_row_steps R l e left reduced → IsRightDivided interval_row_steps R C reduced divided → AreForces interval_row_steps R l divided part lam →
        IsForceRefused R l' C' e' f → ⊥
    either left reduced divided part lam f a b c (by_reduce k q left' less until low high near refused named) = reduce_not left reduced a k q left' less until low high refused
    either left reduced divided part lam f a b c (by_divide r left' reduced' i a' until refused named) = divide_not left left' reduced reduced' divided a a' b r i refused
    either left reduced divided part lam f a b c (by_force k q left' reduced' divided' part' lam' own a' b' less above first low high near refused named) =
        force_not divided divided' (divided_same left left' reduced reduced' divided divided' a a' b b') 0 k part part' lam lam' own (all_above R l divided part lam c) above (omega arith) less
        first q low high near refused

same_back : (n : ℕ) (v w : ℕ → Interval) → SameNumbers n v w → SameNumbers n w v
same_back n v w h c i = sym (h c i)

quotients_back : (R : ℕ) (v w : ℕ → ℕ → Interval) → SameQuotients R v w → SameQuotients R w v
quotients_back R v w h q r i j m = sym (h q r i j m)

module _ (R : ℕ) (l l' : ℕ → ℕ → Interval) (factors : SameQuotients R l l') (C C' e e' : ℕ → Interval) (pivots : SameNumbers R C C') (start : SameNumbers R e e') where
  refusal : (d f : RowFault) → IsForceRefused R l C e d → IsForceRefused R l' C' e' f → d ≡ f
  refusal d f (by_reduce k q left less until low high near refused named) (by_reduce k' q' left' less' until' low' high' near' refused' named') =
      elim (cases_lt k k') [
        | inl m ↦ absurd (taken_not R l' l (quotients_back R l l' factors) e' e (same_back R e e' start) k' k left' left until' until m q low high refused)
        | inr m ↦ elim (cases_lt k' k) [
          | inl n ↦ absurd (taken_not R l l' factors e e' start k k' left left' until until' n q' low' high' refused')
          | inr n ↦ let s : k ≡ k' = omega arith in named ∙ ap (λ c. Size (one K.e (suc c))) s ∙ sym named'
        ]
      ]
  refusal d f (by_reduce k q left less until low high near refused named) (by_divide r' left' reduced' i' a' until' refused' named') =
      absurd (reduce_not R l' l (quotients_back R l l' factors) C' C e' e (same_back R C C' pivots) (same_back R e e' start) left' reduced' a' k q left less until low high refused)
  refusal d f (by_reduce k q left less until low high near refused named) (by_force k' q' left' reduced' divided' part' lam' own' a' b' less' above' first' low' high' near' refused' named') =
      absurd (reduce_not R l' l (quotients_back R l l' factors) C' C e' e (same_back R C C' pivots) (same_back R e e' start) left' reduced' a' k q left less until low high refused)
  refusal d f (by_divide r left reduced i a until refused named) (by_reduce k' q' left' less' until' low' high' near' refused' named') =
      absurd (reduce_not R l l' factors C C' e e' pivots start left reduced a k' q' left' less' until' low' high' refused')
  refusal d f (by_divide r left reduced i a until refused named) (by_divide r' left' reduced' i' a' until' refused' named') =
      let same = quotient_same R l l' factors C C' e e' pivots start left left' reduced reduced' a a' in
      elim (cases_lt r r') [
        | inl m ↦ let p = until' r i.from m in absurd (not-both (iv_div (reduced r) (C r)) p.0 N.Size (same r i ∙ p.1) refused)
        | inr m ↦ elim (cases_lt r' r) [
          | inl n ↦ let p = until r' i'.from n in absurd (not-both (iv_div (reduced' r') (C' r')) p.0 N.Size (sym (same r' i') ∙ p.1) refused')
          | inr n ↦ let s : r ≡ r' = omega arith in named ∙ ap (λ c. Size (one K.e c)) s ∙ sym named'
        ]
      ]
  refusal d f (by_divide r left reduced i a until refused named) (by_force k' q' left' reduced' divided' part' lam' own' a' b' less' above' first' low' high' near' refused' named') =
      absurd
      (divide_not R l' l (quotients_back R l l' factors) C' C e' e (same_back R C C' pivots) (same_back R e e' start) left' left reduced' reduced divided' a' a b' r i refused)
  refusal d f (by_force k q left reduced divided part lam own a b less above first low high near refused named) (by_reduce k' q' left' less' until' low' high' near' refused' named') =
      absurd (reduce_not R l l' factors C C' e e' pivots start left reduced a k' q' left' less' until' low' high' refused')
  refusal d f (by_force k q left reduced divided part lam own a b less above first low high near refused named) (by_divide r' left' reduced' i' a' until' refused' named') =
      absurd (divide_not R l l' factors C C' e e' pivots start left left' reduced reduced' divided a a' b r' i' refused')
  refusal d f (by_force k q left reduced divided part lam own a b less above first low high near refused named) (by_force k' q' left' reduced' divided' part' lam' own' a' b' less' above' first' low' high' near' refused' named') =
      let same : SameNumbers R divided divided' = divided_same R l l' factors C C' e e' pivots start left left' reduced reduced' divided divided' a a' b b' in
      elim (cases_lt k k') [
        | inl m ↦
            absurd (force_not R l l' factors divided divided' same (suc k) k' part part' lam lam' own' above above' (omega arith) less' first' q' low' high' near' refused')
        | inr m ↦ elim (cases_lt k' k) [
          | inl n ↦
              absurd
              (force_not R l' l (quotients_back R l l' factors) divided' divided (same_back R divided divided' same) (suc k') k part' part lam' lam own above' above (omega arith) less first q low high
              near refused)
          | inr n ↦ let s : k ≡ k' = omega arith in named ∙ ap (λ c. Size (one K.lam (suc c))) s ∙ sym named'
        ]
      ]

pub forces_are_one : ForcesAreOne
unfolding rows_same intervals_same
forces_are_one R l l' C C' e e' factors pivots start = record {
  values = λ left left' reduced reduced' divided divided' part part' lam lam' a b c a' b' c'.
      right_met rows_same R l l' factors C e left reduced divided part lam C' e' left' reduced' divided' part' lam' a b c a' b' c' pivots start;
  either = either R l l' factors C C' e e' pivots start;
  refusal = refusal R l l' factors C C' e e' pivots start;
}
