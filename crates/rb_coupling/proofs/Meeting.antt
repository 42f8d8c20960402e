-- The rows over two kinds of numbers that are related, as fractions and the intervals that they lie in: what is found stays related.
use Rattle.std.proofs.Common.{◌≡◌, inl, inr, ℕ, zero, suc, ◌+◌, ◌-◌, ◌<◌, ◌≤◌, subst, arith}
use Rattle.std.proofs.lemmas.Bool.{cases_lt}
use Rattle.rb_elimination.specs.Paths.{IsColumn, IsRegular, IsAncestor}
use Rattle.rb_elimination.proofs.Related.{StepsRelate, reduced_met, substituted_met}
use Rattle.rb_bordered.specs.Steps.{RowSteps, IsRow}
use Rattle.rb_bordered.specs.Coupling.{AreRowsReduced, AreCoupled}
use Rattle.rb_bordered.specs.Elimination.{AreEliminated}
use Rattle.rb_bordered.specs.Forces.{IsRightReduced, IsRightDivided, AreForces, AreRowSides, AreForcesAdded, HaveRowFactors, AreForcesFound, IsFoundWithForces}

-- a relation that the steps and the sums of both kinds keep
pub record RowStepsRelate {A B : Type 0} (s : RowSteps A) (t : RowSteps B) : Type 1 where
  pub base : StepsRelate s.steps t.steps
  pub products : (n : ℕ) (a b : ℕ → A) (x : A) (a' b' : ℕ → B) (x' : B) → s.IsSumOfProducts n a b x → t.IsSumOfProducts n a' b' x' →
      ((c : ℕ) → IsColumn n c → base.rel (a c) (a' c)) → ((c : ℕ) → IsColumn n c → base.rel (b c) (b' c)) → base.rel x x'
  pub sum : (a b x : A) (a' b' x' : B) → s.IsSum a b x → t.IsSum a' b' x' → base.rel a a' → base.rel b b' → base.rel x x'
  pub negative : (a x : A) (a' x' : B) → s.IsNegative a x → t.IsNegative a' x' → base.rel a a' → base.rel x x'

module _ {A B : Type 0} {s : RowSteps A} {t : RowSteps B} (K : RowStepsRelate s t) (R : ℕ) where
  abbrev NumbersMet : ℕ → (ℕ → A) → (ℕ → B) → Type 0
  NumbersMet n a b = (c : ℕ) → IsColumn n c → K.base.rel (a c) (b c)

  -- ---- the elimination
  module _ (G : ℕ → ℕ → A) (table : ℕ → ℕ → ℕ → A) (l : ℕ → ℕ → A) (C : ℕ → A) (G' : ℕ → ℕ → B) (table' : ℕ → ℕ → ℕ → B) (l' : ℕ → ℕ → B) (C' : ℕ → B)
      (h : AreEliminated s R G table l C) (h' : AreEliminated t R G' table' l' C')
      (start : (q r : ℕ) → IsRow R q → IsRow q r → K.base.rel (G q r) (G' q r)) where
    abbrev TableMet : ℕ → Type 0
    TableMet r = (q u : ℕ) → r < u → u ≤ q → q ≤ R → K.base.rel (table r q u) (table' r q u)

    pivot_at : (r : ℕ) → r < R → TableMet r → K.base.rel (C (suc r)) (C' (suc r))
    pivot_at r m g = K.base.equal _ _ _ _ (h.pivots r m) (h'.pivots r m) (g (suc r) (suc r) (omega arith) (omega arith) m)

    quotient_at : (r q : ℕ) → suc r < q → q ≤ R → TableMet r → K.base.rel (l q (suc r)) (l' q (suc r))
    quotient_at r q m k g =
        K.base.quotient _ _ _ _ _ _ (h.quotients r q m k) (h'.quotients r q m k) (g q (suc r) (omega arith) (omega arith) k) (pivot_at r (omega arith) g)

    table_met : (r : ℕ) → r ≤ R → TableMet r
    table_met zero m q u low mid high =
        let row : IsRow R q = record { from = omega arith; to = high } in
        let entry : IsRow q u = record { from = low; to = mid } in
        K.base.equal _ _ _ _ (h.first q u row entry) (h'.first q u row entry) (start q u row entry)
    table_met (suc r) m q u low mid high =
        let g : TableMet r = table_met r (omega arith) in
        K.base.lessened _ _ _ _ _ _ _ _ (h.updates r q u low mid high) (h'.updates r q u low mid high) (g q u (omega arith) mid high) (quotient_at r q (omega arith) high g)
        (g u (suc r) (omega arith) (omega arith) (omega arith))

    pub pivots_met : NumbersMet R C C'
    pivots_met zero i = absurd (omega (arith, i.from))
    pivots_met (suc r) i = pivot_at r (omega (arith, i.to)) (table_met r (omega (arith, i.to)))

    pub quotients_met : (q r : ℕ) → IsRow R q → IsRow R r → r < q → K.base.rel (l q r) (l' q r)
    quotients_met q zero i j m = absurd (omega (arith, j.from))
    quotients_met q (suc r) i j m = quotient_at r q m i.to (table_met r (omega (arith, j.to)))

  -- ---- the forces by the eliminated coupling
  module _ (l : ℕ → ℕ → A) (l' : ℕ → ℕ → B) (factors : (q r : ℕ) → IsRow R q → IsRow R r → r < q → K.base.rel (l q r) (l' q r)) where
    factor : (q r : ℕ) → 1 ≤ r → r < q → q ≤ R → K.base.rel (l q r) (l' q r)
    factor q r from m to = factors q r (record { from = omega arith; to = to }) (record { from = from; to = omega arith }) m

    module _ (e : ℕ → A) (left : ℕ → ℕ → A) (reduced : ℕ → A) (e' : ℕ → B) (left' : ℕ → ℕ → B) (reduced' : ℕ → B)
        (h : IsRightReduced s R l e left reduced) (h' : IsRightReduced t R l' e' left' reduced') (start : NumbersMet R e e') where
      abbrev LeftMet : ℕ → Type 0
      LeftMet r = (q : ℕ) → r < q → q ≤ R → K.base.rel (left r q) (left' r q)

      reduced_at : (r : ℕ) → r < R → LeftMet r → K.base.rel (reduced (suc r)) (reduced' (suc r))
      reduced_at r m g = K.base.equal _ _ _ _ (h.result r m) (h'.result r m) (g (suc r) (omega arith) m)

      left_met : (r : ℕ) → r ≤ R → LeftMet r
      left_met zero m q low high =
          let row : IsRow R q = record { from = low; to = high } in
          K.base.equal _ _ _ _ (h.first q row) (h'.first q row) (start q row)
      left_met (suc r) m q low high =
          let g : LeftMet r = left_met r (omega arith) in
          K.base.lessened _ _ _ _ _ _ _ _ (h.updates r q low high) (h'.updates r q low high) (g q (omega arith) high) (factor q (suc r) (omega arith) low high)
          (reduced_at r (omega arith) g)

      pub right_reduced_met : NumbersMet R reduced reduced'
      right_reduced_met zero i = absurd (omega (arith, i.from))
      right_reduced_met (suc r) i = reduced_at r (omega (arith, i.to)) (left_met r (omega (arith, i.to)))

    module _ (divided : ℕ → A) (part : ℕ → ℕ → A) (lam : ℕ → A) (divided' : ℕ → B) (part' : ℕ → ℕ → B) (lam' : ℕ → B)
        (h : AreForces s R l divided part lam) (h' : AreForces t R l' divided' part' lam') (start : NumbersMet R divided divided') where
      module _ (r : ℕ) (row : IsRow R r) (later : (q : ℕ) → r < q → q ≤ R → K.base.rel (lam q) (lam' q)) where
        part_met : (i q : ℕ) → suc r + i ≡ q → q ≤ suc R → K.base.rel (part r q) (part' r q)
        part_met zero q e m =
            let n : suc r ≡ q = omega arith in
            subst (λ v. K.base.rel (part r v) (part' r v)) n (K.base.equal _ _ _ _ (h.first r row) (h'.first r row) (start r row))
        part_met (suc i) zero e m = absurd (omega arith)
        part_met (suc i) (suc q) e m =
            K.base.lessened _ _ _ _ _ _ _ _ (h.updates r q row (omega arith) (omega arith)) (h'.updates r q row (omega arith) (omega arith))
            (part_met i q (omega arith) (omega arith)) (factor q r row.from (omega arith) (omega arith)) (later q (omega arith) (omega arith))

        force_met : K.base.rel (lam r) (lam' r)
        force_met =
            let to : r ≤ R = row.to in
            K.base.equal _ _ _ _ (h.result r row) (h'.result r row) (part_met (R - r) (suc R) (omega arith) (omega arith))

      forces_from : (j r : ℕ) → R < r + j → IsRow R r → K.base.rel (lam r) (lam' r)
      forces_from zero r m i = absurd (omega (arith, i.to))
      forces_from (suc j) r m i = force_met r i (λ q low high. forces_from j q (omega arith) (record { from = omega arith; to = high }))

      pub forces_met : NumbersMet R lam lam'
      forces_met r i = forces_from (suc R) r (omega arith) i

    -- from a right side to the forces
    pub right_met : (C e : ℕ → A) (left : ℕ → ℕ → A) (reduced divided : ℕ → A) (part : ℕ → ℕ → A) (lam : ℕ → A)
        (C' e' : ℕ → B) (left' : ℕ → ℕ → B) (reduced' divided' : ℕ → B) (part' : ℕ → ℕ → B) (lam' : ℕ → B) →
        IsRightReduced s R l e left reduced → IsRightDivided s R C reduced divided → AreForces s R l divided part lam →
        IsRightReduced t R l' e' left' reduced' → IsRightDivided t R C' reduced' divided' → AreForces t R l' divided' part' lam' →
        NumbersMet R C C' → NumbersMet R e e' → NumbersMet R lam lam'
    right_met C e left reduced divided part lam C' e' left' reduced' divided' part' lam' a b c a' b' c' pivots start =
        forces_met divided part lam divided' part' lam' c c'
        (λ r i. K.base.quotient _ _ _ _ _ _ (b r i) (b' r i) (right_reduced_met e left reduced e' left' reduced' a a' start r i) (pivots r i))

  -- ---- between rows and columns
  module _ (n : ℕ) where
    abbrev RowsMet : (ℕ → ℕ → A) → (ℕ → ℕ → B) → Type 0
    RowsMet Y Y' = (r : ℕ) → IsRow R r → NumbersMet n (Y r) (Y' r)

    pub sides_met : (Y : ℕ → ℕ → A) (z g without total e : ℕ → A) (Y' : ℕ → ℕ → B) (z' g' without' total' e' : ℕ → B) →
        AreRowSides s n R Y z g without total e → AreRowSides t n R Y' z' g' without' total' e' → RowsMet Y Y' → NumbersMet n z z' → NumbersMet R g g' → NumbersMet R e e'
    sides_met Y z g without total e Y' z' g' without' total' e' h h' y x a r i =
        K.negative _ _ _ _ (h.negatives r i) (h'.negatives r i)
        (K.sum _ _ _ _ _ _ (h.totals r i) (h'.totals r i) (a r i) (K.products n _ _ _ _ _ _ (h.sums r i) (h'.sums r i) (y r i) x))

    pub added_met : (Y : ℕ → ℕ → A) (w lam more added : ℕ → A) (Y' : ℕ → ℕ → B) (w' lam' more' added' : ℕ → B) →
        AreForcesAdded s n R Y w lam more added → AreForcesAdded t n R Y' w' lam' more' added' → RowsMet Y Y' → NumbersMet n w w' → NumbersMet R lam lam' → NumbersMet n added added'
    added_met Y w lam more added Y' w' lam' more' added' h h' y x f c i =
        K.sum _ _ _ _ _ _ (h.totals c i) (h'.totals c i) (x c i)
        (K.products R (λ r. Y r c) lam (more c) (λ r. Y' r c) lam' (more' c) (h.sums c i) (h'.sums c i) (λ r j. y r j c i) f)

    module _ (Y Z : ℕ → ℕ → A) (mu alone : ℕ → A) (G : ℕ → ℕ → A) (Y' Z' : ℕ → ℕ → B) (mu' alone' : ℕ → B) (G' : ℕ → ℕ → B) (up : ℕ → ℕ)
        (h : AreCoupled s n up R Y Z mu alone G) (h' : AreCoupled t n up R Y' Z' mu' alone' G') (y : RowsMet Y Y') (z : RowsMet Z Z') (m : NumbersMet R mu mu') where
      own_met : (r : ℕ) → IsRow R r → K.base.rel (G r r) (G' r r)
      own_met r i =
          K.sum _ _ _ _ _ _ (h.compliant r i) (h'.compliant r i) (K.products n _ _ _ _ _ _ (h.own r i) (h'.own r i) (y r i) (z r i)) (m r i)

      pub coupled_met : (q r : ℕ) → IsRow R q → IsRow q r → K.base.rel (G q r) (G' q r)
      coupled_met q r i j =
          let there : IsRow R r = record { from = j.from; to = omega (arith, j.to, i.to) } in
          elim (cases_lt r q) [
            | inl k ↦ K.products n _ _ _ _ _ _ (h.pairs q r i there k) (h'.pairs q r i there k) (y r there) (z q i)
            | inr g ↦ let same : q ≡ r = omega (arith, j.to) in subst (λ v. K.base.rel (G q v) (G' q v)) same (own_met q i)
          ]

    -- ---- all steps
    module _ (up : ℕ → ℕ) (regular : IsRegular n up) (L : ℕ → ℕ → A) (D : ℕ → A) (L' : ℕ → ℕ → B) (D' : ℕ → B)
        (factors : (c d : ℕ) → IsColumn n c → IsAncestor up c d → K.base.rel (L c d) (L' c d)) (diagonal : NumbersMet n D D') where
      pub rows_met : (J : ℕ → ℕ → A) (left : ℕ → ℕ → ℕ → A) (Y Z : ℕ → ℕ → A) (J' : ℕ → ℕ → B) (left' : ℕ → ℕ → ℕ → B) (Y' Z' : ℕ → ℕ → B) →
          AreRowsReduced s n up R L D J left Y Z → AreRowsReduced t n up R L' D' J' left' Y' Z' → RowsMet J J' → RowsMet Y Y' × RowsMet Z Z'
      rows_met J left Y Z J' left' Y' Z' h h' j =
          let y : RowsMet Y Y' = λ r i. reduced_met K.base n up regular L L' factors (J r) (left r) (Y r) (J' r) (left' r) (Y' r) (h.reduced r i) (h'.reduced r i) (j r i) in
          (y, λ r i c k. K.base.quotient _ _ _ _ _ _ (h.divided r i c k) (h'.divided r i c k) (y r i c k) (diagonal c k))

      pub record FactorsMet (Y l : ℕ → ℕ → A) (C : ℕ → A) (Y' l' : ℕ → ℕ → B) (C' : ℕ → B) : Type 0 where
        pub rows : RowsMet Y Y'
        pub quotients : (q r : ℕ) → IsRow R q → IsRow R r → r < q → K.base.rel (l q r) (l' q r)
        pub pivots : NumbersMet R C C'

      pub row_factors_met : (J : ℕ → ℕ → A) (mu : ℕ → A) (Y l : ℕ → ℕ → A) (C : ℕ → A) (J' : ℕ → ℕ → B) (mu' : ℕ → B) (Y' l' : ℕ → ℕ → B) (C' : ℕ → B) →
          HaveRowFactors s n up R L D J mu Y l C → HaveRowFactors t n up R L' D' J' mu' Y' l' C' → RowsMet J J' → NumbersMet R mu mu' → FactorsMet Y l C Y' l' C'
      row_factors_met J mu Y l C J' mu' Y' l' C' h h' j m =
          let rows = rows_met J h.left Y h.Z J' h'.left Y' h'.Z h.reduced h'.reduced j in
          let start : (q r : ℕ) → IsRow R q → IsRow q r → K.base.rel (h.G q r) (h'.G q r) =
          coupled_met Y h.Z mu h.alone h.G Y' h'.Z mu' h'.alone h'.G up h.coupled h'.coupled rows.0 rows.1 m in
          record {
            rows = rows.0;
            quotients = quotients_met h.G h.table l C h'.G h'.table l' C' h.eliminated h'.eliminated start;
            pivots = pivots_met h.G h.table l C h'.G h'.table l' C' h.eliminated h'.eliminated start;
          }

      pub forces_found_met : (Y l : ℕ → ℕ → A) (C k g w lam : ℕ → A) (Y' l' : ℕ → ℕ → B) (C' k' g' w' lam' : ℕ → B) →
          AreForcesFound s n up R L D Y l C k g w lam → AreForcesFound t n up R L' D' Y' l' C' k' g' w' lam' → FactorsMet Y l C Y' l' C' → NumbersMet n k k' → NumbersMet R g g' →
          NumbersMet n w w' × NumbersMet R lam lam'
      forces_found_met Y l C k g w lam Y' l' C' k' g' w' lam' h h' f start a =
          let w_met : NumbersMet n w w' = reduced_met K.base n up regular L L' factors k h.left w k' h'.left w' h.reduced h'.reduced start in
          let z_met : NumbersMet n h.z h'.z = λ c i. K.base.quotient _ _ _ _ _ _ (h.divided c i) (h'.divided c i) (w_met c i) (diagonal c i) in
          let e_met : NumbersMet R h.e h'.e = sides_met Y h.z g h.without h.total h.e Y' h'.z g' h'.without h'.total h'.e h.sides h'.sides f.rows z_met a in (
            w_met,
            right_met l l' f.quotients C h.e h.row_left h.row_reduced h.row_divided h.row_part lam C' h'.e h'.row_left h'.row_reduced h'.row_divided h'.row_part lam'
                h.right_reduced h.right_divided h.forces h'.right_reduced h'.right_divided h'.forces f.pivots e_met,
          )

      pub found_with_met : (Y : ℕ → ℕ → A) (w lam x : ℕ → A) (Y' : ℕ → ℕ → B) (w' lam' x' : ℕ → B) →
          IsFoundWithForces s n up R L D Y w lam x → IsFoundWithForces t n up R L' D' Y' w' lam' x' → RowsMet Y Y' → NumbersMet n w w' → NumbersMet R lam lam' → NumbersMet n x x'
      found_with_met Y w lam x Y' w' lam' x' h h' y a f =
          let added : NumbersMet n h.added h'.added = added_met Y w lam h.more h.added Y' w' lam' h'.more h'.added h.adds h'.adds y a f in
          substituted_met K.base n up regular L L' factors h.z h.part x h'.z h'.part x' h.substituted h'.substituted
          (λ c i. K.base.quotient _ _ _ _ _ _ (h.divided c i) (h'.divided c i) (added c i) (diagonal c i))
