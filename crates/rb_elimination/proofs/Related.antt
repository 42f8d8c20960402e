-- Factors over two kinds of numbers that are related, as intervals and the fractions in them, are related, and so is what they find.
use Rattle.std.proofs.Common.{◌≡◌, ◌⊎◌, inl, inr, ℕ, zero, suc, ◌+◌, ◌-◌, ◌<◌, ◌≤◌, refl, subst, arith}
use Rattle.std.proofs.lemmas.Bool.{cases_lt}
use Rattle.rb_frac.specs.Frac.{Frac, Same}
use Rattle.rb_frac.proofs.Reduce.{same_sym, same_trans}
use Rattle.rb_frac.proofs.Rational.{mul_same}
use Rattle.rb_frac.proofs.FracLaws.{sub_same, quot_same}
use Rattle.rb_frac.specs.Frac as F
use Rattle.rb_elimination.specs.Paths.{IsColumn, IsRegular, IsAncestor, IsOn}
use Rattle.rb_elimination.specs.Factors.{Steps, fraction_steps, AreFactors}
use Rattle.rb_elimination.specs.Solving.{IsReduced, IsSubstituted, IsFound}
use Rattle.rb_elimination.specs.Laws.{FactorsAreOne}
use Rattle.rb_elimination.proofs.Paths.{is_ancestor, ancestor_on, above_ancestor, column_of, lower_of}

-- a relation that the steps of both kinds keep
pub record StepsRelate {A B : Type 0} (s : Steps A) (t : Steps B) : Type 1 where
  pub rel : A → B → Type 0
  pub equal : (x y : A) (x' y' : B) → s.Equal x y → t.Equal x' y' → rel y y' → rel x x'
  pub lessened : (a l b r : A) (a' l' b' r' : B) → s.IsLessened a l b r → t.IsLessened a' l' b' r' → rel a a' → rel l l' → rel b b' → rel r r'
  pub quotient : (a b q : A) (a' b' q' : B) → s.IsQuotient a b q → t.IsQuotient a' b' q' → rel a a' → rel b b' → rel q q'

module _ {A B : Type 0} {s : Steps A} {t : Steps B} (K : StepsRelate s t) (n : ℕ) (up : ℕ → ℕ) (regular : IsRegular n up) where
  column : (c : ℕ) → c < n → IsColumn n (suc c)
  column c l = record { from = omega arith; to = omega arith }

  from_one : (P : ℕ → Type 0) → ((c : ℕ) → c < n → P (suc c)) → (c : ℕ) → IsColumn n c → P c
  from_one P h zero k = absurd (omega (arith, k.from))
  from_one P h (suc c) k = h c (omega (arith, k.to))

  -- ---- factors
  module _ (given : ℕ → ℕ → A) (table : ℕ → ℕ → ℕ → A) (L : ℕ → ℕ → A) (D : ℕ → A) (given' : ℕ → ℕ → B) (table' : ℕ → ℕ → ℕ → B) (L' : ℕ → ℕ → B) (D' : ℕ → B)
      (h : AreFactors s n up given table L D) (h' : AreFactors t n up given' table' L' D') (start : (c d : ℕ) → IsColumn n c → IsOn up c d → K.rel (given c d) (given' c d)) where
    abbrev TableMet : ℕ → Type 0
    TableMet c = (d e : ℕ) → IsColumn c d → IsOn up d e → K.rel (table c d e) (table' c d e)

    module _ (c : ℕ) (l : c < n) (g : TableMet (suc c)) where
      last : IsColumn (suc c) (suc c)
      last = record { from = omega arith; to = omega arith }

      pivot_met : K.rel (D (suc c)) (D' (suc c))
      pivot_met = K.equal _ _ _ _ (h.pivots c l) (h'.pivots c l) (g (suc c) (suc c) last (inl refl))

      factor_met : (d : ℕ) → IsAncestor up (suc c) d → K.rel (L (suc c) d) (L' (suc c) d)
      factor_met d a = K.quotient _ _ _ _ _ _ (h.quotients c d l a) (h'.quotients c d l a) (g (suc c) d last (inr a)) pivot_met

      next_at : (d e : ℕ) → IsColumn c d → IsOn up d e → Dec (IsAncestor up (suc c) d) → K.rel (table c d e) (table' c d e)
      next_at d e k o (yes a) =
          K.lessened _ _ _ _ _ _ _ _ (h.updates c d e l a o) (h'.updates c d e l a o)
          (g d e (record { from = k.from; to = omega (arith, k.to) }) o) (factor_met d a) (g (suc c) e last (inr (ancestor_on up (suc c) d e a o)))
      next_at d e k o (no m) = K.equal _ _ _ _ (h.others c d e l k m o) (h'.others c d e l k m o) (g d e (record { from = k.from; to = omega (arith, k.to) }) o)

      next_met : TableMet c
      next_met d e k o = next_at d e k o (is_ancestor n up regular (suc c) d (column c l))

    first_met : TableMet n
    first_met d e k o = K.equal _ _ _ _ (h.first d e k o) (h'.first d e k o) (start d e k o)

    met_at : (k c : ℕ) → c + k ≡ n → TableMet c
    met_at zero c e = subst TableMet (omega (arith, e)) first_met
    met_at (suc k) c e = next_met c (omega (arith, e)) (met_at k (suc c) (omega (arith, e)))

    met_within : (c : ℕ) → c ≤ n → TableMet c
    met_within c l = met_at (n - c) c (omega arith)

    pub pivots_met : (c : ℕ) → IsColumn n c → K.rel (D c) (D' c)
    pivots_met = from_one (λ c. K.rel (D c) (D' c)) (λ c l. pivot_met c l (met_within (suc c) l))

    pub factors_met : (c d : ℕ) → IsColumn n c → IsAncestor up c d → K.rel (L c d) (L' c d)
    factors_met c d k = from_one (λ c. IsAncestor up c d → K.rel (L c d) (L' c d)) (λ c l. factor_met c l (met_within (suc c) l) d) c k

  -- ---- solutions
  module _ (L : ℕ → ℕ → A) (L' : ℕ → ℕ → B) (factors : (c d : ℕ) → IsColumn n c → IsAncestor up c d → K.rel (L c d) (L' c d)) where
    module _ (right : ℕ → A) (left : ℕ → ℕ → A) (w : ℕ → A) (right' : ℕ → B) (left' : ℕ → ℕ → B) (w' : ℕ → B)
        (h : IsReduced s n up L right left w) (h' : IsReduced t n up L' right' left' w') (start : (c : ℕ) → IsColumn n c → K.rel (right c) (right' c)) where
      abbrev LeftMet : ℕ → Type 0
      LeftMet c = (d : ℕ) → IsColumn c d → K.rel (left c d) (left' c d)

      module _ (c : ℕ) (l : c < n) (g : LeftMet (suc c)) where
        own_met : K.rel (w (suc c)) (w' (suc c))
        own_met = K.equal _ _ _ _ (h.result (suc c) (column c l)) (h'.result (suc c) (column c l)) (g (suc c) (record { from = omega arith; to = omega arith }))

        left_at : (d : ℕ) → IsColumn c d → Dec (IsAncestor up (suc c) d) → K.rel (left c d) (left' c d)
        left_at d k (yes a) =
            K.lessened _ _ _ _ _ _ _ _ (h.updates c d l a) (h'.updates c d l a) (g d (record { from = k.from; to = omega (arith, k.to) })) (factors (suc c) d (column c l) a) own_met
        left_at d k (no m) = K.equal _ _ _ _ (h.others c d l k m) (h'.others c d l k m) (g d (record { from = k.from; to = omega (arith, k.to) }))

        left_next : LeftMet c
        left_next d k = left_at d k (is_ancestor n up regular (suc c) d (column c l))

      left_first : LeftMet n
      left_first d k = K.equal _ _ _ _ (h.first d k) (h'.first d k) (start d k)

      left_met : (k c : ℕ) → c + k ≡ n → LeftMet c
      left_met zero c e = subst LeftMet (omega (arith, e)) left_first
      left_met (suc k) c e = left_next c (omega (arith, e)) (left_met k (suc c) (omega (arith, e)))

      pub reduced_met : (c : ℕ) → IsColumn n c → K.rel (w c) (w' c)
      reduced_met = from_one (λ c. K.rel (w c) (w' c)) (λ c l. own_met c l (left_met (n - suc c) (suc c) (omega arith)))

    module _ (z : ℕ → A) (part : ℕ → ℕ → A) (x : ℕ → A) (z' : ℕ → B) (part' : ℕ → ℕ → B) (x' : ℕ → B)
        (h : IsSubstituted s n up L z part x) (h' : IsSubstituted t n up L' z' part' x') (start : (c : ℕ) → IsColumn n c → K.rel (z c) (z' c)) where
      module _ (c : ℕ) (there : IsColumn n c) (below : (d : ℕ) → d < c → IsColumn n d → K.rel (x d) (x' d)) where
        climb : (k e : ℕ) → e ≤ k → (e ≡ 0) ⊎ IsAncestor up c e → K.rel (part c e) (part' c e) → K.rel (part c 0) (part' c 0)
        climb k zero l a m = m
        climb zero (suc e) l a m = absurd (omega arith)
        climb (suc k) (suc e) l (inl q) m = absurd (omega (arith, q))
        climb (suc k) (suc e) l (inr a) m =
            let own : IsColumn n (suc e) = column_of n up regular c (suc e) there a in
            let u : up (suc e) < suc e = regular (suc e) own in
            let next : (up (suc e) ≡ 0) ⊎ IsAncestor up c (up (suc e)) =
            elim (cases_lt 0 (up (suc e))) [ inl p ↦ inr (above_ancestor up c (suc e) a p) | inr g ↦ inl (omega arith) ] in
            climb k (up (suc e)) (omega arith) next
            (K.lessened _ _ _ _ _ _ _ _ (h.updates c (suc e) there a) (h'.updates c (suc e) there a) m (factors c (suc e) there a) (below (suc e) (lower_of n up regular c (suc e) there a) own))

        number_met : K.rel (x c) (x' c)
        number_met =
            let next : (up c ≡ 0) ⊎ IsAncestor up c (up c) = elim (cases_lt 0 (up c)) [ inl p ↦ inr (IsAncestor.next p) | inr g ↦ inl (omega arith) ] in
            K.equal _ _ _ _ (h.result c there) (h'.result c there)
            (climb (up c) (up c) (omega arith) next (K.equal _ _ _ _ (h.first c there) (h'.first c there) (start c there)))

      met_below : (k c : ℕ) → c < k → IsColumn n c → K.rel (x c) (x' c)
      met_below zero c l there = absurd (omega arith)
      met_below (suc k) c l there = number_met c there (λ d q k'. met_below k d (omega arith) k')

      pub substituted_met : (c : ℕ) → IsColumn n c → K.rel (x c) (x' c)
      substituted_met c there = met_below (suc c) c (omega arith) there

    pub found_met : (D right x : ℕ → A) (D' right' x' : ℕ → B) → IsFound s n up L D right x → IsFound t n up L' D' right' x'
        → ((c : ℕ) → IsColumn n c → K.rel (D c) (D' c)) → ((c : ℕ) → IsColumn n c → K.rel (right c) (right' c)) → (c : ℕ) → IsColumn n c → K.rel (x c) (x' c)
    found_met D right x D' right' x' f f' pivots start =
        substituted_met f.z f.part x f'.z f'.part x' f.substituted f'.substituted
        (λ c k. K.quotient _ _ _ _ _ _ (f.divided c k) (f'.divided c k) (reduced_met right f.left f.w right' f'.left f'.w f.reduced f'.reduced start c k) (pivots c k))

-- ---- the same numbers
pub fractions_relate : StepsRelate fraction_steps fraction_steps
fractions_relate = record {
  rel = Same;
  equal = λ x y x' y' h h' k. same_trans x y x' h (same_trans y y' x' k (same_sym x' y' h'));
  lessened = λ a l b r a' l' b' r' h h' p q k.
      same_trans r (F.sub a (F.mul l b)) r' h
      (same_trans (F.sub a (F.mul l b)) (F.sub a' (F.mul l' b')) r' (sub_same a a' (F.mul l b) (F.mul l' b') p (mul_same l l' b b' q k)) (same_sym r' (F.sub a' (F.mul l' b')) h'));
  quotient = λ a b q a' b' q' h h' p k.
      same_trans q (F.quot a b) q' h (same_trans (F.quot a b) (F.quot a' b') q' (quot_same a a' b b' p k) (same_sym q' (F.quot a' b') h'));
}

pub factors_are_one : FactorsAreOne
unfolding fractions_relate
factors_are_one n up given table L D given' table' L' D' regular h h' start = record {
  pivots = pivots_met fractions_relate n up regular given table L D given' table' L' D' h h' start;
  factors = factors_met fractions_relate n up regular given table L D given' table' L' D' h h' start;
}
