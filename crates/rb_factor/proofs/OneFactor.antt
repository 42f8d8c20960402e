-- There is one answer of the factors: the same factors or the same refusal, and not both.
use Rattle.std.proofs.Common.{◌≡◌, inl, inr, ℕ, zero, suc, ◌+◌, ◌-◌, ◌<◌, ◌≤◌, Ok, refl, ap, sym, ◌∙◌, subst, arith}
use Rattle.std.proofs.lemmas.Bool.{cases_lt}
use Rattle.rb_result.proofs.Results.{same_ok, not-both}
use Rattle.rb_num.specs.declared.interval.NumFault.TheVariants as N
use Rattle.rb_num.specs.Interval.{Interval}
use Rattle.rb_num.specs.Refusing.{iv_div}
use Rattle.rb_num.specs.Quotient.{HasZero}
use Rattle.rb_work.specs.declared.names.NameKind.TheVariants as K
use Rattle.rb_work.specs.declared.names.RowFault.{RowFault}
use Rattle.rb_work.specs.declared.names.RowFault.TheVariants.{Size, Pivot}
use Rattle.rb_work.specs.Names.{one, two}
use Rattle.rb_elimination.specs.Paths.{IsColumn, IsRegular, IsAncestor, IsOn}
use Rattle.rb_elimination.specs.Factors.{AreFactors}
use Rattle.rb_elimination.proofs.Paths.{is_ancestor, ancestor_on, column_of, lower_of}
use Rattle.rb_elimination.proofs.Related.{pivots_met, factors_met}
use Rattle.rb_factor.specs.Steps.{lessened, interval_steps, AreDivisors}
use Rattle.rb_factor.specs.Factor.{Eliminates, AreFactorsAbove, IsEntryFine, IsEntryRefused, in_quotient, in_update, IsColumnRefused, by_pivot, by_entry, IsFactorRefused}
use Rattle.rb_factor.specs.Laws.{SameTables, FactorIsOne}
use Rattle.rb_factor.proofs.Eliminated.{factors_back}
use Rattle.rb_factor.proofs.Relations.{intervals_same}

module _ (n : ℕ) (up : ℕ → ℕ) (regular : IsRegular n up) where
  -- ---- one column
  module _ (c : ℕ) (there : IsColumn n c) (table other : ℕ → ℕ → Interval) (same : SameTables c up table other) where
    last : IsColumn c c
    last = record { from = there.from; to = omega arith }

    pivot : table c c ≡ other c c
    pivot = same c c last (inl refl)

    entry : (d : ℕ) → IsAncestor up c d → table c d ≡ other c d
    entry d a = same c d last (inr a)

    own : (d e : ℕ) → IsAncestor up c d → IsOn up d e → table c e ≡ other c e
    own d e a i = same c e last (inr (ancestor_on up c d e a i))

    row : (d e : ℕ) → IsAncestor up c d → IsOn up d e → table d e ≡ other d e
    row d e a i =
        let less : d < c = lower_of n up regular c d there a in
        same d e (record { from = (column_of n up regular c d there a).from; to = omega arith }) i

    -- an entry that is fine in one table is not refused in the other
    fine_not : (d : ℕ) → IsAncestor up c d → IsEntryFine up c d table → IsEntryRefused up c d other → ⊥
    fine_not d a f (in_quotient r) = not-both (iv_div (other c d) (other c c)) f.quotient N.Size (rw (← entry d a, ← pivot) f.divides) r
    fine_not d a f (in_update q e k i r) =
        let divides : iv_div (other c d) (other c c) ≡ Ok f.quotient = rw (← entry d a, ← pivot) f.divides in
        let same_quotient : f.quotient ≡ q = same_ok f.quotient q (sym divides ∙ k) in
        let u = f.updates e i in
        not-both (lessened (other d e) q (other c e)) u.0 N.Size (rw (← row d e a i, ← own d e a i, ← same_quotient) u.1) r

    refused_same : (d e : RowFault) → IsColumnRefused up c table d → IsColumnRefused up c other e → ((b : ℕ) → IsAncestor up c b → IsEntryFine up c b other → IsEntryRefused up c b table → ⊥) → d ≡ e
    refused_same d e (by_pivot z) (by_pivot y) back = ap (λ v. Pivot (one K.D c) v) pivot
    refused_same d e (by_pivot z) (by_entry b m i near r) back = absurd (m (subst (λ v. HasZero v) pivot z))
    refused_same d e (by_entry b m i near r) (by_pivot z) back = absurd (m (subst (λ v. HasZero v) (sym pivot) z))
    refused_same d e (by_entry b m i near r) (by_entry a k j nearer q) back =
        elim (cases_lt b a) [
          | inl l ↦ absurd (fine_not a j (near a j l) q)
          | inr g ↦ elim (cases_lt a b) [
            | inl l ↦ absurd (back b i (nearer b i l) r)
            | inr h ↦ let s : b ≡ a = omega arith in ap (λ t. Size (two K.L c t)) s
          ]
        ]

    -- a column that is eliminated from one is not refused in the other
    fine_of : (left : ℕ → ℕ → Interval) (L : ℕ → ℕ → Interval) (D : ℕ → Interval) → Eliminates up c table left L D → (d : ℕ) → IsAncestor up c d → IsEntryFine up c d table
    fine_of left L D h d a = record {
      quotient = L c d;
      divides = ap (λ p. iv_div (table c d) p) (sym h.pivot) ∙ h.quotients d a;
      updates = λ e i. (left d e, h.updates d e a i);
    }

    eliminated_not : (left : ℕ → ℕ → Interval) (L : ℕ → ℕ → Interval) (D : ℕ → Interval) → Eliminates up c table left L D → (e : RowFault) → IsColumnRefused up c other e → ⊥
    eliminated_not left L D h e (by_pivot z) = h.divisor (subst (λ v. HasZero v) (sym (h.pivot ∙ pivot)) z)
    eliminated_not left L D h e (by_entry d m a near r) = fine_not d a (fine_of left L D h d a) r

    -- what is left of the two is the same
    module _ (left : ℕ → ℕ → Interval) (L : ℕ → ℕ → Interval) (D : ℕ → Interval) (h : Eliminates up c table left L D)
        (left' : ℕ → ℕ → Interval) (L' : ℕ → ℕ → Interval) (D' : ℕ → Interval) (h' : Eliminates up c other left' L' D') where
      factor_same : (d : ℕ) → IsAncestor up c d → L c d ≡ L' c d
      factor_same d a = same_ok (L c d) (L' c d) (sym (h.quotients d a) ∙ rw (h.pivot, entry d a, pivot, ← h'.pivot) (h'.quotients d a))

      left_at : (d e : ℕ) → 1 ≤ d → d < c → IsOn up d e → Dec (IsAncestor up c d) → left d e ≡ left' d e
      left_at d e from less i (yes a) =
          same_ok (left d e) (left' d e) (sym (h.updates d e a i) ∙ rw (row d e a i, own d e a i, factor_same d a) (h'.updates d e a i))
      left_at d e from less i (no m) = h.others d e from less m i ∙ same d e (record { from = from; to = omega arith }) i ∙ sym (h'.others d e from less m i)

      pub left_same : (d e : ℕ) → 1 ≤ d → d < c → IsOn up d e → left d e ≡ left' d e
      left_same d e from less i = left_at d e from less i (is_ancestor n up regular c d there)

  -- ---- all columns above a number
  module _ (given given' : ℕ → ℕ → Interval) (start : SameTables n up given given') (k k' : ℕ)
      (table table' : ℕ → ℕ → ℕ → Interval) (L L' : ℕ → ℕ → Interval) (D D' : ℕ → Interval)
      (h : AreFactorsAbove k n up given table L D) (h' : AreFactorsAbove k' n up given' table' L' D') where
    tables_same : (j c : ℕ) → c + j ≡ n → k ≤ c → k' ≤ c → SameTables c up (table c) (table' c)
    tables_same zero c e low low' =
        let q : n ≡ c = omega arith in
        subst (λ m. SameTables m up (table m) (table' m)) q (λ d e i o. h.first d e i o ∙ start d e i o ∙ sym (h'.first d e i o))
    tables_same (suc j) c e low low' =
        let l : c < n = omega arith in
        let next : SameTables (suc c) up (table (suc c)) (table' (suc c)) = tables_same j (suc c) (omega arith) (omega arith) (omega arith) in
        λ d b i o.
        let to : d ≤ c = i.to in
        left_same (suc c) (record { from = omega arith; to = omega arith }) (table (suc c)) (table' (suc c)) next (table c) L D (h.each c low l) (table' c) L' D' (h'.each c low' l)
        d b i.from (omega arith) o

    pub tables_at : (c : ℕ) → c ≤ n → k ≤ c → k' ≤ c → SameTables c up (table c) (table' c)
    tables_at c high low low' = tables_same (n - c) c (omega arith) low low'

    -- a column that is done in one is not refused in the other, which has come to it
    pub done_not : (e : RowFault) → k < k' → IsColumn n k' → IsColumnRefused up k' (table' k') e → ⊥
    done_not e less there r = at k' less there (tables_at k' there.to (omega arith) (omega arith)) r
      where
        at : (m : ℕ) → k < m → IsColumn n m → SameTables m up (table m) (table' m) → IsColumnRefused up m (table' m) e → ⊥
        at zero l i same r = absurd (omega arith)
        at (suc m) l i same r = eliminated_not (suc m) i (table (suc m)) (table' (suc m)) same (table m) L D (h.each m (omega arith) (omega (arith, i.to))) e r

same_sym : (n : ℕ) (up : ℕ → ℕ) (v w : ℕ → ℕ → Interval) → SameTables n up v w → SameTables n up w v
same_sym n up v w h c d i o = sym (h c d i o)

module _ (n : ℕ) (up : ℕ → ℕ) (regular : IsRegular n up) (given given' : ℕ → ℕ → Interval) (start : SameTables n up given given') where
  refusal_same : (d e : RowFault) → IsFactorRefused n up given d → IsFactorRefused n up given' e → d ≡ e
  refusal_same d e f g =
      elim (cases_lt f.column g.column) [
        | inl l ↦ absurd (done_not n up regular given given' start f.column g.column f.table g.table f.L g.L f.D g.D f.until g.until e l g.there g.refused)
        | inr m ↦ elim (cases_lt g.column f.column) [
          | inl l ↦
              absurd
              (done_not n up regular given' given (same_sym n up given given' start) g.column f.column g.table f.table g.L f.L g.D f.D g.until f.until d l f.there f.refused)
          | inr k ↦
              let q : g.column ≡ f.column = omega arith in
              let same : SameTables f.column up (f.table f.column) (g.table f.column) =
              tables_at n up regular given given' start f.column g.column f.table g.table f.L g.L f.D g.D f.until g.until f.column f.there.to (omega arith) (omega arith) in
              refused_same n up regular f.column f.there (f.table f.column) (g.table f.column) same d e f.refused
              (subst (λ c. IsColumnRefused up c (g.table c) e) q g.refused)
              (λ b i v r. fine_not n up regular f.column f.there (g.table f.column) (f.table f.column) (same_sym f.column up (f.table f.column) (g.table f.column) same) b i v r)
        ]
      ]

  either : (table : ℕ → ℕ → ℕ → Interval) (L : ℕ → ℕ → Interval) (D : ℕ → Interval) (e : RowFault) →
      AreFactors interval_steps n up given table L D → AreDivisors n D → IsFactorRefused n up given' e → ⊥
  either table L D e h divisors g =
      done_not n up regular given given' start 0 g.column table g.table L g.L D g.D (factors_back n up given table L D 0 h divisors) g.until e (omega (arith, g.there.from)) g.there g.refused

pub factor_is_one : FactorIsOne
unfolding intervals_same
factor_is_one n up given given' regular start = record {
  factors = λ table table' L L' D D' h h'. factors_met intervals_same n up regular given table L D given' table' L' D' h h' start;
  pivots = λ table table' L L' D D' h h'. pivots_met intervals_same n up regular given table L D given' table' L' D' h h' start;
  either = either n up regular given given' start;
  refusal = refusal_same n up regular given given' start;
}
