-- The elimination of the packed table is that of the columns from the last on.
use Rattle.std.proofs.Common.{◌≡◌, ◌≢◌, inl, inr, ℕ, zero, suc, ◌<◌, ◌≤◌, List, length, Result, Ok, Err, ap, sym, ◌∙◌, subst, arith}
use Rattle.rb_result.proofs.Results.{then-ok, then-err}
use Rattle.rb_num.specs.declared.interval.NumFault.{NumFault}
use Rattle.rb_num.specs.Interval.{Interval}
use Rattle.rb_num.specs.Refusing.{iv_div}
use Rattle.rb_num.specs.Quotient.{HasZero}
use Rattle.rb_work.specs.declared.names.NameKind.TheVariants as K
use Rattle.rb_work.specs.declared.names.RowFault.{RowFault}
use Rattle.rb_work.specs.Names.{one, pivot_as}
use Rattle.rb_work.specs.Path.{above, Ascends, IsOn}
use Rattle.rb_work.proofs.PathLaws.{on_self}
use Rattle.rb_elimination.specs.Paths.{IsColumn, IsAncestor}
use Rattle.rb_elimination.specs.Paths as P
use Rattle.rb_elimination.specs.Factors.{AreFactors}
use Rattle.rb_factor.specs.Steps.{lessened, interval_steps, AreDivisors}
use Rattle.rb_factor.specs.Factor.{Eliminates, AreFactorsAbove, IsEntryFine, IsEntryRefused, in_quotient, in_update, IsColumnRefused, by_pivot, by_entry, IsFactorRefused}
use Rattle.rb_factor.specs.Sweeps.{entry_at, entries_of, column_step, factor_of}
use Rattle.rb_factor.proofs.Refusals.{quotient_size, pivot_told, pivot_refused}
use Rattle.rb_factor.proofs.Entries.{Fits}
use Rattle.rb_factor.proofs.Paths.{listed_ancestor, listed_on, on_listed, ancestor_listed, ancestor_least, ancestor_less}
use Rattle.rb_factor.proofs.Traces.{Descent, Stop, descends, stops, steady, descent_holds}
use Rattle.rb_factor.proofs.Factoring.{Divides, NotDivided, EntryStop, entries_fit, entries_divide, entries_stay, entries_refused}

module _ (up : List ℕ) (ascends : Ascends up) where
  -- ---- one column
  module _ (c : ℕ) (from : 1 ≤ c) (there : c ≤ length up) where
    pub record Column (s t : List Interval) : Type 0 where
      pub divisor : ¬ HasZero (entry_at up s c c)
      pub entries : entries_of up c (entry_at up s c c) s ≡ Ok t

    pub column_done : (s t : List Interval) → column_step up c s ≡ Ok t → Column s t
    unfolding column_step
    column_done s t h =
        let a = then-ok (pivot_as (one K.D c) (entry_at up s c c)) (λ p. entries_of up c p s) t h in
        let b = pivot_told (one K.D c) (entry_at up s c c) a.0 a.1 in
        record { divisor = b.0; entries = ap (λ p. entries_of up c p s) b.1 ∙ a.2 }

    pub column_fits : (s t : List Interval) → column_step up c s ≡ Ok t → Fits up s → Fits up t
    column_fits s t h f = entries_fit up ascends c (entry_at up s c c) from there s t (column_done s t h).entries f

    -- what is not in its row, nor in that of an ancestor, stays, and so does the pivot
    pub column_stays : (s t : List Interval) → column_step up c s ≡ Ok t → (x y : ℕ) → IsOn up x y → x ≢ c → ¬ IsAncestor (above up) c x → entry_at up t x y ≡ entry_at up s x y
    column_stays s t h x y j off free =
        entries_stay up ascends c (entry_at up s c c) from there x y j
        (λ d i q. free (subst (λ b. IsAncestor (above up) c b) (sym q) (ancestor_listed up ascends c d from i)))
        (λ d i q r. off (sym q)) s t (column_done s t h).entries

    pub pivot_stays : (s t : List Interval) → column_step up c s ≡ Ok t → entry_at up t c c ≡ entry_at up s c c
    pivot_stays s t h =
        let less : (d : ℕ) → IsOn up (above up c) d → d < c = λ d i. ancestor_less up ascends c d from (ancestor_listed up ascends c d from i) in
        entries_stay up ascends c (entry_at up s c c) from there c c (on_self up ascends c from)
        (λ d i q. let l : d < c = less d i in absurd (omega (arith, q, l)))
        (λ d i q r. let l : d < c = less d i in absurd (omega (arith, r, l))) s t (column_done s t h).entries

    pub column_divides : (s t : List Interval) → column_step up c s ≡ Ok t → Fits up s → (d : ℕ) → IsAncestor (above up) c d → Divides up ascends c (entry_at up s c c) from there d s t
    column_divides s t h f d a = entries_divide up ascends c (entry_at up s c c) from there s t (column_done s t h).entries f d (listed_ancestor up ascends c d from a)

    fine : (s t : List Interval) (d : ℕ) → IsAncestor (above up) c d → Divides up ascends c (entry_at up s c c) from there d s t → IsEntryFine (above up) c d (entry_at up s)
    fine s t d a h = record {
      quotient = entry_at up t c d;
      divides = h.quotient;
      updates = λ e i. (entry_at up t d e, h.updates e (listed_on up ascends d e (ancestor_least up ascends c d from a) i));
    }

    refusal : (s : List Interval) (d : ℕ) → IsAncestor (above up) c d → ¬ HasZero (entry_at up s c c)
        → NotDivided up ascends c (entry_at up s c c) from there d s → IsEntryRefused (above up) c d (entry_at up s)
    refusal s d a n (inl r) = in_quotient (quotient_size (entry_at up s c d) (entry_at up s c c) r.0 n r.1)
    refusal s d a n (inr r) = in_update r.0 r.1 r.2 (on_listed up ascends d r.1 r.3) r.4

    pub column_refused : (s : List Interval) (f : RowFault) → column_step up c s ≡ Err f → Fits up s → IsColumnRefused (above up) c (entry_at up s) f
    unfolding column_step
    column_refused s f h fit =
        elim (then-err (pivot_as (one K.D c) (entry_at up s c c)) (λ p. entries_of up c p s) f h) [
          | inl a ↦
              let b = pivot_refused (one K.D c) (entry_at up s c c) f a in
              subst (λ e. IsColumnRefused (above up) c (entry_at up s) e) b.1 (by_pivot b.0)
          | inr a ↦
              let b = pivot_told (one K.D c) (entry_at up s c c) a.0 a.1 in
              let r : EntryStop up ascends c (entry_at up s c c) from there s f =
              entries_refused up ascends c (entry_at up s c c) from there s f (ap (λ p. entries_of up c p s) b.1 ∙ a.2) fit in
              let anc : IsAncestor (above up) c r.at = ancestor_listed up ascends c r.at from r.on in
              subst (λ e. IsColumnRefused (above up) c (entry_at up s) e) r.named
              (by_entry r.at b.0 anc
              (λ b i l. let k = r.nearer b (listed_ancestor up ascends c b from i) l in fine s k.0 b i k.1)
              (refusal s r.at anc b.0 r.refused))
        ]

  -- ---- the columns from the last on
  module _ (k : ℕ) (s t : List Interval) (d : Descent (column_step up) k (length up) s t) (fit : Fits up s) where
    fits_at : (c : ℕ) → k ≤ c → c ≤ length up → Fits up (d.at c)
    fits_at c low high =
        descent_holds (column_step up) (Fits up) k (length up) s t d fit
        (λ c u v low high f h. column_fits (suc c) (omega arith) (omega arith) u v h f) c low high

    -- a row stays once it has had its turn
    row_stays : (c y : ℕ) → k ≤ c → c < length up → IsOn up (suc c) y → entry_at up t (suc c) y ≡ entry_at up (d.at c) (suc c) y
    row_stays c y low high i =
        ap (λ u. entry_at up u (suc c) y) (sym d.last)
        ∙ steady (λ m. entry_at up (d.at m) (suc c) y) k c low
        (λ m l h. column_stays (suc m) (omega arith) (omega arith) (d.at (suc m)) (d.at m) (d.each m l (omega arith)) (suc c) y i
        (λ q. absurd (omega (arith, q, h)))
        (λ a. let less : suc c < suc m = ancestor_less up ascends (suc m) (suc c) (omega arith) a in absurd (omega arith)))

    eliminates : (c : ℕ) → k ≤ c → c < length up → Eliminates (above up) (suc c) (entry_at up (d.at (suc c))) (entry_at up (d.at c)) (entry_at up t) (λ c. entry_at up t c c)
    eliminates c low high =
        let from : 1 ≤ suc c = omega arith in
        let there : suc c ≤ length up = omega arith in
        let h = d.each c low high in
        let fits : Fits up (d.at (suc c)) = fits_at (suc c) (omega arith) there in
        let ok : Interval → Result Interval NumFault = λ x. Ok x in
        let pivot : entry_at up t (suc c) (suc c) ≡ entry_at up (d.at (suc c)) (suc c) (suc c) =
        row_stays c (suc c) low high (on_self up ascends (suc c) from) ∙ pivot_stays (suc c) from there (d.at (suc c)) (d.at c) h in
        let entry : (b : ℕ) → IsAncestor (above up) (suc c) b → entry_at up t (suc c) b ≡ entry_at up (d.at c) (suc c) b =
        λ b a. row_stays c b low high (listed_on up ascends (suc c) b from (inr a)) in
        let divides : (b : ℕ) → IsAncestor (above up) (suc c) b → Divides up ascends (suc c) (entry_at up (d.at (suc c)) (suc c) (suc c)) from there b (d.at (suc c)) (d.at c) =
        λ b a. column_divides (suc c) from there (d.at (suc c)) (d.at c) h fits b a in
        record {
          pivot = pivot;
          divisor = subst (λ v. ¬ HasZero v) (sym pivot) (column_done (suc c) from there (d.at (suc c)) (d.at c) h).divisor;
          quotients = λ b a. ap (λ p. iv_div (entry_at up (d.at (suc c)) (suc c) b) p) pivot ∙ (divides b a).quotient ∙ ap ok (sym (entry b a));
          updates = λ b e a i.
              ap (λ q. lessened (entry_at up (d.at (suc c)) b e) q (entry_at up (d.at (suc c)) (suc c) e)) (entry b a)
              ∙ (divides b a).updates e (listed_on up ascends b e (ancestor_least up ascends (suc c) b from a) i);
          others = λ b e low' high' free i.
              column_stays (suc c) from there (d.at (suc c)) (d.at c) h b e (listed_on up ascends b e low' i) (λ q. absurd (omega (arith, q, high'))) free;
        }

    pub factors_above : (given : ℕ → ℕ → Interval) → ((c e : ℕ) → IsColumn (length up) c → P.IsOn (above up) c e → entry_at up s c e ≡ given c e)
        → AreFactorsAbove k (length up) (above up) given (λ c. entry_at up (d.at c)) (entry_at up t) (λ c. entry_at up t c c)
    factors_above given same = record {
      first = λ c e j i. ap (λ u. entry_at up u c e) d.first ∙ same c e j i;
      each = eliminates;
    }

  pub factors_done : (s t : List Interval) → factor_of up s ≡ Ok t → Fits up s → (given : ℕ → ℕ → Interval)
      → ((c e : ℕ) → IsColumn (length up) c → P.IsOn (above up) c e → entry_at up s c e ≡ given c e)
      → (table : ℕ → ℕ → ℕ → Interval) × AreFactorsAbove 0 (length up) (above up) given table (entry_at up t) (λ c. entry_at up t c c)
  factors_done s t h fit given same =
      let d : Descent (column_step up) 0 (length up) s t = descends (column_step up) (length up) s t h in
      (λ c. entry_at up (d.at c), factors_above 0 s t d fit given same)

  pub factors_refused : (s : List Interval) (e : RowFault) → factor_of up s ≡ Err e → Fits up s → (given : ℕ → ℕ → Interval)
      → ((c e : ℕ) → IsColumn (length up) c → P.IsOn (above up) c e → entry_at up s c e ≡ given c e) → IsFactorRefused (length up) (above up) given e
  factors_refused s e h fit given same =
      let q : Stop (column_step up) (length up) s e = stops (column_step up) (length up) s e h in
      let l : q.before < length up = q.less in
      let last : entry_at up (q.until.at (suc q.before)) ≡ entry_at up q.reached = ap (entry_at up) q.until.last in
      record {
        column = suc q.before;
        there = record { from = omega arith; to = omega arith };
        table = λ c. entry_at up (q.until.at c);
        L = entry_at up q.reached;
        D = λ c. entry_at up q.reached c c;
        until = factors_above (suc q.before) s q.reached q.until fit given same;
        refused =
            subst (λ m. IsColumnRefused (above up) (suc q.before) m e) (sym last)
            (column_refused (suc q.before) (omega arith) (omega arith) q.reached e q.refused
            (subst (λ u. Fits up u) q.until.last
            (descent_holds (column_step up) (Fits up) (suc q.before) (length up) s q.reached q.until fit
            (λ c u v low high f h. column_fits (suc c) (omega arith) (omega arith) u v h f) (suc q.before) (omega arith) (omega arith))));
      }

-- ---- all columns
module _ (n : ℕ) (up : ℕ → ℕ) (given : ℕ → ℕ → Interval) (table : ℕ → ℕ → ℕ → Interval) (L : ℕ → ℕ → Interval) (D : ℕ → Interval) where
  pub factors_of : AreFactorsAbove 0 n up given table L D → AreFactors interval_steps n up given table L D
  factors_of h = record {
    first = h.first;
    pivots = λ c l. (h.each c (omega arith) l).pivot;
    quotients = λ c d l a. (h.each c (omega arith) l).quotients d a;
    updates = λ c d e l a i. (h.each c (omega arith) l).updates d e a i;
    others = λ c d e l k free i. (h.each c (omega arith) l).others d e k.from (let to : d ≤ c = k.to in omega arith) free i;
  }

  pub divisors_of : AreFactorsAbove 0 n up given table L D → AreDivisors n D
  divisors_of h zero k = absurd (omega (arith, k.from))
  divisors_of h (suc c) k = (h.each c (omega arith) (omega (arith, k.to))).divisor

  -- factors whose pivots are without zero are those of the columns above any
  pub factors_back : (k : ℕ) → AreFactors interval_steps n up given table L D → AreDivisors n D → AreFactorsAbove k n up given table L D
  factors_back k h divisors = record {
    first = h.first;
    each = λ c low high. record {
      pivot = h.pivots c high;
      divisor = divisors (suc c) (record { from = omega arith; to = omega arith });
      quotients = λ d a. h.quotients c d high a;
      updates = λ d e a i. h.updates c d e high a i;
      others = λ d e from less free i. h.others c d e high (record { from = from; to = omega arith }) free i;
    };
  }
