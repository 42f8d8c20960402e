-- What the elimination of the rows leaves, and what is refused first.
use Rattle.std.proofs.Common.{◌≡◌, ◌≢◌, ℕ, zero, suc, ◌+◌, ◌<◌, ◌≤◌, List, length, slice_set, Result, Ok, Err, inl, inr, refl, ap, sym, ◌∙◌, subst, arith}
use Rattle.rb_result.specs.Steps.{◌>>=◌}
use Rattle.rb_result.proofs.Results.{then-ok, then-err}
use Rattle.rb_num.specs.declared.interval.NumFault.{NumFault}
use Rattle.rb_num.specs.declared.interval.NumFault.TheVariants as N
use Rattle.rb_num.specs.Interval.{Interval, negative_of}
use Rattle.rb_num.specs.Refusing.{iv_div}
use Rattle.rb_num.specs.Quotient.{HasZero}
use Rattle.rb_sweep.specs.Sweep.{upward}
use Rattle.rb_sweep.proofs.SweepLaws.{in_upward}
use Rattle.rb_work.specs.declared.names.NameKind.TheVariants as K
use Rattle.rb_work.specs.declared.names.RowFault.{RowFault}
use Rattle.rb_work.specs.declared.names.RowFault.TheVariants.{Size}
use Rattle.rb_work.specs.Names.{one, two, pivot_as}
use Rattle.rb_factor.specs.Steps.{lessened, AreDivisors}
use Rattle.rb_factor.proofs.Refusals.{made, not_made, product_size, quotient_size, pivot_told, pivot_refused}
use Rattle.rb_factor.proofs.Traces.{Ascent, rises, steady, ascent_holds}
use Rattle.rb_factor.proofs.Traces as T
use Rattle.rb_bordered.specs.Elimination.{AreEliminated}
use Rattle.rb_coupling.specs.Steps.{interval_row_steps}
use Rattle.rb_coupling.specs.Couple.{StandsBefore, EliminatesRow, AreEliminatedUntil, IsEliminationRefused, by_pivot, by_quotient, by_update}
use Rattle.rb_coupling.specs.Sweeps.{place_of, cell_at, quotient_step, quotients_of, update_step, update_row_step, updates_of, eliminate_step, eliminated_of}
use Rattle.rb_coupling.proofs.Cells.{Fits, cell_same, cell_other, long_put}
use Rattle.rb_coupling.proofs.Alone.{Apart, all_done, stopped}
use Rattle.rb_coupling.proofs.Lines.{keeps_over}

module _ (room R r : ℕ) (within : R ≤ room) (from : 1 ≤ r) (to : r ≤ R) where
  -- ---- the quotients of the column by the pivot p; column 0 keeps what it was
  module _ (p : Interval) where
    abbrev put_quotient : ℕ → List Interval → Interval → List Interval
    put_quotient q s v = slice_set (slice_set s (place_of room q 0) (cell_at room s q r)) (place_of room q r) v

    quotient_told : (q : ℕ) (s t : List Interval) → quotient_step room r p q s ≡ Ok t → (v : Interval) × (iv_div (cell_at room s q r) p ≡ Ok v) × (put_quotient q s v ≡ t)
    unfolding quotient_step
    quotient_told q s t h = made (two K.l q r) (iv_div (cell_at room s q r) p) (λ v. put_quotient q s v) t h

    quotient_failed : (q : ℕ) (s : List Interval) (e : RowFault) → quotient_step room r p q s ≡ Err e → (f : NumFault) × (iv_div (cell_at room s q r) p ≡ Err f) × (Size (two K.l q r) ≡ e)
    unfolding quotient_step
    quotient_failed q s e h = not_made (two K.l q r) (iv_div (cell_at room s q r) p) (λ v. put_quotient q s v) e h

    put_long : (q : ℕ) (s : List Interval) (v : Interval) → length s ≡ length (put_quotient q s v)
    put_long q s v =
        long_put s (place_of room q 0) (cell_at room s q r) ∙ long_put (slice_set s (place_of room q 0) (cell_at room s q r)) (place_of room q r) v

    put_other : (q : ℕ) (s : List Interval) (v : Interval) (a b : ℕ) → b ≤ R → (a ≡ q → b ≡ 0 → ⊥) → (a ≡ q → b ≡ r → ⊥) → cell_at room s a b ≡ cell_at room (put_quotient q s v) a b
    put_other q s v a b l m k =
        sym (cell_other room (slice_set s (place_of room q 0) (cell_at room s q r)) q r v a b (omega arith) (omega arith) k ∙ cell_other room s q 0 (cell_at room s q r) a b (omega arith) (omega arith) m)

    put_quotient_is : (q : ℕ) (s : List Interval) (v : Interval) → q ≤ R → Fits room room s → cell_at room (put_quotient q s v) q r ≡ v
    put_quotient_is q s v l fit =
        cell_same room room (slice_set s (place_of room q 0) (cell_at room s q r)) q r v (omega arith) (omega arith) (sym (long_put s (place_of room q 0) (cell_at room s q r)) ∙ fit)

    put_kept_is : (q : ℕ) (s : List Interval) (v : Interval) → q ≤ R → Fits room room s → cell_at room (put_quotient q s v) q 0 ≡ cell_at room s q r
    put_kept_is q s v l fit =
        cell_other room (slice_set s (place_of room q 0) (cell_at room s q r)) q r v q 0 (omega arith) (omega arith) (λ e f. absurd (omega arith))
        ∙ cell_same room room s q 0 (cell_at room s q r) (omega arith) (omega arith) fit

    pub record ColumnAlike (q : ℕ) (s t : List Interval) : Type 0 where
      pub long : length s ≡ length t
      pub own : cell_at room s q r ≡ cell_at room t q r
      pub kept : cell_at room s q 0 ≡ cell_at room t q 0

    column_none : (q : ℕ) (s : List Interval) → ColumnAlike q s s
    column_none q s = record { long = refl; own = refl; kept = refl }

    column_both : (q : ℕ) (s t u : List Interval) → ColumnAlike q s t → ColumnAlike q t u → ColumnAlike q s u
    column_both q s t u h k = record { long = h.long ∙ k.long; own = h.own ∙ k.own; kept = h.kept ∙ k.kept }

    column_apart : Apart (quotient_step room r p) ColumnAlike column_none column_both (r + 1) (R + 1)
    column_apart q m s t a b c d ne h =
        let k = quotient_told m s t h in
        subst (λ w. ColumnAlike q s w) k.2
        (record {
          long = put_long m s k.0;
          own = put_other m s k.0 q r to (λ e f. ne e) (λ e f. ne e);
          kept = put_other m s k.0 q 0 (omega arith) (λ e f. ne e) (λ e f. ne e);
        })

    -- what all of them leave
    pub record Divided (s t : List Interval) : Type 0 where
      pub long : length s ≡ length t
      pub divides : (q : ℕ) → r < q → q ≤ R → iv_div (cell_at room s q r) p ≡ Ok (cell_at room t q r)
      pub kept : (q : ℕ) → r < q → q ≤ R → cell_at room t q 0 ≡ cell_at room s q r
      pub others : (a b : ℕ) → 1 ≤ b → b ≤ R → (b ≡ r → a ≤ r) → cell_at room s a b ≡ cell_at room t a b

    column_long : (s t : List Interval) → quotients_of room R r p s ≡ Ok t → length s ≡ length t
    column_long s t h =
        keeps_over (quotient_step room r p) (λ s t. length s ≡ length t) (λ s. refl) (λ s t u h k. h ∙ k) (upward (r + 1) (R + 1))
        (λ q u v m k. let d = quotient_told q u v k in put_long q u d.0 ∙ ap (λ w. length w) d.2) s t h

    column_others : (a b : ℕ) → 1 ≤ b → b ≤ R → (b ≡ r → a ≤ r) → (s t : List Interval) → quotients_of room R r p s ≡ Ok t → cell_at room s a b ≡ cell_at room t a b
    column_others a b low high early s t h =
        keeps_over (quotient_step room r p) (λ s t. cell_at room s a b ≡ cell_at room t a b) (λ s. refl) (λ s t u h k. h ∙ k) (upward (r + 1) (R + 1))
        (λ q u v m k.
        let range = in_upward (r + 1) (R + 1) q m in
        let d = quotient_told q u v k in
        put_other q u d.0 a b high (λ e f. absurd (omega arith)) (λ e f. let g : a ≤ r = early f in absurd (omega (arith, range.0))) ∙ ap (λ w. cell_at room w a b) d.2) s t h

    column_done : (s t : List Interval) → quotients_of room R r p s ≡ Ok t → Fits room room s → (q : ℕ) → r < q → q ≤ R → (iv_div (cell_at room s q r) p ≡ Ok (cell_at room t q r)) × (cell_at room t q 0 ≡ cell_at room s q r)
    column_done s t h fit q low high =
        let ok : Interval → Result Interval NumFault = λ x. Ok x in
        let d = all_done (quotient_step room r p) ColumnAlike column_none column_both (r + 1) (R + 1) column_apart s t h q (omega arith) (omega arith) in
        let k = quotient_told q d.fine.before d.fine.behind d.fine.does in
        let there : Fits room room d.fine.before = sym d.fine.same.long ∙ fit in (
          ap (λ x. iv_div x p) d.fine.same.own ∙ k.1
              ∙ ap ok (sym (put_quotient_is q d.fine.before k.0 high there) ∙ ap (λ w. cell_at room w q r) k.2 ∙ d.stays.own),
          sym d.stays.kept ∙ ap (λ w. cell_at room w q 0) (sym k.2) ∙ put_kept_is q d.fine.before k.0 high there ∙ sym d.fine.same.own,
        )

    pub quotients_done : (s t : List Interval) → quotients_of room R r p s ≡ Ok t → Fits room room s → Divided s t
    quotients_done s t h fit = record {
      long = column_long s t h;
      divides = λ q l m. (column_done s t h fit q l m).0;
      kept = λ q l m. (column_done s t h fit q l m).1;
      others = λ a b l m e. column_others a b l m e s t h;
    }

    -- the first quotient that is refused
    pub record QuotientStop (s : List Interval) (e : RowFault) : Type 0 where
      pub at : ℕ
      pub low : r < at
      pub high : at ≤ R
      pub until : (q : ℕ) → r < q → q < at → (v : Interval) × (iv_div (cell_at room s q r) p ≡ Ok v)
      pub refused : iv_div (cell_at room s at r) p ≡ Err N.Size
      pub named : e ≡ Size (two K.l at r)

    pub quotients_refused : (s : List Interval) (e : RowFault) → ¬ HasZero p → quotients_of room R r p s ≡ Err e → QuotientStop s e
    quotients_refused s e nz h =
        let d = stopped (quotient_step room r p) ColumnAlike column_none column_both (r + 1) (R + 1) column_apart s e h in
        let low : r + 1 ≤ d.at = d.low in
        let high : d.at < R + 1 = d.high in
        let k = quotient_failed d.at d.before e d.refused in
        record {
          at = d.at;
          low = omega arith;
          high = omega arith;
          until = λ q a b.
              let f = d.until q (omega arith) b in
              let m = quotient_told q f.before f.behind f.does in
              (m.0, ap (λ x. iv_div x p) f.same.own ∙ m.1);
          refused = ap (λ x. iv_div x p) d.same.own ∙ quotient_size (cell_at room d.before d.at r) p k.0 nz k.1;
          named = sym k.2;
        }

  -- ---- the entries of the later rows
  abbrev less_at : ℕ → ℕ → List Interval → Result Interval NumFault
  less_at q t s = lessened (cell_at room s q t) (cell_at room s q r) (cell_at room s t 0)

  update_told : (q t : ℕ) (s u : List Interval) → update_step room r q t s ≡ Ok u → (v : Interval) × (less_at q t s ≡ Ok v) × (slice_set s (place_of room q t) v ≡ u)
  unfolding update_step
  update_told q t s u h = made (two K.l q r) (less_at q t s) (λ v. slice_set s (place_of room q t) v) u h

  update_failed : (q t : ℕ) (s : List Interval) (e : RowFault) → update_step room r q t s ≡ Err e → (less_at q t s ≡ Err N.Size) × (Size (two K.l q r) ≡ e)
  unfolding update_step
  update_failed q t s e h =
      let p = not_made (two K.l q r) (less_at q t s) (λ v. slice_set s (place_of room q t) v) e h in
      (product_size (cell_at room s q t) (negative_of (cell_at room s q r)) (cell_at room s t 0) p.0 p.1, p.2)

  update_other : (q t : ℕ) (s u : List Interval) (a b : ℕ) → t ≤ R → b ≤ R → (a ≡ q → b ≡ t → ⊥) → update_step room r q t s ≡ Ok u → cell_at room s a b ≡ cell_at room u a b
  update_other q t s u a b l k differ h =
      let d = update_told q t s u h in
      sym (cell_other room s q t d.0 a b (omega arith) (omega arith) differ) ∙ ap (λ w. cell_at room w a b) d.2

  update_long : (q t : ℕ) (s u : List Interval) → update_step room r q t s ≡ Ok u → length s ≡ length u
  update_long q t s u h = let d = update_told q t s u h in long_put s (place_of room q t) d.0 ∙ ap (λ w. length w) d.2

  update_does : (q t : ℕ) (s u : List Interval) → q ≤ R → t ≤ R → Fits room room s → update_step room r q t s ≡ Ok u → less_at q t s ≡ Ok (cell_at room u q t)
  update_does q t s u l k fit h =
      let ok : Interval → Result Interval NumFault = λ x. Ok x in
      let d = update_told q t s u h in
      d.1 ∙ ap ok (sym (cell_same room room s q t d.0 (omega arith) (omega arith) fit) ∙ ap (λ w. cell_at room w q t) d.2)

  -- one row: what its entry t reads stays
  pub record EntryAlike (q t : ℕ) (u v : List Interval) : Type 0 where
    pub long : length u ≡ length v
    pub own : cell_at room u q t ≡ cell_at room v q t
    pub factor : cell_at room u q r ≡ cell_at room v q r
    pub kept : cell_at room u t 0 ≡ cell_at room v t 0

  entry_none : (q t : ℕ) (u : List Interval) → EntryAlike q t u u
  entry_none q t u = record { long = refl; own = refl; factor = refl; kept = refl }

  entry_both : (q t : ℕ) (u v w : List Interval) → EntryAlike q t u v → EntryAlike q t v w → EntryAlike q t u w
  entry_both q t u v w h k = record { long = h.long ∙ k.long; own = h.own ∙ k.own; factor = h.factor ∙ k.factor; kept = h.kept ∙ k.kept }

  less_same : (q t : ℕ) (u v : List Interval) → EntryAlike q t u v → less_at q t u ≡ less_at q t v
  less_same q t u v h =
      ap (λ x. lessened x (cell_at room u q r) (cell_at room u t 0)) h.own
      ∙ ap (λ x. lessened (cell_at room v q t) x (cell_at room u t 0)) h.factor
      ∙ ap (λ x. lessened (cell_at room v q t) (cell_at room v q r) x) h.kept

  entry_apart : (q : ℕ) → q ≤ R → Apart (update_step room r q) (EntryAlike q) (entry_none q) (entry_both q) (r + 1) (q + 1)
  entry_apart q l t m u v a b c d ne h = record {
    long = update_long q m u v h;
    own = update_other q m u v q t (omega arith) (omega arith) (λ e f. ne f) h;
    factor = update_other q m u v q r (omega arith) to (λ e f. absurd (omega arith)) h;
    kept = update_other q m u v t 0 (omega arith) (omega arith) (λ e f. absurd (omega arith)) h;
  }

  row_done : (q : ℕ) → q ≤ R → (s u : List Interval) → update_row_step room r q s ≡ Ok u → Fits room room s → (t : ℕ) → r < t → t ≤ q → less_at q t s ≡ Ok (cell_at room u q t)
  unfolding update_row_step
  row_done q l s u h fit t low high =
      let ok : Interval → Result Interval NumFault = λ x. Ok x in
      let d = all_done (update_step room r q) (EntryAlike q) (entry_none q) (entry_both q) (r + 1) (q + 1) (entry_apart q l) s u h t (omega arith) (omega arith) in
      less_same q t s d.fine.before d.fine.same
      ∙ update_does q t d.fine.before d.fine.behind l (omega arith) (sym d.fine.same.long ∙ fit) d.fine.does
      ∙ ap ok d.stays.own

  pub record RowStop (q : ℕ) (s : List Interval) (e : RowFault) : Type 0 where
    pub at : ℕ
    pub low : r < at
    pub high : at ≤ q
    pub until : (t : ℕ) → r < t → t < at → (v : Interval) × (less_at q t s ≡ Ok v)
    pub refused : less_at q at s ≡ Err N.Size
    pub named : e ≡ Size (two K.l q r)

  row_refused : (q : ℕ) → q ≤ R → (s : List Interval) (e : RowFault) → update_row_step room r q s ≡ Err e → RowStop q s e
  unfolding update_row_step
  row_refused q l s e h =
      let d = stopped (update_step room r q) (EntryAlike q) (entry_none q) (entry_both q) (r + 1) (q + 1) (entry_apart q l) s e h in
      let low : r + 1 ≤ d.at = d.low in
      let high : d.at < q + 1 = d.high in
      let k = update_failed q d.at d.before e d.refused in
      record {
        at = d.at;
        low = omega arith;
        high = omega arith;
        until = λ t a b.
            let f = d.until t (omega arith) b in
            let m = update_told q t f.before f.behind f.does in
            (m.0, less_same q t s f.before f.same ∙ m.1);
        refused = less_same q d.at s d.before d.same ∙ k.0;
        named = sym k.1;
      }

  -- the rows
  pub record RowAlike (q : ℕ) (u v : List Interval) : Type 0 where
    pub long : length u ≡ length v
    pub own : (t : ℕ) → t ≤ R → cell_at room u q t ≡ cell_at room v q t
    pub kept : (t : ℕ) → cell_at room u t 0 ≡ cell_at room v t 0

  row_none : (q : ℕ) (u : List Interval) → RowAlike q u u
  row_none q u = record { long = refl; own = λ t l. refl; kept = λ t. refl }

  row_both : (q : ℕ) (u v w : List Interval) → RowAlike q u v → RowAlike q v w → RowAlike q u w
  row_both q u v w h k = record { long = h.long ∙ k.long; own = λ t l. h.own t l ∙ k.own t l; kept = λ t. h.kept t ∙ k.kept t }

  row_leaves : (q p : ℕ) → p ≤ R → q ≢ p → (u v : List Interval) → update_row_step room r p u ≡ Ok v → RowAlike q u v
  unfolding update_row_step
  row_leaves q p l ne u v h =
      keeps_over (update_step room r p) (RowAlike q) (row_none q) (row_both q) (upward (r + 1) (p + 1))
      (λ m s t i k.
      let range = in_upward (r + 1) (p + 1) m i in
      let high : m ≤ R = omega (arith, range.1) in
      record {
        long = update_long p m s t k;
        own = λ b j. update_other p m s t q b high j (λ e f. ne e) k;
        kept = λ b. update_other p m s t b 0 high (omega arith) (λ e f. absurd (omega (arith, range.0))) k;
      }) u v h

  rows_apart : Apart (update_row_step room r) RowAlike row_none row_both (r + 1) (R + 1)
  rows_apart q p u v a b c d ne h = row_leaves q p (omega arith) ne u v h

  alike_entry : (q t : ℕ) (u v : List Interval) → t ≤ R → RowAlike q u v → EntryAlike q t u v
  alike_entry q t u v l h = record { long = h.long; own = h.own t l; factor = h.own r to; kept = h.kept t }

  pub record Lessened (s t : List Interval) : Type 0 where
    pub long : length s ≡ length t
    pub lessens : (q u : ℕ) → r < u → u ≤ q → q ≤ R → less_at q u s ≡ Ok (cell_at room t q u)
    pub others : (a b : ℕ) → b ≤ r → cell_at room s a b ≡ cell_at room t a b

  update_row_others : (a b : ℕ) → b ≤ r → (q : ℕ) → q ≤ R → (u v : List Interval) → update_row_step room r q u ≡ Ok v → cell_at room u a b ≡ cell_at room v a b
  unfolding update_row_step
  update_row_others a b j q l u v h =
      keeps_over (update_step room r q) (λ s t. cell_at room s a b ≡ cell_at room t a b) (λ s. refl) (λ s t u h k. h ∙ k) (upward (r + 1) (q + 1))
      (λ m s t i k.
      let range = in_upward (r + 1) (q + 1) m i in
      update_other q m s t a b (omega (arith, range.1)) (omega arith) (λ e f. absurd (omega (arith, range.0))) k) u v h

  update_row_long : (q : ℕ) (u v : List Interval) → update_row_step room r q u ≡ Ok v → length u ≡ length v
  unfolding update_row_step
  update_row_long q u v h =
      keeps_over (update_step room r q) (λ s t. length s ≡ length t) (λ s. refl) (λ s t u h k. h ∙ k) (upward (r + 1) (q + 1))
      (λ m s t i k. update_long q m s t k) u v h

  pub updates_done : (s t : List Interval) → updates_of room R r s ≡ Ok t → Fits room room s → Lessened s t
  updates_done s t h fit =
      let ok : Interval → Result Interval NumFault = λ x. Ok x in
      record {
        long =
            keeps_over (update_row_step room r) (λ s t. length s ≡ length t) (λ s. refl) (λ s t u h k. h ∙ k) (upward (r + 1) (R + 1))
            (λ q u v m k. update_row_long q u v k) s t h;
        lessens = λ q u low mid high.
            let d = all_done (update_row_step room r) RowAlike row_none row_both (r + 1) (R + 1) rows_apart s t h q (omega arith) (omega arith) in
            less_same q u s d.fine.before (alike_entry q u s d.fine.before (omega arith) d.fine.same)
            ∙ row_done q high d.fine.before d.fine.behind d.fine.does (sym d.fine.same.long ∙ fit) u low mid
            ∙ ap ok (d.stays.own u (omega arith));
        others = λ a b l.
            keeps_over (update_row_step room r) (λ s t. cell_at room s a b ≡ cell_at room t a b) (λ s. refl) (λ s t u h k. h ∙ k) (upward (r + 1) (R + 1))
            (λ q u v m k. let range = in_upward (r + 1) (R + 1) q m in update_row_others a b l q (omega (arith, range.1)) u v k) s t h;
      }

  pub record UpdateStop (s : List Interval) (e : RowFault) : Type 0 where
    pub later : ℕ
    pub earlier : ℕ
    pub low : r < earlier
    pub mid : earlier ≤ later
    pub high : later ≤ R
    pub until : (p u : ℕ) → r < u → u ≤ p → StandsBefore p u later earlier → (v : Interval) × (less_at p u s ≡ Ok v)
    pub refused : less_at later earlier s ≡ Err N.Size
    pub named : e ≡ Size (two K.l later r)

  pub updates_refused : (s : List Interval) (e : RowFault) → updates_of room R r s ≡ Err e → Fits room room s → UpdateStop s e
  updates_refused s e h fit =
      let d = stopped (update_row_step room r) RowAlike row_none row_both (r + 1) (R + 1) rows_apart s e h in
      let low : r + 1 ≤ d.at = d.low in
      let high : d.at < R + 1 = d.high in
      let w : RowStop d.at d.before e = row_refused d.at (omega arith) d.before e d.refused in
      let below : w.at ≤ d.at = w.high in
      record {
        later = d.at;
        earlier = w.at;
        low = w.low;
        mid = w.high;
        high = omega arith;
        until = λ p u a b c. elim c [
          | inl l ↦
              let f = d.until p (omega arith) l in
              let k = row_done p (omega arith) f.before f.behind f.does (sym f.same.long ∙ fit) u a b in
              (cell_at room f.behind p u, less_same p u s f.before (alike_entry p u s f.before (omega arith) f.same) ∙ k)
          | inr q ↦
              subst (λ m. (v : Interval) × (less_at m u s ≡ Ok v)) (sym q.0)
              (let m = w.until u a q.1 in
              (m.0, less_same d.at u s d.before (alike_entry d.at u s d.before (omega (arith, q.1)) d.same) ∙ m.1))
        ];
        refused = less_same d.at w.at s d.before (alike_entry d.at w.at s d.before (omega arith) d.same) ∙ w.refused;
        named = w.named;
      }

  -- ---- one row is eliminated
  abbrev Eliminates : List Interval → List Interval → Type 0
  Eliminates s t = EliminatesRow R r (cell_at room s) (cell_at room t) (cell_at room t) (λ c. cell_at room t c c)

  pub record Gone (s t : List Interval) : Type 0 where
    pub long : length s ≡ length t
    pub eliminates : Eliminates s t
    pub stays : (a b : ℕ) → 1 ≤ b → b < r → cell_at room s a b ≡ cell_at room t a b

  gone_of : (p : Interval) (s u t : List Interval) → ¬ HasZero p → cell_at room s r r ≡ p → Divided p s u → Lessened u t → Gone s t
  gone_of p s u t nz e d l =
      let own : cell_at room t r r ≡ p = sym (d.others r r from to (λ q. omega arith) ∙ l.others r r (omega arith)) ∙ e in
      record {
        long = d.long ∙ l.long;
        eliminates = record {
          pivot = own ∙ sym e;
          divisor = subst (λ x. ¬ HasZero x) (sym own) nz;
          quotients = λ q low high.
              ap (λ x. iv_div (cell_at room s q r) x) own ∙ d.divides q low high ∙ ap Ok (l.others q r (omega arith));
          updates = λ q v low mid high.
              ap (λ x. lessened x (cell_at room t q r) (cell_at room s v r)) (d.others q v (omega arith) (omega arith) (λ m. absurd (omega arith)))
              ∙ ap (λ x. lessened (cell_at room u q v) x (cell_at room s v r)) (sym (l.others q r (omega arith)))
              ∙ ap (λ x. lessened (cell_at room u q v) (cell_at room u q r) x) (sym (d.kept v low (omega arith)))
              ∙ l.lessens q v low mid high;
        };
        stays = λ a b low high. d.others a b low (omega arith) (λ m. absurd (omega arith)) ∙ l.others a b (omega arith);
      }

  pub eliminate_done : (s t : List Interval) → eliminate_step room R r s ≡ Ok t → Fits room room s → Gone s t
  unfolding eliminate_step
  eliminate_done s t h fit =
      let a = then-ok (pivot_as (one K.C r) (cell_at room s r r)) (λ p. quotients_of room R r p s >>= λ t. updates_of room R r t) t h in
      let b = then-ok (quotients_of room R r a.0 s) (λ t. updates_of room R r t) t a.2 in
      let p = pivot_told (one K.C r) (cell_at room s r r) a.0 a.1 in
      let d = quotients_done a.0 s b.0 b.1 fit in
      gone_of a.0 s b.0 t (subst (λ x. ¬ HasZero x) p.1 p.0) p.1 d (updates_done b.0 t b.2 (sym d.long ∙ fit))

  quotient_stops : (s : List Interval) (e : RowFault) → ¬ HasZero (cell_at room s r r) → QuotientStop (cell_at room s r r) s e → IsEliminationRefused R r (cell_at room s) e
  quotient_stops s e nz w =
      subst (λ x. IsEliminationRefused R r (cell_at room s) x) (sym w.named) (by_quotient w.at nz w.low w.high w.until w.refused)

  update_stops : (s u : List Interval) (e : RowFault) → ¬ HasZero (cell_at room s r r) → Divided (cell_at room s r r) s u → UpdateStop u e → IsEliminationRefused R r (cell_at room s) e
  update_stops s u e nz d w =
      let low : r < w.earlier = w.low in
      let mid : w.earlier ≤ w.later = w.mid in
      let high : w.later ≤ R = w.high in
      let same : (q v : ℕ) → r < v → v ≤ q → q ≤ R → lessened (cell_at room s q v) (cell_at room u q r) (cell_at room s v r) ≡ less_at q v u =
      λ q v low mid high.
      ap (λ x. lessened x (cell_at room u q r) (cell_at room s v r)) (d.others q v (omega arith) (omega arith) (λ m. absurd (omega arith)))
      ∙ ap (λ x. lessened (cell_at room u q v) (cell_at room u q r) x) (sym (d.kept v low (omega arith))) in
      subst (λ x. IsEliminationRefused R r (cell_at room s) x) (sym w.named)
      (by_update (λ q. cell_at room u q r) w.later w.earlier nz w.low w.mid w.high (λ q a b. d.divides q a b)
      (λ p v a b c. let m = w.until p v a b c in (m.0, same p v a b (before p v c high) ∙ m.1))
      (same w.later w.earlier w.low w.mid w.high ∙ w.refused))
    where
      before : (p v : ℕ) {q t : ℕ} → StandsBefore p v q t → q ≤ R → p ≤ R
      before p v (inl l) h = omega arith
      before p v (inr e) h = omega (arith, e.0)

  pub eliminate_refused : (s : List Interval) (e : RowFault) → eliminate_step room R r s ≡ Err e → Fits room room s → IsEliminationRefused R r (cell_at room s) e
  unfolding eliminate_step
  eliminate_refused s e h fit =
      elim (then-err (pivot_as (one K.C r) (cell_at room s r r)) (λ p. quotients_of room R r p s >>= λ t. updates_of room R r t) e h) [
        | inl k ↦
            let p = pivot_refused (one K.C r) (cell_at room s r r) e k in
            subst (λ x. IsEliminationRefused R r (cell_at room s) x) p.1 (by_pivot p.0)
        | inr a ↦
            let p = pivot_told (one K.C r) (cell_at room s r r) a.0 a.1 in
            behind s e a.0 p.0 p.1 fit a.2
      ]
    where
      behind : (s : List Interval) (e : RowFault) (p : Interval) → ¬ HasZero (cell_at room s r r) → cell_at room s r r ≡ p → Fits room room s
          → (quotients_of room R r p s >>= λ t. updates_of room R r t) ≡ Err e → IsEliminationRefused R r (cell_at room s) e
      behind s e p nz is fit h =
          let k : (quotients_of room R r (cell_at room s r r) s >>= λ t. updates_of room R r t) ≡ Err e = subst (λ x. (quotients_of room R r x s >>= λ t. updates_of room R r t) ≡ Err e) (sym is) h in
          elim (then-err (quotients_of room R r (cell_at room s r r) s) (λ t. updates_of room R r t) e k) [
            | inl q ↦ quotient_stops s e nz (quotients_refused (cell_at room s r r) s e nz q)
            | inr q ↦
                let d = quotients_done (cell_at room s r r) s q.0 q.1 fit in
                update_stops s q.0 e nz d (updates_refused q.0 e q.2 (sym d.long ∙ fit))
          ]

-- ---- the rows from the first on
module _ (room R : ℕ) (within : R ≤ room) where
  module _ (k : ℕ) (most : k ≤ R) (s t : List Interval) (a : Ascent (eliminate_step room R) k s t) (fit : Fits room room s) where
    low : (c : ℕ) → 1 ≤ suc c
    low c = omega arith

    high : (c : ℕ) → c < k → suc c ≤ R
    high c l = omega arith

    fits_at : (c : ℕ) → c ≤ k → Fits room room (a.at c)
    fits_at c most =
        ascent_holds (eliminate_step room R) (Fits room room) k s t a fit (λ c u v l f h. sym (eliminate_done room R (suc c) within (low c) (high c l) u v h f).long ∙ f) c most

    gone_at : (c : ℕ) (l : c < k) → Gone room R (suc c) within (low c) (high c l) (a.at c) (a.at (suc c))
    gone_at c l = eliminate_done room R (suc c) within (low c) (high c l) (a.at c) (a.at (suc c)) (a.each c l) (fits_at c (omega arith))

    column_stays : (c q b : ℕ) → 1 ≤ b → b ≤ c → c ≤ k → cell_at room (a.at c) q b ≡ cell_at room t q b
    column_stays c q b least mid most =
        steady (λ m. cell_at room (a.at m) q b) c k most (λ m l h. (gone_at m h).stays q b least (omega arith)) ∙ ap (λ u. cell_at room u q b) a.last

    pub eliminated_until : AreEliminatedUntil k R (cell_at room s) (λ c. cell_at room (a.at c)) (cell_at room t) (λ c. cell_at room t c c)
    eliminated_until = record {
      first = λ q t i j. ap (λ u. cell_at room u q t) a.first;
      each = λ c l.
          let g = (gone_at c l).eliminates in
          let own : cell_at room (a.at (suc c)) (suc c) (suc c) ≡ cell_at room t (suc c) (suc c) = column_stays (suc c) (suc c) (suc c) (omega arith) (omega arith) l in
          let later : (q : ℕ) → cell_at room (a.at (suc c)) q (suc c) ≡ cell_at room t q (suc c) = λ q. column_stays (suc c) q (suc c) (omega arith) (omega arith) l in
          record {
            pivot = sym own ∙ g.pivot;
            divisor = subst (λ x. ¬ HasZero x) own g.divisor;
            quotients = λ q m n. ap (λ x. iv_div (cell_at room (a.at c) q (suc c)) x) (sym own) ∙ g.quotients q m n ∙ ap Ok (later q);
            updates = λ q v m n o.
                ap (λ x. lessened (cell_at room (a.at c) q v) x (cell_at room (a.at c) v (suc c))) (sym (later q)) ∙ g.updates q v m n o;
          };
    }

  abbrev pub Table : Type 0
  Table = ℕ → ℕ → ℕ → Interval

  divisors_told : (G : ℕ → ℕ → Interval) (table : Table) (l : ℕ → ℕ → Interval) (C : ℕ → Interval) → AreEliminatedUntil R R G table l C → AreDivisors R C
  divisors_told G table l C u zero i = absurd (omega (arith, i.from))
  divisors_told G table l C u (suc c) i = (u.each c (omega (arith, i.to))).divisor

  pub eliminated : (s t : List Interval) → eliminated_of room R s ≡ Ok t → Fits room room s
      → (table : Table) × AreEliminated interval_row_steps R (cell_at room s) table (cell_at room t) (λ c. cell_at room t c c) × AreDivisors R (λ c. cell_at room t c c)
  eliminated s t h fit =
      let a : Ascent (eliminate_step room R) R s t = rises (eliminate_step room R) R s t h in
      let u = eliminated_until R (omega arith) s t a fit in (
        λ c. cell_at room (a.at c),
        record {
          first = u.first;
          pivots = λ r l. (u.each r l).pivot;
          quotients = λ r q low high. (u.each r (omega arith)).quotients q low high;
          updates = λ r q v low mid high. (u.each r (omega arith)).updates q v low mid high;
        },
        divisors_told (cell_at room s) (λ c. cell_at room (a.at c)) (cell_at room t) (λ c. cell_at room t c c) u,
      )

  pub record EliminationStop (s : List Interval) (e : RowFault) : Type 0 where
    pub before : ℕ
    pub less : before < R
    pub table : Table
    pub l : ℕ → ℕ → Interval
    pub C : ℕ → Interval
    pub until : AreEliminatedUntil before R (cell_at room s) table l C
    pub refused : IsEliminationRefused R (suc before) (table before) e

  pub elimination_refused : (s : List Interval) (e : RowFault) → eliminated_of room R s ≡ Err e → Fits room room s → EliminationStop s e
  elimination_refused s e h fit =
      let q : T.Halt (eliminate_step room R) R s e = T.halts (eliminate_step room R) R s e h in
      let l : q.before < R = q.less in
      let there : Fits room room q.reached = subst (λ u. Fits room room u) q.until.last (fits_at q.before (omega arith) s q.reached q.until fit q.before (omega arith)) in
      record {
        before = q.before;
        less = l;
        table = λ c. cell_at room (q.until.at c);
        l = cell_at room q.reached;
        C = λ c. cell_at room q.reached c c;
        until = eliminated_until q.before (omega arith) s q.reached q.until fit;
        refused =
            subst (λ u. IsEliminationRefused R (suc q.before) (cell_at room u) e) (sym q.until.last)
            (eliminate_refused room R (suc q.before) within (omega arith) (omega arith) q.reached e q.refused there);
      }
