-- What the entries of the coupling are, and which is refused first.
use Rattle.std.proofs.Common.{◌≡◌, ◌≢◌, ℕ, ◌+◌, ◌<◌, ◌≤◌, ◌==◌, if◌then◌else◌, List, length, slice_set, Bool, true, false, cond, Result, Ok, Err, inl, inr, refl, sym, ◌∙◌, subst, arith}
use Rattle.std.proofs.lemmas.Bool.Decides.{nat_tests}
use Rattle.rb_result.proofs.Results.{same_ok, then-ok, then-err}
use Rattle.rb_num.specs.declared.interval.NumFault.{NumFault}
use Rattle.rb_num.specs.declared.interval.NumFault.TheVariants as N
use Rattle.rb_num.specs.Interval.{Interval, zero_interval}
use Rattle.rb_num.specs.Dot.{iv_dot}
use Rattle.rb_num.specs.Refusing.{iv_add}
use Rattle.rb_sweep.specs.Sweep.{upward}
use Rattle.rb_sweep.proofs.SweepLaws.{in_upward}
use Rattle.rb_work.specs.declared.names.NameKind.TheVariants as K
use Rattle.rb_work.specs.declared.names.RowFault.{RowFault}
use Rattle.rb_work.specs.declared.names.RowFault.TheVariants.{Size}
use Rattle.rb_work.specs.Names.{two}
use Rattle.rb_factor.proofs.Refusals.{made, not_made}
use Rattle.rb_bordered.specs.Steps.{IsRow}
use Rattle.rb_bordered.specs.Coupling.{AreCoupled}
use Rattle.rb_coupling.specs.Steps.{pairs_of, interval_row_steps, of_row}
use Rattle.rb_coupling.specs.Couple.{IsEntry, of_two, of_one, IsEntryRefused, in_sum, in_compliance, StandsBefore}
use Rattle.rb_coupling.specs.Sweeps.{place_of, cell_at, entry_of, couple_step, couple_row_step, coupled_of}
use Rattle.rb_coupling.proofs.Cells.{Fits, cell_same, cell_other, long_put}
use Rattle.rb_coupling.proofs.Alone.{pick, pick_is, Apart, all_done, stopped}
use Rattle.rb_coupling.proofs.Lines.{keeps_over}
use Rattle.rb_coupling.proofs.Sizes.{dot_size, add_size}

told_same : (r q : ℕ) → (r == q) ≡ true → q ≡ r
told_same r q h = grind (arith, nat_tests)

told_other : (r q : ℕ) → (r == q) ≡ false → r ≢ q
told_other r q h = grind (arith, nat_tests)

module _ (n room R : ℕ) (within : R ≤ room) (mus : List Interval) (Y Z : List Interval) where
  -- ---- one entry
  abbrev products : ℕ → ℕ → Result Interval NumFault
  products q r = iv_dot (pairs_of (cell_at n Y r) (cell_at n Z q) n)

  abbrev IsOne : ℕ → ℕ → Interval → Type 0
  IsOne q r v = IsEntry n (cell_at n Y) (cell_at n Z) (of_row mus) q r v

  entry_told : (b : Bool) (q r : ℕ) (v t : Interval) → (r == q) ≡ b → r ≤ q → products q r ≡ Ok t → cond b (iv_add t (of_row mus q)) (Ok t) ≡ Ok v → IsOne q r v
  entry_told true q r v t e l h k =
      let same : q ≡ r = told_same r q e in
      of_one t same h (subst (λ m. iv_add t (of_row mus m) ≡ Ok v) same k)
  entry_told false q r v t e l h k =
      let differ : r ≢ q = told_other r q e in
      of_two (omega arith) (subst (λ x. products q r ≡ Ok x) (same_ok t v k) h)

  entry_is : (q r : ℕ) (v : Interval) → r ≤ q → entry_of n mus Y Z q r ≡ Ok v → IsOne q r v
  unfolding entry_of
  entry_is q r v l h =
      let p = then-ok (products q r) (λ t. if r == q then iv_add t (of_row mus q) else Ok t) v h in
      entry_told (r == q) q r v p.0 refl l p.1 p.2

  refusal_told : (b : Bool) (q r : ℕ) (f : NumFault) (t : Interval) → (r == q) ≡ b → products q r ≡ Ok t → cond b (iv_add t (of_row mus q)) (Ok t) ≡ Err f
      → IsEntryRefused n (cell_at n Y) (cell_at n Z) (of_row mus) q r
  refusal_told true q r f t e h k =
      let same : q ≡ r = told_same r q e in
      in_compliance t same h (subst (λ m. iv_add t (of_row mus m) ≡ Err N.Size) same (add_size t (of_row mus q) f k))
  refusal_told false q r f t e h k = absurd cc

  entry_refused : (q r : ℕ) (f : NumFault) → entry_of n mus Y Z q r ≡ Err f → IsEntryRefused n (cell_at n Y) (cell_at n Z) (of_row mus) q r
  unfolding entry_of
  entry_refused q r f h =
      elim (then-err (products q r) (λ t. if r == q then iv_add t (of_row mus q) else Ok t) f h) [
        | inl k ↦ in_sum (dot_size (pairs_of (cell_at n Y r) (cell_at n Z q) n) f k)
        | inr p ↦ refusal_told (r == q) q r f p.0 refl p.1 p.2
      ]

  -- ---- the entries of a row
  pub record Alike (q r : ℕ) (s t : List Interval) : Type 0 where
    pub long : length s ≡ length t
    pub same : cell_at room s q r ≡ cell_at room t q r

  alike_both : (q r : ℕ) (s t u : List Interval) → Alike q r s t → Alike q r t u → Alike q r s u
  alike_both q r s t u h k = record { long = h.long ∙ k.long; same = h.same ∙ k.same }

  put_told : (q r : ℕ) (s t : List Interval) → couple_step n room mus Y Z q r s ≡ Ok t
      → (v : Interval) × (entry_of n mus Y Z q r ≡ Ok v) × (slice_set s (place_of room q r) v ≡ t)
  unfolding couple_step
  put_told q r s t h = made (two K.G q r) (entry_of n mus Y Z q r) (λ v. slice_set s (place_of room q r) v) t h

  put_refused : (q r : ℕ) (s : List Interval) (e : RowFault) → couple_step n room mus Y Z q r s ≡ Err e
      → (f : NumFault) × (entry_of n mus Y Z q r ≡ Err f) × (Size (two K.G q r) ≡ e)
  unfolding couple_step
  put_refused q r s e h = not_made (two K.G q r) (entry_of n mus Y Z q r) (λ v. slice_set s (place_of room q r) v) e h

  put_apart : (q p r t : ℕ) (u v : List Interval) → r ≤ R → t ≤ R → (q ≡ p → r ≡ t → ⊥) → couple_step n room mus Y Z p t u ≡ Ok v → Alike q r u v
  put_apart q p r t u v l k differ h =
      let d = put_told p t u v h in
      subst (λ w. Alike q r u w) d.2
      (record { long = long_put u (place_of room p t) d.0; same = sym (cell_other room u p t d.0 q r (omega arith) (omega arith) differ) })

  put_there : (q r : ℕ) (u v : List Interval) → q ≤ R → r ≤ R → r ≤ q → Fits room room u → couple_step n room mus Y Z q r u ≡ Ok v → IsOne q r (cell_at room v q r)
  put_there q r u v l k j fit h =
      let d = put_told q r u v h in
      subst (λ w. IsOne q r (cell_at room w q r)) d.2 (subst (λ x. IsOne q r x) (sym (cell_same room room u q r d.0 (omega arith) (omega arith) fit)) (entry_is q r d.0 j d.1))

  row_apart : (q : ℕ) → q ≤ R → Apart (couple_step n room mus Y Z q) (Alike q) (λ r s. record { long = refl; same = refl }) (alike_both q) 1 (q + 1)
  row_apart q l r t u v a b c d ne h = put_apart q q r t u v (omega arith) (omega arith) (λ e f. ne f) h

  row_done : (q : ℕ) → q ≤ R → (s t : List Interval) → couple_row_step n room mus Y Z q s ≡ Ok t → Fits room room s → (r : ℕ) → IsRow q r → IsOne q r (cell_at room t q r)
  unfolding couple_row_step
  row_done q l s t h fit r i =
      let to : r ≤ q = i.to in
      let d = all_done (couple_step n room mus Y Z q) (Alike q) (λ r s. record { long = refl; same = refl }) (alike_both q) 1 (q + 1) (row_apart q l) s t h r i.from (omega arith) in
      subst (λ x. IsOne q r x) d.stays.same
      (put_there q r d.fine.before d.fine.behind l (omega arith) to (sym d.fine.same.long ∙ fit) d.fine.does)

  -- the first entry of a row that is refused
  pub record RowStop (q : ℕ) (e : RowFault) : Type 0 where
    pub at : ℕ
    pub there : IsRow q at
    pub until : (t : ℕ) → IsRow q t → t < at → (v : Interval) × IsOne q t v
    pub refused : IsEntryRefused n (cell_at n Y) (cell_at n Z) (of_row mus) q at
    pub named : e ≡ Size (two K.G q at)

  row_refused : (q : ℕ) → q ≤ R → (s : List Interval) (e : RowFault) → couple_row_step n room mus Y Z q s ≡ Err e → RowStop q e
  unfolding couple_row_step
  row_refused q l s e h =
      let d = stopped (couple_step n room mus Y Z q) (Alike q) (λ r s. record { long = refl; same = refl }) (alike_both q) 1 (q + 1) (row_apart q l) s e h in
      let high : d.at < q + 1 = d.high in
      let p = put_refused q d.at d.before e d.refused in
      record {
        at = d.at;
        there = record { from = d.low; to = omega arith };
        until = λ t i m.
            let f = d.until t i.from m in
            let r = put_told q t f.before f.behind f.does in
            (r.0, entry_is q t r.0 i.to r.1);
        refused = entry_refused q d.at p.0 p.1;
        named = sym p.2;
      }

  -- ---- the rows
  pub record RowAlike (q : ℕ) (s t : List Interval) : Type 0 where
    pub long : length s ≡ length t
    pub same : (r : ℕ) → r ≤ R → cell_at room s q r ≡ cell_at room t q r

  row_both : (q : ℕ) (s t u : List Interval) → RowAlike q s t → RowAlike q t u → RowAlike q s u
  row_both q s t u h k = record { long = h.long ∙ k.long; same = λ r l. h.same r l ∙ k.same r l }

  row_leaves : (q p : ℕ) (s t : List Interval) → p ≤ R → q ≢ p → couple_row_step n room mus Y Z p s ≡ Ok t → RowAlike q s t
  unfolding couple_row_step
  row_leaves q p s t l ne h =
      keeps_over (couple_step n room mus Y Z p) (RowAlike q) (λ s. record { long = refl; same = λ r l. refl }) (row_both q) (upward 1 (p + 1))
      (λ t u v m k.
      let range = in_upward 1 (p + 1) t m in
      record {
        long = (put_apart q p 0 t u v (omega arith) (omega (arith, range.1)) (λ e f. ne e) k).long;
        same = λ r j. (put_apart q p r t u v j (omega (arith, range.1)) (λ e f. ne e) k).same;
      }) s t h

  rows_apart : Apart (couple_row_step n room mus Y Z) RowAlike (λ q s. record { long = refl; same = λ r l. refl }) row_both 1 (R + 1)
  rows_apart q p s t a b c d ne h = row_leaves q p s t (omega arith) ne h

  coupled_entries : (s t : List Interval) → coupled_of n room R mus Y Z s ≡ Ok t → Fits room room s → (q r : ℕ) → IsRow R q → IsRow q r → IsOne q r (cell_at room t q r)
  coupled_entries s t h fit q r i j =
      let to : q ≤ R = i.to in
      let below : r ≤ q = j.to in
      let d = all_done (couple_row_step n room mus Y Z) RowAlike (λ q s. record { long = refl; same = λ r l. refl }) row_both 1 (R + 1) rows_apart s t h q i.from (omega arith) in
      subst (λ x. IsOne q r x) (d.stays.same r (omega arith))
      (row_done q to d.fine.before d.fine.behind d.fine.does (sym d.fine.same.long ∙ fit) r j)

  pair_told : (q r : ℕ) (v : Interval) → r < q → IsOne q r v → products q r ≡ Ok v
  pair_told q r v l (of_two m h) = h
  pair_told q r v l (of_one alone e h k) = absurd (omega arith)

  own_told : (r : ℕ) (v : Interval) → IsOne r r v → (alone : Interval) × (products r r ≡ Ok alone) × (iv_add alone (of_row mus r) ≡ Ok v)
  own_told r v (of_two m h) = absurd (omega arith)
  own_told r v (of_one alone e h k) = (alone, h, k)

  -- the entries are the coupling
  pub coupled : (up : ℕ → ℕ) (s t : List Interval) → coupled_of n room R mus Y Z s ≡ Ok t → Fits room room s
      → (alone : ℕ → Interval) × AreCoupled interval_row_steps n up R (cell_at n Y) (cell_at n Z) (of_row mus) alone (cell_at room t)
  coupled up s t h fit =
      let own : (r : ℕ) → IsRow R r → (alone : Interval) × (products r r ≡ Ok alone) × (iv_add alone (of_row mus r) ≡ Ok (cell_at room t r r)) =
      λ r i. own_told r (cell_at room t r r) (coupled_entries s t h fit r r i (record { from = i.from; to = omega arith })) in
      let P : ℕ → Interval → Type 0 = λ r alone. (products r r ≡ Ok alone) × (iv_add alone (of_row mus r) ≡ Ok (cell_at room t r r)) in
      let each : (r : ℕ) → IsRow R r → (alone : Interval) × P r alone = λ r i. let o = own r i in (o.0, (o.1, o.2)) in (
        pick zero_interval P R each,
        record {
          pairs = λ q r i j l. pair_told q r (cell_at room t q r) l (coupled_entries s t h fit q r i (record { from = j.from; to = omega arith }));
          own = λ r i. (pick_is zero_interval P R each r i).0;
          compliant = λ r i. (pick_is zero_interval P R each r i).1;
        },
      )

  pub coupled_long : (s t : List Interval) → coupled_of n room R mus Y Z s ≡ Ok t → length s ≡ length t
  coupled_long s t h =
      keeps_over (couple_row_step n room mus Y Z) (λ s t. length s ≡ length t) (λ s. refl) (λ s t u h k. h ∙ k) (upward 1 (R + 1))
      (λ q u v m k. let range = in_upward 1 (R + 1) q m in (row_leaves 0 q u v (omega (arith, range.1)) (λ e. absurd (omega (arith, range.0))) k).long) s t h

  pub record CoupleStop (e : RowFault) : Type 0 where
    pub later : ℕ
    pub earlier : ℕ
    pub row : IsRow R later
    pub entry : IsRow later earlier
    pub until : (p t : ℕ) → IsRow R p → IsRow p t → StandsBefore p t later earlier → (v : Interval) × IsOne p t v
    pub refused : IsEntryRefused n (cell_at n Y) (cell_at n Z) (of_row mus) later earlier
    pub named : e ≡ Size (two K.G later earlier)

  -- or one is refused
  pub coupling_refused : (s : List Interval) (e : RowFault) → coupled_of n room R mus Y Z s ≡ Err e → Fits room room s → CoupleStop e
  coupling_refused s e h fit =
      let d = stopped (couple_row_step n room mus Y Z) RowAlike (λ q s. record { long = refl; same = λ r l. refl }) row_both 1 (R + 1) rows_apart s e h in
      let high : d.at < R + 1 = d.high in
      let r : RowStop d.at e = row_refused d.at (omega arith) d.before e d.refused in
      record {
        later = d.at;
        earlier = r.at;
        row = record { from = d.low; to = omega arith };
        entry = r.there;
        until = λ p t i j b. elim b [
          | inl l ↦
              let f = d.until p i.from l in
              (cell_at room f.behind p t, row_done p i.to f.before f.behind f.does (sym f.same.long ∙ fit) t j)
          | inr q ↦ subst (λ m. (v : Interval) × IsOne m t v) (sym q.0) (r.until t (subst (λ m. IsRow m t) q.0 j) q.1)
        ];
        refused = r.refused;
        named = r.named;
      }
