-- What the passes over the packed table leave, and what is refused.
use Rattle.std.proofs.Common.{◌≡◌, ◌≢◌, ◌⊎◌, inl, inr, ℕ, ◌<◌, ◌≤◌, List, length, slice_set, Result, Ok, Err, refl, ap, sym, ◌∙◌, subst, arith}
use Rattle.rb_result.specs.Steps.{◌>>=◌}
use Rattle.rb_result.proofs.Results.{same_ok, then-ok, then-err, told-ok, told-err, not-both}
use Rattle.rb_num.specs.declared.interval.NumFault.{NumFault}
use Rattle.rb_num.specs.declared.interval.NumFault.TheVariants as N
use Rattle.rb_num.specs.Interval.{Interval, negative_of}
use Rattle.rb_num.specs.Refusing.{iv_div}
use Rattle.rb_work.specs.declared.names.NameKind.TheVariants as K
use Rattle.rb_work.specs.declared.names.RowFault.{RowFault}
use Rattle.rb_work.specs.declared.names.RowFault.TheVariants.{Size}
use Rattle.rb_work.specs.Names.{two, named_as}
use Rattle.rb_work.specs.Path.{above, Ascends, IsOn, packed_place}
use Rattle.rb_work.proofs.PathLaws.{above_below, on_above, on_most}
use Rattle.rb_factor.specs.Steps.{with_product, lessened}
use Rattle.rb_factor.specs.Sweeps.{entry_at, update_step, updates_of, entry_step, entries_of}
use Rattle.rb_factor.proofs.Refusals.{product_size, made, not_made}
use Rattle.rb_factor.proofs.Entries.{Fits, put_same, put_other, put_fits}
use Rattle.rb_factor.proofs.Paths.{on_trans}
use Rattle.rb_factor.proofs.PathSweeps.{Apart, keeps, all_done, stopped}

module _ (up : List ℕ) (ascends : Ascends up) where
  -- what stands at a pair stays
  abbrev Stays : ℕ → ℕ → List Interval → List Interval → Type 0
  Stays x y s t = entry_at up t x y ≡ entry_at up s x y

  stays_both : (x y : ℕ) (s t u : List Interval) → Stays x y s t → Stays x y t u → Stays x y s u
  stays_both x y s t u h k = k ∙ h

  -- ---- the row of d is lessened
  module _ (c d : ℕ) (m : Interval) (there : c ≤ length up) (on : IsOn up c d) (less : d < c) where
    abbrev sum_at : ℕ → List Interval → Result Interval NumFault
    sum_at e s = with_product (entry_at up s d e) m (entry_at up s c e)

    updated : (e : ℕ) (s t : List Interval) → update_step up c d m e s ≡ Ok t
        → (r : Interval) × (sum_at e s ≡ Ok r) × (slice_set s (packed_place up d e) r ≡ t)
    unfolding update_step
    updated e s t h = made (two K.L c d) (sum_at e s) (λ r. slice_set s (packed_place up d e) r) t h

    not_updated : (e : ℕ) (s : List Interval) (f : RowFault) → update_step up c d m e s ≡ Err f
        → (sum_at e s ≡ Err N.Size) × (Size (two K.L c d) ≡ f)
    unfolding update_step
    not_updated e s f h =
        let p = not_made (two K.L c d) (sum_at e s) (λ r. slice_set s (packed_place up d e) r) f h in
        (product_size (entry_at up s d e) m (entry_at up s c e) p.0 p.1, p.2)

    update_fits : (e : ℕ) (s t : List Interval) → update_step up c d m e s ≡ Ok t → Fits up s → Fits up t
    update_fits e s t h f = let p = updated e s t h in subst (λ u. Fits up u) p.2 (put_fits up ascends s (packed_place up d e) p.0 f)

    update_stays : (e x y : ℕ) (s t : List Interval) → IsOn up d e → IsOn up x y → (d ≡ x → e ≡ y → ⊥) → update_step up c d m e s ≡ Ok t → Stays x y s t
    update_stays e x y s t i j differ h =
        let p = updated e s t h in
        subst (λ u. Stays x y s u) p.2 (put_other up ascends s d e p.0 x y i j differ)

    update_puts : (e : ℕ) (s t : List Interval) → IsOn up d e → update_step up c d m e s ≡ Ok t → Fits up s → sum_at e s ≡ Ok (entry_at up t d e)
    update_puts e s t i h f =
        let p = updated e s t h in
        let put : entry_at up t d e ≡ p.0 = subst (λ u. entry_at up u d e ≡ p.0) p.2 (put_same up ascends s d e p.0 (omega arith) i f) in
        let ok : Interval → Result Interval NumFault = λ x. Ok x in
        p.1 ∙ ap ok (sym put)

    column_on : (e : ℕ) → IsOn up d e → IsOn up c e
    column_on e i = on_trans up ascends c d e on i

    updates_apart : Apart up ascends (update_step up c d m) d
    updates_apart = record {
      Does = λ e s t. Fits up s → Fits up t × (sum_at e s ≡ Ok (entry_at up t d e));
      Refuses = λ e s f. (sum_at e s ≡ Err N.Size) × (Size (two K.L c d) ≡ f);
      Before = λ e s t. (Fits up s → Fits up t) × Stays d e s t × Stays c e s t;
      After = λ e s t. (Fits up s → Fits up t) × Stays d e s t;
      does = λ e s t i h f. (update_fits e s t h f, update_puts e s t i h f);
      refuses = λ e s f i h. not_updated e s f h;
      before = λ e b s t i j l h. (
        update_fits b s t h,
        update_stays b d e s t j i (λ p q. absurd (omega (arith, q, l))) h,
        update_stays b c e s t j (column_on e i) (λ p q. absurd (omega (arith, p, less))) h,
      );
      after = λ e b s t i j l h. (update_fits b s t h, update_stays b d e s t j i (λ p q. absurd (omega (arith, q, l))) h);
      after_none = λ e s. (λ f. f, refl);
      after_both = λ e s t u h k. (λ f. k.0 (h.0 f), k.1 ∙ h.1);
      does_before = λ e s t u i b k f. let r = k (b.0 f) in (r.0, rw (← b.1, ← b.2) r.1);
      does_after = λ e s t u i k a f. let r = k f in (a.0 r.0, rw a.1 r.1);
      refuses_before = λ e s t f i b k. (rw (← b.1, ← b.2) k.0, k.1);
    }

    pub updates_fit : (s t : List Interval) → updates_of up c d m s ≡ Ok t → Fits up s → Fits up t
    updates_fit s t h f =
        keeps up ascends (update_step up c d m) (λ s t. Fits up s → Fits up t) (λ s f. f) (λ s t u h k f. k (h f)) d (λ e s t i h. update_fits e s t h) s t h f

    pub updates_put : (s t : List Interval) → updates_of up c d m s ≡ Ok t → Fits up s → (e : ℕ) → IsOn up d e → sum_at e s ≡ Ok (entry_at up t d e)
    unfolding updates_apart
    updates_put s t h f e i = (all_done up ascends (update_step up c d m) d updates_apart s t h e i f).1

    -- other rows stay
    pub updates_stay : (x y : ℕ) → x ≢ d → IsOn up x y → (s t : List Interval) → updates_of up c d m s ≡ Ok t → Stays x y s t
    updates_stay x y differ j s t h =
        keeps up ascends (update_step up c d m) (Stays x y) (λ s. refl) (stays_both x y) d
        (λ e s t i h. update_stays e x y s t i j (λ p q. differ (sym p)) h) s t h

    pub updates_refused : (s : List Interval) (f : RowFault) → updates_of up c d m s ≡ Err f
        → (e : ℕ) × IsOn up d e × (sum_at e s ≡ Err N.Size) × (Size (two K.L c d) ≡ f)
    unfolding updates_apart
    updates_refused s f h =
        let p = stopped up ascends (update_step up c d m) d updates_apart s f h in
        (p.at, p.on, p.refused.0, p.refused.1)

  -- ---- the entries of column c and its ancestors
  module _ (c : ℕ) (p : Interval) (from : 1 ≤ c) (there : c ≤ length up) where
    low : (d : ℕ) → IsOn up (above up c) d → d < c
    low d i =
        let most : d ≤ above up c = on_most up ascends (above up c) d i in
        let b : above up c < c = above_below up ascends c from in
        omega arith

    on_c : (d : ℕ) → IsOn up (above up c) d → IsOn up c d
    on_c d i = on_above up ascends c d from i

    -- the quotient at c and d, and the new row of d
    pub record Divides (d : ℕ) (s t : List Interval) : Type 0 where
      pub quotient : iv_div (entry_at up s c d) p ≡ Ok (entry_at up t c d)
      pub updates : (e : ℕ) → IsOn up d e → lessened (entry_at up s d e) (entry_at up t c d) (entry_at up s c e) ≡ Ok (entry_at up t d e)

    abbrev pub NotDivided : ℕ → List Interval → Type 0
    NotDivided d s =
        ((f : NumFault) × (iv_div (entry_at up s c d) p ≡ Err f))
        ⊎ ((q : Interval) × (e : ℕ) × (iv_div (entry_at up s c d) p ≡ Ok q) × IsOn up d e × (lessened (entry_at up s d e) q (entry_at up s c e) ≡ Err N.Size))

    record Step (d : ℕ) (s t : List Interval) : Type 0 where
      q : Interval
      between : List Interval
      divides : iv_div (entry_at up s c d) p ≡ Ok q
      updates : updates_of up c d (negative_of q) s ≡ Ok between
      puts : slice_set between (packed_place up c d) q ≡ t

    rest_of : ℕ → Interval → List Interval → Result (List Interval) RowFault
    rest_of d q s = updates_of up c d (negative_of q) s >>= λ t. Ok (slice_set t (packed_place up c d) q)

    divided : (d : ℕ) (s t : List Interval) → entry_step up c p d s ≡ Ok t → Step d s t
    unfolding entry_step rest_of
    divided d s t h =
        let a = then-ok (named_as (two K.L c d) (iv_div (entry_at up s c d) p)) (λ q. rest_of d q s) t h in
        let put : List Interval → Result (List Interval) RowFault = λ t. Ok (slice_set t (packed_place up c d) a.0) in
        let b = then-ok (updates_of up c d (negative_of a.0) s) put t a.2 in
        record {
          q = a.0;
          between = b.0;
          divides = told-ok (λ e. Size (two K.L c d)) (iv_div (entry_at up s c d) p) a.0 a.1;
          updates = b.1;
          puts = same_ok (slice_set b.0 (packed_place up c d) a.0) t b.2;
        }

    not_divided : (d : ℕ) (s : List Interval) (f : RowFault) → IsOn up (above up c) d → entry_step up c p d s ≡ Err f → NotDivided d s × (Size (two K.L c d) ≡ f)
    unfolding entry_step rest_of
    not_divided d s f i h =
        elim (then-err (named_as (two K.L c d) (iv_div (entry_at up s c d) p)) (λ q. rest_of d q s) f h) [
          | inl a ↦
              let b = told-err (λ e. Size (two K.L c d)) (iv_div (entry_at up s c d) p) f a in
              (inl (b.0, b.1), b.2)
          | inr a ↦
              let put : List Interval → Result (List Interval) RowFault = λ t. Ok (slice_set t (packed_place up c d) a.0) in
              elim (then-err (updates_of up c d (negative_of a.0) s) put f a.2) [
                | inl b ↦
                    let r = updates_refused c d (negative_of a.0) there (on_c d i) (low d i) s f b in
                    (inr (a.0, r.0, told-ok (λ e. Size (two K.L c d)) (iv_div (entry_at up s c d) p) a.0 a.1, r.1, r.2), r.3)
                | inr b ↦ absurd (not-both (put b.0) (slice_set b.0 (packed_place up c d) a.0) f refl b.2)
              ]
        ]

    entry_fits : (d : ℕ) (s t : List Interval) → IsOn up (above up c) d → entry_step up c p d s ≡ Ok t → Fits up s → Fits up t
    entry_fits d s t i h f =
        let a = divided d s t h in
        subst (λ u. Fits up u) a.puts
        (put_fits up ascends a.between (packed_place up c d) a.q (updates_fit c d (negative_of a.q) there (on_c d i) (low d i) s a.between a.updates f))

    -- what is neither in the row of d nor the entry of c and d stays
    entry_stays : (d x y : ℕ) (s t : List Interval) → IsOn up (above up c) d → IsOn up x y → x ≢ d → (c ≡ x → d ≡ y → ⊥) → entry_step up c p d s ≡ Ok t → Stays x y s t
    entry_stays d x y s t i j off differ h =
        let a = divided d s t h in
        subst (λ u. Stays x y s u) a.puts
        (stays_both x y s a.between (slice_set a.between (packed_place up c d) a.q)
        (updates_stay c d (negative_of a.q) there (on_c d i) (low d i) x y off j s a.between a.updates)
        (put_other up ascends a.between c d a.q x y (on_c d i) j differ))

    entry_divides : (d : ℕ) (s t : List Interval) → IsOn up (above up c) d → entry_step up c p d s ≡ Ok t → Fits up s → Divides d s t
    entry_divides d s t i h f =
        let a = divided d s t h in
        let ok : Interval → Result Interval NumFault = λ x. Ok x in
        let fit : Fits up a.between = updates_fit c d (negative_of a.q) there (on_c d i) (low d i) s a.between a.updates f in
        let here : entry_at up t c d ≡ a.q =
        subst (λ u. entry_at up u c d ≡ a.q) a.puts (put_same up ascends a.between c d a.q there (on_c d i) fit) in
        let l : d < c = low d i in
        record {
          quotient = a.divides ∙ ap ok (sym here);
          updates = λ e j.
              let row : entry_at up t d e ≡ entry_at up a.between d e =
              subst (λ u. entry_at up u d e ≡ entry_at up a.between d e) a.puts
              (put_other up ascends a.between c d a.q d e (on_c d i) j (λ m n. absurd (omega (arith, m, l)))) in
              ap (λ q. lessened (entry_at up s d e) q (entry_at up s c e)) here
              ∙ updates_put c d (negative_of a.q) there (on_c d i) l s a.between a.updates f e j
              ∙ ap ok (sym row);
        }

    entries_apart : Apart up ascends (entry_step up c p) (above up c)
    entries_apart = record {
      Does = λ d s t. Fits up s → Fits up t × Divides d s t;
      Refuses = λ d s f. NotDivided d s × (Size (two K.L c d) ≡ f);
      Before = λ d s t. (Fits up s → Fits up t) × ((e : ℕ) → IsOn up d e → Stays d e s t) × ((e : ℕ) → IsOn up d e → Stays c e s t) × Stays c d s t;
      After = λ d s t. (Fits up s → Fits up t) × ((e : ℕ) → IsOn up d e → Stays d e s t) × Stays c d s t;
      does = λ d s t i h f. (entry_fits d s t i h f, entry_divides d s t i h f);
      refuses = λ d s f i h. not_divided d s f i h;
      before = λ d b s t i j l h.
          let lower : b < c = low b j in (
            entry_fits b s t j h,
            λ e k. entry_stays b d e s t j k (λ m. absurd (omega (arith, m, l))) (λ m n. absurd (omega (arith, m, l, lower))) h,
            λ e k.
                let most : e ≤ d = on_most up ascends d e k in
                entry_stays b c e s t j (on_trans up ascends c d e (on_c d i) k) (λ m. absurd (omega (arith, m, lower))) (λ m n. absurd (omega (arith, n, most, l))) h,
            entry_stays b c d s t j (on_c d i) (λ m. absurd (omega (arith, m, lower))) (λ m n. absurd (omega (arith, n, l))) h,
          );
      after = λ d b s t i j l h.
          let lower : b < c = low b j in
          let less : d < c = low d i in (
            entry_fits b s t j h,
            λ e k. entry_stays b d e s t j k (λ m. absurd (omega (arith, m, l))) (λ m n. absurd (omega (arith, m, less))) h,
            entry_stays b c d s t j (on_c d i) (λ m. absurd (omega (arith, m, lower))) (λ m n. absurd (omega (arith, n, l))) h,
          );
      after_none = λ d s. (λ f. f, λ e k. refl, refl);
      after_both = λ d s t u h k. (λ f. k.0 (h.0 f), λ e j. k.1 e j ∙ h.1 e j, k.2 ∙ h.2);
      does_before = λ d s t u i b k f.
          let r = k (b.0 f) in (
            r.0,
            record {
              quotient = rw (← b.3) r.1.quotient;
              updates = λ e j. rw (← b.1 e j, ← b.2 e j) (r.1.updates e j);
            },
          );
      does_after = λ d s t u i k a f.
          let r = k f in (
            a.0 r.0,
            record {
              quotient = rw a.2 r.1.quotient;
              updates = λ e j. rw (a.2, a.1 e j) (r.1.updates e j);
            },
          );
      refuses_before = λ d s t f i b k. (
        elim k.0 [
          | inl a ↦ inl (a.0, rw (← b.3) a.1)
          | inr a ↦ inr (a.0, a.1, rw (← b.3) a.2, a.3, rw (← b.1 a.1 a.3, ← b.2 a.1 a.3) a.4)
        ],
        k.1,
      );
    }

    pub entries_fit : (s t : List Interval) → entries_of up c p s ≡ Ok t → Fits up s → Fits up t
    entries_fit s t h f =
        keeps up ascends (entry_step up c p) (λ s t. Fits up s → Fits up t) (λ s f. f) (λ s t u h k f. k (h f)) (above up c) (λ d s t i h. entry_fits d s t i h) s t h f

    pub entries_divide : (s t : List Interval) → entries_of up c p s ≡ Ok t → Fits up s → (d : ℕ) → IsOn up (above up c) d → Divides d s t
    unfolding entries_apart
    entries_divide s t h f d i = (all_done up ascends (entry_step up c p) (above up c) entries_apart s t h d i f).1

    -- the pivot and all rows but those of ancestors and of c stay
    pub entries_stay : (x y : ℕ) → IsOn up x y → ((d : ℕ) → IsOn up (above up c) d → x ≢ d) → ((d : ℕ) → IsOn up (above up c) d → c ≡ x → d ≡ y → ⊥)
        → (s t : List Interval) → entries_of up c p s ≡ Ok t → Stays x y s t
    entries_stay x y j off differ s t h =
        keeps up ascends (entry_step up c p) (Stays x y) (λ s. refl) (stays_both x y) (above up c) (λ d s t i h. entry_stays d x y s t i j (off d i) (differ d i) h) s t h

    pub record EntryStop (s : List Interval) (f : RowFault) : Type 0 where
      pub at : ℕ
      pub on : IsOn up (above up c) at
      pub nearer : (b : ℕ) → IsOn up (above up c) b → at < b → (t : List Interval) × Divides b s t
      pub refused : NotDivided at s
      pub named : Size (two K.L c at) ≡ f

    pub entries_refused : (s : List Interval) (f : RowFault) → entries_of up c p s ≡ Err f → Fits up s → EntryStop s f
    unfolding entries_apart
    entries_refused s f h fit =
        let r = stopped up ascends (entry_step up c p) (above up c) entries_apart s f h in
        record {
          at = r.at;
          on = r.on;
          nearer = λ b i l. let k = r.nearer b i l in (k.0, (k.1 fit).1);
          refused = r.refused.0;
          named = r.refused.1;
        }
