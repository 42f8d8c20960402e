-- What the first step of a solution leaves, and what is refused.
use Rattle.std.proofs.Common.{◌≡◌, ◌≢◌, ℕ, suc, ◌-◌, ◌<◌, ◌≤◌, List, length, slice_set, Result, Ok, Err, refl, ap, sym, ◌∙◌, subst, arith}
use Rattle.rb_num.specs.declared.interval.NumFault.{NumFault}
use Rattle.rb_num.specs.declared.interval.NumFault.TheVariants as N
use Rattle.rb_num.specs.Interval.{Interval, negative_of}
use Rattle.rb_work.specs.declared.names.NameKind.TheVariants as K
use Rattle.rb_work.specs.declared.names.RowFault.{RowFault}
use Rattle.rb_work.specs.declared.names.RowFault.TheVariants.{Size}
use Rattle.rb_work.specs.Names.{one}
use Rattle.rb_work.specs.Path.{above, Ascends, IsOn}
use Rattle.rb_elimination.specs.Paths.{IsColumn, IsAncestor}
use Rattle.rb_elimination.specs.Solving.{IsReduced}
use Rattle.rb_factor.specs.Steps.{lessened, interval_steps}
use Rattle.rb_factor.specs.Solve.{Takes, IsReducedAbove, IsReduceRefused}
use Rattle.rb_factor.specs.Sweeps.{entry_at, number_at, take_step, reduce_step, reduce_of}
use Rattle.rb_factor.proofs.Refusals.{product_size, made, not_made}
use Rattle.rb_factor.proofs.Entries.{Holds, number_same, number_other, number_holds}
use Rattle.rb_factor.proofs.Paths.{listed_ancestor, ancestor_listed, ancestor_less}
use Rattle.rb_factor.proofs.Traces.{Descent, Stop, descends, stops, steady, descent_holds}
use Rattle.rb_factor.proofs.PathSweeps.{Apart, keeps, all_done, stopped}

module _ (up : List ℕ) (ascends : Ascends up) (table : List Interval) where
  -- ---- one column
  module _ (c : ℕ) (from : 1 ≤ c) (there : c ≤ length up) (own : Interval) where
    low : (d : ℕ) → IsOn up (above up c) d → d < c
    low d i = ancestor_less up ascends c d from (ancestor_listed up ascends c d from i)

    abbrev left_at : ℕ → List Interval → Result Interval NumFault
    left_at d s = lessened (number_at s d) (entry_at up table c d) own

    taken : (d : ℕ) (s t : List Interval) → take_step up table c own d s ≡ Ok t → (r : Interval) × (left_at d s ≡ Ok r) × (slice_set s d r ≡ t)
    unfolding take_step
    taken d s t h = made (one K.w c) (left_at d s) (λ r. slice_set s d r) t h

    not_taken : (d : ℕ) (s : List Interval) (f : RowFault) → take_step up table c own d s ≡ Err f → (left_at d s ≡ Err N.Size) × (Size (one K.w c) ≡ f)
    unfolding take_step
    not_taken d s f h =
        let p = not_made (one K.w c) (left_at d s) (λ r. slice_set s d r) f h in
        (product_size (number_at s d) (negative_of (entry_at up table c d)) own p.0 p.1, p.2)

    take_holds : (d : ℕ) (s t : List Interval) → take_step up table c own d s ≡ Ok t → Holds up s → Holds up t
    take_holds d s t h f = let p = taken d s t h in subst (λ u. Holds up u) p.2 (number_holds up ascends s d p.0 f)

    take_stays : (d b : ℕ) (s t : List Interval) → b ≢ d → take_step up table c own d s ≡ Ok t → number_at t b ≡ number_at s b
    take_stays d b s t ne h = let p = taken d s t h in subst (λ u. number_at u b ≡ number_at s b) p.2 (number_other up ascends s d p.0 b ne)

    take_puts : (d : ℕ) (s t : List Interval) → IsOn up (above up c) d → take_step up table c own d s ≡ Ok t → Holds up s → left_at d s ≡ Ok (number_at t d)
    take_puts d s t i h f =
        let p = taken d s t h in
        let l : d < c = low d i in
        let put : number_at t d ≡ p.0 = subst (λ u. number_at u d ≡ p.0) p.2 (number_same up ascends s d p.0 (omega arith) f) in
        let ok : Interval → Result Interval NumFault = λ x. Ok x in
        p.1 ∙ ap ok (sym put)

    takes_apart : Apart up ascends (take_step up table c own) (above up c)
    takes_apart = record {
      Does = λ d s t. Holds up s → Holds up t × (left_at d s ≡ Ok (number_at t d));
      Refuses = λ d s f. (left_at d s ≡ Err N.Size) × (Size (one K.w c) ≡ f);
      Before = λ d s t. (Holds up s → Holds up t) × (number_at t d ≡ number_at s d);
      After = λ d s t. (Holds up s → Holds up t) × (number_at t d ≡ number_at s d);
      does = λ d s t i h f. (take_holds d s t h f, take_puts d s t i h f);
      refuses = λ d s f i h. not_taken d s f h;
      before = λ d b s t i j l h. (take_holds b s t h, take_stays b d s t (λ q. absurd (omega (arith, q, l))) h);
      after = λ d b s t i j l h. (take_holds b s t h, take_stays b d s t (λ q. absurd (omega (arith, q, l))) h);
      after_none = λ d s. (λ f. f, refl);
      after_both = λ d s t u h k. (λ f. k.0 (h.0 f), k.1 ∙ h.1);
      does_before = λ d s t u i b k f. let r = k (b.0 f) in (r.0, rw (← b.1) r.1);
      does_after = λ d s t u i k a f. let r = k f in (a.0 r.0, rw a.1 r.1);
      refuses_before = λ d s t f i b k. (rw (← b.1) k.0, k.1);
    }

  module _ (c : ℕ) (from : 1 ≤ c) (there : c ≤ length up) where
    pub reduce_holds : (s t : List Interval) → reduce_step up table c s ≡ Ok t → Holds up s → Holds up t
    unfolding reduce_step
    reduce_holds s t h f =
        keeps up ascends (take_step up table c (number_at s c)) (λ s t. Holds up s → Holds up t) (λ s f. f) (λ s t u h k f. k (h f)) (above up c)
        (λ d u v i k. take_holds c from there (number_at s c) d u v k) s t h f

    pub reduce_stays : (b : ℕ) → ¬ IsAncestor (above up) c b → (s t : List Interval) → reduce_step up table c s ≡ Ok t → number_at t b ≡ number_at s b
    unfolding reduce_step
    reduce_stays b free s t h =
        keeps up ascends (take_step up table c (number_at s c)) (λ s t. number_at t b ≡ number_at s b) (λ s. refl) (λ s t u h k. k ∙ h) (above up c)
        (λ d u v i k. take_stays c from there (number_at s c) d b u v
        (λ q. free (subst (λ a. IsAncestor (above up) c a) (sym q) (ancestor_listed up ascends c d from i))) k) s t h

    pub own_stays : (s t : List Interval) → reduce_step up table c s ≡ Ok t → number_at t c ≡ number_at s c
    own_stays s t h = reduce_stays c (λ a. let l : c < c = ancestor_less up ascends c c from a in absurd (omega arith)) s t h

    pub reduce_takes : (s t : List Interval) → reduce_step up table c s ≡ Ok t → Holds up s → Takes (above up) (entry_at up table) c (number_at s) (number_at t)
    unfolding reduce_step takes_apart
    reduce_takes s t h f = record {
      updates = λ d a.
          (all_done up ascends (take_step up table c (number_at s c)) (above up c) (takes_apart c from there (number_at s c)) s t h d (listed_ancestor up ascends c d from a) f).1;
      others = λ d low high free. reduce_stays d free s t h;
    }

    pub record TakeStop (s : List Interval) (f : RowFault) : Type 0 where
      pub at : ℕ
      pub is_ancestor : IsAncestor (above up) c at
      pub refused : lessened (number_at s at) (entry_at up table c at) (number_at s c) ≡ Err N.Size
      pub named : f ≡ Size (one K.w c)

    pub reduce_refused : (s : List Interval) (f : RowFault) → reduce_step up table c s ≡ Err f → TakeStop s f
    unfolding reduce_step takes_apart
    reduce_refused s f h =
        let r = stopped up ascends (take_step up table c (number_at s c)) (above up c) (takes_apart c from there (number_at s c)) s f h in
        record { at = r.at; is_ancestor = ancestor_listed up ascends c r.at from r.on; refused = r.refused.0; named = sym r.refused.1 }

  -- ---- the columns from the last on
  module _ (k : ℕ) (s t : List Interval) (d : Descent (reduce_step up table) k (length up) s t) (fit : Holds up s) where
    holds_at : (c : ℕ) → k ≤ c → c ≤ length up → Holds up (d.at c)
    holds_at c low high =
        descent_holds (reduce_step up table) (Holds up) k (length up) s t d fit
        (λ c u v low high f h. reduce_holds (suc c) (omega arith) (omega arith) u v h f) c low high

    pub reduced_above : IsReducedAbove k (length up) (above up) (entry_at up table) (number_at s) (λ c. number_at (d.at c))
    reduced_above = record {
      first = λ c i. ap (λ u. number_at u c) d.first;
      each = λ c low high. reduce_takes (suc c) (omega arith) (omega arith) (d.at (suc c)) (d.at c) (d.each c low high) (holds_at (suc c) (omega arith) (omega arith));
    }

    pub result_at : (c : ℕ) → k ≤ c → c < length up → number_at t (suc c) ≡ number_at (d.at (suc c)) (suc c)
    result_at c low high =
        ap (λ u. number_at u (suc c)) (sym d.last)
        ∙ steady (λ m. number_at (d.at m) (suc c)) k c low
        (λ m l h. reduce_stays (suc m) (omega arith) (omega arith) (suc c)
        (λ a. let less : suc c < suc m = ancestor_less up ascends (suc m) (suc c) (omega arith) a in absurd (omega arith)) (d.at (suc m)) (d.at m) (d.each m l (omega arith)))
        ∙ own_stays (suc c) (omega arith) (omega arith) (d.at (suc c)) (d.at c) (d.each c low high)

  pub reduced : (s t : List Interval) → reduce_of up table s ≡ Ok t → Holds up s
      → (left : ℕ → ℕ → Interval) × IsReduced interval_steps (length up) (above up) (entry_at up table) (number_at s) left (number_at t)
  reduced s t h fit =
      let d : Descent (reduce_step up table) 0 (length up) s t = descends (reduce_step up table) (length up) s t h in
      let a = reduced_above 0 s t d fit in
      let result : (c : ℕ) → IsColumn (length up) c → number_at t c ≡ number_at (d.at c) c =
      λ c i. (let q : suc (c - 1) ≡ c = omega (arith, i.from) in
      subst (λ m. number_at t m ≡ number_at (d.at m) m) q (result_at 0 s t d fit (c - 1) (omega arith) (omega (arith, i.from, i.to)))) in (
        λ c. number_at (d.at c),
        record {
          first = a.first;
          result = result;
          updates = λ c b l i.
              ap (λ x. lessened (number_at (d.at (suc c)) b) (entry_at up table (suc c) b) x) (result_at 0 s t d fit c (omega arith) l) ∙ (a.each c (omega arith) l).updates b i;
          others = λ c b l i free. (a.each c (omega arith) l).others b i.from (let to : b ≤ c = i.to in omega arith) free;
        },
      )

  pub reduction_refused : (s : List Interval) (e : RowFault) → reduce_of up table s ≡ Err e → Holds up s
      → IsReduceRefused (length up) (above up) (entry_at up table) (number_at s) e
  reduction_refused s e h fit =
      let q : Stop (reduce_step up table) (length up) s e = stops (reduce_step up table) (length up) s e h in
      let l : q.before < length up = q.less in
      let r : TakeStop (suc q.before) (omega arith) (omega arith) q.reached e = reduce_refused (suc q.before) (omega arith) (omega arith) q.reached e q.refused in
      record {
        column = suc q.before;
        there = record { from = omega arith; to = omega arith };
        left = λ c. number_at (q.until.at c);
        until = reduced_above (suc q.before) s q.reached q.until fit;
        ancestor = r.at;
        is_ancestor = r.is_ancestor;
        refused =
            subst (λ u. lessened (number_at u r.at) (entry_at up table (suc q.before) r.at) (number_at u (suc q.before)) ≡ Err N.Size) (sym q.until.last) r.refused;
        named = r.named;
      }
