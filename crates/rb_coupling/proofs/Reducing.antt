-- What the first step of a solution on each row leaves, and its quotients, and what is refused.
use Rattle.std.proofs.Common.{◌≡◌, ◌≢◌, ℕ, zero, suc, ◌+◌, ◌<◌, ◌≤◌, List, length, slice_set, Result, Ok, Err, refl, ap, sym, ◌∙◌, subst, arith}
use Rattle.rb_result.proofs.Results.{same_ok}
use Rattle.rb_num.specs.declared.interval.NumFault.{NumFault}
use Rattle.rb_num.specs.Interval.{Interval}
use Rattle.rb_num.specs.Refusing.{iv_div}
use Rattle.rb_sweep.specs.Sweep.{sweep, upward, downward}
use Rattle.rb_sweep.proofs.SweepLaws.{in_upward, in_downward}
use Rattle.rb_work.specs.declared.names.NameKind.TheVariants as K
use Rattle.rb_work.specs.declared.names.RowFault.{RowFault}
use Rattle.rb_work.specs.declared.names.RowFault.TheVariants.{Size}
use Rattle.rb_work.specs.Names.{one}
use Rattle.rb_work.specs.Path.{above, Ascends, IsOn, path}
use Rattle.rb_work.proofs.PathLaws.{on_most}
use Rattle.rb_elimination.specs.Paths.{IsColumn}
use Rattle.rb_elimination.specs.Solving.{IsReduced, IsDivided}
use Rattle.rb_factor.specs.Steps.{lessened, interval_steps, AreDivisors}
use Rattle.rb_factor.specs.Solve.{IsReduceRefused, IsDivideRefused}
use Rattle.rb_factor.specs.Sweeps.{entry_at, number_at}
use Rattle.rb_factor.specs.Sweeps as F
use Rattle.rb_factor.proofs.Refusals.{made, not_made}
use Rattle.rb_factor.proofs.Reducing.{reduced, reduction_refused}
use Rattle.rb_factor.proofs.Finding.{divided, division_refused}
use Rattle.rb_coupling.specs.Sweeps.{place_of, cell_at, copy_step, copied_of, take_step, reduce_step, reduced_of, divide_step, divided_of}
use Rattle.rb_coupling.proofs.Cells.{Fits, cell_same, cell_other, long_put}
use Rattle.rb_coupling.proofs.Alone.{all_done}
use Rattle.rb_coupling.proofs.Lines.{line, line_at, line_put, line_long, Answering, answers, answers_refused, refused_so, keeps_over, remade, refailed}

-- ---- the same numbers
module _ (n : ℕ) (up : ℕ → ℕ) where
  pub reduced_as : (L : ℕ → ℕ → Interval) (right right' : ℕ → Interval) (left : ℕ → ℕ → Interval) (w w' : ℕ → Interval) →
      ((c : ℕ) → IsColumn n c → right c ≡ right' c) → ((c : ℕ) → IsColumn n c → w' c ≡ w c) →
      IsReduced interval_steps n up L right left w → IsReduced interval_steps n up L right' left w'
  reduced_as L right right' left w w' e f h = record {
    first = λ c i. h.first c i ∙ e c i;
    result = λ c i. f c i ∙ h.result c i;
    updates = λ c d l a. ap (λ x. lessened (left (suc c) d) (L (suc c) d) x) (f (suc c) (record { from = omega arith; to = omega arith })) ∙ h.updates c d l a;
    others = h.others;
  }

  pub reduce_refused_as : (L : ℕ → ℕ → Interval) (right right' : ℕ → Interval) (e : RowFault) → ((c : ℕ) → IsColumn n c → right c ≡ right' c) →
      IsReduceRefused n up L right e → IsReduceRefused n up L right' e
  reduce_refused_as L right right' e same h = record {
    column = h.column;
    there = h.there;
    left = h.left;
    until = record { first = λ c i. h.until.first c i ∙ same c i; each = h.until.each };
    ancestor = h.ancestor;
    is_ancestor = h.is_ancestor;
    refused = h.refused;
    named = h.named;
  }

  pub divided_as : (D w w' z z' : ℕ → Interval) → ((c : ℕ) → IsColumn n c → w' c ≡ w c) → ((c : ℕ) → IsColumn n c → z c ≡ z' c) →
      IsDivided interval_steps n up D w z → IsDivided interval_steps n up D w' z'
  divided_as D w w' z z' e f h c i = ap (λ x. iv_div x (D c)) (e c i) ∙ h c i ∙ ap Ok (f c i)

pub divide_refused_as : (n : ℕ) (D w w' : ℕ → Interval) (e : RowFault) → ((c : ℕ) → IsColumn n c → w' c ≡ w c) →
    IsDivideRefused n D w e → IsDivideRefused n D w' e
divide_refused_as n D w w' e same h = record {
  column = h.column;
  there = h.there;
  until = λ c from less.
      let there : IsColumn n c = record { from = from; to = omega (arith, less, h.there.to) } in
      let p = h.until c from less in
      (p.0, ap (λ x. iv_div x (D c)) (same c there) ∙ p.1);
  refused = ap (λ x. iv_div x (D h.column)) (same h.column h.there) ∙ h.refused;
  named = h.named;
}

-- ---- one row of a table of R rows
module _ (up : List ℕ) (R r : ℕ) (row : r ≤ R) where
  -- the same length, and the same numbers in the other rows
  pub record Beside (s t : List Interval) : Type 0 where
    pub long : length s ≡ length t
    pub others : (q c : ℕ) → q ≢ r → c ≤ length up → cell_at (length up) s q c ≡ cell_at (length up) t q c

  beside_none : (s : List Interval) → Beside s s
  beside_none s = record { long = refl; others = λ q c ne l. refl }

  beside_both : (s t u : List Interval) → Beside s t → Beside t u → Beside s u
  beside_both s t u h k = record { long = h.long ∙ k.long; others = λ q c ne l. h.others q c ne l ∙ k.others q c ne l }

  beside_put : (s : List Interval) (c : ℕ) (x : Interval) → c ≤ length up → Beside s (slice_set s (place_of (length up) r c) x)
  beside_put s c x l = record {
    long = long_put s (place_of (length up) r c) x;
    others = λ q d ne k. sym (cell_other (length up) s r c x q d l k (λ e f. ne e));
  }

  -- ---- the copy
  module _ (J : List Interval) where
    pub record Copied (c : ℕ) (s t : List Interval) : Type 0 where
      pub long : length s ≡ length t
      pub same : cell_at (length up) s r c ≡ cell_at (length up) t r c

    copied_put : (c : ℕ) (s t : List Interval) → copy_step (length up) J r c s ≡ Ok t → slice_set s (place_of (length up) r c) (cell_at (length up) J r c) ≡ t
    unfolding copy_step
    copied_put c s t h = same_ok (slice_set s (place_of (length up) r c) (cell_at (length up) J r c)) t h

    copy_goes : (c : ℕ) (s : List Interval) (e : RowFault) → copy_step (length up) J r c s ≡ Err e → ⊥
    unfolding copy_step
    copy_goes c s e h = absurd cc

    pub copied_beside : (s t : List Interval) → copied_of up J r s ≡ Ok t → Beside s t
    copied_beside s t h =
        keeps_over (copy_step (length up) J r) Beside beside_none beside_both (upward 1 (length up + 1))
        (λ c u v m k.
        let range = in_upward 1 (length up + 1) c m in
        subst (λ w. Beside u w) (copied_put c u v k) (beside_put u c (cell_at (length up) J r c) (omega (arith, range.1)))) s t h

    pub copy_is : (s t : List Interval) → copied_of up J r s ≡ Ok t → Fits R (length up) s → (c : ℕ) → IsColumn (length up) c → cell_at (length up) t r c ≡ cell_at (length up) J r c
    copy_is s t h fit c i =
        let d = all_done (copy_step (length up) J r) Copied (λ c s. record { long = refl; same = refl })
        (λ c s t u h k. record { long = h.long ∙ k.long; same = h.same ∙ k.same }) 1 (length up + 1)
        (λ c b u v low high low' high' ne k. subst (λ w. Copied c u w) (copied_put b u v k)
        (record {
          long = long_put u (place_of (length up) r b) (cell_at (length up) J r b);
          same = sym (cell_other (length up) u r b (cell_at (length up) J r b) r c (omega arith) (omega arith) (λ e f. ne f));
        })) s t h c i.from (omega (arith, i.to)) in
        let put : cell_at (length up) (slice_set d.fine.before (place_of (length up) r c) (cell_at (length up) J r c)) r c ≡ cell_at (length up) J r c =
        cell_same R (length up) d.fine.before r c (cell_at (length up) J r c) row i.to (sym d.fine.same.long ∙ fit) in
        sym d.stays.same ∙ subst (λ w. cell_at (length up) w r c ≡ cell_at (length up) J r c) (copied_put c d.fine.before d.fine.behind d.fine.does) put

    pub copy_answers : (s : List Interval) (e : RowFault) → copied_of up J r s ≡ Err e → ⊥
    copy_answers s e h = refused_so (copy_step (length up) J r) (λ e. ⊥) (upward 1 (length up + 1)) copy_goes s e h

  -- ---- the first step
  module _ (ascends : Ascends up) (table : List Interval) where
    abbrev left_at : ℕ → Interval → ℕ → List Interval → Result Interval NumFault
    left_at c own d s = lessened (cell_at (length up) s r d) (entry_at up table c d) own

    abbrev line_left_at : ℕ → Interval → ℕ → List Interval → Result Interval NumFault
    line_left_at c own d s = lessened (number_at (line (length up) r s) d) (entry_at up table c d) own

    left_same : (c : ℕ) (own : Interval) (d : ℕ) (s : List Interval) → d ≤ length up → line_left_at c own d s ≡ left_at c own d s
    left_same c own d s l = ap (λ x. lessened x (entry_at up table c d) own) (line_at (length up) r s d l)

    takes_as : (c : ℕ) (own : Interval) → c ≤ length up → Answering (line (length up) r) (take_step up table r c own) (F.take_step up table c own) (path up (above up c))
    unfolding take_step F.take_step
    takes_as c own l = record {
      does = λ d s t m h.
          let k : d ≤ length up = below c d l m in
          remade (one K.Y r) (one K.w c) (left_at c own d s) (line_left_at c own d s) (left_same c own d s k) (λ v. slice_set s (place_of (length up) r d) v)
          (λ v. slice_set (line (length up) r s) d v) (line (length up) r) (λ v. line_put (length up) r s d v k) t h;
      refuses = λ d s e m h.
          let k : d ≤ length up = below c d l m in
          refailed (one K.Y r) (one K.w c) (left_at c own d s) (line_left_at c own d s) (left_same c own d s k) (λ v. slice_set s (place_of (length up) r d) v)
          (λ v. slice_set (line (length up) r s) d v) e h;
    }
      where
        below : (c d : ℕ) → c ≤ length up → IsOn up (above up c) d → d ≤ length up
        below zero d l m = let k : d ≤ above up 0 = on_most up ascends (above up 0) d m in omega arith
        below (suc c) d l m =
            let k : d ≤ above up (suc c) = on_most up ascends (above up (suc c)) d m in
            let j : above up (suc c) < suc c = ascends (suc c) (omega arith) l in
            omega arith

    reduces_as : Answering (line (length up) r) (reduce_step up table r) (F.reduce_step up table) (downward 1 (length up + 1))
    unfolding reduce_step F.reduce_step
    reduces_as = record {
      does = λ c s t m h.
          let range = in_downward 1 (length up + 1) c m in
          let l : c ≤ length up = omega (arith, range.1) in
          subst (λ o. sweep (F.take_step up table c o) (path up (above up c)) (line (length up) r s) ≡ Ok (line (length up) r t)) (sym (line_at (length up) r s c l))
          (answers (line (length up) r) (take_step up table r c (cell_at (length up) s r c)) (F.take_step up table c (cell_at (length up) s r c)) (path up (above up c))
          (takes_as c (cell_at (length up) s r c) l) s t h);
      refuses = λ c s e m h.
          let range = in_downward 1 (length up + 1) c m in
          let l : c ≤ length up = omega (arith, range.1) in
          subst (λ o. (f : RowFault) × (sweep (F.take_step up table c o) (path up (above up c)) (line (length up) r s) ≡ Err f)) (sym (line_at (length up) r s c l))
          (answers_refused (line (length up) r) (take_step up table r c (cell_at (length up) s r c)) (F.take_step up table c (cell_at (length up) s r c)) (path up (above up c))
          (takes_as c (cell_at (length up) s r c) l) s e h);
    }

    take_named : (c : ℕ) (own : Interval) (d : ℕ) (s : List Interval) (e : RowFault) → take_step up table r c own d s ≡ Err e → e ≡ Size (one K.Y r)
    unfolding take_step
    take_named c own d s e h = sym (not_made (one K.Y r) (left_at c own d s) (λ v. slice_set s (place_of (length up) r d) v) e h).2

    reduce_named : (c : ℕ) (s : List Interval) (e : RowFault) → reduce_step up table r c s ≡ Err e → e ≡ Size (one K.Y r)
    unfolding reduce_step
    reduce_named c s e h =
        refused_so (take_step up table r c (cell_at (length up) s r c)) (λ e. e ≡ Size (one K.Y r)) (path up (above up c))
        (take_named c (cell_at (length up) s r c)) s e h

    take_beside : (c : ℕ) (own : Interval) (d : ℕ) (s t : List Interval) → d ≤ length up → take_step up table r c own d s ≡ Ok t → Beside s t
    unfolding take_step
    take_beside c own d s t l h =
        let p = made (one K.Y r) (left_at c own d s) (λ v. slice_set s (place_of (length up) r d) v) t h in
        subst (λ w. Beside s w) p.2 (beside_put s d p.0 l)

    reduce_beside : (c : ℕ) (s t : List Interval) → c ≤ length up → reduce_step up table r c s ≡ Ok t → Beside s t
    unfolding reduce_step
    reduce_beside c s t l h =
        keeps_over (take_step up table r c (cell_at (length up) s r c)) Beside beside_none beside_both (path up (above up c))
        (λ d u v m k. take_beside c (cell_at (length up) s r c) d u v (below c d l m) k) s t h
      where
        below : (c d : ℕ) → c ≤ length up → IsOn up (above up c) d → d ≤ length up
        below zero d l m = let k : d ≤ above up 0 = on_most up ascends (above up 0) d m in omega arith
        below (suc c) d l m =
            let k : d ≤ above up (suc c) = on_most up ascends (above up (suc c)) d m in
            let j : above up (suc c) < suc c = ascends (suc c) (omega arith) l in
            omega arith

    pub reduced_beside : (s t : List Interval) → reduced_of up table r s ≡ Ok t → Beside s t
    reduced_beside s t h =
        keeps_over (reduce_step up table r) Beside beside_none beside_both (downward 1 (length up + 1))
        (λ c u v m k. let range = in_downward 1 (length up + 1) c m in reduce_beside c u v (omega (arith, range.1)) k) s t h

    abbrev RowReduced : List Interval → List Interval → (ℕ → ℕ → Interval) → Type 0
    RowReduced s t left = IsReduced interval_steps (length up) (above up) (entry_at up table) (cell_at (length up) s r) left (cell_at (length up) t r)

    pub row_reduced : (s t : List Interval) → reduced_of up table r s ≡ Ok t → Fits R (length up) s → (left : ℕ → ℕ → Interval) × RowReduced s t left
    row_reduced s t h fit =
        let k = answers (line (length up) r) (reduce_step up table r) (F.reduce_step up table) (downward 1 (length up + 1)) reduces_as s t h in
        let p = reduced up ascends table (line (length up) r s) (line (length up) r t) k (line_long R (length up) r s row fit) in (
          p.0,
          reduced_as (length up) (above up) (entry_at up table) (number_at (line (length up) r s)) (cell_at (length up) s r) p.0 (number_at (line (length up) r t)) (cell_at (length up) t r)
              (λ c i. line_at (length up) r s c i.to) (λ c i. sym (line_at (length up) r t c i.to)) p.1,
        )

    pub row_reduction_refused : (s : List Interval) (e : RowFault) → reduced_of up table r s ≡ Err e → Fits R (length up) s
        → (f : RowFault) × IsReduceRefused (length up) (above up) (entry_at up table) (cell_at (length up) s r) f × (e ≡ Size (one K.Y r))
    row_reduction_refused s e h fit =
        let k = answers_refused (line (length up) r) (reduce_step up table r) (F.reduce_step up table) (downward 1 (length up + 1)) reduces_as s e h in
        let p = reduction_refused up ascends table (line (length up) r s) k.0 k.1 (line_long R (length up) r s row fit) in (
          k.0,
          reduce_refused_as (length up) (above up) (entry_at up table) (number_at (line (length up) r s)) (cell_at (length up) s r) k.0 (λ c i. line_at (length up) r s c i.to) p,
          refused_so (reduce_step up table r) (λ e. e ≡ Size (one K.Y r)) (downward 1 (length up + 1)) reduce_named s e h,
        )

    -- ---- the quotients
    module _ (Y : List Interval) where
      abbrev quotient_at : ℕ → Result Interval NumFault
      quotient_at c = iv_div (cell_at (length up) Y r c) (entry_at up table c c)

      abbrev line_quotient_at : ℕ → Result Interval NumFault
      line_quotient_at c = iv_div (number_at (line (length up) r Y) c) (entry_at up table c c)

      quotient_same : (c : ℕ) → c ≤ length up → line_quotient_at c ≡ quotient_at c
      quotient_same c l = ap (λ x. iv_div x (entry_at up table c c)) (line_at (length up) r Y c l)

      divides_as : Answering (line (length up) r) (divide_step up table Y r) (F.divide_step up table (line (length up) r Y)) (upward 1 (length up + 1))
      unfolding divide_step F.divide_step
      divides_as = record {
        does = λ c s t m h.
            let range = in_upward 1 (length up + 1) c m in
            let l : c ≤ length up = omega (arith, range.1) in
            remade (one K.Z r) (one K.z c) (quotient_at c) (line_quotient_at c) (quotient_same c l) (λ v. slice_set s (place_of (length up) r c) v)
            (λ v. slice_set (line (length up) r s) c v) (line (length up) r) (λ v. line_put (length up) r s c v l) t h;
        refuses = λ c s e m h.
            let range = in_upward 1 (length up + 1) c m in
            let l : c ≤ length up = omega (arith, range.1) in
            refailed (one K.Z r) (one K.z c) (quotient_at c) (line_quotient_at c) (quotient_same c l) (λ v. slice_set s (place_of (length up) r c) v)
            (λ v. slice_set (line (length up) r s) c v) e h;
      }

      divide_named : (c : ℕ) (s : List Interval) (e : RowFault) → divide_step up table Y r c s ≡ Err e → e ≡ Size (one K.Z r)
      unfolding divide_step
      divide_named c s e h = sym (not_made (one K.Z r) (quotient_at c) (λ v. slice_set s (place_of (length up) r c) v) e h).2

      divide_beside : (c : ℕ) (s t : List Interval) → c ≤ length up → divide_step up table Y r c s ≡ Ok t → Beside s t
      unfolding divide_step
      divide_beside c s t l h =
          let p = made (one K.Z r) (quotient_at c) (λ v. slice_set s (place_of (length up) r c) v) t h in
          subst (λ w. Beside s w) p.2 (beside_put s c p.0 l)

      pub divided_beside : (s t : List Interval) → divided_of up table Y r s ≡ Ok t → Beside s t
      divided_beside s t h =
          keeps_over (divide_step up table Y r) Beside beside_none beside_both (upward 1 (length up + 1))
          (λ c u v m k. let range = in_upward 1 (length up + 1) c m in divide_beside c u v (omega (arith, range.1)) k) s t h

      pub row_divided : (s t : List Interval) → divided_of up table Y r s ≡ Ok t → Fits R (length up) s
          → IsDivided interval_steps (length up) (above up) (λ c. entry_at up table c c) (cell_at (length up) Y r) (cell_at (length up) t r)
      row_divided s t h fit =
          let k = answers (line (length up) r) (divide_step up table Y r) (F.divide_step up table (line (length up) r Y)) (upward 1 (length up + 1)) divides_as s t h in
          divided_as (length up) (above up) (λ c. entry_at up table c c) (number_at (line (length up) r Y)) (cell_at (length up) Y r) (number_at (line (length up) r t)) (cell_at (length up) t r)
          (λ c i. sym (line_at (length up) r Y c i.to)) (λ c i. line_at (length up) r t c i.to)
          (divided up ascends table (line (length up) r Y) (line (length up) r s) (line (length up) r t) k (line_long R (length up) r s row fit))

      pub row_division_refused : (s : List Interval) (e : RowFault) → divided_of up table Y r s ≡ Err e → AreDivisors (length up) (λ c. entry_at up table c c)
          → (f : RowFault) × IsDivideRefused (length up) (λ c. entry_at up table c c) (cell_at (length up) Y r) f × (e ≡ Size (one K.Z r))
      row_division_refused s e h divisors =
          let k = answers_refused (line (length up) r) (divide_step up table Y r) (F.divide_step up table (line (length up) r Y)) (upward 1 (length up + 1)) divides_as s e h in (
            k.0,
            divide_refused_as (length up) (λ c. entry_at up table c c) (number_at (line (length up) r Y)) (cell_at (length up) Y r) k.0 (λ c i. sym (line_at (length up) r Y c i.to))
                (division_refused up ascends table (line (length up) r Y) (line (length up) r s) k.0 k.1 divisors),
            refused_so (divide_step up table Y r) (λ e. e ≡ Size (one K.Z r)) (upward 1 (length up + 1)) divide_named s e h,
          )
