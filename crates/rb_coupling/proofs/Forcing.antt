-- What the steps of the forces leave, and what is refused first.
use Rattle.std.proofs.Common.{◌≡◌, ◌≢◌, ℕ, zero, suc, ◌+◌, ◌<◌, ◌≤◌, List, length, slice_set, Result, Ok, Err, inl, inr, refl, ap, sym, ◌∙◌, subst, arith}
use Rattle.std.proofs.lemmas.Bool.{cases_lt}
use Rattle.rb_result.specs.Steps.{◌>>=◌}
use Rattle.rb_result.proofs.Results.{same_ok, then-ok, then-err}
use Rattle.rb_num.specs.declared.interval.NumFault.{NumFault}
use Rattle.rb_num.specs.declared.interval.NumFault.TheVariants as N
use Rattle.rb_num.specs.Interval.{Interval, zero_interval, negative_of}
use Rattle.rb_num.specs.Dot.{iv_dot}
use Rattle.rb_num.specs.Refusing.{iv_add, iv_div}
use Rattle.rb_sweep.specs.Sweep.{upward}
use Rattle.rb_work.specs.declared.names.NameKind.TheVariants as K
use Rattle.rb_work.specs.declared.names.RowFault.{RowFault}
use Rattle.rb_work.specs.declared.names.RowFault.TheVariants.{Size}
use Rattle.rb_work.specs.Names.{one, named_as}
use Rattle.rb_elimination.specs.Paths.{IsColumn}
use Rattle.rb_factor.specs.Steps.{lessened, AreDivisors}
use Rattle.rb_factor.specs.Sweeps.{number_at}
use Rattle.rb_factor.proofs.Refusals.{made, not_made, product_size, quotient_size}
use Rattle.rb_factor.proofs.Traces.{Ascent, steady, ascent_holds, Descent, descends, Stop, stops}
use Rattle.rb_factor.proofs.Traces as T
use Rattle.rb_bordered.specs.Steps.{IsRow}
use Rattle.rb_bordered.specs.Forces.{IsRightReduced, IsRightDivided, AreForces, AreRowSides, AreForcesAdded}
use Rattle.rb_coupling.specs.Steps.{pairs_of, interval_row_steps}
use Rattle.rb_coupling.specs.Forces.{IsTotal, IsTotalRefused, in_sum, in_total, IsRowSideRefused, IsAddRefused, IsRightReducedUntil, AreForcesAbove, IsForceRefused, by_reduce, by_divide, by_force}
use Rattle.rb_coupling.specs.Sweeps.{cell_at, total_of, side_step, sides_of, lessen_step, lessen_row_step, right_reduced_of, right_divide_step, right_divided_of, part_step, part_of, force_step, forces_of, keep_step, kept_of, add_step, added_of}
use Rattle.rb_coupling.proofs.Cells.{number_same, number_other, long_put}
use Rattle.rb_coupling.proofs.Alone.{pick, pick_is, all_done, Rise, rises, Halt, halts}
use Rattle.rb_coupling.proofs.Lines.{refused_so}
use Rattle.rb_coupling.proofs.Numbers.{swept, swept_long, swept_others, swept_refused}
use Rattle.rb_coupling.proofs.Sizes.{dot_size, add_size}

-- ---- totals
module _ (start : Interval) (n : ℕ) (a b : ℕ → Interval) where
  total_told : (total : Interval) → total_of start n a b ≡ Ok total → IsTotal start n a b total
  unfolding total_of
  total_told total h =
      let p = then-ok (iv_dot (pairs_of a b n)) (λ t. iv_add start t) total h in
      record { sum = p.0; sums = p.1; adds = p.2 }

  total_refused : (f : NumFault) → total_of start n a b ≡ Err f → IsTotalRefused start n a b
  unfolding total_of
  total_refused f h =
      elim (then-err (iv_dot (pairs_of a b n)) (λ t. iv_add start t) f h) [
        | inl k ↦ in_sum (dot_size (pairs_of a b n) f k)
        | inr p ↦ in_total p.0 p.1 (add_size start p.0 f p.2)
      ]

-- ---- the right side
module _ (n room R : ℕ) (within : R ≤ room) (Y z g : List Interval) where
  abbrev side_value : ℕ → Interval → Result Interval NumFault
  side_value r own = total_of (number_at g r) n (cell_at n Y r) (number_at z)

  side_is : (r : ℕ) (s : List Interval) → side_step n Y z g r s ≡ (named_as (one K.e r) (side_value r (number_at s r)) >>= λ x. Ok (slice_set s r (negative_of x)))
  unfolding side_step
  side_is r s = refl

  abbrev Sided : List Interval → ℕ → Interval → Type 0
  Sided t r total = IsTotal (number_at g r) n (cell_at n Y r) (number_at z) total × (number_at t r ≡ negative_of total)

  side_at : (s t : List Interval) → sides_of n R Y z g s ≡ Ok t → length s ≡ room + 1 → (r : ℕ) → IsRow R r → (total : Interval) × Sided t r total
  side_at s t h fit r i =
      let p = swept (side_step n Y z g) (λ r. one K.e r) side_value negative_of side_is room 1 (R + 1) (omega arith) s t h fit r i.from (omega (arith, i.to)) in
      (p.0, (total_told (number_at g r) n (cell_at n Y r) (number_at z) p.0 p.1, p.2))

  abbrev Summed : ℕ → (ℕ → Interval) → ℕ → Interval → Type 0
  Summed n total r sum = (iv_dot (pairs_of (cell_at n Y r) (number_at z) n) ≡ Ok sum) × (iv_add (number_at g r) sum ≡ Ok (total r))

  pub sides_told : (s t : List Interval) → sides_of n R Y z g s ≡ Ok t → length s ≡ room + 1
      → (without : ℕ → Interval) × (total : ℕ → Interval) × AreRowSides interval_row_steps n R (cell_at n Y) (number_at z) (number_at g) without total (number_at t)
  sides_told s t h fit =
      let each = side_at s t h fit in
      let total : ℕ → Interval = pick zero_interval (Sided t) R each in
      let sided : (r : ℕ) → IsRow R r → Sided t r (total r) = pick_is zero_interval (Sided t) R each in
      let sums : (r : ℕ) → IsRow R r → (sum : Interval) × Summed n total r sum = λ r i. let k = (sided r i).0 in (k.sum, (k.sums, k.adds)) in
      let without : ℕ → Interval = pick zero_interval (Summed n total) R sums in
      let summed : (r : ℕ) → IsRow R r → Summed n total r (without r) = pick_is zero_interval (Summed n total) R sums in (
        without,
        total,
        record {
          sums = λ r i. (summed r i).0;
          totals = λ r i. (summed r i).1;
          negatives = λ r i. (sided r i).1;
        },
      )

  pub sides_refused : (s : List Interval) (e : RowFault) → sides_of n R Y z g s ≡ Err e → IsRowSideRefused n R (cell_at n Y) (number_at z) (number_at g) e
  sides_refused s e h =
      let d = swept_refused (side_step n Y z g) (λ r. one K.e r) side_value negative_of side_is room 1 (R + 1) (omega arith) s e h in
      let high : d.at < R + 1 = d.high in
      record {
        row = d.at;
        there = record { from = d.low; to = omega arith };
        until = λ r a b. let p = d.until r a b in (p.0, total_told (number_at g r) n (cell_at n Y r) (number_at z) p.0 p.1);
        refused = total_refused (number_at g d.at) n (cell_at n Y d.at) (number_at z) d.fault d.refused;
        named = d.named;
      }

-- ---- what the forces add
module _ (n R : ℕ) (Y lam : List Interval) where
  abbrev add_value : ℕ → Interval → Result Interval NumFault
  add_value c own = total_of own R (λ r. cell_at n Y r c) (number_at lam)

  add_is : (c : ℕ) (s : List Interval) → add_step n R Y lam c s ≡ (named_as (one K.w c) (add_value c (number_at s c)) >>= λ x. Ok (slice_set s c x))
  unfolding add_step
  add_is c s = refl

  abbrev Added : List Interval → List Interval → ℕ → Interval → Type 0
  Added s t c sum = (iv_dot (pairs_of (λ r. cell_at n Y r c) (number_at lam) R) ≡ Ok sum) × (iv_add (number_at s c) sum ≡ Ok (number_at t c))

  add_at : (s t : List Interval) → added_of n R Y lam s ≡ Ok t → length s ≡ n + 1 → (c : ℕ) → IsColumn n c → (sum : Interval) × Added s t c sum
  add_at s t h fit c i =
      let p = swept (add_step n R Y lam) (λ c. one K.w c) add_value (λ x. x) add_is n 1 (n + 1) (omega arith) s t h fit c i.from (omega (arith, i.to)) in
      let k = total_told (number_at s c) R (λ r. cell_at n Y r c) (number_at lam) p.0 p.1 in
      (k.sum, (k.sums, k.adds ∙ ap Ok (sym p.2)))

  pub added_told : (s t : List Interval) → added_of n R Y lam s ≡ Ok t → length s ≡ n + 1
      → (more : ℕ → Interval) × AreForcesAdded interval_row_steps n R (cell_at n Y) (number_at s) (number_at lam) more (number_at t)
  added_told s t h fit =
      let each = add_at s t h fit in (
        pick zero_interval (Added s t) n each,
        record {
          sums = λ c i. (pick_is zero_interval (Added s t) n each c i).0;
          totals = λ c i. (pick_is zero_interval (Added s t) n each c i).1;
        },
      )

  pub added_refused : (s : List Interval) (e : RowFault) → added_of n R Y lam s ≡ Err e → IsAddRefused n R (cell_at n Y) (number_at s) (number_at lam) e
  added_refused s e h =
      let d = swept_refused (add_step n R Y lam) (λ c. one K.w c) add_value (λ x. x) add_is n 1 (n + 1) (omega arith) s e h in
      let high : d.at < n + 1 = d.high in
      record {
        column = d.at;
        there = record { from = d.low; to = omega arith };
        until = λ c a b. let p = d.until c a b in (p.0, total_told (number_at s c) R (λ r. cell_at n Y r c) (number_at lam) p.0 p.1);
        refused = total_refused (number_at s d.at) R (λ r. cell_at n Y r d.at) (number_at lam) d.fault d.refused;
        named = d.named;
      }

module _ (room R : ℕ) (within : R ≤ room) (pairs : List Interval) where
  -- ---- the rows are taken from the right side
  module _ (r : ℕ) where
    abbrev lessen_value : Interval → ℕ → Interval → Result Interval NumFault
    lessen_value own q x = lessened x (cell_at room pairs q r) own

    lessen_is : (own : Interval) (q : ℕ) (s : List Interval) → lessen_step room pairs r own q s ≡ (named_as (one K.e r) (lessen_value own q (number_at s q)) >>= λ x. Ok (slice_set s q x))
    unfolding lessen_step
    lessen_is own q s = refl

    pub record Taken (s t : List Interval) : Type 0 where
      pub long : length s ≡ length t
      pub updates : (q : ℕ) → r < q → q ≤ R → lessened (number_at s q) (cell_at room pairs q r) (number_at s r) ≡ Ok (number_at t q)
      pub others : (q : ℕ) → q ≤ r → number_at s q ≡ number_at t q

    row_taken : (s t : List Interval) → lessen_row_step room R pairs r s ≡ Ok t → length s ≡ room + 1 → Taken s t
    unfolding lessen_row_step
    row_taken s t h fit =
        let own : Interval = number_at s r in
        record {
          long = swept_long (lessen_step room pairs r own) (λ q. one K.e r) (lessen_value own) (λ x. x) (lessen_is own) room (r + 1) (R + 1) (omega arith) s t h;
          updates = λ q l m.
              let p = swept (lessen_step room pairs r own) (λ q. one K.e r) (lessen_value own) (λ x. x) (lessen_is own) room (r + 1) (R + 1) (omega arith) s t h fit q (omega arith) (omega arith) in
              p.1 ∙ ap Ok (sym p.2);
          others = λ q l.
              swept_others (lessen_step room pairs r own) (λ q. one K.e r) (lessen_value own) (λ x. x) (lessen_is own) room (r + 1) (R + 1) (omega arith) s t h q (omega arith);
        }

    pub record TakeStop (s : List Interval) (e : RowFault) : Type 0 where
      pub at : ℕ
      pub low : r < at
      pub high : at ≤ R
      pub until : (q : ℕ) → r < q → q < at → (v : Interval) × (lessened (number_at s q) (cell_at room pairs q r) (number_at s r) ≡ Ok v)
      pub refused : lessened (number_at s at) (cell_at room pairs at r) (number_at s r) ≡ Err N.Size
      pub named : e ≡ Size (one K.e r)

    take_refused : (s : List Interval) (e : RowFault) → lessen_row_step room R pairs r s ≡ Err e → TakeStop s e
    unfolding lessen_row_step
    take_refused s e h =
        let own : Interval = number_at s r in
        let d = swept_refused (lessen_step room pairs r own) (λ q. one K.e r) (lessen_value own) (λ x. x) (lessen_is own) room (r + 1) (R + 1) (omega arith) s e h in
        let low : r + 1 ≤ d.at = d.low in
        let high : d.at < R + 1 = d.high in
        record {
          at = d.at;
          low = omega arith;
          high = omega arith;
          until = λ q a b. d.until q (omega arith) b;
          refused = product_size (number_at s d.at) (negative_of (cell_at room pairs d.at r)) own d.fault d.refused;
          named = d.named;
        }

  module _ (k : ℕ) (most : k ≤ R) (s t : List Interval) (a : Ascent (lessen_row_step room R pairs) k s t) (fit : length s ≡ room + 1) where
    long_at : (c : ℕ) → c ≤ k → length (a.at c) ≡ room + 1
    long_at c high =
        ascent_holds (lessen_row_step room R pairs) (λ u. length u ≡ room + 1) k s t a fit
        (λ c u v high f h. sym (row_taken (suc c) u v h f).long ∙ f) c high

    taken_at : (c : ℕ) → c < k → Taken (suc c) (a.at c) (a.at (suc c))
    taken_at c l = row_taken (suc c) (a.at c) (a.at (suc c)) (a.each c l) (long_at c (omega arith))

    reduced_until : IsRightReducedUntil k R (cell_at room pairs) (number_at s) (λ c. number_at (a.at c))
    reduced_until = record {
      first = λ r i. ap (λ u. number_at u r) a.first;
      updates = λ r q l low high. (taken_at r l).updates q low high;
    }

    own_stays : (c : ℕ) → c < k → number_at t (suc c) ≡ number_at (a.at c) (suc c)
    own_stays c l =
        ap (λ u. number_at u (suc c)) (sym a.last)
        ∙ sym (steady (λ m. number_at (a.at m) (suc c)) c k (omega arith) (λ m low high. (taken_at m high).others (suc c) (omega arith)))

  pub right_reduced : (s t : List Interval) → right_reduced_of room R pairs s ≡ Ok t → length s ≡ room + 1
      → (left : ℕ → ℕ → Interval) × IsRightReduced interval_row_steps R (cell_at room pairs) (number_at s) left (number_at t) × (length t ≡ room + 1)
  right_reduced s t h fit =
      let a : Ascent (lessen_row_step room R pairs) R s t = T.rises (lessen_row_step room R pairs) R s t h in
      let u = reduced_until R (omega arith) s t a fit in (
        λ c. number_at (a.at c),
        record {
          first = u.first;
          result = λ r l. own_stays R (omega arith) s t a fit r l;
          updates = λ r q low high.
              ap (λ x. lessened (number_at (a.at r) q) (cell_at room pairs q (suc r)) x) (own_stays R (omega arith) s t a fit r (omega arith))
              ∙ u.updates r q (omega arith) low high;
        },
        ap (λ u. length u) (sym a.last) ∙ long_at R (omega arith) s t a fit R (omega arith),
      )

  pub right_reduction_refused : (C : ℕ → Interval) (s : List Interval) (e : RowFault) → right_reduced_of room R pairs s ≡ Err e → length s ≡ room + 1
      → IsForceRefused R (cell_at room pairs) C (number_at s) e
  right_reduction_refused C s e h fit =
      let q : T.Halt (lessen_row_step room R pairs) R s e = T.halts (lessen_row_step room R pairs) R s e h in
      let less : q.before < R = q.less in
      let u = reduced_until q.before (omega arith) s q.reached q.until fit in
      let w : TakeStop (suc q.before) q.reached e = take_refused (suc q.before) q.reached e q.refused in
      by_reduce q.before w.at (λ c. number_at (q.until.at c)) q.less u w.low w.high
      (λ p a b. subst (λ v. (x : Interval) × (lessened (number_at v p) (cell_at room pairs p (suc q.before)) (number_at v (suc q.before)) ≡ Ok x)) (sym q.until.last) (w.until p a b))
      (subst (λ v. lessened (number_at v w.at) (cell_at room pairs w.at (suc q.before)) (number_at v (suc q.before)) ≡ Err N.Size) (sym q.until.last) w.refused)
      w.named

  -- ---- and divided
  abbrev divide_value : ℕ → Interval → Result Interval NumFault
  divide_value r x = iv_div x (cell_at room pairs r r)

  divide_is : (r : ℕ) (s : List Interval) → right_divide_step room pairs r s ≡ (named_as (one K.e r) (divide_value r (number_at s r)) >>= λ x. Ok (slice_set s r x))
  unfolding right_divide_step
  divide_is r s = refl

  pub right_divided : (s t : List Interval) → right_divided_of room R pairs s ≡ Ok t → length s ≡ room + 1
      → IsRightDivided interval_row_steps R (λ c. cell_at room pairs c c) (number_at s) (number_at t)
  right_divided s t h fit r i =
      let p = swept (right_divide_step room pairs) (λ r. one K.e r) divide_value (λ x. x) divide_is room 1 (R + 1) (omega arith) s t h fit r i.from (omega (arith, i.to)) in
      p.1 ∙ ap Ok (sym p.2)

  pub right_divided_long : (s t : List Interval) → right_divided_of room R pairs s ≡ Ok t → length s ≡ length t
  right_divided_long s t h = swept_long (right_divide_step room pairs) (λ r. one K.e r) divide_value (λ x. x) divide_is room 1 (R + 1) (omega arith) s t h

  pub right_division_refused : (side s : List Interval) (left : ℕ → ℕ → Interval) (e : RowFault) →
      IsRightReduced interval_row_steps R (cell_at room pairs) (number_at side) left (number_at s) → AreDivisors R (λ c. cell_at room pairs c c) →
      right_divided_of room R pairs s ≡ Err e → IsForceRefused R (cell_at room pairs) (λ c. cell_at room pairs c c) (number_at side) e
  right_division_refused side s left e reduced divisors h =
      let d = swept_refused (right_divide_step room pairs) (λ r. one K.e r) divide_value (λ x. x) divide_is room 1 (R + 1) (omega arith) s e h in
      let high : d.at < R + 1 = d.high in
      let there : IsRow R d.at = record { from = d.low; to = omega arith } in
      by_divide d.at left (number_at s) there reduced d.until (quotient_size (number_at s d.at) (cell_at room pairs d.at d.at) d.fault (divisors d.at there) d.refused) d.named

  -- ---- the forces, from the last row down
  module _ (e : List Interval) where
    force_told : (r : ℕ) (s t : List Interval) → force_step room R pairs e r s ≡ Ok t → (v : Interval) × (part_of room R pairs e s r ≡ Ok v) × (slice_set s r v ≡ t)
    unfolding force_step
    force_told r s t h = made (one K.lam r) (part_of room R pairs e s r) (λ v. slice_set s r v) t h

    force_failed : (r : ℕ) (s : List Interval) (f : RowFault) → force_step room R pairs e r s ≡ Err f → (g : NumFault) × (part_of room R pairs e s r ≡ Err g) × (Size (one K.lam r) ≡ f)
    unfolding force_step
    force_failed r s f h = not_made (one K.lam r) (part_of room R pairs e s r) (λ v. slice_set s r v) f h

    force_long : (r : ℕ) (s t : List Interval) → force_step room R pairs e r s ≡ Ok t → length s ≡ length t
    force_long r s t h = let p = force_told r s t h in long_put s r p.0 ∙ ap (λ w. length w) p.2

    force_other : (r q : ℕ) (s t : List Interval) → q ≢ r → force_step room R pairs e r s ≡ Ok t → number_at t q ≡ number_at s q
    force_other r q s t ne h = let p = force_told r s t h in ap (λ w. number_at w q) (sym p.2) ∙ number_other s r p.0 q ne

    part_is : (lam : List Interval) (r q : ℕ) (part : Interval) → part_step room pairs lam r q part ≡ lessened part (cell_at room pairs q r) (number_at lam q)
    unfolding part_step
    part_is lam r q part = refl

    module _ (k : ℕ) (most : k ≤ R) (s t : List Interval) (d : Descent (force_step room R pairs e) k R s t) (fit : length s ≡ room + 1) where
      force_fits : (c : ℕ) → k ≤ c → c ≤ R → length (d.at c) ≡ room + 1
      force_fits c low high =
          T.descent_holds (force_step room R pairs e) (λ u. length u ≡ room + 1) k R s t d fit
          (λ c u v low high f h. sym (force_long (suc c) u v h) ∙ f) c low high

      -- the forces of the rows above number c are there, and stay
      later_stays : (c q : ℕ) → k ≤ c → c ≤ R → c < q → number_at (d.at c) q ≡ number_at t q
      later_stays c q low high l =
          sym (steady (λ m. number_at (d.at m) q) k c low
          (λ m a b. force_other (suc m) q (d.at (suc m)) (d.at m) (λ i. absurd (omega arith)) (d.each m a (omega arith))))
          ∙ ap (λ u. number_at u q) d.last

      -- what is left of row r, later row by later row
      record Chain (r : ℕ) (own : ℕ → Interval) : Type 0 where
        first : own (suc r) ≡ number_at e r
        result : number_at t r ≡ own (suc R)
        updates : (q : ℕ) → r < q → q ≤ R → lessened (own q) (cell_at room pairs q r) (number_at t q) ≡ Ok (own (suc q))

      chain : (c : ℕ) → k ≤ c → c < R → (own : ℕ → Interval) × Chain (suc c) own
      chain c low high =
          let p = force_told (suc c) (d.at (suc c)) (d.at c) (d.each c low high) in
          let w : Rise (part_step room pairs (d.at (suc c)) (suc c)) (suc c + 1) (R + 1) (number_at e (suc c)) p.0 =
          rises (part_step room pairs (d.at (suc c)) (suc c)) (suc c + 1) (R + 1) (omega arith) (number_at e (suc c)) p.0 p.1 in
          let start : suc c + 1 ≡ suc (suc c) = omega arith in
          let end : R + 1 ≡ suc R = omega arith in
          let put : number_at (d.at c) (suc c) ≡ p.0 =
          ap (λ u. number_at u (suc c)) (sym p.2) ∙ number_same room (d.at (suc c)) (suc c) p.0 (omega arith) (force_fits (suc c) (omega arith) (omega arith)) in (
            w.at,
            record {
              first = ap w.at (sym start) ∙ w.first;
              result = sym (later_stays c (suc c) low (omega arith) (omega arith)) ∙ put ∙ sym w.last ∙ ap w.at end;
              updates = λ q a b.
                  ap (λ x. lessened (w.at q) (cell_at room pairs q (suc c)) x) (sym (later_stays (suc c) q (omega arith) (omega arith) a))
                  ∙ sym (part_is (d.at (suc c)) (suc c) q (w.at q))
                  ∙ w.each q (omega arith) (omega arith);
            },
          )

      no_chain : ℕ → Interval
      no_chain q = zero_interval

      -- the rows from 1 to k have none yet
      chained : (r : ℕ) → IsColumn R r → (own : ℕ → Interval) × (k < r → Chain r own)
      chained zero i = absurd (omega (arith, i.from))
      chained (suc c) i = elim (cases_lt c k) [
        | inl l ↦ (no_chain, λ m. absurd (omega arith))
        | inr g ↦ let w = chain c g (omega (arith, i.to)) in (w.0, λ m. w.1)
      ]

      pub part : ℕ → ℕ → Interval
      part = pick no_chain (λ r own. k < r → Chain r own) R chained

      part_is_chain : (r : ℕ) → k < r → r ≤ R → Chain r (part r)
      unfolding part
      part_is_chain r low high = pick_is no_chain (λ r own. k < r → Chain r own) R chained r (record { from = omega arith; to = high }) low

      pub forces_above : AreForcesAbove k R (cell_at room pairs) (number_at e) part (number_at t)
      forces_above = record {
        first = λ r low high. (part_is_chain r low high).first;
        result = λ r low high. (part_is_chain r low high).result;
        updates = λ r q low mid high. (part_is_chain r low (omega arith)).updates q mid high;
      }

    pub forces_told : (s t : List Interval) → forces_of room R pairs e s ≡ Ok t → length s ≡ room + 1
        → (part : ℕ → ℕ → Interval) × AreForces interval_row_steps R (cell_at room pairs) (number_at e) part (number_at t)
    forces_told s t h fit =
        let d : Descent (force_step room R pairs e) 0 R s t = descends (force_step room R pairs e) R s t h in
        let a = forces_above 0 (omega arith) s t d fit in (
          part 0 (omega arith) s t d fit,
          record {
            first = λ r i. a.first r i.from i.to;
            result = λ r i. a.result r i.from i.to;
            updates = λ r q i low high. a.updates r q i.from low high;
          },
        )

    pub forces_refused : (C side : ℕ → Interval) (left : ℕ → ℕ → Interval) (reduced : ℕ → Interval) (s : List Interval) (f : RowFault) →
        IsRightReduced interval_row_steps R (cell_at room pairs) side left reduced → IsRightDivided interval_row_steps R C reduced (number_at e) →
        forces_of room R pairs e s ≡ Err f → length s ≡ room + 1 → IsForceRefused R (cell_at room pairs) C side f
    forces_refused C side left reduced s f right quotients h fit =
        let q : Stop (force_step room R pairs e) R s f = stops (force_step room R pairs e) R s f h in
        let less : q.before < R = q.less in
        let most : suc q.before ≤ R = omega arith in
        let a = forces_above (suc q.before) most s q.reached q.until fit in
        let p = force_failed (suc q.before) q.reached f q.refused in
        let w : Halt (part_step room pairs q.reached (suc q.before)) (suc q.before + 1) (R + 1) (number_at e (suc q.before)) p.0 =
        halts (part_step room pairs q.reached (suc q.before)) (suc q.before + 1) (R + 1) (omega arith) (number_at e (suc q.before)) p.0 p.1 in
        let start : suc q.before + 1 ≡ suc (suc q.before) = omega arith in
        let low : suc q.before + 1 ≤ w.stop = w.low in
        let high : w.stop < R + 1 = w.high in
        by_force q.before w.stop left reduced (number_at e) (part (suc q.before) most s q.reached q.until fit) (number_at q.reached) w.at right quotients less a
        (ap w.at (sym start) ∙ w.first) (omega arith) (omega arith)
        (λ b m n. sym (part_is q.reached (suc q.before) b (w.at b)) ∙ w.earlier b (omega arith) n)
        (product_size (w.at w.stop) (negative_of (cell_at room pairs w.stop (suc q.before))) (number_at q.reached w.stop) p.0
        (sym (part_is q.reached (suc q.before) w.stop (w.at w.stop)) ∙ w.refused))
        (sym p.2)

-- ---- the right side becomes the forces
module _ (room R : ℕ) (within : R ≤ room) (lam : List Interval) where
  keep_put : (r : ℕ) (s t : List Interval) → keep_step lam r s ≡ Ok t → slice_set s r (number_at lam r) ≡ t
  unfolding keep_step
  keep_put r s t h = same_ok (slice_set s r (number_at lam r)) t h

  keep_goes : (r : ℕ) (s : List Interval) (e : RowFault) → keep_step lam r s ≡ Err e → ⊥
  unfolding keep_step
  keep_goes r s e h = absurd cc

  record KeptAlike (r : ℕ) (s t : List Interval) : Type 0 where
    long : length s ≡ length t
    same : number_at s r ≡ number_at t r

  pub kept_is : (s t : List Interval) → kept_of R lam s ≡ Ok t → length s ≡ room + 1 → (r : ℕ) → IsRow R r → number_at t r ≡ number_at lam r
  kept_is s t h fit r i =
      let to : r ≤ R = i.to in
      let d = all_done (keep_step lam) KeptAlike (λ r s. record { long = refl; same = refl })
      (λ r s t u h k. record { long = h.long ∙ k.long; same = h.same ∙ k.same }) 1 (R + 1)
      (λ r b u v low high low' high' ne k. subst (λ w. KeptAlike r u w) (keep_put b u v k)
      (record { long = long_put u b (number_at lam b); same = sym (number_other u b (number_at lam b) r ne) })) s t h r i.from (omega arith) in
      let put : number_at (slice_set d.fine.before r (number_at lam r)) r ≡ number_at lam r =
      number_same room d.fine.before r (number_at lam r) (omega arith) (sym d.fine.same.long ∙ fit) in
      sym d.stays.same ∙ subst (λ w. number_at w r ≡ number_at lam r) (keep_put r d.fine.before d.fine.behind d.fine.does) put

  pub kept_answers : (s : List Interval) (e : RowFault) → kept_of R lam s ≡ Err e → ⊥
  kept_answers s e h = refused_so (keep_step lam) (λ e. ⊥) (upward 1 (R + 1)) keep_goes s e h
