-- What the rows leave in turn, and what is refused first.
use Rattle.std.proofs.Common.{◌≡◌, ◌≢◌, ℕ, zero, suc, ◌+◌, ◌<◌, ◌≤◌, List, length, Result, Ok, Err, inl, inr, refl, sym, ◌∙◌, subst, arith}
use Rattle.rb_result.specs.Steps.{◌>>=◌}
use Rattle.rb_result.proofs.Results.{same_ok, then-ok, then-err}
use Rattle.rb_num.specs.Interval.{Interval, zero_interval}
use Rattle.rb_sweep.specs.Sweep.{upward}
use Rattle.rb_sweep.proofs.SweepLaws.{in_upward}
use Rattle.rb_work.specs.declared.names.RowFault.{RowFault}
use Rattle.rb_work.specs.Path.{above, Ascends}
use Rattle.rb_elimination.specs.Solving.{IsReduced, IsDivided}
use Rattle.rb_factor.specs.Steps.{interval_steps, AreDivisors}
use Rattle.rb_factor.specs.Sweeps.{entry_at}
use Rattle.rb_bordered.specs.Steps.{IsRow}
use Rattle.rb_bordered.specs.Coupling.{AreRowsReduced}
use Rattle.rb_coupling.specs.Steps.{interval_row_steps}
use Rattle.rb_coupling.specs.Couple.{IsRowRefused, by_reduce, by_divide}
use Rattle.rb_coupling.specs.Sweeps.{cell_at, copied_of, reduced_of, divided_of, row_step, rows_of}
use Rattle.rb_coupling.proofs.Cells.{Fits}
use Rattle.rb_coupling.proofs.Alone.{pick, pick_is, Fine, Apart, all_done, stopped}
use Rattle.rb_coupling.proofs.Lines.{keeps_over}
use Rattle.rb_coupling.proofs.Reducing.{reduced_as, reduce_refused_as, divided_as, copied_beside, copy_is, copy_answers, reduced_beside, row_reduced, row_reduction_refused, divided_beside, row_divided, row_division_refused}

module _ (up : List ℕ) (ascends : Ascends up) (table J : List Interval) (room R : ℕ) (within : R ≤ room) where
  abbrev Two : Type 0
  Two = List Interval × List Interval

  abbrev ended : List Interval → List Interval → Result Two RowFault
  ended Y Z = Ok (Y, Z)

  abbrev cell : List Interval → ℕ → ℕ → Interval
  cell = cell_at (length up)

  abbrev factors : ℕ → ℕ → Interval
  factors = entry_at up table

  abbrev pivots : ℕ → Interval
  pivots c = entry_at up table c c

  pub record Room (s : Two) : Type 0 where
    pub Y : Fits room (length up) s.0
    pub Z : Fits room (length up) s.1

  pub record Alike (r : ℕ) (s t : Two) : Type 0 where
    pub Y_long : length s.0 ≡ length t.0
    pub Z_long : length s.1 ≡ length t.1
    pub Y : (c : ℕ) → c ≤ length up → cell s.0 r c ≡ cell t.0 r c
    pub Z : (c : ℕ) → c ≤ length up → cell s.1 r c ≡ cell t.1 r c

  alike_none : (r : ℕ) (s : Two) → Alike r s s
  alike_none r s = record { Y_long = refl; Z_long = refl; Y = λ c l. refl; Z = λ c l. refl }

  alike_both : (r : ℕ) (s t u : Two) → Alike r s t → Alike r t u → Alike r s u
  alike_both r s t u h k = record {
    Y_long = h.Y_long ∙ k.Y_long;
    Z_long = h.Z_long ∙ k.Z_long;
    Y = λ c l. h.Y c l ∙ k.Y c l;
    Z = λ c l. h.Z c l ∙ k.Z c l;
  }

  room_stays : (r : ℕ) (s t : Two) → Alike r s t → Room s → Room t
  room_stays r s t h f = record { Y = sym h.Y_long ∙ f.Y; Z = sym h.Z_long ∙ f.Z }

  -- ---- one row in its steps
  pub record Stepped (r : ℕ) (s t : Two) : Type 0 where
    pub copy : List Interval
    pub copied : copied_of up J r s.0 ≡ Ok copy
    pub reduced : reduced_of up table r copy ≡ Ok t.0
    pub divided : divided_of up table t.0 r s.1 ≡ Ok t.1

  stepped : (r : ℕ) (s t : Two) → row_step up table J r s ≡ Ok t → Stepped r s t
  unfolding row_step
  stepped r s t h =
      let a = then-ok (copied_of up J r s.0) (λ c. reduced_of up table r c >>= λ Y. divided_of up table Y r s.1 >>= λ Z. ended Y Z) t h in
      let b = then-ok (reduced_of up table r a.0) (λ Y. divided_of up table Y r s.1 >>= λ Z. ended Y Z) t a.2 in
      let c = then-ok (divided_of up table b.0 r s.1) (λ Z. ended b.0 Z) t b.2 in
      let e : (b.0, c.0) ≡ t = same_ok (b.0, c.0) t c.2 in
      subst (λ (u : Two). Stepped r s u) e (record { copy = a.0; copied = a.1; reduced = b.1; divided = c.1 })

  row_leaves : (q r : ℕ) (s t : Two) → r ≤ R → q ≢ r → row_step up table J r s ≡ Ok t → Alike q s t
  row_leaves q r s t l ne h =
      let p = stepped r s t h in
      let a = copied_beside up room r (omega arith) J s.0 p.copy p.copied in
      let b = reduced_beside up room r (omega arith) ascends table p.copy t.0 p.reduced in
      let c = divided_beside up room r (omega arith) ascends table t.0 s.1 t.1 p.divided in
      record {
        Y_long = a.long ∙ b.long;
        Z_long = c.long;
        Y = λ d m. a.others q d ne m ∙ b.others q d ne m;
        Z = λ d m. c.others q d ne m;
      }

  row_long : (r : ℕ) (s t : Two) → r ≤ R → row_step up table J r s ≡ Ok t → Room s → Room t
  row_long r s t l h f =
      let p = stepped r s t h in
      let a = copied_beside up room r (omega arith) J s.0 p.copy p.copied in
      let b = reduced_beside up room r (omega arith) ascends table p.copy t.0 p.reduced in
      let c = divided_beside up room r (omega arith) ascends table t.0 s.1 t.1 p.divided in
      record { Y = sym (a.long ∙ b.long) ∙ f.Y; Z = sym c.long ∙ f.Z }

  pub record Found (r : ℕ) (left : ℕ → ℕ → Interval) (y z : ℕ → Interval) : Type 0 where
    pub reduced : IsReduced interval_steps (length up) (above up) factors (cell J r) left y
    pub divided : IsDivided interval_steps (length up) (above up) pivots y z

  row_found : (r : ℕ) (s t : Two) → r ≤ R → row_step up table J r s ≡ Ok t → Room s → (left : ℕ → ℕ → Interval) × Found r left (cell t.0 r) (cell t.1 r)
  row_found r s t l h f =
      let p = stepped r s t h in
      let a = copied_beside up room r (omega arith) J s.0 p.copy p.copied in
      let b = row_reduced up room r (omega arith) ascends table p.copy t.0 p.reduced (sym a.long ∙ f.Y) in (
        b.0,
        record {
          reduced =
              reduced_as (length up) (above up) factors (cell p.copy r) (cell J r) b.0 (cell t.0 r) (cell t.0 r)
              (λ c i. copy_is up room r (omega arith) J s.0 p.copy p.copied f.Y c i) (λ c i. refl) b.1;
          divided = row_divided up room r (omega arith) ascends table t.0 s.1 t.1 p.divided f.Z;
        },
      )

  row_refused : (r : ℕ) (s : Two) (e : RowFault) → r ≤ R → AreDivisors (length up) pivots → row_step up table J r s ≡ Err e → Room s
      → IsRowRefused (length up) (above up) factors pivots (cell J r) r e
  unfolding row_step
  row_refused r s e l divisors h f =
      elim (then-err (copied_of up J r s.0) (λ c. reduced_of up table r c >>= λ Y. divided_of up table Y r s.1 >>= λ Z. ended Y Z) e h) [
        | inl k ↦ absurd (copy_answers up room r (omega arith) J s.0 e k)
        | inr a ↦ behind a.0 a.1 a.2
      ]
    where
      last : (copy Y : List Interval) → copied_of up J r s.0 ≡ Ok copy → reduced_of up table r copy ≡ Ok Y →
          (divided_of up table Y r s.1 >>= λ Z. ended Y Z) ≡ Err e → IsRowRefused (length up) (above up) factors pivots (cell J r) r e
      last copy Y c d h =
          elim (then-err (divided_of up table Y r s.1) (λ Z. ended Y Z) e h) [
            | inl k ↦
                let a = copied_beside up room r (omega arith) J s.0 copy c in
                let b = row_reduced up room r (omega arith) ascends table copy Y d (sym a.long ∙ f.Y) in
                let q = row_division_refused up room r (omega arith) ascends table Y s.1 e k divisors in
                subst (λ x. IsRowRefused (length up) (above up) factors pivots (cell J r) r x) (sym q.2)
                (by_divide b.0 (cell Y r) q.0
                (reduced_as (length up) (above up) factors (cell copy r) (cell J r) b.0 (cell Y r) (cell Y r)
                (λ c' i. copy_is up room r (omega arith) J s.0 copy c f.Y c' i) (λ c' i. refl) b.1) q.1)
            | inr p ↦ absurd cc
          ]

      behind : (copy : List Interval) → copied_of up J r s.0 ≡ Ok copy → (reduced_of up table r copy >>= λ Y. divided_of up table Y r s.1 >>= λ Z. ended Y Z) ≡ Err e →
          IsRowRefused (length up) (above up) factors pivots (cell J r) r e
      behind copy c h =
          elim (then-err (reduced_of up table r copy) (λ Y. divided_of up table Y r s.1 >>= λ Z. ended Y Z) e h) [
            | inl k ↦
                let a = copied_beside up room r (omega arith) J s.0 copy c in
                let q = row_reduction_refused up room r (omega arith) ascends table copy e k (sym a.long ∙ f.Y) in
                subst (λ x. IsRowRefused (length up) (above up) factors pivots (cell J r) r x) (sym q.2)
                (by_reduce q.0 (reduce_refused_as (length up) (above up) factors (cell copy r) (cell J r) q.0 (λ d i. copy_is up room r (omega arith) J s.0 copy c f.Y d i) q.1))
            | inr p ↦ last copy p.0 c p.1 p.2
          ]

  -- ---- the rows in turn
  rows_apart : Apart (row_step up table J) Alike alike_none alike_both 1 (R + 1)
  rows_apart q r s t a b c d ne h = row_leaves q r s t (omega arith) ne h

  no_left : ℕ → ℕ → Interval
  no_left c d = zero_interval

  row_told : (s t : Two) → rows_of up R table J s ≡ Ok t → Room s → (r : ℕ) → IsRow R r → (left : ℕ → ℕ → Interval) × Found r left (cell t.0 r) (cell t.1 r)
  row_told s t h f r i =
      let to : r ≤ R = i.to in
      let d = all_done (row_step up table J) Alike alike_none alike_both 1 (R + 1) rows_apart s t h r i.from (omega arith) in
      let k = row_found r d.fine.before d.fine.behind to d.fine.does (room_stays r s d.fine.before d.fine.same f) in (
        k.0,
        record {
          reduced =
              reduced_as (length up) (above up) factors (cell J r) (cell J r) k.0 (cell d.fine.behind.0 r) (cell t.0 r) (λ c j. refl) (λ c j. sym (d.stays.Y c j.to)) k.1.reduced;
          divided =
              divided_as (length up) (above up) pivots (cell d.fine.behind.0 r) (cell t.0 r) (cell d.fine.behind.1 r) (cell t.1 r)
              (λ c j. sym (d.stays.Y c j.to)) (λ c j. d.stays.Z c j.to) k.1.divided;
        },
      )

  pub rows_done : (s t : Two) → rows_of up R table J s ≡ Ok t → Room s
      → (left : ℕ → ℕ → ℕ → Interval) × AreRowsReduced interval_row_steps (length up) (above up) R factors pivots (cell J) left (cell t.0) (cell t.1)
  rows_done s t h f =
      let P : ℕ → (ℕ → ℕ → Interval) → Type 0 = λ r left. Found r left (cell t.0 r) (cell t.1 r) in
      let each : (r : ℕ) → IsRow R r → (left : ℕ → ℕ → Interval) × P r left = row_told s t h f in (
        pick no_left P R each,
        record {
          reduced = λ r i. (pick_is no_left P R each r i).reduced;
          divided = λ r i. (pick_is no_left P R each r i).divided;
        },
      )

  pub rows_room : (s t : Two) → rows_of up R table J s ≡ Ok t → Room s → Room t
  rows_room s t h f =
      keeps_over (row_step up table J) (λ s t. Room s → Room t) (λ s f. f) (λ s t u h k f. k (h f)) (upward 1 (R + 1))
      (λ r u v m k. let range = in_upward 1 (R + 1) r m in row_long r u v (omega (arith, range.1)) k) s t h f

  -- what a row leaves, when its turn comes
  pub record Left : Type 0 where
    pub left : ℕ → ℕ → Interval
    pub y : ℕ → Interval
    pub z : ℕ → Interval

  pub record RowsStop (e : RowFault) : Type 0 where
    pub before : ℕ
    pub less : before < R
    pub left : ℕ → ℕ → ℕ → Interval
    pub Y : ℕ → ℕ → Interval
    pub Z : ℕ → ℕ → Interval
    pub until : AreRowsReduced interval_row_steps (length up) (above up) before factors pivots (cell J) left Y Z
    pub refused : IsRowRefused (length up) (above up) factors pivots (cell J (suc before)) (suc before) e

  nothing : Left
  nothing = record { left = no_left; y = λ c. zero_interval; z = λ c. zero_interval }

  abbrev Kept : ℕ → Left → Type 0
  Kept r k = Found r k.left k.y k.z

  stop_at : (s : Two) (e : RowFault) → Room s → AreDivisors (length up) pivots → (at : ℕ) → 1 ≤ at → at < R + 1 → (u : Two) → Alike at s u →
      row_step up table J at u ≡ Err e → ((r : ℕ) → 1 ≤ r → r < at → Fine (row_step up table J) Alike alike_none alike_both r s) → RowsStop e
  stop_at s e f divisors zero low high u same refused until = absurd (omega arith)
  stop_at s e f divisors (suc k) low high u same refused until =
      let each : (r : ℕ) → IsRow k r → (x : Left) × Kept r x = λ r i.
      (let to : r ≤ k = i.to in
      let d = until r i.from (omega arith) in
      let w = row_found r d.before d.behind (omega arith) d.does (room_stays r s d.before d.same f) in
      (record { left = w.0; y = cell d.behind.0 r; z = cell d.behind.1 r }, w.1)) in
      let all : ℕ → Left = pick nothing Kept k each in
      let is : (r : ℕ) → IsRow k r → Kept r (all r) = pick_is nothing Kept k each in
      record {
        before = k;
        less = omega arith;
        left = λ r. (all r).left;
        Y = λ r. (all r).y;
        Z = λ r. (all r).z;
        until = record { reduced = λ r i. (is r i).reduced; divided = λ r i. (is r i).divided };
        refused = row_refused (suc k) u e (omega arith) divisors refused (room_stays (suc k) s u same f);
      }

  pub rows_refused : (s : Two) (e : RowFault) → rows_of up R table J s ≡ Err e → Room s → AreDivisors (length up) pivots → RowsStop e
  rows_refused s e h f divisors =
      let d = stopped (row_step up table J) Alike alike_none alike_both 1 (R + 1) rows_apart s e h in
      stop_at s e f divisors d.at d.low d.high d.before d.same d.refused d.until
