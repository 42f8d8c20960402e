-- The sweeps over a work keep how long its lists are.
use Rattle.std.proofs.Common.{◌≡◌, ℕ, ◌+◌, List, [], ◌∷◌, length, slice_set, Result, Ok, sym, ap, ◌∙◌, length-set}
use mathlib.Core.Path.{ap₂}
use Rattle.rb_result.specs.Steps.{◌>>=◌}
use Rattle.rb_result.proofs.Results.{same_ok, then-ok}
use Rattle.rb_num.specs.Interval.{Interval, negative_of}
use Rattle.rb_sweep.specs.Sweep.{sweep, upward, downward}
use Rattle.rb_work.specs.declared.names.RowFault.{RowFault}
use Rattle.rb_work.specs.declared.names.NameKind.TheVariants as K
use Rattle.rb_work.specs.Names.{one, two, named_as, pivot_as}
use Rattle.rb_work.specs.Path.{above, path}
use Rattle.rb_work.specs.View.{View}
use Rattle.rb_num.specs.Refusing.{iv_div}
use Rattle.rb_tree.specs.Columns.{column_count}
use Rattle.rb_tree.specs.Robot.{Tree}
use Rattle.rb_tree.specs.State.{Row}
use Rattle.rb_factor.specs.Sweeps as F
use Rattle.rb_coupling.specs.Sweeps as C
use Rattle.rb_contact.specs.Driving.{k_rule, driving_step, driven_of}

-- what each step keeps, a sweep keeps
kept : {S A : Type 0} (size : S → A) (step : ℕ → S → Result S RowFault) → ((i : ℕ) (s t : S) → step i s ≡ Ok t → size s ≡ size t) → (ns : List ℕ) (s t : S) → sweep step ns s ≡ Ok t
    → size s ≡ size t
kept size step each [] s t e = ap size (same_ok {E = RowFault} s t e)
kept size step each (n ∷ ns) s t e =
    let p = then-ok (step n s) (λ u. sweep step ns u) t e in
    each n s p.0 p.1 ∙ kept size step each ns p.0 t p.2

abbrev long : List Interval → ℕ
long s = length s

set_long : (s : List Interval) (p : ℕ) (v : Interval) → long s ≡ long (slice_set s p v)
set_long s p v = sym (length-set s p v)

-- a value is put, if there is one
put : (r : Result Interval RowFault) (p : ℕ) (s t : List Interval) → (r >>= λ v. Ok (slice_set s p v)) ≡ Ok t → long s ≡ long t
put r p s t e =
    let h = then-ok r (λ v. Ok (slice_set s p v)) t e in
    set_long s p h.0 ∙ ap long (same_ok {E = RowFault} (slice_set s p h.0) t h.2)

-- ---- the factors of the mass table
update_long : (up : List ℕ) (c d : ℕ) (m : Interval) (e : ℕ) (s t : List Interval) → F.update_step up c d m e s ≡ Ok t → long s ≡ long t
unfolding F.update_step
update_long up c d m e s t h = put _ _ s t h

entry_long : (up : List ℕ) (c : ℕ) (p : Interval) (d : ℕ) (s t : List Interval) → F.entry_step up c p d s ≡ Ok t → long s ≡ long t
unfolding F.entry_step
entry_long up c p d s t h =
    let a = then-ok (named_as (two K.L c d) (iv_div (F.entry_at up s c d) p)) _ t h in
    let b = then-ok (F.updates_of up c d (negative_of a.0) s) _ t a.2 in
    kept long (F.update_step up c d (negative_of a.0)) (update_long up c d (negative_of a.0)) (path up d) s b.0 b.1
    ∙ set_long b.0 _ a.0
    ∙ ap long (same_ok {E = RowFault} _ t b.2)

column_long : (up : List ℕ) (c : ℕ) (s t : List Interval) → F.column_step up c s ≡ Ok t → long s ≡ long t
unfolding F.column_step
column_long up c s t h =
    let a = then-ok (pivot_as (one K.D c) (F.entry_at up s c c)) (λ p. F.entries_of up c p s) t h in
    kept long (F.entry_step up c a.0) (entry_long up c a.0) (path up (above up c)) s t a.2

pub factor_long : (up : List ℕ) (s t : List Interval) → F.factor_of up s ≡ Ok t → length s ≡ length t
factor_long up s t h = kept long (F.column_step up) (column_long up) (downward 1 (length up + 1)) s t h

-- ---- what is left of the torques
driving_long : (row : Row) (c : ℕ) (s t : View) → driving_step row c s ≡ Ok t → length s.k ≡ length t.k
unfolding driving_step
driving_long row c s t h =
    let a = then-ok (k_rule row c s) _ t h in
    set_long s.k c a.0 ∙ ap (λ (v : View). length v.k) (same_ok {E = RowFault} _ t a.2)

pub driven_long : (tree : Tree) (row : Row) (s t : View) → driven_of tree row s ≡ Ok t → length s.k ≡ length t.k
driven_long tree row s t h = kept (λ (v : View). length v.k) (driving_step row) (driving_long row) (upward 1 (column_count tree.bodies + 1)) s t h

-- ---- solutions
take_long : (up : List ℕ) (table : List Interval) (c : ℕ) (own : Interval) (d : ℕ) (s t : List Interval) → F.take_step up table c own d s ≡ Ok t → long s ≡ long t
unfolding F.take_step
take_long up table c own d s t h = put _ d s t h

reduce_step_long : (up : List ℕ) (table : List Interval) (c : ℕ) (s t : List Interval) → F.reduce_step up table c s ≡ Ok t → long s ≡ long t
unfolding F.reduce_step
reduce_step_long up table c s t h = kept long (F.take_step up table c (F.number_at s c)) (take_long up table c (F.number_at s c)) (path up (above up c)) s t h

pub reduce_long : (up : List ℕ) (table s t : List Interval) → F.reduce_of up table s ≡ Ok t → length s ≡ length t
reduce_long up table s t h = kept long (F.reduce_step up table) (reduce_step_long up table) (downward 1 (length up + 1)) s t h

divide_step_long : (up : List ℕ) (table numbers : List Interval) (c : ℕ) (s t : List Interval) → F.divide_step up table numbers c s ≡ Ok t → long s ≡ long t
unfolding F.divide_step
divide_step_long up table numbers c s t h = put _ c s t h

pub divide_long : (up : List ℕ) (table numbers s t : List Interval) → F.divide_of up table numbers s ≡ Ok t → length s ≡ length t
divide_long up table numbers s t h = kept long (F.divide_step up table numbers) (divide_step_long up table numbers) (upward 1 (length up + 1)) s t h

-- ---- the rows, and their coupling
copy_long : (n : ℕ) (J : List Interval) (r c : ℕ) (s t : List Interval) → C.copy_step n J r c s ≡ Ok t → long s ≡ long t
unfolding C.copy_step
copy_long n J r c s t h = set_long s _ _ ∙ ap long (same_ok {E = RowFault} _ t h)

row_take_long : (up : List ℕ) (table : List Interval) (r c : ℕ) (own : Interval) (d : ℕ) (s t : List Interval) → C.take_step up table r c own d s ≡ Ok t → long s ≡ long t
unfolding C.take_step
row_take_long up table r c own d s t h = put _ _ s t h

row_reduce_long : (up : List ℕ) (table : List Interval) (r c : ℕ) (s t : List Interval) → C.reduce_step up table r c s ≡ Ok t → long s ≡ long t
unfolding C.reduce_step
row_reduce_long up table r c s t h =
    kept long (C.take_step up table r c (C.cell_at (length up) s r c)) (row_take_long up table r c (C.cell_at (length up) s r c)) (path up (above up c)) s t h

row_divide_long : (up : List ℕ) (table Y : List Interval) (r c : ℕ) (s t : List Interval) → C.divide_step up table Y r c s ≡ Ok t → long s ≡ long t
unfolding C.divide_step
row_divide_long up table Y r c s t h = put _ _ s t h

abbrev pub Two : Type 0
Two = List Interval × List Interval

abbrev both : Two → ℕ × ℕ
both s = (length s.0, length s.1)

row_long : (up : List ℕ) (table J : List Interval) (r : ℕ) (s t : Two) → C.row_step up table J r s ≡ Ok t → both s ≡ both t
unfolding C.row_step
row_long up table J r s t h =
    let a = then-ok (C.copied_of up J r s.0) _ t h in
    let b = then-ok (C.reduced_of up table r a.0) _ t a.2 in
    let c = then-ok (C.divided_of up table b.0 r s.1) _ t b.2 in
    let first : length s.0 ≡ length b.0 =
    kept long (C.copy_step (length up) J r) (copy_long (length up) J r) (upward 1 (length up + 1)) s.0 a.0 a.1
    ∙ kept long (C.reduce_step up table r) (row_reduce_long up table r) (downward 1 (length up + 1)) a.0 b.0 b.1 in
    let second : length s.1 ≡ length c.0 = kept long (C.divide_step up table b.0 r) (row_divide_long up table b.0 r) (upward 1 (length up + 1)) s.1 c.0 c.1 in
    ap₂ (λ (x y : ℕ). (x, y)) first second ∙ ap both (same_ok {E = RowFault} (b.0, c.0) t c.2)

couple_long : (n room : ℕ) (mus Y Z : List Interval) (q r : ℕ) (s t : List Interval) → C.couple_step n room mus Y Z q r s ≡ Ok t → long s ≡ long t
unfolding C.couple_step
couple_long n room mus Y Z q r s t h = put _ _ s t h

couple_row_long : (n room : ℕ) (mus Y Z : List Interval) (q : ℕ) (s t : List Interval) → C.couple_row_step n room mus Y Z q s ≡ Ok t → long s ≡ long t
unfolding C.couple_row_step
couple_row_long n room mus Y Z q s t h = kept long (C.couple_step n room mus Y Z q) (couple_long n room mus Y Z q) (upward 1 (q + 1)) s t h

quotient_long : (room r : ℕ) (p : Interval) (q : ℕ) (s t : List Interval) → C.quotient_step room r p q s ≡ Ok t → long s ≡ long t
unfolding C.quotient_step
quotient_long room r p q s t h =
    let a = then-ok (named_as (two K.l q r) (iv_div (C.cell_at room s q r) p)) _ t h in
    set_long s _ _ ∙ set_long _ _ a.0 ∙ ap long (same_ok {E = RowFault} _ t a.2)

lessen_long : (room r q i : ℕ) (s t : List Interval) → C.update_step room r q i s ≡ Ok t → long s ≡ long t
unfolding C.update_step
lessen_long room r q i s t h = put _ _ s t h

lessen_row_long : (room r q : ℕ) (s t : List Interval) → C.update_row_step room r q s ≡ Ok t → long s ≡ long t
unfolding C.update_row_step
lessen_row_long room r q s t h = kept long (C.update_step room r q) (lessen_long room r q) (upward (r + 1) (q + 1)) s t h

eliminate_long : (room R r : ℕ) (s t : List Interval) → C.eliminate_step room R r s ≡ Ok t → long s ≡ long t
unfolding C.eliminate_step
eliminate_long room R r s t h =
    let a = then-ok (pivot_as (one K.C r) (C.cell_at room s r r)) (λ p. C.quotients_of room R r p s >>= λ u. C.updates_of room R r u) t h in
    let b = then-ok (C.quotients_of room R r a.0 s) (λ u. C.updates_of room R r u) t a.2 in
    kept long (C.quotient_step room r a.0) (quotient_long room r a.0) (upward (r + 1) (R + 1)) s b.0 b.1
    ∙ kept long (C.update_row_step room r) (lessen_row_long room r) (upward (r + 1) (R + 1)) b.0 t b.2

abbrev pub Three : Type 0
Three = List Interval × List Interval × List Interval

pub record ThreeLong (s t : Three) : Type 0 where
  pub Y : length s.0 ≡ length t.0
  pub Z : length s.1 ≡ length t.1
  pub pairs : length s.2 ≡ length t.2

pub coupling_long : (up : List ℕ) (room R : ℕ) (table J mus : List Interval) (s t : Three) → C.couple_of up room R table J mus s ≡ Ok t → ThreeLong s t
unfolding C.couple_of
coupling_long up room R table J mus s t h =
    let a = then-ok (C.rows_of up R table J (s.0, s.1)) _ t h in
    let b = then-ok (C.coupled_of (length up) room R mus a.0.0 a.0.1 s.2) _ t a.2 in
    let c = then-ok (C.eliminated_of room R b.0) _ t b.2 in
    let e : (a.0.0, a.0.1, c.0) ≡ t = same_ok {E = RowFault} _ t c.2 in
    let rows : both (s.0, s.1) ≡ both a.0 = kept both (C.row_step up table J) (row_long up table J) (upward 1 (R + 1)) (s.0, s.1) a.0 a.1 in
    record {
      Y = ap (λ (p : ℕ × ℕ). p.0) rows ∙ ap (λ (u : Three). length u.0) e;
      Z = ap (λ (p : ℕ × ℕ). p.1) rows ∙ ap (λ (u : Three). length u.1) e;
      pairs =
          kept long (C.couple_row_step (length up) room mus a.0.0 a.0.1) (couple_row_long (length up) room mus a.0.0 a.0.1) (upward 1 (R + 1)) s.2 b.0 b.1
          ∙ kept long (C.eliminate_step room R) (eliminate_long room R) (upward 1 (R + 1)) b.0 c.0 c.1
          ∙ ap (λ (u : Three). length u.2) e;
    }

-- ---- the forces of the rows
side_long : (n : ℕ) (Y z g : List Interval) (r : ℕ) (s t : List Interval) → C.side_step n Y z g r s ≡ Ok t → long s ≡ long t
unfolding C.side_step
side_long n Y z g r s t h =
    let a = then-ok (named_as (one K.e r) (C.total_of (F.number_at g r) n (C.cell_at n Y r) (F.number_at z))) _ t h in
    set_long s r _ ∙ ap long (same_ok {E = RowFault} _ t a.2)

pub sides_long : (n R : ℕ) (Y z g s t : List Interval) → C.sides_of n R Y z g s ≡ Ok t → length s ≡ length t
sides_long n R Y z g s t h = kept long (C.side_step n Y z g) (side_long n Y z g) (upward 1 (R + 1)) s t h

lessen_side_long : (room : ℕ) (pairs : List Interval) (r : ℕ) (own : Interval) (q : ℕ) (s t : List Interval) → C.lessen_step room pairs r own q s ≡ Ok t → long s ≡ long t
unfolding C.lessen_step
lessen_side_long room pairs r own q s t h = put _ q s t h

lessen_sides_long : (room R : ℕ) (pairs : List Interval) (r : ℕ) (s t : List Interval) → C.lessen_row_step room R pairs r s ≡ Ok t → long s ≡ long t
unfolding C.lessen_row_step
lessen_sides_long room R pairs r s t h =
    kept long (C.lessen_step room pairs r (F.number_at s r)) (lessen_side_long room pairs r (F.number_at s r)) (upward (r + 1) (R + 1)) s t h

divide_side_long : (room : ℕ) (pairs : List Interval) (r : ℕ) (s t : List Interval) → C.right_divide_step room pairs r s ≡ Ok t → long s ≡ long t
unfolding C.right_divide_step
divide_side_long room pairs r s t h = put _ r s t h

force_long : (room R : ℕ) (pairs e : List Interval) (r : ℕ) (s t : List Interval) → C.force_step room R pairs e r s ≡ Ok t → long s ≡ long t
unfolding C.force_step
force_long room R pairs e r s t h = put _ r s t h

keep_long : (lam : List Interval) (r : ℕ) (s t : List Interval) → C.keep_step lam r s ≡ Ok t → long s ≡ long t
unfolding C.keep_step
keep_long lam r s t h = set_long s r _ ∙ ap long (same_ok {E = RowFault} _ t h)

pub record TwoLong (s t : Two) : Type 0 where
  pub e : length s.0 ≡ length t.0
  pub lam : length s.1 ≡ length t.1

pub row_forces_long : (room R : ℕ) (pairs : List Interval) (s t : Two) → C.row_forces_of room R pairs s ≡ Ok t → TwoLong s t
unfolding C.row_forces_of
row_forces_long room R pairs s t h =
    let a = then-ok (C.right_reduced_of room R pairs s.0) _ t h in
    let b = then-ok (C.right_divided_of room R pairs a.0) _ t a.2 in
    let c = then-ok (C.forces_of room R pairs b.0 s.1) _ t b.2 in
    let d = then-ok (C.kept_of R c.0 b.0) _ t c.2 in
    let e : (d.0, c.0) ≡ t = same_ok {E = RowFault} _ t d.2 in
    record {
      e =
          kept long (C.lessen_row_step room R pairs) (lessen_sides_long room R pairs) (upward 1 (R + 1)) s.0 a.0 a.1
          ∙ kept long (C.right_divide_step room pairs) (divide_side_long room pairs) (upward 1 (R + 1)) a.0 b.0 b.1
          ∙ kept long (C.keep_step c.0) (keep_long c.0) (upward 1 (R + 1)) b.0 d.0 d.1
          ∙ ap (λ (u : Two). length u.0) e;
      lam = kept long (C.force_step room R pairs b.0) (force_long room R pairs b.0) (downward 1 (R + 1)) s.1 c.0 c.1 ∙ ap (λ (u : Two). length u.1) e;
    }

add_long : (n R : ℕ) (Y lam : List Interval) (c : ℕ) (s t : List Interval) → C.add_step n R Y lam c s ≡ Ok t → long s ≡ long t
unfolding C.add_step
add_long n R Y lam c s t h = put _ c s t h

pub added_long : (n R : ℕ) (Y lam s t : List Interval) → C.added_of n R Y lam s ≡ Ok t → length s ≡ length t
added_long n R Y lam s t h = kept long (C.add_step n R Y lam) (add_long n R Y lam) (upward 1 (n + 1)) s t h
