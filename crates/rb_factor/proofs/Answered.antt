-- What the answers of the sweeps over a work say of it.
use Rattle.std.proofs.Common.{◌≡◌, ℕ, ◌≤◌, max, min, List, Result, Ok, Err, OnOk, refl, ap, sym, ◌∙◌, subst, arith}
use Rattle.rb_num.specs.Interval.{Interval}
use Rattle.rb_frac.specs.Frac.{Frac}
use Rattle.rb_sweep.specs.Sweep.{Answers}
use Rattle.rb_sweep.proofs.Told.{told_ok}
use Rattle.rb_work.specs.declared.names.RowFault.{RowFault}
use Rattle.rb_work.specs.Path.{above}
use Rattle.rb_work.specs.View.{View, IsSized, columns_of, M_at, L_at, D_at, w_at, z_at, x_at}
use Rattle.rb_elimination.specs.Paths.{IsColumn, IsAncestor}
use Rattle.rb_elimination.specs.Paths as P
use Rattle.rb_elimination.specs.Factors.{fraction_steps}
use Rattle.rb_elimination.specs.Solving.{IsFound}
use Rattle.rb_elimination.specs.Laws.{ArePivots}
use Rattle.rb_elimination.proofs.Related.{pivots_met, factors_met, reduced_met, substituted_met, found_met}
use Rattle.rb_elimination.proofs.Solutions.{factors_solve}
use Rattle.rb_elimination.proofs.Exists.{found_exists}
use Rattle.rb_factor.specs.Steps.{interval_steps}
use Rattle.rb_factor.specs.Factor.{HoldsDivisors, HoldsFactors, RefusesFactor}
use Rattle.rb_factor.specs.Solve.{HoldsReduced, HoldsDivided, HoldsSubstituted, HoldsSolution, RefusesReduce, RefusesDivide, RefusesSubstitute, RefusesSolve, by_reduce, by_divide, by_substitute}
use Rattle.rb_factor.specs.Laws.{NumbersLie, FactorsLie, EnclosesFactors, EnclosesReduced, EnclosesDivided, EnclosesSubstituted, EnclosesSolution}
use Rattle.rb_factor.specs.Sweeps.{entry_at, factor_of, reduce_of, divide_of, substitute_of}
use Rattle.rb_factor.proofs.Refusals.{divisor_told}
use Rattle.rb_factor.proofs.Paths.{regular, listed_on}
use Rattle.rb_work.proofs.PathLaws.{on_most}
use Rattle.rb_factor.proofs.Eliminated.{factors_done, factors_refused, factors_of, divisors_of}
use Rattle.rb_factor.proofs.Reducing.{reduced, reduction_refused}
use Rattle.rb_factor.proofs.Finding.{divided, division_refused, substituted, substitution_refused}
use Rattle.rb_factor.proofs.Relations.{fractions_lie, quotient_lies, nonzero}

-- ---- what is said of the work with its new list is said of the work
module _ (r : Result (Unit {0}) RowFault) (old new : View) (P : View → Type 0) where
  pub packed_told : Answers r (factor_of old.up old.packed) new.packed → new ≡ record old { packed = new.packed }
      → ((t : List Interval) → factor_of old.up old.packed ≡ Ok t → P (record old { packed = t })) → OnOk r (P new)
  packed_told a e h =
      subst (λ v. OnOk r (P v)) (sym e) (told_ok r (factor_of old.up old.packed) new.packed (λ t. P (record old { packed = t })) a h)

  pub w_told : Answers r (reduce_of old.up old.packed old.w) new.w → new ≡ record old { w = new.w }
      → ((t : List Interval) → reduce_of old.up old.packed old.w ≡ Ok t → P (record old { w = t })) → OnOk r (P new)
  w_told a e h = subst (λ v. OnOk r (P v)) (sym e) (told_ok r (reduce_of old.up old.packed old.w) new.w (λ t. P (record old { w = t })) a h)

  pub z_told : Answers r (divide_of old.up old.packed old.w old.z) new.z → new ≡ record old { z = new.z }
      → ((t : List Interval) → divide_of old.up old.packed old.w old.z ≡ Ok t → P (record old { z = t })) → OnOk r (P new)
  z_told a e h = subst (λ v. OnOk r (P v)) (sym e) (told_ok r (divide_of old.up old.packed old.w old.z) new.z (λ t. P (record old { z = t })) a h)

  pub x_told : Answers r (substitute_of old.up old.packed old.z old.x) new.x → new ≡ record old { x = new.x }
      → ((t : List Interval) → substitute_of old.up old.packed old.z old.x ≡ Ok t → P (record old { x = t })) → OnOk r (P new)
  x_told a e h = subst (λ v. OnOk r (P v)) (sym e) (told_ok r (substitute_of old.up old.packed old.z old.x) new.x (λ t. P (record old { x = t })) a h)

module _ (w : View) (sized : IsSized w) where
  ordered : P.IsRegular (columns_of w) (above w.up)
  ordered = regular w.up sized.extent.ascends

  -- on a path the greater number is that of the column
  mass_entry : (c d : ℕ) → IsColumn (columns_of w) c → P.IsOn (above w.up) c d → entry_at w.up w.packed c d ≡ M_at w c d
  mass_entry c d i o =
      let most : d ≤ c = on_most w.up sized.extent.ascends c d (listed_on w.up sized.extent.ascends c d i.from o) in
      let greater : max c d ≡ c = omega arith in
      let lesser : min c d ≡ d = omega arith in
      rw (greater, lesser) refl

  -- ---- factors
  pub factor_values : (t : List Interval) → factor_of w.up w.packed ≡ Ok t → HoldsFactors w (record w { packed = t })
  factor_values t h =
      let d = factors_done w.up sized.extent.ascends w.packed t h sized.packed (M_at w) mass_entry in
      record {
        table = d.0;
        are = factors_of (columns_of w) (above w.up) (M_at w) d.0 (entry_at w.up t) (λ c. entry_at w.up t c c) d.1;
        divisors = divisors_of (columns_of w) (above w.up) (M_at w) d.0 (entry_at w.up t) (λ c. entry_at w.up t c c) d.1;
      }

  pub factor_refused : (e : RowFault) → factor_of w.up w.packed ≡ Err e → RefusesFactor w e
  factor_refused e h = factors_refused w.up sized.extent.ascends w.packed e h sized.packed (M_at w) mass_entry

  pub factor_encloses : (t : List Interval) → factor_of w.up w.packed ≡ Ok t → EnclosesFactors w (record w { packed = t })
  unfolding fractions_lie
  factor_encloses t h =
      let k = factor_values t h in
      record {
        at = λ m table L D f lies.
            let diagonal : NumbersLie (columns_of w) D (D_at (record w { packed = t })) =
            pivots_met fractions_lie (columns_of w) (above w.up) ordered m table L D (M_at w) k.table (L_at (record w { packed = t })) (D_at (record w { packed = t })) f.factors k.are lies in
            record {
              pivots = λ c i. nonzero (D c) (D_at (record w { packed = t }) c) (diagonal c i) (k.divisors c i);
              factors =
                  factors_met fractions_lie (columns_of w) (above w.up) ordered m table L D (M_at w) k.table (L_at (record w { packed = t })) (D_at (record w { packed = t })) f.factors k.are lies;
              diagonal = diagonal;
            };
      }

  -- ---- the first step
  pub reduce_values : (t : List Interval) → reduce_of w.up w.packed w.w ≡ Ok t → HoldsReduced w (record w { w = t })
  reduce_values t h = let r = reduced w.up sized.extent.ascends w.packed w.w t h sized.w in record { left = r.0; is = r.1 }

  pub reduce_refused : (e : RowFault) → reduce_of w.up w.packed w.w ≡ Err e → RefusesReduce w e
  reduce_refused e h = reduction_refused w.up sized.extent.ascends w.packed w.w e h sized.w

  pub reduce_encloses : (t : List Interval) → reduce_of w.up w.packed w.w ≡ Ok t → EnclosesReduced w (record w { w = t })
  unfolding fractions_lie
  reduce_encloses t h =
      let k = reduce_values t h in
      record {
        at = λ L right left y factors lies is.
            reduced_met fractions_lie (columns_of w) (above w.up) ordered L (L_at w) factors right left y (w_at w) k.left (w_at (record w { w = t })) is k.is lies;
      }

  -- ---- quotients
  pub divide_values : (t : List Interval) → divide_of w.up w.packed w.w w.z ≡ Ok t → HoldsDivided w (record w { z = t })
  divide_values t h = divided w.up sized.extent.ascends w.packed w.w w.z t h sized.z

  pub divide_refused : HoldsDivisors w → (e : RowFault) → divide_of w.up w.packed w.w w.z ≡ Err e → RefusesDivide w e
  divide_refused divisors e h = division_refused w.up sized.extent.ascends w.packed w.w w.z e h divisors

  pub divide_encloses : (t : List Interval) → divide_of w.up w.packed w.w w.z ≡ Ok t → EnclosesDivided w (record w { z = t })
  divide_encloses t h =
      let k = divide_values t h in
      record { at = λ D y z diagonal lies is c i. quotient_lies (y c) (D c) (z c) (w_at w c) (D_at w c) (z_at (record w { z = t }) c) (is c i) (k c i) (lies c i) (diagonal c i) }

  -- ---- the last step
  pub substitute_values : (t : List Interval) → substitute_of w.up w.packed w.z w.x ≡ Ok t → HoldsSubstituted w (record w { x = t })
  substitute_values t h = let r = substituted w.up sized.extent.ascends w.packed w.z w.x t h sized.x in record { part = r.0; is = r.1 }

  pub substitute_refused : (e : RowFault) → substitute_of w.up w.packed w.z w.x ≡ Err e → RefusesSubstitute w e
  substitute_refused e h = substitution_refused w.up sized.extent.ascends w.packed w.z w.x e h sized.x

  pub substitute_encloses : (t : List Interval) → substitute_of w.up w.packed w.z w.x ≡ Ok t → EnclosesSubstituted w (record w { x = t })
  unfolding fractions_lie
  substitute_encloses t h =
      let k = substitute_values t h in
      record {
        at = λ L z part x factors lies is.
            substituted_met fractions_lie (columns_of w) (above w.up) ordered L (L_at w) factors z part x (z_at w) k.part (x_at (record w { x = t })) is k.is lies;
      }

  -- ---- the three steps in turn
  found_of : (held : View) → HoldsSolution w held → IsFound interval_steps (columns_of w) (above w.up) (L_at w) (D_at w) (w_at w) (x_at held)
  found_of held h = record {
    left = h.left;
    w = w_at held;
    z = z_at held;
    part = h.part;
    reduced = h.reduced;
    divided = h.divided;
    substituted = h.substituted;
  }

  solution_found : (held : View) → HoldsSolution w held → (L : ℕ → ℕ → Frac) (D right x : ℕ → Frac) →
      FactorsLie (columns_of w) (above w.up) L (L_at w) → NumbersLie (columns_of w) D (D_at w) → NumbersLie (columns_of w) right (w_at w) →
      IsFound fraction_steps (columns_of w) (above w.up) L D right x → NumbersLie (columns_of w) x (x_at held)
  unfolding fractions_lie
  solution_found held h L D right x factors diagonal lies f =
      found_met fractions_lie (columns_of w) (above w.up) ordered L (L_at w) factors D right x (D_at w) (w_at w) (x_at held) f (found_of held h) diagonal lies

  pub solution_encloses : (a b c : List Interval) → HoldsSolution w (record w { w = a; z = b; x = c }) → EnclosesSolution w (record w { w = a; z = b; x = c })
  solution_encloses a b c h =
      let held : View = record w { w = a; z = b; x = c } in
      record {
        found = solution_found held h;
        solution = λ m L D right factors diagonal lies has.
            let f = found_exists (columns_of w) (above w.up) L D right ordered in
            let pivots : ArePivots (columns_of w) D =
            λ k i. nonzero (D k) (D_at w k) (diagonal k i) (divisor_told (w_at held k) (D_at w k) (z_at held k) (h.divided k i)) in
            record {
              x = f.0;
              one = factors_solve (columns_of w) (above w.up) m L D right f.0 ordered has pivots f.1;
              lies = solution_found held h L D right f.0 factors diagonal lies f.1;
            };
      }

-- ---- one work after the other
in_turn : (w : View) (a b c : List Interval) → HoldsReduced w (record w { w = a }) → HoldsDivided (record w { w = a }) (record w { w = a; z = b })
    → HoldsSubstituted (record w { w = a; z = b }) (record w { w = a; z = b; x = c }) → HoldsSolution w (record w { w = a; z = b; x = c })
in_turn w a b c h k l = record { left = h.left; part = l.part; reduced = h.is; divided = k; substituted = l.is }

module _ (w s t u : View) (e : s ≡ record w { w = s.w }) (f : t ≡ record s { z = t.z }) (g : u ≡ record t { x = u.x }) where
  second : t ≡ record w { w = s.w; z = t.z }
  second = let put : View → View = λ v. record v { z = t.z } in f ∙ ap put e

  third : u ≡ record w { w = s.w; z = t.z; x = u.x }
  third = let put : View → View = λ v. record v { x = u.x } in g ∙ ap put second

  pub solution_values : HoldsReduced w s → HoldsDivided s t → HoldsSubstituted t u → HoldsSolution w u
  solution_values h k l =
      subst (λ v. HoldsSolution w v) (sym third)
      (in_turn w s.w t.z u.x (subst (λ v. HoldsReduced w v) e h)
      (subst (λ v. HoldsDivided (record w { w = s.w }) v) second (subst (λ v. HoldsDivided v t) e k))
      (subst (λ v. HoldsSubstituted (record w { w = s.w; z = t.z }) v) third (subst (λ v. HoldsSubstituted v u) second l)))

  pub solution_lies : IsSized w → HoldsReduced w s → HoldsDivided s t → HoldsSubstituted t u → EnclosesSolution w u
  solution_lies sized h k l =
      subst (λ v. EnclosesSolution w v) (sym third)
      (solution_encloses w sized s.w t.z u.x (subst (λ v. HoldsSolution w v) third (solution_values h k l)))

pub refused_by_reduce : (w : View) (e : RowFault) → RefusesReduce w e → RefusesSolve w e
refused_by_reduce w e h = by_reduce h

pub refused_by_divide : (w s : View) (e : RowFault) → s ≡ record w { w = s.w } → HoldsReduced w s → RefusesDivide s e → RefusesSolve w e
refused_by_divide w s e q h r =
    let k : HoldsReduced w (record w { w = s.w }) = subst (λ v. HoldsReduced w v) q h in
    by_divide k.left (w_at (record w { w = s.w })) k.is (subst (λ v. RefusesDivide v e) q r)

pub refused_by_substitute : (w s t : View) (e : RowFault) → s ≡ record w { w = s.w } → t ≡ record s { z = t.z } → HoldsReduced w s → HoldsDivided s t → RefusesSubstitute t e
    → RefusesSolve w e
refused_by_substitute w s t e q p h k r =
    let both : t ≡ record w { w = s.w; z = t.z } = second w s t t q p refl in
    let a : HoldsReduced w (record w { w = s.w }) = subst (λ v. HoldsReduced w v) q h in
    by_substitute a.left (w_at (record w { w = s.w })) (z_at (record w { w = s.w; z = t.z })) a.is
    (subst (λ v. HoldsDivided (record w { w = s.w }) v) both (subst (λ v. HoldsDivided v t) q k)) (subst (λ v. RefusesSubstitute v e) both r)
