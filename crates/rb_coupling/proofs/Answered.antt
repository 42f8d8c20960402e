-- What the answers of the sweeps over a work say of it.
use Rattle.std.proofs.Common.{◌≡◌, ℕ, ◌≤◌, List, length, Result, Ok, Err, OnOk, sym, ◌∙◌, subst, inl, inr}
use Rattle.rb_result.specs.Steps.{◌>>=◌}
use Rattle.rb_result.proofs.Results.{same_ok, then-ok, then-err}
use Rattle.rb_num.specs.Interval.{Interval}
use Rattle.rb_sweep.specs.Sweep.{Answers}
use Rattle.rb_sweep.proofs.Told.{told_ok}
use Rattle.rb_work.specs.declared.names.RowFault.{RowFault}
use Rattle.rb_work.specs.Path.{above}
use Rattle.rb_work.specs.View.{View, IsSized, columns_of, L_at, D_at, J_at, Y_at, Z_at, C_at, l_at, w_at, z_at, g_at, e_at, lam_at}
use Rattle.rb_elimination.specs.Paths.{IsColumn}
use Rattle.rb_elimination.specs.Paths as P
use Rattle.rb_factor.specs.Factor.{HoldsDivisors}
use Rattle.rb_factor.specs.Sweeps.{number_at}
use Rattle.rb_factor.proofs.Paths.{regular}
use Rattle.rb_factor.proofs.Relations.{fractions_lie, nonzero}
use Rattle.rb_bordered.specs.Forces.{HaveRowFactors}
use Rattle.rb_coupling.specs.Steps.{interval_row_steps, of_row}
use Rattle.rb_coupling.specs.Couple.{HoldsRowDivisors, HoldsCoupling, RefusesCouple, IsCoupleRefused, by_row, by_entry, by_elimination}
use Rattle.rb_coupling.specs.Forces.{HoldsRowSides, HoldsRowForces, HoldsAddedForces, RefusesRowSides, RefusesRowForces, RefusesAddedForces}
use Rattle.rb_coupling.specs.Laws.{EnclosesCoupling, EnclosesRowSides, EnclosesRowForces, EnclosesAddedForces}
use Rattle.rb_coupling.specs.Sweeps.{cell_at, rows_of, coupled_of, eliminated_of, couple_of, sides_of, right_reduced_of, right_divided_of, forces_of, kept_of, row_forces_of, added_of}
use Rattle.rb_coupling.proofs.Cells.{Fits}
use Rattle.rb_coupling.proofs.AllRows.{Room, rows_done, rows_refused}
use Rattle.rb_coupling.proofs.Entries.{coupled, coupled_long, coupling_refused}
use Rattle.rb_coupling.proofs.Elimination.{eliminated, elimination_refused}
use Rattle.rb_coupling.proofs.Forcing.{sides_told, sides_refused, added_told, added_refused, right_reduced, right_reduction_refused, right_divided, right_divided_long, right_division_refused, forces_told, forces_refused, kept_is, kept_answers}
use Rattle.rb_coupling.proofs.Meeting.{row_factors_met, right_met, sides_met, added_met}
use Rattle.rb_coupling.proofs.Enclosing.{rows_lie}

abbrev pub Three : Type 0
Three = List Interval × List Interval × List Interval

abbrev three : List Interval → List Interval → List Interval → Result Three RowFault
three Y Z pairs = Ok (Y, Z, pairs)

abbrev two : List Interval → List Interval → Result (List Interval × List Interval) RowFault
two e lam = Ok (e, lam)

-- ---- what is said of the work with its new lists is said of the work
module _ (r : Result (Unit {0}) RowFault) (R : ℕ) (old new : View) (P : View → Type 0) where
  pub couple_told : (mus : List Interval) → Answers r (couple_of old.up old.rows R old.packed old.J mus (old.Y, old.Z, old.pairs)) (new.Y, new.Z, new.pairs)
      → new ≡ record old { Y = new.Y; Z = new.Z; pairs = new.pairs }
      → ((t : Three) → couple_of old.up old.rows R old.packed old.J mus (old.Y, old.Z, old.pairs) ≡ Ok t → P (record old { Y = t.0; Z = t.1; pairs = t.2 })) → OnOk r (P new)
  couple_told mus a e h =
      subst (λ v. OnOk r (P v)) (sym e)
      (told_ok r (couple_of old.up old.rows R old.packed old.J mus (old.Y, old.Z, old.pairs)) (new.Y, new.Z, new.pairs) (λ t. P (record old { Y = t.0; Z = t.1; pairs = t.2 })) a h)

  pub sides_told_of : Answers r (sides_of (columns_of old) R old.Y old.z old.g old.e) new.e → new ≡ record old { e = new.e }
      → ((t : List Interval) → sides_of (columns_of old) R old.Y old.z old.g old.e ≡ Ok t → P (record old { e = t })) → OnOk r (P new)
  sides_told_of a e h =
      subst (λ v. OnOk r (P v)) (sym e) (told_ok r (sides_of (columns_of old) R old.Y old.z old.g old.e) new.e (λ t. P (record old { e = t })) a h)

  pub forces_told_of : Answers r (row_forces_of old.rows R old.pairs (old.e, old.lam)) (new.e, new.lam) → new ≡ record old { e = new.e; lam = new.lam }
      → ((t : List Interval × List Interval) → row_forces_of old.rows R old.pairs (old.e, old.lam) ≡ Ok t → P (record old { e = t.0; lam = t.1 })) → OnOk r (P new)
  forces_told_of a e h =
      subst (λ v. OnOk r (P v)) (sym e)
      (told_ok r (row_forces_of old.rows R old.pairs (old.e, old.lam)) (new.e, new.lam) (λ t. P (record old { e = t.0; lam = t.1 })) a h)

  pub added_told_of : Answers r (added_of (columns_of old) R old.Y old.lam old.w) new.w → new ≡ record old { w = new.w }
      → ((t : List Interval) → added_of (columns_of old) R old.Y old.lam old.w ≡ Ok t → P (record old { w = t })) → OnOk r (P new)
  added_told_of a e h =
      subst (λ v. OnOk r (P v)) (sym e) (told_ok r (added_of (columns_of old) R old.Y old.lam old.w) new.w (λ t. P (record old { w = t })) a h)

module _ (w : View) (sized : IsSized w) (R : ℕ) (within : R ≤ w.rows) where
  ordered : P.IsRegular (columns_of w) (above w.up)
  ordered = regular w.up sized.extent.ascends

  room : Room w.up sized.extent.ascends w.packed w.J w.rows R within (w.Y, w.Z)
  room = record { Y = sized.Y; Z = sized.Z }

  -- ---- the coupling
  module _ (mus : List Interval) where
    -- its three steps
    record Parts (t : Three) : Type 0 where
      both : List Interval × List Interval
      G : List Interval
      rows : rows_of w.up R w.packed w.J (w.Y, w.Z) ≡ Ok both
      entries : coupled_of (columns_of w) w.rows R mus both.0 both.1 w.pairs ≡ Ok G
      pairs : List Interval
      elimination : eliminated_of w.rows R G ≡ Ok pairs
      all : (both.0, both.1, pairs) ≡ t

    parts : (t : Three) → couple_of w.up w.rows R w.packed w.J mus (w.Y, w.Z, w.pairs) ≡ Ok t → Parts t
    unfolding couple_of
    parts t h =
        let a = then-ok (rows_of w.up R w.packed w.J (w.Y, w.Z))
        (λ u. coupled_of (columns_of w) w.rows R mus u.0 u.1 w.pairs >>= λ G. eliminated_of w.rows R G >>= λ pairs. three u.0 u.1 pairs) t h in
        let b = then-ok (coupled_of (columns_of w) w.rows R mus a.0.0 a.0.1 w.pairs) (λ G. eliminated_of w.rows R G >>= λ pairs. three a.0.0 a.0.1 pairs) t a.2 in
        let c = then-ok (eliminated_of w.rows R b.0) (λ pairs. three a.0.0 a.0.1 pairs) t b.2 in
        record { both = a.0; G = b.0; rows = a.1; entries = b.1; pairs = c.0; elimination = c.1; all = same_ok (a.0.0, a.0.1, c.0) t c.2 }

    values_of : (both : List Interval × List Interval) (G pairs : List Interval) → rows_of w.up R w.packed w.J (w.Y, w.Z) ≡ Ok both →
        coupled_of (columns_of w) w.rows R mus both.0 both.1 w.pairs ≡ Ok G → eliminated_of w.rows R G ≡ Ok pairs →
        HoldsCoupling R w (record w { Y = both.0; Z = both.1; pairs = pairs }) (of_row mus)
    values_of both G pairs a b c =
        let rows = rows_done w.up sized.extent.ascends w.packed w.J w.rows R within (w.Y, w.Z) both a room in
        let entries = coupled (columns_of w) w.rows R within mus both.0 both.1 (above w.up) w.pairs G b sized.pairs in
        let fit : Fits w.rows w.rows G = sym (coupled_long (columns_of w) w.rows R within mus both.0 both.1 w.pairs G b) ∙ sized.pairs in
        let gone = eliminated w.rows R within G pairs c fit in
        record {
          left = rows.0;
          alone = entries.0;
          G = cell_at w.rows G;
          table = gone.0;
          reduced = rows.1;
          coupled = entries.1;
          eliminated = gone.1;
          divisors = gone.2;
        }

    pub couple_values : (t : Three) → couple_of w.up w.rows R w.packed w.J mus (w.Y, w.Z, w.pairs) ≡ Ok t → HoldsCoupling R w (record w { Y = t.0; Z = t.1; pairs = t.2 }) (of_row mus)
    couple_values t h =
        let p = parts t h in
        subst (λ (u : Three). HoldsCoupling R w (record w { Y = u.0; Z = u.1; pairs = u.2 }) (of_row mus)) p.all (values_of p.both p.G p.pairs p.rows p.entries p.elimination)

    abbrev Refused : RowFault → Type 0
    Refused e = IsCoupleRefused (columns_of w) (above w.up) R (L_at w) (D_at w) (J_at w) (of_row mus) e

    told_refused : HoldsDivisors w → (e : RowFault) → couple_of w.up w.rows R w.packed w.J mus (w.Y, w.Z, w.pairs) ≡ Err e → Refused e
    unfolding couple_of
    told_refused divisors e h =
        elim (then-err (rows_of w.up R w.packed w.J (w.Y, w.Z))
        (λ u. coupled_of (columns_of w) w.rows R mus u.0 u.1 w.pairs >>= λ G. eliminated_of w.rows R G >>= λ pairs. three u.0 u.1 pairs) e h) [
          | inl k ↦
              let r = rows_refused w.up sized.extent.ascends w.packed w.J w.rows R within (w.Y, w.Z) e k room divisors in
              by_row r.before r.left r.Y r.Z r.less r.until r.refused
          | inr a ↦ behind a.0 a.1 a.2
        ]
      where
        eliminated_told : (both : List Interval × List Interval) (G : List Interval) → rows_of w.up R w.packed w.J (w.Y, w.Z) ≡ Ok both →
            coupled_of (columns_of w) w.rows R mus both.0 both.1 w.pairs ≡ Ok G → (eliminated_of w.rows R G >>= λ pairs. three both.0 both.1 pairs) ≡ Err e → Refused e
        eliminated_told both G a b h =
            elim (then-err (eliminated_of w.rows R G) (λ pairs. three both.0 both.1 pairs) e h) [
              | inl k ↦
                  let rows = rows_done w.up sized.extent.ascends w.packed w.J w.rows R within (w.Y, w.Z) both a room in
                  let entries = coupled (columns_of w) w.rows R within mus both.0 both.1 (above w.up) w.pairs G b sized.pairs in
                  let fit : Fits w.rows w.rows G = sym (coupled_long (columns_of w) w.rows R within mus both.0 both.1 w.pairs G b) ∙ sized.pairs in
                  let r = elimination_refused w.rows R within G e k fit in
                  by_elimination rows.0 (cell_at (columns_of w) both.0) (cell_at (columns_of w) both.1) entries.0 (cell_at w.rows G) r.before r.table r.l r.C rows.1 entries.1 r.less r.until r.refused
              | inr p ↦ absurd cc
            ]

        behind : (both : List Interval × List Interval) → rows_of w.up R w.packed w.J (w.Y, w.Z) ≡ Ok both →
            (coupled_of (columns_of w) w.rows R mus both.0 both.1 w.pairs >>= λ G. eliminated_of w.rows R G >>= λ pairs. three both.0 both.1 pairs) ≡ Err e → Refused e
        behind both a h =
            elim (then-err (coupled_of (columns_of w) w.rows R mus both.0 both.1 w.pairs) (λ G. eliminated_of w.rows R G >>= λ pairs. three both.0 both.1 pairs) e h) [
              | inl k ↦
                  let rows = rows_done w.up sized.extent.ascends w.packed w.J w.rows R within (w.Y, w.Z) both a room in
                  let r = coupling_refused (columns_of w) w.rows R within mus both.0 both.1 w.pairs e k sized.pairs in
                  by_entry rows.0 (cell_at (columns_of w) both.0) (cell_at (columns_of w) both.1) r.later r.earlier rows.1 r.row r.entry r.until r.refused r.named
              | inr p ↦ eliminated_told both p.0 a p.1 p.2
            ]

    pub couple_refused : length mus ≡ R → HoldsDivisors w → (e : RowFault) → couple_of w.up w.rows R w.packed w.J mus (w.Y, w.Z, w.pairs) ≡ Err e → RefusesCouple w mus e
    couple_refused count divisors e h =
        subst (λ m. IsCoupleRefused (columns_of w) (above w.up) m (L_at w) (D_at w) (J_at w) (of_row mus) e) (sym count) (told_refused divisors e h)

    pub couple_encloses : (t : Three) → couple_of w.up w.rows R w.packed w.J mus (w.Y, w.Z, w.pairs) ≡ Ok t → EnclosesCoupling R w (record w { Y = t.0; Z = t.1; pairs = t.2 }) (of_row mus)
    unfolding rows_lie fractions_lie
    couple_encloses t h =
        let held : View = record w { Y = t.0; Z = t.1; pairs = t.2 } in
        let k = couple_values t h in
        let have : HaveRowFactors interval_row_steps (columns_of w) (above w.up) R (L_at w) (D_at w) (J_at w) (of_row mus) (Y_at held) (l_at held) (C_at held) =
        record { left = k.left; Z = Z_at held; alone = k.alone; G = k.G; table = k.table; reduced = k.reduced; coupled = k.coupled; eliminated = k.eliminated } in
        record {
          at = λ L D J mu Y l C factors diagonal rows compliances is.
              let m = row_factors_met rows_lie R (columns_of w) (above w.up) ordered L D (L_at w) (D_at w) factors diagonal J mu Y l C (J_at w) (of_row mus) (Y_at held) (l_at held) (C_at held) is have rows compliances in
              record {
                pivots = λ r i. nonzero (C r) (C_at held r) (m.pivots r i) (k.divisors r i);
                rows = m.rows;
                quotients = m.quotients;
                diagonal = m.pivots;
              };
        }

  -- ---- the right side
  pub sides_values : (t : List Interval) → sides_of (columns_of w) R w.Y w.z w.g w.e ≡ Ok t → HoldsRowSides R w (record w { e = t })
  sides_values t h = let r = sides_told (columns_of w) w.rows R within w.Y w.z w.g w.e t h sized.e in record { without = r.0; total = r.1; are = r.2 }

  pub sides_refused_of : (e : RowFault) → sides_of (columns_of w) R w.Y w.z w.g w.e ≡ Err e → RefusesRowSides R w e
  sides_refused_of e h = sides_refused (columns_of w) w.rows R within w.Y w.z w.g w.e e h

  pub sides_encloses : (t : List Interval) → sides_of (columns_of w) R w.Y w.z w.g w.e ≡ Ok t → EnclosesRowSides R w (record w { e = t })
  unfolding rows_lie fractions_lie
  sides_encloses t h =
      let k = sides_values t h in
      record {
        at = λ Y z g without total e rows numbers accelerations is.
            sides_met rows_lie R (columns_of w) Y z g without total e (Y_at w) (z_at w) (g_at w) k.without k.total (number_at t) is k.are rows numbers accelerations;
      }

  -- ---- the forces
  -- what follows the right side once it is reduced, divided, and the forces are found
  abbrev kept_after : List Interval → List Interval → Result (List Interval × List Interval) RowFault
  kept_after d lam = kept_of R lam d >>= λ e. two e lam

  abbrev found_after : List Interval → Result (List Interval × List Interval) RowFault
  found_after d = forces_of w.rows R w.pairs d w.lam >>= λ lam. kept_after d lam

  abbrev divided_after : List Interval → Result (List Interval × List Interval) RowFault
  divided_after r = right_divided_of w.rows R w.pairs r >>= λ d. found_after d

  record ForceParts (t : List Interval × List Interval) : Type 0 where
    reduced : List Interval
    divided : List Interval
    reduces : right_reduced_of w.rows R w.pairs w.e ≡ Ok reduced
    divides : right_divided_of w.rows R w.pairs reduced ≡ Ok divided
    finds : forces_of w.rows R w.pairs divided w.lam ≡ Ok t.1
    keeps : kept_of R t.1 divided ≡ Ok t.0

  force_parts : (t : List Interval × List Interval) → row_forces_of w.rows R w.pairs (w.e, w.lam) ≡ Ok t → ForceParts t
  unfolding row_forces_of
  force_parts t h =
      let a = then-ok (right_reduced_of w.rows R w.pairs w.e) (λ r. divided_after r) t h in
      let b = then-ok (right_divided_of w.rows R w.pairs a.0) (λ d. found_after d) t a.2 in
      let c = then-ok (forces_of w.rows R w.pairs b.0 w.lam) (λ lam. kept_after b.0 lam) t b.2 in
      let d = then-ok (kept_of R c.0 b.0) (λ e. two e c.0) t c.2 in
      let all : (d.0, c.0) ≡ t = same_ok (d.0, c.0) t d.2 in
      subst (λ (u : List Interval × List Interval). ForceParts u) all (record { reduced = a.0; divided = b.0; reduces = a.1; divides = b.1; finds = c.1; keeps = d.1 })

  pub forces_values : (t : List Interval × List Interval) → row_forces_of w.rows R w.pairs (w.e, w.lam) ≡ Ok t → HoldsRowForces R w (record w { e = t.0; lam = t.1 })
  forces_values t h =
      let p = force_parts t h in
      let a = right_reduced w.rows R within w.pairs w.e p.reduced p.reduces sized.e in
      let b = right_divided_long w.rows R within w.pairs p.reduced p.divided p.divides in
      let c = forces_told w.rows R within w.pairs p.divided w.lam t.1 p.finds sized.lam in
      record {
        left = a.0;
        reduced = number_at p.reduced;
        divided = number_at p.divided;
        part = c.0;
        right_reduced = a.1;
        right_divided = right_divided w.rows R within w.pairs p.reduced p.divided p.divides a.2;
        forces = c.1;
        kept = kept_is w.rows R within t.1 p.divided t.0 p.keeps (sym b ∙ a.2);
      }

  pub forces_refused_of : HoldsRowDivisors R w → (e : RowFault) → row_forces_of w.rows R w.pairs (w.e, w.lam) ≡ Err e → RefusesRowForces R w e
  unfolding row_forces_of
  forces_refused_of divisors e h =
      elim (then-err (right_reduced_of w.rows R w.pairs w.e) (λ r. divided_after r) e h) [
        | inl k ↦ right_reduction_refused w.rows R within w.pairs (C_at w) w.e e k sized.e
        | inr a ↦ behind a.0 a.1 a.2
      ]
    where
      never : (divided lam : List Interval) → kept_after divided lam ≡ Err e → ⊥
      never divided lam h =
          elim (then-err (kept_of R lam divided) (λ e. two e lam) e h) [
            | inl k ↦ kept_answers w.rows R within lam divided e k
            | inr p ↦ absurd cc
          ]

      last : (reduced divided : List Interval) → right_reduced_of w.rows R w.pairs w.e ≡ Ok reduced → right_divided_of w.rows R w.pairs reduced ≡ Ok divided →
          found_after divided ≡ Err e → RefusesRowForces R w e
      last reduced divided a b h =
          elim (then-err (forces_of w.rows R w.pairs divided w.lam) (λ lam. kept_after divided lam) e h) [
            | inl k ↦
                let r = right_reduced w.rows R within w.pairs w.e reduced a sized.e in
                forces_refused w.rows R within w.pairs divided (C_at w) (e_at w) r.0 (number_at reduced) w.lam e r.1
                (right_divided w.rows R within w.pairs reduced divided b r.2) k sized.lam
            | inr p ↦ absurd (never divided p.0 p.2)
          ]

      behind : (reduced : List Interval) → right_reduced_of w.rows R w.pairs w.e ≡ Ok reduced → divided_after reduced ≡ Err e → RefusesRowForces R w e
      behind reduced a h =
          elim (then-err (right_divided_of w.rows R w.pairs reduced) (λ d. found_after d) e h) [
            | inl k ↦ let r = right_reduced w.rows R within w.pairs w.e reduced a sized.e in right_division_refused w.rows R within w.pairs w.e reduced r.0 e r.1 divisors k
            | inr p ↦ last reduced p.0 a p.1 p.2
          ]

  pub forces_encloses : (t : List Interval × List Interval) → row_forces_of w.rows R w.pairs (w.e, w.lam) ≡ Ok t → EnclosesRowForces R w (record w { e = t.0; lam = t.1 })
  unfolding rows_lie fractions_lie
  forces_encloses t h =
      let k = forces_values t h in
      record {
        at = λ l C e left reduced divided part lam quotients pivots side right divides forces.
            right_met rows_lie R l (l_at w) quotients C e left reduced divided part lam (C_at w) (e_at w) k.left k.reduced k.divided k.part (number_at t.1)
            right divides forces k.right_reduced k.right_divided k.forces pivots side;
      }

  -- ---- what the forces add
  pub added_values : (t : List Interval) → added_of (columns_of w) R w.Y w.lam w.w ≡ Ok t → HoldsAddedForces R w (record w { w = t })
  added_values t h = let r = added_told (columns_of w) R w.Y w.lam w.w t h sized.w in record { more = r.0; are = r.1 }

  pub added_refused_of : (e : RowFault) → added_of (columns_of w) R w.Y w.lam w.w ≡ Err e → RefusesAddedForces R w e
  added_refused_of e h = added_refused (columns_of w) R w.Y w.lam w.w e h

  pub added_encloses : (t : List Interval) → added_of (columns_of w) R w.Y w.lam w.w ≡ Ok t → EnclosesAddedForces R w (record w { w = t })
  unfolding rows_lie fractions_lie
  added_encloses t h =
      let k = added_values t h in
      record {
        at = λ Y x lam more added rows numbers forces is.
            added_met rows_lie R (columns_of w) Y x lam more added (Y_at w) (w_at w) (lam_at w) k.more (number_at t) is k.are rows numbers forces;
      }
