-- The turns of the bodies and the vectors of the rows lie in the values of the work.
use Rattle.std.proofs.Common.{◌≡◌, ℕ, zero, suc, ◌<◌, ◌≤◌, ◌==◌, Bool, true, false, if◌then◌else◌, List, [], ◌∷◌, length, slice_index_or, Ok, refl, sym, subst, arith}
use Rattle.rb_result.proofs.Results.{same_ok, then-ok, told-ok}
use Rattle.rb_frac.specs.Ops.{V3, vdot}
use Rattle.rb_frac.specs.Frac.{Frac, Same, fracs}
use Rattle.rb_frac.specs.Pairs.{dot}
use Rattle.rb_frac.specs.Tables.{Table, Tables, Vectors, identity, table_product, row as row_in}
use Rattle.rb_frac.specs.Spatial.{Force, Spatials}
use Rattle.rb_frac.proofs.Ring.{expr}
use Rattle.rb_frac.proofs.Variables.{rows, of_rows, tables}
use Rattle.rb_num.specs.Interval.{Interval}
use Rattle.rb_num.specs.Fraction.{LiesIn}
use Rattle.rb_num.specs.Arith.{intervals, fractions, signs_of}
use Rattle.rb_num.specs.declared.interval.NumFault.{NumFault}
use Rattle.rb_num.proofs.Same.{lies_in_same}
use Rattle.rb_num.proofs.Relates.{Met}
use Rattle.rb_num.proofs.Bridges.{to_intervals, ok_met, one_lies, expressions}
use Rattle.rb_spatial.specs.Carrying.{product, row_mul}
use Rattle.rb_spatial.proofs.Keep.{cross3_met, product_met, transpose_rel}
use Rattle.rb_flat.specs.Shape as Flat
use Rattle.rb_flat.specs.Mechanism.{Mechanism}
use Rattle.rb_flat.specs.Contact.{Constraints, HasRow, RowsFit, AreTurns}
use Rattle.rb_composite.proofs.Adding.{then_lies}
use Rattle.rb_jacobian.specs.Rules.{row_vector}
use Rattle.rb_jacobian.specs.Jacobian.{first_vector, second_vector}
use Rattle.rb_jacobian.proofs.Turns.{tables_sym}
use Rattle.rb_work.specs.View.{View, O_at, K_at}
use Rattle.rb_work.specs.Zeros.{zero_force}
use Rattle.rb_tree.specs.Columns.{parent_at}
use Rattle.rb_tree.specs.Robot.{Tree, HasBody, AreBodies}
use Rattle.rb_tree.specs.Shape.{shape_of}
use Rattle.rb_constraint.specs.Constraints.{IsConstraintChoice}
use Rattle.rb_constraint.specs.Rows.{no_turn, turn_by, O_rule, force_by, forces_by, K_rule, first_force, second_force}
use Rattle.rb_constraint.specs.Encloses.{PlacesLie, TurnsLie, VectorsLie}

-- ---- turns
vectors_lie : {u v : V3 Frac} {w : V3 Interval} → Vectors Same u v → Vectors LiesIn u w → Vectors LiesIn v w
vectors_lie s h = record { x = lies_in_same _ _ _ s.x h.x; y = lies_in_same _ _ _ s.y h.y; z = lies_in_same _ _ _ s.z h.z }

tables_lie : {u v : Table Frac} {w : Table Interval} → Tables Same u v → Tables LiesIn u w → Tables LiesIn v w
tables_lie s h = record { x = vectors_lie s.x h.x; y = vectors_lie s.y h.y; z = vectors_lie s.z h.z }

identity_lies : Tables LiesIn (identity (signs_of fractions)) no_turn
identity_lies =
    let o = to_intervals.zero in
    record { x = record { x = one_lies; y = o; z = o }; y = record { x = o; y = one_lies; z = o }; z = record { x = o; y = o; z = one_lies } }

product_same : (s t : Table Frac) → Tables Same (product fractions s t) (table_product fracs s t)
unfolding product row_mul dot table_product vdot
product_same s t = tables (of_rows s (of_rows t [])) (product expressions (rows 0) (rows 9)) (table_product expr (rows 0) (rows 9)) (refl, refl, refl) (refl, refl, refl) (refl, refl, refl)

module _ (tree : Tree) (kept : AreBodies tree.bodies) (m : Mechanism Frac) (turn : ℕ → Table Frac) (w : View) (turns : AreTurns fracs (shape_of tree) m Same turn)
    (places : PlacesLie tree m w) (at_world : O_at w 0 ≡ no_turn) (each : (i : ℕ) → HasBody tree i → O_rule tree i w ≡ Ok (O_at w i)) where
  turn_within : (n i : ℕ) → i < n → i ≤ length tree.bodies → Tables LiesIn (turn i) (O_at w i)
  unfolding O_rule turn_by
  turn_within zero i l h = absurd (omega arith)
  turn_within (suc n) zero l h = tables_lie (tables_sym turns.world) (subst (λ (t : Table Interval). Tables LiesIn (identity (signs_of fractions)) t) (sym at_world) identity_lies)
  turn_within (suc n) (suc j) l h =
      let there : HasBody tree (suc j) = record { from = omega arith; to = h } in
      let below : parent_at tree.bodies (suc j) < suc j = kept.parents (suc j) there.from in
      let there_flat : Flat.HasBody (shape_of tree) (suc j) = record { from = there.from; to = there.to } in
      tables_lie (tables_sym (turns.each (suc j) there_flat))
      (tables_lie (product_same _ _)
      (ok_met (told-ok _ _ _ (each (suc j) there))
      (product_met to_intervals (turn_within n (parent_at tree.bodies (suc j)) (omega (arith, below, l)) (omega (arith, below, h))) (transpose_rel to_intervals (places (suc j) there).e))))

  pub turns_lie : TurnsLie tree turn w
  turns_lie i h = turn_within (suc i) i (omega arith) h

-- ---- vectors
vector_met : (turns : Bool) {d q : V3 Frac} {v p : V3 Interval} → Vectors LiesIn d v → Vectors LiesIn q p
    → Met to_intervals (Spatials LiesIn) (row_vector fractions turns d q) (row_vector intervals turns v p)
unfolding row_vector
vector_met true hd hq =
    let o = to_intervals.zero in
    record { met = record { lin = record { x = o; y = o; z = o }; ang = hd } }
vector_met false hd hq = then_lies (cross3_met to_intervals hq hd) (λ n hn. record { met = record { lin = hd; ang = hn } })

pub row_lies : (i : ℕ) {t : Table Frac} {v : Table Interval} → Tables LiesIn t v → Vectors LiesIn (row_in t i) (row_in v i)
row_lies i {t = t} {v = v} h = first (i == 0) (i == 1)
  where
    first : (b c : Bool) → Vectors LiesIn (if b then t.x else (if c then t.y else t.z)) (if b then v.x else (if c then v.y else v.z))
    first true c = h.x
    first false true = h.y
    first false false = h.z

pub listed : (list : Constraints Interval) (k : Constraints Frac) → IsConstraintChoice list k → (r : ℕ) → HasRow k r → HasRow list r
listed list k chosen r has = let from = has.from in let to = has.to in let e = chosen.rows in record { from = from; to = omega arith }

module _ (tree : Tree) (list : Constraints Interval) (k : Constraints Frac) (turn : ℕ → Table Frac) (w : View) (fit : RowsFit (shape_of tree) list)
    (chosen : IsConstraintChoice list k) (turns : TurnsLie tree turn w) (each : (r : ℕ) → HasRow list r → K_rule list r w ≡ Ok (K_at w r)) where
  both_lie : (r : ℕ) → HasRow list r → Spatials LiesIn (first_vector k turn r) (first_force w r) × Spatials LiesIn (second_vector k turn r) (second_force w r)
  unfolding K_rule forces_by force_by
  both_lie r has =
      let one_force = told-ok _ _ _ (each r has) in
      let f = then-ok (force_by (list.row r) w (list.row r).first (list.numbers r).first_point) _ _ one_force in
      let g = then-ok (force_by (list.row r) w (list.row r).second (list.numbers r).second_point) _ _ f.2 in
      let pair : f.0 ∷ g.0 ∷ [] ≡ K_at w r = same_ok {E = NumFault} _ _ g.2 in
      let numbers = chosen.numbers r has in
      let e = chosen.row r has in
      let axis = (list.row r).axis in
      let first : Spatials LiesIn (row_vector fractions (list.row r).turns (row_in (turn (list.row r).first) axis) (k.numbers r).first_point) f.0 =
      ok_met f.1 (vector_met (list.row r).turns (row_lies axis (turns (list.row r).first (fit r has).first)) numbers.first_point) in
      let second : Spatials LiesIn (row_vector fractions (list.row r).turns (row_in (turn (list.row r).second) axis) (k.numbers r).second_point) g.0 =
      ok_met g.1 (vector_met (list.row r).turns (row_lies axis (turns (list.row r).second (fit r has).second)) numbers.second_point) in (
        subst (λ (xs : List (Force Interval)). Spatials LiesIn (first_vector k turn r) (slice_index_or xs 0 zero_force)) pair (rw e first),
        subst (λ (xs : List (Force Interval)). Spatials LiesIn (second_vector k turn r) (slice_index_or xs 1 zero_force)) pair (rw e second),
      )

  pub vectors_lie_in : VectorsLie k turn w
  vectors_lie_in = record { first = λ r has. (both_lie r (listed list k chosen r has)).0; second = λ r has. (both_lie r (listed list k chosen r has)).1 }
