-- The turns, the vectors and the Jacobian of the rows of each choice lie in the values of a work.
use Rattle.std.proofs.Common.{◌≡◌, ℕ, ◌+◌, ◌≤◌, [], ◌∷◌, Option, None, Some, Ok, refl, sym, subst}
use Rattle.std.specs.Option.{option_map_or}
use Rattle.rb_result.proofs.Results.{same_ok, then-ok, told-ok}
use Rattle.rb_frac.specs.Frac.{Frac, Same, fracs, mul}
use Rattle.rb_frac.specs.Ops.{minus}
use Rattle.rb_frac.specs.Tables.{Table}
use Rattle.rb_frac.specs.Spatial.{Force, Spatials, Motions}
use Rattle.rb_frac.proofs.Ring.{expr, var}
use Rattle.rb_frac.proofs.Reduce.{same_sym}
use Rattle.rb_frac.proofs.Hom.{frac_ring}
use Rattle.rb_frac.proofs.Variables.{at}
use Rattle.rb_num.specs.declared.interval.NumFault.{NumFault}
use Rattle.rb_num.specs.Interval.{Interval, one_interval}
use Rattle.rb_num.specs.Fraction.{LiesIn}
use Rattle.rb_num.proofs.Same.{lies_in_same}
use Rattle.rb_num.proofs.Bridges.{one_lies}
use Rattle.rb_flat.specs.Joint.{Kind, chosen_column}
use Rattle.rb_flat.specs.Choice.{Choice, IsChoice}
use Rattle.rb_flat.specs.Mechanism.{Mechanism, mechanism_of}
use Rattle.rb_flat.specs.Dynamics.{followed}
use Rattle.rb_flat.specs.Contact.{Constraints, HasRow, RowsFit}
use Rattle.rb_joint.specs.Any.{any_column}
use Rattle.rb_joint.proofs.JointMotionLies.{column_lies as joint_column_lies}
use Rattle.rb_composite.specs.Composite.{HasJointColumn, over_joints, share}
use Rattle.rb_composite.proofs.Owners.{gear}
use Rattle.rb_jacobian.specs.Jacobian.{first_vector, second_vector, AreEntries, IsJacobian}
use Rattle.rb_jacobian.proofs.Speeds.{has_jacobian}
use Rattle.rb_work.specs.View.{View, J_at}
use Rattle.rb_tree.specs.declared.robot.Mimic.{Mimic}
use Rattle.rb_tree.specs.Columns.{first_full}
use Rattle.rb_tree.specs.Numbers.{joint_at, mimic_at}
use Rattle.rb_tree.specs.Robot.{Tree, HasBody, HasColumn, AreBodies, mimic_brackets}
use Rattle.rb_tree.specs.Shape.{master_of, master_at, shape_of, no_mimic, brackets_of}
use Rattle.rb_tree.specs.State as State
use Rattle.rb_tree.specs.State.{state_brackets}
use Rattle.rb_tree.proofs.NumbersLie.{multiplier_lies, model_of}
use Rattle.rb_tree.proofs.ColumnsFit.{parents_first}
use Rattle.rb_tree.proofs.PlaceEncloses.{kind_same, master_same}
use Rattle.rb_constraint.specs.declared.ways.Way.{Way}
use Rattle.rb_constraint.specs.declared.ways.Ways.{Ways}
use Rattle.rb_constraint.specs.Constraints.{IsConstraintChoice}
use Rattle.rb_constraint.specs.Rows.{way_from, ways_by, multiplier_at, entry_of, J_rule, first_force, second_force, AreRows}
use Rattle.rb_constraint.specs.Encloses.{PlacesLie, TableLies, VectorsLie, EnclosesRows}
use Rattle.rb_constraint.proofs.RowsLie.{listed, turns_lie, vectors_lie_in}
use Rattle.rb_constraint.proofs.WaysLie.{entries_lie}
use Rattle.rb_constraint.proofs.TableLies.{column_lies}

-- ---- the numbers of a choice
times_one : (x : Frac) → Same x (mul x fracs.one)
times_one x = frac_ring (at (x ∷ [])) (var 0) (expr.mul (var 0) expr.one) refl

gear_lies : (master : Option ℕ) (x : Frac) (o : Option Mimic) → master ≡ master_of o → ((i : ℕ) → master ≡ Some i → LiesIn x (option_map_or mimic_brackets o no_mimic).multiplier)
    → LiesIn (followed fracs master x fracs.one) (option_map_or (λ (mimic : Mimic). mimic.multiplier) o one_interval)
gear_lies None x None e h = one_lies
gear_lies None x (Some mimic) e h = absurd cc
gear_lies (Some master) x None e h = absurd cc
gear_lies (Some master) x (Some mimic) e h = lies_in_same x (mul x fracs.one) mimic.multiplier (times_one x) (h master refl)

module _ (tree : Tree) (kept : AreBodies tree.bodies) (row : State.Row) (c : Choice) (chosen : IsChoice (brackets_of tree) (state_brackets row) c) where
  abbrev m : Mechanism Frac
  m = mechanism_of (shape_of tree) c

  columns : (i k : ℕ) → HasJointColumn (shape_of tree) i k → Motions LiesIn (m.column i k) (any_column (joint_at tree.bodies i) k)
  unfolding mechanism_of
  columns i k has =
      let joint = joint_at tree.bodies i in
      let model = model_of tree row kept c chosen i (record { from = has.there.from; to = has.there.to }) in
      subst (λ (n : Kind). Motions LiesIn (chosen_column n (c.joint i) k) (any_column joint k)) (sym (kind_same tree.bodies i)) (joint_column_lies joint (c.joint i) k model)

  gears : (j : ℕ) → HasBody tree j → LiesIn (gear (shape_of tree) m j) (multiplier_at tree.bodies j)
  unfolding mechanism_of
  gears j has =
      gear_lies (master_at tree.bodies j) (c.joint j).multiplier (mimic_at tree.bodies j) (master_same tree.bodies j) (λ master e. multiplier_lies tree row c chosen j master has e)

  module _ (list : Constraints Interval) (k : Constraints Frac) (turn : ℕ → Table Frac) (w : View) (fit : RowsFit (shape_of tree) list) (taken : IsConstraintChoice list k)
      (places : PlacesLie tree m w) (vectors : VectorsLie k turn w) where
    -- the rows of a choice fit as those of the list do
    fits : RowsFit (shape_of tree) k
    fits r has = let there : HasRow list r = listed list k taken r has in rw (taken.row r there) (fit r there)

    -- what one force of a row leaves
    way_lies : (b : ℕ) (f : Force Frac) (entry : ℕ → ℕ → Frac) (F : Force Interval) (t : Way) → b ≤ (shape_of tree).bodies → AreEntries (shape_of tree) m b f entry → Spatials LiesIn f F
        → way_from tree.bodies w b F ≡ Ok t → (i l : ℕ) → HasJointColumn (shape_of tree) i l → LiesIn (entry i l) (entry_of t (first_full tree.bodies i + l))
    way_lies b f entry F t low are lies e i l has = entries_lie tree kept m w places columns b low f entry are F t lies e i l has

    module _ (J : ℕ → ℕ → Frac) (is : IsJacobian (shape_of tree) m k turn J) (r : ℕ) (has : HasRow k r) where
      there : HasRow list r
      there = listed list k taken r has

      -- the ways of both forces
      record Both (ways : Ways) : Type 0 where
        pub first : (i l : ℕ) → HasJointColumn (shape_of tree) i l → LiesIn (is.first r i l) (entry_of ways.first (first_full tree.bodies i + l))
        pub second : (i l : ℕ) → HasJointColumn (shape_of tree) i l → LiesIn (is.second r i l) (entry_of ways.second (first_full tree.bodies i + l))

      both : (ways : Ways) → ways_by tree.bodies list r w ≡ Ok ways → Both ways
      unfolding ways_by
      both ways e =
          let same = taken.row r there in
          let p = then-ok (way_from tree.bodies w (list.row r).first (first_force w r)) _ _ e in
          let q = then-ok (way_from tree.bodies w (list.row r).second (second_force w r)) _ _ p.2 in
          let pair : record { first = p.0; second = q.0 } ≡ ways = same_ok {E = NumFault} _ _ q.2 in
          let first = way_lies (k.row r).first (first_vector k turn r) (is.first r) (first_force w r) p.0 (fits r has).first (is.firsts r has) (vectors.first r has) (rw same p.1) in
          let second = way_lies (k.row r).second (second_vector k turn r) (is.second r) (second_force w r) q.0 (fits r has).second (is.seconds r has) (vectors.second r has) (rw same q.1) in
          subst (λ (both : Ways). Both both) pair (record { first = first; second = second })

      entry_lies : (n : ℕ) → HasColumn tree n → J_rule tree list r n w ≡ Ok (J_at w r n) → LiesIn (J r n) (J_at w r n)
      unfolding J_rule
      entry_lies n column e =
          let found = then-ok (ways_by tree.bodies list r w) _ _ (told-ok _ _ _ e) in
          let two = both found.0 found.1 in
          let sum = over_joints (shape_of tree) (λ (i l : ℕ). mul (share (shape_of tree) m n i l) (minus fracs (is.first r i l) (is.second r i l))) in
          lies_in_same sum (J r n) (J_at w r n) (same_sym (J r n) sum (is.each r n has (record { from = column.from; to = column.to })))
          (column_lies tree kept m gears (is.first r) (is.second r) found.0 two.first two.second n column (J_at w r n) found.2)

    pub table_lies : AreRows tree list w → (J : ℕ → ℕ → Frac) → IsJacobian (shape_of tree) m k turn J → TableLies tree k J w
    table_lies are J is r n has column =
        entry_lies J is r has n column (are.each_J r n (record { row = listed list k taken r has; to = column.to }))

pub rows_enclose : (tree : Tree) (list : Constraints Interval) (w : View) → AreBodies tree.bodies → RowsFit (shape_of tree) list → AreRows tree list w → EnclosesRows tree list w
rows_enclose tree list w kept fit are = record {
  at = λ row c k turn chosen places taken turns.
      let m = mechanism_of (shape_of tree) c in
      let lie = turns_lie tree kept m turn w turns places are.at_world are.each_O in
      let vectors = vectors_lie_in tree list k turn w fit taken lie are.each_K in
      record {
        turns = lie;
        vectors = vectors;
        exists = has_jacobian (shape_of tree) m k turn (parents_first tree kept) (fits tree kept row c chosen list k turn w fit taken places vectors);
        table = table_lies tree kept row c chosen list k turn w fit taken places vectors are;
      };
}
