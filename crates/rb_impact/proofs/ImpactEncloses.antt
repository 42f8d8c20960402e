-- The one solution of an impact of each choice lies in the values of a row.
use Rattle.std.proofs.Common.{◌≡◌, ◌≤◌, ℕ, suc, [], ◌∷◌, Ok, refl, sym, ap, ◌∙◌, subst, arith}
use Rattle.rb_frac.specs.Ops.{sum}
use Rattle.rb_frac.specs.Frac.{Frac, Same, fracs, add, mul}
use Rattle.rb_frac.specs.Pairs.{dot}
use Rattle.rb_frac.specs.Tables.{Table}
use Rattle.rb_frac.proofs.Reduce.{same_refl, same_sym}
use Rattle.rb_frac.proofs.Ring.{expr, var}
use Rattle.rb_frac.proofs.Hom.{frac_ring}
use Rattle.rb_frac.proofs.Variables.{at}
use Rattle.rb_num.specs.declared.interval.NumFault.{NumFault}
use Rattle.rb_num.specs.Interval.{Interval, zero_interval, one_interval, negative_of}
use Rattle.rb_num.specs.Dot.{iv_dot}
use Rattle.rb_num.specs.Refusing.{iv_add}
use Rattle.rb_num.specs.Fraction.{LiesIn}
use Rattle.rb_num.proofs.Same.{lies_in_same}
use Rattle.rb_num.proofs.Relates.{add_met, dot_met}
use Rattle.rb_num.proofs.Bridges.{to_intervals, ok_met, one_lies, zero_lies}
use Rattle.rb_num.proofs.Zeros.{add-zero_right}
use Rattle.rb_result.proofs.Results.{same_ok, then-ok, told-ok}
use Rattle.rb_elimination.specs.Paths.{IsColumn}
use Rattle.rb_elimination.specs.Product.{HasFactors}
use Rattle.rb_elimination.specs.Laws.{IsFactored}
use Rattle.rb_elimination.proofs.Exists.{factors_exist}
use Rattle.rb_elimination.proofs.Solutions.{factors_multiply_out}
use Rattle.rb_flat.specs.Choice.{Choice, IsChoice}
use Rattle.rb_flat.specs.Mechanism.{Mechanism, mechanism_of}
use Rattle.rb_flat.specs.Contact.{Constraints, HasRow, RowsFit, AreTurns}
use Rattle.rb_flat.proofs.Symmetric.{mass_table_is_symmetric}
use Rattle.rb_bordered.specs.Steps.{IsRow}
use Rattle.rb_bordered.specs.Forces.{HaveRowFactors, AreForcesFound, IsFoundWithForces}
use Rattle.rb_bordered.specs.Equations.{IsOneBorderedSolution}
use Rattle.rb_jacobian.specs.Jacobian.{IsJacobian}
use Rattle.rb_jacobian.proofs.Turns.{has_turns}
use Rattle.rb_jacobian.proofs.Impact.{impact_has_one_solution}
use Rattle.rb_work.specs.Path.{above, Ascends}
use Rattle.rb_work.specs.View.{View, columns_of, L_at, D_at, J_at, Y_at, Z_at, C_at, l_at, e_at, lam_at, w_at, z_at, x_at, y_at}
use Rattle.rb_tree.specs.Columns.{column_count}
use Rattle.rb_tree.specs.Robot.{Tree, HasColumn, AreBodies}
use Rattle.rb_tree.specs.Shape.{shape_of, brackets_of}
use Rattle.rb_tree.specs.State.{Row, state_brackets}
use Rattle.rb_tree.proofs.Shapes.{mimics_fit}
use Rattle.rb_tree.proofs.ColumnsFit.{columns_fit, parents_first}
use Rattle.rb_tree.proofs.PlaceEncloses.{places_enclose}
use Rattle.rb_mass.specs.Encloses.{MassLies}
use Rattle.rb_mass.proofs.MassEnclose.{row_mass_encloses}
use Rattle.rb_factor.specs.Laws.{NumbersLie, AreWithin}
use Rattle.rb_factor.proofs.Paths.{regular}
use Rattle.rb_constraint.specs.Constraints.{IsConstraintChoice}
use Rattle.rb_constraint.specs.Encloses.{RowsLie}
use Rattle.rb_constraint.proofs.RowsEnclose.{rows_enclose}
use Rattle.rb_coupling.specs.Steps.{pairs_of, interval_row_steps}
use Rattle.rb_coupling.specs.Laws.{AreBorderedWithin, BorderedSolutionLies}
use Rattle.rb_coupling.proofs.Borders.{bordered_encloses}
use Rattle.rb_coupling.proofs.Enclosing.{rows_lie}
use Rattle.rb_coupling.proofs.Rigid.{whole}
use Rattle.rb_contact.proofs.RowEncloses.{ascends_for, sparse, on_paths, factors_enclose}
use Rattle.rb_impact.specs.Sides.{speed_before, row_speed_of, gain_of, e_rule}
use Rattle.rb_impact.specs.Pushes.{push_of, w_rule}
use Rattle.rb_impact.specs.Speeds.{y_rule}
use Rattle.rb_impact.specs.Impact.{rigid, AreFactored, AreMet, AreStruck, AreImpact, ImpactLies, EnclosesImpact}
use Rattle.rb_impact.proofs.Stays.{places_stay}
use Rattle.rb_impact.proofs.Zeros.{zero_products, twice_negative, zero_added, zero_reduced, zero_divided}

-- ---- numbers
product_lies : (a b : Frac) (v w p : Interval) → LiesIn a v → LiesIn b w → iv_dot ((v, w) ∷ []) ≡ Ok p → LiesIn (mul a b) p
unfolding dot
product_lies a b v w p ha hb e =
    lies_in_same (dot fracs ((a, b) ∷ [])) (mul a b) p (frac_ring (at (a ∷ b ∷ [])) (expr.add (expr.mul (var 0) (var 1)) expr.nul) (expr.mul (var 0) (var 1)) refl)
    (ok_met e (dot_met to_intervals ((a, b) ∷ []) ((v, w) ∷ []) (ha, hb, tt)))

sum_lies : (n : ℕ) (a b : ℕ → Frac) (v w : ℕ → Interval) (s : Interval) → NumbersLie n a v → NumbersLie n b w → iv_dot (pairs_of v w n) ≡ Ok s
    → LiesIn (sum fracs n (λ c. mul (a (suc c)) (b (suc c)))) s
unfolding rows_lie
sum_lies n a b v w s ha hb e =
    let total = sum fracs n (λ c. mul (a (suc c)) (b (suc c))) in
    rows_lie.products n a b total v w s (same_refl total) e ha hb

-- what a row has to gain
record Gains (restitution speed side : Interval) : Type 0 where
  factor : Interval
  product : Interval
  is_factor : iv_add one_interval restitution ≡ Ok factor
  is_product : iv_dot ((factor, speed) ∷ []) ≡ Ok product
  is_side : negative_of product ≡ side

gains : (restitution speed side : Interval) → gain_of restitution speed ≡ Ok side → Gains restitution speed side
unfolding gain_of
gains restitution speed side e =
    let a = then-ok (iv_add one_interval restitution) _ side e in
    let b = then-ok (iv_dot ((a.0, speed) ∷ [])) _ side a.2 in
    record { factor = a.0; product = b.0; is_factor = a.1; is_product = b.1; is_side = same_ok {E = NumFault} (negative_of b.0) side b.2 }

-- its negative stays where zero is added, and in it lies what the speed must fall by
module _ (restitution speed side : Interval) (h : Gains restitution speed side) where
  product_is : h.product ≡ negative_of side
  product_is = sym (twice_negative h.product) ∙ ap negative_of h.is_side

  fall_stays : iv_add (negative_of side) zero_interval ≡ Ok (negative_of side)
  fall_stays = subst (λ (v : Interval). iv_add v zero_interval ≡ Ok v) product_is (add-zero_right h.product (whole ((h.factor, speed) ∷ []) h.product (omega arith) h.is_product))

  fall_lies : (e v : Frac) → LiesIn e restitution → LiesIn v speed → LiesIn (mul (add fracs.one e) v) (negative_of side)
  fall_lies e v he hv =
      subst (λ (p : Interval). LiesIn (mul (add fracs.one e) v) p) product_is
      (product_lies (add fracs.one e) v h.factor speed h.product (ok_met h.is_factor (add_met to_intervals one_lies he)) hv h.is_product)

-- ---- what was found, as the bordered equations see it
module _ (tree : Tree) (row : Row) (list : Constraints Interval) (w : View) (are : AreImpact tree row list w) where
  abbrev struck : AreStruck tree row list w
  struck = are.changed.struck

  abbrev met : AreMet tree row list w
  met = struck.met

  abbrev factored : AreFactored tree row w
  factored = met.factored

  abbrev sided : View
  sided = record w { e = struck.sides }

  abbrev columns : columns_of w ≡ column_count tree.bodies
  columns = factored.room.up.count

  robot_has : (c : ℕ) → IsColumn (columns_of w) c → HasColumn tree c
  robot_has c there = record { from = there.from; to = omega (arith, there.to, columns) }

  -- what the speed of each row must fall by
  abbrev falls : ℕ → Interval
  falls r = negative_of (e_at sided r)

  record RowGains (r : ℕ) : Type 0 where
    speed : Interval
    is_speed : row_speed_of row r w ≡ Ok speed
    gains : Gains (list.numbers r).restitution speed (e_at sided r)

  row_gains : (r : ℕ) → HasRow list r → RowGains r
  unfolding e_rule
  row_gains r has =
      let a = then-ok (row_speed_of row r w) (λ j. gain_of (list.numbers r).restitution j) (e_at sided r) (told-ok _ _ _ (struck.gains.each_e r has)) in
      record { speed = a.0; is_speed = a.1; gains = gains (list.numbers r).restitution a.0 (e_at sided r) a.2 }

  row_factors : HaveRowFactors interval_row_steps (columns_of w) (above w.up) list.rows (L_at w) (D_at w) (J_at w) rigid (Y_at w) (l_at w) (C_at w)
  row_factors =
      let h = met.coupling in
      record { left = h.left; Z = Z_at w; alone = h.alone; G = h.G; table = h.table; reduced = h.reduced; coupled = h.coupled; eliminated = h.eliminated }

  -- nothing drives the columns, so that without impulses nothing is found
  forces_found : AreForcesFound interval_row_steps (columns_of w) (above w.up) list.rows (L_at w) (D_at w) (Y_at w) (l_at w) (C_at w) (λ c. zero_interval) falls (λ c. zero_interval) (lam_at w)
  forces_found =
      let forces = struck.impulses in
      record {
        left = λ c d. zero_interval;
        z = λ c. zero_interval;
        without = λ r. zero_interval;
        total = falls;
        e = e_at sided;
        row_left = forces.left;
        row_reduced = forces.reduced;
        row_divided = forces.divided;
        row_part = forces.part;
        reduced = zero_reduced (columns_of w) (above w.up) (L_at w);
        divided = zero_divided (columns_of w) (above w.up) (D_at w) factored.factors.divisors;
        sides = record {
          sums = λ r there. zero_products (columns_of w) (Y_at w r);
          totals = λ r there.
              let g = row_gains r (record { from = there.from; to = there.to }) in
              fall_stays (list.numbers r).restitution g.speed (e_at sided r) g.gains;
          negatives = λ r there. sym (twice_negative (e_at sided r));
        };
        right_reduced = forces.right_reduced;
        right_divided = forces.right_divided;
        forces = forces.forces;
      }

  pushed : (c : ℕ) → IsColumn (columns_of w) c → push_of list c w ≡ Ok (w_at w c)
  unfolding w_rule
  pushed c there = told-ok _ _ _ (are.changed.pushes.each_w c (robot_has c there))

  found : IsFoundWithForces interval_row_steps (columns_of w) (above w.up) list.rows (L_at w) (D_at w) (Y_at w) (λ c. zero_interval) (lam_at w) (x_at w)
  found = record {
    more = w_at w;
    added = w_at w;
    z = z_at w;
    part = are.changed.substituted.part;
    adds = record { sums = pushed; totals = λ c there. zero_added (w_at w c) (D_at w c) (z_at w c) (are.changed.divided c there) };
    divided = are.changed.divided;
    substituted = are.changed.substituted.is;
  }

  -- the speeds after, of the changes
  after : (c : ℕ) → HasColumn tree c → iv_add (speed_before row c) (x_at w c) ≡ Ok (y_at w c)
  unfolding y_rule
  after c there = told-ok _ _ _ (are.speeds.each_y c there)

  -- ---- a choice
  module _ (kept : AreBodies tree.bodies) (fit : RowsFit (shape_of tree) list) (c : Choice) (k : Constraints Frac) (chosen : IsChoice (brackets_of tree) (state_brackets row) c)
      (taken : IsConstraintChoice list k) where
    abbrev m : Mechanism Frac
    m = mechanism_of (shape_of tree) c

    rows : list.rows ≡ k.rows
    rows = sym taken.rows

    listed : (r : ℕ) → HasRow k r → HasRow list r
    listed r has = record { from = has.from; to = subst (λ (n : ℕ). r ≤ n) taken.rows has.to }

    row_has : (r : ℕ) → IsRow list.rows r → HasRow k r
    row_has r there = record { from = there.from; to = subst (λ (n : ℕ). r ≤ n) rows there.to }

    fits : RowsFit (shape_of tree) k
    fits r has = rw (taken.row r (listed r has)) (fit r (listed r has))

    speed_lies : (d : ℕ) → HasColumn tree d → LiesIn (m.speed d) (speed_before row d)
    unfolding mechanism_of state_brackets
    speed_lies d has = (chosen.columns d (record { from = has.from; to = has.to })).speed

    -- ---- the rows
    rows_in : (turn : ℕ → Table Frac) → AreTurns fracs (shape_of tree) m Same turn → RowsLie tree m k turn w
    unfolding mechanism_of
    rows_in turn turns =
        (rows_enclose tree list w kept fit met.rows).at row c k turn chosen (λ i has. (places_enclose tree row w kept factored.places).at c i chosen has) taken turns

    -- ---- the mass table and its factors
    abbrev held : View
    held = record w { packed = factored.mass }

    ascends : Ascends w.up
    ascends = ascends_for tree w kept factored.room

    mass_lies : MassLies tree (mechanism_of (shape_of tree) c) held
    mass_lies =
        (row_mass_encloses tree row held kept (record { bodies = factored.room.bodies; full = factored.room.full; up = factored.room.up }) (places_stay tree row w factored.mass factored.places)
        factored.table).at c chosen

    abbrev table : ℕ → ℕ → Frac
    table = mass_lies.exists.0

    record Factored : Type 0 where
      L : ℕ → ℕ → Frac
      D : ℕ → Frac
      within : AreWithin w L D
      has : HasFactors (columns_of w) (above w.up) table L D

    factors : Factored
    factors =
        let n = columns_of w in
        let up = above w.up in
        let shape = shape_of tree in
        let is = mass_lies.exists.1 in
        let lie = mass_lies.lies table is in
        let regular_up = regular w.up ascends in
        let found = factors_exist n up table regular_up in
        let f : IsFactored n up table found.table found.L found.D = record {
          regular = regular_up;
          symmetric = λ a b i j.
              mass_table_is_symmetric shape m table (parents_first tree kept) (mimics_fit tree kept) (columns_fit tree kept) is a b
              (record { from = i.from; to = omega (arith, i.to, columns) }) (record { from = j.from; to = omega (arith, j.to, columns) });
          sparse = sparse tree table held ascends columns lie;
          factors = found.are;
        } in
        let within = (factors_enclose w factored.mass ascends factored.factors).at table found.table found.L found.D f (on_paths tree table held ascends columns lie) in
        record { L = found.L; D = found.D; within = within; has = factors_multiply_out n up table found.table found.L found.D f within.pivots }

    -- ---- the bordered equations
    module _ (turn : ℕ → Table Frac) (lie : RowsLie tree m k turn w) (J : ℕ → ℕ → Frac) (is : IsJacobian (shape_of tree) m k turn J) where
      -- what the speed of a row must fall by, of so many columns
      abbrev fall : ℕ → ℕ → Frac
      fall n r = mul (add fracs.one (k.numbers r).restitution) (sum fracs n (λ d. mul (J r (suc d)) (m.speed (suc d))))

      falls_lie : NumbersLie list.rows (fall (columns_of w)) falls
      falls_lie r there =
          let own : HasRow list r = record { from = there.from; to = there.to } in
          let g = row_gains r own in
          let speed =
          sum_lies (columns_of w) (J r) m.speed (J_at w r) (speed_before row) g.speed (λ d has. lie.table J is r d (row_has r there) (robot_has d has))
          (λ d has. speed_lies d (robot_has d has)) g.is_speed in
          fall_lies (list.numbers r).restitution g.speed (e_at sided r) g.gains (k.numbers r).restitution (sum fracs (columns_of w) (λ d. mul (J r (suc d)) (m.speed (suc d))))
          (taken.numbers r own).restitution speed

      given : AreBorderedWithin (columns_of w) (above w.up) list.rows factors.L factors.D J (λ r. fracs.nul) (λ d. fracs.nul) (fall (columns_of w)) (L_at w) (D_at w) (J_at w) rigid
          (λ d. zero_interval) falls
      given = record {
        factors = factors.within.factors;
        diagonal = factors.within.diagonal;
        rows = λ r there d has. lie.table J is r d (row_has r there) (robot_has d has);
        compliances = λ r there. zero_lies;
        torques = λ d has. zero_lies;
        accelerations = falls_lie;
      }

      solution : BorderedSolutionLies (columns_of w) list.rows table J (λ r. fracs.nul) (λ d. fracs.nul) (fall (columns_of w)) (x_at w) (lam_at w)
      solution =
          bordered_encloses (columns_of w) (above w.up) list.rows (L_at w) (D_at w) (J_at w) rigid (Y_at w) (l_at w) (C_at w) (λ d. zero_interval) falls (λ d. zero_interval) (lam_at w) (x_at w)
          (regular w.up ascends) factored.factors.divisors row_factors met.coupling.divisors forces_found found table factors.L factors.D J (λ r. fracs.nul) (λ d. fracs.nul) (fall (columns_of w))
          factors.has given

      one_bordered : IsOneBorderedSolution (shape_of tree).columns k.rows table J (λ r. fracs.nul) (λ d. fracs.nul) (fall (shape_of tree).columns) solution.x solution.lam
      one_bordered =
          subst (λ (n : ℕ). IsOneBorderedSolution n k.rows table J (λ r. fracs.nul) (λ d. fracs.nul) (fall n) solution.x solution.lam) columns
          (subst (λ (R : ℕ). IsOneBorderedSolution (columns_of w) R table J (λ r. fracs.nul) (λ d. fracs.nul) (fall (columns_of w)) solution.x solution.lam) rows solution.one)

      impact_lies : AreTurns fracs (shape_of tree) m Same turn → ImpactLies tree w c k
      impact_lies turns =
          let strikes = impact_has_one_solution (shape_of tree) m k turn table J solution.x solution.lam (parents_first tree kept) (mimics_fit tree kept) (columns_fit tree kept) fits turns mass_lies.exists.1 is
          one_bordered in
          let s = strikes.one.solution in
          record {
            one = strikes.one;
            speeds = λ d has.
                lies_in_same (add (m.speed d) (solution.x d)) (s.speed_after d) (y_at w d)
                (same_sym (s.speed_after d) (add (m.speed d) (solution.x d)) (strikes.speeds d (record { from = has.from; to = has.to })))
                (ok_met (after d has) (add_met to_intervals (speed_lies d has) (solution.columns d (record { from = has.from; to = omega (arith, has.to, columns) }))));
            impulses = λ r has.
                lies_in_same (solution.lam r) (s.row_impulse r) (lam_at w r) (same_sym (s.row_impulse r) (solution.lam r) (strikes.impulses r has))
                (solution.rows r (record { from = has.from; to = subst (λ (n : ℕ). r ≤ n) (sym rows) has.to }));
            rows = rows_in s.turn strikes.one.solves.turns;
          }

    lies : ImpactLies tree w c k
    lies =
        let turn = has_turns (shape_of tree) m (parents_first tree kept) in
        let lie = rows_in turn.0 turn.1 in
        impact_lies turn.0 lie lie.exists.0 lie.exists.1 turn.1

pub impact_encloses : (tree : Tree) (row : Row) (list : Constraints Interval) (w : View) → AreBodies tree.bodies → RowsFit (shape_of tree) list → AreImpact tree row list w
    → EnclosesImpact tree row list w
impact_encloses tree row list w kept fit are = record { at = λ c k chosen taken. lies tree row list w are kept fit c k chosen taken }
