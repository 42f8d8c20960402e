-- The one solution of forward dynamics under rows of constraints of each choice lies in the values of a row.
use Rattle.std.proofs.Common.{◌≡◌, ◌≤◌, ℕ, sym, subst, arith}
use Rattle.rb_frac.specs.Frac.{Frac, Same, fracs}
use Rattle.rb_frac.specs.Spatial.{Motion, Motions}
use Rattle.rb_frac.specs.Tables.{Table}
use Rattle.rb_frac.proofs.Reduce.{same_sym}
use Rattle.rb_num.specs.Interval.{Interval}
use Rattle.rb_num.specs.Fraction.{LiesIn}
use Rattle.rb_num.proofs.Same.{lies_in_same}
use Rattle.rb_elimination.specs.Product.{HasFactors}
use Rattle.rb_elimination.specs.Laws.{IsFactored}
use Rattle.rb_elimination.proofs.Exists.{factors_exist}
use Rattle.rb_elimination.proofs.Solutions.{factors_multiply_out}
use Rattle.rb_flat.specs.Choice.{Choice, IsChoice}
use Rattle.rb_flat.specs.Mechanism.{Mechanism, mechanism_of}
use Rattle.rb_flat.specs.Dynamics.{Unknowns, InverseDynamics, unaccelerated, no_force}
use Rattle.rb_flat.specs.Contact.{Constraints, HasRow, RowsFit, AreTurns}
use Rattle.rb_flat.proofs.Symmetric.{mass_table_is_symmetric}
use Rattle.rb_bordered.specs.Steps.{IsRow}
use Rattle.rb_bordered.specs.Forces.{HaveRowFactors, AreForcesFound, IsFoundWithForces}
use Rattle.rb_bordered.specs.Equations.{IsOneBorderedSolution}
use Rattle.rb_jacobian.specs.Jacobian.{row_accelerations, IsJacobian}
use Rattle.rb_jacobian.proofs.Turns.{has_turns}
use Rattle.rb_jacobian.proofs.Contact.{contact_has_one_solution}
use Rattle.rb_work.specs.Path.{above}
use Rattle.rb_work.specs.View.{View, columns_of, L_at, D_at, w_at, z_at, x_at, k_at, J_at, g_at, Y_at, Z_at, C_at, l_at, e_at, lam_at}
use Rattle.rb_tree.specs.Columns.{column_count}
use Rattle.rb_tree.specs.Robot.{Tree, AreBodies}
use Rattle.rb_tree.specs.Shape.{shape_of, brackets_of}
use Rattle.rb_tree.specs.State.{Row, state_brackets}
use Rattle.rb_tree.proofs.Shapes.{mimics_fit}
use Rattle.rb_tree.proofs.ColumnsFit.{columns_fit, parents_first}
use Rattle.rb_factor.specs.Laws.{AreWithin}
use Rattle.rb_factor.proofs.Paths.{regular}
use Rattle.rb_constraint.specs.Constraints.{IsConstraintChoice}
use Rattle.rb_constraint.specs.Encloses.{RowsLie, MotionsLie, EnclosesRows, EnclosesBias}
use Rattle.rb_constraint.proofs.RowsEnclose.{rows_enclose}
use Rattle.rb_constraint.proofs.BiasLies.{bias_encloses}
use Rattle.rb_coupling.specs.Steps.{interval_row_steps}
use Rattle.rb_coupling.specs.Laws.{AreBorderedWithin, BorderedSolutionLies}
use Rattle.rb_coupling.proofs.Borders.{bordered_encloses}
use Rattle.rb_contact.specs.Forward.{AreFactored}
use Rattle.rb_contact.specs.Contact.{compliances, AreConstrained, AreContact, ContactLies, EnclosesContact}
use Rattle.rb_contact.proofs.Stays.{rows_stay, bias_stays}
use Rattle.rb_contact.proofs.ForwardEncloses.{driving}
use Rattle.rb_contact.proofs.RowEncloses.{ascends, robot_has, places, bias_lies, right_lies, mass_lies, sparse_table, table_within, factors_enclose}

motions_lie : (a b : Motion Frac) (v : Motion Interval) → Motions Same a b → Motions LiesIn a v → Motions LiesIn b v
motions_lie a b v s h = record {
  lin = record { x = lies_in_same _ _ _ s.lin.x h.lin.x; y = lies_in_same _ _ _ s.lin.y h.lin.y; z = lies_in_same _ _ _ s.lin.z h.lin.z };
  ang = record { x = lies_in_same _ _ _ s.ang.x h.ang.x; y = lies_in_same _ _ _ s.ang.y h.ang.y; z = lies_in_same _ _ _ s.ang.z h.ang.z };
}

motions_back : (a b : Motion Frac) → Motions Same a b → Motions Same b a
motions_back a b s = record {
  lin = record { x = same_sym a.lin.x b.lin.x s.lin.x; y = same_sym a.lin.y b.lin.y s.lin.y; z = same_sym a.lin.z b.lin.z s.lin.z };
  ang = record { x = same_sym a.ang.x b.ang.x s.ang.x; y = same_sym a.ang.y b.ang.y s.ang.y; z = same_sym a.ang.z b.ang.z s.ang.z };
}

-- ---- what was found, as the bordered equations see it
module _ (tree : Tree) (row : Row) (list : Constraints Interval) (w : View) (are : AreContact tree row list w) where
  -- what a work held before the forces were added
  abbrev before : View
  before = record w { w = are.right; z = are.quotients }

  abbrev constrained : AreConstrained tree row list before
  constrained = are.forced.free.constrained

  row_factors : HaveRowFactors interval_row_steps (columns_of w) (above w.up) list.rows (L_at w) (D_at w) (J_at w) (compliances list) (Y_at w) (l_at w) (C_at w)
  row_factors =
      let h = constrained.coupling in
      record { left = h.left; Z = Z_at w; alone = h.alone; G = h.G; table = h.table; reduced = h.reduced; coupled = h.coupled; eliminated = h.eliminated }

  forces_found : AreForcesFound interval_row_steps (columns_of w) (above w.up) list.rows (L_at w) (D_at w) (Y_at w) (l_at w) (C_at w) (k_at w) (g_at w) (w_at before) (lam_at w)
  forces_found =
      let free = are.forced.free in
      let sides = are.forced.row_sides in
      let forces = are.forced.row_forces in
      record {
        left = free.reduced.left;
        z = z_at before;
        without = sides.without;
        total = sides.total;
        e = e_at (record w { e = are.forced.sides });
        row_left = forces.left;
        row_reduced = forces.reduced;
        row_divided = forces.divided;
        row_part = forces.part;
        reduced = free.reduced.is;
        divided = free.divided;
        sides = sides.are;
        right_reduced = forces.right_reduced;
        right_divided = forces.right_divided;
        forces = forces.forces;
      }

  found : IsFoundWithForces interval_row_steps (columns_of w) (above w.up) list.rows (L_at w) (D_at w) (Y_at w) (w_at before) (lam_at w) (x_at w)
  found = record {
    more = are.added.more;
    added = w_at w;
    z = z_at w;
    part = are.substituted.part;
    adds = are.added.are;
    divided = are.divided;
    substituted = are.substituted.is;
  }

  -- ---- a choice
  module _ (kept : AreBodies tree.bodies) (fit : RowsFit (shape_of tree) list) (c : Choice) (k : Constraints Frac) (chosen : IsChoice (brackets_of tree) (state_brackets row) c)
      (taken : IsConstraintChoice list k) where
    abbrev factored : AreFactored tree row before
    factored = constrained.factored

    abbrev m : Mechanism Frac
    m = mechanism_of (shape_of tree) c

    abbrev bias : Unknowns Frac
    bias = (bias_lies tree row before kept factored c chosen).one.solution

    rests : InverseDynamics fracs (shape_of tree) (unaccelerated fracs m) Same (no_force fracs) bias
    unfolding mechanism_of
    rests = (bias_lies tree row before kept factored c chosen).one.solves

    abbrev columns : columns_of w ≡ column_count tree.bodies
    columns = factored.room.up.count

    rows : list.rows ≡ k.rows
    rows = sym taken.rows

    listed : (r : ℕ) → HasRow k r → HasRow list r
    listed r has = record { from = has.from; to = subst (λ (n : ℕ). r ≤ n) taken.rows has.to }

    row_has : (r : ℕ) → IsRow list.rows r → HasRow k r
    row_has r there = record { from = there.from; to = subst (λ (n : ℕ). r ≤ n) rows there.to }

    fits : RowsFit (shape_of tree) k
    fits r has = rw (taken.row r (listed r has)) (fit r (listed r has))

    -- ---- the rows
    encloses_rows : EnclosesRows tree list w
    encloses_rows = rows_enclose tree list w kept fit (rows_stay tree list before w constrained.rows)

    encloses_bias : EnclosesBias tree list w
    encloses_bias = bias_encloses tree list w fit (bias_stays list before w constrained.bias)

    rows_lie : (turn : ℕ → Table Frac) → AreTurns fracs (shape_of tree) m Same turn → RowsLie tree m k turn w
    rows_lie turn turns = encloses_rows.at row c k turn chosen (places tree row before kept factored c chosen) taken turns

    -- ---- their bias, at each solution
    motions : (s : Unknowns Frac) → InverseDynamics fracs (shape_of tree) (unaccelerated fracs m) Same (no_force fracs) s → MotionsLie tree s w
    unfolding mechanism_of
    motions s solves =
        let lie = bias_lies tree row before kept factored c chosen in
        let same = lie.one.only s solves in
        record {
          speed = λ i there. motions_lie _ (s.speed i) _ (motions_back _ _ (same.speed i there)) (lie.lies.velocity i there);
          acceleration = λ i there. motions_lie _ (s.acceleration i) _ (motions_back _ _ (same.acceleration i there)) (lie.lies.acceleration i there);
        }

    accelerates : (turn : ℕ → Table Frac) → RowsLie tree m k turn w → (s : Unknowns Frac) → InverseDynamics fracs (shape_of tree) (unaccelerated fracs m) Same (no_force fracs) s
        → (r : ℕ) → HasRow k r → LiesIn (row_accelerations k turn s r) (g_at w r)
    accelerates turn lie s solves r has =
        encloses_bias.at k turn s taken lie.turns lie.vectors (motions s solves) r has

    -- ---- the mass table and its factors
    abbrev table : ℕ → ℕ → Frac
    table = (mass_lies tree row before kept factored c chosen).exists.0

    record Factored : Type 0 where
      L : ℕ → ℕ → Frac
      D : ℕ → Frac
      within : AreWithin before L D
      has : HasFactors (columns_of w) (above w.up) table L D

    factors : Factored
    factors =
        let n = columns_of w in
        let up = above w.up in
        let shape = shape_of tree in
        let is = (mass_lies tree row before kept factored c chosen).exists.1 in
        let regular_up = regular w.up (ascends tree row before kept factored) in
        let found = factors_exist n up table regular_up in
        let f : IsFactored n up table found.table found.L found.D = record {
          regular = regular_up;
          symmetric = λ a b i j.
              mass_table_is_symmetric shape m table (parents_first tree kept) (mimics_fit tree kept) (columns_fit tree kept) is a b
              (record { from = i.from; to = omega (arith, i.to, columns) }) (record { from = j.from; to = omega (arith, j.to, columns) });
          sparse = sparse_table tree row before kept factored c chosen;
          factors = found.are;
        } in
        let within = (factors_enclose before factored.mass (ascends tree row before kept factored) factored.factors).at table found.table found.L found.D f
        (table_within tree row before kept factored c chosen) in
        record { L = found.L; D = found.D; within = within; has = factors_multiply_out n up table found.table found.L found.D f within.pivots }

    -- ---- the bordered equations
    module _ (turn : ℕ → Table Frac) (lie : RowsLie tree m k turn w) (J : ℕ → ℕ → Frac) (is : IsJacobian (shape_of tree) m k turn J) where
      abbrev mu : ℕ → Frac
      mu r = (k.numbers r).compliance

      given : AreBorderedWithin (columns_of w) (above w.up) list.rows factors.L factors.D J mu (driving m bias) (row_accelerations k turn bias) (L_at w) (D_at w) (J_at w)
          (compliances list) (k_at w) (g_at w)
      given = record {
        factors = factors.within.factors;
        diagonal = factors.within.diagonal;
        rows = λ r there d has. lie.table J is r d (row_has r there) (robot_has tree row before kept factored d has);
        compliances = λ r there. (taken.numbers r (listed r (row_has r there))).compliance;
        torques = right_lies tree row before kept factored c chosen constrained.driving;
        accelerations = λ r there. accelerates turn lie bias rests r (row_has r there);
      }

      solution : BorderedSolutionLies (columns_of w) list.rows table J mu (driving m bias) (row_accelerations k turn bias) (x_at w) (lam_at w)
      solution =
          bordered_encloses (columns_of w) (above w.up) list.rows (L_at w) (D_at w) (J_at w) (compliances list) (Y_at w) (l_at w) (C_at w) (k_at w) (g_at w) (w_at before) (lam_at w) (x_at w)
          (regular w.up (ascends tree row before kept factored)) factored.factors.divisors row_factors constrained.coupling.divisors forces_found found
          table factors.L factors.D J mu (driving m bias) (row_accelerations k turn bias) factors.has given

      one_bordered : IsOneBorderedSolution (shape_of tree).columns k.rows table J mu (driving m bias) (row_accelerations k turn bias) solution.x solution.lam
      one_bordered =
          subst (λ (n : ℕ). IsOneBorderedSolution n k.rows table J mu (driving m bias) (row_accelerations k turn bias) solution.x solution.lam) columns
          (subst (λ (R : ℕ). IsOneBorderedSolution (columns_of w) R table J mu (driving m bias) (row_accelerations k turn bias) solution.x solution.lam) rows solution.one)

      contact_lies : AreTurns fracs (shape_of tree) m Same turn → ContactLies tree w c k
      contact_lies turns =
          let moves = contact_has_one_solution (shape_of tree) m k turn table J bias solution.x solution.lam (parents_first tree kept) (mimics_fit tree kept) (columns_fit tree kept) fits turns
          (mass_lies tree row before kept factored c chosen).exists.1 is rests one_bordered in
          let s = moves.one.solution in
          let own = rows_lie s.turn moves.one.solves.turns in
          record {
            one = moves.one;
            accelerations = λ d has.
                lies_in_same (solution.x d) (s.tree.joint_acceleration d) (x_at w d)
                (same_sym (s.tree.joint_acceleration d) (solution.x d) (moves.accelerations d (record { from = has.from; to = has.to })))
                (solution.columns d (record { from = has.from; to = omega (arith, has.to, columns) }));
            forces = λ r has.
                lies_in_same (solution.lam r) (s.row_force r) (lam_at w r) (same_sym (s.row_force r) (solution.lam r) (moves.forces r has))
                (solution.rows r (record { from = has.from; to = subst (λ (n : ℕ). r ≤ n) (sym rows) has.to }));
            rows = own;
            bias = accelerates s.turn own;
          }

    lies : ContactLies tree w c k
    lies =
        let turn = has_turns (shape_of tree) m (parents_first tree kept) in
        let lie = rows_lie turn.0 turn.1 in
        contact_lies turn.0 lie lie.exists.0 lie.exists.1 turn.1

pub contact_encloses : (tree : Tree) (row : Row) (list : Constraints Interval) (w : View) → AreBodies tree.bodies → RowsFit (shape_of tree) list → AreContact tree row list w
    → EnclosesContact tree row list w
contact_encloses tree row list w kept fit are = record { at = λ c k chosen taken. lies tree row list w are kept fit c k chosen taken }
