-- A tree moves under the forces of rows exactly where its accelerations and these forces solve the bordered equations.
use Rattle.std.proofs.Common.{◌≡◌, ℕ, suc, ◌≤◌, refl, sym, ◌∙◌, ap, arith}
use Rattle.rb_frac.specs.Ops.{sum as sum_of}
use Rattle.rb_frac.specs.Frac.{Frac, Same, fracs, add, sub, mul}
use Rattle.rb_frac.specs.Tables.{Table, Tables}
use Rattle.rb_frac.specs.Spatial.{Force}
use Rattle.rb_frac.proofs.Reduce.{same_refl, same_sym, same_trans}
use Rattle.rb_frac.proofs.Rational.{ℚ, ◌+ℚ◌, neg_ℚ, cls, sound, exact, add_same, mul_same}
use Rattle.rb_frac.proofs.Hom.{cls_of_add, cls_of_sub}
use Rattle.rb_frac.proofs.Quote.{with3, finish, quote}
use Rattle.rb_frac.proofs.Transfer.{cls-sum}
use Rattle.rb_flat.specs.Shape.{Shape, HasColumn, MimicsFit, ParentsComeFirst, ColumnsFit}
use Rattle.rb_flat.specs.Mechanism.{Mechanism}
use Rattle.rb_flat.specs.Dynamics.{Unknowns, Moves, InverseDynamics, no_force, unaccelerated, IsMassTable}
use Rattle.rb_flat.specs.Contact.{Constraints, HasRow, RowsFit, rows_on, AreTurns, ContactUnknowns, ContactDynamics, SameContact}
use Rattle.rb_flat.proofs.Equality.{same_fractions, sum_same}
use Rattle.rb_flat.proofs.OneSolution.{has_one_solution, moves_agree}
use Rattle.rb_flat.proofs.Superposed.{other_accelerations, torque_is_linear}
use Rattle.rb_jacobian.specs.Jacobian.{row_accelerations, IsJacobian}
use Rattle.rb_jacobian.specs.Laws.{IsBordered, IsOneBordered, ContactIsBordered, MovesWith, ContactFromBordered, ContactHasOneSolution}
use Rattle.rb_jacobian.proofs.Accelerations.{jacobian_gives_accelerations}
use Rattle.rb_jacobian.proofs.Torques.{torques_are}
use Rattle.rb_jacobian.proofs.Turns.{tables_refl, tables_sym, turns_are_one, rows_on_same, row_accelerations_same, other_outside}

-- ---- numbers
alone : (b p x : ℚ) → (((b +ℚ neg_ℚ p) +ℚ x) +ℚ neg_ℚ b) +ℚ p ≡ x
alone b p x = with3 b p x λ ρ u v w. simp (u, v, w, quote) (finish ρ _ _ refl)

back : (t b p : ℚ) → (b +ℚ neg_ℚ p) +ℚ ((t +ℚ neg_ℚ b) +ℚ p) ≡ t
back t b p = with3 t b p λ ρ u v w. simp (u, v, w, quote) (finish ρ _ _ refl)

-- sums over the columns
pub sums_same : (shape : Shape) (x y : ℕ → Frac) → ((c : ℕ) → HasColumn shape c → Same (x c) (y c)) → (a : ℕ → Frac) →
    Same (sum_of fracs shape.columns (λ d. mul (a (suc d)) (x (suc d)))) (sum_of fracs shape.columns (λ d. mul (a (suc d)) (y (suc d))))
sums_same shape x y h a =
    sum_same same_fractions shape.columns (λ d. mul (a (suc d)) (x (suc d))) (λ d. mul (a (suc d)) (y (suc d)))
    (λ d l. mul_same (a (suc d)) (a (suc d)) (x (suc d)) (y (suc d)) (same_refl (a (suc d))) (h (suc d) (record { from = omega arith; to = omega arith })))

module _ (shape : Shape) (m : Mechanism Frac) (k : Constraints Frac) (turn : ℕ → Table Frac) (table J : ℕ → ℕ → Frac) (bias : Unknowns Frac)
    (parents : ParentsComeFirst shape) (mimics : MimicsFit shape) (fit : ColumnsFit shape) (fits : RowsFit shape k) (mass : IsMassTable shape m table)
    (is : IsJacobian shape m k turn J) (hb : InverseDynamics fracs shape (unaccelerated fracs m) Same (no_force fracs) bias) where
  -- what a column of the table makes of accelerations, what a row of the Jacobian does, and what a column of it makes of forces
  abbrev product : (ℕ → Frac) → ℕ → Frac
  product x c = sum_of fracs shape.columns (λ d. mul (table c (suc d)) (x (suc d)))

  abbrev along : (ℕ → Frac) → ℕ → Frac
  along x r = sum_of fracs shape.columns (λ c. mul (J r (suc c)) (x (suc c)))

  abbrev across : (ℕ → Frac) → ℕ → Frac
  across lam c = sum_of fracs k.rows (λ r. mul (J (suc r) c) (lam (suc r)))

  abbrev compliant : (ℕ → Frac) → ℕ → Frac
  compliant lam r = mul (k.numbers r).compliance (lam r)

  abbrev g : ℕ → Frac
  g = row_accelerations k turn bias

  bias_moves : Moves fracs shape m Same (no_force fracs) bias
  bias_moves = other_accelerations shape m (no_force fracs) (λ c. fracs.nul) bias hb.moves

  -- ---- a motion under forces of the rows
  module _ (lam : ℕ → Frac) (s : Unknowns Frac) (hs : Moves fracs shape m Same (rows_on fracs k turn lam) s) where
    loaded : Unknowns Frac
    loaded = (has_one_solution same_fractions shape (unaccelerated fracs m) (rows_on fracs k turn lam) parents fit).solution

    loaded_solves : InverseDynamics fracs shape (unaccelerated fracs m) Same (rows_on fracs k turn lam) loaded
    unfolding loaded
    loaded_solves = (has_one_solution same_fractions shape (unaccelerated fracs m) (rows_on fracs k turn lam) parents fit).solves

    pub torque_sums : (c : ℕ) → HasColumn shape c → cls (s.torque c) ≡ (cls (bias.torque c) +ℚ neg_ℚ (cls (across lam c))) +ℚ cls (product s.joint_acceleration c)
    torque_sums c there =
        let b = loaded.torque c in
        let p = product s.joint_acceleration c in
        sound (s.torque c) (add b p) (torque_is_linear shape m (rows_on fracs k turn lam) table s loaded parents fit mass hs loaded_solves c there)
        ∙ cls_of_add b p
        ∙ ap (λ (t : ℚ). t +ℚ cls p)
        (torques_are shape m parents mimics fit c there k turn fits J is lam loaded bias
        (other_accelerations shape m (rows_on fracs k turn lam) (λ d. fracs.nul) loaded loaded_solves.moves) bias_moves
        (λ d own. same_trans (loaded.joint_acceleration d) fracs.nul (bias.joint_acceleration d) (loaded_solves.given d own) (same_sym (bias.joint_acceleration d) fracs.nul (hb.given d own)))
        ∙ ap (λ (t : ℚ). cls (bias.torque c) +ℚ neg_ℚ t) (sym (cls-sum k.rows (λ r. mul (J (suc r) c) (lam (suc r))))))

    row_sums : (r : ℕ) → HasRow k r → Same (row_accelerations k turn s r) (add (along s.joint_acceleration r) (g r))
    row_sums r hr = jacobian_gives_accelerations shape m k turn J (rows_on fracs k turn lam) (no_force fracs) s bias parents fit fits is hs hb r hr

    held_sums : (r : ℕ) → HasRow k r → Same (add (row_accelerations k turn s r) (compliant lam r)) (add (add (along s.joint_acceleration r) (g r)) (compliant lam r))
    held_sums r hr =
        add_same (row_accelerations k turn s r) (add (along s.joint_acceleration r) (g r)) (compliant lam r) (compliant lam r) (row_sums r hr) (same_refl (compliant lam r))

    pub bordered : ((c : ℕ) → HasColumn shape c → Same (s.torque c) (m.torque c))
        → ((r : ℕ) → HasRow k r → Same (add (row_accelerations k turn s r) (compliant lam r)) fracs.nul)
        → IsBordered shape m k turn table J bias s.joint_acceleration lam
    bordered given held = record {
      columns = λ c h.
          let there : HasColumn shape c = record { from = h.from; to = h.to } in
          let p = product s.joint_acceleration c in
          exact p (add (sub (m.torque c) (bias.torque c)) (across lam c))
          (sym (alone (cls (bias.torque c)) (cls (across lam c)) (cls p))
          ∙ ap (λ (t : ℚ). (t +ℚ neg_ℚ (cls (bias.torque c))) +ℚ cls (across lam c)) (sym (torque_sums c there) ∙ sound (s.torque c) (m.torque c) (given c there))
          ∙ sym (cls_of_add (sub (m.torque c) (bias.torque c)) (across lam c) ∙ ap (λ (t : ℚ). t +ℚ cls (across lam c)) (cls_of_sub (m.torque c) (bias.torque c))));
      rows = λ r h.
          let hr : HasRow k r = record { from = h.from; to = h.to } in
          same_trans (add (add (along s.joint_acceleration r) (g r)) (compliant lam r)) (add (row_accelerations k turn s r) (compliant lam r)) fracs.nul
          (same_sym (add (row_accelerations k turn s r) (compliant lam r)) (add (add (along s.joint_acceleration r) (g r)) (compliant lam r)) (held_sums r hr))
          (held r hr);
    }

  -- ---- from a solution of the bordered equations
  module _ (x lam : ℕ → Frac) (turned : AreTurns fracs shape m Same turn) (solves : IsBordered shape m k turn table J bias x lam) where
    abbrev driven : Mechanism Frac
    driven = record m { acceleration = x }

    abbrev outside : ℕ → Force Frac
    outside = rows_on fracs k turn lam

    tree : Unknowns Frac
    tree = (has_one_solution same_fractions shape driven outside parents fit).solution

    tree_solves : InverseDynamics fracs shape driven Same outside tree
    unfolding tree
    tree_solves = (has_one_solution same_fractions shape driven outside parents fit).solves

    tree_moves : Moves fracs shape m Same outside tree
    tree_moves = other_accelerations shape m outside x tree tree_solves.moves

    tree_torque : (c : ℕ) → HasColumn shape c → Same (tree.torque c) (m.torque c)
    tree_torque c there =
        let p = product tree.joint_acceleration c in
        let q = product x c in
        let right = add (sub (m.torque c) (bias.torque c)) (across lam c) in
        exact (tree.torque c) (m.torque c)
        (torque_sums lam tree tree_moves c there
        ∙ ap (λ (t : ℚ). (cls (bias.torque c) +ℚ neg_ℚ (cls (across lam c))) +ℚ t)
        (sound p q (sums_same shape tree.joint_acceleration x tree_solves.given (table c))
        ∙ sound q right (solves.columns c (record { from = there.from; to = there.to }))
        ∙ cls_of_add (sub (m.torque c) (bias.torque c)) (across lam c)
        ∙ ap (λ (t : ℚ). t +ℚ cls (across lam c)) (cls_of_sub (m.torque c) (bias.torque c)))
        ∙ back (cls (m.torque c)) (cls (bias.torque c)) (cls (across lam c)))

    tree_held : (r : ℕ) → HasRow k r → Same (add (row_accelerations k turn tree r) (compliant lam r)) fracs.nul
    tree_held r hr =
        let a = along tree.joint_acceleration r in
        let b = along x r in
        same_trans (add (row_accelerations k turn tree r) (compliant lam r)) (add (add a (g r)) (compliant lam r)) fracs.nul (held_sums lam tree tree_moves r hr)
        (same_trans (add (add a (g r)) (compliant lam r)) (add (add b (g r)) (compliant lam r)) fracs.nul
        (add_same (add a (g r)) (add b (g r)) (compliant lam r) (compliant lam r)
        (add_same a b (g r) (g r) (sums_same shape tree.joint_acceleration x tree_solves.given (J r)) (same_refl (g r))) (same_refl (compliant lam r)))
        (solves.rows r (record { from = hr.from; to = hr.to })))

    pub moves_with : MovesWith shape m k turn x lam
    moves_with = record {
      unknowns = record { tree = tree; turn = turn; row_force = lam };
      solves = record { turns = turned; forward = record { moves = tree_moves; given = tree_torque }; held = tree_held };
      turns = λ i h. tables_refl (turn i);
      accelerations = tree_solves.given;
      forces = λ r hr. same_refl (lam r);
    }

    -- ---- any other motion, where the bordered equations have no other solution
    module _ (one : IsOneBordered shape m k turn table J bias x lam) (other : ContactUnknowns Frac) (h : ContactDynamics fracs shape m Same k other) where
      turn_same : (i : ℕ) → i ≤ shape.bodies → Tables Same (other.turn i) (turn i)
      turn_same = turns_are_one shape m other.turn turn parents h.turns turned

      turn_back : (i : ℕ) → i ≤ shape.bodies → Tables Same (turn i) (other.turn i)
      turn_back i l = tables_sym (turn_same i l)

      own_moves : Moves fracs shape m Same (rows_on fracs k turn other.row_force) other.tree
      own_moves =
          other_outside shape m (rows_on fracs k other.turn other.row_force) (rows_on fracs k turn other.row_force) other.tree
          (rows_on_same shape k fits turn other.turn turn_back other.row_force other.row_force (λ r hr. same_refl (other.row_force r))) h.forward.moves

      own_bordered : IsBordered shape m k turn table J bias other.tree.joint_acceleration other.row_force
      own_bordered =
          bordered other.row_force other.tree own_moves h.forward.given
          (λ r hr.
          let mine = row_accelerations k turn other.tree r in
          let theirs = row_accelerations k other.turn other.tree r in
          let p = compliant other.row_force r in
          same_trans (add mine p) (add theirs p) fracs.nul
          (add_same mine theirs p p (row_accelerations_same shape k fits turn other.turn turn_back other.tree r hr) (same_refl p)) (h.held r hr))

      same_force : (r : ℕ) → HasRow k r → Same (other.row_force r) (lam r)
      same_force r hr = (one.only other.tree.joint_acceleration other.row_force own_bordered).rows r (record { from = hr.from; to = hr.to })

      same_rate : (c : ℕ) → HasColumn shape c → Same (other.tree.joint_acceleration c) (tree.joint_acceleration c)
      same_rate c there =
          same_trans (other.tree.joint_acceleration c) (x c) (tree.joint_acceleration c)
          ((one.only other.tree.joint_acceleration other.row_force own_bordered).columns c (record { from = there.from; to = there.to }))
          (same_sym (tree.joint_acceleration c) (x c) (tree_solves.given c there))

      same_outside : Moves fracs shape m Same outside other.tree
      same_outside =
          other_outside shape m (rows_on fracs k other.turn other.row_force) outside other.tree
          (rows_on_same shape k fits turn other.turn turn_back lam other.row_force (λ r hr. same_sym (other.row_force r) (lam r) (same_force r hr))) h.forward.moves

      pub same_contact : SameContact Same shape k other moves_with.unknowns
      unfolding moves_with
      same_contact = record {
        tree = moves_agree same_fractions shape m outside parents fit other.tree tree same_outside tree_moves same_rate;
        turn = turn_same;
        row_force = same_force;
      }

pub contact_is_bordered : ContactIsBordered
contact_is_bordered shape m k table J bias s parents mimics fit fits mass is hb hs =
    bordered shape m k s.turn table J bias parents mimics fit fits mass is hb s.row_force s.tree hs.forward.moves hs.forward.given hs.held

pub contact_from_bordered : ContactFromBordered
contact_from_bordered shape m k turn table J bias x lam parents mimics fit fits turned mass is hb solves =
    moves_with shape m k turn table J bias parents mimics fit fits mass is hb x lam turned solves

pub contact_has_one_solution : ContactHasOneSolution
contact_has_one_solution shape m k turn table J bias x lam parents mimics fit fits turned mass is hb one =
    let moves = moves_with shape m k turn table J bias parents mimics fit fits mass is hb x lam turned one.solves in
    record {
      one = record {
        solution = moves.unknowns;
        solves = moves.solves;
        only = λ other h. same_contact shape m k turn table J bias parents mimics fit fits mass is hb x lam turned one.solves one other h;
      };
      accelerations = moves.accelerations;
      forces = moves.forces;
    }
