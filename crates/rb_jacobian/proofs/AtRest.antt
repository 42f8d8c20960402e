-- A mechanism without gravity and speeds has the same mass table and the same Jacobian, and its torques have no bias.
use Rattle.std.proofs.Common.{◌≡◌, ℕ, zero, suc, [], ◌∷◌, refl, sym, ◌∙◌, ap, subst}
use Rattle.rb_frac.specs.Ops.{signs, sum as sum_of}
use Rattle.rb_frac.specs.Frac.{Frac, Same, fracs, add, neg, mul}
use Rattle.rb_frac.specs.Tables.{Table, nothing}
use Rattle.rb_frac.specs.Spatial.{Force}
use Rattle.rb_frac.proofs.Ring.{expr, var}
use Rattle.rb_frac.proofs.Reduce.{same_refl, same_trans}
use Rattle.rb_frac.proofs.Rational.{ℚ, ◌+ℚ◌, cls, exact, add_same}
use Rattle.rb_frac.proofs.Hom.{frac_ring, cls_of_add, cls_of_neg}
use Rattle.rb_frac.proofs.Variables.{at}
use Rattle.rb_num.specs.Arith.{fractions}
use Rattle.rb_spatial.specs.Motions.{apply_dual, power}
use Rattle.rb_flat.specs.Shape.{Shape, HasColumn, MimicsFit, ParentsComeFirst, ColumnsFit}
use Rattle.rb_flat.specs.Mechanism.{Mechanism}
use Rattle.rb_flat.specs.Dynamics.{Unknowns, Moves, InverseDynamics, no_force, at_unit, unaccelerated, at_rest, IsMassTable}
use Rattle.rb_flat.specs.Contact.{Constraints, RowsFit, rows_on}
use Rattle.rb_flat.proofs.Superposed.{Added, unit_adds, unit_of, unit_of_solves, superposed, superposed_moves, other_accelerations}
use Rattle.rb_composite.specs.Composite.{ancestor, carried, share}
use Rattle.rb_jacobian.specs.Jacobian.{AreEntries, IsJacobian}
use Rattle.rb_jacobian.proofs.Contact.{torque_sums}

-- without gravity and speeds
abbrev pub stopped : Mechanism Frac → Mechanism Frac
stopped m = record (at_rest fracs m) { gravity = nothing (signs fracs) }

cancelled : (a : Frac) → Same (add (mul (neg fracs.one) a) a) fracs.nul
cancelled a = frac_ring (at (a ∷ [])) (expr.add (expr.mul (expr.neg expr.one) (var 0)) (var 0)) expr.nul refl

without : (p q : Frac) → Same (add (add fracs.nul (neg q)) p) (add p (neg q))
without p q =
    frac_ring (at (p ∷ q ∷ []))
    (expr.add (expr.add expr.nul (expr.neg (var 1))) (var 0))
    (expr.add (var 0) (expr.neg (var 1)))
    refl

module _ (shape : Shape) (m : Mechanism Frac) where
  -- ---- the tables
  pub mass_at_rest : (table : ℕ → ℕ → Frac) → IsMassTable shape m table → IsMassTable shape (stopped m) table
  mass_at_rest table is = record { entry = λ c d s hc hd h. is.entry c d s hc hd (unit_alike d s h) }
    where
      unit_alike : (d : ℕ) (s : Unknowns Frac) → InverseDynamics fracs shape (at_unit fracs (stopped m) d) Same (no_force fracs) s
          → InverseDynamics fracs shape (at_unit fracs m d) Same (no_force fracs) s
      unit_alike d s h = h

  carried_alike : (j : ℕ) (f : Force Frac) (n : ℕ) → carried shape (stopped m) j f n ≡ carried shape m j f n
  unfolding carried
  carried_alike j f zero = refl
  carried_alike j f (suc n) = ap (λ (g : Force Frac). apply_dual fractions (m.place (ancestor shape j n)) g) (carried_alike j f n)

  entries_at_rest : (b : ℕ) (f : Force Frac) (e : ℕ → ℕ → Frac) → AreEntries shape m b f e → AreEntries shape (stopped m) b f e
  entries_at_rest b f e h = record {
    along = λ n l there.
        subst (λ (g : Force Frac). Same (e (ancestor shape b n) l) (power fractions (m.column (ancestor shape b n) l) g))
        (sym (carried_alike b f n)) (h.along n l there);
    off = h.off;
  }

  pub jacobian_at_rest : (k : Constraints Frac) (turn : ℕ → Table Frac) (J : ℕ → ℕ → Frac) → IsJacobian shape m k turn J → IsJacobian shape (stopped m) k turn J
  unfolding share
  jacobian_at_rest k turn J is = record {
    first = is.first;
    second = is.second;
    firsts = λ r hr. entries_at_rest (k.row r).first _ (is.first r) (is.firsts r hr);
    seconds = λ r hr. entries_at_rest (k.row r).second _ (is.second r) (is.seconds r hr);
    each = is.each;
  }

  -- ---- a solution without torques
  module _ (parents : ParentsComeFirst shape) (fit : ColumnsFit shape) where
    abbrev unit : Unknowns Frac
    unit = unit_of shape (stopped m) parents fit 0

    unit_solves : InverseDynamics fracs shape (at_unit fracs (stopped m) 0) Same (no_force fracs) unit
    unit_solves = unit_of_solves shape (stopped m) parents fit 0

    adds : Added shape (stopped m) unit
    adds = unit_adds shape (stopped m) parents 0 unit unit_solves.moves

    unit_moves : Moves fracs shape (stopped m) Same (no_force fracs) unit
    unit_moves = other_accelerations shape (stopped m) (no_force fracs) (at_unit fracs (stopped m) 0).acceleration unit unit_solves.moves

    abbrev bias : Unknowns Frac
    bias = superposed shape (stopped m) (neg fracs.one) unit unit

    bias_solves : InverseDynamics fracs shape (unaccelerated fracs (stopped m)) Same (no_force fracs) bias
    bias_solves = record {
      moves =
          other_accelerations shape (unaccelerated fracs (stopped m)) (no_force fracs) m.acceleration bias
          (superposed_moves shape (stopped m) (no_force fracs) (neg fracs.one) unit unit adds unit_moves);
      given = λ c there. cancelled (unit.joint_acceleration c);
    }

    -- ---- the torques at rest: what the mass table makes of the accelerations, less what the transpose makes of the forces of rows
    module _ (mimics : MimicsFit shape) (k : Constraints Frac) (turn : ℕ → Table Frac) (table J : ℕ → ℕ → Frac) (fits : RowsFit shape k)
        (mass : IsMassTable shape m table) (is : IsJacobian shape m k turn J) (lam : ℕ → Frac) (s : Unknowns Frac)
        (hs : Moves fracs shape (stopped m) Same (rows_on fracs k turn lam) s) where
      abbrev product : ℕ → Frac
      product c = sum_of fracs shape.columns (λ d. mul (table c (suc d)) (s.joint_acceleration (suc d)))

      abbrev across : ℕ → Frac
      across c = sum_of fracs k.rows (λ r. mul (J (suc r) c) (lam (suc r)))

      with_bias : (c : ℕ) → HasColumn shape c → Same (s.torque c) (add (add (bias.torque c) (neg (across c))) (product c))
      with_bias c there =
          let b = bias.torque c in
          let q = across c in
          exact (s.torque c) (add (add b (neg q)) (product c))
          (torque_sums shape (stopped m) k turn table J bias parents mimics fit fits (mass_at_rest table mass) (jacobian_at_rest k turn J is) bias_solves lam s hs c there
          ∙ sym (cls_of_add (add b (neg q)) (product c)
          ∙ ap (λ (t : ℚ). t +ℚ cls (product c)) (cls_of_add b (neg q) ∙ ap (λ (t : ℚ). cls b +ℚ t) (cls_of_neg q))))

      pub torques_at_rest : (c : ℕ) → HasColumn shape c → Same (s.torque c) (add (product c) (neg (across c)))
      torques_at_rest c there =
          let b = bias.torque c in
          let p = product c in
          let q = neg (across c) in
          same_trans (s.torque c) (add (add b q) p) (add p q) (with_bias c there)
          (same_trans (add (add b q) p) (add (add fracs.nul q) p) (add p q)
          (add_same (add b q) (add fracs.nul q) p p (add_same b fracs.nul q q (cancelled (unit.torque c)) (same_refl q)) (same_refl p))
          (without p (across c)))
