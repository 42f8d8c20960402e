-- The values of forward dynamics, and what is refused first, from those of its parts.
use Rattle.std.proofs.Common.{◌≡◌, ℕ, ◌≤◌, sym, ◌∙◌, ap, subst}
use Rattle.rb_num.specs.Interval.{Interval}
use Rattle.rb_elimination.specs.Paths.{IsColumn}
use Rattle.rb_elimination.specs.Solving.{IsReduced}
use Rattle.rb_work.specs.declared.names.RowFault.{RowFault}
use Rattle.rb_work.specs.Path.{above}
use Rattle.rb_work.specs.View.{View, extent_of, columns_of, L_at, D_at, w_at, k_at}
use Rattle.rb_tree.specs.Columns.{AreUps}
use Rattle.rb_tree.specs.Robot.{Tree}
use Rattle.rb_tree.specs.State.{Row}
use Rattle.rb_tree.specs.Places.{IsFor}
use Rattle.rb_rnea.specs.Dynamics.{AreDynamics, unaccelerated}
use Rattle.rb_mass.specs.Mass.{AreMass}
use Rattle.rb_factor.specs.Steps.{interval_steps}
use Rattle.rb_factor.specs.Factor.{HoldsDivisors, HoldsFactors}
use Rattle.rb_factor.specs.Solve.{HoldsSolution, IsReduceRefused, IsSolveRefused, RefusesSolve}
use Rattle.rb_contact.specs.Driving.{AreDriving, IsRightSide}
use Rattle.rb_contact.specs.Forward.{AreFactored, AreForward, IsForwardRefused}
use Rattle.rb_contact.proofs.Stays.{dynamics_stay, factored_stays, driving_stays}

pub room_same : (tree : Tree) (u w : View) → extent_of w ≡ extent_of u → IsFor tree u → IsFor tree w
room_same tree u w e h = record {
  bodies = ap (λ x. x.bodies) e ∙ h.bodies;
  full = ap (λ x. x.full) e ∙ h.full;
  up = subst (AreUps tree.bodies) (sym (ap (λ x. x.up) e)) h.up;
}

-- a work that has as many rows as another has room for so many too
pub rows_within : (rows : ℕ) (u w : View) → w.rows ≡ u.rows → rows ≤ u.rows → rows ≤ w.rows
rows_within rows u w e within = subst (λ (n : ℕ). rows ≤ n) (sym e) within

-- ---- the bias, the mass table and its factors
pub bias_stays : (tree : Tree) (row : Row) (u m : View) → m ≡ record u { I = m.I; H = m.H; packed = m.packed } → AreDynamics tree row u → AreDynamics tree row m
bias_stays tree row u m e h =
    subst (λ (v : View). AreDynamics tree row v) (sym e) (dynamics_stay tree row u (record u { I = m.I; H = m.H; packed = m.packed }) h)

pub factored_from : (tree : Tree) (row : Row) (u m w : View) → IsFor tree u → AreDynamics tree (unaccelerated row) u → m ≡ record u { I = m.I; H = m.H; packed = m.packed } → AreMass tree m
    → w ≡ record m { packed = w.packed } → HoldsFactors m w → AreFactored tree row w
factored_from tree row u m w room bias em mass ew factors =
    let r : Row = unaccelerated row in
    record {
      room = room_same tree u w (ap extent_of ew ∙ ap extent_of em) room;
      bias = subst (λ (v : View). AreDynamics tree r v) (sym ew)
          (subst (λ (v : View). AreDynamics tree r (record v { packed = w.packed })) (sym em) (dynamics_stay tree r u (record u { I = m.I; H = m.H; packed = w.packed }) bias));
      mass = m.packed;
      table = subst (λ (v : View). AreMass tree (record v { packed = m.packed })) (sym ew) mass;
      factors = subst (λ (v : View). HoldsFactors (record v { packed = m.packed }) v) (sym ew) (subst (λ (v : View). HoldsFactors m v) ew factors);
    }

-- ---- what the factors find
pub factored_driven : (tree : Tree) (row : Row) (u d : View) → AreFactored tree row u → d ≡ record u { k = d.k; w = d.w } → AreFactored tree row d
factored_driven tree row u d h e = subst (λ (v : View). AreFactored tree row v) (sym e) (factored_stays tree row u (record u { k = d.k; w = d.w }) h)

pub divisors_driven : (tree : Tree) (row : Row) (d : View) → AreFactored tree row d → HoldsDivisors d
divisors_driven tree row d h = h.factors.divisors

-- the right side is k, where the columns are those of the robot
pub right_is : (tree : Tree) (row : Row) (d : View) → AreFactored tree row d → IsRightSide tree d → (c : ℕ) → IsColumn (columns_of d) c → w_at d c ≡ k_at d c
right_is tree row d h right c there = right.each_w c (record { from = there.from; to = subst (λ (n : ℕ). c ≤ n) h.room.up.count there.to })

solution_is : (d w : View) → ((c : ℕ) → IsColumn (columns_of d) c → w_at d c ≡ k_at d c) → HoldsSolution d (record d { w = w.w; z = w.z; x = w.x })
    → HoldsSolution (record d { w = d.k; z = w.z; x = w.x }) (record d { w = w.w; z = w.z; x = w.x })
solution_is d w right h = record {
  left = h.left;
  part = h.part;
  reduced = record { first = λ c k. h.reduced.first c k ∙ right c k; result = h.reduced.result; updates = h.reduced.updates; others = h.reduced.others };
  divided = h.divided;
  substituted = h.substituted;
}

pub forward_from : (tree : Tree) (row : Row) (d w : View) → AreFactored tree row d → AreDriving tree row d → IsRightSide tree d → w ≡ record d { w = w.w; z = w.z; x = w.x }
    → HoldsSolution d w → AreForward tree row w
forward_from tree row d w factored driving right e h = record {
  factored = subst (λ (v : View). AreFactored tree row v) (sym e) (factored_stays tree row d (record d { w = w.w; z = w.z; x = w.x }) factored);
  driving = subst (λ (v : View). AreDriving tree row v) (sym e) (driving_stays tree row d (record d { w = w.w; z = w.z; x = w.x }) driving);
  solution = subst (λ (v : View). HoldsSolution (record v { w = v.k }) v) (sym e)
      (solution_is d w (right_is tree row d factored right) (subst (λ (v : View). HoldsSolution d v) e h));
}

-- ---- refusals
pub reduced_from : (n : ℕ) (up : ℕ → ℕ) (L : ℕ → ℕ → Interval) (r s : ℕ → Interval) (left : ℕ → ℕ → Interval) (w : ℕ → Interval)
    → ((c : ℕ) → IsColumn n c → r c ≡ s c) → IsReduced interval_steps n up L r left w → IsReduced interval_steps n up L s left w
reduced_from n up L r s left w same h = record { first = λ c k. h.first c k ∙ same c k; result = h.result; updates = h.updates; others = h.others }

pub reduction_refused : (n : ℕ) (up : ℕ → ℕ) (L : ℕ → ℕ → Interval) (r s : ℕ → Interval) (e : RowFault) → ((c : ℕ) → IsColumn n c → r c ≡ s c)
    → IsReduceRefused n up L r e → IsReduceRefused n up L s e
reduction_refused n up L r s e same h = record {
  column = h.column;
  there = h.there;
  left = h.left;
  until = record { first = λ c k. h.until.first c k ∙ same c k; each = h.until.each };
  ancestor = h.ancestor;
  is_ancestor = h.is_ancestor;
  refused = h.refused;
  named = h.named;
}

refused_from : (n : ℕ) (up : ℕ → ℕ) (L : ℕ → ℕ → Interval) (D r s : ℕ → Interval) (e : RowFault) → ((c : ℕ) → IsColumn n c → r c ≡ s c)
    → IsSolveRefused n up L D r e → IsSolveRefused n up L D s e
refused_from n up L D r s e same (IsSolveRefused.by_reduce h) = IsSolveRefused.by_reduce (reduction_refused n up L r s e same h)
refused_from n up L D r s e same (IsSolveRefused.by_divide left w h k) = IsSolveRefused.by_divide left w (reduced_from n up L r s left w same h) k
refused_from n up L D r s e same (IsSolveRefused.by_substitute left w z h i k) = IsSolveRefused.by_substitute left w z (reduced_from n up L r s left w same h) i k

pub solution_refused : (tree : Tree) (row : Row) (d : View) (e : RowFault) → AreFactored tree row d → AreDriving tree row d → IsRightSide tree d → RefusesSolve d e
    → IsForwardRefused tree row e
solution_refused tree row d e factored driving right h =
    IsForwardRefused.in_solution d factored driving
    (refused_from (columns_of d) (above d.up) (L_at d) (D_at d) (w_at d) (k_at d) e (right_is tree row d factored right) h)
