-- The motions of the bodies are the same in all values of inverse dynamics.
use Rattle.std.proofs.Common.{◌≡◌, ℕ, zero, suc, ◌≤◌, length, Ok, sym, ap, arith}
use Rattle.rb_sweep.proofs.NamingLaws.{same_values}
use Rattle.rb_work.specs.View.{View, v_at, a_at}
use Rattle.rb_work.specs.Place.{Place, q_of, X_of, s_of, v_of, c_of, a_of, b_of, f_of, t_of, T_of, look}
use Rattle.rb_work.proofs.PlaceLaws.{ordered}
use Rattle.rb_tree.specs.Robot.{Tree, AreBodies}
use Rattle.rb_tree.specs.State.{Row}
use Rattle.rb_rnea.specs.Dynamics.{AreDynamics, rule, extent_for}
use Rattle.rb_rnea.proofs.RowPass.{Own, call, is_call, has_body, room}

module _ (tree : Tree) (row : Row) (kept : AreBodies tree.bodies) where
  holds : (w : View) → AreDynamics tree row w → (m : Place) → Own tree m → rule tree row m w ≡ Ok (look m w)
  holds w h (q_of i) k = h.places.each_q i k
  holds w h (X_of i) k = h.places.each_X i k
  holds w h (s_of i) k = h.speeds.each_s i k
  holds w h (v_of zero) k = ap (λ x. Ok x) (sym h.speeds.at_world)
  holds w h (v_of (suc i)) k = h.speeds.each_v (suc i) (has_body tree (suc i) (omega arith) k)
  holds w h (c_of i) k = h.accelerations.each_c i k
  holds w h (a_of zero) k = ap (λ x. Ok x) (sym h.accelerations.at_world)
  holds w h (a_of (suc i)) k = h.accelerations.each_a (suc i) (has_body tree (suc i) (omega arith) k)
  holds w h (b_of i) k = h.accelerations.each_b i k
  holds w h (f_of i) k = h.forces.each_f i k
  holds w h (t_of i) k = h.torques.each_t i k
  holds w h (T_of c) k = h.torques.each_T c k
  holds w h _ k = absurd k

  module _ (u w : View) (hu : AreDynamics tree row u) (hw : AreDynamics tree row w) where
    same : (m : Place) → Own tree m → look m u ≡ look m w
    same m own =
        same_values _ _ (ordered (call tree row (extent_for tree)) (is_call tree row (extent_for tree) kept (room tree row kept))) u w (λ g. absurd g.1) (holds u hu) (holds w hw) m own

    pub speeds_same : (i : ℕ) → i ≤ length tree.bodies → v_at u i ≡ v_at w i
    speeds_same i there = same (v_of i) there

    pub accelerations_same : (i : ℕ) → i ≤ length tree.bodies → a_at u i ≡ a_at w i
    accelerations_same i there = same (a_of i) there
