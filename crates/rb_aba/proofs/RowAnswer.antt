-- The values of a row, and the first refusal, are determined by the robot and the row alone.
use Rattle.std.proofs.Common.{◌≡◌, ℕ, zero, suc, ◌+◌, List, Result, Ok, Err, inl, inr, refl, ap, sym, ◌∙◌, subst, arith}
use Rattle.rb_num.specs.Interval.{Interval}
use Rattle.rb_result.specs.Steps.{◌>>=◌}
use Rattle.rb_result.proofs.Results.{same_ok, not-both, then-ok, then-err}
use Rattle.rb_work.specs.View.{View, extent_of, blank_of, v_at, a_at, x_at, U_at, D_at, u_at}
use Rattle.rb_work.specs.Zeros.{zero_motion}
use Rattle.rb_work.specs.Place.{Place, q_of, X_of, s_of, v_of, c_of, IA_of, p_of, U_of, packed_of, u_of, Ia_of, pa_of, x_of, a_of, look}
use Rattle.rb_work.specs.declared.names.RowFault.{RowFault}
use Rattle.rb_sweep.specs.Naming.{run}
use Rattle.rb_sweep.proofs.Climbing.{map_upward_same}
use Rattle.rb_sweep.proofs.NamingLaws.{found, refusal, same_values, not_both, one_refusal, finds, refuses}
use Rattle.rb_work.proofs.PlaceLaws.{IsCall, naming, ordered}
use Rattle.rb_work.proofs.Sizes.{sizes_of, sizes_for, blank_for}
use Rattle.rb_tree.specs.Columns.{column_count, body_of_column}
use Rattle.rb_tree.specs.Robot.{Tree, HasBody, HasColumn, AreBodies}
use Rattle.rb_tree.specs.State.{Row}
use Rattle.rb_rnea.specs.Speeds.{v_rule}
use Rattle.rb_rnea.specs.Accelerations.{world_acceleration}
use Rattle.rb_rnea.specs.Dynamics.{extent_for}
use Rattle.rb_rnea.proofs.RowPass.{HasRoom, has_body, room}
use Rattle.rb_aba.specs.Articulated.{HasJointColumn, column_of, U_rule, D_rule, u_rule}
use Rattle.rb_aba.specs.Accelerations.{x_rule, a_rule}
use Rattle.rb_aba.specs.Forward.{AllLead, AreFirst, place_in, rule, order, IsRefused, accelerations_in, answer_of}
use Rattle.rb_aba.proofs.RowNames.{body_again, place_again, column_there, number_again, has_number, Own, run_of, call}
use Rattle.rb_aba.proofs.RowOrder.{is_call}

module _ (tree : Tree) (row : Row) (kept : AreBodies tree.bodies) (lead : AllLead tree) where
  abbrev Holds : View → Type 0
  Holds w = (m : Place) → Own tree m → rule tree row m w ≡ Ok (look m w)

  -- ---- columns by their joints
  pub at_joint : {A : Type 0} (f : ℕ → ℕ → A) (i k : ℕ) → HasJointColumn tree i k → f (body_of_column tree.bodies (column_of tree.bodies i k)) (place_in tree.bodies (column_of tree.bodies i k)) ≡ f i k
  at_joint f i k col =
      ap (λ (j : ℕ). f j (place_in tree.bodies (column_of tree.bodies i k))) (body_again tree kept lead i k col) ∙ ap (f i) (place_again tree kept lead i k col)

  are_first : (w : View) → Holds w → AreFirst tree row w
  are_first w h = record {
    places = record { each_q = λ i k. h (q_of i) k; each_X = λ i k. h (X_of i) k };
    speeds = record { at_world = sym (same_ok {E = RowFault} zero_motion (v_at w 0) (h (v_of 0) (omega arith))); each_s = λ i k. h (s_of i) k; each_v = each_v };
    articulated = record {
      each_c = λ i k. h (c_of i) k;
      each_IA = λ i k. h (IA_of i) k;
      each_p = λ i k. h (p_of i) k;
      each_U = λ i k col. sym (at_joint (λ j l. U_rule tree j l w) i k col) ∙ h (U_of (column_of tree.bodies i k)) (has_number tree kept lead i k col);
      each_D = λ i k col. sym (at_joint (λ j l. D_rule tree j l w) i k col) ∙ h (packed_of (column_of tree.bodies i k) (column_of tree.bodies i k)) (has_number tree kept lead i k col, refl);
      each_u = λ i k col. sym (at_joint (λ j l. u_rule tree row j l w) i k col) ∙ h (u_of (column_of tree.bodies i k)) (has_number tree kept lead i k col);
      each_Ia = λ i k. h (Ia_of i) k;
      each_pa = λ i k. h (pa_of i) k;
    };
    accelerated = record {
      at_world = sym (same_ok {E = RowFault} (world_acceleration row) (a_at w 0) (h (a_of 0) (omega arith)));
      each_x = λ i k col. sym (at_joint (λ j l. x_rule tree j l w) i k col) ∙ h (x_of (column_of tree.bodies i k)) (has_number tree kept lead i k col);
      each_a = each_a;
    };
  }
    where
      each_v : (i : ℕ) → HasBody tree i → v_rule tree i w ≡ Ok (v_at w i)
      each_v zero k = let low = k.from in absurd (omega arith)
      each_v (suc i) k = h (v_of (suc i)) k.to

      each_a : (i : ℕ) → HasBody tree i → a_rule tree i w ≡ Ok (a_at w i)
      each_a zero k = let low = k.from in absurd (omega arith)
      each_a (suc i) k = h (a_of (suc i)) k.to

  -- what is said of a column of a joint is said of its number
  by_number : (P : ℕ → ℕ → ℕ → Type 0) → ((i k : ℕ) → HasJointColumn tree i k → P i k (column_of tree.bodies i k)) → (c : ℕ) → HasColumn tree c
      → P (body_of_column tree.bodies c) (place_in tree.bodies c) c
  by_number P h c has =
      subst (P (body_of_column tree.bodies c) (place_in tree.bodies c)) (number_again tree kept lead c has)
      (h (body_of_column tree.bodies c) (place_in tree.bodies c) (column_there tree kept lead c has))

  holds : (w : View) → AreFirst tree row w → Holds w
  holds w h (q_of i) k = h.places.each_q i k
  holds w h (X_of i) k = h.places.each_X i k
  holds w h (s_of i) k = h.speeds.each_s i k
  holds w h (v_of zero) k = ap (λ x. Ok x) (sym h.speeds.at_world)
  holds w h (v_of (suc i)) k = h.speeds.each_v (suc i) (has_body tree (suc i) (omega arith) k)
  holds w h (c_of i) k = h.articulated.each_c i k
  holds w h (IA_of i) k = h.articulated.each_IA i k
  holds w h (p_of i) k = h.articulated.each_p i k
  holds w h (U_of c) k = by_number (λ i l d. U_rule tree i l w ≡ Ok (U_at w d)) h.articulated.each_U c k
  holds w h (packed_of c d) k =
      subst (λ (b : ℕ). rule tree row (packed_of c b) w ≡ Ok (look (packed_of c b) w)) (sym k.1) (by_number (λ i l d. D_rule tree i l w ≡ Ok (D_at w d)) h.articulated.each_D c k.0)
  holds w h (u_of c) k = by_number (λ i l d. u_rule tree row i l w ≡ Ok (u_at w d)) h.articulated.each_u c k
  holds w h (Ia_of i) k = h.articulated.each_Ia i k
  holds w h (pa_of i) k = h.articulated.each_pa i k
  holds w h (x_of c) k = by_number (λ i l d. x_rule tree i l w ≡ Ok (x_at w d)) h.accelerated.each_x c k
  holds w h (a_of zero) k = ap (λ x. Ok x) (sym h.accelerated.at_world)
  holds w h (a_of (suc i)) k = h.accelerated.each_a (suc i) (has_body tree (suc i) (omega arith) k)
  holds w h _ k = absurd k

  pub row_found : (w t : View) → sizes_of w ≡ sizes_for (extent_of w) → HasRoom tree (extent_of w) → run_of tree row w ≡ Ok t → AreFirst tree row t
  row_found w t f has e = are_first t (found _ _ (ordered (call tree row (extent_of w)) (is_call tree kept lead row (extent_of w) has)) w t f e).holds

  pub row_refused : (w : View) (e : RowFault) → sizes_of w ≡ sizes_for (extent_of w) → HasRoom tree (extent_of w) → run_of tree row w ≡ Err e → IsRefused tree row e
  row_refused w e f has r =
      let h = refusal _ _ (ordered (call tree row (extent_of w)) (is_call tree kept lead row (extent_of w) has)) w e f r in
      record { values = h.reached; first = h.first }

  -- ---- one answer
  order_of : IsCall (call tree row (extent_for tree))
  order_of = is_call tree kept lead row (extent_for tree) (room tree row kept)

  pub same_accelerations : (u w : View) → AreFirst tree row u → AreFirst tree row w → accelerations_in tree u ≡ accelerations_in tree w
  same_accelerations u w hu hw =
      map_upward_same (x_at u) (x_at w) 1 (column_count tree.bodies + 1)
      (λ c low high. same_values _ _ (ordered (call tree row (extent_for tree)) order_of) u w (λ g. absurd g.1) (holds u hu) (holds w hw) (x_of c) (record { from = low; to = omega arith }))

  pub either : (w : View) (e : RowFault) → AreFirst tree row w → IsRefused tree row e → ⊥
  either w e hw r = not_both _ _ (ordered (call tree row (extent_for tree)) order_of) w r.values e (λ g. absurd g.1) (holds w hw) r.first

  pub one_refused : (d e : RowFault) → IsRefused tree row d → IsRefused tree row e → d ≡ e
  one_refused d e q r = one_refusal _ _ (ordered (call tree row (extent_for tree)) order_of) q.values r.values d e (λ g. absurd g.1) q.first r.first

  -- ---- from zeros
  ok : List Interval → Result (List Interval) RowFault
  ok xs = Ok xs

  blank : View
  blank = blank_of (extent_for tree)

  pub first_answer : (t : View) → AreFirst tree row t → answer_of tree row ≡ Ok (accelerations_in tree t)
  unfolding answer_of blank ok
  first_answer t h =
      let r = finds _ _ (ordered (call tree row (extent_for tree)) order_of) blank t (blank_for (extent_for tree)) (λ g. absurd g.1) (holds t h) in
      let told : accelerations_in tree r.reached ≡ accelerations_in tree t =
      map_upward_same (x_at r.reached) (x_at t) 1 (column_count tree.bodies + 1) (λ c low high. r.same (x_of c) (record { from = low; to = omega arith })) in
      ap (λ x. (x >>= λ w. ok (accelerations_in tree w))) r.sweeps ∙ ap ok told

  pub answer_refused : (e : RowFault) → IsRefused tree row e → answer_of tree row ≡ Err e
  unfolding answer_of blank ok
  answer_refused e h =
      ap (λ x. (x >>= λ w. ok (accelerations_in tree w)))
      (refuses _ _ (ordered (call tree row (extent_for tree)) order_of) blank h.values e (blank_for (extent_for tree)) (λ g. absurd g.1) h.first)

  -- values that are found, in a work of the right sizes
  pub record Found (numbers : List Interval) : Type 0 where
    pub values : View
    pub fits : sizes_of values ≡ sizes_for (extent_for tree)
    pub are : AreFirst tree row values
    pub same : accelerations_in tree values ≡ numbers

  pub found_first : (numbers : List Interval) → answer_of tree row ≡ Ok numbers → Found numbers
  unfolding answer_of blank
  found_first numbers e =
      let h = then-ok (run (naming (call tree row (extent_for tree))) (order tree) blank) _ numbers e in
      let f = found _ _ (ordered (call tree row (extent_for tree)) order_of) blank h.0 (blank_for (extent_for tree)) h.1 in
      record { values = h.0; fits = f.fits; are = are_first h.0 f.holds; same = same_ok {E = RowFault} _ _ h.2 }

  -- they are found again
  pub found_again : (w : View) → sizes_of w ≡ sizes_for (extent_of w) → HasRoom tree (extent_of w) → AreFirst tree row w → (t : View) × (run_of tree row w ≡ Ok t)
  found_again w f has h =
      let r = finds _ _ (ordered (call tree row (extent_of w)) (is_call tree kept lead row (extent_of w) has)) w w f (λ g. refl) (holds w h) in (r.reached, r.sweeps)

  pub refused_of : (e : RowFault) → answer_of tree row ≡ Err e → IsRefused tree row e
  unfolding answer_of blank ok
  refused_of e r =
      elim (then-err (run (naming (call tree row (extent_for tree))) (order tree) blank) (λ w. ok (accelerations_in tree w)) e r) [
        | inl d ↦ row_refused blank e (blank_for (extent_for tree)) (room tree row kept) d
        | inr m ↦ absurd (not-both (ok (accelerations_in tree m.0)) (accelerations_in tree m.0) e refl m.2)
      ]
