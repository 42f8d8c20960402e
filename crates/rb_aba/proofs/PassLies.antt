-- Articulated inertias and biases lie in what a pass finds.
use Rattle.std.proofs.Common.{◌≡◌, ℕ, zero, suc, ◌+◌, ◌-◌, ◌<◌, ◌≤◌, Ok, pos, ◌≤ℤ◌, sym, subst, arith}
use Rattle.std.proofs.lemmas.Int.{ints}
use Rattle.std.proofs.lemmas.Result.{IfOk-at_ok}
use Rattle.rb_result.specs.Steps.{◌>>=◌}
use Rattle.rb_result.proofs.Results.{then-ok}
use Rattle.rb_sweep.specs.Sweep.{sweep, downward}
use Rattle.rb_frac.specs.Frac.{Frac, fracs, quot}
use Rattle.rb_frac.specs.Spatial.{Motion, Force, Spatials, Inertias}
use Rattle.rb_frac.specs.Mechanics.{in_parent}
use Rattle.rb_frac.proofs.Reduce.{same_sym}
use Rattle.rb_num.specs.Interval.{Interval}
use Rattle.rb_num.specs.Fraction.{LiesIn}
use Rattle.rb_num.specs.Quotient.{HasZero}
use Rattle.rb_num.specs.Refusing.{iv_div}
use Rattle.rb_num.specs.Arith.{fractions, intervals, fraction_field, interval_field}
use Rattle.rb_num.proofs.Same.{lies_in_same}
use Rattle.rb_num.proofs.Refused.{if_divided}
use Rattle.rb_num.proofs.Quotients.{cancel_pos}
use Rattle.rb_num.proofs.Fractions.{quot_lies}
use Rattle.rb_num.proofs.Relates.{RelatesField}
use Rattle.rb_num.proofs.Bridges.{to_intervals, ok_met}
use Rattle.rb_spatial.specs.Motions.{apply_dual, cross_dual, power, three, sum_spatial}
use Rattle.rb_spatial.specs.Inertias.{table, times, less_outer, sum as sum_of_two}
use Rattle.rb_spatial.specs.Carrying.{carry}
use Rattle.rb_spatial.proofs.Keep.{apply_met, cross_met, cross_dual_met, power_met, times_met, table_rel, sum_met, carry_met, less_outer_met}
use Rattle.rb_flat.specs.Shape.{Shape, HasBody, ParentsComeFirst, ColumnsFit}
use Rattle.rb_flat.specs.Joint.{column_count}
use Rattle.rb_flat.specs.Mechanism.{Mechanism}
use Rattle.rb_flat.specs.Dynamics.{none, children_force}
use Rattle.rb_flat.proofs.Equality.{same_fractions, spatials_sym}
use Rattle.rb_composite.specs.Composite.{HasJointColumn, own_inertia, children_inertia}
use Rattle.rb_joint.proofs.JointMotionLies.{spatials_same}
use Rattle.rb_rnea.proofs.Enclosed.{plus_lies, in_parent_lies}
use Rattle.rb_rnea.proofs.MotionsLie.{none_lies}
use Rattle.rb_articulated.specs.Rules.{less_power, vector_over, over}
use Rattle.rb_articulated.specs.Articulated.{Articulated, GivesWay, AreArticulated, HasPivots}
use Rattle.rb_articulated.proofs.Rules.{and_multiple_met, less_power_met, over_met}
use Rattle.rb_composite.proofs.Adding.{Adds, then_lies}
use Rattle.rb_composite.proofs.Summands.{inertias, inertias_back, inertias_moved}
use Rattle.rb_aba.proofs.Children.{spatials, adds_children}
use Rattle.rb_aba.proofs.Pass.{Given, BodyWithin, IsWithin, IsElimination, IsPass, add_inertia, add_bias, ArticulatedLies}

-- fractions that lie in intervals, with quotients
abbrev pub quotients : RelatesField fraction_field interval_field
quotients = record { base = to_intervals; div = λ x y v w h k. if_divided v w (λ t. LiesIn (quot x y) t) (quot_lies x y v w h k) }

-- ---- pivots
-- where there is a quotient, zero does not lie in the divisor
divisor : (a b v : Interval) → iv_div a b ≡ Ok v → ¬ HasZero b
divisor a b v e = IfOk-at_ok (λ (x : Interval). ¬ HasZero b) e (if_divided a b (λ (x : Interval). ¬ HasZero b) (λ n. n))

without_zero : (f w : Force Interval) (d : Interval) → over interval_field f d ≡ Ok w → ¬ HasZero d
unfolding over vector_over
without_zero f w d e =
    let lin = then-ok (three intervals (iv_div f.lin.x d) (iv_div f.lin.y d) (iv_div f.lin.z d)) _ w e in
    let x = then-ok (iv_div f.lin.x d) _ lin.0 lin.1 in
    divisor f.lin.x d x.0 x.1

-- so it is none of the numbers there
not_zero : (x : Frac) (v : Interval) → LiesIn x v → ¬ HasZero v → ¬ (x.num ≡ pos 0)
not_zero x v h n e =
    let low : v.lo ≤ℤ pos 0 = cancel_pos v.lo (pos 0) x.den x.some (omega (arith, ints, h.above, e)) in
    let high : pos 0 ≤ℤ v.hi = cancel_pos (pos 0) v.hi x.den x.some (omega (arith, ints, h.below, e)) in
    n (record { low = low; high = high })

module _ (shape : Shape) (m : Mechanism Frac) (g : Given) (t : Articulated Frac) (w : Articulated Interval) (parents : ParentsComeFirst shape) (fit : ColumnsFit shape)
    (within : IsWithin shape m g) (art : AreArticulated shape m t) (pass : IsPass shape g w) where
  abbrev columns : ℕ → ℕ
  columns i = column_count (shape.kind i)

  -- ---- velocities
  speed_within : (n i : ℕ) → i < n → i ≤ shape.bodies → Spatials LiesIn (t.v i) (w.v i)
  speed_within zero i l h = absurd (omega arith)
  speed_within (suc n) zero l h =
      spatials_same (spatials_sym same_fractions art.world) (subst (λ (v : Motion Interval). Spatials LiesIn (none fracs) v) (sym pass.world) none_lies)
  speed_within (suc n) (suc j) l h =
      let there : HasBody shape (suc j) = record { from = omega arith; to = h } in
      let b : shape.parent (suc j) < suc j = parents (suc j) there in
      let body : BodyWithin shape m g (suc j) = within.each (suc j) there in
      spatials_same (spatials_sym same_fractions (art.speeds (suc j) there))
      (ok_met (pass.each_v (suc j) there)
      (then_lies (apply_met to_intervals body.place (speed_within n (shape.parent (suc j)) (omega arith) (omega arith))) (λ x hx.
      then_lies body.velocity_over (λ y hy. plus_lies hx hy))))

  speeds_lie : (i : ℕ) → i ≤ shape.bodies → Spatials LiesIn (t.v i) (w.v i)
  speeds_lie i h = speed_within (suc i) i (omega arith) h

  turnings_lie : (i : ℕ) → HasBody shape i → Spatials LiesIn (t.c i) (w.c i)
  turnings_lie i there =
      spatials_same (spatials_sym same_fractions (art.turnings i there))
      (ok_met (pass.each_c i there) (then_lies (within.each i there).velocity_over (λ y hy. cross_met to_intervals (speeds_lie i there.to) hy)))

  -- ---- columns
  abbrev InertiaLies : ℕ → ℕ → Type 0
  InertiaLies i k = Inertias LiesIn (t.IA i k) (w.IA i k)

  abbrev BiasLies : ℕ → ℕ → Type 0
  BiasLies i k = Spatials LiesIn (t.p i k) (w.p i k)

  module _ (i k : ℕ) (col : HasJointColumn shape i k) (inertia : InertiaLies i (suc k)) (bias : BiasLies i (suc k)) where
    abbrev exact : GivesWay shape m t i k
    exact = art.eliminated i k col

    abbrev found : IsElimination shape g w i k
    found = pass.each_column i k col

    axis_lies : Spatials LiesIn (m.column i k) (g.column i k)
    axis_lies = (within.each i col.there).column k col.below

    U_lies : Spatials LiesIn (t.U i k) (w.U i k)
    U_lies = spatials_same (spatials_sym same_fractions exact.U) (ok_met found.U (times_met to_intervals inertia axis_lies))

    D_lies : LiesIn (t.D i k) (w.D i k)
    D_lies =
        lies_in_same (power fractions (m.column i k) (t.U i k)) (t.D i k) (w.D i k) (same_sym (t.D i k) (power fractions (m.column i k) (t.U i k)) exact.D)
        (ok_met found.D (power_met to_intervals axis_lies U_lies))

    u_lies : LiesIn (t.u i k) (w.u i k)
    u_lies =
        let c = shape.first_column i + k in
        let x = less_power fractions (m.torque c) (m.column i k) (t.p i (suc k)) in
        lies_in_same x (t.u i k) (w.u i k) (same_sym (t.u i k) x exact.u)
        (ok_met found.u (less_power_met to_intervals (within.torque c (fit.there i k col.there col.below)) axis_lies bias))

    W_lies : Spatials LiesIn (t.W i k) (w.W i k)
    W_lies = spatials_same (spatials_sym same_fractions exact.W) (ok_met found.W (over_met quotients U_lies D_lies))

    next_inertia : InertiaLies i k
    next_inertia =
        let x = less_outer fractions (t.IA i (suc k)) (t.U i k) (t.W i k) in
        inertias_moved x (t.IA i k) (w.IA i k) (inertias_back (t.IA i k) x exact.IA) (ok_met found.IA (less_outer_met to_intervals inertia U_lies W_lies))

    next_bias : BiasLies i k
    next_bias = spatials_same (spatials_sym same_fractions exact.p) (ok_met found.p (and_multiple_met to_intervals bias u_lies W_lies))

  -- a body before its columns give way
  record FirstLies (i : ℕ) : Type 0 where
    inertia : InertiaLies i (columns i)
    bias : BiasLies i (columns i)

  -- and once those from k on have
  record RestLies (i k : ℕ) : Type 0 where
    inertia : InertiaLies i k
    bias : BiasLies i k

  columns_within : (i : ℕ) → HasBody shape i → FirstLies i → (j k : ℕ) → k + j ≡ columns i → RestLies i k
  columns_within i there first zero k e =
      subst (λ (n : ℕ). RestLies i n) (omega (arith, e)) (record { inertia = first.inertia; bias = first.bias })
  columns_within i there first (suc j) k e =
      let col : HasJointColumn shape i k = record { there = there; below = omega (arith, e) } in
      let before : RestLies i (suc k) = columns_within i there first j (suc k) (omega (arith, e)) in
      record { inertia = next_inertia i k col before.inertia before.bias; bias = next_bias i k col before.inertia before.bias }

  columns_lie : (i k : ℕ) → HasBody shape i → FirstLies i → k ≤ columns i → RestLies i k
  columns_lie i k there first l = columns_within i there first (columns i - k) k (omega arith)

  hands_lie : (i : ℕ) → HasBody shape i → FirstLies i → Spatials LiesIn (t.pa i) (w.pa i)
  hands_lie i there first =
      let rest : RestLies i 0 = columns_lie i 0 there first (omega arith) in
      spatials_same (spatials_sym same_fractions (art.handed i there))
      (ok_met (pass.each_pa i there) (then_lies (times_met to_intervals rest.inertia (turnings_lie i there)) (λ f hf. plus_lies rest.bias hf)))

  -- ---- children
  adds_inertias : (i : ℕ) → HasBody shape i → ((j : ℕ) → HasBody shape j → shape.parent j ≡ i → InertiaLies j 0)
      → Adds inertias (children_inertia shape m (λ j. t.IA j 0) i) (λ v. sweep (add_inertia shape g w i) (downward (i + 1) (shape.bodies + 1)) v)
  unfolding children_inertia
  adds_inertias i there below =
      adds_children inertias shape parents (λ j. carry fractions (m.place j) (t.IA j 0)) (λ j v. carry intervals (g.place j) (w.IA j 0) >>= λ x. sum_of_two intervals v x) i there
      (λ j child e. record { at = λ x v l. then_lies (carry_met to_intervals (within.each j child).place (below j child e)) (λ y hy. sum_met to_intervals l hy) })

  adds_biases : (i : ℕ) → HasBody shape i → ((j : ℕ) → HasBody shape j → shape.parent j ≡ i → Spatials LiesIn (t.pa j) (w.pa j))
      → Adds spatials (children_force fracs shape m t.pa i) (λ v. sweep (add_bias shape g w i) (downward (i + 1) (shape.bodies + 1)) v)
  unfolding children_force
  adds_biases i there below =
      adds_children spatials shape parents (λ j. in_parent fracs (m.place j) (t.pa j)) (λ j v. apply_dual intervals (g.place j) (w.pa j) >>= λ x. sum_spatial intervals v x) i there
      (λ j child e. record { at = λ x v l. then_lies (in_parent_lies (within.each j child).place (below j child e)) (λ y hy. plus_lies l hy) })

  first_lies : (i : ℕ) → HasBody shape i → ((j : ℕ) → HasBody shape j → shape.parent j ≡ i → FirstLies j) → FirstLies i
  first_lies i there below =
      let body : BodyWithin shape m g i = within.each i there in
      let own = own_inertia shape m i in
      let others = children_inertia shape m (λ j. t.IA j 0) i in
      let own_bias = cross_dual fractions (t.v i) (times fractions own (t.v i)) in
      let velocity = speeds_lie i there.to in
      let its = table_rel to_intervals body.inertia in
      record {
        inertia =
            inertias_moved (sum_of_two fractions own others) (t.IA i (columns i)) (w.IA i (columns i)) (inertias_back (t.IA i (columns i)) (sum_of_two fractions own others) (art.inertias i there))
            (ok_met (pass.each_IA i there)
            ((adds_inertias i there (λ j child e. (columns_lie j 0 child (below j child e) (omega arith)).inertia)).at own (table intervals (g.inertia i)) its));
        bias =
            spatials_same (spatials_sym same_fractions (art.biases i there))
            (ok_met (pass.each_p i there)
            (then_lies (times_met to_intervals its velocity) (λ h hh.
            then_lies (cross_dual_met to_intervals velocity hh) (λ b hb.
            (adds_biases i there (λ j child e. hands_lie j child (below j child e))).at own_bias b hb))));
      }

  -- a child comes later
  later : (i j n : ℕ) → HasBody shape j → shape.parent j ≡ i → shape.bodies - i < suc n → shape.bodies - j < n
  later i j n child e l =
      let b : shape.parent j < j = parents j child in
      let h : j ≤ shape.bodies = child.to in
      omega arith

  first_within : (n i : ℕ) → shape.bodies - i < n → HasBody shape i → FirstLies i
  first_within zero i l there = absurd (omega arith)
  first_within (suc n) i l there = first_lies i there (λ j child e. first_within n j (later i j n child e l) child)

  all_first : (i : ℕ) → HasBody shape i → FirstLies i
  all_first i there = first_within (suc (shape.bodies - i)) i (omega arith) there

  before : (i k : ℕ) → HasJointColumn shape i k → RestLies i (suc k)
  before i k col = columns_lie i (suc k) col.there (all_first i col.there) (omega (arith, col.below))

  pub articulated_lies : ArticulatedLies shape t w
  articulated_lies = record {
    v = speeds_lie;
    c = turnings_lie;
    IA = λ i there. (all_first i there).inertia;
    p = λ i there. (all_first i there).bias;
    U = λ i k col. U_lies i k col (before i k col).inertia (before i k col).bias;
    D = λ i k col. D_lies i k col (before i k col).inertia (before i k col).bias;
    u = λ i k col. u_lies i k col (before i k col).inertia (before i k col).bias;
  }

  -- no pivot is zero
  pub has_pivots : HasPivots shape m t
  has_pivots = record {
    each = λ i k col.
        not_zero (t.D i k) (w.D i k) (articulated_lies.D i k col) (without_zero (w.U i k) (w.W i k) (w.D i k) (pass.each_column i k col).W);
  }
