-- The composite inertias lie in what a pass finds, from the leaves on, and so do the forces that they need and the powers of these.
use Rattle.std.proofs.Common.{◌≡◌, ℕ, zero, suc, ◌+◌, ◌-◌, ◌<◌, ◌≤◌, ◌==◌, Bool, true, false, if◌then◌else◌, refl, ap, ◌∙◌, subst, arith}
use Rattle.rb_result.specs.Steps.{◌>>=◌}
use Rattle.rb_sweep.specs.Sweep.{sweep, downward, counting_down}
use Rattle.rb_frac.specs.Frac.{Frac, Same}
use Rattle.rb_frac.specs.Spatial.{Inertia, Spatials, Inertias}
use Rattle.rb_num.specs.Fraction.{LiesIn}
use Rattle.rb_num.specs.Arith.{fractions, intervals}
use Rattle.rb_num.proofs.Same.{lies_in_same}
use Rattle.rb_num.proofs.Relates.{Met}
use Rattle.rb_num.proofs.Bridges.{to_intervals, ok_met}
use Rattle.rb_frac.proofs.Reduce.{same_sym}
use Rattle.rb_spatial.specs.Motions.{power}
use Rattle.rb_spatial.specs.Inertias.{table, times, sum as sum_of_two}
use Rattle.rb_spatial.specs.Carrying.{carry}
use Rattle.rb_spatial.proofs.Keep.{apply_dual_met, power_met, times_met, table_rel, sum_met, carry_met}
use Rattle.rb_flat.specs.Shape.{Shape, HasBody, ParentsComeFirst}
use Rattle.rb_flat.specs.Mechanism.{Mechanism}
use Rattle.rb_composite.specs.Composite.{ancestor, HasJointColumn, no_inertia, inertia_sum, own_inertia, children_inertia, AreComposites, carried, ArePairs}
use Rattle.rb_composite.proofs.Exists.{inertias_same}
use Rattle.rb_composite.proofs.Paths.{equal_is, ancestor-next, path_body, some_above}
use Rattle.rb_composite.proofs.Adding.{Adds, then_lies, adds_same, adds_if, adds_down, total_late}
use Rattle.rb_composite.proofs.Summands.{inertias, inertias_back, inertias_moved}
use Rattle.rb_mass.proofs.Pass.{Given, Found, IsWithin, IsPass, add_child, met_columns}

pub downward_is : (i n : ℕ) → i ≤ n → downward (i + 1) (n + 1) ≡ counting_down (suc i) (n - i)
unfolding downward
downward_is i n h =
    let e : n + 1 - (i + 1) ≡ n - i = omega arith in
    let e' : i + 1 ≡ suc i = omega arith in
    ap (counting_down (i + 1)) e ∙ ap (λ k. counting_down k (n - i)) e'

module _ (shape : Shape) (m : Mechanism Frac) (g : Given) (w : Found) (parents : ParentsComeFirst shape) (within : IsWithin shape m g) (pass : IsPass shape g w)
    (inertia : ℕ → Inertia Frac) (composites : AreComposites shape m inertia) where
  -- ---- composite inertias
  -- what body j adds for body i
  abbrev brought : ℕ → ℕ → Inertia Frac
  brought i j = if shape.parent j == i then carry fractions (m.place j) (inertia j) else no_inertia

  adds_child : (i j : ℕ) → HasBody shape j → (shape.parent j ≡ i → Inertias LiesIn (inertia j) (w.I j)) → Adds inertias (brought i j) (add_child shape g w i j)
  adds_child i j there below =
      adds_if inertias (shape.parent j == i) (carry fractions (m.place j) (inertia j)) (λ v. carry intervals (g.place j) (w.I j) >>= λ x. sum_of_two intervals v x)
      (λ e. record { at = λ x v l. then_lies (carry_met to_intervals (within.each j there).place (below (equal_is (shape.parent j) i e))) (λ y hy. sum_met to_intervals l hy) })

  -- a body up to i is none of its children
  none_brought : (i k : ℕ) → i ≤ shape.bodies → k < i → Inertias Same (brought i (suc k)) no_inertia
  none_brought i k h l = go (shape.parent (suc k) == i) refl
    where
      go : (b : Bool) → (shape.parent (suc k) == i) ≡ b → Inertias Same (if b then carry fractions (m.place (suc k)) (inertia (suc k)) else no_inertia) no_inertia
      go true e =
          let same : shape.parent (suc k) ≡ i = equal_is (shape.parent (suc k)) i e in
          let first : shape.parent (suc k) < suc k = parents (suc k) (record { from = omega arith; to = omega arith }) in
          absurd (omega arith)
      go false e = inertias_same no_inertia

  adds_children : (i : ℕ) → HasBody shape i → ((j : ℕ) → HasBody shape j → shape.parent j ≡ i → Inertias LiesIn (inertia j) (w.I j))
      → Adds inertias (children_inertia shape m inertia i) (λ v. sweep (add_child shape g w i) (downward (i + 1) (shape.bodies + 1)) v)
  unfolding children_inertia
  adds_children i there below =
      let h : i ≤ shape.bodies = there.to in
      let n = shape.bodies - i in
      let e : i + n ≡ shape.bodies = omega arith in
      rw (downward_is i shape.bodies h)
      (subst (λ (t : ℕ). Adds inertias (inertia_sum t (λ k. brought i (suc k))) (λ v. sweep (add_child shape g w i) (counting_down (suc i) n) v)) e
      (adds_same inertias (inertia_sum n (λ k. brought i (suc (i + k)))) (inertia_sum (i + n) (λ k. brought i (suc k))) (λ v. sweep (add_child shape g w i) (counting_down (suc i) n) v)
      (total_late inertias i n (λ k. brought i (suc k)) (λ k l. none_brought i k h l))
      (adds_down inertias (add_child shape g w i) (λ k. brought i (suc (i + k))) (suc i) n (λ k l. one k l))))
    where
      body : (k : ℕ) → k < shape.bodies - i → HasBody shape (suc (i + k))
      body k l = let h : i ≤ shape.bodies = there.to in record { from = omega arith; to = omega arith }

      one : (k : ℕ) → k < shape.bodies - i → Adds inertias (brought i (suc (i + k))) (add_child shape g w i (suc i + k))
      one k l =
          let e : suc (i + k) ≡ suc i + k = omega arith in
          subst (λ (j : ℕ). Adds inertias (brought i (suc (i + k))) (add_child shape g w i j)) e (adds_child i (suc (i + k)) (body k l) (below (suc (i + k)) (body k l)))

  -- a child comes later
  later : (i j n : ℕ) → HasBody shape j → shape.parent j ≡ i → shape.bodies - i < suc n → shape.bodies - j < n
  later i j n child e l =
      let b : shape.parent j < j = parents j child in
      let h : j ≤ shape.bodies = child.to in
      omega arith

  inertia_within : (n i : ℕ) → shape.bodies - i < n → HasBody shape i → Inertias LiesIn (inertia i) (w.I i)
  inertia_within zero i l there = absurd (omega arith)
  inertia_within (suc n) i l there =
      inertias_moved (sum_of_two fractions (own_inertia shape m i) (children_inertia shape m inertia i)) (inertia i) (w.I i)
      (inertias_back (inertia i) (sum_of_two fractions (own_inertia shape m i) (children_inertia shape m inertia i)) (composites.each i there))
      (ok_met (pass.each_I i there)
      ((adds_children i there (λ j child e. inertia_within n j (later i j n child e l) child)).at (own_inertia shape m i) (table intervals (g.inertia i)) (table_rel to_intervals (within.each i there).inertia)))

  pub inertias_lie : (i : ℕ) → HasBody shape i → Inertias LiesIn (inertia i) (w.I i)
  inertias_lie i there = inertia_within (suc (shape.bodies - i)) i (omega arith) there

  -- ---- the forces that they need
  pub forces_lie : (i k n : ℕ) → HasJointColumn shape i k → 1 ≤ ancestor shape i n
      → Met to_intervals (Spatials LiesIn) (carried shape m i (times fractions (inertia i) (m.column i k)) n) (w.force i k n)
  unfolding carried
  forces_lie i k zero there some =
      rw (pass.first_force i k there) (times_met to_intervals (inertias_lie i there.there) ((within.each i there.there).column k there.below))
  forces_lie i k (suc n) there some =
      let before : 1 ≤ ancestor shape i n = some_above shape parents (ancestor shape i n) (subst (λ (a : ℕ). 1 ≤ a) (ancestor-next shape i n) some) in
      let body : HasBody shape (ancestor shape i n) = path_body shape parents i n there.there.to before in
      rw (pass.next_force i k n there some)
      (then_lies (forces_lie i k n there before) (λ f hf. apply_dual_met to_intervals (within.each (ancestor shape i n) body).place hf))

  -- ---- the entries of pairs
  pub pairs_lie : (pair : ℕ → ℕ → ℕ → ℕ → Frac) → ArePairs shape m inertia pair → (i k n l : ℕ) → HasJointColumn shape i k → HasJointColumn shape (ancestor shape i n) l
      → n < shape.bodies → l < met_columns g i k (ancestor shape i n) → LiesIn (pair i k (ancestor shape i n) l) (w.H i k (ancestor shape i n) l)
  pairs_lie pair pairs i k n l there at steps met =
      let a = ancestor shape i n in
      let f = carried shape m i (times fractions (inertia i) (m.column i k)) n in
      lies_in_same (power fractions (m.column a l) f) (pair i k a l) (w.H i k a l)
      (same_sym (pair i k a l) (power fractions (m.column a l) f) (pairs.met i k n l there at))
      (ok_met (pass.each_H i k n l there steps met)
      (then_lies (forces_lie i k n there at.there.from) (λ v hv. power_met to_intervals ((within.each a at.there).column l at.below) hv)))
