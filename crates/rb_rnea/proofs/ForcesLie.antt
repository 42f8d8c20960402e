-- What the joints bear lies in what a pass finds, from the leaves on, and the torques of the columns.
use Rattle.std.proofs.Common.{◌≡◌, ℕ, zero, suc, ◌+◌, ◌-◌, ◌<◌, ◌≤◌, ◌==◌, Bool, true, false, if◌then◌else◌, Option, None, Some, [], ◌∷◌, Ok, refl, sym, ap, ◌∙◌, subst, arith}
use Rattle.rb_sweep.specs.Sweep.{sweep, upward, downward, counting_up, counting_down}
use Rattle.rb_frac.specs.Frac.{Frac, Same, fracs, add, mul}
use Rattle.rb_frac.specs.Spatial.{Force, Spatials}
use Rattle.rb_frac.specs.Mechanics.{plus, in_parent}
use Rattle.rb_num.specs.Interval.{Interval}
use Rattle.rb_num.specs.Fraction.{LiesIn}
use Rattle.rb_num.proofs.Same.{lies_in_same}
use Rattle.rb_num.proofs.Bridges.{ok_met}
use Rattle.rb_flat.specs.Shape.{Shape, HasBody, HasColumn, OwnsColumn, ParentsComeFirst, ColumnsFit, MimicsFit, MayFollow}
use Rattle.rb_flat.specs.Joint.{column_count}
use Rattle.rb_flat.specs.Mechanism.{Mechanism}
use Rattle.rb_flat.specs.Dynamics.{Unknowns, follows, none, spatial_sum, no_force, children_force, column_power, followers_power, torque_of, InverseDynamics}
use Rattle.rb_flat.proofs.Equality.{same_fractions, spatials_refl, spatials_sym, spatials_trans}
use Rattle.rb_flat.proofs.VirtualWork.{one_column}
use Rattle.rb_joint.proofs.JointMotionLies.{spatials_same}
use Rattle.rb_rnea.proofs.Enclosed.{SpatialWithin, NumberWithin, then_lies, plus_lies, in_parent_lies, power_lies, sum_lies, multiple_lies}
use Rattle.rb_rnea.proofs.Sweeps.{plus-none, add-nul, none_early, added_down, added_up}
use Rattle.rb_result.specs.Steps.{◌>>=◌}
use Rattle.rb_num.specs.Arith.{intervals}
use Rattle.rb_num.specs.Dot.{iv_dot}
use Rattle.rb_num.specs.Refusing.{iv_add}
use Rattle.rb_spatial.specs.Motions.{apply_dual, sum_spatial}
use Rattle.rb_rnea.proofs.Pass.{Given, Found, IsWithin, IsPass, add_child, add_follower}

equal_is : (a b : ℕ) → (a == b) ≡ true → a ≡ b
equal_is a b h = grind arith

followed_is : (mimic : Option ℕ) (i : ℕ) → follows mimic i ≡ true → mimic ≡ Some i
followed_is None i h = absurd cc
followed_is (Some master) i h = ap Some (equal_is master i h)

below_is : (a b k : ℕ) → a < suc k → k < b → (a == b) ≡ false
below_is a b k h l = grind arith

upward_is : (n : ℕ) → upward 1 (n + 1) ≡ counting_up 1 n
unfolding upward
upward_is n = let e : n + 1 - 1 ≡ n = omega arith in ap (counting_up 1) e

pub downward_is : (i n : ℕ) → i ≤ n → downward (i + 1) (n + 1) ≡ counting_down (suc i) (n - i)
unfolding downward
downward_is i n h =
    let e : n + 1 - (i + 1) ≡ n - i = omega arith in
    let e' : i + 1 ≡ suc i = omega arith in
    ap (counting_down (i + 1)) e ∙ ap (λ k. counting_down k (n - i)) e'

module _ (shape : Shape) (m : Mechanism Frac) (g : Given) (w : Found) (s : Unknowns Frac) (parents : ParentsComeFirst shape) (fit : ColumnsFit shape) (mimics : MimicsFit shape)
    (within : IsWithin shape m g) (pass : IsPass shape g w) (solves : InverseDynamics fracs shape m Same (no_force fracs) s)
    (needs : (i : ℕ) → HasBody shape i → Spatials LiesIn (s.needed i) (w.b i)) where
  -- what body j adds for body i
  abbrev brought : ℕ → ℕ → Force Frac
  brought i j = if shape.parent j == i then in_parent fracs (m.place j) (s.joint_force j) else none fracs

  -- a body up to i is none of its children
  none_brought : (i k : ℕ) → i ≤ shape.bodies → k < i → Spatials Same (brought i (suc k)) (none fracs)
  none_brought i k h l =
      let no : (shape.parent (suc k) == i) ≡ false = below_is (shape.parent (suc k)) i k (parents (suc k) (record { from = omega arith; to = omega arith })) l in
      subst (λ (b : Bool). Spatials Same (if b then in_parent fracs (m.place (suc k)) (s.joint_force (suc k)) else none fracs) (none fracs)) (sym no) (spatials_refl same_fractions (none fracs))

  one_body : (i j : ℕ) → HasBody shape j → (shape.parent j ≡ i → Spatials LiesIn (s.joint_force j) (w.f j))
      → (x : Force Frac) (v : Force Interval) → Spatials LiesIn x v → SpatialWithin (plus fracs x (brought i j)) (add_child shape g w i j v)
  one_body i j there below x v hx = go (shape.parent j == i) refl
    where
      go : (b : Bool) → (shape.parent j == i) ≡ b
          → SpatialWithin (plus fracs x (if b then in_parent fracs (m.place j) (s.joint_force j) else none fracs)) (if b then (apply_dual intervals (g.place j) (w.f j) >>= λ y. sum_spatial intervals v y) else Ok v)
      go true q = then_lies (in_parent_lies (within.each j there).place (below (equal_is (shape.parent j) i q))) (λ y hy. plus_lies hx hy)
      go false q = record { met = spatials_same (spatials_sym same_fractions (plus-none x)) hx }

  -- what the children's joints bear, added one by one
  children_lie : (i : ℕ) → HasBody shape i
      → ((j : ℕ) → HasBody shape j → shape.parent j ≡ i → Spatials LiesIn (s.joint_force j) (w.f j))
      → SpatialWithin (plus fracs (s.needed i) (children_force fracs shape m s.joint_force i)) (sweep (add_child shape g w i) (downward (i + 1) (shape.bodies + 1)) (w.b i))
  unfolding children_force
  children_lie i there below =
      let h : i ≤ shape.bodies = there.to in
      let e : i + (shape.bodies - i) ≡ shape.bodies = omega arith in
      rw (downward_is i shape.bodies h)
      (subst (λ (n : ℕ). SpatialWithin (plus fracs (s.needed i) (spatial_sum fracs n (λ k. brought i (suc k)))) (sweep (add_child shape g w i) (counting_down (suc i) (shape.bodies - i)) (w.b i))) e
      (added_down (add_child shape g w i) (λ k. brought i (suc k)) i (shape.bodies - i) (none_early (λ k. brought i (suc k)) i (λ k l. none_brought i k h l))
      (λ k l r. one_body i (suc k) (body k r) (below (suc k) (body k r))) (s.needed i) (w.b i) (needs i there)))
    where
      body : (k : ℕ) → k < i + (shape.bodies - i) → HasBody shape (suc k)
      body k r = let h : i ≤ shape.bodies = there.to in record { from = omega arith; to = omega arith }

  -- a child comes later
  later : (i j n : ℕ) → HasBody shape j → shape.parent j ≡ i → shape.bodies - i < suc n → shape.bodies - j < n
  later i j n child e l =
      let b : shape.parent j < j = parents j child in
      let h : j ≤ shape.bodies = child.to in
      omega arith

  force_within : (n i : ℕ) → shape.bodies - i < n → HasBody shape i → Spatials LiesIn (s.joint_force i) (w.f i)
  force_within zero i l there = absurd (omega arith)
  force_within (suc n) i l there =
      spatials_same
      (spatials_sym same_fractions (spatials_trans same_fractions (spatials_sym same_fractions (plus-none (s.joint_force i))) (solves.moves.balance i there)))
      (ok_met (pass.each_f i there) (children_lie i there (λ j child e. force_within n j (later i j n child e l) child)))

  pub forces_lie : (i : ℕ) → HasBody shape i → Spatials LiesIn (s.joint_force i) (w.f i)
  forces_lie i there = force_within (suc (shape.bodies - i)) i (omega arith) there

  power_within : (i k : ℕ) → HasBody shape i → k < column_count (shape.kind i) → LiesIn (column_power fracs shape m s.joint_force i k) (w.t i k)
  power_within i k there h = ok_met (pass.each_t i k there h) (power_lies ((within.each i there).column k h) (forces_lie i there))

  -- what body j adds for column k of the joint of body i
  abbrev shared : ℕ → ℕ → ℕ → Frac
  shared i k j = if follows (shape.mimic j) i then mul (m.multiplier j) (column_power fracs shape m s.joint_force j k) else fracs.nul

  one_share : (i k j : ℕ) → k < column_count (shape.kind i) → HasBody shape j → (x : Frac) (v : Interval) → LiesIn x v
      → NumberWithin (add x (shared i k j)) (add_follower shape g w i k j v)
  one_share i k j h there x v hx = go (follows (shape.mimic j) i) refl
    where
      go : (b : Bool) → follows (shape.mimic j) i ≡ b
          → NumberWithin (add x (if b then mul (m.multiplier j) (column_power fracs shape m s.joint_force j k) else fracs.nul)) (if b then (iv_dot ((g.multiplier j, w.t j k) ∷ []) >>= λ y. iv_add v y) else Ok v)
      go true q =
          let e : shape.mimic j ≡ Some i = followed_is (shape.mimic j) i q in
          let may : MayFollow shape j i = mimics j i there e in
          let own : column_count (shape.kind i) ≡ 1 = one_column (shape.kind i) may.master_entry in
          let its : column_count (shape.kind j) ≡ 1 = one_column (shape.kind j) may.entry in
          then_lies (multiple_lies ((within.each j there).multiplier i e) (power_within j k there (omega arith))) (λ y hy. sum_lies hx hy)
      go false q = record { met = lies_in_same x (add x fracs.nul) v (add-nul x) hx }

  followers_lie : (i k : ℕ) → HasBody shape i → k < column_count (shape.kind i)
      → NumberWithin (add (column_power fracs shape m s.joint_force i k) (followers_power fracs shape m s.joint_force i k)) (sweep (add_follower shape g w i k) (upward 1 (shape.bodies + 1)) (w.t i k))
  unfolding followers_power
  followers_lie i k there h =
      rw (upward_is shape.bodies)
      (added_up (add_follower shape g w i k) (λ j. shared i k (suc j)) shape.bodies
      (λ j r. one_share i k (suc j) h (record { from = omega arith; to = omega arith }))
      (column_power fracs shape m s.joint_force i k) (w.t i k) (power_within i k there h))

  pub torques_lie : (c : ℕ) → HasColumn shape c → LiesIn (s.torque c) (w.T c)
  unfolding torque_of
  torques_lie c there =
      let owns : OwnsColumn shape (shape.owner c) c = fit.owner c there in
      lies_in_same (torque_of fracs shape m s.joint_force c) (s.torque c) (w.T c)
      (same_fractions.sym (s.torque c) (torque_of fracs shape m s.joint_force c) (solves.moves.columns c there))
      (ok_met (pass.each_T c there) (followers_lie (shape.owner c) (c - shape.first_column (shape.owner c)) owns.there (omega arith)))
