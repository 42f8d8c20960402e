-- The table that composite inertias give is the mass table.
use Rattle.std.proofs.Common.{◌≡◌, ℕ, suc, ◌+◌, ◌<◌, ◌==◌, Bool, true, false, if◌then◌else◌, Option, None, Some, refl, sym, ◌∙◌, ap, arith}
use mathlib.Core.Path.{ap₂}
use Rattle.rb_frac.specs.Frac.{Frac, Same, fracs, mul}
use Rattle.rb_frac.specs.Spatial.{Motion, Inertia}
use Rattle.rb_frac.proofs.Ring.{mul_nul}
use Rattle.rb_frac.proofs.Rational.{ℚ, ◌+ℚ◌, ◌*ℚ◌, neg_ℚ, 0ℚ, qo, rats, cls, sound, exact, cls-zero, add_nul, add_neg, add_assoc}
use Rattle.rb_frac.proofs.Hom.{cls_of_mul}
use Rattle.rb_frac.proofs.Sums.{sum, sum_ext, sum-add, sum-neg, sum-mul, sum_swap}
use Rattle.rb_num.specs.Arith.{fractions}
use Rattle.rb_spatial.specs.Inertias.{times}
use Rattle.rb_flat.specs.Shape.{Shape, HasBody, HasColumn, MimicsFit, ParentsComeFirst, ColumnsFit}
use Rattle.rb_flat.specs.Mechanism.{Mechanism}
use Rattle.rb_flat.specs.Dynamics.{Unknowns, followed, joint_motion, no_force, at_unit, InverseDynamics}
use Rattle.rb_flat.proofs.Powers.{sum_one}
use Rattle.rb_flat.proofs.VirtualWork.{if_zero, if_is}
use Rattle.rb_flat.proofs.Superposed.{Added, unit_adds, unit_of, unit_of_solves}
use Rattle.rb_flat.proofs.Symmetric.{torque-work}
use Rattle.rb_composite.specs.Composite.{HasJointColumn, over_joints, AreComposites, ArePairs, share, shared, gathered}
use Rattle.rb_composite.specs.Laws.{CompositeIsMassTable}
use Rattle.rb_composite.proofs.Forms.{form, form_is, form-swap}
use Rattle.rb_composite.proofs.Joints.{count, cls-over_joints}
use Rattle.rb_composite.proofs.Functionals.{over_joint}
use Rattle.rb_composite.proofs.Seen.{seen, power-climbs}
use Rattle.rb_composite.proofs.Telescope.{needs-by_joints}
use Rattle.rb_composite.proofs.Pairs.{joined, joined_is, joined-linear, joined-linear_first, pair-joined}

-- ---- sums
sum-three : (n : ℕ) (a b c : ℕ → ℕ → ℚ)
    → sum qo n (λ i. sum qo n (λ j. (a i j +ℚ b i j) +ℚ neg_ℚ (c i j)))
    ≡ (sum qo n (λ i. sum qo n (a i)) +ℚ sum qo n (λ i. sum qo n (b i))) +ℚ neg_ℚ (sum qo n (λ i. sum qo n (c i)))
sum-three n a b c =
    sum_ext qo n _ _ (λ i l.
    sum-add rats n (λ j. a i j +ℚ b i j) (λ j. neg_ℚ (c i j))
    ∙ ap₂ ◌+ℚ◌ (sum-add rats n (a i) (b i)) (sum-neg rats n (c i)))
    ∙ sum-add rats n (λ i. sum qo n (a i) +ℚ sum qo n (b i)) (λ i. neg_ℚ (sum qo n (c i)))
    ∙ ap₂ ◌+ℚ◌ (sum-add rats n (λ i. sum qo n (a i)) (λ i. sum qo n (b i))) (sum-neg rats n (λ i. sum qo n (c i)))

diagonal : (n i : ℕ) (f : ℕ → ℚ) → i < n → sum qo n (λ j. if suc i == suc j then f i else 0ℚ) ≡ f i
diagonal n i f l =
    sum_one n i (λ j. if suc i == suc j then f i else 0ℚ) l (λ j r e. if_zero (suc i == suc j) (f i) (let no : (suc i == suc j) ≡ false = grind arith in no))
    ∙ if_is (suc i == suc i) (f i) (let same : (suc i == suc i) ≡ true = grind arith in same)

taken_off : (x y z : ℚ) → x +ℚ y ≡ z → z +ℚ neg_ℚ y ≡ x
taken_off x y z e = ap (λ (t : ℚ). t +ℚ neg_ℚ y) (sym e) ∙ add_assoc x y (neg_ℚ y) ∙ ap (λ (t : ℚ). x +ℚ t) (add_neg y) ∙ add_nul x

-- ---- shares
geared : (mimic : Option ℕ) (r x y : Frac) → cls x ≡ cls y → cls (followed fracs mimic r x) ≡ cls (followed fracs mimic r y)
geared None r x y e = e
geared (Some master) r x y e = cls_of_mul r x ∙ ap (λ (t : ℚ). cls r *ℚ t) e ∙ sym (cls_of_mul r y)

at_one : (mimic : Option ℕ) (r : Frac) (b : Bool) → cls (followed fracs mimic r (if b then fracs.one else fracs.nul)) ≡ cls (if b then followed fracs mimic r fracs.one else fracs.nul)
at_one mimic r true = refl
at_one None r false = refl
at_one (Some master) r false = cls_of_mul r fracs.nul ∙ ap (λ (t : ℚ). cls r *ℚ t) cls-zero ∙ mul_nul rats (cls r) ∙ sym cls-zero

module _ (shape : Shape) (m : Mechanism Frac) (fit : ColumnsFit shape) where
  -- by how much a joint column moves in a solution at the unit acceleration of column c
  share_is : (c : ℕ) (u : Unknowns Frac) → InverseDynamics fracs shape (at_unit fracs m c) Same (no_force fracs) u → (i k : ℕ) → HasJointColumn shape i k
      → cls (followed fracs (shape.mimic i) (m.multiplier i) (u.joint_acceleration (shape.first_column i + k))) ≡ cls (share shape m c i k)
  unfolding share
  share_is c u hu i k there =
      geared (shape.mimic i) (m.multiplier i) (u.joint_acceleration (shape.first_column i + k)) (if shape.first_column i + k == c then fracs.one else fracs.nul)
      (sound (u.joint_acceleration (shape.first_column i + k)) (if shape.first_column i + k == c then fracs.one else fracs.nul)
      (hu.given (shape.first_column i + k) (fit.there i k there.there there.below)))
      ∙ at_one (shape.mimic i) (m.multiplier i) (shape.first_column i + k == c)

  module _ (parents : ParentsComeFirst shape) (mimics : MimicsFit shape) (inertia : ℕ → Inertia Frac) (composites : AreComposites shape m inertia)
      (c d : ℕ) (hc : HasColumn shape c) (hd : HasColumn shape d)
      (u s : Unknowns Frac) (hu : InverseDynamics fracs shape (at_unit fracs m c) Same (no_force fracs) u) (hs : InverseDynamics fracs shape (at_unit fracs m d) Same (no_force fracs) s) where
    u_adds : Added shape m u
    u_adds = unit_adds shape m parents c u hu.moves

    s_adds : Added shape m s
    s_adds = unit_adds shape m parents d s hs.moves

    abbrev n : ℕ
    n = shape.bodies

    abbrev over : Unknowns Frac → ℕ → Motion Frac
    over t i = joint_motion fracs shape m t.joint_acceleration i

    -- ---- the torque, by pairs of joints
    abbrev upward : ℕ → ℕ → ℚ
    upward i j = seen shape m (suc i) (suc j) (times fractions (inertia (suc i)) (over u (suc i))) (over s (suc j))

    abbrev downward : ℕ → ℕ → ℚ
    downward i j = seen shape m (suc j) (suc i) (times fractions (inertia (suc j)) (over s (suc j))) (over u (suc i))

    abbrev same : ℕ → ℕ → ℚ
    same i j = if suc i == suc j then form (inertia (suc i)) (over u (suc i)) (over s (suc i)) else 0ℚ

    first-upward : (i : ℕ) → i < n → form (inertia (suc i)) (over u (suc i)) (s.acceleration (suc i)) ≡ sum qo n (upward i)
    first-upward i l =
        form-swap (inertia (suc i)) (over u (suc i)) (s.acceleration (suc i))
        ∙ form_is (inertia (suc i)) (s.acceleration (suc i)) (over u (suc i))
        ∙ power-climbs shape m parents s s_adds (suc i) (times fractions (inertia (suc i)) (over u (suc i))) (omega arith)

    second-downward : (j : ℕ) → j < n → form (inertia (suc j)) (u.acceleration (suc j)) (over s (suc j)) ≡ sum qo n (λ i. downward i j)
    second-downward j l =
        form_is (inertia (suc j)) (u.acceleration (suc j)) (over s (suc j))
        ∙ power-climbs shape m parents u u_adds (suc j) (times fractions (inertia (suc j)) (over s (suc j))) (omega arith)

    only_diagonal : (i j : ℕ) → (if suc i == suc j then form (inertia (suc i)) (over u (suc i)) (over s (suc j)) else 0ℚ) ≡ same i j
    only_diagonal i j = go (suc i == suc j) refl
      where
        go : (b : Bool) → (suc i == suc j) ≡ b → (if b then form (inertia (suc i)) (over u (suc i)) (over s (suc j)) else 0ℚ) ≡ (if b then form (inertia (suc i)) (over u (suc i)) (over s (suc i)) else 0ℚ)
        go true e = let at : suc j ≡ suc i = grind arith in ap (λ (k : ℕ). form (inertia (suc i)) (over u (suc i)) (over s k)) at
        go false e = refl

    torque-joined : cls (s.torque c) ≡ sum qo n (λ i. sum qo n (λ j. joined shape m inertia (suc i) (suc j) (over u (suc i)) (over s (suc j))))
    torque-joined =
        torque-work shape m parents mimics fit c hc u hu s s.needed s_adds.balance (s_adds.columns c hc)
        ∙ sym (taken_off _ _ _ (needs-by_joints shape m parents inertia composites u s u_adds s_adds))
        ∙ ap₂ (λ (x y : ℚ). x +ℚ neg_ℚ y)
        (ap₂ ◌+ℚ◌
        (sum_ext qo n _ _ first-upward)
        (sum_ext qo n _ _ second-downward ∙ sum_swap rats n n (λ j i. downward i j)))
        (sym (sum_ext qo n _ _ (λ i l. diagonal n i (λ k. form (inertia (suc k)) (over u (suc k)) (over s (suc k))) l)))
        ∙ sym (sum-three n upward downward same)
        ∙ sum_ext qo n _ _ (λ i l. sum_ext qo n _ _ (λ j r.
        ap (λ (t : ℚ). (upward i j +ℚ downward i j) +ℚ neg_ℚ t) (sym (only_diagonal i j))
        ∙ sym (joined_is shape m inertia (suc i) (suc j) (over u (suc i)) (over s (suc j)))))

    -- ---- column by column
    module _ (pair : ℕ → ℕ → ℕ → ℕ → Frac) (pairs : ArePairs shape m inertia pair) where
      abbrev term : ℕ → ℕ → ℕ → ℕ → ℚ
      term i k j l = cls (shared shape m pair c d i k j l)

      one_term : (i k j l : ℕ) → HasJointColumn shape i k → HasJointColumn shape j l
          → cls (share shape m c i k) *ℚ (cls (share shape m d j l) *ℚ joined shape m inertia i j (m.column i k) (m.column j l)) ≡ term i k j l
      one_term i k j l hi hj =
          ap (λ (t : ℚ). cls (share shape m c i k) *ℚ (cls (share shape m d j l) *ℚ t)) (sym (pair-joined shape m inertia parents pair pairs i k j l hi hj))
          ∙ sym (rats.mul_assoc (cls (share shape m c i k)) (cls (share shape m d j l)) (cls (pair i k j l)))
          ∙ ap (λ (t : ℚ). t *ℚ cls (pair i k j l)) (sym (cls_of_mul (share shape m c i k) (share shape m d j l)))
          ∙ sym (cls_of_mul (mul (share shape m c i k) (share shape m d j l)) (pair i k j l))

      expanded : (i j : ℕ) → HasBody shape i → HasBody shape j
          → joined shape m inertia i j (over u i) (over s j) ≡ sum qo (count shape i) (λ k. sum qo (count shape j) (λ l. term i k j l))
      expanded i j hi hj =
          over_joint shape m u.joint_acceleration i (joined-linear_first shape m inertia i j (over s j))
          ∙ sum_ext qo (count shape i) _ _ (λ k a.
          ap₂ ◌*ℚ◌ (share_is c u hu i k (record { there = hi; below = a }))
          (over_joint shape m s.joint_acceleration j (joined-linear shape m inertia i j (m.column i k))
          ∙ sum_ext qo (count shape j) _ _ (λ l b. ap (λ (t : ℚ). t *ℚ joined shape m inertia i j (m.column i k) (m.column j l)) (share_is d s hs j l (record { there = hj; below = b }))))
          ∙ sym (sum-mul rats (count shape j) (cls (share shape m c i k)) (λ l. cls (share shape m d j l) *ℚ joined shape m inertia i j (m.column i k) (m.column j l)))
          ∙ sum_ext qo (count shape j) _ _ (λ l b. one_term i k j l (record { there = hi; below = a }) (record { there = hj; below = b })))

      pub torque-gathered : cls (s.torque c) ≡ cls (gathered shape m pair c d)
      torque-gathered =
          torque-joined
          ∙ sum_ext qo n _ _ (λ i a.
          sum_ext qo n _ _ (λ j b. expanded (suc i) (suc j) (record { from = omega arith; to = omega arith }) (record { from = omega arith; to = omega arith }))
          ∙ sum_swap rats n (count shape (suc i)) (λ j k. sum qo (count shape (suc j)) (λ l. term (suc i) k (suc j) l))
          ∙ sum_ext qo (count shape (suc i)) _ _ (λ k b. sym (cls-over_joints shape (λ j l. shared shape m pair c d (suc i) k j l))))
          ∙ sym (cls-over_joints shape (λ i k. over_joints shape (λ j l. shared shape m pair c d i k j l)))

pub composite_is_mass_table : CompositeIsMassTable
composite_is_mass_table shape m table parents mimics fit is = record {
  entry = λ c d s hc hd hs.
      exact (table c d) (s.torque c)
      (sound (table c d) (gathered shape m is.pair c d) (is.entry c d hc hd)
      ∙ sym (torque-gathered shape m fit parents mimics is.inertia is.composites c d hc hd (unit_of shape m parents fit c) s (unit_of_solves shape m parents fit c) hs is.pair is.pairs));
}
