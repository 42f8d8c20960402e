-- The entries of a force on a body, and what the rates of the columns make of them.
use Rattle.std.proofs.Common.{◌≡◌, ℕ, suc, ◌+◌, ◌-◌, ◌<◌, ◌≤◌, ◌==◌, Bool, true, false, if◌then◌else◌, Option, None, Some, refl, sym, ◌∙◌, ap, subst, arith}
use mathlib.Core.Path.{ap₂}
use mathlib.Core.Logic.{◌⊎◌, inl, inr}
use Rattle.rb_frac.specs.Frac.{Frac, fracs, mul}
use Rattle.rb_frac.specs.Spatial.{Motion, Force}
use Rattle.rb_frac.proofs.Ring.{mul_nul}
use Rattle.rb_frac.proofs.Reduce.{same_sym}
use Rattle.rb_frac.proofs.Rational.{ℚ, ◌*ℚ◌, 0ℚ, 1ℚ, qo, rats, cls, sound, cls-zero, cls-one, mul_comm_ℚ, mul_one}
use Rattle.rb_frac.proofs.Hom.{cls_of_mul}
use Rattle.rb_frac.proofs.Quote.{with3, finish, quote}
use Rattle.rb_frac.proofs.Sums.{sum, sum_ext, sum-mul, sum_swap}
use Rattle.rb_num.specs.Arith.{fractions}
use Rattle.rb_spatial.specs.Motions.{power as rule_power}
use Rattle.rb_flat.specs.Shape.{Shape, HasColumn, ParentsComeFirst, ColumnsFit}
use Rattle.rb_flat.specs.Mechanism.{Mechanism}
use Rattle.rb_flat.specs.Dynamics.{followed}
use Rattle.rb_flat.proofs.Powers.{power, sum_one}
use Rattle.rb_flat.proofs.VirtualWork.{if_zero, if_is}
use Rattle.rb_composite.specs.Composite.{ancestor, IsOnPath, HasJointColumn, carried, share}
use Rattle.rb_composite.proofs.Forms.{power-by_rule, power-same_first}
use Rattle.rb_composite.proofs.Functionals.{over_joint}
use Rattle.rb_composite.proofs.Joints.{count, total}
use Rattle.rb_composite.proofs.Paths.{meets}
use Rattle.rb_composite.proofs.Seen.{seen, seen-linear, seen-at, seen-apart, power-climbs}
use Rattle.rb_jacobian.specs.Jacobian.{MovesAt, AreEntries}
use Rattle.rb_jacobian.proofs.Descent.{moves_alike, added_by, added_adds, added_rates, added_moves}

-- ---- rates of joints that follow others
one_first : (x : ℚ) → x ≡ cls fracs.one *ℚ x
one_first x = sym (ap (λ (t : ℚ). t *ℚ x) cls-one ∙ mul_comm_ℚ 1ℚ x ∙ mul_one x)

one_last : (x : Frac) → cls x ≡ cls (mul x fracs.one)
one_last x = sym (cls_of_mul x fracs.one ∙ ap (λ (t : ℚ). cls x *ℚ t) cls-one ∙ mul_one (cls x))

pub geared : (mimic : Option ℕ) (r x : Frac) → cls (followed fracs mimic r x) ≡ cls (followed fracs mimic r fracs.one) *ℚ cls x
geared None r x = one_first (cls x)
geared (Some master) r x = cls_of_mul r x ∙ ap (λ (t : ℚ). t *ℚ cls x) (one_last r)

cls_if : (b : Bool) (x : Frac) → cls (if b then x else fracs.nul) ≡ (if b then cls x else 0ℚ)
cls_if true x = refl
cls_if false x = cls-zero

times_if : (b : Bool) (x y : ℚ) → (if b then x else 0ℚ) *ℚ y ≡ (if b then x *ℚ y else 0ℚ)
times_if true x y = refl
times_if false x y = mul_comm_ℚ 0ℚ y ∙ mul_nul rats y

module _ (shape : Shape) (m : Mechanism Frac) (fit : ColumnsFit shape) (rate : ℕ → Frac) where
  -- the rate of a joint column
  abbrev pub joint_rate : ℕ → ℕ → ℚ
  joint_rate i k = cls (followed fracs (shape.mimic i) (m.multiplier i) (rate (shape.first_column i + k)))

  pub shares : (i k : ℕ) → HasJointColumn shape i k → sum qo shape.columns (λ c. cls (share shape m (suc c) i k) *ℚ cls (rate (suc c))) ≡ joint_rate i k
  unfolding share
  shares i k there =
      sum_ext qo shape.columns _ _ (λ c l. ap (λ (t : ℚ). t *ℚ cls (rate (suc c))) (cls_if (a + k == suc c) g) ∙ times_if (a + k == suc c) (cls g) (cls (rate (suc c))))
      ∙ sum_one shape.columns (a + k - 1) (λ c. if a + k == suc c then cls g *ℚ cls (rate (suc c)) else 0ℚ) (omega (arith, from, to)) (λ c b e. if_zero (a + k == suc c) _ (differs c e))
      ∙ if_is (a + k == suc (a + k - 1)) _ itself
      ∙ ap (λ (d : ℕ). cls g *ℚ cls (rate d)) own
      ∙ sym (geared (shape.mimic i) (m.multiplier i) (rate (a + k)))
    where
      a : ℕ
      a = shape.first_column i

      g : Frac
      g = followed fracs (shape.mimic i) (m.multiplier i) fracs.one

      column : HasColumn shape (a + k)
      column = fit.there i k there.there there.below

      from : 1 ≤ a + k
      from = column.from

      to : a + k ≤ shape.columns
      to = column.to

      own : suc (a + k - 1) ≡ a + k
      own = omega (arith, from)

      itself : (a + k == suc (a + k - 1)) ≡ true
      itself = grind (arith, from)

      differs : (c : ℕ) → (c == a + k - 1) ≡ false → (a + k == suc c) ≡ false
      differs c e = grind (arith, from, e)

  -- ---- sums over the columns, by joint columns
  regroup : (r s e : ℚ) → r *ℚ (s *ℚ e) ≡ e *ℚ (s *ℚ r)
  regroup r s e = with3 r s e λ ρ a b c. simp (a, b, c, quote) (finish ρ _ _ refl)

  pub by_joints : (e : ℕ → ℕ → ℚ)
      → sum qo shape.columns (λ c. cls (rate (suc c)) *ℚ total shape (λ i l. cls (share shape m (suc c) i l) *ℚ e i l)) ≡ total shape (λ i l. e i l *ℚ joint_rate i l)
  by_joints e =
      sum_ext qo shape.columns _ _ (λ c l.
      sym (sum-mul rats shape.bodies (cls (rate (suc c))) (λ i. sum qo (count shape (suc i)) (λ k. s c i k *ℚ e (suc i) k)))
      ∙ sum_ext qo shape.bodies _ _ (λ i h. sym (sum-mul rats (count shape (suc i)) (cls (rate (suc c))) (λ k. s c i k *ℚ e (suc i) k))))
      ∙ sum_swap rats shape.columns shape.bodies (λ c i. sum qo (count shape (suc i)) (λ k. cls (rate (suc c)) *ℚ (s c i k *ℚ e (suc i) k)))
      ∙ sum_ext qo shape.bodies _ _ (λ i h.
      sum_swap rats shape.columns (count shape (suc i)) (λ c k. cls (rate (suc c)) *ℚ (s c i k *ℚ e (suc i) k))
      ∙ sum_ext qo (count shape (suc i)) _ _ (λ k b.
      sum_ext qo shape.columns _ _ (λ c l. regroup (cls (rate (suc c))) (s c i k) (e (suc i) k))
      ∙ sum-mul rats shape.columns (e (suc i) k) (λ c. s c i k *ℚ cls (rate (suc c)))
      ∙ ap (λ (t : ℚ). e (suc i) k *ℚ t) (shares (suc i) k (record { there = record { from = omega arith; to = omega arith }; below = b }))))
    where
      s : ℕ → ℕ → ℕ → ℚ
      s c i k = cls (share shape m (suc c) (suc i) k)

-- ---- the entries
module _ (shape : Shape) (m : Mechanism Frac) (parents : ParentsComeFirst shape) (b : ℕ) (f : Force Frac) (low : b ≤ shape.bodies)
    (entry : ℕ → ℕ → Frac) (h : AreEntries shape m b f entry) where
  pub entry_is : (i k : ℕ) → HasJointColumn shape i k → cls (entry i k) ≡ seen shape m b i f (m.column i k)
  entry_is i k there = go (meets shape parents b i low there.there.from)
    where
      go : IsOnPath shape b i ⊎ (IsOnPath shape b i → ⊥) → cls (entry i k) ≡ seen shape m b i f (m.column i k)
      go (inl p) =
          let at : ancestor shape b p.0 ≡ i = p.1 in
          let here : HasJointColumn shape (ancestor shape b p.0) k = subst (λ (a : ℕ). HasJointColumn shape a k) (sym at) there in
          let w = m.column (ancestor shape b p.0) k in
          subst (λ (a : ℕ). cls (entry a k) ≡ seen shape m b a f (m.column a k)) at
          (sound (entry (ancestor shape b p.0) k) (rule_power fractions w (carried shape m b f p.0)) (h.along p.0 k here)
          ∙ power-by_rule w (carried shape m b f p.0)
          ∙ sym (seen-at shape m parents b p.0 f w low here.there.from))
      go (inr d) = sound (entry i k) fracs.nul (h.off i k there d) ∙ cls-zero ∙ sym (seen-apart shape m b i f (m.column i k) d)

  -- the power at motions of the bodies
  module _ (fit : ColumnsFit shape) (rate : ℕ → Frac) (v : ℕ → Motion Frac) (moves : MovesAt shape m rate v) where
    u_rate : (i k : ℕ) → HasJointColumn shape i k
        → cls (followed fracs (shape.mimic i) (m.multiplier i) ((added_by shape m parents fit rate).joint_acceleration (shape.first_column i + k))) ≡ joint_rate shape m fit rate i k
    u_rate i k there =
        let x = (added_by shape m parents fit rate).joint_acceleration (shape.first_column i + k) in
        let y = rate (shape.first_column i + k) in
        geared (shape.mimic i) (m.multiplier i) x
        ∙ ap (λ (t : ℚ). cls (followed fracs (shape.mimic i) (m.multiplier i) fracs.one) *ℚ t)
        (sound x y (added_rates shape m parents fit rate (shape.first_column i + k) (fit.there i k there.there there.below)))
        ∙ sym (geared (shape.mimic i) (m.multiplier i) y)

    pub power_by_entries : power (v b) f ≡ total shape (λ i k. cls (entry i k) *ℚ joint_rate shape m fit rate i k)
    power_by_entries =
        let u = added_by shape m parents fit rate in
        let adds = added_adds shape m parents fit rate in
        power-same_first f
        (moves_alike shape m parents fit rate u.joint_acceleration v u.acceleration (λ c there. same_sym (u.joint_acceleration c) (rate c) (added_rates shape m parents fit rate c there))
        moves (added_moves shape m parents fit u adds) b low)
        ∙ power-climbs shape m parents u adds b f low
        ∙ sum_ext qo shape.bodies _ _ (λ j l.
        over_joint shape m u.joint_acceleration (suc j) (seen-linear shape m b (suc j) f)
        ∙ sum_ext qo (count shape (suc j)) _ _ (λ k r. each j k l r))
      where
        each : (j k : ℕ) → j < shape.bodies → k < count shape (suc j)
            → cls (followed fracs (shape.mimic (suc j)) (m.multiplier (suc j)) ((added_by shape m parents fit rate).joint_acceleration (shape.first_column (suc j) + k)))
            *ℚ seen shape m b (suc j) f (m.column (suc j) k)
            ≡ cls (entry (suc j) k) *ℚ joint_rate shape m fit rate (suc j) k
        each j k l r =
            let there : HasJointColumn shape (suc j) k = record { there = record { from = omega arith; to = omega arith }; below = r } in
            ap₂ ◌*ℚ◌ (u_rate (suc j) k there) (sym (entry_is (suc j) k there)) ∙ mul_comm_ℚ (joint_rate shape m fit rate (suc j) k) (cls (entry (suc j) k))
