-- The power of the torques at rates of the columns is the power of the joints' forces at the motions over the joints.
use Rattle.std.proofs.Common.{◌≡◌, ℕ, suc, ◌+◌, ◌-◌, ◌<◌, ◌≤◌, ◌==◌, Bool, true, false, if◌then◌else◌, Option, None, Some, refl, sym, ◌∙◌, ap, subst, arith}
use mathlib.Core.Path.{ap₂}
use Rattle.rb_frac.specs.Frac.{Frac, fracs, mul}
use Rattle.rb_frac.specs.Spatial.{Force}
use Rattle.rb_frac.specs.Mechanics.{power_of, scaled}
use Rattle.rb_frac.proofs.Rational.{ℚ, ◌+ℚ◌, ◌*ℚ◌, 0ℚ, 1ℚ, qo, rats, cls, exact, cls-zero, add_comm, add_nul, mul_comm_ℚ, mul_one}
use Rattle.rb_frac.proofs.Ring.{mul_nul}
use Rattle.rb_frac.proofs.Hom.{cls_of_add, cls_of_mul}
use Rattle.rb_frac.proofs.Transfer.{cls-sum}
use Rattle.rb_frac.proofs.Sums.{sum, sum_ext, sum-add, sum-mul, sum_swap}
use Rattle.rb_flat.specs.Shape.{Shape, HasBody, HasColumn, MimicsFit, OwnsColumn, ColumnsFit}
use Rattle.rb_flat.specs.Joint.{Kind, Fixed, Revolute, Continuous, Prismatic, Planar, Free, entry_count, column_count}
use Rattle.rb_flat.specs.Mechanism.{Mechanism}
use Rattle.rb_flat.specs.Dynamics.{follows, followed, joint_motion, column_power, followers_power, torque_of}
use Rattle.rb_flat.specs.TreeLaws.{VirtualWork}
use Rattle.rb_flat.proofs.Powers.{power, power-swap, power-scaled, power-sum, sum_none, sum_one}

pub one_column : (k : Kind) → entry_count k ≡ 1 → column_count k ≡ 1
one_column Fixed e = cc
one_column Revolute e = refl
one_column Continuous e = absurd (omega arith)
one_column Prismatic e = refl
one_column Planar e = absurd (omega arith)
one_column Free e = absurd (omega arith)

pub if_zero : (b : Bool) (x : ℚ) → b ≡ false → (if b then x else 0ℚ) ≡ 0ℚ
if_zero b x e = ap (λ (c : Bool). if c then x else 0ℚ) e

pub if_is : (b : Bool) (x : ℚ) → b ≡ true → (if b then x else 0ℚ) ≡ x
if_is b x e = ap (λ (c : Bool). if c then x else 0ℚ) e

-- ---- the one term of a sum at a place
picked : (n a c : ℕ) (h : ℕ → ℚ) → a ≤ c → c < a + n → sum qo n (λ k. if c == a + k then h k else 0ℚ) ≡ h (c - a)
picked n a c h l r =
    sum_one n (c - a) (λ k. if c == a + k then h k else 0ℚ) (omega arith) (λ k b e. if_zero (c == a + k) (h k) (differs k e))
    ∙ if_is (c == a + (c - a)) (h (c - a)) here
  where
    differs : (k : ℕ) → (k == c - a) ≡ false → (c == a + k) ≡ false
    differs k e = grind arith

    here : (c == a + (c - a)) ≡ true
    here = grind arith

passed : (n a c : ℕ) (h : ℕ → ℚ) → (a ≤ c → c < a + n → ⊥) → sum qo n (λ k. if c == a + k then h k else 0ℚ) ≡ 0ℚ
passed n a c h out = sum_none n (λ k. if c == a + k then h k else 0ℚ) (λ k b. if_zero (c == a + k) (h k) (differs k b (c == a + k) refl))
  where
    differs : (k : ℕ) → k < n → (b : Bool) → (c == a + k) ≡ b → (c == a + k) ≡ false
    differs k b false e = e
    differs k b true e =
        let same : c ≡ a + k = grind arith in
        absurd (out (omega arith) (omega arith))

module _ (shape : Shape) (m : Mechanism Frac) (f : ℕ → Force Frac) (mimics : MimicsFit shape) (fit : ColumnsFit shape) where
  -- the power of a joint's force at its column, and by how much its columns follow the rates
  abbrev p : ℕ → ℕ → ℚ
  p i k = power (m.column i k) (f i)

  gear_of : Option ℕ → Frac → ℚ
  gear_of None r = 1ℚ
  gear_of (Some master) r = cls r

  abbrev gear : ℕ → ℚ
  gear i = gear_of (shape.mimic i) (m.multiplier i)

  geared : (o : Option ℕ) (r x : Frac) → cls (followed fracs o r x) ≡ gear_of o r *ℚ cls x
  unfolding gear_of
  geared None r x = sym (mul_comm_ℚ 1ℚ (cls x) ∙ mul_one (cls x))
  geared (Some master) r x = cls_of_mul r x

  -- ---- a column's torque, body by body
  abbrev owned : ℕ → ℕ → ℚ
  owned c i = if i == shape.owner c then p i (c - shape.first_column (shape.owner c)) else 0ℚ

  abbrev follower : ℕ → ℕ → ℚ
  follower c i = if follows (shape.mimic i) (shape.owner c) then cls (m.multiplier i) *ℚ p i (c - shape.first_column (shape.owner c)) else 0ℚ

  -- the columns of body i that are column c
  abbrev share : ℕ → ℕ → ℚ
  share c i = sum qo (column_count (shape.kind i)) (λ k. if c == shape.first_column i + k then gear i *ℚ p i k else 0ℚ)

  no_owner : (c i : ℕ) → HasColumn shape c → HasBody shape i → (i == shape.owner c) ≡ false → shape.mimic i ≡ None → share c i ≡ 0ℚ
  no_owner c i there body e lead = passed (column_count (shape.kind i)) (shape.first_column i) c (λ k. gear i *ℚ p i k) out
    where
      out : shape.first_column i ≤ c → c < shape.first_column i + column_count (shape.kind i) → ⊥
      out l r =
          let own : OwnsColumn shape i c = record { there = body; leads = lead; from = l; below = r } in
          let same : shape.owner c ≡ i = fit.alone i c own in
          let differ : ¬ (i ≡ shape.owner c) = grind arith in
          differ (sym same)

  both_zero : (x y : ℚ) → x ≡ 0ℚ → y ≡ 0ℚ → x +ℚ y ≡ 0ℚ
  both_zero x y d e = ap₂ ◌+ℚ◌ d e ∙ add_nul 0ℚ

  zero_second : (x y z : ℚ) → x ≡ z → y ≡ 0ℚ → x +ℚ y ≡ z
  zero_second x y z d e = ap₂ ◌+ℚ◌ d e ∙ add_nul z

  zero_first : (x y z : ℚ) → x ≡ 0ℚ → y ≡ z → x +ℚ y ≡ z
  zero_first x y z d e = add_comm x y ∙ zero_second y x z e d

  follows_none : (c i : ℕ) → shape.mimic i ≡ None → follower c i ≡ 0ℚ
  follows_none c i lead =
      if_zero (follows (shape.mimic i) (shape.owner c)) (cls (m.multiplier i) *ℚ p i (c - shape.first_column (shape.owner c)))
      (ap (λ (o : Option ℕ). follows o (shape.owner c)) lead)

  -- of a body whose joint leads
  leading_share : (c i : ℕ) → HasColumn shape c → HasBody shape i → shape.mimic i ≡ None → share c i ≡ owned c i +ℚ follower c i
  unfolding gear_of
  leading_share c i there body lead = go (i == shape.owner c) refl
    where
      at_owner : (i == shape.owner c) ≡ true → share c i ≡ owned c i
      at_owner e =
          let same : i ≡ shape.owner c = grind arith in
          let own = subst (λ (j : ℕ). OwnsColumn shape j c) (sym same) (fit.owner c there) in
          picked (column_count (shape.kind i)) (shape.first_column i) c (λ k. gear i *ℚ p i k) own.from own.below
          ∙ ap (λ (o : Option ℕ). gear_of o (m.multiplier i) *ℚ p i (c - shape.first_column i)) lead
          ∙ mul_comm_ℚ 1ℚ (p i (c - shape.first_column i)) ∙ mul_one (p i (c - shape.first_column i))
          ∙ ap (λ (j : ℕ). p i (c - shape.first_column j)) same
          ∙ sym (if_is (i == shape.owner c) (p i (c - shape.first_column (shape.owner c))) e)

      go : (b : Bool) → (i == shape.owner c) ≡ b → share c i ≡ owned c i +ℚ follower c i
      go true e = at_owner e ∙ sym (zero_second (owned c i) (follower c i) (owned c i) refl (follows_none c i lead))
      go false e =
          no_owner c i there body e lead
          ∙ sym (both_zero (owned c i) (follower c i) (if_zero (i == shape.owner c) (p i (c - shape.first_column (shape.owner c))) e) (follows_none c i lead))

  -- of one whose joint follows that of the master
  following_share : (c i master : ℕ) → HasColumn shape c → HasBody shape i → shape.mimic i ≡ Some master → share c i ≡ owned c i +ℚ follower c i
  unfolding gear_of
  following_share c i master there body e = go (master == shape.owner c) refl
    where
      one : column_count (shape.kind i) ≡ 1
      one = one_column (shape.kind i) (mimics i master body e).entry

      master_one : column_count (shape.kind master) ≡ 1
      master_one = one_column (shape.kind master) (mimics i master body e).master_entry

      start : shape.first_column i ≡ shape.first_column master
      start = fit.follower i master body e

      not_owner : (b : Bool) → (i == shape.owner c) ≡ b → owned c i ≡ 0ℚ
      not_owner false d = if_zero (i == shape.owner c) (p i (c - shape.first_column (shape.owner c))) d
      not_owner true d =
          let same : i ≡ shape.owner c = grind arith in
          let own = subst (λ (j : ℕ). OwnsColumn shape j c) (sym same) (fit.owner c there) in
          let clash : None ≡ Some master = sym own.leads ∙ e in
          cc

      followed_by : (b : Bool) → (master == shape.owner c) ≡ b → follower c i ≡ (if b then cls (m.multiplier i) *ℚ p i (c - shape.first_column (shape.owner c)) else 0ℚ)
      followed_by b d =
          ap (λ (o : Option ℕ). if follows o (shape.owner c) then cls (m.multiplier i) *ℚ p i (c - shape.first_column (shape.owner c)) else 0ℚ) e
          ∙ ap (λ (t : Bool). if t then cls (m.multiplier i) *ℚ p i (c - shape.first_column (shape.owner c)) else 0ℚ) d

      go : (b : Bool) → (master == shape.owner c) ≡ b → share c i ≡ owned c i +ℚ follower c i
      go true d =
          let same : master ≡ shape.owner c = grind arith in
          let own = subst (λ (j : ℕ). OwnsColumn shape j c) (sym same) (fit.owner c there) in
          let from : shape.first_column master ≤ c = own.from in
          let to : c < shape.first_column master + column_count (shape.kind master) = own.below in
          picked (column_count (shape.kind i)) (shape.first_column i) c (λ k. gear i *ℚ p i k) (omega (arith, start)) (omega (arith, start, one, master_one))
          ∙ ap (λ (o : Option ℕ). gear_of o (m.multiplier i) *ℚ p i (c - shape.first_column i)) e
          ∙ ap (λ (a : ℕ). cls (m.multiplier i) *ℚ p i (c - a)) (start ∙ ap shape.first_column same)
          ∙ sym (zero_first (owned c i) (follower c i) (cls (m.multiplier i) *ℚ p i (c - shape.first_column (shape.owner c))) (not_owner (i == shape.owner c) refl) (followed_by true d))
      go false d =
          let out : shape.first_column i ≤ c → c < shape.first_column i + column_count (shape.kind i) → ⊥ = λ l r.
          let may = mimics i master body e in
          let own : OwnsColumn shape master c = record { there = may.there; leads = may.leads; from = omega (arith, start, l); below = omega (arith, start, one, master_one, r) } in
          let same : shape.owner c ≡ master = fit.alone master c own in
          let differ : ¬ (master ≡ shape.owner c) = grind arith in
          differ (sym same) in
          passed (column_count (shape.kind i)) (shape.first_column i) c (λ k. gear i *ℚ p i k) out
          ∙ sym (both_zero (owned c i) (follower c i) (not_owner (i == shape.owner c) refl) (followed_by false d))

  shared : (c i : ℕ) → HasColumn shape c → HasBody shape i → (o : Option ℕ) → shape.mimic i ≡ o → share c i ≡ owned c i +ℚ follower c i
  shared c i there body None e = leading_share c i there body e
  shared c i there body (Some master) e = following_share c i master there body e

  cls_if : (b : Bool) (x : Frac) → cls (if b then x else fracs.nul) ≡ (if b then cls x else 0ℚ)
  cls_if true x = refl
  cls_if false x = cls-zero

  followers-powers : (c : ℕ) → cls (followers_power fracs shape m f (shape.owner c) (c - shape.first_column (shape.owner c))) ≡ sum qo shape.bodies (λ j. follower c (suc j))
  unfolding followers_power power
  followers-powers c =
      cls-sum shape.bodies (λ j. if follows (shape.mimic (suc j)) (shape.owner c) then mul (m.multiplier (suc j)) (column_power fracs shape m f (suc j) (c - shape.first_column (shape.owner c))) else fracs.nul)
      ∙ sum_ext qo shape.bodies _ _ (λ j l. cls_if (follows (shape.mimic (suc j)) (shape.owner c)) _
      ∙ ap (λ (x : ℚ). if follows (shape.mimic (suc j)) (shape.owner c) then x else 0ℚ) (cls_of_mul (m.multiplier (suc j)) (column_power fracs shape m f (suc j) (c - shape.first_column (shape.owner c)))))

  owned-sum : (c : ℕ) → HasColumn shape c → sum qo shape.bodies (λ j. owned c (suc j)) ≡ p (shape.owner c) (c - shape.first_column (shape.owner c))
  owned-sum c there =
      sum_one shape.bodies (shape.owner c - 1) (λ j. owned c (suc j)) (omega (arith, body.from, body.to)) (λ k l e. if_zero (suc k == shape.owner c) (p (suc k) (c - shape.first_column (shape.owner c))) (differs k e))
      ∙ ap (owned c) own
      ∙ if_is (shape.owner c == shape.owner c) (p (shape.owner c) (c - shape.first_column (shape.owner c))) itself
    where
      body : HasBody shape (shape.owner c)
      body = (fit.owner c there).there

      own : suc (shape.owner c - 1) ≡ shape.owner c
      own = omega (arith, body.from)

      itself : (shape.owner c == shape.owner c) ≡ true
      itself = grind arith

      differs : (k : ℕ) → (k == shape.owner c - 1) ≡ false → (suc k == shape.owner c) ≡ false
      differs k e = grind (arith, body.from)

  torque-shares : (c : ℕ) → HasColumn shape c → cls (torque_of fracs shape m f c) ≡ sum qo shape.bodies (λ j. share c (suc j))
  unfolding torque_of power
  torque-shares c there =
      cls_of_add (column_power fracs shape m f (shape.owner c) (c - shape.first_column (shape.owner c))) (followers_power fracs shape m f (shape.owner c) (c - shape.first_column (shape.owner c)))
      ∙ ap₂ ◌+ℚ◌ (sym (owned-sum c there)) (followers-powers c)
      ∙ sym (sum-add rats shape.bodies (λ j. owned c (suc j)) (λ j. follower c (suc j)))
      ∙ sum_ext qo shape.bodies (λ j. owned c (suc j) +ℚ follower c (suc j)) (λ j. share c (suc j))
      (λ j l. sym (shared c (suc j) there (record { from = omega arith; to = omega arith }) (shape.mimic (suc j)) refl))

  -- ---- body by body, the power of the motion over the joint
  module _ (rate : ℕ → Frac) where
    abbrev r : ℕ → ℚ
    r c = cls (rate c)

    motion-power : (i : ℕ) → cls (power_of fracs (joint_motion fracs shape m rate i) (f i)) ≡ sum qo (column_count (shape.kind i)) (λ k. r (shape.first_column i + k) *ℚ (gear i *ℚ p i k))
    unfolding joint_motion power
    motion-power i =
        power-swap (joint_motion fracs shape m rate i) (f i)
        ∙ power-sum (f i) (column_count (shape.kind i)) (λ k. scaled fracs (followed fracs (shape.mimic i) (m.multiplier i) (rate (shape.first_column i + k))) (m.column i k))
        ∙ sum_ext qo (column_count (shape.kind i)) _ _ (λ k l.
        power-scaled (followed fracs (shape.mimic i) (m.multiplier i) (rate (shape.first_column i + k))) (m.column i k) (f i)
        ∙ ap₂ ◌*ℚ◌ (geared (shape.mimic i) (m.multiplier i) (rate (shape.first_column i + k))) (power-swap (f i) (m.column i k))
        ∙ turned (gear i) (r (shape.first_column i + k)) (p i k))
      where
        turned : (g x y : ℚ) → (g *ℚ x) *ℚ y ≡ x *ℚ (g *ℚ y)
        turned g x y = ap (λ (t : ℚ). t *ℚ y) (mul_comm_ℚ g x) ∙ rats.mul_assoc x g y

    into : (b : Bool) (x y : ℚ) → x *ℚ (if b then y else 0ℚ) ≡ (if b then x *ℚ y else 0ℚ)
    into true x y = refl
    into false x y = mul_nul rats x

    -- the shares of body i in all columns
    shares-power : (i : ℕ) → HasBody shape i → sum qo shape.columns (λ c. r (suc c) *ℚ share (suc c) i) ≡ cls (power_of fracs (joint_motion fracs shape m rate i) (f i))
    shares-power i body =
        sum_ext qo shape.columns _ _ (λ c l. sym (sum-mul rats n (r (suc c)) (λ k. if suc c == a + k then gear i *ℚ p i k else 0ℚ))
        ∙ sum_ext qo n _ _ (λ k b. into (suc c == a + k) (r (suc c)) (gear i *ℚ p i k)))
        ∙ sum_swap rats shape.columns n (λ c k. if suc c == a + k then r (suc c) *ℚ (gear i *ℚ p i k) else 0ℚ)
        ∙ sum_ext qo n _ _ at_column
        ∙ sym (motion-power i)
      where
        n : ℕ
        n = column_count (shape.kind i)

        a : ℕ
        a = shape.first_column i

        at_column : (k : ℕ) → k < n → sum qo shape.columns (λ c. if suc c == a + k then r (suc c) *ℚ (gear i *ℚ p i k) else 0ℚ) ≡ r (a + k) *ℚ (gear i *ℚ p i k)
        at_column k l =
            let there = fit.there i k body l in
            let from : 1 ≤ a + k = there.from in
            let to : a + k ≤ shape.columns = there.to in
            let own : suc (a + k - 1) ≡ a + k = omega (arith, from) in
            let itself : (suc (a + k - 1) == a + k) ≡ true = grind (arith, from) in
            let differs : (c : ℕ) → (c == a + k - 1) ≡ false → (suc c == a + k) ≡ false = λ c e. grind (arith, from, e) in
            sum_one shape.columns (a + k - 1) (λ c. if suc c == a + k then r (suc c) *ℚ (gear i *ℚ p i k) else 0ℚ) (omega (arith, from, to)) (λ c b e. if_zero (suc c == a + k) _ (differs c e))
            ∙ if_is (suc (a + k - 1) == a + k) _ itself
            ∙ ap (λ (d : ℕ). r d *ℚ (gear i *ℚ p i k)) own

    pub work : sum qo shape.columns (λ c. r (suc c) *ℚ cls (torque_of fracs shape m f (suc c))) ≡ sum qo shape.bodies (λ j. cls (power_of fracs (joint_motion fracs shape m rate (suc j)) (f (suc j))))
    work =
        sum_ext qo shape.columns _ _ (λ c l. ap (λ (t : ℚ). r (suc c) *ℚ t) (torque-shares (suc c) (record { from = omega arith; to = omega arith }))
        ∙ sym (sum-mul rats shape.bodies (r (suc c)) (λ j. share (suc c) (suc j))))
        ∙ sum_swap rats shape.columns shape.bodies (λ c j. r (suc c) *ℚ share (suc c) (suc j))
        ∙ sum_ext qo shape.bodies _ _ (λ j l. shares-power (suc j) (record { from = omega arith; to = omega arith }))

pub virtual_work : VirtualWork
virtual_work shape m f rate mimics fit =
    exact _ _ (cls-sum shape.columns (λ c. mul (rate (suc c)) (torque_of fracs shape m f (suc c)))
    ∙ sum_ext qo shape.columns _ _ (λ c l. cls_of_mul (rate (suc c)) (torque_of fracs shape m f (suc c)))
    ∙ work shape m f mimics fit rate
    ∙ sym (cls-sum shape.bodies (λ j. power_of fracs (joint_motion fracs shape m rate (suc j)) (f (suc j)))))
