-- Where no joint follows another, the torque of a column is the power of what its joint bears.
use Rattle.std.proofs.Common.{◌≡◌, ℕ, suc, ◌+◌, ◌-◌, Option, if◌then◌else◌, sym, ◌∙◌, ap, arith}
use Rattle.rb_frac.specs.Frac.{Frac, Same, fracs, mul}
use Rattle.rb_frac.specs.Spatial.{Force}
use Rattle.rb_frac.proofs.Rational.{ℚ, ◌+ℚ◌, 0ℚ, cls, sound, exact, cls-zero, add_nul}
use Rattle.rb_frac.proofs.Hom.{cls_of_add}
use Rattle.rb_frac.proofs.Transfer.{cls-sum}
use Rattle.rb_flat.specs.Shape.{Shape, HasColumn, OwnsColumn, ColumnsFit}
use Rattle.rb_flat.specs.Mechanism.{Mechanism}
use Rattle.rb_flat.specs.Dynamics.{Unknowns, follows, column_power, followers_power, torque_of, Moves, no_force}
use Rattle.rb_flat.proofs.Powers.{power, sum_none}
use Rattle.rb_composite.specs.Composite.{HasJointColumn}
use Rattle.rb_articulated.specs.Laws.{AllLead}

-- a column of the tree is one of its owner's joint, and the other way round
module _ (shape : Shape) (fit : ColumnsFit shape) (lead : AllLead shape) where
  -- the place of column c in its joint
  abbrev pub place : ℕ → ℕ
  place c = c - shape.first_column (shape.owner c)

  pub joint_column : (c : ℕ) → HasColumn shape c → HasJointColumn shape (shape.owner c) (c - shape.first_column (shape.owner c))
  joint_column c there =
      let own : OwnsColumn shape (shape.owner c) c = fit.owner c there in
      record { there = own.there; below = omega (arith, own.from, own.below) }

  pub column_again : (c : ℕ) → HasColumn shape c → shape.first_column (shape.owner c) + (c - shape.first_column (shape.owner c)) ≡ c
  column_again c there = let own : OwnsColumn shape (shape.owner c) c = fit.owner c there in omega (arith, own.from)

  pub owner_again : (i k : ℕ) → HasJointColumn shape i k → shape.owner (shape.first_column i + k) ≡ i
  owner_again i k col =
      fit.alone i (shape.first_column i + k) (record { there = col.there; leads = lead i col.there; from = omega arith; below = omega (arith, col.below) })

  place_again : (i k : ℕ) → shape.first_column i + k - shape.first_column i ≡ k
  place_again i k = omega arith

  -- what is said of an owner and a place is said of the joint's own column
  pub at_joint : {A : Type 0} (f : ℕ → ℕ → A) (i k : ℕ) → HasJointColumn shape i k
      → f (shape.owner (shape.first_column i + k)) (shape.first_column i + k - shape.first_column (shape.owner (shape.first_column i + k))) ≡ f i k
  at_joint f i k col =
      let c = shape.first_column i + k in
      ap (λ (j : ℕ). f j (c - shape.first_column j)) (owner_again i k col) ∙ ap (f i) (place_again i k)

module _ (shape : Shape) (m : Mechanism Frac) (fit : ColumnsFit shape) (lead : AllLead shape) where
  followers_none : (f : ℕ → Force Frac) (i k : ℕ) → cls (followers_power fracs shape m f i k) ≡ 0ℚ
  unfolding followers_power
  followers_none f i k =
      cls-sum shape.bodies (λ j. if follows (shape.mimic (suc j)) i then mul (m.multiplier (suc j)) (column_power fracs shape m f (suc j) k) else fracs.nul)
      ∙ sum_none shape.bodies _ (λ j l.
      ap (λ (o : Option ℕ). cls (if follows o i then mul (m.multiplier (suc j)) (column_power fracs shape m f (suc j) k) else fracs.nul))
      (lead (suc j) (record { from = omega arith; to = omega arith }))
      ∙ cls-zero)

  torque-power : (f : ℕ → Force Frac) (c : ℕ) → cls (torque_of fracs shape m f c) ≡ power (m.column (shape.owner c) (c - shape.first_column (shape.owner c))) (f (shape.owner c))
  unfolding torque_of power
  torque-power f c =
      let i = shape.owner c in
      let k = c - shape.first_column i in
      cls_of_add (column_power fracs shape m f i k) (followers_power fracs shape m f i k)
      ∙ ap (λ (r : ℚ). cls (column_power fracs shape m f i k) +ℚ r) (followers_none f i k)
      ∙ add_nul (cls (column_power fracs shape m f i k))

  module _ (s : Unknowns Frac) (moves : Moves fracs shape m Same (no_force fracs) s) where
    column_torque : (c : ℕ) → HasColumn shape c → cls (s.torque c) ≡ power (m.column (shape.owner c) (c - shape.first_column (shape.owner c))) (s.joint_force (shape.owner c))
    column_torque c there = sound (s.torque c) (torque_of fracs shape m s.joint_force c) (moves.columns c there) ∙ torque-power s.joint_force c

    -- the torques are the given ones where they are so joint by joint
    pub torques_given : ((i k : ℕ) → HasJointColumn shape i k → power (m.column i k) (s.joint_force i) ≡ cls (m.torque (shape.first_column i + k)))
        → (c : ℕ) → HasColumn shape c → Same (s.torque c) (m.torque c)
    torques_given h c there =
        exact (s.torque c) (m.torque c)
        (column_torque c there
        ∙ h (shape.owner c) (c - shape.first_column (shape.owner c)) (joint_column shape fit lead c there)
        ∙ ap (λ (d : ℕ). cls (m.torque d)) (column_again shape fit lead c there))

    -- and then they are so joint by joint
    pub given_torque : ((c : ℕ) → HasColumn shape c → Same (s.torque c) (m.torque c))
        → (i k : ℕ) → HasJointColumn shape i k → power (m.column i k) (s.joint_force i) ≡ cls (m.torque (shape.first_column i + k))
    given_torque h i k col =
        let c = shape.first_column i + k in
        let there : HasColumn shape c = fit.there i k col.there col.below in
        sym (at_joint shape fit lead (λ (j l : ℕ). power (m.column j l) (s.joint_force j)) i k col)
        ∙ sym (column_torque c there)
        ∙ sound (s.torque c) (m.torque c) (h c there)
