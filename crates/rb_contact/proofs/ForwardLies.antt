-- Forward dynamics by the factors of the mass table.
use Rattle.std.proofs.Common.{ℕ, zero, suc, ◌<◌, [], ◌∷◌, refl, arith}
use Rattle.rb_frac.specs.Ops.{sum}
use Rattle.rb_frac.specs.Frac.{Frac, Same, fracs, add, sub, mul}
use Rattle.rb_frac.specs.System.{Solves}
use Rattle.rb_frac.specs.Spatial.{Force}
use Rattle.rb_frac.proofs.Ring.{expr, var}
use Rattle.rb_frac.proofs.Hom.{frac_ring}
use Rattle.rb_frac.proofs.Reduce.{same_refl, same_sym, same_trans}
use Rattle.rb_frac.proofs.FracLaws.{sub_same}
use Rattle.rb_frac.proofs.Variables.{at}
use Rattle.rb_elimination.specs.Product.{rows_of, numbers_of, IsOneSolution}
use Rattle.rb_elimination.proofs.Dense.{pivots_eliminate}
use Rattle.rb_elimination.proofs.Solutions.{elimination_solves}
use Rattle.rb_flat.specs.Shape.{Shape, HasColumn, ParentsComeFirst, ColumnsFit}
use Rattle.rb_flat.specs.Mechanism.{Mechanism}
use Rattle.rb_flat.specs.Dynamics.{Unknowns, InverseDynamics, ForwardDynamics, unaccelerated, IsMassTable}
use Rattle.rb_flat.proofs.Forward.{forward_has_one_solution}
use Rattle.rb_flat.proofs.Superposed.{torque_is_linear}
use Rattle.rb_contact.specs.Laws.{FactorsGiveOneSolution, IsDriving, FactorsGiveAccelerations}

pub factors_give_one_solution : FactorsGiveOneSolution
factors_give_one_solution shape m outside mass up table L D parents fit is factored pivots =
    forward_has_one_solution shape m outside mass parents fit is ((pivots_eliminate shape.columns up mass table L D factored).0 pivots)

less_bias : (b p : Frac) → Same p (sub (add b p) b)
unfolding sub
less_bias b p = frac_ring (at (b ∷ p ∷ [])) (var 1) (expr.add (expr.add (var 0) (var 1)) (expr.neg (var 0))) refl

-- the accelerations of the joints solve the equations of the mass table
module _ (shape : Shape) (m : Mechanism Frac) (outside : ℕ → Force Frac) (mass : ℕ → ℕ → Frac) (s bias : Unknowns Frac) (right : ℕ → Frac)
    (parents : ParentsComeFirst shape) (fit : ColumnsFit shape) (is : IsMassTable shape m mass)
    (rests : InverseDynamics fracs shape (unaccelerated fracs m) Same outside bias) (moves : ForwardDynamics fracs shape m Same outside s) (drives : IsDriving shape m bias right) where
  product : ℕ → Frac
  product c = sum fracs shape.columns (λ d. mul (mass c (suc d)) (s.joint_acceleration (suc d)))

  gives : (c : ℕ) → HasColumn shape c → Same (product c) (right c)
  unfolding product
  gives c there =
      let b = bias.torque c in
      let p = product c in
      same_trans p (sub (add b p) b) (right c) (less_bias b p)
      (same_trans (sub (add b p) b) (sub (m.torque c) b) (right c)
      (sub_same (add b p) (m.torque c) b b
      (same_trans (add b p) (s.torque c) (m.torque c)
      (same_sym (s.torque c) (add b p) (torque_is_linear shape m outside mass s bias parents fit is moves.moves rests c there))
      (moves.given c there))
      (same_refl b))
      (same_sym (right c) (sub (m.torque c) b) (drives c there)))

  pub accelerations_solve : Solves shape.columns (rows_of mass) (numbers_of right) (λ d. s.joint_acceleration (suc d))
  unfolding product
  accelerations_solve c l = gives (suc c) (record { from = omega arith; to = omega arith })

from_first : (shape : Shape) (f g : ℕ → Frac) → ((c : ℕ) → c < shape.columns → Same (f (suc c)) (g (suc c))) → (c : ℕ) → HasColumn shape c → Same (f c) (g c)
from_first shape f g h zero there = absurd (omega (arith, there.from))
from_first shape f g h (suc c) there = h c (omega (arith, there.to))

pub factors_give_accelerations : FactorsGiveAccelerations
factors_give_accelerations shape m outside mass up table L D s bias right x parents fit is factored pivots rests moves drives found =
    let one : IsOneSolution shape.columns mass right x = elimination_solves shape.columns up mass table L D right x factored pivots found in
    from_first shape s.joint_acceleration x
    (one.only (λ d. s.joint_acceleration (suc d)) (accelerations_solve shape m outside mass s bias right parents fit is rests moves drives))
