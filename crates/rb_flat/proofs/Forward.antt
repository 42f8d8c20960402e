-- Forward dynamics has exactly one solution where the mass table has pivots.
use Rattle.std.proofs.Common.{◌≡◌, ℕ, zero, suc, ◌-◌, ◌<◌, [], ◌∷◌, refl, subst, arith}
use Rattle.rb_frac.specs.Ops.{sum}
use Rattle.rb_frac.specs.Frac.{Frac, Same, fracs, add, sub, mul}
use Rattle.rb_frac.specs.System.{HasPivots, Solves}
use Rattle.rb_frac.specs.System as System
use Rattle.rb_frac.specs.Spatial.{Force}
use Rattle.rb_frac.proofs.Ring.{expr, var}
use Rattle.rb_frac.proofs.Hom.{frac_ring}
use Rattle.rb_frac.proofs.Reduce.{same_refl, same_sym, same_trans}
use Rattle.rb_frac.proofs.Rational.{add_same, mul_same}
use Rattle.rb_frac.proofs.FracLaws.{sub_same}
use Rattle.rb_frac.proofs.Transfer.{solvable}
use Rattle.rb_frac.proofs.Variables.{at}
use Rattle.rb_flat.specs.Shape.{Shape, HasColumn, ParentsComeFirst, ColumnsFit}
use Rattle.rb_flat.specs.Mechanism.{Mechanism}
use Rattle.rb_flat.specs.Dynamics.{Unknowns, Moves, InverseDynamics, ForwardDynamics, unaccelerated, SameUnknowns, HasOneSolution, IsMassTable}
use Rattle.rb_flat.specs.TreeLaws.{ForwardHasOneSolution}
use Rattle.rb_flat.proofs.Equality.{same_fractions, sum_same}
use Rattle.rb_flat.proofs.OneSolution.{has_one_solution, moves_agree}
use Rattle.rb_flat.proofs.Superposed.{other_accelerations, torque_is_linear}

module _ (shape : Shape) (m : Mechanism Frac) (outside : ℕ → Force Frac) (table : ℕ → ℕ → Frac) (parents : ParentsComeFirst shape) (fit : ColumnsFit shape)
    (is : IsMassTable shape m table) (pivots : HasPivots shape.columns (λ c d. table (suc c) (suc d))) where
  abbrev n : ℕ
  n = shape.columns

  abbrev inverse : (m : Mechanism Frac) → HasOneSolution (SameUnknowns Same shape) (InverseDynamics fracs shape m Same outside)
  inverse m = has_one_solution same_fractions shape m outside parents fit

  bias : Unknowns Frac
  bias = (inverse (unaccelerated fracs m)).solution

  bias_solves : InverseDynamics fracs shape (unaccelerated fracs m) Same outside bias
  unfolding bias
  bias_solves = (inverse (unaccelerated fracs m)).solves

  -- what the mass table has to give, from 0
  abbrev right : ℕ → Frac
  right c = sub (m.torque (suc c)) (bias.torque (suc c))

  abbrev rows : ℕ → ℕ → Frac
  rows c d = table (suc c) (suc d)

  solved : System.HasOneSolution n rows right
  solved = solvable n rows right pivots

  rates : ℕ → Frac
  rates c = solved.0 (c - 1)

  abbrev driven : Mechanism Frac
  driven = record m { acceleration = rates }

  solution_of : Unknowns Frac
  solution_of = (inverse driven).solution

  solution_is : InverseDynamics fracs shape driven Same outside solution_of
  unfolding solution_of
  solution_is = (inverse driven).solves

  moves : Moves fracs shape m Same outside solution_of
  moves = other_accelerations shape m outside rates solution_of solution_is.moves

  -- ---- sums
  abbrev product : Unknowns Frac → ℕ → Frac
  product s c = sum fracs n (λ d. mul (table c (suc d)) (s.joint_acceleration (suc d)))

  back : (b t : Frac) → Same (add b (sub t b)) t
  unfolding sub
  back b t = frac_ring (at (b ∷ t ∷ [])) (expr.add (var 0) (expr.add (var 1) (expr.neg (var 0)))) (var 1) refl

  rest : (b p : Frac) → Same p (sub (add b p) b)
  unfolding sub
  rest b p = frac_ring (at (b ∷ p ∷ [])) (var 1) (expr.add (expr.add (var 0) (var 1)) (expr.neg (var 0))) refl

  rates_at : (d : ℕ) → d < n → Same (solution_of.joint_acceleration (suc d)) (solved.0 d)
  unfolding rates
  rates_at d l =
      let e : suc d - 1 ≡ d = omega arith in
      subst (λ (k : ℕ). Same (solution_of.joint_acceleration (suc d)) (solved.0 k)) e (solution_is.given (suc d) (record { from = omega arith; to = omega arith }))

  product_solved : (c : ℕ) → c < n → Same (product solution_of (suc c)) (right c)
  product_solved c l =
      same_trans (product solution_of (suc c)) (sum fracs n (λ d. mul (rows c d) (solved.0 d))) (right c)
      (sum_same same_fractions n (λ d. mul (table (suc c) (suc d)) (solution_of.joint_acceleration (suc d))) (λ d. mul (rows c d) (solved.0 d))
      (λ d b. mul_same (rows c d) (rows c d) (solution_of.joint_acceleration (suc d)) (solved.0 d) (same_refl (rows c d)) (rates_at d b)))
      (solved.1 c l)

  torque_given : (c : ℕ) → c < n → Same (solution_of.torque (suc c)) (m.torque (suc c))
  torque_given c l =
      let b = bias.torque (suc c) in
      same_trans (solution_of.torque (suc c)) (add b (product solution_of (suc c))) (m.torque (suc c))
      (torque_is_linear shape m outside table solution_of bias parents fit is moves bias_solves (suc c) (record { from = omega arith; to = omega arith }))
      (same_trans (add b (product solution_of (suc c))) (add b (right c)) (m.torque (suc c))
      (add_same b b (product solution_of (suc c)) (right c) (same_refl b) (product_solved c l))
      (back b (m.torque (suc c))))

  given : (c : ℕ) → HasColumn shape c → Same (solution_of.torque c) (m.torque c)
  given zero h = absurd (omega (arith, h.from))
  given (suc c) h = torque_given c (omega (arith, h.to))

  -- ---- any other
  module _ (s : Unknowns Frac) (h : ForwardDynamics fracs shape m Same outside s) where
    solves : Solves n rows right (λ d. s.joint_acceleration (suc d))
    solves c l =
        let b = bias.torque (suc c) in
        let there : HasColumn shape (suc c) = record { from = omega arith; to = omega arith } in
        same_trans (product s (suc c)) (sub (add b (product s (suc c))) b) (right c) (rest b (product s (suc c)))
        (sub_same (add b (product s (suc c))) (m.torque (suc c)) b b
        (same_trans (add b (product s (suc c))) (s.torque (suc c)) (m.torque (suc c))
        (same_sym (s.torque (suc c)) (add b (product s (suc c))) (torque_is_linear shape m outside table s bias parents fit is h.moves bias_solves (suc c) there))
        (h.given (suc c) there))
        (same_refl b))

    same_rates : (c : ℕ) → HasColumn shape c → Same (s.joint_acceleration c) (solution_of.joint_acceleration c)
    same_rates zero there = absurd (omega (arith, there.from))
    same_rates (suc c) there =
        let l : c < n = omega (arith, there.to) in
        same_trans (s.joint_acceleration (suc c)) (solved.0 c) (solution_of.joint_acceleration (suc c)) (solved.2 (λ d. s.joint_acceleration (suc d)) solves c l)
        (same_sym (solution_of.joint_acceleration (suc c)) (solved.0 c) (rates_at c l))

    agree : SameUnknowns Same shape s solution_of
    agree = moves_agree same_fractions shape m outside parents fit s solution_of h.moves moves same_rates

  pub forward : HasOneSolution (SameUnknowns Same shape) (ForwardDynamics fracs shape m Same outside)
  forward = record { solution = solution_of; solves = record { moves = moves; given = given }; only = agree }

pub forward_has_one_solution : ForwardHasOneSolution
forward_has_one_solution shape m outside table parents fit is pivots = forward shape m outside table parents fit is pivots
