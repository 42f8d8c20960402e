-- Forward dynamics within intervals: of a mass table, a bias and torques that lie in intervals, by factors and numbers that lie in theirs.
use Rattle.std.proofs.Common.{◌≡◌, ℕ, Ok, sym, subst}
use Rattle.rb_frac.specs.Frac.{Frac, Same, fracs, sub}
use Rattle.rb_frac.specs.Spatial.{Force}
use Rattle.rb_frac.proofs.Reduce.{same_refl, same_sym}
use Rattle.rb_num.specs.Interval.{Interval}
use Rattle.rb_num.specs.Refusing.{iv_sub}
use Rattle.rb_num.proofs.Same.{lies_in_same}
use Rattle.rb_num.proofs.Relates.{sub_met}
use Rattle.rb_num.proofs.Bridges.{to_intervals, ok_met}
use Rattle.rb_elimination.specs.Paths.{IsColumn, IsRegular, IsZeroOffPaths}
use Rattle.rb_elimination.specs.Factors.{fraction_steps}
use Rattle.rb_elimination.specs.Solving.{IsFound}
use Rattle.rb_elimination.specs.Laws.{ArePivots, IsFactored}
use Rattle.rb_elimination.proofs.Exists.{factors_exist, found_exists}
use Rattle.rb_flat.specs.Shape.{Shape, MimicsFit, ParentsComeFirst, ColumnsFit}
use Rattle.rb_flat.specs.Mechanism.{Mechanism}
use Rattle.rb_flat.specs.Dynamics.{Unknowns, InverseDynamics, ForwardDynamics, unaccelerated, SameUnknowns, HasOneSolution, IsMassTable}
use Rattle.rb_flat.proofs.Symmetric.{mass_table_is_symmetric}
use Rattle.rb_factor.specs.Laws.{NumbersLie}
use Rattle.rb_contact.proofs.ForwardLies.{factors_give_one_solution, factors_give_accelerations}

-- there is exactly one solution, and the accelerations of its joints lie in these intervals
pub record AccelerationsLie (n : ℕ) (shape : Shape) (m : Mechanism Frac) (outside : ℕ → Force Frac) (x : ℕ → Interval) : Type 0 where
  pub one : HasOneSolution (SameUnknowns Same shape) (ForwardDynamics fracs shape m Same outside)
  pub lies : NumbersLie n one.solution.joint_acceleration x

-- the given torques less the bias
abbrev pub driving : Mechanism Frac → Unknowns Frac → ℕ → Frac
driving m bias c = sub (m.torque c) (bias.torque c)

pub driving_lies : (n : ℕ) (m : Mechanism Frac) (bias : Unknowns Frac) (T tau k : ℕ → Interval) → NumbersLie n bias.torque T → NumbersLie n m.torque tau
    → ((c : ℕ) → IsColumn n c → iv_sub (tau c) (T c) ≡ Ok (k c)) → NumbersLie n (driving m bias) k
unfolding sub
driving_lies n m bias T tau k biased torques given c there = ok_met (given c there) (sub_met to_intervals (torques c there) (biased c there))

module _ (shape : Shape) (m : Mechanism Frac) (outside : ℕ → Force Frac) (mass : ℕ → ℕ → Frac) (bias : Unknowns Frac)
    (parents : ParentsComeFirst shape) (mimics : MimicsFit shape) (fit : ColumnsFit shape) (is : IsMassTable shape m mass)
    (rests : InverseDynamics fracs shape (unaccelerated fracs m) Same outside bias)
    (up : ℕ → ℕ) (x : ℕ → Interval) (Within : (ℕ → ℕ → Frac) → (ℕ → Frac) → Type 0) where
  -- where the factors of the mass table are within something, and what such factors find lies in x
  abbrev pub Encloses : ℕ → Type 0
  Encloses n =
      IsRegular n up → IsZeroOffPaths n up mass →
      ((L : ℕ → ℕ → Frac) (D : ℕ → Frac) → Within L D → ArePivots n D) →
      ((table : ℕ → ℕ → ℕ → Frac) (L : ℕ → ℕ → Frac) (D : ℕ → Frac) → IsFactored n up mass table L D → Within L D) →
      ((L : ℕ → ℕ → Frac) (D y : ℕ → Frac) → Within L D → IsFound fraction_steps n up L D (driving m bias) y → NumbersLie n y x) →
      AccelerationsLie n shape m outside x

  lies_at_columns : Encloses shape.columns
  lies_at_columns regular sparse nonzero factored found =
      let has = factors_exist shape.columns up mass regular in
      let f : IsFactored shape.columns up mass has.table has.L has.D = record {
        regular = regular;
        symmetric = λ c d i j. mass_table_is_symmetric shape m mass parents mimics fit is c d (record { from = i.from; to = i.to }) (record { from = j.from; to = j.to });
        sparse = sparse;
        factors = has.are;
      } in
      let within = factored has.table has.L has.D f in
      let pivots = nonzero has.L has.D within in
      let y = found_exists shape.columns up has.L has.D (driving m bias) regular in
      let one = factors_give_one_solution shape m outside mass up has.table has.L has.D parents fit is f pivots in
      let same = factors_give_accelerations shape m outside mass up has.table has.L has.D one.solution bias (driving m bias) y.0 parents fit is f pivots rests one.solves
      (λ c there. same_refl (driving m bias c)) y.1 in
      record {
        one = one;
        lies = λ c there. lies_in_same (y.0 c) (one.solution.joint_acceleration c) (x c)
            (same_sym (one.solution.joint_acceleration c) (y.0 c) (same c (record { from = there.from; to = there.to })))
            (found has.L has.D y.0 within y.1 c there);
      }

  pub accelerations_lie : (n : ℕ) → n ≡ shape.columns → Encloses n
  accelerations_lie n e = subst Encloses (sym e) lies_at_columns
