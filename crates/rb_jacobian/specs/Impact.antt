-- An impact on rows of constraints solves the mass table bordered by the Jacobian, without compliance. Featherstone, Rigid Body Dynamics Algorithms,
-- chapter 11.
use Rattle.std.specs.Prelude.{ℕ, suc, ◌≤◌}
use Rattle.rb_frac.specs.Ops.{minus, sum}
use Rattle.rb_frac.specs.Frac.{Frac, Same, fracs, add, mul}
use Rattle.rb_frac.specs.Tables.{Table, Tables}
use Rattle.rb_flat.specs.Shape.{Shape, HasColumn, MimicsFit, ParentsComeFirst, ColumnsFit}
use Rattle.rb_flat.specs.Mechanism.{Mechanism}
use Rattle.rb_flat.specs.Dynamics.{HasOneSolution, IsMassTable}
use Rattle.rb_flat.specs.Contact.{Constraints, HasRow, RowsFit, AreTurns}
use Rattle.rb_flat.specs.Impact.{Impulses, ImpactDynamics, SameImpulses}
use Rattle.rb_bordered.specs.Equations.{AreBordered, IsOneBorderedSolution}
use Rattle.rb_jacobian.specs.Jacobian.{IsJacobian}

-- how the speeds of the columns change
abbrev pub changes_of : Mechanism Frac → Impulses Frac → ℕ → Frac
changes_of m s c = minus fracs (s.speed_after c) (m.speed c)

-- by how much the difference of speeds of a row must fall: (1 + e) J v, for the speeds v before and the restitution e
abbrev pub rebound : Shape → Mechanism Frac → Constraints Frac → (ℕ → ℕ → Frac) → ℕ → Frac
rebound shape m k J r =
    mul (add fracs.one (k.numbers r).restitution) (sum fracs shape.columns (λ c. mul (J r (suc c)) (m.speed (suc c))))

-- ---- the bordered equations
-- nothing else drives the columns, and the rows do not give way
abbrev pub IsBorderedImpact : Shape → Mechanism Frac → Constraints Frac → (ℕ → ℕ → Frac) → (ℕ → ℕ → Frac) → (ℕ → Frac) → (ℕ → Frac) → Type 0
IsBorderedImpact shape m k table J x lam =
    AreBordered shape.columns k.rows table J (λ r. fracs.nul) (λ c. fracs.nul) (rebound shape m k J) x lam

abbrev pub IsOneBorderedImpact : Shape → Mechanism Frac → Constraints Frac → (ℕ → ℕ → Frac) → (ℕ → ℕ → Frac) → (ℕ → Frac) → (ℕ → Frac) → Type 0
IsOneBorderedImpact shape m k table J x lam =
    IsOneBorderedSolution shape.columns k.rows table J (λ r. fracs.nul) (λ c. fracs.nul) (rebound shape m k J) x lam

-- the changes of the speeds and the impulses of an impact solve them
abbrev pub ImpactIsBordered : Type 0
ImpactIsBordered =
    (shape : Shape) (m : Mechanism Frac) (k : Constraints Frac) (table J : ℕ → ℕ → Frac) (s : Impulses Frac) →
    ParentsComeFirst shape → MimicsFit shape → ColumnsFit shape → RowsFit shape k → IsMassTable shape m table → IsJacobian shape m k s.turn J →
    ImpactDynamics fracs shape m Same k s → IsBorderedImpact shape m k table J (changes_of m s) s.row_impulse

-- an impact with these turns, changes of the speeds and impulses
pub record StrikesWith (shape : Shape) (m : Mechanism Frac) (k : Constraints Frac) (turn : ℕ → Table Frac) (x lam : ℕ → Frac) : Type 0 where
  pub unknowns : Impulses Frac
  pub solves : ImpactDynamics fracs shape m Same k unknowns
  pub turns : (i : ℕ) → i ≤ shape.bodies → Tables Same (unknowns.turn i) (turn i)
  pub speeds : (c : ℕ) → HasColumn shape c → Same (unknowns.speed_after c) (add (m.speed c) (x c))
  pub impulses : (r : ℕ) → HasRow k r → Same (unknowns.row_impulse r) (lam r)

-- and each solution of the bordered equations comes from such an impact
abbrev pub ImpactFromBordered : Type 0
ImpactFromBordered =
    (shape : Shape) (m : Mechanism Frac) (k : Constraints Frac) (turn : ℕ → Table Frac) (table J : ℕ → ℕ → Frac) (x lam : ℕ → Frac) →
    ParentsComeFirst shape → MimicsFit shape → ColumnsFit shape → RowsFit shape k → AreTurns fracs shape m Same turn → IsMassTable shape m table →
    IsJacobian shape m k turn J → IsBorderedImpact shape m k table J x lam → StrikesWith shape m k turn x lam

-- there is exactly one impact, with these changes of the speeds and impulses
pub record StrikesOnlyWith (shape : Shape) (m : Mechanism Frac) (k : Constraints Frac) (x lam : ℕ → Frac) : Type 0 where
  pub one : HasOneSolution (SameImpulses Same shape k) (ImpactDynamics fracs shape m Same k)
  pub speeds : (c : ℕ) → HasColumn shape c → Same (one.solution.speed_after c) (add (m.speed c) (x c))
  pub impulses : (r : ℕ) → HasRow k r → Same (one.solution.row_impulse r) (lam r)

-- so it is where the bordered equations have exactly one solution
abbrev pub ImpactHasOneSolution : Type 0
ImpactHasOneSolution =
    (shape : Shape) (m : Mechanism Frac) (k : Constraints Frac) (turn : ℕ → Table Frac) (table J : ℕ → ℕ → Frac) (x lam : ℕ → Frac) →
    ParentsComeFirst shape → MimicsFit shape → ColumnsFit shape → RowsFit shape k → AreTurns fracs shape m Same turn → IsMassTable shape m table →
    IsJacobian shape m k turn J → IsOneBorderedImpact shape m k table J x lam → StrikesOnlyWith shape m k x lam
