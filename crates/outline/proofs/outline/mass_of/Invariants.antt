use Rattle.outline.proofs.Masses.{SoFar}
use Rattle.outline.proofs.outline.mass_of.Given as goal

abbrev pub invariant-loop-i : goal.invariant-loop-i
invariant-loop-i l = SoFar l.robot l.i l.mass
