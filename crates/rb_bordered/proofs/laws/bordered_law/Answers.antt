use Rattle.rb_bordered.proofs.Solves.{bordered_solves, rigid_bordered_solves}
use Rattle.rb_bordered.proofs.laws.bordered_law.Goals as goal

pub returns-clause-compliant : goal.returns-clause-compliant
returns-clause-compliant c = bordered_solves

pub returns-clause-rigid : goal.returns-clause-rigid
returns-clause-rigid c = rigid_bordered_solves
