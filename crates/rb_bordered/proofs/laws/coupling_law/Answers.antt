use Rattle.rb_bordered.proofs.Coupling.{coupling_is, row_pivots_are_one}
use Rattle.rb_bordered.proofs.laws.coupling_law.Goals as goal

pub returns-clause-coupling : goal.returns-clause-coupling
returns-clause-coupling c = coupling_is

pub returns-clause-pivots : goal.returns-clause-pivots
returns-clause-pivots c = row_pivots_are_one
