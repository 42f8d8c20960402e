use Rattle.rb_tree.proofs.ColumnsFit.{columns_fit, parents_first}
use Rattle.rb_tree.proofs.Shapes.{mimics_fit}
use Rattle.rb_tree.proofs.laws.shape_law.Goals as goal

pub returns-clause-parents : goal.returns-clause-parents
returns-clause-parents c = parents_first

pub returns-clause-columns : goal.returns-clause-columns
returns-clause-columns c = columns_fit

pub returns-clause-mimics : goal.returns-clause-mimics
returns-clause-mimics c = mimics_fit
