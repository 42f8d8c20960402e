use Rattle.rb_tree.proofs.Nearest.{world, own, parents}
use Rattle.rb_tree.proofs.laws.nearest_column_law.Goals as goal

pub returns-clause-world : goal.returns-clause-world
returns-clause-world c = world

pub returns-clause-own : goal.returns-clause-own
returns-clause-own c = own

pub returns-clause-parent : goal.returns-clause-parent
returns-clause-parent c = parents
