use Rattle.rb_elimination.proofs.Exists.{factors_exist, found_exists}
use Rattle.rb_elimination.proofs.Solutions.{table_exists}
use Rattle.rb_elimination.proofs.laws.existence_law.Goals as goal

pub returns-clause-factors : goal.returns-clause-factors
returns-clause-factors c = factors_exist

pub returns-clause-table : goal.returns-clause-table
returns-clause-table c = table_exists

pub returns-clause-found : goal.returns-clause-found
returns-clause-found c = found_exists
