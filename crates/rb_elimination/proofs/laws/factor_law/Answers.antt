use Rattle.rb_elimination.proofs.Related.{factors_are_one}
use Rattle.rb_elimination.proofs.Solutions.{factors_multiply_out, factors_tell_table}
use Rattle.rb_elimination.proofs.laws.factor_law.Goals as goal

pub returns-clause-factors : goal.returns-clause-factors
returns-clause-factors c = factors_are_one

pub returns-clause-table : goal.returns-clause-table
returns-clause-table c = factors_tell_table

pub returns-clause-product : goal.returns-clause-product
returns-clause-product c = factors_multiply_out
