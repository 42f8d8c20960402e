use Rattle.rb_constraint.proofs.RowPass.{one_answer}
use Rattle.rb_constraint.proofs.BiasPass.{one_answer as one_bias}
use Rattle.rb_constraint.proofs.RowsEnclose.{rows_enclose}
use Rattle.rb_constraint.proofs.BiasLies.{bias_encloses}
use Rattle.rb_constraint.proofs.row_laws.rows_law.Goals as goal

pub returns-clause-rows : goal.returns-clause-rows
returns-clause-rows c tree k kept fit = one_answer tree k kept fit

pub returns-clause-bias : goal.returns-clause-bias
returns-clause-bias c tree k fit = one_bias tree k fit

pub returns-clause-encloses : goal.returns-clause-encloses
returns-clause-encloses c tree k w kept fit are = rows_enclose tree k w kept fit are

pub returns-clause-encloses_bias : goal.returns-clause-encloses_bias
returns-clause-encloses_bias c tree k w fit are = bias_encloses tree k w fit are
