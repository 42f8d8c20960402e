use Rattle.rb_model.proofs.ModelLaws.{model_reads_back, kind_reads_back}
use Rattle.rb_model.proofs.laws.model_law.Goals as goal

pub returns-clause-lines : goal.returns-clause-lines
returns-clause-lines c = model_reads_back

pub returns-clause-kinds : goal.returns-clause-kinds
returns-clause-kinds c = kind_reads_back
