use Rattle.std.proofs.Common.{rules}
use Rattle.rb_table_tests.proofs.answers.job_of.Goals as goal

-- src/answers.rt:33:1
pub returns : goal.returns
returns c = record { leads = λ _. search rules; fit = c.none-cons.ensures.fit _ }
