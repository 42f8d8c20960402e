use Rattle.rb_constraint.proofs.RowLaws.{has_choice}
use Rattle.rb_constraint.proofs.laws.choice_law.Goals as goal

pub returns : goal.returns
returns c = has_choice
