use Rattle.rb_flat.proofs.Choices.{has_choice}
use Rattle.rb_flat.proofs.Wider.{wider_keeps_choice}
use Rattle.rb_flat.proofs.laws.choice_law.Goals as goal

pub returns-clause-exists : goal.returns-clause-exists
returns-clause-exists c = has_choice

pub returns-clause-wider : goal.returns-clause-wider
returns-clause-wider c = wider_keeps_choice
