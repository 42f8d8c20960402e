use Rattle.rb_tree.proofs.Ordering.{has_choice_in_state}
use Rattle.rb_tree.proofs.laws.choice_law.Goals as goal

pub returns : goal.returns
returns c = has_choice_in_state
