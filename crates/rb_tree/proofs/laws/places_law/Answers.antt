use Rattle.rb_tree.proofs.PlacePass.{one_answer}
use Rattle.rb_tree.proofs.laws.places_law.Goals as goal

pub returns : goal.returns
returns c = one_answer
