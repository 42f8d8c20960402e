use Rattle.rb_contact.proofs.ForwardLies.{factors_give_one_solution, factors_give_accelerations}
use Rattle.rb_contact.proofs.laws.forward_law.Goals as goal

pub returns-clause-one : goal.returns-clause-one
returns-clause-one c = factors_give_one_solution

pub returns-clause-accelerations : goal.returns-clause-accelerations
returns-clause-accelerations c = factors_give_accelerations
