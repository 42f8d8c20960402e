use Rattle.rb_jacobian.proofs.Turns.{has_turns, turns_are_one}
use Rattle.rb_jacobian.proofs.Contact.{contact_is_bordered, contact_from_bordered, contact_has_one_solution}
use Rattle.rb_jacobian.proofs.laws.contact_law.Goals as goal

pub returns-clause-turns : goal.returns-clause-turns
returns-clause-turns c = has_turns

pub returns-clause-one_turn : goal.returns-clause-one_turn
returns-clause-one_turn c = turns_are_one

pub returns-clause-solves : goal.returns-clause-solves
returns-clause-solves c = contact_is_bordered

pub returns-clause-back : goal.returns-clause-back
returns-clause-back c = contact_from_bordered

pub returns-clause-one : goal.returns-clause-one
returns-clause-one c = contact_has_one_solution
