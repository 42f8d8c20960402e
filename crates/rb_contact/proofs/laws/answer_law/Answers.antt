use Rattle.rb_contact.proofs.OneForward.{has_one_forward}
use Rattle.rb_contact.proofs.ForwardAnswer.{forward_means}
use Rattle.rb_contact.proofs.RowEncloses.{forward_encloses}
use Rattle.rb_contact.proofs.laws.answer_law.Goals as goal

pub returns-clause-one : goal.returns-clause-one
returns-clause-one c = has_one_forward

pub returns-clause-means : goal.returns-clause-means
returns-clause-means c = forward_means

pub returns-clause-encloses : goal.returns-clause-encloses
returns-clause-encloses c = λ tree row kept. record { values = λ w are. forward_encloses tree row w kept are }
