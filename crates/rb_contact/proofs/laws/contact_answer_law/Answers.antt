use Rattle.rb_contact.proofs.ContactAnswer.{contact_means}
use Rattle.rb_contact.proofs.ContactEncloses.{contact_encloses}
use Rattle.rb_contact.proofs.OneContact.{has_one_contact}
use Rattle.rb_contact.proofs.laws.contact_answer_law.Goals as goal

pub returns-clause-one : goal.returns-clause-one
returns-clause-one c = has_one_contact

pub returns-clause-means : goal.returns-clause-means
returns-clause-means c = contact_means

pub returns-clause-encloses : goal.returns-clause-encloses
returns-clause-encloses c = λ tree row k kept fit. record { values = λ w are. contact_encloses tree row k w kept fit are }
