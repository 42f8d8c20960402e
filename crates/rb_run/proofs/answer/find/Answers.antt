use Rattle.rb_run.proofs.Answering.{torques_found, masses_found, masses_answer, accelerations_found, articulated_found, contact_found, contact_answer, impulse_found, impulse_answer}
use Rattle.rb_run.proofs.answer.find.Goals as goal

pub returns-in-Rnea-clause-headline : goal.returns-in-Rnea-clause-headline
returns-in-Rnea-clause-headline c = torques_found _ c.in-Rnea.is _ _ _ _ _ c.rnea.ensures.encloses

pub returns-in-Crba-clause-exact : goal.returns-in-Crba-clause-exact
returns-in-Crba-clause-exact c = masses_answer _ c.in-Crba.is _ _ _ _ _ c.crba.ensures.answer

pub returns-in-Crba-clause-headline : goal.returns-in-Crba-clause-headline
returns-in-Crba-clause-headline c = masses_found _ c.in-Crba.is _ _ _ c.bodies-tree.ensures.kept _ _ c.crba.ensures.encloses

pub returns-in-Fd-clause-headline : goal.returns-in-Fd-clause-headline
returns-in-Fd-clause-headline c = accelerations_found _ c.in-Fd.is _ _ _ _ _ c.forward.ensures.encloses

pub aba-requires-clause-lead : goal.aba-requires-clause-lead
aba-requires-clause-lead c = c.requires.task.leads c.in-Aba.is

pub returns-in-Aba-clause-headline : goal.returns-in-Aba-clause-headline
returns-in-Aba-clause-headline c = articulated_found _ c.in-Aba.is _ _ _ _ _ c.aba.ensures.encloses

pub returns-in-Contact-clause-exact : goal.returns-in-Contact-clause-exact
returns-in-Contact-clause-exact c = contact_answer _ c.in-Contact.is _ _ _ _ _ c.contact.ensures.answer

pub returns-in-Contact-clause-headline : goal.returns-in-Contact-clause-headline
returns-in-Contact-clause-headline c = contact_found _ c.in-Contact.is _ _ _ _ _ c.contact.ensures.encloses

pub returns-in-Impulse-clause-exact : goal.returns-in-Impulse-clause-exact
returns-in-Impulse-clause-exact c = impulse_answer _ c.in-Impulse.is _ _ _ _ _ c.impulse.ensures.answer

pub returns-in-Impulse-clause-headline : goal.returns-in-Impulse-clause-headline
returns-in-Impulse-clause-headline c = impulse_found _ c.in-Impulse.is _ _ _ _ _ c.impulse.ensures.encloses
