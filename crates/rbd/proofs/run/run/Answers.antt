use Rattle.rbd.proofs.Meaning.{headline}
use Rattle.rbd.proofs.run.run.Goals as goal

pub returns-clause-headline : goal.returns-clause-headline
returns-clause-headline g c = headline c.answer_law.ensures.means c.file_law.ensures.fit _ _ _ _ _ c.steps-answer.ensures.goes c.status.ensures
