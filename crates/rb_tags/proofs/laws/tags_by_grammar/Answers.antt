use Rattle.rb_tags.proofs.Faulty.{faulty}
use Rattle.rb_tags.proofs.Judged.{sound, refused}
use Rattle.rb_tags.proofs.Complete.{complete, only}
use Rattle.rb_tags.proofs.laws.tags_by_grammar.Goals as goal

pub returns-clause-sound : goal.returns-clause-sound
returns-clause-sound c = sound

pub returns-clause-complete : goal.returns-clause-complete
returns-clause-complete c = complete

pub returns-clause-only : goal.returns-clause-only
returns-clause-only c = only

pub returns-clause-refused : goal.returns-clause-refused
returns-clause-refused c = refused

pub returns-clause-faulty : goal.returns-clause-faulty
returns-clause-faulty c = faulty
