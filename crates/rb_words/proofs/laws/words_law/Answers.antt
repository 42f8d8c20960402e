use Rattle.rb_words.proofs.WordLists.{all_words_tell}
use Rattle.rb_words.proofs.laws.words_law.Goals as goal

pub returns-clause-all : goal.returns-clause-all
returns-clause-all c = all_words_tell
