use Rattle.std.proofs.Common.{refl}
use Rattle.rb_result.proofs.Results.{value_last, grouped}
use Rattle.rb_result.proofs.laws.steps_law.Goals as goal

pub returns-clause-first : goal.returns-clause-first
returns-clause-first c = λ _ x f. refl

pub returns-clause-last : goal.returns-clause-last
returns-clause-last c = λ _ r. value_last r

pub returns-clause-grouped : goal.returns-clause-grouped
returns-clause-grouped c = λ _ r f g. grouped r f g
