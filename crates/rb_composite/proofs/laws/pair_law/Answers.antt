use Rattle.rb_composite.proofs.Apart.{apart_is_zero}
use Rattle.rb_composite.proofs.Once.{each_pair_once}
use Rattle.rb_composite.proofs.laws.pair_law.Goals as goal

pub returns-clause-apart : goal.returns-clause-apart
returns-clause-apart c = apart_is_zero

pub returns-clause-once : goal.returns-clause-once
returns-clause-once c = each_pair_once
