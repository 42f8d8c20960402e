use Rattle.std.proofs.Common.{rules}
use Rattle.rb_aba.proofs.Named.{plus_zero}
use Rattle.rb_aba.proofs.rules.plus_part.Goals as goal

pub returns-then-is_some-clause-exact : goal.returns-then-is_some-clause-exact
returns-then-is_some-clause-exact c = plus_zero _ _ _ (search rules) (search rules)
