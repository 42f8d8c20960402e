use Rattle.std.proofs.Common.{rules}
use Rattle.rb_tree.specs.States.{states_made}
use Rattle.rb_tree.proofs.build.states_for.Goals as goal

pub returns-in-None-clause-gives : goal.returns-in-None-clause-gives
unfolding states_made
returns-in-None-clause-gives c = search rules
