use Rattle.rb_tree.specs.State.{Fits}
use Rattle.rb_dynamics_tests.proofs.bench.put_all.Given as goal

abbrev pub invariant-loop-given : goal.invariant-loop-given
invariant-loop-given l = Fits l.robot l.state
