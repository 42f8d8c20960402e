use Rattle.rb_elimination.proofs.Examples.{is_worked}
use Rattle.rb_elimination.proofs.laws.example_law.Goals as goal

pub returns : goal.returns
returns c = is_worked
