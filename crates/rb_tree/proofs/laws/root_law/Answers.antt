use Rattle.rb_tree.proofs.Root.{root_stands}
use Rattle.rb_tree.proofs.laws.root_law.Goals as goal

pub returns : goal.returns
returns c = root_stands
