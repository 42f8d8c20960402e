use Rattle.rb_tree.proofs.OneOrder.{one_order}
use Rattle.rb_tree.proofs.laws.one_order_law.Goals as goal

pub returns : goal.returns
returns c = one_order
