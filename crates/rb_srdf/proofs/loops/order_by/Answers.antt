use Rattle.rb_srdf.proofs.LoopOrder.{ordered}
use Rattle.rb_srdf.proofs.loops.order_by.Goals as goal

pub returns : goal.returns
returns c =
    ordered c.args.rows.now c.args.levels.now c.in_ok-order.order.items c.in_ok-order.ensures.moved c.in_ok-order.ensures.sorted c.requires.falling
