use Rattle.std.proofs.Common.{arith, ◌-◌}
use Rattle.rb_model.proofs.Numbered.{bodies_more, bodies_end}
use Rattle.rb_model.proofs.model.put_bodies.Goals as goal

pub loop-i-preserved : goal.loop-i-preserved
loop-i-preserved c = bodies_more c.args.text.now.items _ _ c.args.robot.now.bodies c.loop-i.i c.in_ok-put_body.ensures c.loop-i.invariant

pub returns : goal.returns
returns c = bodies_end c.args.text.now.items _ c.args.robot.now.bodies (c.loop-i.i - 1) (omega arith) c.loop-i.invariant
