use Rattle.std.proofs.Common.{arith}
use Rattle.rb_model.proofs.Numbered.{groups_more, groups_end}
use Rattle.rb_model.proofs.model.put_groups.Goals as goal

pub loop-k-preserved : goal.loop-k-preserved
loop-k-preserved c = groups_more c.args.text.now.items _ _ c.args.robot.now.groups c.loop-k.k _ c.in_ok-group_fields.ensures c.in_ok-put_line.ensures c.loop-k.invariant

pub returns : goal.returns
returns c = groups_end c.args.text.now.items _ c.args.robot.now.groups c.loop-k.k (omega arith) c.loop-k.invariant
