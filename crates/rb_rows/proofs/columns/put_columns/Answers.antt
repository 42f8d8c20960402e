use Rattle.std.proofs.Common.{arith, ◌-◌, map, string_bytes}
use Rattle.rb_rows.specs.Columns.{columns_of}
use Rattle.rb_rows.proofs.Putting.{bodies_more, bodies_end}
use Rattle.rb_rows.proofs.columns.put_columns.Goals as goal

pub loop-i-preserved : goal.loop-i-preserved
loop-i-preserved c = bodies_more columns_of c.args.prefix.now (map string_bytes c.args.texts.now.items) _ _ c.args.robot.now.bodies c.loop-i.i c.in_ok-put_columns_of.ensures c.loop-i.invariant

pub returns : goal.returns
returns c = bodies_end columns_of c.args.prefix.now (map string_bytes c.args.texts.now.items) _ c.args.robot.now.bodies (c.loop-i.i - 1) (omega arith) c.loop-i.invariant
