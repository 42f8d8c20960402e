use Rattle.std.proofs.Common.{arith, ◌-◌, codes, map, string_bytes}
use Rattle.rb_rows.specs.Columns.{entries_of}
use Rattle.rb_rows.proofs.Putting.{bodies_more, bodies_end}
use Rattle.rb_rows.proofs.columns.put_entries.Goals as goal

pub loop-i-preserved : goal.loop-i-preserved
loop-i-preserved c = bodies_more entries_of (codes "q.") (map string_bytes c.args.texts.now.items) _ _ c.args.robot.now.bodies c.loop-i.i c.in_ok-put_entries_of.ensures c.loop-i.invariant

pub returns-clause-names : goal.returns-clause-names
returns-clause-names c = bodies_end entries_of (codes "q.") (map string_bytes c.args.texts.now.items) _ c.args.robot.now.bodies (c.loop-i.i - 1) (omega arith) c.loop-i.invariant
