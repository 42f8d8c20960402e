use Rattle.std.proofs.Common.{◌≡◌, ◌++◌, ◌-◌, take, map, flat_map, string_bytes}
use Rattle.rb_rows.specs.Columns.{behind, columns_of}
use Rattle.rb_rows.proofs.columns.put_columns.Given as goal

abbrev pub invariant-loop-i : goal.invariant-loop-i
invariant-loop-i l = map string_bytes l.texts.items ≡ map string_bytes l.fn.texts.items ++ behind l.prefix (flat_map columns_of (take (l.i - 1) l.robot.bodies))
