use Rattle.std.proofs.Common.{◌≡◌, ◌++◌, ◌-◌, take, map, flat_map, codes, string_bytes}
use Rattle.rb_rows.specs.Columns.{behind, entries_of}
use Rattle.rb_rows.proofs.columns.put_entries.Given as goal

abbrev pub invariant-loop-i : goal.invariant-loop-i
invariant-loop-i l = map string_bytes l.texts.items ≡ map string_bytes l.fn.texts.items ++ behind (codes "q.") (flat_map entries_of (take (l.i - 1) l.robot.bodies))
