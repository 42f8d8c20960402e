use Rattle.std.proofs.Common.{◌≡◌, take, map, flat_map, string_bytes}
use Rattle.rb_rows.specs.Head.{own_names}
use Rattle.rb_rows.proofs.head.row_texts.Given as goal

abbrev pub invariant-loop-c : goal.invariant-loop-c
invariant-loop-c l = map string_bytes l.texts.items ≡ flat_map own_names (take l.c-index l.cons)
