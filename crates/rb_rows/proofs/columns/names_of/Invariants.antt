use Rattle.std.proofs.Common.{◌≡◌, take, map, string_bytes}
use Rattle.rb_rows.proofs.columns.names_of.Given as goal

abbrev pub invariant-loop-text : goal.invariant-loop-text
invariant-loop-text l = l.names ≡ map string_bytes (take l.text-index l.texts)
