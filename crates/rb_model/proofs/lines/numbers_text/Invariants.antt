use Rattle.std.proofs.Common.{◌≡◌, take, map, decimal, string_bytes}
use Rattle.std.specs.List.{join_with_byte}
use Rattle.rb_model.proofs.lines.numbers_text.Given as goal

abbrev pub invariant-loop-k : goal.invariant-loop-k
invariant-loop-k l = string_bytes l.text ≡ join_with_byte 32 (map decimal (take l.k l.numbers))
