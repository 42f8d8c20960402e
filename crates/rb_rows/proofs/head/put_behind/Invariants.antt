use Rattle.std.proofs.Common.{◌≡◌, ◌++◌, take, map, string_bytes}
use Rattle.rb_rows.proofs.head.put_behind.Given as goal

abbrev pub invariant-loop-name : goal.invariant-loop-name
invariant-loop-name l = map string_bytes l.texts.items ≡ map string_bytes l.fn.texts.items ++ map (λ t. l.prefix ++ string_bytes t) (take l.name-index l.names)
