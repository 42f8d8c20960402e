use Rattle.std.proofs.Common.{◌≡◌, ◌++◌, take, map, string_bytes}
use Rattle.rb_rows.proofs.columns.put_names.Given as goal

abbrev pub invariant-loop-suffix : goal.invariant-loop-suffix
invariant-loop-suffix l =
    map string_bytes l.texts.items ≡ map string_bytes l.fn.texts.items ++ map (λ s. l.prefix ++ (l.name ++ s.now)) (take l.suffix-index l.suffixes)
