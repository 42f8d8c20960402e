use Rattle.std.proofs.Common.{◌≡◌, ◌++◌, ◌-◌, map, string_bytes}
use Rattle.std.specs.List.{range_with_len}
use Rattle.rb_rows.specs.Head.{mass_name}
use Rattle.rb_rows.proofs.head.put_mass_row.Given as goal

abbrev pub invariant-loop-d : goal.invariant-loop-d
invariant-loop-d l = map string_bytes l.texts.items ≡ map string_bytes l.fn.texts.items ++ map (λ e. mass_name (l.c, e)) (range_with_len l.c (l.d - l.c))
