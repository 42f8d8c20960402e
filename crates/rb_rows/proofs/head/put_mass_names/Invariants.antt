use Rattle.std.proofs.Common.{◌≡◌, ◌++◌, ◌-◌, map, flat_map, string_bytes}
use Rattle.std.specs.List.{range_with_len}
use Rattle.rb_rows.specs.Head.{pairs_at, mass_name}
use Rattle.rb_rows.proofs.head.put_mass_names.Given as goal

abbrev pub invariant-loop-c : goal.invariant-loop-c
invariant-loop-c l = map string_bytes l.texts.items ≡ map string_bytes l.fn.texts.items ++ flat_map (λ k. map mass_name (pairs_at l.count k)) (range_with_len 1 (l.c - 1))
