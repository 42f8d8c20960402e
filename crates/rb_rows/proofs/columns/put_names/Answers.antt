use Rattle.std.proofs.Common.{arith, Bor, List, ℕ, string_bytes}
use Rattle.rb_rows.proofs.Putting.{names_end}
use Rattle.rb_rows.proofs.columns.put_names.Goals as goal

pub returns : goal.returns
returns c = names_end string_bytes (λ (s : Bor (List ℕ)). s.now) _ _ _ _ _ _ (omega arith) c.loop-suffix.invariant
