use Rattle.std.proofs.Common.{arith, string_bytes}
use Rattle.rb_rows.proofs.HeadNames.{behind_end}
use Rattle.rb_rows.proofs.head.put_behind.Goals as goal

pub returns : goal.returns
returns c = behind_end string_bytes string_bytes _ _ _ _ _ (omega arith) c.loop-name.invariant
