use Rattle.std.proofs.Common.{◌≡◌, ◌++◌, take, map}
use Rattle.rb_num.specs.Text.{iv_text}
use Rattle.rb_model.proofs.lines.put_entries.Given as goal

abbrev pub invariant-loop-place : goal.invariant-loop-place
invariant-loop-place l = l.fields ≡ l.fn.fields ++ map iv_text (take l.place l.start.q)
