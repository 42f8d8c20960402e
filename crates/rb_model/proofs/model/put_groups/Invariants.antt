use Rattle.std.proofs.Common.{◌≡◌, ◌++◌}
use Rattle.rb_model.proofs.Numbered.{groups_text}
use Rattle.rb_model.proofs.model.put_groups.Given as goal

abbrev pub invariant-loop-k : goal.invariant-loop-k
invariant-loop-k l = l.text.items ≡ l.fn.text.items ++ groups_text l.robot.groups l.k
