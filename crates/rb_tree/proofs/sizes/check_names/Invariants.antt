use Rattle.std.proofs.Common.{take}
use Rattle.rb_tree.specs.Sizes.{HaveOwnNames}
use Rattle.rb_tree.proofs.sizes.check_names.Given as goal

abbrev pub invariant-loop-number : goal.invariant-loop-number
invariant-loop-number l = HaveOwnNames l.root l.joints (take l.number l.stems)
