use Rattle.std.proofs.Common.{◌≢◌, take}
use Rattle.std.specs.List.{All}
use Rattle.rb_tree.proofs.sizes.check_root.Given as goal

abbrev pub invariant-loop-joint : goal.invariant-loop-joint
invariant-loop-joint l = All (λ joint. joint.name ≢ l.root.name) (take l.joint-index l.joints)
