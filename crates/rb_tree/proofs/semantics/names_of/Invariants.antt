use Rattle.std.proofs.Common.{◌≡◌, take}
use Rattle.rb_urdf.specs.Robot.{names_of_links}
use Rattle.rb_tree.proofs.semantics.names_of.Given as goal

abbrev pub invariant-loop-link : goal.invariant-loop-link
invariant-loop-link l = l.names ≡ names_of_links (take l.link-index l.links)
