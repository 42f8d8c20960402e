use Rattle.std.proofs.Common.{take}
use Rattle.std.specs.List.{AllZip}
use Rattle.rb_tree.specs.Build.{IsBodyOf}
use Rattle.rb_tree.proofs.build.bodies_of.Given as goal

abbrev pub invariant-loop-stem : goal.invariant-loop-stem
invariant-loop-stem l = AllZip (IsBodyOf l.urdf l.root l.order) (take l.stem-index l.order) l.bodies.items
