use Rattle.std.proofs.Common.{◌≡◌, map, take}
use Rattle.rb_srdf.specs.declared.srdf.Group.{Group}
use Rattle.rb_srdf.specs.Loops.{held_by}
use Rattle.rb_srdf.proofs.rows.rows_of.Given as goal

abbrev pub invariant-loop-group : goal.invariant-loop-group
invariant-loop-group l = l.rows.items ≡ map (λ (group : Group). held_by l.names group.items) (take l.group-index l.groups)
