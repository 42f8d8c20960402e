use Rattle.std.proofs.Common.{◌≢◌, Some, take}
use Rattle.std.specs.List.{All}
use Rattle.rb_tree.proofs.build.body_borne_by.Given as goal

abbrev pub invariant-loop-place : goal.invariant-loop-place
invariant-loop-place l = All (λ stem. stem.joint ≢ Some l.number) (take l.place l.order)
