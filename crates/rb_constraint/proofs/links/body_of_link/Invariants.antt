use Rattle.std.proofs.Common.{◌≡◌, ℕ, ◌<◌, ◌≤◌, ◌+◌, Some, false}
use Rattle.std.specs.Prelude.{bytes_eq, slice_get}
use Rattle.rb_tree.specs.declared.robot.Body.{Body}
use Rattle.rb_constraint.proofs.links.body_of_link.Given as goal

-- no link of a body before has the name
abbrev pub invariant-loop-i : goal.invariant-loop-i
invariant-loop-i l = record {
  from : 1 ≤ l.i;
  others : (k : ℕ) (body : Body) → k + 1 < l.i → slice_get l.robot.bodies k ≡ Some body → bytes_eq body.link_name l.name ≡ false;
}
