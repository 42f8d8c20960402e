use Rattle.std.proofs.Common.{◌≡◌, length, take}
use Rattle.std.specs.List.{sum_by}
use Rattle.rb_tree.specs.Columns.{own_entries, entry_count}
use Rattle.rb_tree.specs.State.{neutral_position}
use Rattle.rb_tree.proofs.state.put_neutral.Given as goal

abbrev pub invariant-loop-body : goal.invariant-loop-body
invariant-loop-body l = record {
  at_is : l.at ≡ sum_by own_entries (take l.body-index l.bodies);
  fits : length l.q ≡ entry_count l.bodies;
  done : take l.at l.q ≡ neutral_position (take l.body-index l.bodies);
}
