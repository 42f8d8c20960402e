use Rattle.std.proofs.Common.{◌≡◌, ◌+◌}
use Rattle.rb_sweep.specs.Sweep.{sweep, upward}
use Rattle.rb_tree.specs.Columns.{first_full}
use Rattle.rb_mass.specs.Entries.{met_columns}
use Rattle.rb_mass.specs.Steps.{entry_step, entries_on}
use Rattle.rb_mass.proofs.entries.put_entries.Given as goal

abbrev pub invariant-loop-l : goal.invariant-loop-l
invariant-loop-l l = record {
  others : l.work ≡ record l.fn.work { H = l.work.H };
  rest : sweep (entry_step l.robot.bodies (first_full l.robot.bodies l.fn.of.body + l.fn.of.k) l.a l.force) (upward l.l (met_columns l.robot.bodies l.fn.of.body l.fn.of.k l.a)) l.work
      ≡ entries_on l.robot.bodies l.fn.of.body l.fn.of.k l.a l.force l.fn.work;
}
