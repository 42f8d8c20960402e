use Rattle.std.proofs.Common.{◌≡◌, ◌+◌}
use Rattle.rb_sweep.specs.Sweep.{sweep, upward}
use Rattle.rb_coupling.specs.Sweeps.{row_step, rows_of}
use Rattle.rb_coupling.proofs.rows.reduce_rows.Given as goal

abbrev pub invariant-loop-r : goal.invariant-loop-r
invariant-loop-r l = record {
  others : l.work ≡ record l.fn.work { Y = l.work.Y; Z = l.work.Z };
  rest : sweep (row_step l.fn.work.up l.fn.work.packed l.fn.work.J) (upward l.r (l.rows + 1)) (l.work.Y, l.work.Z) ≡ rows_of l.fn.work.up l.rows l.fn.work.packed l.fn.work.J (l.fn.work.Y, l.fn.work.Z);
}
