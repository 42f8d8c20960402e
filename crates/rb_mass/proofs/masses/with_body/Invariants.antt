use Rattle.std.proofs.Common.{◌≡◌}
use Rattle.rb_sweep.specs.Sweep.{sweep, downward}
use Rattle.rb_mass.specs.Entries.{met_columns}
use Rattle.rb_mass.specs.Table.{add_pair}
use Rattle.rb_mass.proofs.masses.with_body.Given as goal

abbrev pub invariant-loop-l : goal.invariant-loop-l
invariant-loop-l l =
    sweep (add_pair l.robot.bodies l.work l.sought.c l.sought.d l.of.body l.of.k l.a) (downward 0 l.l) l.sum
    ≡ sweep (add_pair l.robot.bodies l.work l.sought.c l.sought.d l.of.body l.of.k l.a) (downward 0 (met_columns l.robot.bodies l.of.body l.of.k l.a)) l.fn.start
