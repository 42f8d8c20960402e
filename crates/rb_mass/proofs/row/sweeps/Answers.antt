use Rattle.rb_mass.proofs.Ways.{ups_same}
use Rattle.rb_mass.proofs.row.sweeps.Goals as goal

pub sweep_masses-requires-clause-up : goal.sweep_masses-requires-clause-up
sweep_masses-requires-clause-up c = rw (c.sweep_entries.ensures.others, c.sweep_inertias.ensures.others) (ups_same c.args.robot.now _ c.requires.room.up)
