use Rattle.rb_composite.proofs.Exists.{has_composite_table}
use Rattle.rb_composite.proofs.Gathered.{composite_is_mass_table}
use Rattle.rb_composite.proofs.Mass.{composite_is_symmetric, composite_gives_torques}
use Rattle.rb_composite.proofs.Rigid.{composite_is_rigid}
use Rattle.rb_composite.proofs.laws.composite_law.Goals as goal

pub returns-clause-rigid : goal.returns-clause-rigid
returns-clause-rigid c = composite_is_rigid

pub returns-clause-exists : goal.returns-clause-exists
returns-clause-exists c = has_composite_table

pub returns-clause-table : goal.returns-clause-table
returns-clause-table c = composite_is_mass_table

pub returns-clause-symmetric : goal.returns-clause-symmetric
returns-clause-symmetric c = composite_is_symmetric

pub returns-clause-torques : goal.returns-clause-torques
returns-clause-torques c = composite_gives_torques
