use Rattle.rb_mass.proofs.MassEnclose.{mass_encloses, row_mass_encloses, row_encloses, mass_gives_torques}
use Rattle.rb_mass.proofs.meaning.table_law.Goals as goal

pub returns-clause-encloses : goal.returns-clause-encloses
returns-clause-encloses c = mass_encloses

pub returns-clause-row : goal.returns-clause-row
returns-clause-row c = row_mass_encloses

pub returns-clause-answer : goal.returns-clause-answer
returns-clause-answer c = row_encloses

pub returns-clause-torques : goal.returns-clause-torques
returns-clause-torques c = mass_gives_torques
