use Rattle.rb_jacobian.proofs.Speeds.{jacobian_gives_speeds, has_jacobian, jacobian_is_one}
use Rattle.rb_jacobian.proofs.Accelerations.{jacobian_gives_accelerations}
use Rattle.rb_jacobian.proofs.Torques.{jacobian_gives_torques}
use Rattle.rb_jacobian.proofs.laws.jacobian_law.Goals as goal

pub returns-clause-speeds : goal.returns-clause-speeds
returns-clause-speeds c = jacobian_gives_speeds

pub returns-clause-accelerations : goal.returns-clause-accelerations
returns-clause-accelerations c = jacobian_gives_accelerations

pub returns-clause-torques : goal.returns-clause-torques
returns-clause-torques c = jacobian_gives_torques

pub returns-clause-exists : goal.returns-clause-exists
returns-clause-exists c = has_jacobian

pub returns-clause-one : goal.returns-clause-one
returns-clause-one c = jacobian_is_one
