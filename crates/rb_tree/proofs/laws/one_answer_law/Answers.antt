use Rattle.rb_tree.proofs.OneRobot.{built_once, one_fault, faults_exclude}
use Rattle.rb_tree.proofs.laws.one_answer_law.Goals as goal

pub returns-clause-robot : goal.returns-clause-robot
returns-clause-robot c = built_once

pub returns-clause-fault : goal.returns-clause-fault
returns-clause-fault c = one_fault

pub returns-clause-either : goal.returns-clause-either
returns-clause-either c = faults_exclude
