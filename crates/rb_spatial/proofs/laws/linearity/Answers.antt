use Rattle.rb_spatial.proofs.Identities.{apply-linear, apply_dual-linear, cross-linear, cross_dual-linear, times-linear, power-linear, table-linear, needed-linear, sum-additive}
use Rattle.rb_spatial.proofs.laws.linearity.Goals as goal

pub returns-clause-apply : goal.returns-clause-apply
returns-clause-apply c = apply-linear

pub returns-clause-apply_dual : goal.returns-clause-apply_dual
returns-clause-apply_dual c = apply_dual-linear

pub returns-clause-cross : goal.returns-clause-cross
returns-clause-cross c = cross-linear

pub returns-clause-cross_dual : goal.returns-clause-cross_dual
returns-clause-cross_dual c = cross_dual-linear

pub returns-clause-times : goal.returns-clause-times
returns-clause-times c = times-linear

pub returns-clause-power : goal.returns-clause-power
returns-clause-power c = power-linear

pub returns-clause-sum : goal.returns-clause-sum
returns-clause-sum c = sum-additive

pub returns-clause-table : goal.returns-clause-table
returns-clause-table c = table-linear

pub returns-clause-needed : goal.returns-clause-needed
returns-clause-needed c = needed-linear
