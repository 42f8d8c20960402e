use Rattle.rb_spatial.proofs.Identities.{apply-in_body, apply_dual-in_parent, cross-motion_product, cross_dual-force_product, multiple-scaled, power-sum, table-momentum}
use Rattle.rb_spatial.proofs.laws.formulas.Goals as goal

pub returns-clause-apply : goal.returns-clause-apply
returns-clause-apply c = apply-in_body

pub returns-clause-apply_dual : goal.returns-clause-apply_dual
returns-clause-apply_dual c = apply_dual-in_parent

pub returns-clause-cross : goal.returns-clause-cross
returns-clause-cross c = cross-motion_product

pub returns-clause-cross_dual : goal.returns-clause-cross_dual
returns-clause-cross_dual c = cross_dual-force_product

pub returns-clause-multiple : goal.returns-clause-multiple
returns-clause-multiple c = multiple-scaled

pub returns-clause-power : goal.returns-clause-power
returns-clause-power c = power-sum

pub returns-clause-table : goal.returns-clause-table
returns-clause-table c = table-momentum
