use Rattle.rb_sweep.proofs.Told.{told_err}
use Rattle.rb_factor.specs.Factor.{HoldsFactors, RefusesFactor}
use Rattle.rb_factor.specs.Laws.{EnclosesFactors}
use Rattle.rb_factor.proofs.Answered.{packed_told, factor_values, factor_refused, factor_encloses}
use Rattle.rb_factor.proofs.factors.factor.Goals as goal

pub returns-clause-values : goal.returns-clause-values
returns-clause-values c =
    packed_told c.eliminate_all.result c.args.work.now c.eliminate_all.new.work (HoldsFactors c.args.work.now) c.eliminate_all.ensures.exact c.eliminate_all.ensures.others
    (factor_values c.args.work.now c.columns-sizes.ensures.sized)

pub returns-clause-refused : goal.returns-clause-refused
returns-clause-refused c =
    told_err c.eliminate_all.result _ _ (RefusesFactor c.args.work.now) c.eliminate_all.ensures.exact (factor_refused c.args.work.now c.columns-sizes.ensures.sized)

pub returns-clause-encloses : goal.returns-clause-encloses
returns-clause-encloses c =
    packed_told c.eliminate_all.result c.args.work.now c.eliminate_all.new.work (EnclosesFactors c.args.work.now) c.eliminate_all.ensures.exact c.eliminate_all.ensures.others
    (factor_encloses c.args.work.now c.columns-sizes.ensures.sized)
