use Rattle.rb_sweep.proofs.Told.{told_err}
use Rattle.rb_factor.specs.Solve.{HoldsReduced, RefusesReduce}
use Rattle.rb_factor.specs.Laws.{EnclosesReduced}
use Rattle.rb_factor.proofs.Answered.{w_told, reduce_values, reduce_refused, reduce_encloses}
use Rattle.rb_factor.proofs.solution.reduce.Goals as goal

pub returns-clause-values : goal.returns-clause-values
returns-clause-values c =
    w_told c.take_all.result c.args.work.now c.take_all.new.work (HoldsReduced c.args.work.now) c.take_all.ensures.exact c.take_all.ensures.others
    (reduce_values c.args.work.now c.columns-sizes.ensures.sized)

pub returns-clause-refused : goal.returns-clause-refused
returns-clause-refused c =
    told_err c.take_all.result _ _ (RefusesReduce c.args.work.now) c.take_all.ensures.exact (reduce_refused c.args.work.now c.columns-sizes.ensures.sized)

pub returns-clause-encloses : goal.returns-clause-encloses
returns-clause-encloses c =
    w_told c.take_all.result c.args.work.now c.take_all.new.work (EnclosesReduced c.args.work.now) c.take_all.ensures.exact c.take_all.ensures.others
    (reduce_encloses c.args.work.now c.columns-sizes.ensures.sized)
