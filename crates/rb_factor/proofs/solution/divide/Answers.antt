use Rattle.rb_sweep.proofs.Told.{told_err}
use Rattle.rb_factor.specs.Solve.{HoldsDivided, RefusesDivide}
use Rattle.rb_factor.specs.Laws.{EnclosesDivided}
use Rattle.rb_factor.proofs.Answered.{z_told, divide_values, divide_refused, divide_encloses}
use Rattle.rb_factor.proofs.solution.divide.Goals as goal

pub returns-clause-values : goal.returns-clause-values
returns-clause-values c =
    z_told c.divide_all.result c.args.work.now c.divide_all.new.work (HoldsDivided c.args.work.now) c.divide_all.ensures.exact c.divide_all.ensures.others
    (divide_values c.args.work.now c.columns-sizes.ensures.sized)

pub returns-clause-refused : goal.returns-clause-refused
returns-clause-refused c =
    told_err c.divide_all.result _ _ (RefusesDivide c.args.work.now) c.divide_all.ensures.exact (divide_refused c.args.work.now c.columns-sizes.ensures.sized c.requires.divisors)

pub returns-clause-encloses : goal.returns-clause-encloses
returns-clause-encloses c =
    z_told c.divide_all.result c.args.work.now c.divide_all.new.work (EnclosesDivided c.args.work.now) c.divide_all.ensures.exact c.divide_all.ensures.others
    (divide_encloses c.args.work.now c.columns-sizes.ensures.sized)
