use Rattle.std.proofs.lemmas.Result.{err_from_is_err_and, on_ok_weaker, IfErr-weaker}
use Rattle.rb_factor.specs.Solve.{RefusesSubstitute, RefusesSolve}
use Rattle.rb_factor.proofs.Answered.{solution_values, solution_lies, refused_by_divide, refused_by_substitute}
use Rattle.rb_factor.proofs.solution.solve.Goals as goal

pub returns-in_err-divide-clause-refused : goal.returns-in_err-divide-clause-refused
returns-in_err-divide-clause-refused c =
    let p = err_from_is_err_and c.from_residual-in_err-divide.result c.from_residual-in_err-divide.ensures.1 in
    rw (p.1, p.2) (refused_by_divide c.args.work.now c.reduce.new.work _ c.reduce.ensures.others c.in_ok-reduce.ensures.values c.in_err-divide.ensures.refused)

pub returns-clause-values : goal.returns-clause-values
returns-clause-values c =
    on_ok_weaker c.substitute.result
    (solution_values c.args.work.now c.reduce.new.work c.divide.new.work c.substitute.new.work c.reduce.ensures.others c.divide.ensures.others c.substitute.ensures.others
    c.in_ok-reduce.ensures.values c.in_ok-divide.ensures.values)
    c.substitute.ensures.values

pub returns-clause-refused : goal.returns-clause-refused
returns-clause-refused c =
    IfErr-weaker c.substitute.result (RefusesSubstitute c.divide.new.work) (RefusesSolve c.args.work.now)
    (λ e r. refused_by_substitute c.args.work.now c.reduce.new.work c.divide.new.work e c.reduce.ensures.others c.divide.ensures.others c.in_ok-reduce.ensures.values
    c.in_ok-divide.ensures.values r)
    c.substitute.ensures.refused

pub returns-clause-encloses : goal.returns-clause-encloses
returns-clause-encloses c =
    on_ok_weaker c.substitute.result
    (solution_lies c.args.work.now c.reduce.new.work c.divide.new.work c.substitute.new.work c.reduce.ensures.others c.divide.ensures.others c.substitute.ensures.others
    c.columns-sizes.ensures.sized c.in_ok-reduce.ensures.values c.in_ok-divide.ensures.values)
    c.substitute.ensures.values
