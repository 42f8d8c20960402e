use Rattle.rb_sweep.proofs.Told.{told_err}
use Rattle.rb_factor.specs.Solve.{HoldsSubstituted, RefusesSubstitute}
use Rattle.rb_factor.specs.Laws.{EnclosesSubstituted}
use Rattle.rb_factor.proofs.Answered.{x_told, substitute_values, substitute_refused, substitute_encloses}
use Rattle.rb_factor.proofs.solution.substitute.Goals as goal

pub returns-clause-values : goal.returns-clause-values
returns-clause-values c =
    x_told c.find_all.result c.args.work.now c.find_all.new.work (HoldsSubstituted c.args.work.now) c.find_all.ensures.exact c.find_all.ensures.others
    (substitute_values c.args.work.now c.columns-sizes.ensures.sized)

pub returns-clause-refused : goal.returns-clause-refused
returns-clause-refused c =
    told_err c.find_all.result _ _ (RefusesSubstitute c.args.work.now) c.find_all.ensures.exact (substitute_refused c.args.work.now c.columns-sizes.ensures.sized)

pub returns-clause-encloses : goal.returns-clause-encloses
returns-clause-encloses c =
    x_told c.find_all.result c.args.work.now c.find_all.new.work (EnclosesSubstituted c.args.work.now) c.find_all.ensures.exact c.find_all.ensures.others
    (substitute_encloses c.args.work.now c.columns-sizes.ensures.sized)
