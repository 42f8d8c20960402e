use Rattle.rb_sweep.proofs.Told.{told_err}
use Rattle.rb_coupling.specs.Forces.{HoldsAddedForces, RefusesAddedForces}
use Rattle.rb_coupling.specs.Laws.{EnclosesAddedForces}
use Rattle.rb_coupling.proofs.Answered.{added_told_of, added_values, added_refused_of, added_encloses}
use Rattle.rb_coupling.proofs.forces.add_row_forces.Goals as goal

pub returns-clause-values : goal.returns-clause-values
returns-clause-values c =
    added_told_of c.add_to_all.result c.args.rows c.args.work.now c.add_to_all.new.work (HoldsAddedForces c.args.rows c.args.work.now) c.add_to_all.ensures.exact c.add_to_all.ensures.others
    (added_values c.args.work.now c.columns-sizes.ensures.sized c.args.rows c.requires.rows)

pub returns-clause-refused : goal.returns-clause-refused
returns-clause-refused c =
    told_err c.add_to_all.result _ _ (RefusesAddedForces c.args.rows c.args.work.now) c.add_to_all.ensures.exact (added_refused_of c.args.work.now c.columns-sizes.ensures.sized c.args.rows c.requires.rows)

pub returns-clause-encloses : goal.returns-clause-encloses
returns-clause-encloses c =
    added_told_of c.add_to_all.result c.args.rows c.args.work.now c.add_to_all.new.work (EnclosesAddedForces c.args.rows c.args.work.now) c.add_to_all.ensures.exact c.add_to_all.ensures.others
    (added_encloses c.args.work.now c.columns-sizes.ensures.sized c.args.rows c.requires.rows)
