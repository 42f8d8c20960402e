use Rattle.rb_sweep.proofs.Told.{told_err}
use Rattle.rb_coupling.specs.Forces.{HoldsRowForces, RefusesRowForces}
use Rattle.rb_coupling.specs.Laws.{EnclosesRowForces}
use Rattle.rb_coupling.proofs.Answered.{forces_told_of, forces_values, forces_refused_of, forces_encloses}
use Rattle.rb_coupling.proofs.forces.row_forces.Goals as goal

pub returns-clause-values : goal.returns-clause-values
returns-clause-values c =
    forces_told_of c.find_all.result c.args.rows c.args.work.now c.find_all.new.work (HoldsRowForces c.args.rows c.args.work.now) c.find_all.ensures.exact c.find_all.ensures.others
    (forces_values c.args.work.now c.rows-sizes.ensures.sized c.args.rows c.requires.rows)

pub returns-clause-refused : goal.returns-clause-refused
returns-clause-refused c =
    told_err c.find_all.result _ _ (RefusesRowForces c.args.rows c.args.work.now) c.find_all.ensures.exact (forces_refused_of c.args.work.now c.rows-sizes.ensures.sized c.args.rows c.requires.rows c.requires.divisors)

pub returns-clause-encloses : goal.returns-clause-encloses
returns-clause-encloses c =
    forces_told_of c.find_all.result c.args.rows c.args.work.now c.find_all.new.work (EnclosesRowForces c.args.rows c.args.work.now) c.find_all.ensures.exact c.find_all.ensures.others
    (forces_encloses c.args.work.now c.rows-sizes.ensures.sized c.args.rows c.requires.rows)
