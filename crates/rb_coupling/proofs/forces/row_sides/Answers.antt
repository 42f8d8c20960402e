use Rattle.rb_sweep.proofs.Told.{told_err}
use Rattle.rb_coupling.specs.Forces.{HoldsRowSides, RefusesRowSides}
use Rattle.rb_coupling.specs.Laws.{EnclosesRowSides}
use Rattle.rb_coupling.proofs.Answered.{sides_told_of, sides_values, sides_refused_of, sides_encloses}
use Rattle.rb_coupling.proofs.forces.row_sides.Goals as goal

pub returns-clause-values : goal.returns-clause-values
returns-clause-values c =
    sides_told_of c.find_sides.result c.args.rows c.args.work.now c.find_sides.new.work (HoldsRowSides c.args.rows c.args.work.now) c.find_sides.ensures.exact c.find_sides.ensures.others
    (sides_values c.args.work.now c.rows-sizes.ensures.sized c.args.rows c.requires.rows)

pub returns-clause-refused : goal.returns-clause-refused
returns-clause-refused c =
    told_err c.find_sides.result _ _ (RefusesRowSides c.args.rows c.args.work.now) c.find_sides.ensures.exact (sides_refused_of c.args.work.now c.rows-sizes.ensures.sized c.args.rows c.requires.rows)

pub returns-clause-encloses : goal.returns-clause-encloses
returns-clause-encloses c =
    sides_told_of c.find_sides.result c.args.rows c.args.work.now c.find_sides.new.work (EnclosesRowSides c.args.rows c.args.work.now) c.find_sides.ensures.exact c.find_sides.ensures.others
    (sides_encloses c.args.work.now c.rows-sizes.ensures.sized c.args.rows c.requires.rows)
