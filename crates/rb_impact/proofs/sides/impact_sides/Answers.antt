use Rattle.std.proofs.Common.{◌<◌, length, arith}
use Rattle.rb_sweep.proofs.Told.{told_ok, told_err}
use Rattle.rb_constraint.specs.Constraints.{constraints_of}
use Rattle.rb_impact.specs.Sides.{AreSides, IsSideRefused}
use Rattle.rb_impact.proofs.Passes.{sides_found, sides_refused}
use Rattle.rb_impact.proofs.sides.impact_sides.Goals as goal

pub returns-clause-values : goal.returns-clause-values
returns-clause-values c =
    let k = constraints_of c.args.cons.now in
    let room = c.requires.rows in
    let long = c.rows-sizes.ensures.sized.e in
    let within : k.rows < length c.args.work.now.e = omega (arith, room, long) in
    told_ok _ _ _ (AreSides c.args.state.now k) c.find_sides.ensures.exact (λ t e. sides_found c.args.state.now k c.args.work.now t within e)

pub returns-clause-refused : goal.returns-clause-refused
returns-clause-refused c =
    let k = constraints_of c.args.cons.now in
    told_err _ _ _ (IsSideRefused c.args.state.now k c.args.work.now) c.find_sides.ensures.exact (λ d e. sides_refused c.args.state.now k c.args.work.now d e)
