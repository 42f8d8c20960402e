use Rattle.rb_tree.specs.Shape.{shape_of}
use Rattle.rbd.proofs.read.read_constraints_of.Goals as goal

pub returns-in-None-clause-fit : goal.returns-in-None-clause-fit
returns-in-None-clause-fit g c = c.none.ensures.fit (shape_of c.args.robot.now)
