use Rattle.rb_joint.proofs.JointTurning.{lone_crossed}
use Rattle.rb_joint.proofs.turning.cross_lone.Goals as goal

pub returns-in-X-clause-exact : goal.returns-in-X-clause-exact
returns-in-X-clause-exact c = lone_crossed c.args.k _ c.args.u.now c.args.p.now _ c.in-X.is c.cross_x.ensures.exact

pub returns-in-Y-clause-exact : goal.returns-in-Y-clause-exact
returns-in-Y-clause-exact c = lone_crossed c.args.k _ c.args.u.now c.args.p.now _ c.in-Y.is c.cross_y.ensures.exact

pub returns-in-Z-clause-exact : goal.returns-in-Z-clause-exact
returns-in-Z-clause-exact c = lone_crossed c.args.k _ c.args.u.now c.args.p.now _ c.in-Z.is c.cross_z.ensures.exact
