use Rattle.std.proofs.Common.{rules}
use Rattle.rb_joint.proofs.JointMotion.{free_lin, free_ang}
use Rattle.rb_joint.proofs.columns.free_part.Goals as goal

pub returns-then-k-lt3-clause-exact : goal.returns-then-k-lt3-clause-exact
returns-then-k-lt3-clause-exact c = free_lin c.args.k c.args.f.now c.part.result c.if-k-lt3.true (search rules)

pub returns-else-k-lt3-clause-exact : goal.returns-else-k-lt3-clause-exact
returns-else-k-lt3-clause-exact c = free_ang c.args.k c.args.f.now c.part-else-k-lt3.result c.if-k-lt3.false c.requires (search rules)
