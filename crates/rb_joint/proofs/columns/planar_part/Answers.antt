use Rattle.std.proofs.Common.{rules}
use Rattle.rb_joint.proofs.JointMotion.{planar_lin, planar_ang}
use Rattle.rb_joint.proofs.columns.planar_part.Goals as goal

pub returns-then-k-lt2-clause-exact : goal.returns-then-k-lt2-clause-exact
returns-then-k-lt2-clause-exact c = planar_lin c.args.k c.args.f.now c.part.result c.if-k-lt2.true (search rules)

pub returns-else-k-lt2-clause-exact : goal.returns-else-k-lt2-clause-exact
returns-else-k-lt2-clause-exact c = planar_ang c.args.k c.args.f.now c.part-else-k-lt2.result c.if-k-lt2.false c.requires (search rules)
