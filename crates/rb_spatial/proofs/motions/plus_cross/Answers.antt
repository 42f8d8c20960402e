use Rattle.std.proofs.Common.{rules, Ok}
use Rattle.rb_spatial.proofs.Enclosure.{plus_cross_encloses}
use Rattle.rb_spatial.proofs.motions.plus_cross.Goals as goal

pub returns-in-Some-clause-encloses : goal.returns-in-Some-clause-encloses
returns-in-Some-clause-encloses c = plus_cross_encloses c.args.n.now c.args.u.now c.args.w.now (Ok _) (search rules)
