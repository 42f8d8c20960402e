use Rattle.std.proofs.Common.{rules, Ok}
use Rattle.rb_spatial.proofs.Enclosure.{cross_dual_encloses}
use Rattle.rb_spatial.proofs.motions.cross_dual.Goals as goal

pub returns-in-Some-clause-encloses : goal.returns-in-Some-clause-encloses
returns-in-Some-clause-encloses c = cross_dual_encloses c.args.a.now c.args.f.now (Ok _) (search rules)
