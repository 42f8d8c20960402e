use Rattle.std.proofs.Common.{rules, Ok}
use Rattle.rb_spatial.proofs.Enclosure.{apply_dual_encloses}
use Rattle.rb_spatial.proofs.motions.apply_dual.Goals as goal

pub returns-in-Some-clause-encloses : goal.returns-in-Some-clause-encloses
returns-in-Some-clause-encloses c = apply_dual_encloses c.args.x.now c.args.f.now (Ok _) (search rules)
