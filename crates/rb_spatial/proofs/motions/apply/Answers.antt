use Rattle.std.proofs.Common.{rules, Ok}
use Rattle.rb_spatial.proofs.Enclosure.{apply_encloses}
use Rattle.rb_spatial.proofs.motions.apply.Goals as goal

pub returns-in-Some-clause-encloses : goal.returns-in-Some-clause-encloses
returns-in-Some-clause-encloses c = apply_encloses c.args.x.now c.args.m.now (Ok _) (search rules)
