use Rattle.std.proofs.Common.{rules, Ok}
use Rattle.rb_spatial.proofs.Enclosure.{power_encloses}
use Rattle.rb_spatial.proofs.motions.power.Goals as goal

pub returns-in-Some-clause-encloses : goal.returns-in-Some-clause-encloses
returns-in-Some-clause-encloses c = power_encloses c.args.m.now c.args.f.now (Ok _) (search rules)
