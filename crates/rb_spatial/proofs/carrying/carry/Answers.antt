use Rattle.std.proofs.Common.{rules, Ok}
use Rattle.rb_spatial.proofs.Enclosure.{carry_encloses}
use Rattle.rb_spatial.proofs.carrying.carry.Goals as goal

pub returns-in-Some-clause-encloses : goal.returns-in-Some-clause-encloses
returns-in-Some-clause-encloses c = carry_encloses c.args.x.now c.args.i.now (Ok _) (search rules)
