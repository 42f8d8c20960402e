use Rattle.std.proofs.Common.{rules, Ok}
use Rattle.rb_spatial.proofs.Enclosure.{mul_encloses}
use Rattle.rb_spatial.proofs.motions.mul.Goals as goal

pub returns-in-Some-clause-encloses : goal.returns-in-Some-clause-encloses
returns-in-Some-clause-encloses c = mul_encloses c.args.t.now c.args.v.now (Ok _) (search rules)
