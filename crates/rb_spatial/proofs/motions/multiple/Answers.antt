use Rattle.std.proofs.Common.{rules, Ok}
use Rattle.rb_spatial.proofs.Enclosure.{multiple_encloses}
use Rattle.rb_spatial.proofs.motions.multiple.Goals as goal

pub returns-in-Some-clause-encloses : goal.returns-in-Some-clause-encloses
returns-in-Some-clause-encloses c = multiple_encloses c.args.k c.args.v.now (Ok _) (search rules)
