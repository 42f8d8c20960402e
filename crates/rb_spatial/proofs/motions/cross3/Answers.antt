use Rattle.std.proofs.Common.{rules, Ok}
use Rattle.rb_spatial.proofs.Enclosure.{cross3_encloses}
use Rattle.rb_spatial.proofs.motions.cross3.Goals as goal

pub returns-in-Some-clause-encloses : goal.returns-in-Some-clause-encloses
returns-in-Some-clause-encloses c = cross3_encloses c.args.u.now c.args.w.now (Ok _) (search rules)
