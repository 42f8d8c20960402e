use Rattle.std.proofs.Common.{rules, Ok}
use Rattle.rb_spatial.proofs.Enclosure.{cross_twice_encloses}
use Rattle.rb_spatial.proofs.motions.cross_twice.Goals as goal

pub returns-in-Some-clause-encloses : goal.returns-in-Some-clause-encloses
returns-in-Some-clause-encloses c = cross_twice_encloses c.args.u.now c.args.w.now c.args.s.now c.args.t.now (Ok _) (search rules)
