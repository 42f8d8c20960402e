use Rattle.std.proofs.Common.{rules, Ok}
use Rattle.rb_spatial.proofs.Enclosure.{times_body_encloses}
use Rattle.rb_spatial.proofs.inertias.times_body.Goals as goal

pub returns-in-Some-clause-encloses : goal.returns-in-Some-clause-encloses
returns-in-Some-clause-encloses c = times_body_encloses c.args.i.now c.args.m.now (Ok _) (search rules)
