use Rattle.std.proofs.Common.{rules, Ok}
use Rattle.rb_spatial.proofs.Enclosure.{less_outer_encloses}
use Rattle.rb_spatial.proofs.inertias.less_outer.Goals as goal

pub returns-in-Some-clause-encloses : goal.returns-in-Some-clause-encloses
returns-in-Some-clause-encloses c = less_outer_encloses c.args.i.now c.args.u.now c.args.w.now (Ok _) (search rules)
