use Rattle.std.proofs.Common.{rules, Ok}
use Rattle.rb_spatial.proofs.Enclosure.{product_encloses}
use Rattle.rb_spatial.proofs.carrying.product.Goals as goal

pub returns-in-Some-clause-encloses : goal.returns-in-Some-clause-encloses
returns-in-Some-clause-encloses c = product_encloses c.args.s.now c.args.t.now (Ok _) (search rules)
