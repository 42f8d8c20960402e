use Rattle.std.proofs.Common.{rules, Ok}
use Rattle.rb_spatial.proofs.Enclosure.{upper_product_encloses}
use Rattle.rb_spatial.proofs.carrying.upper_product.Goals as goal

pub returns-in-Some-clause-encloses : goal.returns-in-Some-clause-encloses
returns-in-Some-clause-encloses c = upper_product_encloses c.args.s.now c.args.columns.now (Ok _) (search rules)
