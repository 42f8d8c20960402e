use Rattle.rb_spatial.proofs.Outer.{less_outer-times}
use Rattle.rb_spatial.proofs.laws.outer_product.Goals as goal

pub returns : goal.returns
returns c = less_outer-times
