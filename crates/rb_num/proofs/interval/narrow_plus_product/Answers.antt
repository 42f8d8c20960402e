use Rattle.rb_num.proofs.interval.narrow_plus_product.Goals as goal

pub returns : goal.returns
returns c = c.sum.ensures.sum _ (c.plus.ensures.sums _ (c.with.ensures.sums _ c.none.ensures.sums))
