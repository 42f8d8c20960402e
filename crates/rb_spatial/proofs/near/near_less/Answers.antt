use Rattle.rb_spatial.proofs.near.near_less.Goals as goal

pub returns : goal.returns
returns c = c.sum.ensures.sum _ (c.plus.ensures.sums _ (c.less.ensures.sums _ c.none.ensures.sums))
