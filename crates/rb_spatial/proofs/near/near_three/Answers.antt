use Rattle.rb_spatial.proofs.near.near_three.Goals as goal

pub returns : goal.returns
returns c = c.sum.ensures.sum _ (c.with-2.ensures.sums _ (c.with.ensures.sums _ (c.less.ensures.sums _ c.none.ensures.sums)))
