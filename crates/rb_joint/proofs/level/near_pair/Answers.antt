use Rattle.rb_joint.proofs.level.near_pair.Goals as goal

pub returns : goal.returns
returns c = c.sum.ensures.sum _ (c.with-2.ensures.sums _ (c.with.ensures.sums _ c.none.ensures.sums))
