use Rattle.rb_work.proofs.work.Work.mass.Goals as goal

pub M-requires-clause-pair : goal.M-requires-clause-pair
M-requires-clause-pair c = rw (← c.max.ensures, ← c.min.ensures) ((c.is_on.ensures.on).0 c.if-is_on.true)
