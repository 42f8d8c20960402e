use Rattle.rb_trig.proofs.Short.{short_ordered, short_ends}
use Rattle.rb_trig.proofs.sine.Series.short_nested.Goals as goal

pub turned-requires-clause-ordered : goal.turned-requires-clause-ordered
turned-requires-clause-ordered c = short_ordered _ _ _ _ _ _ c.requires.square c.loop-k.invariant

pub new-requires : goal.new-requires
new-requires c = (short_ends _ _ _ _ _ _ c.requires.square c.loop-k.invariant).whole

pub new-requires-2 : goal.new-requires-2
new-requires-2 c = (short_ends _ _ _ _ _ _ c.requires.square c.loop-k.invariant).whole
