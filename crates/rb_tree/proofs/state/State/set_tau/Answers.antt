use Rattle.rb_tree.proofs.StateLaws.{with_tau}
use Rattle.rb_tree.proofs.state.State.set_tau.Goals as goal

pub invariant_of-self : goal.invariant_of-self
invariant_of-self c = let s = c.self.inside in with_tau s.q.items s.v.items s.a.items s.tau.items s.gravity c.self.invariant c.args.k c.args.iv c.lo-bounds.ensures.bounds.ordered
