use Rattle.rb_flat.specs.Choice.{AreOrdered}
use Rattle.rb_tree.proofs.StateLaws.{with_gravity}
use Rattle.rb_tree.proofs.state.State.set_gravity.Goals as goal

pub invariant_of-self : goal.invariant_of-self
invariant_of-self c =
    let s = c.self.inside in
    let ordered : AreOrdered c.args.g = record { x = rw (← c.x.ensures) c.lo.ensures.bounds.ordered; y = rw (← c.y.ensures) c.lo-2.ensures.bounds.ordered; z = rw (← c.z.ensures) c.lo-3.ensures.bounds.ordered } in
    with_gravity s.q.items s.v.items s.a.items s.tau.items s.gravity c.self.invariant c.args.g ordered
