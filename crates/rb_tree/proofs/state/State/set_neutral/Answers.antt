use Rattle.std.proofs.Common.{◌≡◌, ◌∙◌, ℕ, sym, ap, arith, replicate, length}
use Rattle.std.specs.Vec.{with_items}
use Rattle.std.proofs.lemmas.List.{with_items_is}
use Rattle.rb_num.specs.Interval.{zero_interval}
use Rattle.rb_tree.specs.State.{Row, neutral_position, neutral_under}
use Rattle.rb_tree.proofs.StateLaws.{neutral_row}
use Rattle.rb_tree.proofs.state.State.set_neutral.Goals as goal

pub returns-clause-exact : goal.returns-clause-exact
unfolding neutral_under
returns-clause-exact c =
    let s = c.self.inside in
    let zeros = λ (n : ℕ). replicate n zero_interval in
    let q : (with_items s.q c.put_neutral.new.q).items ≡ neutral_position c.args.robot.now.bodies = with_items_is s.q c.put_neutral.new.q (omega arith) ∙ (c.put_neutral.ensures ∙ ap neutral_position c.body_list.ensures.bodies) in
    let v = with_items_is s.v c.put_zeros.new.numbers (omega arith) ∙ (c.put_zeros.ensures ∙ ap zeros (ap length c.as_mut_slice-2.ensures.value ∙ (ap (λ (r : Row). length r.v) c.self.view_is ∙ c.requires.v))) in
    let a = with_items_is s.a c.put_zeros-2.new.numbers (omega arith) ∙ (c.put_zeros-2.ensures ∙ ap zeros (ap length c.as_mut_slice-3.ensures.value ∙ (ap (λ (r : Row). length r.a) c.self.view_is ∙ c.requires.a))) in
    let tau = with_items_is s.tau c.put_zeros-3.new.numbers (omega arith) ∙ (c.put_zeros-3.ensures ∙ ap zeros (ap length c.as_mut_slice-4.ensures.value ∙ (ap (λ (r : Row). length r.tau) c.self.view_is ∙ c.requires.tau))) in
    let gravity = ap (λ (r : Row). r.gravity) c.self.view_is in
    λ i. record { q = q i; v = v i; a = a i; tau = tau i; gravity = gravity i }

pub invariant_of-self : goal.invariant_of-self
invariant_of-self c = neutral_row c.args.self.now.gravity c.args.robot.now _ (rw (ap (λ (r : Row). r.gravity) (sym c.self.view_is)) c.self.invariant.gravity_ordered) (returns-clause-exact c)
