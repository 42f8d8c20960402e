use Rattle.std.proofs.Common.{◌≡◌, ◌<◌, ℕ, Bool, true, IsTrue, ◌↔◌, List, length, get_or, below_more, sym, ◌∙◌, subst}
use Rattle.std.specs.List.{Any}
use Rattle.rb_urdf.specs.declared.robot.UrdfJoint.{UrdfJoint}
use Rattle.rb_tree.specs.declared.order.Stem.{Stem}
use Rattle.rb_tree.specs.Grow.{HasLink, parent_link, child_link}
use Rattle.rb_tree.proofs.Answered.{holds, fails}
use Rattle.rb_tree.proofs.Stems.{placed_from_any, any_from_placed, up_read, down_read}
use Rattle.rb_tree.proofs.grow.free_joint.Goals as goal
use Rattle.rb_tree.proofs.grow.free_joint.Goals.{else-joint-link-via-then-joint-link+else-not-is_placed, else-joint-link-via-else-joint-link}

pub returns-then-not-is_placed : goal.returns-then-not-is_placed
returns-then-not-is_placed c =
    let stems = c.args.stems.now in
    let joint = c.index-joints-number.result in
    let P : ℕ → Type 0 = λ link. HasLink stems link in
    let down_is = down_read c.args.joints.now c.loop-number.number joint c.loop-number-test.true c.index-joints-number.is in
    record {
      within = c.loop-number-test.true;
      starts = up_read c.args.joints.now c.loop-number.number joint c.loop-number-test.true c.index-joints-number.is ∙ c.if-joint-link.true;
      free = λ placed. fails c.is_placed.result (Any (λ stem. stem.link ≡ joint.child) stems) c.is_placed.ensures c.if-not-is_placed.true
          (any_from_placed stems joint.child (subst P down_is placed));
      first = c.loop-number.invariant;
    }

placed_behind : (joints : List UrdfJoint) (stems : List Stem) (number : ℕ) (joint : UrdfJoint) (b : Bool) → number < length joints →
    joint ≡ get_or joints number joint → (IsTrue b ↔ Any (λ stem. stem.link ≡ joint.child) stems) → b ≡ true → HasLink stems (child_link joints number)
placed_behind joints stems number joint b within is says h =
    let P : ℕ → Type 0 = λ link. HasLink stems link in
    subst P (sym (down_read joints number joint within is)) (placed_from_any stems joint.child (holds b (Any (λ stem. stem.link ≡ joint.child) stems) says h))

pub loop-number-preserved : goal.loop-number-preserved
loop-number-preserved c =
    let joints = c.args.joints.now in
    let stems = c.args.stems.now in
    let number = c.loop-number.number in
    let joint = c.index-joints-number.result in
    below_more (λ j. parent_link joints j ≡ c.args.link → HasLink stems (child_link joints j)) number c.loop-number.invariant
    (λ starts. elim c.else-joint-link.branch [
      | else-joint-link-via-then-joint-link+else-not-is_placed w ↦
          placed_behind joints stems number joint w.is_placed.result c.loop-number-test.true c.index-joints-number.is w.is_placed.ensures w.if-not-is_placed.false
      | else-joint-link-via-else-joint-link w ↦
          absurd (w.if-joint-link.false (sym (up_read joints number joint c.loop-number-test.true c.index-joints-number.is) ∙ starts))
    ])
