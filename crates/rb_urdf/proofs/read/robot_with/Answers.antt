use Rattle.std.proofs.Common.{[], subst, sym, ◌≡◌, ◌≢◌, Ok}
use Rattle.std.specs.Prelude.{codes}
use Rattle.rb_tags.specs.Elements.{elements}
use Rattle.rb_urdf.specs.Joints.{drafts_after}
use Rattle.rb_urdf.proofs.SoundLaws.{parts-say, robot-kept}
use Rattle.rb_urdf.proofs.read.robot_with.Goals as goal

pub invariant_of-result : goal.invariant_of-result
invariant_of-result c = (
  subst (λ name. name ≢ []) (sym c.in_ok-copy.ensures) c.requires.given,
  robot-kept c.args.tags.now c.in_ok-links.links.items c.in_ok-joints.joints.items c.requires.few
      (parts-say c.args.tags.now c.in_ok-links.links.items c.in_ok-drafts.drafts.items c.in_ok-joints.joints.items
      c.in_ok-links.ensures.gives
      (subst (λ names. drafts_after names [] (elements (codes "joint") 1 c.args.tags.now) ≡ Ok c.in_ok-drafts.drafts.items) c.in_ok-links.ensures.names c.in_ok-drafts.ensures.gives)
      c.in_ok-joints.ensures),
)
