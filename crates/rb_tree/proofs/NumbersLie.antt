-- The numbers of a choice lie in those of the robot, body by body.
use Rattle.std.proofs.Common.{◌≡◌, ℕ, Option, Some, sym, ap, subst}
use Rattle.std.specs.Option.{option_map_or}
use Rattle.rb_frac.specs.Spatial.{BodyInertias}
use Rattle.rb_num.specs.Fraction.{LiesIn}
use Rattle.rb_flat.specs.Body.{chosen_inertia}
use Rattle.rb_flat.specs.Choice.{Choice, IsChoice, LinkChosen, EntriesChosen, MimicBrackets, FollowsMaster}
use Rattle.rb_joint.specs.declared.any.AnyJoint.{AnyJoint}
use Rattle.rb_joint.specs.Any.{IsOfModel}
use Rattle.rb_body.specs.Raw.{link_brackets}
use Rattle.rb_tree.specs.declared.robot.Body.{Body}
use Rattle.rb_tree.specs.Numbers.{joint_at, inertia_at, no_inertia}
use Rattle.rb_tree.specs.Robot.{Tree, HasBody, AreBodies}
use Rattle.rb_tree.specs.Shape.{master_at, no_link, following_at, brackets_of}
use Rattle.rb_tree.specs.State.{Row, state_brackets}
use Rattle.rb_tree.proofs.Shapes.{body_there, kept_at, encloses_inertia}
use Rattle.rb_tree.proofs.PlaceEncloses.{model_at, mimic_same}

module _ (tree : Tree) (row : Row) (c : Choice) (chosen : IsChoice (brackets_of tree) (state_brackets row) c) where
  pub multiplier_lies : (i master : ℕ) → HasBody tree i → master_at tree.bodies i ≡ Some master → LiesIn (c.joint i).multiplier (following_at tree.bodies i).multiplier
  multiplier_lies i master has e =
      let b = chosen.bodies i (record { from = has.from; to = has.to }) in
      let f : FollowsMaster (c.joint i) (c.joint master) ((brackets_of tree).mimic i) = subst (λ (m : Option ℕ). EntriesChosen (brackets_of tree) (state_brackets row) c i m) e b.entries in
      subst (λ (z : MimicBrackets). LiesIn (c.joint i).multiplier z.multiplier) (mimic_same tree i) f.multiplier

module _ (tree : Tree) (row : Row) (kept : AreBodies tree.bodies) (c : Choice) (chosen : IsChoice (brackets_of tree) (state_brackets row) c) where
  pub model_of : (i : ℕ) → HasBody tree i → IsOfModel (joint_at tree.bodies i) (c.joint i)
  model_of i has =
      let m = model_at tree row kept c chosen i has in
      subst (λ (j : AnyJoint). IsOfModel j (c.joint i)) (sym m.is) (m.encloses.choice (c.joint i) m.numbers)

  pub inertia_lies : (i : ℕ) → HasBody tree i → BodyInertias LiesIn (chosen_inertia (c.link i)) (inertia_at tree.bodies i)
  inertia_lies i has =
      let there = body_there tree.bodies i has.from has.to in
      let body = there.0 in
      let b = chosen.bodies i (record { from = has.from; to = has.to }) in
      let link : LinkChosen (c.link i) (link_brackets body.link_raw) =
      subst (λ (o : Option Body). LinkChosen (c.link i) (option_map_or (λ (b : Body). link_brackets b.link_raw) o no_link)) there.1 b.link in
      let is : inertia_at tree.bodies i ≡ body.inertia = ap (λ (o : Option Body). option_map_or (λ (b : Body). b.inertia) o no_inertia) there.1 in
      rw is ((encloses_inertia body (kept_at tree.bodies i body kept.kept there.1)).at (c.link i) link)
