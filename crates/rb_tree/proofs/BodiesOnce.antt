-- The bodies of a robot, from the root that a joint bears, are one list.
use Rattle.std.proofs.Common.{◌≡◌, List, [], ◌∷◌, sym, ◌∙◌, ap, subst, refl}
use Rattle.std.specs.List.{AllZip}
use Rattle.std.proofs.lemmas.Option.{same_Some}
use Rattle.rb_joint.specs.declared.any.AnyJoint.{AnyJoint}
use Rattle.rb_body.specs.declared.raw.JointRaw.{JointRaw}
use Rattle.rb_urdf.specs.declared.robot.UrdfJoint.{UrdfJoint}
use Rattle.rb_urdf.specs.declared.robot.UrdfLink.{UrdfLink}
use Rattle.rb_urdf.specs.Robot.{Robot, IsRobot}
use Rattle.rb_tree.specs.declared.order.Stem.{Stem}
use Rattle.rb_tree.specs.declared.robot.Body.{Body}
use Rattle.rb_tree.specs.Order.{IsOrder}
use Rattle.rb_tree.specs.Parts.{IsMadeOf}
use Rattle.rb_tree.specs.Build.{IsPair, Follows, IsBody, AreBuilt}
use Rattle.rb_result.proofs.Results.{same_ok}
use Rattle.rb_tree.proofs.ListLaws.{same_item}
use Rattle.rb_tree.proofs.Borne.{one_mimic}
use Rattle.rb_tree.proofs.OneOrder.{one_order}

-- the link and the joint of a body
pub one_link : (robot : Robot) (root : UrdfJoint) (stem : Stem) (l m : UrdfLink) (j k : UrdfJoint) → IsPair robot root stem l j → IsPair robot root stem m k → l ≡ m
one_link robot root stem l m j k p q = same_item robot.links stem.link stem.link l m refl p.link_is q.link_is

pub one_joint : (robot : Robot) (root : UrdfJoint) (stem : Stem) (l m : UrdfLink) (j k : UrdfJoint) → IsPair robot root stem l j → IsPair robot root stem m k → j ≡ k
one_joint robot root stem l m j k p q = same_Some j k (sym p.joint_is ∙ q.joint_is)

-- one link, joint, parent and mimic make one body
made_once : (link : UrdfLink) (joint : UrdfJoint) (a b : Body) → IsMadeOf link joint a → IsMadeOf link joint b → a.parent ≡ b.parent → a.mimic ≡ b.mimic → a ≡ b
made_once link joint a b p q parents mimics =
    let pairs = same_ok (a.joint, a.joint_raw) (b.joint, b.joint_raw) (sym p.model ∙ q.model) in
    let models = ap (λ (m : AnyJoint × JointRaw). m.0) pairs in
    let raws = ap (λ (m : AnyJoint × JointRaw). m.1) pairs in
    let inertias : a.inertia ≡ b.inertia = let h = sym p.inertia ∙ q.inertia in cc in
    let link_names = p.link_name ∙ sym q.link_name in
    let joint_names = p.joint_name ∙ sym q.joint_name in
    let link_raws = p.link_raw ∙ sym q.link_raw in
    λ i. record {
      parent = parents i;
      joint = models i;
      inertia = inertias i;
      link_name = link_names i;
      joint_name = joint_names i;
      link_raw = link_raws i;
      joint_raw = raws i;
      mimic = mimics i;
    }

pub one_body : (robot : Robot) (root : UrdfJoint) (order : List Stem) → IsOrder robot order → (stem : Stem) (a b : Body) → IsBody robot root order stem a → IsBody robot root order stem b → a ≡ b
one_body robot root order o stem a b p q =
    let l = one_link robot root stem q.link p.link q.joint p.joint q.pair p.pair in
    let j = one_joint robot root stem q.link p.link q.joint p.joint q.pair p.pair in
    let L : UrdfLink → Type 0 = λ link. IsMadeOf link q.joint b in
    let J : UrdfJoint → Type 0 = λ joint. IsMadeOf p.link joint b in
    let F : UrdfJoint → Type 0 = λ joint. Follows order joint.mimic b.mimic in
    let mimics = one_mimic robot order o p.joint.mimic a.mimic b.mimic p.follows (subst F j q.follows) in
    made_once p.link p.joint a b p.made (subst J j (subst L l q.made)) (p.parent ∙ sym q.parent) mimics

one_list : {A B : Type 0} (R : A → B → Type 0) → ((x : A) (a b : B) → R x a → R x b → a ≡ b) → (xs : List A) (ys zs : List B) → AllZip R xs ys → AllZip R xs zs → ys ≡ zs
one_list R f [] [] [] p q = refl
one_list R f [] [] (b ∷ zs) p q = absurd q
one_list R f [] (a ∷ ys) zs p q = absurd p
one_list R f (x ∷ xs) [] zs p q = absurd p
one_list R f (x ∷ xs) (a ∷ ys) [] p q = absurd q
one_list R f (x ∷ xs) (a ∷ ys) (b ∷ zs) p q =
    let e = f x a b p.0 q.0 in
    let es = one_list R f xs ys zs p.1 q.1 in
    cc

pub bodies_once : (robot : Robot) (root : UrdfJoint) (a b : List Body) → IsRobot robot.links robot.joints → AreBuilt robot root a → AreBuilt robot root b → a ≡ b
bodies_once robot root a b file p q =
    let o = one_order robot q.order p.order file q.ordered p.ordered in
    let E : List Stem → Type 0 = λ order. AllZip (IsBody robot root order) order b in
    one_list (IsBody robot root p.order) (one_body robot root p.order p.ordered) p.order a b p.each (subst E o q.each)
