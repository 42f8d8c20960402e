use Rattle.std.proofs.Common.{◌≡◌, ◌<◌, List, length, get_or, Some, refl, sym, ◌∙◌, ap, arith}
use Rattle.std.proofs.lemmas.Option.{slice_get_read}
use Rattle.rb_urdf.specs.declared.robot.UrdfJoint.{UrdfJoint}
use Rattle.rb_urdf.specs.declared.robot.UrdfLink.{UrdfLink}
use Rattle.rb_urdf.specs.Robot.{Robot}
use Rattle.rb_tree.specs.declared.order.Stem.{Stem}
use Rattle.rb_tree.specs.Sizes.{bearer_of}
use Rattle.rb_tree.specs.Build.{IsPair}
use Rattle.rb_tree.proofs.Borne.{followed_there}
use Rattle.rb_tree.proofs.MakingLaws.{body_made, refused_by}
use Rattle.rb_tree.proofs.build.body_at.Goals as goal

-- the link and the joint that are read
pair_read : (robot : Robot) (root : UrdfJoint) (stem : Stem) (links : List UrdfLink) (joints : List UrdfJoint) (link : UrdfLink) (joint : UrdfJoint) → links ≡ robot.links → joints ≡ robot.joints
    → stem.link < length robot.links → link ≡ get_or links stem.link link → bearer_of root joints stem.joint ≡ Some joint → IsPair robot root stem link joint
pair_read robot root stem links joints link joint el ej low read bears = record {
  link_is = rw (← el) (slice_get_read links (length links) stem.link link refl (omega (arith, ap (length {A = UrdfLink}) el, low)) read);
  joint_is = rw (← ej) bears;
}

pub mimic_of-mimic-requires-clause-borne : goal.mimic_of-mimic-requires-clause-borne
mimic_of-mimic-requires-clause-borne c =
    followed_there c.args.urdf.now c.args.root.now c.args.order.now c.requires.ordered c.joints.ensures.kept c.requires.leads c.args.stem.now c.in-Some.joint.now
    (rw (← (c.as_slice-2.ensures ∙ c.joints.ensures.same)) (sym c.in-Some.ensures))

pub returns-clause-ok : goal.returns-clause-ok
returns-clause-ok c =
    let link = c.index-as_slice-stem.result in
    let joint = c.in-Some.joint.now in
    let pair =
    pair_read c.args.urdf.now c.args.root.now c.args.stem.now c.as_slice.result.now c.as_slice-2.result.now link joint (c.as_slice.ensures ∙ c.links.ensures)
    (c.as_slice-2.ensures ∙ c.joints.ensures.same) c.requires.there.link c.index-as_slice-stem.is (sym c.in-Some.ensures) in
    body_made c.args.urdf.now c.args.root.now c.args.order.now c.args.stem.now link joint c.mimic_of-mimic.result pair c.body_of.result c.mimic_of-mimic.ensures.follows c.mimic_of-mimic.ensures.ordered
    c.body_of.ensures.parent c.body_of.ensures.mimic c.body_of.ensures.made c.body_of.ensures.kept c.body_of.ensures.kind

pub returns-clause-err : goal.returns-clause-err
returns-clause-err c =
    let link = c.index-as_slice-stem.result in
    let joint = c.in-Some.joint.now in
    let pair =
    pair_read c.args.urdf.now c.args.root.now c.args.stem.now c.as_slice.result.now c.as_slice-2.result.now link joint (c.as_slice.ensures ∙ c.links.ensures)
    (c.as_slice-2.ensures ∙ c.joints.ensures.same) c.requires.there.link c.index-as_slice-stem.is (sym c.in-Some.ensures) in
    refused_by c.args.urdf.now c.args.root.now c.args.order.now c.args.stem.now link joint c.mimic_of-mimic.result pair c.body_of.result c.body_of.ensures.err
