-- A robot that is read is the one that the tags describe, and it keeps what each robot keeps.
use Rattle.std.proofs.Common.{◌≡◌, ◌≢◌, ℕ, ◌<◌, ◌≤◌, Bool, true, false, cond, List, [], ◌∷◌, length, map, Option, Some, None, Result, Ok, Err, refl, sym, ◌∙◌, subst, arith, true≢false}
use Rattle.std.specs.Prelude.{codes, bytes_eq, find}
use Rattle.std.specs.List.{AllZip, AllByRecursion}
use Rattle.std.proofs.lemmas.Bool.Decides.{Decides-eqb}
use Rattle.std.proofs.lemmas.Slice.Eq.{bytes_eq-Decides, starts_is}
use Rattle.std.proofs.lemmas.Slice.Zip.{AllZip-long}
use Rattle.std.proofs.lemmas.List.{length-map}
use Rattle.std.proofs.lemmas.Option.{slice_get_within}
use Rattle.rb_tags.specs.declared.tag.Tag.{Tag}
use Rattle.rb_urdf.specs.declared.robot.UrdfKind.{UrdfKind}
use Rattle.rb_urdf.specs.declared.robot.UrdfKind.TheVariants.{Fixed, Revolute, Prismatic, Continuous, Planar, Floating}
use Rattle.rb_urdf.specs.declared.robot.UrdfLink.{UrdfLink}
use Rattle.rb_urdf.specs.declared.robot.UrdfMimic.{UrdfMimic}
use Rattle.rb_urdf.specs.declared.robot.UrdfJoint.{UrdfJoint}
use Rattle.rb_urdf.specs.declared.faults.UrdfFault.{UrdfFault}
use Rattle.rb_urdf.specs.declared.faults.UrdfFaultKind.TheVariants.{NoRobot}
use Rattle.rb_urdf.specs.declared.joint.Draft.{Draft}
use Rattle.rb_urdf.specs.Faults.{fault_at}
use Rattle.rb_urdf.specs.Robot.{Robot, plane_axis, IsLinkKept, IsJointKept, IsRobot, names_of_links, names_of_joints}
use Rattle.rb_tags.specs.Elements.{Element, element_of, is_child, elements, child}
use Rattle.rb_urdf.specs.Names.{name_of}
use Rattle.rb_urdf.specs.Links.{links_after}
use Rattle.rb_urdf.specs.Joints.{drafts_after, names_of_drafts}
use Rattle.rb_urdf.specs.Mimics.{head_of, joint_of, joints_of}
use Rattle.rb_urdf.specs.Urdf.{is_xacro, plain_but, plain_tags, robot_with, robot_of, urdf_of}
use Rattle.rb_urdf.specs.Profile.{IsLink, IsJoint, NamesLink, SaysAxis, kind_of_type, IsXacro, IsUrdf}
use Rattle.rb_urdf.proofs.NameLaws.{name-says}
use Rattle.rb_urdf.proofs.LinkLaws.{links-say}
use Rattle.rb_urdf.proofs.DraftLaws.{IsDraft, drafts-say}
use Rattle.rb_urdf.proofs.MimicLaws.{IsSettled, joints-say, joint-says, names-kept}
use Rattle.rb_urdf.proofs.Zips.{each-right, each-map, chained}
use Rattle.rb_result.proofs.Results.{then-ok, placed-ok}
use Rattle.rb_result.specs.Steps.{placed}
use Rattle.rb_tags.specs.declared.tag.TheConstants.{MAX_TAGS}
use Rattle.rb_tags.specs.Names.{AreDifferent}
use Rattle.rb_tags.proofs.Different.{differ-none}

-- the links and the joints that were read
pub record PartsRead (tags : List Tag) (links : List UrdfLink) (joints : List UrdfJoint) : Type 0 where
  pub links_are : AllZip IsLink (elements (codes "link") 1 tags) links
  pub links_differ : AreDifferent (names_of_links links)
  pub joints_are : AllZip (IsJoint links joints) (elements (codes "joint") 1 tags) joints
  pub joints_differ : AreDifferent (names_of_joints joints)

pub parts-say : (tags : List Tag) (links : List UrdfLink) (drafts : List Draft) (joints : List UrdfJoint) → links_after [] (elements (codes "link") 1 tags) ≡ Ok links → drafts_after (names_of_links links) [] (elements (codes "joint") 1 tags) ≡ Ok drafts → joints_of drafts ≡ Ok joints → PartsRead tags links joints
unfolding joints_of joint_of
parts-say tags links drafts joints l d j =
    let ls = links-say [] (elements (codes "link") 1 tags) links differ-none l in
    let ds = drafts-say links [] (elements (codes "joint") 1 tags) drafts differ-none d in
    let js = joints-say (names_of_drafts drafts) (map head_of drafts) [] drafts joints j in
    let read : AllZip (IsDraft links) (elements (codes "joint") 1 tags) drafts = subst (λ ds. AllZip (IsDraft links) (elements (codes "joint") 1 tags) ds) (sym ds.are) ds.each in
    let settled : AllZip (IsSettled (names_of_drafts drafts) (map head_of drafts)) drafts joints = subst (λ js. AllZip (IsSettled (names_of_drafts drafts) (map head_of drafts)) drafts js) (sym js.are) js.each in
    record {
      links_are = subst (λ ls. AllZip IsLink (elements (codes "link") 1 tags) ls) (sym ls.are) ls.each;
      links_differ = ls.differ;
      joints_are = chained (λ e d j r s. joint-says links (elements (codes "joint") 1 tags) drafts joints read settled e d.joint d.follow j r s) (elements (codes "joint") 1 tags) drafts joints read settled;
      joints_differ = subst AreDifferent (names-kept links (elements (codes "joint") 1 tags) drafts joints settled) ds.differ;
    }

-- what a robot keeps

few-elements : (name : List ℕ) (around : ℕ) (tags : List Tag) → length (elements name around tags) ≤ length tags
unfolding elements
few-elements name around [] = omega arith
few-elements name around (tag ∷ tags) = by (is_child name around tag) (few-elements name around tags)
  where
    by : (b : Bool) → length (elements name around tags) ≤ length tags → length (cond b (element_of tag tags ∷ elements name around tags) (elements name around tags)) ≤ length (tag ∷ tags)
    by true h = omega arith
    by false h = omega arith

within : (links : List UrdfLink) (element : Option Element) (number : ℕ) → NamesLink links element number → number < length links
within links element number h = omega (arith, slice_get_within (names_of_links links) number h.name h.link, length-map links (λ link. link.name))

planar-axis : (type kind : UrdfKind) (mimic : Option UrdfMimic) (axis : Option Element) (v : List _) → kind ≡ kind_of_type type mimic → kind ≡ Planar → SaysAxis type axis v → v ≡ plane_axis
planar-axis Planar kind mimic axis v k p s = s.1
planar-axis Fixed kind None axis v k p s = absurd cc
planar-axis Fixed kind (Some m) axis v k p s = absurd cc
planar-axis Floating kind None axis v k p s = absurd cc
planar-axis Floating kind (Some m) axis v k p s = absurd cc
planar-axis Revolute kind None axis v k p s = absurd cc
planar-axis Revolute kind (Some m) axis v k p s = absurd cc
planar-axis Prismatic kind None axis v k p s = absurd cc
planar-axis Prismatic kind (Some m) axis v k p s = absurd cc
planar-axis Continuous kind None axis v k p s = absurd cc
planar-axis Continuous kind (Some m) axis v k p s = absurd cc

joint-kept : (links : List UrdfLink) (joints : List UrdfJoint) (element : Element) (joint : UrdfJoint) → IsJoint links joints element joint → IsJointKept links joints joint
joint-kept links joints element joint h = record {
  parent = within links _ joint.parent h.parent;
  child = within links _ joint.child h.child_link;
  planar = λ p. planar-axis h.type joint.kind joint.mimic (child (codes "axis") element) joint.axis h.kind p h.axis;
  follows = h.follows;
}

pub robot-kept : (tags : List Tag) (links : List UrdfLink) (joints : List UrdfJoint) → length tags ≤ MAX_TAGS → PartsRead tags links joints → IsRobot links joints
robot-kept tags links joints few p =
    let ls = elements (codes "link") 1 tags in
    let js = elements (codes "joint") 1 tags in
    record {
      few_links = omega (arith, AllZip-long IsLink ls links p.links_are, few-elements (codes "link") 1 tags);
      few_joints = omega (arith, AllZip-long (IsJoint links joints) js joints p.joints_are, few-elements (codes "joint") 1 tags);
      link_names = record { given = each-map (λ link. link.name) (λ name. name ≢ []) links (each-right IsLink (λ link. link.name ≢ []) (λ e link h. h.name.given) ls links p.links_are); differ = p.links_differ };
      joint_names = record { given = each-map (λ joint. joint.name) (λ name. name ≢ []) joints (each-right (IsJoint links joints) (λ joint. joint.name ≢ []) (λ e joint h. h.name.given) js joints p.joints_are); differ = p.joints_differ };
      masses = each-right IsLink IsLinkKept (λ e link h. h.inertial.not_negative) ls links p.links_are;
      fits = each-right (IsJoint links joints) (IsJointKept links joints) (λ e joint h. joint-kept links joints e joint h) js joints p.joints_are;
    }

-- no name begins with xacro:

pub plain : (tag : Tag) → is_xacro tag ≡ false → ¬ IsXacro tag
unfolding is_xacro
plain tag h = λ x.
    let s = starts_is Decides-eqb tag.name (codes "xacro:") (is_xacro tag) refl in
    true≢false (sym (s.1 x.0 x.1) ∙ h)

none-found : (tags : List Tag) → find is_xacro tags ≡ None → AllByRecursion (λ tag. ¬ IsXacro tag) tags
none-found [] h = tt
none-found (tag ∷ tags) h = by (is_xacro tag) refl h (none-found tags)
  where
    by : (b : Bool) → is_xacro tag ≡ b → cond b (Some tag) (find is_xacro tags) ≡ None → (find is_xacro tags ≡ None → AllByRecursion (λ tag. ¬ IsXacro tag) tags) → AllByRecursion (λ tag. ¬ IsXacro tag) (tag ∷ tags)
    by false e h rest = (plain tag e, rest h)
    by true e h rest = absurd cc

plain-none : (found : Option Tag) (tags some : List Tag) → plain_but found tags ≡ Ok some → found ≡ None
plain-none None tags some h = refl
plain-none (Some tag) tags some h = absurd cc

pub sound : (tags : List Tag) (robot : Robot) → urdf_of tags ≡ Ok robot → IsUrdf tags robot
unfolding urdf_of robot_of robot_with plain_tags
sound [] robot h = absurd cc
sound (root ∷ tags) robot h = by (bytes_eq root.name (codes "robot")) refl h
  where
    ok-same : (x y : Robot) → (let ok : Result Robot UrdfFault = Ok x in ok) ≡ Ok y → x ≡ y
    ok-same x y e = cc

    by : (b : Bool) → bytes_eq root.name (codes "robot") ≡ b → cond b (robot_of root tags) (Err (fault_at NoRobot root.place)) ≡ Ok robot → IsUrdf (root ∷ tags) robot
    by false e h = absurd cc
    by true e h =
        let a = then-ok (plain_tags (root ∷ tags)) _ robot h in
        let b = then-ok (placed fault_at root.place (name_of (element_of root tags))) _ robot a.2 in
        let c = then-ok (links_after [] (elements (codes "link") 1 tags)) _ robot b.2 in
        let d = then-ok (drafts_after (names_of_links c.0) [] (elements (codes "joint") 1 tags)) _ robot c.2 in
        let j = then-ok (joints_of d.0) _ robot d.2 in
        let made : record { name = b.0; place = root.place; links = c.0; joints = j.0 } ≡ robot = ok-same _ robot j.2 in
        let p = parts-say tags c.0 d.0 j.0 c.1 d.1 j.1 in
        subst (IsUrdf (root ∷ tags)) made (record {
          root = root;
          behind = tags;
          tags_are = refl;
          root_name = (bytes_eq-Decides root.name (codes "robot")).0 e;
          plain = none-found (root ∷ tags) (plain-none (find is_xacro (root ∷ tags)) (root ∷ tags) a.0 a.1);
          name = name-says (element_of root tags) b.0 (placed-ok fault_at root.place (name_of (element_of root tags)) b.0 b.1);
          place = refl;
          links = p.links_are;
          link_names_differ = p.links_differ;
          joints = p.joints_are;
          joint_names_differ = p.joints_differ;
        })
