-- Tags are refused as the refusals say.
use Rattle.std.proofs.Common.{◌≡◌, ◌≢◌, ◌⊎◌, ℕ, Bool, true, false, not, cond, List, [], ◌∷◌, ◌++◌, Some, Result, Ok, Err, inl, inr, refl, sym, ap, ◌∙◌, subst, true≢false}
use Rattle.std.specs.Prelude.{codes, bytes_eq, find}
use Rattle.std.specs.List.{AllZip}
use Rattle.std.proofs.lemmas.Bool.Decides.{Decides-eqb}
use Rattle.std.proofs.lemmas.Slice.Eq.{bytes_eq-Decides, starts_is}
use Rattle.rb_tags.specs.declared.tag.Tag.{Tag}
use Rattle.rb_tags.specs.Elements.{element_of, elements}
use Rattle.rb_tags.proofs.Different.{differ-none}
use Rattle.rb_result.specs.Steps.{placed}
use Rattle.rb_urdf.specs.declared.faults.UrdfFault.{UrdfFault}
use Rattle.rb_urdf.specs.declared.faults.UrdfFaultKind.TheVariants.{NoRobot, Xacro}
use Rattle.rb_urdf.specs.Faults.{fault_at}
use Rattle.rb_urdf.specs.Robot.{Robot, names_of_links}
use Rattle.rb_urdf.specs.Names.{name_of}
use Rattle.rb_urdf.specs.Links.{links_after}
use Rattle.rb_urdf.specs.Joints.{drafts_after}
use Rattle.rb_urdf.specs.Mimics.{joints_of}
use Rattle.rb_urdf.specs.Urdf.{is_xacro, plain_but, plain_tags, robot_with, robot_of, urdf_of}
use Rattle.rb_urdf.specs.Profile.{IsLink, IsXacro, IsUrdf}
use Rattle.rb_urdf.specs.Refusals.{link_refusals, joint_refusals, mimic_refusals, in_order, part_refusals, xacro_refusals, refusals, HasFault}
use Rattle.rb_tags.specs.InOrder.{◌when◌}
use Rattle.rb_urdf.proofs.LinkLaws.{links-say}
use Rattle.rb_urdf.proofs.DraftLaws.{IsDraft, drafts-say}
use Rattle.rb_urdf.proofs.SoundLaws.{plain}
use Rattle.rb_urdf.proofs.CompleteLaws.{complete}
use Rattle.rb_tags.proofs.Obeying.{Obeys, obeys-ok, obeys-none, obeys-then, obeys-next, obeys-value, obeys-unless, obeys-placed, first-once, none-first}
use Rattle.rb_urdf.proofs.ObeyedLinks.{name-obeys, links-obey}
use Rattle.rb_urdf.proofs.ObeyedJoints.{drafts-obey}
use Rattle.rb_urdf.proofs.ObeyedMimics.{joints-obey}

-- names that begin with xacro:

xacro-name : (tag : Tag) → is_xacro tag ≡ true → IsXacro tag
unfolding is_xacro
xacro-name tag h = (_, (starts_is Decides-eqb tag.name (codes "xacro:") (is_xacro tag) refl).0 h)

plain-obeys : (tags all : List Tag) → Obeys (xacro_refusals tags) (plain_but (find is_xacro tags) all)
plain-obeys [] all = obeys-ok [] all tt
plain-obeys (tag ∷ tags) all = by (is_xacro tag) refl (plain-obeys tags all)
  where
    by : (b : Bool) → is_xacro tag ≡ b → Obeys (xacro_refusals tags) (plain_but (find is_xacro tags) all) → Obeys (xacro_refusals (tag ∷ tags)) (plain_but (cond b (Some tag) (find is_xacro tags)) all)
    by true e rest = obeys-unless (fault_at Xacro tag.place) (IsXacro tag) (xacro_refusals tags) true (Ok all) (λ _. xacro-name tag e) (λ no. absurd (true≢false no)) (λ no. absurd (true≢false no))
    by false e rest = obeys-none (fault_at Xacro tag.place when IsXacro tag ∷ []) (xacro_refusals tags) (plain_but (find is_xacro tags) all) (plain tag e, tt) rest

-- links, joints and mimics

parts-obey : (name : List ℕ) (place : ℕ) (tags : List Tag) → Obeys (part_refusals (elements (codes "link") 1 tags) (elements (codes "joint") 1 tags)) (robot_with name place tags)
unfolding robot_with joints_of
parts-obey name place tags =
    let ls = elements (codes "link") 1 tags in
    let js = elements (codes "joint") 1 tags in
    let mimics = in_order (λ before joint. mimic_refusals js joint) [] js in
    obeys-then (in_order link_refusals [] ls) (in_order (joint_refusals ls) [] js ++ mimics) (links_after [] ls) _ (links-obey ls)
    (λ links l.
    let said = links-say [] ls links differ-none l in
    let are_links : AllZip IsLink ls links = subst (λ links. AllZip IsLink ls links) (sym said.are) said.each in
    obeys-then (in_order (joint_refusals ls) [] js) mimics (drafts_after (names_of_links links) [] js) _ (drafts-obey ls links are_links js)
    (λ drafts d.
    let drafted = drafts-say links [] js drafts differ-none d in
    let read : AllZip (IsDraft links) js drafts = subst (λ drafts. AllZip (IsDraft links) js drafts) (sym drafted.are) drafted.each in
    obeys-value (joints_of drafts) _ (joints-obey links js drafts read drafted.differ [] [] js drafts read)))

-- all tags

pub obeys : (tags : List Tag) → Obeys (refusals tags) (urdf_of tags)
unfolding urdf_of robot_of plain_tags
obeys [] = obeys-unless (fault_at NoRobot 0) (Unit {0}) [] true (urdf_of []) (λ _. tt) (λ no. absurd (true≢false no)) (λ no. absurd (true≢false no))
obeys (root ∷ tags) =
    subst (Obeys (refusals (root ∷ tags))) (flip (bytes_eq root.name (codes "robot")))
    (obeys-unless (fault_at NoRobot root.place) (root.name ≢ codes "robot") _ (not (bytes_eq root.name (codes "robot"))) (robot_of root tags)
    (λ other is. true≢false (sym other ∙ ap not ((bytes_eq-Decides root.name (codes "robot")).1 is)))
    (λ same no. no ((bytes_eq-Decides root.name (codes "robot")).0 (not-false (bytes_eq root.name (codes "robot")) same)))
    (λ _. obeys-then (xacro_refusals (root ∷ tags)) _ (plain_tags (root ∷ tags)) _ (plain-obeys (root ∷ tags) (root ∷ tags))
    (λ all _. obeys-next (placed fault_at root.place (name_of (element_of root tags))) _ (obeys-placed fault_at root.place (name_of (element_of root tags)) (name-obeys (element_of root tags)))
    (λ name _. parts-obey name root.place tags))))
  where
    not-false : (b : Bool) → not b ≡ false → b ≡ true
    not-false true h = refl
    not-false false h = absurd cc

    flip : (b : Bool) → cond (not b) (Err (fault_at NoRobot root.place)) (robot_of root tags) ≡ cond b (robot_of root tags) (Err (fault_at NoRobot root.place))
    flip true = refl
    flip false = refl

-- the laws

pub refused : (tags : List Tag) (fault : UrdfFault) → urdf_of tags ≡ Err fault → HasFault tags fault
refused tags fault h = (obeys tags).refuses fault h

result-of : (r : Result Robot UrdfFault) → ((robot : Robot) × (r ≡ Ok robot)) ⊎ ((fault : UrdfFault) × (r ≡ Err fault))
result-of (Ok robot) = inl (robot, refl)
result-of (Err fault) = inr (fault, refl)

pub one_fault : (tags : List Tag) (fault other : UrdfFault) → HasFault tags fault → HasFault tags other → fault ≡ other
one_fault tags fault other h o = first-once (refusals tags) fault other h o

pub faulty : (tags : List Tag) (fault : UrdfFault) → HasFault tags fault → urdf_of tags ≡ Err fault
faulty tags fault h =
    elim (result-of (urdf_of tags)) [
      | inl r ↦ absurd (none-first (refusals tags) fault ((obeys tags).gives r.0 r.1) h)
      | inr e ↦ e.1 ∙ ap Err (one_fault tags e.0 fault (refused tags e.0 e.1) h)
    ]

pub excludes : (tags : List Tag) (robot : Robot) (fault : UrdfFault) → IsUrdf tags robot → HasFault tags fault → ⊥
excludes tags robot fault is h = none-first (refusals tags) fault ((obeys tags).gives robot (complete tags robot is)) h
