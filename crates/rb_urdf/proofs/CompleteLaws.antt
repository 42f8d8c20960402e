-- The robot that tags describe is read.
use Rattle.std.proofs.Common.{◌≡◌, ◌⊎◌, inl, inr, ℕ, Bool, true, false, List, [], ◌∷◌, ◌++◌, map, slice_get, is_some, Option, Some, None, Ok, refl, sym, ap, ◌∙◌, subst, append_assoc}
use Rattle.std.specs.Prelude.{codes, bytes_eq, find}
use Rattle.std.specs.List.{AllZip, AllByRecursion}
use Rattle.std.proofs.lemmas.Bool.Decides.{Decides-eqb}
use Rattle.std.proofs.lemmas.Slice.Eq.{bytes_eq-Decides, starts_is}
use Rattle.std.proofs.lemmas.List.{append-nil}
use Rattle.rb_tags.specs.declared.tag.Tag.{Tag}
use Rattle.rb_urdf.specs.declared.robot.UrdfKind.{UrdfKind}
use Rattle.rb_urdf.specs.declared.robot.UrdfKind.TheVariants.{Revolute, Prismatic}
use Rattle.rb_urdf.specs.declared.robot.UrdfLink.{UrdfLink}
use Rattle.rb_urdf.specs.declared.robot.UrdfMimic.{UrdfMimic}
use Rattle.rb_urdf.specs.declared.robot.UrdfJoint.{UrdfJoint}
use Rattle.rb_urdf.specs.declared.joint.Follow.{Follow}
use Rattle.rb_urdf.specs.declared.joint.Draft.{Draft}
use Rattle.rb_urdf.specs.declared.mimic.Head.{Head}
use Rattle.rb_urdf.specs.Robot.{Robot, HasMaster, FollowsWell, names_of_links, names_of_joints}
use Rattle.rb_tags.specs.Elements.{Element, element_of, elements, child, attribute}
use Rattle.rb_urdf.specs.Joints.{names_of_drafts}
use Rattle.rb_urdf.specs.Mimics.{may_lead, following_kind, head_of, mimic_of, joint_with, joint_of, joints_after, joints_of}
use Rattle.rb_urdf.specs.Urdf.{is_xacro, plain_tags, robot_with, robot_of, urdf_of}
use Rattle.rb_urdf.specs.Profile.{SaysMimic, kind_of_type, IsLink, IsJoint, IsXacro, IsUrdf}
use Rattle.rb_urdf.proofs.NameLaws.{name-read, number-read}
use Rattle.rb_urdf.proofs.LinkLaws.{links-read}
use Rattle.rb_urdf.proofs.DraftLaws.{IsDraft, SaysFollow, drafts-read}
use Rattle.rb_urdf.proofs.MimicLaws.{IsSettled, kind-alone, kind-following}
use Rattle.rb_urdf.proofs.Zips.{beside_left, same-maps, each-pair, slice_get-to_map}
use Rattle.rb_tags.specs.Names.{AreDifferent}

-- the mimic of a joint, by the name of the joint that it follows
abbrev follow_for : Option Element → Option UrdfMimic → Option Follow
follow_for (Some element) (Some mimic) = Some (record { master = attribute (codes "joint") element; multiplier = mimic.multiplier; offset = mimic.offset })
follow_for (Some element) None = None
follow_for None mimic = None

follow-said : (joints : List UrdfJoint) (element : Option Element) (mimic : Option UrdfMimic) → SaysMimic joints element mimic → SaysFollow element (follow_for element mimic)
follow-said joints None None s = tt
follow-said joints None (Some mimic) s = absurd s
follow-said joints (Some element) None s = absurd s
follow-said joints (Some element) (Some mimic) s = record { master = refl; multiplier = s.multiplier; offset = s.offset }

-- a mimic by name is the same by number
record Named (joints : List UrdfJoint) (follow : Follow) (mimic : UrdfMimic) : Type 0 where
  name : List ℕ
  says : follow.master ≡ Some name
  joint : slice_get (names_of_joints joints) mimic.master ≡ Some name
  multiplier : follow.multiplier ≡ mimic.multiplier
  offset : follow.offset ≡ mimic.offset

abbrev AreNamed : List UrdfJoint → Option Follow → Option UrdfMimic → Type 0
AreNamed joints None None = Unit {0}
AreNamed joints None (Some mimic) = ⊥
AreNamed joints (Some follow) None = ⊥
AreNamed joints (Some follow) (Some mimic) = Named joints follow mimic

follow-named : (joints : List UrdfJoint) (element : Option Element) (mimic : Option UrdfMimic) → SaysMimic joints element mimic → AreNamed joints (follow_for element mimic) mimic
follow-named joints None None s = tt
follow-named joints None (Some mimic) s = absurd s
follow-named joints (Some element) None s = absurd s
follow-named joints (Some element) (Some mimic) s = record { name = s.name; says = s.says; joint = s.joint; multiplier = refl; offset = refl }

-- a joint before its mimic was settled
record IsBefore (joints : List UrdfJoint) (draft : Draft) (joint : UrdfJoint) : Type 0 where
  others : draft.joint ≡ record joint { kind = draft.joint.kind; mimic = None }
  kind : joint.kind ≡ kind_of_type draft.joint.kind joint.mimic
  follow : AreNamed joints draft.follow joint.mimic
  follows : FollowsWell joints joint.kind joint.mimic

record HasDraft (links : List UrdfLink) (joints : List UrdfJoint) (element : Element) (joint : UrdfJoint) : Type 0 where
  draft : Draft
  read : IsDraft links element draft
  before : IsBefore joints draft joint

has-draft : (links : List UrdfLink) (joints : List UrdfJoint) (element : Element) (joint : UrdfJoint) → IsJoint links joints element joint → HasDraft links joints element joint
has-draft links joints element joint h = record {
  draft = record { joint = record joint { kind = h.type; mimic = None }; follow = follow_for (child (codes "mimic") element) joint.mimic };
  read = record {
    name = h.name;
    place = h.place;
    type_is = h.type_is;
    ends = record { parent = h.parent; child_link = h.child_link };
    origin = h.origin;
    axis = h.axis;
    follow = follow-said joints (child (codes "mimic") element) joint.mimic h.mimic;
    leads = refl;
  };
  before = record {
    others = refl;
    kind = h.kind;
    follow = follow-named joints (child (codes "mimic") element) joint.mimic h.mimic;
    follows = h.follows;
  };
}

record HasDrafts (links : List UrdfLink) (all : List UrdfJoint) (elements : List Element) (joints : List UrdfJoint) : Type 0 where
  drafts : List Draft
  read : AllZip (IsDraft links) elements drafts
  before : AllZip (IsBefore all) drafts joints

has-drafts : (links : List UrdfLink) (all : List UrdfJoint) (elements : List Element) (joints : List UrdfJoint) → AllZip (IsJoint links all) elements joints → HasDrafts links all elements joints
has-drafts links all [] [] h = record { drafts = []; read = tt; before = tt }
has-drafts links all [] (joint ∷ joints) h = absurd h
has-drafts links all (element ∷ elements) [] h = absurd h
has-drafts links all (element ∷ elements) (joint ∷ joints) h =
    let first = has-draft links all element joint h.0 in
    let rest = has-drafts links all elements joints h.1 in
    record { drafts = first.draft ∷ rest.drafts; read = (first.read, rest.read); before = (first.before, rest.before) }

same-joint : (joint : UrdfJoint) (kind : UrdfKind) (mimic : Option UrdfMimic) → joint.kind ≡ kind → joint.mimic ≡ mimic → record joint { kind = kind; mimic = mimic } ≡ joint
same-joint joint kind mimic k m = λ i. record joint { kind = sym k i; mimic = sym m i }

leads : (kind : UrdfKind) → (kind ≡ Revolute) ⊎ (kind ≡ Prismatic) → may_lead kind ≡ true
leads kind (inl e) = ap may_lead e
leads kind (inr e) = ap may_lead e

joints-read : (names : List (List ℕ)) (heads : List Head) (done : List UrdfJoint) (drafts : List Draft) (joints : List UrdfJoint) → AllZip (IsSettled names heads) drafts joints → joints_after names heads done drafts ≡ Ok (done ++ joints)
unfolding joints_after
joints-read names heads done [] [] each = ap Ok (sym (append-nil done))
joints-read names heads done [] (joint ∷ joints) each = absurd each
joints-read names heads done (draft ∷ drafts) [] each = absurd each
joints-read names heads done (draft ∷ drafts) (joint ∷ joints) each =
    rw each.0 (joints-read names heads (done ++ joint ∷ []) drafts joints each.1 ∙ ap Ok (append_assoc done (joint ∷ []) joints))

module _ (joints : List UrdfJoint) (drafts : List Draft) (before : AllZip (IsBefore joints) drafts joints) (differ : AreDifferent (names_of_joints joints)) where
  names-same : names_of_drafts drafts ≡ names_of_joints joints
  names-same = same-maps (IsBefore joints) (λ draft. draft.joint.name) (λ joint. joint.name) (λ draft joint h. ap (λ j. j.name) h.others) drafts joints before

  head-of_master : (n : ℕ) → HasMaster joints n → (head : Head) × (slice_get (map head_of drafts) n ≡ Some head) × (head.follows ≡ false) × (may_lead head.kind ≡ true)
  head-of_master n h =
      let d = beside_left (IsBefore joints) drafts joints before n h.joint h.is in
      let alone : d.0.follow ≡ None = no-follow d.0.follow h.joint.mimic d.2.follow h.master.leads in
      let kind : h.joint.kind ≡ d.0.joint.kind = d.2.kind ∙ ap (kind_of_type d.0.joint.kind) h.master.leads ∙ sym (kind-alone d.0.joint.kind) in
      (head_of d.0, slice_get-to_map head_of drafts n d.0 d.1, ap is_some alone, ap may_lead (sym kind) ∙ leads h.joint.kind h.master.moves)
    where
      no-follow : (follow : Option Follow) (mimic : Option UrdfMimic) → AreNamed joints follow mimic → mimic ≡ None → follow ≡ None
      no-follow None mimic s m = refl
      no-follow (Some follow) None s m = absurd s
      no-follow (Some follow) (Some mimic) s m = absurd cc

  mimic-read : (kind : UrdfKind) (follow : Follow) (mimic : UrdfMimic) → Named joints follow mimic → HasMaster joints mimic.master → may_lead (following_kind kind) ≡ true → mimic_of (names_of_drafts drafts) (map head_of drafts) kind follow ≡ Ok mimic
  unfolding mimic_of
  mimic-read kind follow mimic n master moves =
      let head = head-of_master mimic.master master in
      rw (names-same, n.says, number-read (names_of_joints joints) n.name mimic.master differ n.joint, head.1, head.2, head.3, moves, n.multiplier, n.offset) refl

  settled-with : (base joint : UrdfJoint) (follow : Option Follow) (mimic : Option UrdfMimic) → base ≡ record joint { kind = base.kind; mimic = None } → joint.kind ≡ kind_of_type base.kind mimic → AreNamed joints follow mimic → FollowsWell joints joint.kind mimic → joint.mimic ≡ mimic → joint_with (names_of_drafts drafts) (map head_of drafts) base follow ≡ Ok joint
  settled-with base joint None None others kind named follows m = ap Ok (others ∙ same-joint joint base.kind None (kind ∙ sym (kind-alone base.kind)) m)
  settled-with base joint None (Some mimic) others kind named follows m = absurd named
  settled-with base joint (Some follow) None others kind named follows m = absurd named
  settled-with base joint (Some follow) (Some mimic) others kind named follows m =
      let moves : may_lead (following_kind base.kind) ≡ true = ap may_lead (kind-following base.kind mimic ∙ sym kind) ∙ leads joint.kind follows.0 in
      let taken : UrdfKind = following_kind base.kind in
      rw (mimic-read base.kind follow mimic named follows.1 moves)
      (ap Ok (ap (λ (b : UrdfJoint). record b { kind = taken; mimic = Some mimic }) others ∙ same-joint joint taken (Some mimic) (kind ∙ sym (kind-following base.kind mimic)) m))

  settled : (draft : Draft) (joint : UrdfJoint) → IsBefore joints draft joint → IsSettled (names_of_drafts drafts) (map head_of drafts) draft joint
  unfolding joint_of
  settled draft joint h = settled-with draft.joint joint draft.follow joint.mimic h.others h.kind h.follow h.follows refl

  joints-settled : joints_of drafts ≡ Ok joints
  unfolding joints_of
  joints-settled = joints-read (names_of_drafts drafts) (map head_of drafts) [] drafts joints (each-pair (IsBefore joints) (IsSettled (names_of_drafts drafts) (map head_of drafts)) settled drafts joints before)

-- no name begins with xacro:

not-xacro : (tag : Tag) → (¬ IsXacro tag) → is_xacro tag ≡ false
unfolding is_xacro
not-xacro tag h = by (is_xacro tag) refl
  where
    by : (b : Bool) → is_xacro tag ≡ b → is_xacro tag ≡ false
    by false e = e
    by true e = absurd (h (_, (starts_is Decides-eqb tag.name (codes "xacro:") (is_xacro tag) refl).0 e))

none-to-find : (tags : List Tag) → AllByRecursion (λ tag. ¬ IsXacro tag) tags → find is_xacro tags ≡ None
none-to-find [] h = refl
none-to-find (tag ∷ tags) h = rw (not-xacro tag h.0) (none-to-find tags h.1)

robot-read : (name : List ℕ) (place : ℕ) (tags : List Tag) (links : List UrdfLink) (joints : List UrdfJoint) → AllZip IsLink (elements (codes "link") 1 tags) links → AreDifferent (names_of_links links) → AllZip (IsJoint links joints) (elements (codes "joint") 1 tags) joints → AreDifferent (names_of_joints joints) → robot_with name place tags ≡ Ok (record { name = name; place = place; links = links; joints = joints })
unfolding robot_with
robot-read name place tags links joints ls apart js differ =
    let d = has-drafts links joints (elements (codes "joint") 1 tags) joints js in
    let names : names_of_joints joints ≡ names_of_drafts d.drafts = sym (names-same joints d.drafts d.before differ) in
    rw (
      links-read [] (elements (codes "link") 1 tags) links ls apart,
      drafts-read links [] (elements (codes "joint") 1 tags) d.drafts apart d.read (subst AreDifferent names differ),
      joints-settled joints d.drafts d.before differ,
    ) refl

pub complete : (tags : List Tag) (robot : Robot) → IsUrdf tags robot → urdf_of tags ≡ Ok robot
unfolding urdf_of robot_of plain_tags
complete tags robot h =
    let found : find is_xacro (h.root ∷ h.behind) ≡ None = none-to-find (h.root ∷ h.behind) (subst (λ ts. AllByRecursion (λ tag. ¬ IsXacro tag) ts) h.tags_are h.plain) in
    let named : bytes_eq h.root.name (codes "robot") ≡ true = (bytes_eq-Decides h.root.name (codes "robot")).1 h.root_name in
    rw (h.tags_are, named, found, name-read (element_of h.root h.behind) robot.name h.name, ← h.place)
    (robot-read robot.name robot.place h.behind robot.links robot.joints h.links h.link_names_differ h.joints h.joint_names_differ)
