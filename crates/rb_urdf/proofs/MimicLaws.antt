-- The joints that follow others are those that the elements describe.
use Rattle.std.proofs.Common.{Bool, ◌≡◌, ◌⊎◌, inl, inr, ℕ, true, false, not, ◌||◌, List, [], ◌∷◌, ◌++◌, map, slice_get, is_some, Option, Some, None, Result, Ok, refl, sym, ap, ◌∙◌, subst, append_assoc}
use Rattle.std.specs.Prelude.{codes, option_and_then}
use Rattle.std.specs.List.{AllZip}
use Rattle.std.proofs.lemmas.List.{append-nil}
use Rattle.rb_urdf.specs.declared.robot.UrdfKind.{UrdfKind}
use Rattle.rb_urdf.specs.declared.robot.UrdfKind.TheVariants.{Fixed, Revolute, Prismatic, Continuous, Planar, Floating}
use Rattle.rb_urdf.specs.declared.robot.UrdfLink.{UrdfLink}
use Rattle.rb_urdf.specs.declared.robot.UrdfMimic.{UrdfMimic}
use Rattle.rb_urdf.specs.declared.robot.UrdfJoint.{UrdfJoint}
use Rattle.rb_urdf.specs.declared.faults.UrdfFaultKind.{UrdfFaultKind}
use Rattle.rb_urdf.specs.declared.faults.UrdfFaultKind.TheVariants.{MimicUnknown, MimicChain, MimicMaster}
use Rattle.rb_urdf.specs.declared.joint.Follow.{Follow}
use Rattle.rb_urdf.specs.declared.joint.Draft.{Draft}
use Rattle.rb_urdf.specs.declared.mimic.Head.{Head}
use Rattle.rb_urdf.specs.Robot.{HasMaster, FollowsWell, names_of_joints}
use Rattle.rb_tags.specs.Elements.{Element, child}
use Rattle.rb_num.specs.Interval.{zero_interval, one_interval}
use Rattle.rb_urdf.specs.Joints.{names_of_drafts}
use Rattle.rb_urdf.specs.Mimics.{may_lead, following_kind, head_of, mimic_of, joint_with, joint_of, joints_after}
use Rattle.rb_urdf.specs.Profile.{SaysNumber, SaysMimic, kind_of_type, IsJoint}
use Rattle.rb_urdf.proofs.NameLaws.{number-says}
use Rattle.rb_urdf.proofs.DraftLaws.{IsDraft, SaysFollow}
use Rattle.rb_urdf.proofs.Zips.{beside, beside_left, same-maps, slice_get-of_map}
use Rattle.rb_tags.specs.Names.{number_of_name}
use Rattle.std.specs.Option.{ok_or}
use Rattle.rb_result.proofs.Results.{then-ok, found-ok, unless-ok, placed-ok}
use Rattle.rb_result.specs.Steps.{placed}
use Rattle.rb_urdf.specs.Faults.{fault_at}

pub neither : (a b : Bool) → (not a || not b) ≡ false → (a ≡ true) × (b ≡ true)
neither true true h = (refl, refl)
neither true false h = absurd cc
neither false b h = absurd cc

pub leading : (kind : UrdfKind) → may_lead kind ≡ true → (kind ≡ Revolute) ⊎ (kind ≡ Prismatic)
leading Revolute h = inl refl
leading Prismatic h = inr refl
leading Fixed h = absurd cc
leading Continuous h = absurd cc
leading Planar h = absurd cc
leading Floating h = absurd cc

none-of : (follow : Option Follow) → is_some follow ≡ false → follow ≡ None
none-of None h = refl
none-of (Some f) h = absurd cc

-- what was found for a joint that follows another
record Found (names : List (List ℕ)) (heads : List Head) (kind : UrdfKind) (follow : Follow) (mimic : UrdfMimic) : Type 0 where
  name : List ℕ
  says : follow.master ≡ Some name
  named : slice_get names mimic.master ≡ Some name
  head : Head
  is : slice_get heads mimic.master ≡ Some head
  leads : head.follows ≡ false
  leading : may_lead head.kind ≡ true
  follows : may_lead (following_kind kind) ≡ true
  multiplier : mimic.multiplier ≡ follow.multiplier
  offset : mimic.offset ≡ follow.offset

pub number-in : (names : List (List ℕ)) (said : Option (List ℕ)) (n : ℕ) → option_and_then (number_of_name names) said ≡ Some n → (name : List ℕ) × (said ≡ Some name) × (slice_get names n ≡ Some name)
number-in names None n h = absurd cc
number-in names (Some name) n h = (name, refl, number-says names name n h)

mimic-found : (names : List (List ℕ)) (heads : List Head) (kind : UrdfKind) (follow : Follow) (mimic : UrdfMimic) → mimic_of names heads kind follow ≡ Ok mimic → Found names heads kind follow mimic
unfolding mimic_of
mimic-found names heads kind follow mimic h =
    let a = then-ok (ok_or (option_and_then (number_of_name names) follow.master) MimicUnknown) _ mimic h in
    let b = then-ok (ok_or (slice_get heads a.0) MimicUnknown) _ mimic a.2 in
    let c = unless-ok b.0.follows MimicChain _ mimic b.2 in
    let d = unless-ok (not (may_lead b.0.kind) || not (may_lead (following_kind kind))) MimicMaster (Ok (record { master = a.0; multiplier = follow.multiplier; offset = follow.offset })) mimic c.1 in
    let made : record { master = a.0; multiplier = follow.multiplier; offset = follow.offset } ≡ mimic = ok-same _ mimic d.1 in
    let n = number-in names follow.master a.0 (found-ok _ MimicUnknown a.0 a.1) in
    let k = neither (may_lead b.0.kind) (may_lead (following_kind kind)) d.0 in
    subst (Found names heads kind follow) made (record {
      name = n.0;
      says = n.1;
      named = n.2;
      head = b.0;
      is = found-ok _ MimicUnknown b.0 b.1;
      leads = c.0;
      leading = k.0;
      follows = k.1;
      multiplier = refl;
      offset = refl;
    })
  where
    ok-same : (x y : UrdfMimic) → (let ok : Result UrdfMimic UrdfFaultKind = Ok x in ok) ≡ Ok y → x ≡ y
    ok-same x y e = cc

abbrev pub IsSettled : List (List ℕ) → List Head → Draft → UrdfJoint → Type 0
IsSettled names heads draft joint = joint_of names heads draft ≡ Ok joint

ok-joint : (x y : UrdfJoint) → (let ok : Result UrdfJoint UrdfFaultKind = Ok x in ok) ≡ Ok y → x ≡ y
ok-joint x y e = cc

pub record JointsRead (names : List (List ℕ)) (heads : List Head) (joints : List UrdfJoint) (drafts : List Draft) (all : List UrdfJoint) : Type 0 where
  pub more : List UrdfJoint
  pub are : all ≡ joints ++ more
  pub each : AllZip (IsSettled names heads) drafts more

pub joints-say : (names : List (List ℕ)) (heads : List Head) (joints : List UrdfJoint) (drafts : List Draft) (all : List UrdfJoint) → joints_after names heads joints drafts ≡ Ok all → JointsRead names heads joints drafts all
unfolding joints_after
joints-say names heads joints [] all h =
    let same : joints ≡ all = cc in
    record { more = []; are = sym same ∙ sym (append-nil joints); each = tt }
joints-say names heads joints (draft ∷ drafts) all h =
    let p = then-ok (placed fault_at draft.joint.place (joint_of names heads draft)) _ all h in
    let rest = joints-say names heads (joints ++ p.0 ∷ []) drafts all p.2 in
    record { more = p.0 ∷ rest.more; are = rest.are ∙ append_assoc joints (p.0 ∷ []) rest.more; each = (placed-ok fault_at draft.joint.place _ p.0 p.1, rest.each) }

-- a settled joint keeps its name
settled-name : (names : List (List ℕ)) (heads : List Head) (joint : UrdfJoint) (follow : Option Follow) (settled : UrdfJoint) → joint_with names heads joint follow ≡ Ok settled → joint.name ≡ settled.name
settled-name names heads joint None settled h = ap (λ j. j.name) (ok-joint joint settled h)
settled-name names heads joint (Some follow) settled h =
    let p = then-ok (mimic_of names heads joint.kind follow) _ settled h in
    ap (λ j. j.name) (ok-joint (record joint { kind = following_kind joint.kind; mimic = Some p.0 }) settled p.2)

-- and a joint that follows none stays as it is
settled-leads : (names : List (List ℕ)) (heads : List Head) (joint : UrdfJoint) (follow : Option Follow) (settled : UrdfJoint) → joint_with names heads joint follow ≡ Ok settled → follow ≡ None → settled ≡ joint
settled-leads names heads joint None settled h none = sym (ok-joint joint settled h)
settled-leads names heads joint (Some follow) settled h none = absurd cc

pub kind-alone : (kind : UrdfKind) → kind ≡ kind_of_type kind None
kind-alone Fixed = refl
kind-alone Revolute = refl
kind-alone Prismatic = refl
kind-alone Continuous = refl
kind-alone Planar = refl
kind-alone Floating = refl

pub kind-following : (kind : UrdfKind) (mimic : UrdfMimic) → following_kind kind ≡ kind_of_type kind (Some mimic)
kind-following Fixed mimic = refl
kind-following Revolute mimic = refl
kind-following Prismatic mimic = refl
kind-following Continuous mimic = refl
kind-following Planar mimic = refl
kind-following Floating mimic = refl

mimic-none : (joints : List UrdfJoint) (element : Option Element) → SaysFollow element None → SaysMimic joints element None
mimic-none joints None h = tt
mimic-none joints (Some element) h = absurd h

module _ (links : List UrdfLink) (elements : List Element) (drafts : List Draft) (joints : List UrdfJoint) where
  abbrev pub names : List (List ℕ)
  names = names_of_drafts drafts

  abbrev pub heads : List Head
  heads = map head_of drafts

  pub names-kept : AllZip (IsSettled names heads) drafts joints → names ≡ names_of_joints joints
  unfolding joint_of
  names-kept settled = same-maps (IsSettled names heads) (λ draft. draft.joint.name) (λ joint. joint.name) (λ draft joint h. settled-name names heads draft.joint draft.follow joint h) drafts joints settled

  -- the joint that is found may be followed
  master-of : AllZip (IsDraft links) elements drafts → AllZip (IsSettled names heads) drafts joints → (n : ℕ) (head : Head) → slice_get heads n ≡ Some head → head.follows ≡ false → may_lead head.kind ≡ true → HasMaster joints n
  unfolding joint_of
  master-of read settled n head at leads lead =
      let d = slice_get-of_map head_of drafts n head at in
      let j = beside (IsSettled names heads) drafts joints settled n d.0 d.1 in
      let e = beside_left (IsDraft links) elements drafts read n d.0 d.1 in
      let alone : d.0.follow ≡ None = none-of d.0.follow (ap (λ h. h.follows) d.2 ∙ leads) in
      let same : j.0 ≡ d.0.joint = settled-leads names heads d.0.joint d.0.follow j.0 j.2 alone in
      let kind : may_lead d.0.joint.kind ≡ true = ap (λ h. may_lead h.kind) d.2 ∙ lead in
      record {
        joint = d.0.joint;
        is = j.1 ∙ ap Some same;
        master = record { moves = leading d.0.joint.kind kind; leads = e.2.leads };
      }

  mimic-says : AllZip (IsDraft links) elements drafts → AllZip (IsSettled names heads) drafts joints → (element : Option Element) (follow : Follow) (kind : UrdfKind) (mimic : UrdfMimic) → SaysFollow element (Some follow) → Found names heads kind follow mimic → SaysMimic joints element (Some mimic)
  mimic-says read settled None follow kind mimic s f = absurd s
  mimic-says read settled (Some element) follow kind mimic s f = record {
    name = f.name;
    says = s.master ∙ f.says;
    joint = ap (λ ns. slice_get ns mimic.master) (sym (names-kept settled)) ∙ f.named;
    multiplier = subst (SaysNumber one_interval (codes "multiplier") (Some element)) (sym f.multiplier) s.multiplier;
    offset = subst (SaysNumber zero_interval (codes "offset") (Some element)) (sym f.offset) s.offset;
  }

  pub joint-says : AllZip (IsDraft links) elements drafts → AllZip (IsSettled names heads) drafts joints → (element : Element) (base : UrdfJoint) (follow : Option Follow) (joint : UrdfJoint) → IsDraft links element (record { joint = base; follow = follow }) → joint_with names heads base follow ≡ Ok joint → IsJoint links joints element joint
  joint-says read settled element base None joint d h = subst (IsJoint links joints element) (ok-joint base joint h) (record {
    name = d.name;
    place = d.place;
    type = base.kind;
    type_is = d.type_is;
    kind = kind-alone base.kind ∙ ap (kind_of_type base.kind) (sym d.leads);
    parent = d.ends.parent;
    child_link = d.ends.child_link;
    origin = d.origin;
    axis = d.axis;
    mimic = subst (SaysMimic joints (child (codes "mimic") element)) (sym d.leads) (mimic-none joints (child (codes "mimic") element) d.follow);
    follows = subst (FollowsWell joints base.kind) (sym d.leads) tt;
  })
  joint-says read settled element base (Some follow) joint d h =
      let p = then-ok (mimic_of names heads base.kind follow) _ joint h in
      let made = ok-joint (record base { kind = following_kind base.kind; mimic = Some p.0 }) joint p.2 in
      let f = mimic-found names heads base.kind follow p.0 p.1 in
      subst (IsJoint links joints element) made (record {
        name = d.name;
        place = d.place;
        type = base.kind;
        type_is = d.type_is;
        kind = kind-following base.kind p.0;
        parent = d.ends.parent;
        child_link = d.ends.child_link;
        origin = d.origin;
        axis = d.axis;
        mimic = mimic-says read settled (child (codes "mimic") element) follow base.kind p.0 d.follow f;
        follows = (leading (following_kind base.kind) f.follows, master-of read settled p.0.master f.head f.is f.leads f.leading);
      })
