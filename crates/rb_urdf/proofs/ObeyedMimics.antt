-- Joints that follow others are refused as the refusals say.
use Rattle.std.proofs.Common.{◌≡◌, ◌≢◌, ◌⊎◌, inl, inr, ℕ, Bool, true, false, not, ◌||◌, List, [], ◌∷◌, ◌++◌, map, slice_get, is_some, Option, Some, None, refl, sym, ap, ◌∙◌, subst, true≢false}
use Rattle.std.specs.Prelude.{codes, option_and_then}
use Rattle.std.specs.List.{AllZip}
use Rattle.std.specs.Option.{ok_or}
use Rattle.std.proofs.lemmas.Option.{same_Some}
use Rattle.rb_tags.specs.Elements.{Element, child, attribute}
use Rattle.rb_tags.specs.Names.{number_of_name, AreDifferent}
use Rattle.rb_result.specs.Steps.{placed}
use Rattle.rb_result.proofs.Results.{found-ok}
use Rattle.rb_urdf.specs.declared.robot.UrdfKind.{UrdfKind}
use Rattle.rb_urdf.specs.declared.robot.UrdfKind.TheVariants.{Fixed, Revolute, Prismatic, Continuous, Planar, Floating}
use Rattle.rb_urdf.specs.declared.robot.UrdfLink.{UrdfLink}
use Rattle.rb_urdf.specs.declared.robot.UrdfJoint.{UrdfJoint}
use Rattle.rb_urdf.specs.declared.faults.UrdfFaultKind.TheVariants.{MimicUnknown, MimicChain, MimicMaster}
use Rattle.rb_urdf.specs.declared.joint.Follow.{Follow}
use Rattle.rb_urdf.specs.declared.joint.Draft.{Draft}
use Rattle.rb_urdf.specs.declared.mimic.Head.{Head}
use Rattle.rb_urdf.specs.Faults.{fault_at}
use Rattle.rb_urdf.specs.Joints.{names_of_drafts}
use Rattle.rb_urdf.specs.Mimics.{may_lead, following_kind, head_of, mimic_of, joint_with, joint_of, joints_after}
use Rattle.rb_urdf.specs.Profile.{HasName}
use Rattle.rb_urdf.specs.Refusals.{HasType, FollowsNone, Follows, FollowsFollower, FollowsUnfit, mimic_refusals, in_order}
use Rattle.rb_tags.specs.InOrder.{◌when◌, at_place}
use Rattle.rb_urdf.proofs.NameLaws.{number-read}
use Rattle.rb_urdf.proofs.DraftLaws.{IsDraft, IsFollow, SaysFollow}
use Rattle.rb_urdf.proofs.MimicLaws.{neither, leading, number-in}
use Rattle.rb_urdf.proofs.Zips.{beside, beside_left, slice_get-of_map, slice_get-to_map}
use Rattle.rb_tags.proofs.Obeying.{Obeys, obeys-ok, obeys-then, obeys-next, obeys-value, obeys-found, obeys-unless, obeys-placed}
use Rattle.rb_urdf.proofs.ObeyedLinks.{one-name}
use Rattle.rb_urdf.proofs.ObeyedJoints.{one-type, each-at, unknown-name}

-- what an element says of the joint that it follows

said-follow : (said : Option Element) (follow : Follow) → SaysFollow said (Some follow) → (mimic : Element) × (said ≡ Some mimic) × IsFollow mimic follow
said-follow None follow s = absurd s
said-follow (Some mimic) follow s = (mimic, refl, s)

said-some : (said : Option Element) (follow : Option Follow) → SaysFollow said follow → is_some follow ≡ true → (mimic : Element) × (said ≡ Some mimic)
said-some said None s h = absurd cc
said-some None (Some follow) s h = absurd s
said-some (Some mimic) (Some follow) s h = (mimic, refl)

said-none : (said : Option Element) (follow : Option Follow) (mimic : Element) → SaysFollow said follow → is_some follow ≡ false → said ≡ Some mimic → ⊥
said-none None follow mimic s h is = absurd cc
said-none (Some element) None mimic s h is = s
said-none (Some element) (Some follow) mimic s h is = absurd cc

-- which joints may lead and follow

lead-not : (type : UrdfKind) → may_lead type ≡ false → (type ≢ Revolute) × (type ≢ Prismatic)
lead-not type h = (λ e. true≢false (sym (ap may_lead e) ∙ h), λ e. true≢false (sym (ap may_lead e) ∙ h))

follow-not : (type : UrdfKind) → may_lead (following_kind type) ≡ false → (type ≡ Fixed) ⊎ ((type ≡ Planar) ⊎ (type ≡ Floating))
follow-not Fixed h = inl refl
follow-not Planar h = inr (inl refl)
follow-not Floating h = inr (inr refl)
follow-not Revolute h = absurd cc
follow-not Prismatic h = absurd cc
follow-not Continuous h = absurd cc

one-not : (a b : Bool) → (not a || not b) ≡ true → (a ≡ false) ⊎ (b ≡ false)
one-not false b h = inl refl
one-not true false h = inr refl
one-not true true h = absurd cc

leads-fit : (type : UrdfKind) → may_lead type ≡ true → (type ≢ Revolute) × (type ≢ Prismatic) → ⊥
leads-fit type h unfit = elim (leading type h) [ inl e ↦ unfit.0 e | inr e ↦ unfit.1 e ]

follows-fit : (type : UrdfKind) → may_lead (following_kind type) ≡ true → (type ≡ Fixed) ⊎ ((type ≡ Planar) ⊎ (type ≡ Floating)) → ⊥
follows-fit type h (inl e) = true≢false (sym h ∙ ap (λ t. may_lead (following_kind t)) e)
follows-fit type h (inr (inl e)) = true≢false (sym h ∙ ap (λ t. may_lead (following_kind t)) e)
follows-fit type h (inr (inr e)) = true≢false (sym h ∙ ap (λ t. may_lead (following_kind t)) e)

module _ (links : List UrdfLink) (joints : List Element) (drafts : List Draft) (read : AllZip (IsDraft links) joints drafts) (differ : AreDifferent (names_of_drafts drafts)) where
  abbrev names : List (List ℕ)
  names = names_of_drafts drafts

  abbrev heads : List Head
  heads = map head_of drafts

  -- the joint of a number and a name
  record Named (number : ℕ) (name : List ℕ) : Type 0 where
    draft : Draft
    head : slice_get heads number ≡ Some (head_of draft)
    element : Element
    among : slice_get joints number ≡ Some element
    is : IsDraft links element draft
    named : HasName element name

  find-named : (number : ℕ) (name : List ℕ) → slice_get names number ≡ Some name → Named number name
  find-named number name h =
      let d = slice_get-of_map (λ draft. draft.joint.name) drafts number name h in
      let e = beside_left (IsDraft links) joints drafts read number d.0 d.1 in
      record { draft = d.0; head = slice_get-to_map head_of drafts number d.0 d.1; element = e.0; among = e.1; is = e.2; named = subst (HasName e.0) d.2 e.2.name }

  -- no other joint has the name
  one-named : (number other : ℕ) (name : List ℕ) (element : Element) → number_of_name names name ≡ Some number → slice_get joints other ≡ Some element → HasName element name → other ≡ number
  one-named number other name element h among named =
      let d = beside (IsDraft links) joints drafts read other element among in
      let same : d.0.joint.name ≡ name = one-name element d.0.joint.name name d.2.name named in
      same_Some other number (sym (number-read names name other differ (slice_get-to_map (λ draft. draft.joint.name) drafts other d.0 d.1 ∙ ap Some same)) ∙ h)

  -- a joint that follows the joint of a name
  module _ (joint : Element) (base : UrdfJoint) (follow : Follow) (is_read : IsDraft links joint (record { joint = base; follow = Some follow })) where
    said-name : (mimic : Element) (name : List ℕ) → child (codes "mimic") joint ≡ Some mimic → attribute (codes "joint") mimic ≡ Some name → follow.master ≡ Some name
    said-name mimic name is says =
        let m = said-follow (child (codes "mimic") joint) follow is_read.follow in
        let same : mimic ≡ m.0 = same_Some mimic m.0 (sym is ∙ m.1) in
        sym m.2.master ∙ subst (λ e. attribute (codes "joint") e ≡ Some name) same says

    none-named : option_and_then (number_of_name names) follow.master ≡ None → FollowsNone joints joint
    none-named h =
        let m = said-follow (child (codes "mimic") joint) follow is_read.follow in
        record {
          mimic = m.0;
          is = m.1;
          unknown = λ name says. unknown-name (λ draft. draft.joint.name) (IsDraft links) (λ e d s. s.name) joints drafts read name (subst (λ o. option_and_then (number_of_name names) o ≡ None) (said-name m.0 name m.1 says) h);
        }

    some-named : (number : ℕ) → option_and_then (number_of_name names) follow.master ≡ Some number → ¬ FollowsNone joints joint
    some-named number h = λ bad.
        let at = number-in names follow.master number h in
        let n = find-named number at.0 at.2 in
        let m = said-follow (child (codes "mimic") joint) follow is_read.follow in
        let same : m.0 ≡ bad.mimic = same_Some m.0 bad.mimic (sym m.1 ∙ bad.is) in
        let says : attribute (codes "joint") bad.mimic ≡ Some at.0 = subst (λ e. attribute (codes "joint") e ≡ Some at.0) same (m.2.master ∙ at.1) in
        each-at (λ e. ¬ HasName e at.0) joints number n.element (bad.unknown at.0 says) n.among n.named

    -- the joint of this number has the name
    module _ (number : ℕ) (name : List ℕ) (says : follow.master ≡ Some name) (is_number : number_of_name names name ≡ Some number) (n : Named number name) where
      follows-this : Follows joints joint n.element
      follows-this =
          let m = said-follow (child (codes "mimic") joint) follow is_read.follow in
          record { mimic = m.0; is = m.1; name = name; says = m.2.master ∙ says; number = number; among = n.among; named = n.named }

      one-master : (master : Element) → Follows joints joint master → master ≡ n.element
      one-master master f =
          let same : f.name ≡ name = same_Some f.name name (sym (said-name f.mimic f.name f.is f.says) ∙ says) in
          let at : f.number ≡ number = one-named number f.number name master is_number f.among (subst (HasName master) same f.named) in
          same_Some master n.element (sym f.among ∙ ap (slice_get joints) at ∙ n.among)

      chain : is_some n.draft.follow ≡ true → FollowsFollower joints joint
      chain h =
          let m = said-some (child (codes "mimic") n.element) n.draft.follow n.is.follow h in
          record { master = n.element; follows = follows-this; mimic = m.0; is = m.1 }

      no-chain : is_some n.draft.follow ≡ false → ¬ FollowsFollower joints joint
      no-chain h = λ bad.
          let is : child (codes "mimic") n.element ≡ Some bad.mimic = subst (λ e. child (codes "mimic") e ≡ Some bad.mimic) (one-master bad.master bad.follows) bad.is in
          said-none (child (codes "mimic") n.element) n.draft.follow bad.mimic n.is.follow h is

      unfit : (not (may_lead n.draft.joint.kind) || not (may_lead (following_kind base.kind))) ≡ true → FollowsUnfit joints joint
      unfit h = record {
        master = n.element;
        follows = follows-this;
        master_type = n.draft.joint.kind;
        type = base.kind;
        master_type_is = n.is.type_is;
        type_is = is_read.type_is;
        unfit = elim (one-not (may_lead n.draft.joint.kind) (may_lead (following_kind base.kind)) h) [
          | inl e ↦ inl (lead-not n.draft.joint.kind e)
          | inr e ↦ inr (follow-not base.kind e)
        ];
      }

      fit : (not (may_lead n.draft.joint.kind) || not (may_lead (following_kind base.kind))) ≡ false → ¬ FollowsUnfit joints joint
      fit h = λ bad.
          let fits = neither (may_lead n.draft.joint.kind) (may_lead (following_kind base.kind)) h in
          let lead = one-type bad.master bad.master_type n.draft.joint.kind bad.master_type_is (subst (λ e. HasType e n.draft.joint.kind) (sym (one-master bad.master bad.follows)) n.is.type_is) in
          let type = one-type joint bad.type base.kind bad.type_is is_read.type_is in
          elim bad.unfit [
            | inl u ↦ leads-fit bad.master_type (ap may_lead lead ∙ fits.0) u
            | inr u ↦ follows-fit bad.type (ap (λ t. may_lead (following_kind t)) type ∙ fits.1) u
          ]

    mimic-obeys : Obeys (mimic_refusals joints joint) (mimic_of names heads base.kind follow)
    unfolding mimic_of
    mimic-obeys =
        obeys-next (ok_or (option_and_then (number_of_name names) follow.master) MimicUnknown) _ (obeys-found MimicUnknown (FollowsNone joints joint) (option_and_then (number_of_name names) follow.master) some-named none-named)
        (λ number h.
        let found = found-ok (option_and_then (number_of_name names) follow.master) MimicUnknown number h in
        let at = number-in names follow.master number found in
        let is_number : number_of_name names at.0 ≡ Some number = subst (λ o. option_and_then (number_of_name names) o ≡ Some number) at.1 found in
        let n = find-named number at.0 at.2 in
        rw n.head
        (obeys-unless MimicChain (FollowsFollower joints joint) (MimicMaster when FollowsUnfit joints joint ∷ []) (is_some n.draft.follow) _ (chain number at.0 at.1 is_number n) (no-chain number at.0 at.1 is_number n)
        (λ _. obeys-unless MimicMaster (FollowsUnfit joints joint) [] (not (may_lead n.draft.joint.kind) || not (may_lead (following_kind base.kind))) _ (unfit number at.0 at.1 is_number n) (fit number at.0 at.1 is_number n) (λ _. obeys-ok [] _ tt))))

  alone-obeys : (joint : Element) (base : UrdfJoint) → IsDraft links joint (record { joint = base; follow = None }) → Obeys (mimic_refusals joints joint) (joint_with names heads base None)
  alone-obeys joint base is_read =
      let none = λ (mimic : Element) (is : child (codes "mimic") joint ≡ Some mimic). said-none (child (codes "mimic") joint) None mimic is_read.follow refl is in
      obeys-ok (mimic_refusals joints joint) base (λ bad. none bad.mimic bad.is, (λ bad. none bad.follows.mimic bad.follows.is, (λ bad. none bad.follows.mimic bad.follows.is, tt)))

  joint-obeys : (joint : Element) (base : UrdfJoint) (follow : Option Follow) → IsDraft links joint (record { joint = base; follow = follow }) → Obeys (mimic_refusals joints joint) (joint_with names heads base follow)
  joint-obeys joint base None is_read = alone-obeys joint base is_read
  joint-obeys joint base (Some follow) is_read = obeys-value (mimic_of names heads base.kind follow) _ (mimic-obeys joint base follow is_read)

  pub joints-obey : (done : List UrdfJoint) (before elements : List Element) (behind : List Draft) → AllZip (IsDraft links) elements behind → Obeys (in_order (λ before joint. mimic_refusals joints joint) before elements) (joints_after names heads done behind)
  unfolding joints_after joint_of
  joints-obey done before [] [] each = obeys-ok [] done tt
  joints-obey done before [] (x ∷ xs) each = absurd each
  joints-obey done before (e ∷ es) [] each = absurd each
  joints-obey done before (e ∷ es) (x ∷ xs) each =
      let rest = in_order (λ before joint. mimic_refusals joints joint) (before ++ e ∷ []) es in
      subst (λ place. Obeys (at_place fault_at place (mimic_refusals joints e) ++ rest) (joints_after names heads done (x ∷ xs))) each.0.place
      (obeys-then (at_place fault_at x.joint.place (mimic_refusals joints e)) rest (placed fault_at x.joint.place (joint_with names heads x.joint x.follow)) _
      (obeys-placed fault_at x.joint.place (joint_with names heads x.joint x.follow) (joint-obeys e x.joint x.follow each.0))
      (λ joint _. joints-obey (done ++ joint ∷ []) (before ++ e ∷ []) es xs each.1))
