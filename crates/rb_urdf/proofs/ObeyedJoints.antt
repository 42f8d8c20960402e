-- Joints are refused as the refusals say.
use Rattle.std.proofs.Common.{◌≡◌, ◌≢◌, ◌⊎◌, ℕ, zero, suc, ◌<◌, ◌≤◌, nat_lt, Bool, true, false, not, cond, ◌&&◌, List, [], ◌∷◌, length, map, get_or, slice_get, Option, Some, None, Ok, Err, refl, sym, ap, ◌∙◌, subst, arith, true≢false}
use Rattle.std.specs.Prelude.{codes, bytes_eq, position}
use Rattle.std.specs.List.{AllZip, AllByRecursion, position_or_len}
use Rattle.std.specs.Option.{ok_or}
use Rattle.std.proofs.lemmas.Slice.Eq.{bytes_eq-Decides}
use Rattle.std.proofs.lemmas.List.Sums.{prefix_len_passes}
use Rattle.std.proofs.lemmas.Bool.Decides.{nat_tests}
use Rattle.std.proofs.lemmas.Option.{same_Some}
use Rattle.rb_num.specs.Interval.{Interval, zero_interval, one_interval}
use Rattle.rb_tags.specs.Elements.{Element, child}
use Rattle.rb_tags.specs.Names.{number_of_name}
use Rattle.rb_tags.proofs.Folds.{IsFold}
use Rattle.rb_result.proofs.Results.{found-ok, found-err, same_ok}
use Rattle.rb_urdf.specs.declared.robot.UrdfKind.{UrdfKind}
use Rattle.rb_urdf.specs.declared.robot.UrdfKind.TheVariants.{Fixed, Revolute, Prismatic, Continuous, Planar, Floating}
use Rattle.rb_urdf.specs.declared.robot.UrdfLink.{UrdfLink}
use Rattle.rb_urdf.specs.declared.faults.UrdfFaultKind.{UrdfFaultKind}
use Rattle.rb_urdf.specs.declared.faults.UrdfFaultKind.TheVariants.{NoName, NameTwice, BadNumber, BadType, NoParent, NoChild, UnknownLink, PlanarAxis}
use Rattle.rb_urdf.specs.declared.joint.Draft.{Draft}
use Rattle.rb_urdf.specs.Faults.{fault_at}
use Rattle.rb_urdf.specs.Robot.{plane_axis, names_of_links}
use Rattle.rb_urdf.specs.Numbers.{zeros, first_axis, number_or, origin_of}
use Rattle.rb_urdf.specs.Names.{name_after}
use Rattle.rb_urdf.specs.Joints.{kind_of, end_of, ends_of, axis_of, follow_in, follow_of, is_planar, is_plane_axis, draft_of, drafts_after, names_of_drafts}
use Rattle.rb_urdf.specs.Profile.{SaysNumber, HasName, IsLink, SaysAxisNumbers}
use Rattle.rb_urdf.specs.Refusals.{LacksName, HasNameAgain, HasType, LacksEnd, NoneHasName, HasUnknownEnd, HasBadAxis, HasBadMimic, HasOtherAxis, joint_refusals, in_order}
use Rattle.rb_tags.specs.InOrder.{SaysNone, ◌when◌}
use Rattle.rb_urdf.proofs.NumberLaws.{three_or-says, three_or-read}
use Rattle.rb_urdf.proofs.NameLaws.{number-says}
use Rattle.rb_urdf.proofs.DraftLaws.{IsDraft, kind-says, kind-read, plane_axis-is, plane_axis-exact, planar_exact, draft-says}
use Rattle.rb_urdf.proofs.Zips.{beside_left, slice_get-of_map}
use Rattle.rb_tags.proofs.Obeying.{Obeys, obeys-ok, obeys-then, obeys-next, obeys-value, obeys-either, obeys-same, obeys-said, obeys-found, obeys-unless}
use Rattle.rb_urdf.proofs.ObeyedLinks.{number-obeys, three-obeys, origin-obeys, one-name, name_after-obeys, all-obey}

-- types

kind-kind : (joint : Element) (k : UrdfFaultKind) → kind_of joint ≡ Err k → BadType ≡ k
unfolding kind_of
kind-kind joint k h = (found-err _ BadType k h).0

kind-obeys : (joint : Element) → Obeys (BadType when SaysNone (HasType joint) ∷ []) (kind_of joint)
kind-obeys joint = obeys-said BadType (HasType joint) (kind_of joint) (kind-says joint) (kind-read joint) (kind-kind joint)

pub one-type : (joint : Element) (a b : UrdfKind) → HasType joint a → HasType joint b → a ≡ b
one-type joint a b p q = same_ok a b (sym (kind-read joint a p) ∙ kind-read joint b q)

-- a name that no element has

not-same : (name other : List ℕ) → bytes_eq name other ≡ false → name ≢ other
not-same name other h same = true≢false (sym ((bytes_eq-Decides name other).1 same) ∙ h)

some-none : (b : Bool) (n : ℕ) → cond b (Some n) None ≡ None → b ≡ false
some-none false n h = refl
some-none true n h = absurd cc

not-passed : (b : Bool) → not b ≡ true → b ≡ false
not-passed false h = refl
not-passed true h = absurd cc

no-place : (n m : ℕ) → nat_lt n m ≡ false → m ≤ n
no-place n m h = grind (arith, nat_tests)

position-none : (p : List ℕ → Bool) (xs : List (List ℕ)) (i : ℕ) (d : List ℕ) → position p xs ≡ None → i < length xs → p (get_or xs i d) ≡ false
position-none p xs i d h within =
    let none = no-place (position_or_len p xs) (length xs) (some-none (nat_lt (position_or_len p xs) (length xs)) (position_or_len p xs) h) in
    not-passed (p (get_or xs i d)) (prefix_len_passes (λ x. not (p x)) xs i d (omega (arith, none)))

pub each-at : {A : Type 0} (P : A → Type 0) (xs : List A) (n : ℕ) (x : A) → AllByRecursion P xs → slice_get xs n ≡ Some x → P x
each-at P [] n x each h = absurd cc
each-at P (y ∷ xs) zero x each h = subst P (same_Some y x h) each.0
each-at P (y ∷ xs) (suc n) x each h = each-at P xs n x each.1 h

module _ {A : Type 0} (name : A → List ℕ) (R : Element → A → Type 0) (named : (element : Element) (x : A) → R element x → HasName element (name x)) where
  none-has : (elements : List Element) (xs : List A) → AllZip R elements xs → (said : List ℕ) → ((i : ℕ) → i < length (map name xs) → bytes_eq said (get_or (map name xs) i said) ≡ false) → NoneHasName elements said
  none-has [] [] each said none = tt
  none-has [] (x ∷ xs) each said none = absurd each
  none-has (e ∷ elements) [] each said none = absurd each
  none-has (e ∷ elements) (x ∷ xs) each said none = (
    λ h. not-same said (name x) (none 0 (omega arith)) (one-name e said (name x) h (named e x each.0)),
    none-has elements xs each.1 said (λ i within. none (suc i) (omega arith)),
  )

  pub unknown-name : (elements : List Element) (xs : List A) → AllZip R elements xs → (said : List ℕ) → number_of_name (map name xs) said ≡ None → NoneHasName elements said
  unfolding number_of_name
  unknown-name elements xs each said h = none-has elements xs each said (λ i within. position-none (bytes_eq said) (map name xs) i said h within)

  known-name : (elements : List Element) (xs : List A) → AllZip R elements xs → (said : List ℕ) (n : ℕ) → number_of_name (map name xs) said ≡ Some n → ¬ NoneHasName elements said
  known-name elements xs each said n h = λ none.
      let x = slice_get-of_map name xs n said (number-says (map name xs) said n h) in
      let e = beside_left R elements xs each n x.0 x.1 in
      each-at (λ e. ¬ HasName e said) elements n e.0 none e.1 (subst (HasName e.0) x.2 (named e.0 x.0 e.2))

-- axes and mimics

module _ (joint : Element) where
  axis-obeys : (type : UrdfKind) → Obeys (BadNumber when SaysNone (SaysAxisNumbers type (child (codes "axis") joint)) ∷ []) (axis_of type joint)
  unfolding axis_of
  axis-obeys Fixed = obeys-ok _ zeros (λ none. none zeros refl, tt)
  axis-obeys Floating = obeys-ok _ zeros (λ none. none zeros refl, tt)
  axis-obeys Planar = three-obeys plane_axis (codes "xyz") (child (codes "axis") joint)
  axis-obeys Revolute = three-obeys first_axis (codes "xyz") (child (codes "axis") joint)
  axis-obeys Prismatic = three-obeys first_axis (codes "xyz") (child (codes "axis") joint)
  axis-obeys Continuous = three-obeys first_axis (codes "xyz") (child (codes "axis") joint)

  bad-axis-obeys : (type : UrdfKind) → HasType joint type → Obeys (BadNumber when HasBadAxis joint ∷ []) (axis_of type joint)
  bad-axis-obeys type is =
      obeys-same (λ bad. record { type = type; type_is = is; bad = bad })
      (λ bad. subst (λ t. SaysNone (SaysAxisNumbers t (child (codes "axis") joint))) (one-type joint bad.type type bad.type_is is) bad.bad)
      (axis-obeys type)

  follow_in-obeys : (mimic : Element) → child (codes "mimic") joint ≡ Some mimic → Obeys (BadNumber when HasBadMimic joint ∷ []) (follow_in mimic)
  unfolding follow_in
  follow_in-obeys mimic is =
      obeys-same (λ bad. record { mimic = mimic; is = is; bad = bad })
      (λ bad. subst HasBadNumbers (same_Some bad.mimic mimic (sym bad.is ∙ is)) bad.bad)
      (obeys-either (obeys-next (number_or one_interval (codes "multiplier") (Some mimic)) _ (number-obeys one_interval (codes "multiplier") (Some mimic))
      (λ multiplier _. obeys-value (number_or zero_interval (codes "offset") (Some mimic)) _ (number-obeys zero_interval (codes "offset") (Some mimic)))))
    where
      HasBadNumbers : Element → Type 0
      HasBadNumbers m = SaysNone (SaysNumber one_interval (codes "multiplier") (Some m)) ⊎ SaysNone (SaysNumber zero_interval (codes "offset") (Some m))

  follow-obeys : (said : Option Element) → child (codes "mimic") joint ≡ said → Obeys (BadNumber when HasBadMimic joint ∷ []) (follow_of said)
  unfolding follow_of
  follow-obeys None is = obeys-ok _ None (λ bad. let clash : (let none : Option Element = None in none) ≡ Some bad.mimic = sym is ∙ bad.is in absurd cc, tt)
  follow-obeys (Some mimic) is = obeys-value (follow_in mimic) _ (follow_in-obeys mimic is)

  -- the axis of a planar joint

  other-axis : (type : UrdfKind) (axis : List Interval) → HasType joint type → axis_of type joint ≡ Ok axis → (is_planar type && not (is_plane_axis axis)) ≡ true → HasOtherAxis joint
  unfolding axis_of
  other-axis Fixed axis t a h = absurd cc
  other-axis Floating axis t a h = absurd cc
  other-axis Revolute axis t a h = absurd cc
  other-axis Prismatic axis t a h = absurd cc
  other-axis Continuous axis t a h = absurd cc
  other-axis Planar axis t a h = record {
    type_is = t;
    axis = axis;
    says = three_or-says plane_axis (codes "xyz") (child (codes "axis") joint) axis a;
    other = λ same. let exact : is_plane_axis axis ≡ true = ap is_plane_axis same ∙ plane_axis-exact in true≢false (sym h ∙ ap not exact);
  }

  same-axis : (type : UrdfKind) (axis : List Interval) → HasType joint type → axis_of type joint ≡ Ok axis → (is_planar type && not (is_plane_axis axis)) ≡ false → ¬ HasOtherAxis joint
  unfolding axis_of
  same-axis type axis t a h = λ bad.
      let planar = one-type joint type Planar t bad.type_is in
      let read : axis_of Planar joint ≡ Ok axis = subst (λ t. axis_of t joint ≡ Ok axis) planar a in
      let same : bad.axis ≡ axis = same_ok bad.axis axis (sym (three_or-read plane_axis (codes "xyz") (child (codes "axis") joint) bad.axis bad.says) ∙ read) in
      let exact : not (is_plane_axis axis) ≡ false = subst (λ t. (is_planar t && not (is_plane_axis axis)) ≡ false) planar h in
      bad.other (same ∙ plane_axis-is axis (planar_exact (is_plane_axis axis) exact))

-- the links that a joint stands between

module _ (elements : List Element) (links : List UrdfLink) (are_links : AllZip IsLink elements links) (before : List Element) (joint : Element) where
  end-obeys : (end name : List ℕ) → end_of end joint ≡ Some name → Obeys (UnknownLink when HasUnknownEnd elements end joint ∷ []) (ok_or (number_of_name (names_of_links links) name) UnknownLink)
  end-obeys end name is =
      obeys-found UnknownLink (HasUnknownEnd elements end joint) (number_of_name (names_of_links links) name)
      (λ n h bad. known-name (λ link. link.name) IsLink (λ e l s. s.name) elements links are_links name n h (subst (NoneHasName elements) (same_Some bad.name name (sym bad.says ∙ is)) bad.unknown))
      (λ h. record { name = name; says = is; unknown = unknown-name (λ link. link.name) IsLink (λ e l s. s.name) elements links are_links name h })

  found-end : (end : List ℕ) (k : UrdfFaultKind) → Obeys (k when LacksEnd end joint ∷ []) (ok_or (end_of end joint) k)
  found-end end k = obeys-found k (LacksEnd end joint) (end_of end joint) (λ name is none. let clash : Some name ≡ None = sym is ∙ none in absurd cc) (λ none. none)

  ends-obey : Obeys (NoParent when LacksEnd (codes "parent") joint ∷ NoChild when LacksEnd (codes "child") joint ∷ UnknownLink when (HasUnknownEnd elements (codes "parent") joint ⊎ HasUnknownEnd elements (codes "child") joint) ∷ []) (ends_of (names_of_links links) joint)
  unfolding ends_of
  ends-obey =
      obeys-next (ok_or (end_of (codes "parent") joint) NoParent) _ (found-end (codes "parent") NoParent)
      (λ parent p. obeys-next (ok_or (end_of (codes "child") joint) NoChild) _ (found-end (codes "child") NoChild)
      (λ other c. obeys-either (obeys-next (ok_or (number_of_name (names_of_links links) parent) UnknownLink) _ (end-obeys (codes "parent") parent (found-ok (end_of (codes "parent") joint) NoParent parent p))
      (λ n _. obeys-value (ok_or (number_of_name (names_of_links links) other) UnknownLink) _ (end-obeys (codes "child") other (found-ok (end_of (codes "child") joint) NoChild other c))))))

  draft-obeys : (drafts : List Draft) → AllZip (IsDraft links) before drafts → Obeys (joint_refusals elements before joint) (draft_of (names_of_links links) (names_of_drafts drafts) joint)
  unfolding draft_of
  draft-obeys drafts each =
      obeys-then (NoName when LacksName joint ∷ NameTwice when HasNameAgain before joint ∷ []) _ (name_after (names_of_drafts drafts) joint) _
      (name_after-obeys (λ draft. draft.joint.name) (IsDraft links) (λ e d s. s.name) before drafts each joint)
      (λ name _. obeys-next (kind_of joint) _ (kind-obeys joint)
      (λ type t. obeys-then (NoParent when LacksEnd (codes "parent") joint ∷ NoChild when LacksEnd (codes "child") joint ∷ UnknownLink when (HasUnknownEnd elements (codes "parent") joint ⊎ HasUnknownEnd elements (codes "child") joint) ∷ []) _ (ends_of (names_of_links links) joint) _ ends-obey
      (λ ends _. obeys-either (obeys-next (origin_of (child (codes "origin") joint)) _ (origin-obeys (child (codes "origin") joint))
      (λ origin _. obeys-either (obeys-next (axis_of type joint) _ (bad-axis-obeys joint type (kind-says joint type t))
      (λ axis a. obeys-next (follow_of (child (codes "mimic") joint)) _ (follow-obeys joint (child (codes "mimic") joint) refl)
      (λ follow _. obeys-unless PlanarAxis (HasOtherAxis joint) [] (is_planar type && not (is_plane_axis axis)) _ (other-axis joint type axis (kind-says joint type t) a) (same-axis joint type axis (kind-says joint type t) a) (λ _. obeys-ok [] _ tt)))))))))

drafts_fold : (links : List (List ℕ)) → IsFold fault_at (drafts_after links) (λ drafts element. draft_of links (names_of_drafts drafts) element)
unfolding drafts_after
drafts_fold links = record { none = λ xs. refl; more = λ xs e es. refl }

pub drafts-obey : (link_elements : List Element) (links : List UrdfLink) → AllZip IsLink link_elements links → (elements : List Element) → Obeys (in_order (joint_refusals link_elements) [] elements) (drafts_after (names_of_links links) [] elements)
drafts-obey link_elements links are_links elements =
    all-obey (drafts_fold (names_of_links links)) (IsDraft links) (joint_refusals link_elements)
    (λ made element draft h. (draft-says links (names_of_drafts made) element draft h).0)
    (λ before made each joint. draft-obeys link_elements links are_links before joint made each)
    [] [] elements tt
