-- The joints that were read, with mimics by name, are those that the elements describe.
use Rattle.std.proofs.Common.{◌≡◌, ◌⊎◌, inl, inr, ℕ, ℤ, Bool, true, false, cond, not, ◌&&◌, List, [], ◌∷◌, ◌++◌, Option, Some, None, Result, Ok, refl, sym, ap, ◌∙◌, subst, append_assoc}
use Rattle.std.specs.Prelude.{codes, pos, bytes_eq, option_and_then}
use Rattle.std.specs.Ordering.{int_eq}
use Rattle.std.specs.List.{AllZip, list_any}
use Rattle.std.proofs.lemmas.Bool.Decides.{Decides-int_eq}
use Rattle.std.proofs.lemmas.Slice.Eq.{bytes_eq-Decides}
use Rattle.std.proofs.lemmas.List.{append-nil, map-append}
use Rattle.rb_num.specs.Interval.{Interval, interval, grid, zero_interval, one_interval}
use Rattle.rb_urdf.specs.declared.robot.UrdfKind.{UrdfKind}
use Rattle.rb_urdf.specs.declared.robot.UrdfKind.TheVariants.{Fixed, Revolute, Prismatic, Continuous, Planar, Floating}
use Rattle.rb_urdf.specs.declared.robot.UrdfLink.{UrdfLink}
use Rattle.rb_urdf.specs.declared.faults.UrdfFaultKind.{UrdfFaultKind}
use Rattle.rb_urdf.specs.declared.faults.UrdfFaultKind.TheVariants.{BadType, NoParent, NoChild, UnknownLink, PlanarAxis}
use Rattle.rb_urdf.specs.declared.joint.Ends.{Ends}
use Rattle.rb_urdf.specs.declared.joint.Follow.{Follow}
use Rattle.rb_urdf.specs.declared.joint.Draft.{Draft}
use Rattle.rb_urdf.specs.Robot.{plane_axis, names_of_links}
use Rattle.rb_tags.specs.Elements.{Element, child, attribute, attribute_in}
use Rattle.rb_urdf.specs.Numbers.{zeros, first_axis, number_or, origin_of}
use Rattle.rb_urdf.specs.Names.{name_after}
use Rattle.rb_urdf.specs.Joints.{kind_named, kind_of, end_of, ends_of, axis_of, follow_in, follow_of, is_planar, is_exactly, is_plane_axis, unmoved, draft_of, names_of_drafts, drafts_after}
use Rattle.rb_urdf.specs.Profile.{SaysNumber, SaysOrigin, HasName, NamesLink, SaysAxis, type_name}
use Rattle.rb_urdf.proofs.NumberLaws.{number_or-says, number_or-read, three_or-says, three_or-read, origin-says, origin-read}
use Rattle.rb_urdf.proofs.NameLaws.{name_after-says, name_after-read, differ-new, number-says, number-read}
use Rattle.rb_tags.specs.Names.{number_of_name, AreDifferent}
use Rattle.std.specs.Option.{ok_or}
use Rattle.rb_result.proofs.Results.{then-ok, found-ok, unless-ok, placed-ok}
use Rattle.std.proofs.lemmas.Bool.{and_parts}
use Rattle.rb_result.specs.Steps.{placed}
use Rattle.rb_urdf.specs.Faults.{fault_at}
use Rattle.rb_tags.proofs.Different.{differ-push}

-- types

either : (b : Bool) (first : UrdfKind) (others : Option UrdfKind) (kind : UrdfKind) → cond b (Some first) others ≡ Some kind → ((b ≡ true) × (first ≡ kind)) ⊎ (others ≡ Some kind)
either true first others kind h = let same : first ≡ kind = cc in inl (refl, same)
either false first others kind h = inr h

named : (text : List ℕ) (first kind : UrdfKind) → bytes_eq text (type_name first) ≡ true → first ≡ kind → text ≡ type_name kind
named text first kind h same = (bytes_eq-Decides text (type_name first)).0 h ∙ ap type_name same

kind_named-says : (text : List ℕ) (kind : UrdfKind) → kind_named text ≡ Some kind → text ≡ type_name kind
unfolding kind_named
kind_named-says text kind h =
    elim (either (bytes_eq text (codes "revolute")) Revolute _ kind h) [
      | inl e ↦ named text Revolute kind e.0 e.1
      | inr h ↦ elim (either (bytes_eq text (codes "continuous")) Continuous _ kind h) [
        | inl e ↦ named text Continuous kind e.0 e.1
        | inr h ↦ elim (either (bytes_eq text (codes "prismatic")) Prismatic _ kind h) [
          | inl e ↦ named text Prismatic kind e.0 e.1
          | inr h ↦ elim (either (bytes_eq text (codes "fixed")) Fixed _ kind h) [
            | inl e ↦ named text Fixed kind e.0 e.1
            | inr h ↦ elim (either (bytes_eq text (codes "floating")) Floating _ kind h) [
              | inl e ↦ named text Floating kind e.0 e.1
              | inr h ↦ elim (either (bytes_eq text (codes "planar")) Planar None kind h) [
                | inl e ↦ named text Planar kind e.0 e.1
                | inr h ↦ let clash : (let none : Option UrdfKind = None in none) ≡ Some kind = h in absurd cc
              ]
            ]
          ]
        ]
      ]
    ]

kind_named-read : (kind : UrdfKind) → kind_named (type_name kind) ≡ Some kind
unfolding kind_named
kind_named-read Fixed = refl
kind_named-read Revolute = refl
kind_named-read Prismatic = refl
kind_named-read Continuous = refl
kind_named-read Planar = refl
kind_named-read Floating = refl

kind_in : (said : Option (List ℕ)) (kind : UrdfKind) → option_and_then kind_named said ≡ Some kind → said ≡ Some (type_name kind)
kind_in None kind h = absurd cc
kind_in (Some text) kind h = ap Some (kind_named-says text kind h)

pub kind-says : (element : Element) (kind : UrdfKind) → kind_of element ≡ Ok kind → attribute (codes "type") element ≡ Some (type_name kind)
unfolding kind_of
kind-says element kind h = kind_in (attribute (codes "type") element) kind (found-ok _ BadType kind h)

pub kind-read : (element : Element) (kind : UrdfKind) → attribute (codes "type") element ≡ Some (type_name kind) → kind_of element ≡ Ok kind
unfolding kind_of
kind-read element kind h = rw (h, kind_named-read kind) refl

-- links

names-link : (links : List UrdfLink) (end : Option Element) (name : List ℕ) (number : ℕ) → attribute_in (codes "link") end ≡ Some name → number_of_name (names_of_links links) name ≡ Some number → NamesLink links end number
names-link links end name number said is = record { name = name; says = said; link = number-says (names_of_links links) name number is }

pub record EndsSaid (links : List UrdfLink) (element : Element) (ends : Ends) : Type 0 where
  pub parent : NamesLink links (child (codes "parent") element) ends.parent
  pub child_link : NamesLink links (child (codes "child") element) ends.child

ends-say : (links : List UrdfLink) (element : Element) (ends : Ends) → ends_of (names_of_links links) element ≡ Ok ends → EndsSaid links element ends
unfolding ends_of
ends-say links element ends h =
    let p = then-ok (ok_or (end_of (codes "parent") element) NoParent) _ ends h in
    let q = then-ok (ok_or (end_of (codes "child") element) NoChild) _ ends p.2 in
    let r = then-ok (ok_or (number_of_name (names_of_links links) p.0) UnknownLink) _ ends q.2 in
    let s = then-ok (ok_or (number_of_name (names_of_links links) q.0) UnknownLink) _ ends r.2 in
    let parent : r.0 ≡ ends.parent = cc in
    let other : s.0 ≡ ends.child = cc in
    record {
      parent = names-link links (child (codes "parent") element) p.0 ends.parent (found-ok _ NoParent p.0 p.1) (found-ok _ UnknownLink r.0 r.1 ∙ ap Some parent);
      child_link = names-link links (child (codes "child") element) q.0 ends.child (found-ok _ NoChild q.0 q.1) (found-ok _ UnknownLink s.0 s.1 ∙ ap Some other);
    }

-- axes

exact-is : (units : ℤ) (v : Interval) → is_exactly units v ≡ true → v ≡ interval units units
exact-is units v h =
    let p = and_parts (int_eq v.lo units) (int_eq v.hi units) h in
    let low : v.lo ≡ units = (Decides-int_eq v.lo units).0 p.0 in
    let high : v.hi ≡ units = (Decides-int_eq v.hi units).0 p.1 in
    ap (λ a. interval a v.hi) low ∙ ap (interval units) high

pub plane_axis-is : (v : List Interval) → is_plane_axis v ≡ true → v ≡ plane_axis
unfolding is_plane_axis
plane_axis-is [] h = absurd cc
plane_axis-is (x ∷ []) h = absurd cc
plane_axis-is (x ∷ y ∷ []) h = absurd cc
plane_axis-is (x ∷ y ∷ z ∷ w ∷ v) h = absurd cc
plane_axis-is (x ∷ y ∷ z ∷ []) h =
    let p = and_parts (is_exactly (pos 0) x && is_exactly (pos 0) y) (is_exactly (pos grid) z) h in
    let q = and_parts (is_exactly (pos 0) x) (is_exactly (pos 0) y) p.0 in
    rw (exact-is (pos 0) x q.0, exact-is (pos 0) y q.1, exact-is (pos grid) z p.1) refl

pub plane_axis-exact : is_plane_axis plane_axis ≡ true
unfolding is_plane_axis
plane_axis-exact = refl

pub planar_exact : (b : Bool) → not b ≡ false → b ≡ true
planar_exact true h = refl
planar_exact false h = absurd cc

axis-says : (kind : UrdfKind) (element : Element) (v : List Interval) → axis_of kind element ≡ Ok v → (is_planar kind && not (is_plane_axis v)) ≡ false → SaysAxis kind (child (codes "axis") element) v
unfolding axis_of
axis-says Fixed element v h exact = let same : v ≡ zeros = cc in same
axis-says Floating element v h exact = let same : v ≡ zeros = cc in same
axis-says Planar element v h exact = (three_or-says plane_axis (codes "xyz") (child (codes "axis") element) v h, plane_axis-is v (planar_exact (is_plane_axis v) exact))
axis-says Revolute element v h exact = three_or-says first_axis (codes "xyz") (child (codes "axis") element) v h
axis-says Prismatic element v h exact = three_or-says first_axis (codes "xyz") (child (codes "axis") element) v h
axis-says Continuous element v h exact = three_or-says first_axis (codes "xyz") (child (codes "axis") element) v h

-- mimics

pub record IsFollow (element : Element) (follow : Follow) : Type 0 where
  pub master : attribute (codes "joint") element ≡ follow.master
  pub multiplier : SaysNumber one_interval (codes "multiplier") (Some element) follow.multiplier
  pub offset : SaysNumber zero_interval (codes "offset") (Some element) follow.offset

abbrev pub SaysFollow : Option Element → Option Follow → Type 0
SaysFollow None None = Unit {0}
SaysFollow None (Some follow) = ⊥
SaysFollow (Some element) None = ⊥
SaysFollow (Some element) (Some follow) = IsFollow element follow

follow_in-says : (element : Element) (follow : Follow) → follow_in element ≡ Ok follow → IsFollow element follow
unfolding follow_in
follow_in-says element follow h =
    let p = then-ok (number_or one_interval (codes "multiplier") (Some element)) _ follow h in
    let q = then-ok (number_or zero_interval (codes "offset") (Some element)) _ follow p.2 in
    let master : attribute (codes "joint") element ≡ follow.master = cc in
    let multiplier : p.0 ≡ follow.multiplier = cc in
    let offset : q.0 ≡ follow.offset = cc in
    record {
      master = master;
      multiplier = number_or-says one_interval (codes "multiplier") (Some element) follow.multiplier (p.1 ∙ ap Ok multiplier);
      offset = number_or-says zero_interval (codes "offset") (Some element) follow.offset (q.1 ∙ ap Ok offset);
    }

follow-says : (element : Option Element) (follow : Option Follow) → follow_of element ≡ Ok follow → SaysFollow element follow
unfolding follow_of
follow-says None None h = tt
follow-says None (Some follow) h = absurd cc
follow-says (Some element) None h =
    let p = then-ok (follow_in element) _ _ h in
    let clash : Some p.0 ≡ (let none : Option Follow = None in none) = cc in
    absurd cc
follow-says (Some element) (Some follow) h =
    let p = then-ok (follow_in element) _ _ h in
    let same : p.0 ≡ follow = cc in
    follow_in-says element follow (p.1 ∙ ap Ok same)

-- joints

pub record IsDraft (links : List UrdfLink) (element : Element) (draft : Draft) : Type 0 where
  pub name : HasName element draft.joint.name
  pub place : draft.joint.place ≡ element.tag.place
  pub type_is : attribute (codes "type") element ≡ Some (type_name draft.joint.kind)
  pub ends : EndsSaid links element (record { parent = draft.joint.parent; child = draft.joint.child })
  pub origin : SaysOrigin (child (codes "origin") element) draft.joint.xyz draft.joint.rpy
  pub axis : SaysAxis draft.joint.kind (child (codes "axis") element) draft.joint.axis
  pub follow : SaysFollow (child (codes "mimic") element) draft.follow
  pub leads : draft.joint.mimic ≡ None

pub draft-says : (links : List UrdfLink) (names : List (List ℕ)) (element : Element) (draft : Draft) → draft_of (names_of_links links) names element ≡ Ok draft → IsDraft links element draft × (list_any (bytes_eq draft.joint.name) names ≡ false)
unfolding draft_of
draft-says links names element draft h =
    let a = then-ok (name_after names element) _ draft h in
    let b = then-ok (kind_of element) _ draft a.2 in
    let c = then-ok (ends_of (names_of_links links) element) _ draft b.2 in
    let d = then-ok (origin_of (child (codes "origin") element)) _ draft c.2 in
    let e = then-ok (axis_of b.0 element) _ draft d.2 in
    let f = then-ok (follow_of (child (codes "mimic") element)) _ draft e.2 in
    let u = unless-ok (is_planar b.0 && not (is_plane_axis e.0)) PlanarAxis (Ok (record { joint = unmoved a.0 element.tag.place b.0 c.0 d.0 e.0; follow = f.0 })) draft f.2 in
    let made : record { joint = unmoved a.0 element.tag.place b.0 c.0 d.0 e.0; follow = f.0 } ≡ draft = ok-same _ draft u.1 in
    let n = name_after-says names element a.0 a.1 in
    let Whole : Draft → Type 0 = λ x. IsDraft links element x × (list_any (bytes_eq x.joint.name) names ≡ false) in
    subst Whole made (
      record {
        name = n.0;
        place = refl;
        type_is = kind-says element b.0 b.1;
        ends = ends-say links element c.0 c.1;
        origin = origin-says (child (codes "origin") element) d.0 d.1;
        axis = axis-says b.0 element e.0 e.1 u.0;
        follow = follow-says (child (codes "mimic") element) f.0 f.1;
        leads = refl;
      },
      n.1,
    )
  where
    ok-same : (x y : Draft) → (let ok : Result Draft UrdfFaultKind = Ok x in ok) ≡ Ok y → x ≡ y
    ok-same x y e = cc

pub record DraftsRead (links : List UrdfLink) (drafts : List Draft) (elements : List Element) (all : List Draft) : Type 0 where
  pub more : List Draft
  pub are : all ≡ drafts ++ more
  pub each : AllZip (IsDraft links) elements more
  pub differ : AreDifferent (names_of_drafts all)

pub drafts-say : (links : List UrdfLink) (drafts : List Draft) (elements : List Element) (all : List Draft) → AreDifferent (names_of_drafts drafts) → drafts_after (names_of_links links) drafts elements ≡ Ok all → DraftsRead links drafts elements all
unfolding drafts_after
drafts-say links drafts [] all differ h =
    let same : drafts ≡ all = cc in
    record { more = []; are = sym same ∙ sym (append-nil drafts); each = tt; differ = subst (λ ds. AreDifferent (names_of_drafts ds)) same differ }
drafts-say links drafts (element ∷ elements) all differ h =
    let p = then-ok (placed fault_at element.tag.place (draft_of (names_of_links links) (names_of_drafts drafts) element)) _ all h in
    let d = draft-says links (names_of_drafts drafts) element p.0 (placed-ok fault_at element.tag.place _ p.0 p.1) in
    let names : names_of_drafts drafts ++ p.0.joint.name ∷ [] ≡ names_of_drafts (drafts ++ p.0 ∷ []) = sym (map-append (λ draft. draft.joint.name) drafts (p.0 ∷ [])) in
    let rest = drafts-say links (drafts ++ p.0 ∷ []) elements all (subst AreDifferent names (differ-push (names_of_drafts drafts) p.0.joint.name differ d.1)) p.2 in
    record { more = p.0 ∷ rest.more; are = rest.are ∙ append_assoc drafts (p.0 ∷ []) rest.more; each = (d.0, rest.each); differ = rest.differ }

-- joints that elements describe are read

pub ends-read : (links : List UrdfLink) (element : Element) (ends : Ends) → AreDifferent (names_of_links links) → EndsSaid links element ends → ends_of (names_of_links links) element ≡ Ok ends
unfolding ends_of
ends-read links element ends differ s =
    rw (s.parent.says, s.child_link.says, number-read (names_of_links links) s.parent.name ends.parent differ s.parent.link, number-read (names_of_links links) s.child_link.name ends.child differ s.child_link.link) refl

axis-read : (kind : UrdfKind) (element : Element) (v : List Interval) → SaysAxis kind (child (codes "axis") element) v → (axis_of kind element ≡ Ok v) × ((is_planar kind && not (is_plane_axis v)) ≡ false)
unfolding axis_of
axis-read Fixed element v s = (ap Ok (sym s), refl)
axis-read Floating element v s = (ap Ok (sym s), refl)
axis-read Planar element v s = (three_or-read plane_axis (codes "xyz") (child (codes "axis") element) v s.0, ap (λ a. not (is_plane_axis a)) s.1 ∙ ap not plane_axis-exact)
axis-read Revolute element v s = (three_or-read first_axis (codes "xyz") (child (codes "axis") element) v s, refl)
axis-read Prismatic element v s = (three_or-read first_axis (codes "xyz") (child (codes "axis") element) v s, refl)
axis-read Continuous element v s = (three_or-read first_axis (codes "xyz") (child (codes "axis") element) v s, refl)

follow_in-read : (element : Element) (follow : Follow) → IsFollow element follow → follow_in element ≡ Ok follow
unfolding follow_in
follow_in-read element follow s =
    rw (number_or-read one_interval (codes "multiplier") (Some element) follow.multiplier s.multiplier, number_or-read zero_interval (codes "offset") (Some element) follow.offset s.offset, s.master) refl

follow-read : (element : Option Element) (follow : Option Follow) → SaysFollow element follow → follow_of element ≡ Ok follow
unfolding follow_of
follow-read None None s = refl
follow-read None (Some follow) s = absurd s
follow-read (Some element) None s = absurd s
follow-read (Some element) (Some follow) s = rw (follow_in-read element follow s) refl

pub draft-read : (links : List UrdfLink) (names : List (List ℕ)) (element : Element) (draft : Draft) → AreDifferent (names_of_links links) → IsDraft links element draft → list_any (bytes_eq draft.joint.name) names ≡ false → draft_of (names_of_links links) names element ≡ Ok draft
unfolding draft_of
draft-read links names element draft differ s new =
    let j = draft.joint in
    let axis = axis-read j.kind element j.axis s.axis in
    rw (
      name_after-read names element j.name s.name new,
      kind-read element j.kind s.type_is,
      ends-read links element (record { parent = j.parent; child = j.child }) differ s.ends,
      origin-read (child (codes "origin") element) j.xyz j.rpy s.origin,
      axis.0,
      follow-read (child (codes "mimic") element) draft.follow s.follow,
      axis.1,
      ← s.place,
      ← s.leads,
    ) refl

pub drafts-read : (links : List UrdfLink) (done : List Draft) (elements : List Element) (drafts : List Draft) → AreDifferent (names_of_links links) → AllZip (IsDraft links) elements drafts → AreDifferent (names_of_drafts (done ++ drafts)) → drafts_after (names_of_links links) done elements ≡ Ok (done ++ drafts)
unfolding drafts_after
drafts-read links done [] [] apart each differ = ap Ok (sym (append-nil done))
drafts-read links done [] (draft ∷ drafts) apart each differ = absurd each
drafts-read links done (element ∷ elements) [] apart each differ = absurd each
drafts-read links done (element ∷ elements) (draft ∷ drafts) apart each differ =
    let names : names_of_drafts (done ++ draft ∷ drafts) ≡ names_of_drafts done ++ draft.joint.name ∷ names_of_drafts drafts = map-append (λ draft. draft.joint.name) done (draft ∷ drafts) in
    let new = differ-new (names_of_drafts done) (names_of_drafts drafts) draft.joint.name (subst AreDifferent names differ) in
    let more : (done ++ draft ∷ []) ++ drafts ≡ done ++ draft ∷ drafts = append_assoc done (draft ∷ []) drafts in
    rw (draft-read links (names_of_drafts done) element draft apart each.0 new)
    (drafts-read links (done ++ draft ∷ []) elements drafts apart each.1 (subst (λ ds. AreDifferent (names_of_drafts ds)) (sym more) differ) ∙ ap Ok more)
