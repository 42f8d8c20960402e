-- Reading is the profile, and refuses with the first fault.
use Rattle.std.proofs.Common.{◌≡◌, ◌≢◌, inl, inr, ℕ, Bool, true, false, cond, List, [], ◌∷◌, ◌++◌, Result, Ok, Err, refl, sym, ap, ◌∙◌, subst, append_assoc, true≢false}
use Rattle.std.specs.Prelude.{bytes_eq, codes, filter}
use Rattle.std.specs.List.{AllZip, AllByRecursion}
use Rattle.rb_result.specs.Steps.{placed}
use Rattle.rb_tags.specs.InOrder.{Refusal, ◌when◌, IsFirst}
use Rattle.rb_result.proofs.Results.{then-ok, placed-ok, not-both}
use Rattle.rb_tags.proofs.Obeying.{Obeys, first-once, first-left, first-right, first-later, obeys-then, obeys-next, obeys-value, obeys-none, obeys-placed, obeys-err}
use Rattle.rb_tags.specs.declared.tag.Tag.{Tag}
use Rattle.rb_tags.specs.Elements.{Element, element_of, elements, elements_inside}
use Rattle.rb_srdf.specs.declared.faults.SrdfFault.{SrdfFault}
use Rattle.rb_srdf.specs.declared.faults.SrdfFaultKind.TheVariants.{NoRobot, NoName}
use Rattle.rb_srdf.specs.declared.srdf.Group.{Group}
use Rattle.rb_srdf.specs.declared.parts.Parts.{Parts}
use Rattle.rb_srdf.specs.Faults.{fault_at}
use Rattle.rb_srdf.specs.Groups.{HoldsItself}
use Rattle.rb_srdf.specs.Srdf.{Semantics, names_of_groups}
use Rattle.rb_srdf.specs.Names.{name_in}
use Rattle.rb_srdf.specs.Parts.{no_parts, parts_after, is_settled, all_settled}
use Rattle.rb_srdf.specs.Read.{semantics_from, semantics_with, semantics_in, semantics_of, HasGroupLoop, IsRefused}
use Rattle.rb_srdf.specs.Profile.{HasName, IsGroup, IsState, IsVirtual, IsDescribed}
use Rattle.rb_srdf.specs.Refusals.{Lacks, element_refusals, name_refusals, loop_refusals, in_order, refusals, HasFault}
use Rattle.rb_srdf.specs.Laws.{IsRead}
use Rattle.rb_srdf.proofs.GivenLaws.{given-says, given-read, given-obeys, is-text, same-text}
use Rattle.rb_srdf.proofs.AgainLaws.{is_named}
use Rattle.rb_srdf.proofs.PartLaws.{PartsFit, none-fit, parts-say, all-parts-obey}
use Rattle.rb_srdf.proofs.PartReads.{parts-read}
use Rattle.rb_srdf.proofs.KnownLaws.{elements-named, all-settled-obey}
use Rattle.rb_srdf.proofs.SettledLaws.{settled-say, settled-read, groups-known, states-known, all-known}
use Rattle.rb_srdf.proofs.NamedLaws.{names-all}
use Rattle.rb_srdf.proofs.LoopLaws.{loop-first, first-loop}

-- a list beside the elements of a name is one beside those of that name among all, and the other way round

zip-elements : {A : Type 0} (R : Element → A → Type 0) (name : List ℕ) (tags : List Tag) (xs : List A) → AllZip R (filter (is_named name) (elements_inside 1 tags)) xs → AllZip R (elements name 1 tags) xs
zip-elements R name tags xs each = subst (λ es. AllZip R es xs) (sym (elements-named name 1 tags)) each

zip-named : {A : Type 0} (R : Element → A → Type 0) (name : List ℕ) (tags : List Tag) (xs : List A) → AllZip R (elements name 1 tags) xs → AllZip R (filter (is_named name) (elements_inside 1 tags)) xs
zip-named R name tags xs each = subst (λ es. AllZip R es xs) (elements-named name 1 tags) each

-- the parts that are read

record HasParts (name : List ℕ) (place : ℕ) (tags : List Tag) (semantics : Semantics) : Type 0 where
  parts : Parts
  fit : PartsFit (elements_inside 1 tags) parts
  settled : AllByRecursion (λ e. is_settled (names_of_groups parts.groups) e ≡ true) (elements_inside 1 tags)
  are : semantics_from name place parts ≡ semantics

parts-fit : (tags : List Tag) (parts : Parts) → parts_after no_parts (elements_inside 1 tags) ≡ Ok parts → PartsFit (elements_inside 1 tags) parts
parts-fit tags parts h = parts-say [] no_parts (elements_inside 1 tags) parts none-fit h

has-parts : (name : List ℕ) (place : ℕ) (tags : List Tag) (semantics : Semantics) → semantics_with name place tags ≡ Ok semantics → HasParts name place tags semantics
unfolding semantics_with
has-parts name place tags semantics h =
    let p = then-ok (parts_after no_parts (elements_inside 1 tags)) _ semantics h in
    let q = then-ok (all_settled (names_of_groups p.0.groups) (elements_inside 1 tags)) _ semantics p.2 in
    let made : semantics_from name place p.0 ≡ semantics = cc in
    record { parts = p.0; fit = parts-fit tags p.0 p.1; settled = settled-say (names_of_groups p.0.groups) (elements_inside 1 tags) q.0 q.1; are = made }

-- what is read of the outermost element
record HasRoot (tags : List Tag) (semantics : Semantics) : Type 0 where
  root : Tag
  behind : List Tag
  tags_are : tags ≡ root ∷ behind
  root_name : root.name ≡ codes "robot"
  name : List ℕ
  named : HasName (element_of root behind) name
  parts : HasParts name root.place behind semantics

has-root : (tags : List Tag) (semantics : Semantics) → semantics_of tags ≡ Ok semantics → HasRoot tags semantics
unfolding semantics_of semantics_in
has-root [] semantics h = absurd cc
has-root (root ∷ behind) semantics h = by (bytes_eq root.name (codes "robot")) refl h
  where
    by : (b : Bool) → bytes_eq root.name (codes "robot") ≡ b → cond b (semantics_in root behind) (Err (fault_at NoRobot root.place)) ≡ Ok semantics → HasRoot (root ∷ behind) semantics
    by false e h = absurd cc
    by true e h =
        let p = then-ok (placed fault_at root.place (name_in (codes "name") (element_of root behind))) (λ name. semantics_with name root.place behind) semantics h in
        record {
          root = root;
          behind = behind;
          tags_are = refl;
          root_name = is-text root.name (codes "robot") e;
          name = p.0;
          named = given-says (codes "name") (element_of root behind) p.0 (placed-ok fault_at root.place _ p.0 p.1);
          parts = has-parts p.0 root.place behind semantics p.2;
        }

pub reads-described : (tags : List Tag) (semantics : Semantics) → IsRead tags semantics → IsDescribed tags semantics
reads-described tags semantics read =
    let r = has-root tags semantics read.are in
    let parts = r.parts.parts in
    let fit = r.parts.fit in
    let no_loop : (k : ℕ) → HoldsItself parts.groups k → ⊥ = subst (λ (s : Semantics). (k : ℕ) → HoldsItself s.groups k → ⊥) (sym r.parts.are) read.no_loop in
    let all = elements_inside 1 r.behind in
    let names = names_of_groups parts.groups in
    subst (IsDescribed tags) r.parts.are (
    record {
      root = r.root;
      behind = r.behind;
      tags_are = r.tags_are;
      root_name = r.root_name;
      name = r.named;
      place = refl;
      groups = zip-elements IsGroup (codes "group") r.behind parts.groups fit.groups;
      states = zip-elements IsState (codes "group_state") r.behind parts.states fit.states;
      virtuals = zip-elements IsVirtual (codes "virtual_joint") r.behind parts.virtuals fit.virtuals;
      groups_differ = fit.groups_differ;
      states_differ = fit.states_differ;
      virtuals_differ = fit.virtuals_differ;
      items_known = groups-known names all parts.groups fit.groups r.parts.settled;
      states_known = states-known names all parts.states fit.states r.parts.settled;
      no_loop = no_loop;
    }
    )

with-read : (tags : List Tag) (semantics : Semantics) (d : IsDescribed tags semantics) → semantics_with semantics.name d.root.place d.behind ≡ Ok semantics
unfolding semantics_with
with-read tags semantics d =
    let all = elements_inside 1 d.behind in
    let gs = zip-named IsGroup (codes "group") d.behind semantics.groups d.groups in
    let ss = zip-named IsState (codes "group_state") d.behind semantics.states d.states in
    let vs = zip-named IsVirtual (codes "virtual_joint") d.behind semantics.virtuals d.virtuals in
    let parts : Parts = record { groups = semantics.groups; states = semantics.states; virtuals = semantics.virtuals } in
    let read : parts_after no_parts all ≡ Ok parts =
    parts-read no_parts all parts (record { groups = gs; states = ss; virtuals = vs; groups_differ = d.groups_differ; states_differ = d.states_differ; virtuals_differ = d.virtuals_differ }) in
    let settled = settled-read (names_of_groups semantics.groups) all (all-known (names_of_groups semantics.groups) all semantics.groups semantics.states gs ss d.items_known d.states_known) in
    rw (read, settled, ← d.place) refl

described-of : (tags : List Tag) (semantics : Semantics) → IsDescribed tags semantics → semantics_of tags ≡ Ok semantics
unfolding semantics_of semantics_in
described-of tags semantics d =
    let robot : bytes_eq d.root.name (codes "robot") ≡ true = same-text d.root.name (codes "robot") d.root_name in
    rw (d.tags_are, robot, given-read (codes "name") (element_of d.root d.behind) semantics.name d.name) (with-read tags semantics d)

pub described-read : (tags : List Tag) (semantics : Semantics) → IsDescribed tags semantics → IsRead tags semantics
described-read tags semantics d = record { are = described-of tags semantics d; no_loop = d.no_loop }

-- refusals but for loops, and those of loops

earlier : List Tag → List (Refusal SrdfFault)
earlier [] = fault_at NoRobot 0 when Unit {0} ∷ []
earlier (root ∷ behind) =
    fault_at NoRobot root.place when (root.name ≢ codes "robot")
    ∷ fault_at NoName root.place when Lacks (codes "name") (element_of root behind)
    ∷ (in_order element_refusals [] (elements_inside 1 behind) ++ in_order (λ before element. name_refusals (elements (codes "group") 1 behind) element) [] (elements_inside 1 behind))

abbrev group_elements : List Tag → List Element
group_elements [] = []
group_elements (root ∷ behind) = elements (codes "group") 1 behind

loops : List Tag → List (Refusal SrdfFault)
loops tags = in_order (loop_refusals (group_elements tags)) [] (group_elements tags)

in-turn : (tags : List Tag) → refusals tags ≡ earlier tags ++ loops tags
unfolding earlier loops
in-turn [] = refl
in-turn (root ∷ behind) =
    ap (λ rs. fault_at NoRobot root.place when (root.name ≢ codes "robot") ∷ fault_at NoName root.place when Lacks (codes "name") (element_of root behind) ∷ rs)
    (sym (append_assoc (in_order element_refusals [] (elements_inside 1 behind)) (in_order (λ before element. name_refusals (elements (codes "group") 1 behind) element) [] (elements_inside 1 behind)) (loops (root ∷ behind))))

with-obeys : (name : List ℕ) (place : ℕ) (tags : List Tag) → Obeys (in_order element_refusals [] (elements_inside 1 tags) ++ in_order (λ before element. name_refusals (elements (codes "group") 1 tags) element) [] (elements_inside 1 tags)) (semantics_with name place tags)
unfolding semantics_with
with-obeys name place tags =
    let all = elements_inside 1 tags in
    let groups = elements (codes "group") 1 tags in
    obeys-then (in_order element_refusals [] all) (in_order (λ before element. name_refusals groups element) [] all) (parts_after no_parts all) _ (all-parts-obey all)
    (λ parts e. obeys-value (all_settled (names_of_groups parts.groups) all) (λ _. semantics_from name place parts)
    (all-settled-obey groups parts.groups (zip-elements IsGroup (codes "group") tags parts.groups (parts-fit tags parts e).groups) [] all (names-all all parts (parts-fit tags parts e))))

earlier-obey : (tags : List Tag) → Obeys (earlier tags) (semantics_of tags)
unfolding earlier semantics_of semantics_in
earlier-obey [] = obeys-err (earlier []) (fault_at NoRobot 0) (inl (tt, refl))
earlier-obey (root ∷ behind) = by (bytes_eq root.name (codes "robot")) refl
  where
    parts : List (Refusal SrdfFault)
    parts = in_order element_refusals [] (elements_inside 1 behind) ++ in_order (λ before element. name_refusals (elements (codes "group") 1 behind) element) [] (elements_inside 1 behind)

    by : (b : Bool) → bytes_eq root.name (codes "robot") ≡ b → Obeys (earlier (root ∷ behind)) (cond b (semantics_in root behind) (Err (fault_at NoRobot root.place)))
    by false e = obeys-err (earlier (root ∷ behind)) (fault_at NoRobot root.place) (inl ((λ same. true≢false (sym (same-text root.name (codes "robot") same) ∙ e)), refl))
    by true e =
        obeys-none (fault_at NoRobot root.place when (root.name ≢ codes "robot") ∷ []) (fault_at NoName root.place when Lacks (codes "name") (element_of root behind) ∷ parts) (semantics_in root behind) ((λ other. other (is-text root.name (codes "robot") e)), tt)
        (obeys-next (placed fault_at root.place (name_in (codes "name") (element_of root behind))) (λ name. semantics_with name root.place behind)
        (obeys-placed fault_at root.place (name_in (codes "name") (element_of root behind)) (given-obeys (codes "name") (element_of root behind)))
        (λ name n. with-obeys name root.place behind))

-- the groups that are read are those of the group elements
groups-are : (tags : List Tag) (semantics : Semantics) → semantics_of tags ≡ Ok semantics → AllZip IsGroup (group_elements tags) semantics.groups
groups-are tags semantics h =
    let r = has-root tags semantics h in
    let are = zip-elements IsGroup (codes "group") r.behind r.parts.parts.groups r.parts.fit.groups in
    subst (λ (s : Semantics). AllZip IsGroup (group_elements tags) s.groups) r.parts.are (subst (λ ts. AllZip IsGroup (group_elements ts) r.parts.parts.groups) (sym r.tags_are) are)

pub refuses-faulty : (tags : List Tag) (fault : SrdfFault) → IsRefused tags fault → HasFault tags fault
unfolding loops
refuses-faulty tags fault (inl refused) =
    subst (λ rs. IsFirst rs fault) (sym (in-turn tags)) (first-left (earlier tags) (loops tags) fault ((earlier-obey tags).refuses fault refused))
refuses-faulty tags fault (inr looped) =
    subst (λ rs. IsFirst rs fault) (sym (in-turn tags)) (
    first-right (earlier tags) (loops tags) fault ((earlier-obey tags).gives looped.semantics looped.described)
    (loop-first (group_elements tags) looped.semantics.groups (groups-are tags looped.semantics looped.described) fault looped.loops)
    )

faulty-answer : (tags : List Tag) (fault : SrdfFault) (r : Result Semantics SrdfFault) → semantics_of tags ≡ r → IsFirst (earlier tags ++ loops tags) fault → IsRefused tags fault
unfolding loops
faulty-answer tags fault (Ok semantics) read first =
    let none = (earlier-obey tags).gives semantics read in
    inr (record { semantics = semantics; described = read; loops = first-loop (group_elements tags) semantics.groups (groups-are tags semantics read) fault (first-later (earlier tags) (loops tags) fault none first) })
faulty-answer tags fault (Err other) read first =
    let other_first = first-left (earlier tags) (loops tags) other ((earlier-obey tags).refuses other read) in
    inl (read ∙ ap Err (first-once (earlier tags ++ loops tags) other fault other_first first))

pub faulty-refused : (tags : List Tag) (fault : SrdfFault) → HasFault tags fault → IsRefused tags fault
faulty-refused tags fault first = faulty-answer tags fault (semantics_of tags) refl (subst (λ rs. IsFirst rs fault) (in-turn tags) first)

pub one-fault : (tags : List Tag) (fault other : SrdfFault) → HasFault tags fault → HasFault tags other → fault ≡ other
one-fault tags fault other first second = first-once (refusals tags) fault other first second

first-one : (groups : List Group) (fault : SrdfFault) → HasGroupLoop groups fault → ((k : ℕ) → HoldsItself groups k → ⊥) → ⊥
first-one groups fault loop none = none loop.number loop.first.loop

pub fault-excludes : (tags : List Tag) (semantics : Semantics) (fault : SrdfFault) → IsDescribed tags semantics → HasFault tags fault → ⊥
fault-excludes tags semantics fault d first = by (faulty-refused tags fault first)
  where
    read : semantics_of tags ≡ Ok semantics
    read = described-of tags semantics d

    by : IsRefused tags fault → ⊥
    by (inl refused) = not-both (semantics_of tags) semantics fault read refused
    by (inr looped) =
        let both : (let o : Result Semantics SrdfFault = Ok looped.semantics in o) ≡ Ok semantics = sym looped.described ∙ read in
        let same : looped.semantics ≡ semantics = cc in
        first-one semantics.groups fault (subst (λ (s : Semantics). HasGroupLoop s.groups fault) same looped.loops) d.no_loop
