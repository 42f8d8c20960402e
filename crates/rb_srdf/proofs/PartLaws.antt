-- The groups, states and virtual joints that were read are those that the elements describe.
use Rattle.std.proofs.Common.{◌≡◌, ◌≢◌, ◌⊎◌, inl, inr, ℕ, Bool, true, false, ◌&&◌, List, [], ◌∷◌, ◌++◌, map, Result, Ok, refl, sym, ap, ◌∙◌, subst, append_assoc, true≢false, arith}
use Rattle.std.specs.Prelude.{bytes_eq, codes, filter}
use Rattle.std.specs.List.{AllZip, AllPairs}
use Rattle.std.proofs.lemmas.List.{append-nil, map-append}
use Rattle.std.proofs.lemmas.List.Elements.{filter-append}
use Rattle.rb_result.specs.Steps.{placed}
use Rattle.rb_tags.specs.InOrder.{at_place}
use Rattle.rb_result.proofs.Results.{then-ok, placed-ok}
use Rattle.rb_tags.proofs.Obeying.{Obeys, obeys-ok, obeys-value, obeys-if, obeys-placed, obeys-along}
use Rattle.rb_tags.specs.Elements.{Element}
use Rattle.rb_tags.specs.Names.{AreDifferent}
use Rattle.rb_tags.proofs.Different.{differ-push, differ-none}
use Rattle.rb_srdf.specs.declared.faults.SrdfFaultKind.{SrdfFaultKind}
use Rattle.rb_srdf.specs.declared.srdf.GroupState.{GroupState}
use Rattle.rb_srdf.specs.declared.parts.Parts.{Parts}
use Rattle.rb_srdf.specs.Faults.{fault_at}
use Rattle.rb_srdf.specs.Names.{has_name}
use Rattle.rb_srdf.specs.ReadGroups.{group_of}
use Rattle.rb_srdf.specs.ReadStates.{state_of}
use Rattle.rb_srdf.specs.StateNames.{is_state, name_of_state, names_of_states}
use Rattle.rb_tags.proofs.Numbering.{list_any-map}
use Rattle.rb_srdf.specs.ReadVirtuals.{virtual_of}
use Rattle.rb_srdf.specs.Parts.{no_parts, with_group, with_state, with_virtual, parts_with, parts_after}
use Rattle.rb_srdf.specs.Srdf.{names_of_groups, names_of_virtuals, AreOtherStates}
use Rattle.rb_srdf.specs.Profile.{IsGroup, IsState, IsVirtual}
use Rattle.rb_srdf.specs.Refusals.{element_refusals, in_order}
use Rattle.rb_srdf.proofs.GivenLaws.{is-text, same-text, other-text}
use Rattle.rb_srdf.proofs.AgainLaws.{is_named}
use Rattle.rb_srdf.proofs.GroupLaws.{group-says, group-obeys}
use Rattle.rb_srdf.proofs.StateLaws.{state-says, state-obeys}
use Rattle.rb_srdf.proofs.VirtualLaws.{virtual-says, virtual-obeys}
use Rattle.rb_srdf.proofs.Lists.{zip-push, pairs-push, pairs-new}

-- what an element is by its name

pub record Tests (element : Element) (group state virtual : Bool) : Type 0 where
  pub group_is : is_named (codes "group") element ≡ group
  pub state_is : is_named (codes "group_state") element ≡ state
  pub virtual_is : is_named (codes "virtual_joint") element ≡ virtual

pub tests : (element : Element) → Tests element true false false ⊎ (Tests element false true false ⊎ (Tests element false false true ⊎ Tests element false false false))
tests element = by (is_named (codes "group") element) (is_named (codes "group_state") element) (is_named (codes "virtual_joint") element) refl refl refl
  where
    other : (tag name : List ℕ) (b : Bool) → is_named tag element ≡ true → bytes_eq tag name ≡ b → is_named name element ≡ b
    other tag name b e f = ap (λ t. bytes_eq t name) (is-text element.tag.name tag e) ∙ f

    by : (a b c : Bool) → is_named (codes "group") element ≡ a → is_named (codes "group_state") element ≡ b → is_named (codes "virtual_joint") element ≡ c → Tests element true false false ⊎ (Tests element false true false ⊎ (Tests element false false true ⊎ Tests element false false false))
    by true b c g s v = inl (record { group_is = g; state_is = other (codes "group") (codes "group_state") false g refl; virtual_is = other (codes "group") (codes "virtual_joint") false g refl })
    by false true c g s v = inr (inl (record { group_is = g; state_is = s; virtual_is = other (codes "group_state") (codes "virtual_joint") false s refl }))
    by false false true g s v = inr (inr (inl (record { group_is = g; state_is = s; virtual_is = v })))
    by false false false g s v = inr (inr (inr (record { group_is = g; state_is = s; virtual_is = v })))

pub as-group : (parts : Parts) (element : Element) (b c : Bool) → Tests element true b c → parts_with parts element ≡ with_group parts element
unfolding parts_with
as-group parts element b c t = rw t.group_is refl

pub as-state : (parts : Parts) (element : Element) (c : Bool) → Tests element false true c → parts_with parts element ≡ with_state parts element
unfolding parts_with
as-state parts element c t = rw (t.group_is, t.state_is) refl

pub as-virtual : (parts : Parts) (element : Element) → Tests element false false true → parts_with parts element ≡ with_virtual parts element
unfolding parts_with
as-virtual parts element t = rw (t.group_is, t.state_is, t.virtual_is) refl

pub as-other : (parts : Parts) (element : Element) → Tests element false false false → parts_with parts element ≡ Ok parts
unfolding parts_with
as-other parts element t = rw (t.group_is, t.state_is, t.virtual_is) refl

-- lists that differ

apart_names : (a b : List ℕ) → bytes_eq b a ≡ false → a ≢ b
apart_names a b h same = true≢false (sym (same-text b a (sym same)) ∙ h)

names_apart : (a b : List ℕ) → a ≢ b → bytes_eq b a ≡ false
names_apart a b differ = other-text b a (λ e. differ (sym e))

abbrev pub same_state : GroupState → GroupState → Bool
same_state new old = is_state new.group new.name (name_of_state old)

apart_states : (a b : GroupState) → same_state b a ≡ false → AreOtherStates a b
apart_states a b h group name =
    let both : same_state b a ≡ true = rw (same-text b.group a.group (sym group), same-text b.name a.name (sym name)) refl in
    true≢false (sym both ∙ h)

pub states_apart : (a b : GroupState) → AreOtherStates a b → same_state b a ≡ false
states_apart a b differ = by (bytes_eq b.group a.group) (bytes_eq b.name a.name) refl refl
  where
    by : (g n : Bool) → bytes_eq b.group a.group ≡ g → bytes_eq b.name a.name ≡ n → (g && n) ≡ false
    by false n e f = refl
    by true false e f = refl
    by true true e f = absurd (differ (sym (is-text b.group a.group e)) (sym (is-text b.name a.name f)))

module _ {A : Type 0} (name : A → List ℕ) where
  named-push : (xs : List A) (x : A) → AreDifferent (map name xs) → has_name (map name xs) (name x) ≡ false → AreDifferent (map name (xs ++ x ∷ []))
  named-push xs x differ new = subst AreDifferent (sym (map-append name xs (x ∷ []))) (differ-push (map name xs) (name x) differ new)

  pub named-new : (xs others : List A) (x : A) → AreDifferent (map name (xs ++ x ∷ others)) → has_name (map name xs) (name x) ≡ false
  named-new xs others x differ =
      pairs-new (λ a b. a ≢ b) bytes_eq names_apart (map name xs) (map name others) (name x)
      (subst AreDifferent (map-append name xs (x ∷ others)) differ)

-- the elements of a name among those before and one more

module _ (p : Element → Bool) (before : List Element) (element : Element) where
  kept : p element ≡ true → filter p (before ++ element ∷ []) ≡ filter p before ++ element ∷ []
  kept e = filter-append p before (element ∷ []) ∙ rw e refl

  passed : p element ≡ false → filter p (before ++ element ∷ []) ≡ filter p before
  passed e = filter-append p before (element ∷ []) ∙ rw e (append-nil (filter p before))

  module _ {A : Type 0} (R : Element → A → Type 0) (xs : List A) (each : AllZip R (filter p before) xs) where
    zip-kept : p element ≡ true → (x : A) → R element x → AllZip R (filter p (before ++ element ∷ [])) (xs ++ x ∷ [])
    zip-kept e x r = subst (λ es. AllZip R es (xs ++ x ∷ [])) (sym (kept e)) (zip-push R (filter p before) xs element x each r)

    zip-passed : p element ≡ false → AllZip R (filter p (before ++ element ∷ [])) xs
    zip-passed e = subst (λ es. AllZip R es xs) (sym (passed e)) each

-- the parts are those of the elements so far
pub record PartsFit (before : List Element) (parts : Parts) : Type 0 where
  pub groups : AllZip IsGroup (filter (is_named (codes "group")) before) parts.groups
  pub states : AllZip IsState (filter (is_named (codes "group_state")) before) parts.states
  pub virtuals : AllZip IsVirtual (filter (is_named (codes "virtual_joint")) before) parts.virtuals
  pub groups_differ : AreDifferent (names_of_groups parts.groups)
  pub states_differ : AllPairs AreOtherStates parts.states
  pub virtuals_differ : AreDifferent (names_of_virtuals parts.virtuals)

pub none-fit : PartsFit [] no_parts
none-fit = record { groups = tt; states = tt; virtuals = tt; groups_differ = differ-none; states_differ = λ i j d lt within. absurd (omega arith); virtuals_differ = differ-none }

parts-fit : (before : List Element) (parts more : Parts) (element : Element) → PartsFit before parts → parts_with parts element ≡ Ok more → PartsFit (before ++ element ∷ []) more
parts-fit before parts more element f h =
    let group = is_named (codes "group") in
    let state = is_named (codes "group_state") in
    let virtual = is_named (codes "virtual_joint") in
    elim (tests element) [
      | inl t ↦
          let p = then-ok (group_of (names_of_groups parts.groups) element) _ more (sym (as-group parts element false false t) ∙ h) in
          let s = group-says (names_of_groups parts.groups) element p.0 p.1 in
          let made : (let m : Parts = record parts { groups = parts.groups ++ p.0 ∷ [] } in m) ≡ more = cc in
          subst (PartsFit (before ++ element ∷ [])) made (
          record {
            groups = zip-kept group before element IsGroup parts.groups f.groups t.group_is p.0 s.0;
            states = zip-passed state before element IsState parts.states f.states t.state_is;
            virtuals = zip-passed virtual before element IsVirtual parts.virtuals f.virtuals t.virtual_is;
            groups_differ = named-push (λ g. g.name) parts.groups p.0 f.groups_differ s.1;
            states_differ = f.states_differ;
            virtuals_differ = f.virtuals_differ;
          }
          )
      | inr (inl t) ↦
          let p = then-ok (state_of (names_of_states parts.states) element) _ more (sym (as-state parts element false t) ∙ h) in
          let s = state-says (names_of_states parts.states) element p.0 p.1 in
          let made : (let m : Parts = record parts { states = parts.states ++ p.0 ∷ [] } in m) ≡ more = cc in
          subst (PartsFit (before ++ element ∷ [])) made (
          record {
            groups = zip-passed group before element IsGroup parts.groups f.groups t.group_is;
            states = zip-kept state before element IsState parts.states f.states t.state_is p.0 s.0;
            virtuals = zip-passed virtual before element IsVirtual parts.virtuals f.virtuals t.virtual_is;
            groups_differ = f.groups_differ;
            states_differ = pairs-push AreOtherStates same_state apart_states parts.states p.0 f.states_differ (sym (list_any-map name_of_state (is_state p.0.group p.0.name) parts.states) ∙ s.1);
            virtuals_differ = f.virtuals_differ;
          }
          )
      | inr (inr (inl t)) ↦
          let p = then-ok (virtual_of (names_of_virtuals parts.virtuals) element) _ more (sym (as-virtual parts element t) ∙ h) in
          let s = virtual-says (names_of_virtuals parts.virtuals) element p.0 p.1 in
          let made : (let m : Parts = record parts { virtuals = parts.virtuals ++ p.0 ∷ [] } in m) ≡ more = cc in
          subst (PartsFit (before ++ element ∷ [])) made (
          record {
            groups = zip-passed group before element IsGroup parts.groups f.groups t.group_is;
            states = zip-passed state before element IsState parts.states f.states t.state_is;
            virtuals = zip-kept virtual before element IsVirtual parts.virtuals f.virtuals t.virtual_is p.0 s.0;
            groups_differ = f.groups_differ;
            states_differ = f.states_differ;
            virtuals_differ = named-push (λ v. v.name) parts.virtuals p.0 f.virtuals_differ s.1;
          }
          )
      | inr (inr (inr t)) ↦
          let clash : (let o : Result Parts SrdfFaultKind = Ok parts in o) ≡ Ok more = sym (as-other parts element t) ∙ h in
          let same : parts ≡ more = cc in
          subst (PartsFit (before ++ element ∷ [])) same (
          record {
            groups = zip-passed group before element IsGroup parts.groups f.groups t.group_is;
            states = zip-passed state before element IsState parts.states f.states t.state_is;
            virtuals = zip-passed virtual before element IsVirtual parts.virtuals f.virtuals t.virtual_is;
            groups_differ = f.groups_differ;
            states_differ = f.states_differ;
            virtuals_differ = f.virtuals_differ;
          }
          )
    ]

parts-obey : (before : List Element) (parts : Parts) (element : Element) → PartsFit before parts → Obeys (element_refusals before element) (parts_with parts element)
unfolding parts_with
parts-obey before parts element f =
    obeys-if (bytes_eq element.tag.name (codes "group")) (with_group parts element) _
    (λ is. obeys-value (group_of (names_of_groups parts.groups) element) _ (group-obeys before parts.groups f.groups element (is-text element.tag.name (codes "group") is)))
    (λ _. obeys-if (bytes_eq element.tag.name (codes "group_state")) (with_state parts element) _
    (λ is. obeys-value (state_of (names_of_states parts.states) element) _ (state-obeys before parts.states f.states element (is-text element.tag.name (codes "group_state") is)))
    (λ _. obeys-if (bytes_eq element.tag.name (codes "virtual_joint")) (with_virtual parts element) (Ok parts)
    (λ is. obeys-value (virtual_of (names_of_virtuals parts.virtuals) element) _ (virtual-obeys before parts.virtuals f.virtuals element (is-text element.tag.name (codes "virtual_joint") is)))
    (λ _. obeys-ok [] parts tt)))

-- all parts

pub parts-say : (before : List Element) (done : Parts) (elements : List Element) (all : Parts) → PartsFit before done → parts_after done elements ≡ Ok all → PartsFit (before ++ elements) all
unfolding parts_after
parts-say before done [] all f h =
    let same : done ≡ all = cc in
    subst (λ es. PartsFit es all) (sym (append-nil before)) (subst (PartsFit before) same f)
parts-say before done (element ∷ elements) all f h =
    let p = then-ok (placed fault_at element.tag.place (parts_with done element)) _ all h in
    let g = parts-fit before done p.0 element f (placed-ok fault_at element.tag.place (parts_with done element) p.0 p.1) in
    subst (λ es. PartsFit es all) (append_assoc before (element ∷ []) elements) (parts-say (before ++ element ∷ []) p.0 elements all g p.2)

pub all-parts-obey : (elements : List Element) → Obeys (in_order element_refusals [] elements) (parts_after no_parts elements)
unfolding parts_after
all-parts-obey elements =
    obeys-along parts_after (λ parts element. placed fault_at element.tag.place (parts_with parts element)) (λ before element. at_place fault_at element.tag.place (element_refusals before element)) PartsFit
    (λ parts. refl) (λ parts element others. refl)
    (λ before parts element f. obeys-placed fault_at element.tag.place (parts_with parts element) (parts-obey before parts element f))
    (λ before parts more element f e. parts-fit before parts more element f (placed-ok fault_at element.tag.place (parts_with parts element) more e))
    [] no_parts elements none-fit
