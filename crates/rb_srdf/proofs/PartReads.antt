-- The groups, states and virtual joints that elements describe are read.
use Rattle.std.proofs.Common.{◌≡◌, inl, inr, true, false, List, [], ◌∷◌, ◌++◌, Ok, refl, sym, ap, ◌∙◌, subst, append_assoc}
use Rattle.std.specs.Prelude.{codes, filter}
use Rattle.std.specs.List.{AllZip, AllPairs}
use Rattle.std.proofs.lemmas.List.{append-nil}
use Rattle.rb_tags.specs.Elements.{Element}
use Rattle.rb_tags.specs.Names.{AreDifferent}
use Rattle.rb_srdf.specs.declared.srdf.Group.{Group}
use Rattle.rb_srdf.specs.declared.srdf.Virtual.{Virtual}
use Rattle.rb_srdf.specs.declared.parts.Parts.{Parts}
use Rattle.rb_srdf.specs.StateNames.{is_state, name_of_state, names_of_states}
use Rattle.rb_tags.proofs.Numbering.{list_any-map}
use Rattle.rb_srdf.specs.Parts.{parts_with, parts_after}
use Rattle.rb_srdf.specs.Srdf.{names_of_groups, names_of_virtuals, AreOtherStates}
use Rattle.rb_srdf.specs.Profile.{IsGroup, IsState, IsVirtual}
use Rattle.rb_srdf.proofs.AgainLaws.{is_named}
use Rattle.rb_srdf.proofs.GroupLaws.{group-read}
use Rattle.rb_srdf.proofs.StateLaws.{state-read}
use Rattle.rb_srdf.proofs.VirtualLaws.{virtual-read}
use Rattle.rb_srdf.proofs.PartLaws.{Tests, tests, as-group, as-state, as-virtual, as-other, same_state, states_apart, named-new}
use Rattle.rb_srdf.proofs.Lists.{zip-first, zip-none, pairs-new}

-- these parts and more
abbrev joined : Parts → Parts → Parts
joined done more = record { groups = done.groups ++ more.groups; states = done.states ++ more.states; virtuals = done.virtuals ++ more.virtuals }

-- more parts, which elements describe
pub record Describes (elements : List Element) (done more : Parts) : Type 0 where
  pub groups : AllZip IsGroup (filter (is_named (codes "group")) elements) more.groups
  pub states : AllZip IsState (filter (is_named (codes "group_state")) elements) more.states
  pub virtuals : AllZip IsVirtual (filter (is_named (codes "virtual_joint")) elements) more.virtuals
  pub groups_differ : AreDifferent (names_of_groups (done.groups ++ more.groups))
  pub states_differ : AllPairs AreOtherStates (done.states ++ more.states)
  pub virtuals_differ : AreDifferent (names_of_virtuals (done.virtuals ++ more.virtuals))

-- the parts of the first element are taken, and the others are described by the others
record Taken (element : Element) (elements : List Element) (done more : Parts) : Type 0 where
  next : Parts
  others : Parts
  taken : parts_with done element ≡ Ok next
  rest : Describes elements next others
  are : joined next others ≡ joined done more

take-group : (element : Element) (elements : List Element) (done more : Parts) → Tests element true false false → Describes (element ∷ elements) done more → Taken element elements done more
take-group element elements done more t d =
    let u = zip-first IsGroup element (filter (is_named (codes "group")) elements) more.groups (rw t.group_is at d.groups) in
    let all : (done.groups ++ u.0 ∷ []) ++ u.1 ≡ done.groups ++ more.groups = append_assoc done.groups (u.0 ∷ []) u.1 ∙ ap (λ gs. done.groups ++ gs) (sym u.2) in
    let new = named-new (λ (g : Group). g.name) done.groups u.1 u.0 (subst (λ gs. AreDifferent (names_of_groups (done.groups ++ gs))) u.2 d.groups_differ) in
    record {
      next = record done { groups = done.groups ++ u.0 ∷ [] };
      others = record more { groups = u.1 };
      taken = as-group done element false false t ∙ rw (group-read (names_of_groups done.groups) element u.0 u.3 new) refl;
      rest = record {
        groups = u.4;
        states = rw t.state_is at d.states;
        virtuals = rw t.virtual_is at d.virtuals;
        groups_differ = subst (λ gs. AreDifferent (names_of_groups gs)) (sym all) d.groups_differ;
        states_differ = d.states_differ;
        virtuals_differ = d.virtuals_differ;
      };
      are = ap (λ gs. record { groups = gs; states = done.states ++ more.states; virtuals = done.virtuals ++ more.virtuals }) all;
    }

take-state : (element : Element) (elements : List Element) (done more : Parts) → Tests element false true false → Describes (element ∷ elements) done more → Taken element elements done more
take-state element elements done more t d =
    let u = zip-first IsState element (filter (is_named (codes "group_state")) elements) more.states (rw t.state_is at d.states) in
    let all : (done.states ++ u.0 ∷ []) ++ u.1 ≡ done.states ++ more.states = append_assoc done.states (u.0 ∷ []) u.1 ∙ ap (λ ss. done.states ++ ss) (sym u.2) in
    let new = pairs-new AreOtherStates same_state states_apart done.states u.1 u.0 (subst (λ ss. AllPairs AreOtherStates (done.states ++ ss)) u.2 d.states_differ) in
    record {
      next = record done { states = done.states ++ u.0 ∷ [] };
      others = record more { states = u.1 };
      taken = as-state done element false t ∙ rw (state-read (names_of_states done.states) element u.0 u.3 (list_any-map name_of_state (is_state u.0.group u.0.name) done.states ∙ new)) refl;
      rest = record {
        groups = rw t.group_is at d.groups;
        states = u.4;
        virtuals = rw t.virtual_is at d.virtuals;
        groups_differ = d.groups_differ;
        states_differ = subst (AllPairs AreOtherStates) (sym all) d.states_differ;
        virtuals_differ = d.virtuals_differ;
      };
      are = ap (λ ss. record { groups = done.groups ++ more.groups; states = ss; virtuals = done.virtuals ++ more.virtuals }) all;
    }

take-virtual : (element : Element) (elements : List Element) (done more : Parts) → Tests element false false true → Describes (element ∷ elements) done more → Taken element elements done more
take-virtual element elements done more t d =
    let u = zip-first IsVirtual element (filter (is_named (codes "virtual_joint")) elements) more.virtuals (rw t.virtual_is at d.virtuals) in
    let all : (done.virtuals ++ u.0 ∷ []) ++ u.1 ≡ done.virtuals ++ more.virtuals = append_assoc done.virtuals (u.0 ∷ []) u.1 ∙ ap (λ vs. done.virtuals ++ vs) (sym u.2) in
    let new = named-new (λ (v : Virtual). v.name) done.virtuals u.1 u.0 (subst (λ vs. AreDifferent (names_of_virtuals (done.virtuals ++ vs))) u.2 d.virtuals_differ) in
    record {
      next = record done { virtuals = done.virtuals ++ u.0 ∷ [] };
      others = record more { virtuals = u.1 };
      taken = as-virtual done element t ∙ rw (virtual-read (names_of_virtuals done.virtuals) element u.0 u.3 new) refl;
      rest = record {
        groups = rw t.group_is at d.groups;
        states = rw t.state_is at d.states;
        virtuals = u.4;
        groups_differ = d.groups_differ;
        states_differ = d.states_differ;
        virtuals_differ = subst (λ vs. AreDifferent (names_of_virtuals vs)) (sym all) d.virtuals_differ;
      };
      are = ap (λ vs. record { groups = done.groups ++ more.groups; states = done.states ++ more.states; virtuals = vs }) all;
    }

take-other : (element : Element) (elements : List Element) (done more : Parts) → Tests element false false false → Describes (element ∷ elements) done more → Taken element elements done more
take-other element elements done more t d = record {
  next = done;
  others = more;
  taken = as-other done element t;
  rest = record {
    groups = rw t.group_is at d.groups;
    states = rw t.state_is at d.states;
    virtuals = rw t.virtual_is at d.virtuals;
    groups_differ = d.groups_differ;
    states_differ = d.states_differ;
    virtuals_differ = d.virtuals_differ;
  };
  are = refl;
}

taken : (element : Element) (elements : List Element) (done more : Parts) → Describes (element ∷ elements) done more → Taken element elements done more
taken element elements done more d =
    elim (tests element) [
      | inl t ↦ take-group element elements done more t d
      | inr (inl t) ↦ take-state element elements done more t d
      | inr (inr (inl t)) ↦ take-virtual element elements done more t d
      | inr (inr (inr t)) ↦ take-other element elements done more t d
    ]

none-joined : (done more : Parts) → Describes [] done more → done ≡ joined done more
none-joined done more d = rw (zip-none IsGroup more.groups d.groups, zip-none IsState more.states d.states, zip-none IsVirtual more.virtuals d.virtuals, append-nil done.groups, append-nil done.states, append-nil done.virtuals) refl

pub parts-read : (done : Parts) (elements : List Element) (more : Parts) → Describes elements done more → parts_after done elements ≡ Ok (joined done more)
unfolding parts_after
parts-read done [] more d = ap Ok (none-joined done more d)
parts-read done (element ∷ elements) more d =
    let t = taken element elements done more d in
    rw t.taken (parts-read t.next elements t.others t.rest ∙ ap Ok t.are)
