-- Semantics that tags describe keep what all keep.
use Rattle.std.proofs.Common.{refl, ◌≡◌, ◌≢◌, ℕ, ◌≤◌, Bool, true, false, cond, List, [], ◌∷◌, length, Ok, arith, subst}
use Rattle.std.specs.Prelude.{codes, filter}
use Rattle.std.specs.List.{AllZip, AllByRecursion, Contains}
use Rattle.rb_tags.specs.declared.tag.Tag.{Tag}
use Rattle.rb_tags.specs.declared.tag.TheConstants.{MAX_TAGS}
use Rattle.rb_tags.specs.Elements.{Element, element_of, is_inside, elements_inside}
use Rattle.rb_tags.specs.Words.{words}
use Rattle.rb_srdf.specs.declared.srdf.GroupItem.{GroupItem}
use Rattle.rb_srdf.specs.declared.srdf.GroupItem.TheVariants as Item
use Rattle.rb_srdf.specs.declared.srdf.Group.{Group}
use Rattle.rb_srdf.specs.declared.srdf.JointNumbers.{JointNumbers}
use Rattle.rb_srdf.specs.declared.srdf.GroupState.{GroupState}
use Rattle.rb_srdf.specs.declared.srdf.Virtual.{Virtual}
use Rattle.rb_srdf.specs.declared.parts.Parts.{Parts}
use Rattle.rb_srdf.specs.Groups.{HoldsItself}
use Rattle.rb_srdf.specs.Parts.{no_parts, parts_after, all_settled}
use Rattle.rb_srdf.specs.Read.{semantics_from}
use Rattle.rb_srdf.specs.Srdf.{IsItemKept, IsGroupKept, IsValueKept, IsStateKept, IsVirtualKept, IsSrdf, names_of_groups}
use Rattle.rb_srdf.specs.Profile.{children, items_inside, IsItem, IsGroup, IsNumber, IsValue, IsState, IsVirtual, IsKnown}
use Rattle.rb_srdf.proofs.AgainLaws.{is_named}
use Rattle.rb_srdf.proofs.PartLaws.{PartsFit, none-fit, parts-say}
use Rattle.rb_srdf.proofs.SettledLaws.{settled-say, groups-known, states-known}
use Rattle.rb_srdf.proofs.Lists.{zip-each, zip-over, zip-length}

module _ (names : List (List ℕ)) where
  item-kept : (element : Element) (item : GroupItem) → IsItem element item → IsKnown names item → IsItemKept names item
  item-kept element (Item.Link name) s known = s.1.some
  item-kept element (Item.Joint name) s known = s.1.some
  item-kept element (Item.Chain base tip) s known = (s.1.some, s.2.some)
  item-kept element (Item.Group name) s known = (s.1.some, known)

  group-kept : (element : Element) (group : Group) → IsGroup element group → AllByRecursion (IsKnown names) group.items → IsGroupKept names group
  group-kept element group s known = record { name = s.name.some; items = zip-over IsItem (IsKnown names) (IsItemKept names) item-kept (items_inside element) group.items s.items known }

  value-kept : (element : Element) (value : JointNumbers) → IsValue element value → IsValueKept value
  value-kept element value s = record { joint = s.joint.some; some = λ none. s.some (no-words (words s.text) (subst (AllZip IsNumber (words s.text)) none s.numbers)) }
    where
      no-words : (ws : List (List ℕ)) → AllZip IsNumber ws [] → ws ≡ []
      no-words [] each = refl
      no-words (word ∷ ws) each = absurd each

  state-kept : (element : Element) (state : GroupState) → IsState element state → Contains names state.group → IsStateKept names state
  state-kept element state s known = record { name = s.name.some; group = known; values = zip-each IsValue IsValueKept value-kept (children (codes "joint") element) state.values s.values }

virtual-kept : (element : Element) (virtual : Virtual) → IsVirtual element virtual → IsVirtualKept virtual
virtual-kept element virtual s = record { name = s.name.some; child = s.child.some }

-- there are no more parts than tags

few-inside : (around : ℕ) (tags : List Tag) → length (elements_inside around tags) ≤ length tags
unfolding elements_inside
few-inside around [] = omega arith
few-inside around (tag ∷ tags) = by (is_inside around tag) (few-inside around tags)
  where
    by : (b : Bool) → length (elements_inside around tags) ≤ length tags → length (cond b (element_of tag tags ∷ elements_inside around tags) (elements_inside around tags)) ≤ length (tag ∷ tags)
    by true few = omega arith
    by false few = omega arith

few-kept : (p : Element → Bool) (elements : List Element) → length (filter p elements) ≤ length elements
few-kept p [] = omega arith
few-kept p (element ∷ elements) = by (p element) (few-kept p elements)
  where
    by : (b : Bool) → length (filter p elements) ≤ length elements → length (cond b (element ∷ filter p elements) (filter p elements)) ≤ length (element ∷ elements)
    by true few = omega arith
    by false few = omega arith

few : {A : Type 0} (R : Element → A → Type 0) (p : Element → Bool) (tags : List Tag) (xs : List A) → length tags ≤ MAX_TAGS → AllZip R (filter p (elements_inside 1 tags)) xs → length xs ≤ MAX_TAGS
few R p tags xs fits each = omega (arith, zip-length R (filter p (elements_inside 1 tags)) xs each, few-kept p (elements_inside 1 tags), few-inside 1 tags)

module _ (tags : List Tag) (parts : Parts) (fits : length tags ≤ MAX_TAGS) (h : parts_after no_parts (elements_inside 1 tags) ≡ Ok parts) where
  fit : PartsFit (elements_inside 1 tags) parts
  fit = parts-say [] no_parts (elements_inside 1 tags) parts none-fit h

  pub few-groups : length parts.groups ≤ MAX_TAGS
  few-groups = few IsGroup (is_named (codes "group")) tags parts.groups fits fit.groups

  pub semantics-kept : (name : List ℕ) (place : ℕ) → name ≢ [] → all_settled (names_of_groups parts.groups) (elements_inside 1 tags) ≡ Ok tt → ((k : ℕ) → HoldsItself parts.groups k → ⊥) → IsSrdf (semantics_from name place parts)
  semantics-kept name place given known no_loop =
      let all = elements_inside 1 tags in
      let names = names_of_groups parts.groups in
      let settled = settled-say names all tt known in
      record {
        name = given;
        few_groups = few-groups;
        few_states = few IsState (is_named (codes "group_state")) tags parts.states fits fit.states;
        few_virtuals = few IsVirtual (is_named (codes "virtual_joint")) tags parts.virtuals fits fit.virtuals;
        groups = zip-over IsGroup (λ group. AllByRecursion (IsKnown names) group.items) (IsGroupKept names) (group-kept names) (filter (is_named (codes "group")) all) parts.groups fit.groups (groups-known names all parts.groups fit.groups settled);
        groups_differ = fit.groups_differ;
        no_loop = no_loop;
        states = zip-over IsState (λ state. Contains names state.group) (IsStateKept names) (state-kept names) (filter (is_named (codes "group_state")) all) parts.states fit.states (states-known names all parts.states fit.states settled);
        states_differ = fit.states_differ;
        virtuals = zip-each IsVirtual IsVirtualKept virtual-kept (filter (is_named (codes "virtual_joint")) all) parts.virtuals fit.virtuals;
        virtuals_differ = fit.virtuals_differ;
      }
