-- Items and states name groups that are there, where each element is settled.
use Rattle.std.proofs.Common.{◌≡◌, ◌⊎◌, inl, inr, ℕ, Bool, true, false, cond, ◌||◌, List, [], ◌∷◌, Ok, Err, refl, sym, ap, ◌∙◌, subst, true≢false}
use Rattle.std.specs.Prelude.{bytes_eq, codes, filter}
use Rattle.std.specs.List.{AllZip, AllByRecursion, Contains, list_all}
use Rattle.std.proofs.lemmas.Bool.{and_parts}
use Rattle.rb_tags.specs.Elements.{Element, elements_inside}
use Rattle.rb_srdf.specs.declared.faults.SrdfFaultKind.TheVariants.{UnknownName}
use Rattle.rb_srdf.specs.declared.srdf.GroupItem.{GroupItem}
use Rattle.rb_srdf.specs.declared.srdf.GroupItem.TheVariants as Item
use Rattle.rb_srdf.specs.declared.srdf.Group.{Group}
use Rattle.rb_srdf.specs.declared.srdf.GroupState.{GroupState}
use Rattle.rb_srdf.specs.Faults.{fault_at}
use Rattle.rb_srdf.specs.Parts.{names_known, is_settled, all_settled}
use Rattle.rb_srdf.specs.Profile.{is_item, IsItem, IsGroup, IsState, IsKnown}
use Rattle.rb_srdf.proofs.GivenLaws.{is-text}
use Rattle.rb_srdf.proofs.AgainLaws.{is_named}
use Rattle.rb_srdf.proofs.KnownLaws.{elements-named, contains-name, name-contained}
use Rattle.rb_srdf.proofs.PartLaws.{tests}
use Rattle.rb_srdf.proofs.Lists.{each-both, each-filter, filter-each, zip-first, zip-none, zip-right, zip-left}

module _ (names : List (List ℕ)) where
  pub settled-say : (elements : List Element) (r : Unit {0}) → all_settled names elements ≡ Ok r → AllByRecursion (λ e. is_settled names e ≡ true) elements
  unfolding all_settled
  settled-say [] r h = tt
  settled-say (element ∷ elements) r h = by (is_settled names element) refl h (settled-say elements r)
    where
      by : (b : Bool) → is_settled names element ≡ b → cond b (all_settled names elements) (Err (fault_at UnknownName element.tag.place)) ≡ Ok r → (all_settled names elements ≡ Ok r → AllByRecursion (λ e. is_settled names e ≡ true) elements) → (is_settled names element ≡ true) × AllByRecursion (λ e. is_settled names e ≡ true) elements
      by true e h rest = (e, rest h)
      by false e h rest = absurd cc

  pub settled-read : (elements : List Element) → AllByRecursion (λ e. is_settled names e ≡ true) elements → all_settled names elements ≡ Ok tt
  unfolding all_settled
  settled-read [] each = refl
  settled-read (element ∷ elements) each = rw each.0 (settled-read elements each.1)

  -- an element that names a group, and its item

  other-name : (name : List ℕ) (element : Element) (b : Bool) → element.tag.name ≡ name → bytes_eq name (codes "group") ≡ b → is_named (codes "group") element ≡ b
  other-name name element b e f = ap (λ t. bytes_eq t (codes "group")) e ∙ f

  not-group : (name : List ℕ) (element : Element) → element.tag.name ≡ name → bytes_eq name (codes "group") ≡ false → is_named (codes "group") element ≡ true → ⊥
  not-group name element e other is = true≢false (sym is ∙ other-name name element false e other)

  item-known : (element : Element) (item : GroupItem) → IsItem element item → names_known names (codes "name") element ≡ true → IsKnown names item
  item-known element (Item.Link name) s h = tt
  item-known element (Item.Joint name) s h = tt
  item-known element (Item.Chain base tip) s h = tt
  item-known element (Item.Group name) s h = contains-name names name (rw s.1.says at h)

  known-item : (element : Element) (item : GroupItem) → IsItem element item → is_named (codes "group") element ≡ true → IsKnown names item → names_known names (codes "name") element ≡ true
  known-item element (Item.Link name) s is h = absurd (not-group (codes "link") element s.0 refl is)
  known-item element (Item.Joint name) s is h = absurd (not-group (codes "joint") element s.0 refl is)
  known-item element (Item.Chain base tip) s is h = absurd (not-group (codes "chain") element s.0 refl is)
  known-item element (Item.Group name) s is h = rw s.1.says (name-contained names name h)

  item-free : (element : Element) (item : GroupItem) → IsItem element item → is_named (codes "group") element ≡ false → IsKnown names item
  item-free element (Item.Link name) s other = tt
  item-free element (Item.Joint name) s other = tt
  item-free element (Item.Chain base tip) s other = tt
  item-free element (Item.Group name) s other = absurd (true≢false (sym (other-name (codes "group") element true s.0 refl) ∙ other))

  -- an element inside a group names a group, another thing, or nothing
  sorts : (element : Element) → ((is_named (codes "group") element ≡ true) × (is_item element ≡ true)) ⊎ (((is_named (codes "group") element ≡ false) × (is_item element ≡ true)) ⊎ ((is_named (codes "group") element ≡ false) × (is_item element ≡ false)))
  sorts element = by (bytes_eq element.tag.name (codes "link")) (bytes_eq element.tag.name (codes "joint")) (bytes_eq element.tag.name (codes "chain")) (is_named (codes "group") element)
    where
      by : (a b c d : Bool) → ((d ≡ true) × ((a || (b || (c || (d || false)))) ≡ true)) ⊎ (((d ≡ false) × ((a || (b || (c || (d || false)))) ≡ true)) ⊎ ((d ≡ false) × ((a || (b || (c || (d || false)))) ≡ false)))
      by true b c true = inl (refl, refl)
      by true b c false = inr (inl (refl, refl))
      by false true c true = inl (refl, refl)
      by false true c false = inr (inl (refl, refl))
      by false false true true = inl (refl, refl)
      by false false true false = inr (inl (refl, refl))
      by false false false true = inl (refl, refl)
      by false false false false = inr (inr (refl, refl))

  items-known : (elements : List Element) (items : List GroupItem) → AllZip IsItem (filter is_item elements) items → list_all (names_known names (codes "name")) (filter (is_named (codes "group")) elements) ≡ true → AllByRecursion (IsKnown names) items
  items-known [] items each h = rw (zip-none IsItem items each) tt
  items-known (element ∷ elements) items each h =
      elim (sorts element) [
        | inl s ↦
            let u = zip-first IsItem element (filter is_item elements) items (rw s.1 at each) in
            let both = and_parts (names_known names (codes "name") element) (list_all (names_known names (codes "name")) (filter (is_named (codes "group")) elements)) (rw s.0 at h) in
            rw u.2 (item-known element u.0 u.3 both.0, items-known elements u.1 u.4 both.1)
        | inr (inl s) ↦
            let u = zip-first IsItem element (filter is_item elements) items (rw s.1 at each) in
            rw u.2 (item-free element u.0 u.3 s.0, items-known elements u.1 u.4 (rw s.0 at h))
        | inr (inr s) ↦ items-known elements items (rw s.1 at each) (rw s.0 at h)
      ]

  known-items : (elements : List Element) (items : List GroupItem) → AllZip IsItem (filter is_item elements) items → AllByRecursion (IsKnown names) items → list_all (names_known names (codes "name")) (filter (is_named (codes "group")) elements) ≡ true
  known-items [] items each h = refl
  known-items (element ∷ elements) items each h =
      elim (sorts element) [
        | inl s ↦
            let u = zip-first IsItem element (filter is_item elements) items (rw s.1 at each) in
            let known : AllByRecursion (IsKnown names) (u.0 ∷ u.1) = subst (AllByRecursion (IsKnown names)) u.2 h in
            rw (s.0, known-item element u.0 u.3 s.0 known.0) (known-items elements u.1 u.4 known.1)
        | inr (inl s) ↦
            let u = zip-first IsItem element (filter is_item elements) items (rw s.1 at each) in
            let known : AllByRecursion (IsKnown names) (u.0 ∷ u.1) = subst (AllByRecursion (IsKnown names)) u.2 h in
            rw s.0 (known-items elements u.1 u.4 known.1)
        | inr (inr s) ↦ rw s.0 (known-items elements items (rw s.1 at each) h)
      ]

  -- a group and a state of which the element is settled

  settled-group : (element : Element) → is_named (codes "group") element ≡ true → is_settled names element ≡ list_all (names_known names (codes "name")) (filter (is_named (codes "group")) (elements_inside element.tag.depth element.inside))
  unfolding is_settled
  settled-group element is = rw is (ap (list_all (names_known names (codes "name"))) (elements-named (codes "group") element.tag.depth element.inside))

  settled-state : (element : Element) → is_named (codes "group_state") element ≡ true → is_settled names element ≡ names_known names (codes "group") element
  unfolding is_settled
  settled-state element is =
      let other : is_named (codes "group") element ≡ false = ap (λ t. bytes_eq t (codes "group")) (is-text element.tag.name (codes "group_state") is) in
      rw (other, is) refl

  settled-other : (element : Element) → is_named (codes "group") element ≡ false → is_named (codes "group_state") element ≡ false → is_settled names element ≡ true
  unfolding is_settled
  settled-other element group state = rw (group, state) refl

  group-known : (element : Element) (group : Group) → IsGroup element group → (is_named (codes "group") element ≡ true) × (is_settled names element ≡ true) → AllByRecursion (IsKnown names) group.items
  group-known element group s h = items-known (elements_inside element.tag.depth element.inside) group.items s.items (sym (settled-group element h.0) ∙ h.1)

  known-group : (element : Element) (group : Group) → IsGroup element group → AllByRecursion (IsKnown names) group.items → is_named (codes "group") element ≡ true → is_settled names element ≡ true
  known-group element group s h is = settled-group element is ∙ known-items (elements_inside element.tag.depth element.inside) group.items s.items h

  state-known : (element : Element) (state : GroupState) → IsState element state → (is_named (codes "group_state") element ≡ true) × (is_settled names element ≡ true) → Contains names state.group
  state-known element state s h =
      let known = sym (settled-state element h.0) ∙ h.1 in
      contains-name names state.group (rw s.group.says at known)

  known-state : (element : Element) (state : GroupState) → IsState element state → Contains names state.group → is_named (codes "group_state") element ≡ true → is_settled names element ≡ true
  known-state element state s h is = settled-state element is ∙ rw s.group.says (name-contained names state.group h)

  -- all groups and states

  pub groups-known : (elements : List Element) (groups : List Group) → AllZip IsGroup (filter (is_named (codes "group")) elements) groups → AllByRecursion (λ e. is_settled names e ≡ true) elements → AllByRecursion (λ group. AllByRecursion (IsKnown names) group.items) groups
  groups-known elements groups each settled =
      zip-right IsGroup _ (λ group. AllByRecursion (IsKnown names) group.items) group-known (filter (is_named (codes "group")) elements) groups each
      (each-filter (λ e. is_settled names e ≡ true) (is_named (codes "group")) elements settled)

  pub states-known : (elements : List Element) (states : List GroupState) → AllZip IsState (filter (is_named (codes "group_state")) elements) states → AllByRecursion (λ e. is_settled names e ≡ true) elements → AllByRecursion (λ state. Contains names state.group) states
  states-known elements states each settled =
      zip-right IsState _ (λ state. Contains names state.group) state-known (filter (is_named (codes "group_state")) elements) states each
      (each-filter (λ e. is_settled names e ≡ true) (is_named (codes "group_state")) elements settled)

  pub all-known : (elements : List Element) (groups : List Group) (states : List GroupState) → AllZip IsGroup (filter (is_named (codes "group")) elements) groups → AllZip IsState (filter (is_named (codes "group_state")) elements) states → AllByRecursion (λ group. AllByRecursion (IsKnown names) group.items) groups → AllByRecursion (λ state. Contains names state.group) states → AllByRecursion (λ e. is_settled names e ≡ true) elements
  all-known elements groups states gs ss items named =
      let of_groups : AllByRecursion (λ e. is_named (codes "group") e ≡ true → is_named (codes "group") e ≡ true → is_settled names e ≡ true) elements =
      filter-each (λ e. is_named (codes "group") e ≡ true → is_settled names e ≡ true) (is_named (codes "group")) elements
      (zip-left IsGroup (λ e. is_named (codes "group") e ≡ true → is_settled names e ≡ true) (λ group. AllByRecursion (IsKnown names) group.items) known-group (filter (is_named (codes "group")) elements) groups gs items) in
      let of_states : AllByRecursion (λ e. is_named (codes "group_state") e ≡ true → is_named (codes "group_state") e ≡ true → is_settled names e ≡ true) elements =
      filter-each (λ e. is_named (codes "group_state") e ≡ true → is_settled names e ≡ true) (is_named (codes "group_state")) elements
      (zip-left IsState (λ e. is_named (codes "group_state") e ≡ true → is_settled names e ≡ true) (λ state. Contains names state.group) known-state (filter (is_named (codes "group_state")) elements) states ss named) in
      each-both _ _ (λ e. is_settled names e ≡ true) elements
      (λ element group state.
      elim (tests element) [
        | inl t ↦ group t.group_is t.group_is
        | inr (inl t) ↦ state t.state_is t.state_is
        | inr (inr (inl t)) ↦ settled-other element t.group_is t.state_is
        | inr (inr (inr t)) ↦ settled-other element t.group_is t.state_is
      ])
      of_groups of_states
