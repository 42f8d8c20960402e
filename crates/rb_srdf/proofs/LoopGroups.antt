-- Groups hold one another as their rows do.
use Rattle.std.proofs.Common.{◌≡◌, ◌<◌, ℕ, Bool, true, false, cond, List, [], ◌∷◌, length, get_or, sym, subst, ap, refl, ◌∙◌, arith, inl, inr, Some, None, Option}
use Rattle.std.specs.Prelude.{slice_get, bytes_eq, nat_lt}
use Rattle.std.specs.List.{Contains, filter_map, cons_option, position_or_len}
use Rattle.std.specs.Option.{option_map}
use Rattle.std.proofs.lemmas.Bool.{lt-ltb}
use Rattle.std.proofs.lemmas.List.{length-map}
use Rattle.std.proofs.lemmas.List.Elements.{Contains-push_cases, Contains-append_cases, Contains-append_right}
use Rattle.std.proofs.lemmas.List.Quantifiers.{position-Some}
use Rattle.std.proofs.lemmas.List.Sums.{position_or_len_is}
use Rattle.std.proofs.lemmas.Slice.Eq.{bytes_eq-Decides}
use Rattle.std.proofs.lemmas.Option.{slice_get-map, slice_get_cases, slice_get_within, get_or_from_slice_get}
use Rattle.rb_tags.specs.Names.{AreDifferent, number_of_name}
use Rattle.rb_srdf.specs.declared.srdf.Group.{Group}
use Rattle.rb_srdf.specs.declared.srdf.GroupItem.{GroupItem}
use Rattle.rb_srdf.specs.declared.srdf.GroupItem.TheVariants as Item
use Rattle.rb_srdf.specs.declared.loops.Holding.{Holding}
use Rattle.rb_srdf.specs.declared.loops.Holding.TheVariants as holding
use Rattle.rb_srdf.specs.Groups.{Holds, Leads, HoldsItself}
use Rattle.rb_srdf.specs.Loops.{number_of_item, held_by, rows_of, RowHolds, LeadsBy, LeadsTo, IsRowAnswer, IsHolding}
use Rattle.rb_srdf.specs.Srdf.{names_of_groups}
use Rattle.rb_srdf.proofs.LoopWays.{holder_within}

-- ---- what a filter keeps
abbrev head : {X : Type 0} (x : X) (xs : List X) → Contains (x ∷ xs) x
head x xs = (0, omega arith, refl)

single : {X : Type 0} (x y : X) → Contains (x ∷ []) y → x ≡ y
single x y h =
    elim (Contains-push_cases [] x y h) [
      | inl none ↦ absurd (let w = none.1 in omega arith)
      | inr same ↦ same
    ]

module _ {X Y : Type 0} (h : X → Option Y) where
  pub from_filter_map : (xs : List X) (y : Y) → Contains (filter_map h xs) y → (x : X) × Contains xs x × (h x ≡ Some y)
  from_filter_map [] y w = absurd (let n = w.1 in omega arith)
  from_filter_map (x ∷ xs) y w = by (h x) refl (from_filter_map xs y) w
    where
      behind : (z : X) × Contains xs z × (h z ≡ Some y) → (z : X) × Contains (x ∷ xs) z × (h z ≡ Some y)
      behind (z, there, e) = (z, Contains-append_right (x ∷ []) xs z there, e)

      by : (o : Option Y) → h x ≡ o → (Contains (filter_map h xs) y → (z : X) × Contains xs z × (h z ≡ Some y)) →
          Contains (cons_option o (filter_map h xs)) y → (z : X) × Contains (x ∷ xs) z × (h z ≡ Some y)
      by None e rest there = behind (rest there)
      by (Some v) e rest there =
          elim (Contains-append_cases (v ∷ []) (filter_map h xs) y there) [
            | inl first ↦ (x, head x xs, e ∙ ap Some (single v y first))
            | inr more ↦ behind (rest more)
          ]

  more_kept : (o : Option Y) (ys : List Y) (y : Y) → Contains ys y → Contains (cons_option o ys) y
  more_kept None ys y there = there
  more_kept (Some v) ys y there = Contains-append_right (v ∷ []) ys y there

  pub to_filter_map : (xs : List X) (x : X) (y : Y) → Contains xs x → h x ≡ Some y → Contains (filter_map h xs) y
  to_filter_map [] x y there e = absurd (let n = there.1 in omega arith)
  to_filter_map (z ∷ xs) x y there e =
      elim (Contains-append_cases (z ∷ []) xs x there) [
        | inl first ↦ subst (λ (o : Option Y). Contains (cons_option o (filter_map h xs)) y) (sym (ap h (single z x first) ∙ e)) (head y (filter_map h xs))
        | inr more ↦ more_kept (h z) (filter_map h xs) y (to_filter_map xs x y more e)
      ]

-- ---- the number of a name
-- where a name stands
number_tells : (names : List (List ℕ)) (name : List ℕ) (b : ℕ) → number_of_name names name ≡ Some b → (b < length names) × (name ≡ get_or names b [])
unfolding number_of_name
number_tells names name b e =
    let w = position-Some (bytes_eq name) names b [] e in
    (w.0, (bytes_eq-Decides name (get_or names b [])).0 w.1)

-- the number of a name among names that differ
number_is : (names : List (List ℕ)) (name : List ℕ) (b : ℕ) → AreDifferent names → b < length names → get_or names b [] ≡ name → number_of_name names name ≡ Some b
unfolding number_of_name
number_is names name b differ within is =
    let at : position_or_len (bytes_eq name) names ≡ b =
    position_or_len_is (bytes_eq name) names b [] (omega arith)
    (λ k h. apart name (get_or names k []) (λ same. differ k b [] h within (sym same ∙ sym is)))
    (λ h. (bytes_eq-Decides name (get_or names b [])).1 (sym is)) in
    ap (λ k. cond (nat_lt k (length names)) (Some k) None) at ∙ ap (λ c. cond c (Some b) None) (lt-ltb b (length names) within)
  where
    apart : (x y : List ℕ) → (x ≡ y → ⊥) → bytes_eq x y ≡ false
    apart x y other = by (bytes_eq x y) refl
      where
        by : (c : Bool) → bytes_eq x y ≡ c → c ≡ false
        by true e = absurd (other ((bytes_eq-Decides x y).0 e))
        by false e = refl

-- ---- rows and groups
module _ (groups : List Group) where
  pub rows_long : length (rows_of groups) ≡ length groups
  unfolding rows_of
  rows_long = length-map groups (λ group. held_by (names_of_groups groups) group.items)

  row_is : (a : ℕ) (group : Group) → slice_get groups a ≡ Some group → get_or (rows_of groups) a [] ≡ filter_map (number_of_item (names_of_groups groups)) group.items
  unfolding rows_of held_by
  row_is a group is =
      get_or_from_slice_get (rows_of groups) a (held_by (names_of_groups groups) group.items) []
      (slice_get-map (λ (g : Group). held_by (names_of_groups groups) g.items) groups a ∙ ap (option_map (λ (g : Group). held_by (names_of_groups groups) g.items)) is)

  -- the name of a group
  name_is : (b : ℕ) (group : Group) → slice_get groups b ≡ Some group → get_or (names_of_groups groups) b [] ≡ group.name
  name_is b group is =
      get_or_from_slice_get (names_of_groups groups) b group.name []
      (slice_get-map (λ (g : Group). g.name) groups b ∙ ap (option_map (λ (g : Group). g.name)) is)

  pub named_from_held : AreDifferent (names_of_groups groups) → (a b : ℕ) → Holds groups a b → RowHolds (rows_of groups) a b
  named_from_held differ a b h =
      let within : b < length (names_of_groups groups) = omega (arith, slice_get_within groups b h.held h.held_is, length-map groups (λ (g : Group). g.name)) in
      let number : number_of_name (names_of_groups groups) h.held.name ≡ Some b = number_is (names_of_groups groups) h.held.name b differ within (name_is b h.held h.held_is) in
      subst (λ row. Contains row b) (sym (row_is a h.holder h.holder_is))
      (to_filter_map (number_of_item (names_of_groups groups)) h.holder.items (Item.Group h.held.name) b h.item number)

  -- what an item with a number names
  item_names : (item : GroupItem) (b : ℕ) → number_of_item (names_of_groups groups) item ≡ Some b → (name : List ℕ) × (item ≡ Item.Group name) × (number_of_name (names_of_groups groups) name ≡ Some b)
  item_names (Item.Link name) b e = absurd cc
  item_names (Item.Joint name) b e = absurd cc
  item_names (Item.Chain base tip) b e = absurd cc
  item_names (Item.Group name) b e = (name, refl, e)

  pub held_from_named : (a b : ℕ) → RowHolds (rows_of groups) a b → Holds groups a b
  held_from_named a b named =
      let inside : a < length groups = omega (arith, holder_within (rows_of groups) a b named, rows_long) in
      elim ((slice_get_cases groups a).1) [
        | inl found ↦
            let kept = from_filter_map (number_of_item (names_of_groups groups)) found.0.items b (subst (λ row. Contains row b) (row_is a found.0 found.2) named) in
            let item = item_names kept.0 b kept.2 in
            let told = number_tells (names_of_groups groups) item.0 b item.2 in
            let there : b < length groups = omega (arith, told.0, length-map groups (λ (g : Group). g.name)) in
            elim ((slice_get_cases groups b).1) [
              | inl held ↦
                  record {
                    holder = found.0;
                    held = held.0;
                    holder_is = found.2;
                    held_is = held.2;
                    item = subst (Contains found.0.items) (item.1 ∙ ap Item.Group (told.1 ∙ name_is b held.0 held.2)) kept.1;
                  }
              | inr past ↦ absurd (let w = past.0 in omega arith)
            ]
        | inr past ↦ absurd (let w = past.0 in omega arith)
      ]

  leads_from_rows : (from : ℕ) (way : List ℕ) (to : ℕ) → LeadsBy (rows_of groups) from way to → Leads groups from way to
  leads_from_rows from [] to same = same
  leads_from_rows from (next ∷ way) to (named, leads) = (held_from_named from next named, leads_from_rows next way to leads)

  leads_to_rows : AreDifferent (names_of_groups groups) → (from : ℕ) (way : List ℕ) (to : ℕ) → Leads groups from way to → LeadsBy (rows_of groups) from way to
  leads_to_rows differ from [] to same = same
  leads_to_rows differ from (next ∷ way) to (held, leads) = (named_from_held differ from next held, leads_to_rows differ next way to leads)

  loop_from_rows : (k : ℕ) → LeadsTo (rows_of groups) k k → HoldsItself groups k
  loop_from_rows k (next, way, named, leads) = (next, held_from_named k next named, (way, leads_from_rows next way k leads))

  loop_to_rows : AreDifferent (names_of_groups groups) → (k : ℕ) → HoldsItself groups k → LeadsTo (rows_of groups) k k
  loop_to_rows differ k (next, held, (way, leads)) = (next, way, named_from_held differ k next held, leads_to_rows differ next way k leads)

  pub answer_on_groups : AreDifferent (names_of_groups groups) → (holding : Holding) → IsRowAnswer (rows_of groups) holding → IsHolding groups holding
  answer_on_groups differ (holding.Order order) h = record {
    ordered = record {
      count = h.count ∙ rows_long;
      there = λ place k is.
          let within : place < length order.items = slice_get_within order.items place k is in
          omega (arith, h.there place 0 within, get_or_from_slice_get order.items place k 0 is, rows_long);
      all = λ k within. h.all k (omega (arith, rows_long));
      held_first = λ a b held. h.held_first a b (named_from_held differ a b held) (omega (arith, slice_get_within groups b held.held held.held_is, rows_long));
    };
    no_loop = λ k held. h.no_loop k (loop_to_rows differ k held);
  }
  answer_on_groups differ (holding.Loop k) h = record {
    within = omega (arith, h.within, rows_long);
    loop = loop_from_rows k h.loop;
    first = λ j before held. h.first j before (loop_to_rows differ j held);
  }
