-- The bodies that a group gives, from those of its items and of the groups that it holds.
use Rattle.std.proofs.Common.{◌≡◌, ◌↔◌, ℕ, List, [], ◌∷◌, Some, refl, sym, ◌∙◌, ap, subst, inl, inr}
use Rattle.std.specs.List.{Any, Contains, slice_get}
use Rattle.std.proofs.lemmas.Option.{same_Some}
use Rattle.rb_srdf.specs.declared.srdf.GroupItem.{GroupItem}
use Rattle.rb_srdf.specs.declared.srdf.GroupItem.TheVariants as Item
use Rattle.rb_srdf.specs.declared.srdf.Group.{Group}
use Rattle.rb_srdf.specs.Groups.{Holds, Leads}
use Rattle.rb_tree.specs.declared.robot.Body.{Body}
use Rattle.rb_tree.specs.Groups.{ItemGives, GroupGives}
use Rattle.rb_tree.specs.GroupMarks.{ItemGivesAll}
use Rattle.rb_tree.proofs.GroupMarking.{any_contained, contained_any}

module _ (bodies : List Body) (groups : List Group) (k i : ℕ) (group : Group) (is : slice_get groups k ≡ Some group) where
  -- a group names a body by an item of its own, or by a group that it holds
  by_way : (way : List ℕ) (through : ℕ) → Leads groups k way through → (last : Group) → slice_get groups through ≡ Some last → (item : GroupItem) → Contains last.items item →
      ItemGives bodies item i → Any (λ item. ItemGivesAll bodies groups item i) group.items
  by_way [] through leads last last_is item among gives =
      let same : last ≡ group = same_Some last group (sym last_is ∙ (ap (slice_get groups) (sym leads) ∙ is)) in
      let P : Group → Type 0 = λ g. Contains g.items item in
      contained_any (λ item. ItemGivesAll bodies groups item i) group.items item (subst P same among) (inl gives)
  by_way (next ∷ way) through leads last last_is item among gives =
      let held = leads.0 in
      let same : held.holder ≡ group = same_Some held.holder group (sym held.holder_is ∙ is) in
      let P : Group → Type 0 = λ g. Contains g.items (Item.Group held.held.name) in
      contained_any (λ item. ItemGivesAll bodies groups item i) group.items (Item.Group held.held.name) (subst P same held.item)
      (inr (
        next,
        record { group = held.held; is = held.held_is; names = refl },
        record { through = through; reached = (way, leads.1); group = last; is = last_is; item = item; among = among; gives = gives },
      ))

  by_item : (item : GroupItem) → Contains group.items item → ItemGivesAll bodies groups item i → GroupGives bodies groups k i
  by_item item among all = elim all [
    | inl gives ↦ record { through = k; reached = ([], refl); group = group; is = is; item = item; among = among; gives = gives }
    | inr held ↦
        let b = held.0 in
        let n = held.1 in
        let g = held.2 in
        let P : GroupItem → Type 0 = λ x. Contains group.items x in
        let holds : Holds groups k b = record { holder = group; held = n.group; holder_is = is; held_is = n.is; item = subst P n.names among } in
        record {
          through = g.through;
          reached = (b ∷ g.reached.0, (holds, g.reached.1));
          group = g.group;
          is = g.is;
          item = g.item;
          among = g.among;
          gives = g.gives;
        }
  ]

  pub gives_by_items : Any (λ item. ItemGivesAll bodies groups item i) group.items ↔ GroupGives bodies groups k i
  gives_by_items = (
    λ a. let f = any_contained (λ item. ItemGivesAll bodies groups item i) group.items a in by_item f.0 f.1 f.2,
    λ g. by_way g.reached.0 g.through g.reached.1 g.group g.is g.item g.among g.gives,
  )
