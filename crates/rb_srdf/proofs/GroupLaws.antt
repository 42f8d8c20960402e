-- The groups that were read are those that elements describe.
use Rattle.std.proofs.Common.{◌≡◌, ◌⊎◌, inl, inr, ℕ, Bool, true, false, cond, ◌||◌, List, [], ◌∷◌, ◌++◌, Option, Some, None, Result, Ok, refl, sym, ap, ◌∙◌, subst, append_assoc}
use Rattle.std.specs.Prelude.{Any, bytes_eq, codes, filter}
use Rattle.std.specs.List.{AllZip}
use Rattle.std.proofs.lemmas.List.{append-nil}
use Rattle.rb_result.specs.Steps.{◌>>=◌}
use Rattle.rb_tags.specs.InOrder.{◌when◌}
use Rattle.rb_result.proofs.Results.{value, then-ok, unless-ok}
use Rattle.rb_tags.proofs.Obeying.{Obeys, obeys-ok, obeys-next, obeys-value, obeys-either, obeys-same}
use Rattle.rb_tags.specs.Elements.{Element, elements_inside}
use Rattle.rb_srdf.specs.declared.faults.SrdfFaultKind.{SrdfFaultKind}
use Rattle.rb_srdf.specs.declared.faults.SrdfFaultKind.TheVariants.{NoName, NameTwice}
use Rattle.rb_srdf.specs.declared.srdf.GroupItem.{GroupItem}
use Rattle.rb_srdf.specs.declared.srdf.GroupItem.TheVariants as Item
use Rattle.rb_srdf.specs.declared.srdf.Group.{Group}
use Rattle.rb_srdf.specs.Names.{has_name, name_in, new_name}
use Rattle.rb_srdf.specs.ReadGroups.{chain_in, named_item, some_item, item_in, with_item, items_after, items_of, group_of}
use Rattle.rb_srdf.specs.Profile.{Gives, HasName, is_item, items_inside, IsItem, IsGroup}
use Rattle.rb_srdf.specs.Refusals.{Lacks, ItemLacksName, group_refusals}
use Rattle.rb_srdf.specs.Srdf.{names_of_groups}
use Rattle.rb_srdf.proofs.AgainLaws.{is_named, again-obeys}
use Rattle.rb_srdf.proofs.GivenLaws.{given-says, given-read, given-obeys, is-text}
use Rattle.rb_srdf.proofs.Lists.{any-join, any-cases, any-none}

-- what an element inside a group names

item-name : (element : Element) → is_item element ≡ true → (element.tag.name ≡ codes "link") ⊎ ((element.tag.name ≡ codes "joint") ⊎ ((element.tag.name ≡ codes "chain") ⊎ (element.tag.name ≡ codes "group")))
item-name element h = by (bytes_eq element.tag.name (codes "link")) (bytes_eq element.tag.name (codes "joint")) (bytes_eq element.tag.name (codes "chain")) (bytes_eq element.tag.name (codes "group")) refl refl refl refl h
  where
    by : (a b c d : Bool) → bytes_eq element.tag.name (codes "link") ≡ a → bytes_eq element.tag.name (codes "joint") ≡ b → bytes_eq element.tag.name (codes "chain") ≡ c → bytes_eq element.tag.name (codes "group") ≡ d → (a || (b || (c || (d || false)))) ≡ true → (element.tag.name ≡ codes "link") ⊎ ((element.tag.name ≡ codes "joint") ⊎ ((element.tag.name ≡ codes "chain") ⊎ (element.tag.name ≡ codes "group")))
    by true b c d l j ch g h = inl (is-text element.tag.name (codes "link") l)
    by false true c d l j ch g h = inr (inl (is-text element.tag.name (codes "joint") j))
    by false false true d l j ch g h = inr (inr (inl (is-text element.tag.name (codes "chain") ch)))
    by false false false true l j ch g h = inr (inr (inr (is-text element.tag.name (codes "group") g)))
    by false false false false l j ch g h = absurd cc

item-passed : (element : Element) → is_item element ≡ false → item_in element ≡ Ok None
unfolding item_in
item-passed element h = by _ _ _ _ (bytes_eq element.tag.name (codes "link")) (bytes_eq element.tag.name (codes "joint")) (bytes_eq element.tag.name (codes "chain")) (bytes_eq element.tag.name (codes "group")) h
  where
    by : (link joint chain group : Result (Option GroupItem) SrdfFaultKind) (a b c d : Bool) → (a || (b || (c || (d || false)))) ≡ false → cond a link (cond b joint (cond c chain (cond d group (Ok None)))) ≡ Ok None
    by link joint chain group true b c d h = absurd cc
    by link joint chain group false true c d h = absurd cc
    by link joint chain group false false true d h = absurd cc
    by link joint chain group false false false true h = absurd cc
    by link joint chain group false false false false h = refl

item-link : (element : Element) → element.tag.name ≡ codes "link" → item_in element ≡ some_item (named_item Item.Link element)
unfolding item_in
item-link element e = rw (ap (λ t. bytes_eq t (codes "link")) e) refl

item-joint : (element : Element) → element.tag.name ≡ codes "joint" → item_in element ≡ some_item (named_item Item.Joint element)
unfolding item_in
item-joint element e = rw (ap (λ t. bytes_eq t (codes "link")) e, ap (λ t. bytes_eq t (codes "joint")) e) refl

item-chain : (element : Element) → element.tag.name ≡ codes "chain" → item_in element ≡ some_item (chain_in element)
unfolding item_in
item-chain element e = rw (ap (λ t. bytes_eq t (codes "link")) e, ap (λ t. bytes_eq t (codes "joint")) e, ap (λ t. bytes_eq t (codes "chain")) e) refl

item-group : (element : Element) → element.tag.name ≡ codes "group" → item_in element ≡ some_item (named_item Item.Group element)
unfolding item_in
item-group element e = rw (ap (λ t. bytes_eq t (codes "link")) e, ap (λ t. bytes_eq t (codes "joint")) e, ap (λ t. bytes_eq t (codes "chain")) e, ap (λ t. bytes_eq t (codes "group")) e) refl

some-says : (step : Result GroupItem SrdfFaultKind) (item : Option GroupItem) → some_item step ≡ Ok item → (x : GroupItem) × (step ≡ Ok x) × (Some x ≡ item)
some-says step item h =
    let p = then-ok step (λ x. Ok (Some x)) item h in
    let same : Some p.0 ≡ item = cc in
    (p.0, p.1, same)

chain-says : (element : Element) (item : GroupItem) → element.tag.name ≡ codes "chain" → chain_in element ≡ Ok item → IsItem element item
unfolding chain_in
chain-says element item named h =
    let b = then-ok (name_in (codes "base_link") element) _ item h in
    let t = then-ok (name_in (codes "tip_link") element) _ item b.2 in
    let same : Item.Chain b.0 t.0 ≡ item = cc in
    subst (IsItem element) same (named, given-says (codes "base_link") element b.0 b.1, given-says (codes "tip_link") element t.0 t.1)

chain-obeys : (element : Element) → Obeys (NoName when (Lacks (codes "base_link") element ⊎ Lacks (codes "tip_link") element) ∷ []) (chain_in element)
unfolding chain_in
chain-obeys element =
    obeys-either
    (obeys-next (name_in (codes "base_link") element) _ (given-obeys (codes "base_link") element)
    (λ base e. obeys-value (name_in (codes "tip_link") element) (λ tip. Item.Chain base tip) (given-obeys (codes "tip_link") element)))

named-says : (make : List ℕ → GroupItem) (element : Element) (item : GroupItem) → named_item make element ≡ Ok item → (name : List ℕ) × HasName element name × (make name ≡ item)
unfolding named_item
named-says make element item h =
    let p = then-ok (name_in (codes "name") element) _ item h in
    let same : make p.0 ≡ item = cc in
    (p.0, given-says (codes "name") element p.0 p.1, same)

named-read : (make : List ℕ → GroupItem) (element : Element) (name : List ℕ) → HasName element name → named_item make element ≡ Ok (make name)
unfolding named_item
named-read make element name h = rw (given-read (codes "name") element name h) refl

named-obeys : (make : List ℕ → GroupItem) (element : Element) → Obeys (NoName when Lacks (codes "name") element ∷ []) (named_item make element)
unfolding named_item
named-obeys make element = obeys-value (name_in (codes "name") element) make (given-obeys (codes "name") element)

-- the item that such an element has
abbrev HasItem : Element → Option GroupItem → Type 0
HasItem element None = ⊥
HasItem element (Some item) = IsItem element item

item-says : (element : Element) (item : Option GroupItem) → is_item element ≡ true → item_in element ≡ Ok item → HasItem element item
item-says element item is h =
    elim (item-name element is) [
      | inl e ↦ let p = some-says (named_item Item.Link element) item (sym (item-link element e) ∙ h) in let n = named-says Item.Link element p.0 p.1 in subst (HasItem element) (ap Some n.2 ∙ p.2) (e, n.1)
      | inr (inl e) ↦ let p = some-says (named_item Item.Joint element) item (sym (item-joint element e) ∙ h) in let n = named-says Item.Joint element p.0 p.1 in subst (HasItem element) (ap Some n.2 ∙ p.2) (e, n.1)
      | inr (inr (inl e)) ↦ let p = some-says (chain_in element) item (sym (item-chain element e) ∙ h) in subst (HasItem element) p.2 (chain-says element p.0 e p.1)
      | inr (inr (inr e)) ↦ let p = some-says (named_item Item.Group element) item (sym (item-group element e) ∙ h) in let n = named-says Item.Group element p.0 p.1 in subst (HasItem element) (ap Some n.2 ∙ p.2) (e, n.1)
    ]

chain-read : (element : Element) (base tip : List ℕ) → Gives (codes "base_link") element base → Gives (codes "tip_link") element tip → chain_in element ≡ Ok (Item.Chain base tip)
unfolding chain_in
chain-read element base tip b t = rw (given-read (codes "base_link") element base b, given-read (codes "tip_link") element tip t) refl

item-read : (element : Element) (item : GroupItem) → IsItem element item → item_in element ≡ Ok (Some item)
item-read element (Item.Link name) h = item-link element h.0 ∙ ap some_item (named-read Item.Link element name h.1)
item-read element (Item.Joint name) h = item-joint element h.0 ∙ ap some_item (named-read Item.Joint element name h.1)
item-read element (Item.Chain base tip) h = item-chain element h.0 ∙ ap some_item (chain-read element base tip h.1 h.2)
item-read element (Item.Group name) h = item-group element h.0 ∙ ap some_item (named-read Item.Group element name h.1)

lacks-name : (element : Element) (make : List ℕ → GroupItem) → bytes_eq element.tag.name (codes "chain") ≡ false → Obeys (NoName when ItemLacksName element ∷ []) (some_item (named_item make element))
lacks-name element make e = rw e (obeys-value (named_item make element) (λ item. Some item) (named-obeys make element))

lacks-end : (element : Element) → bytes_eq element.tag.name (codes "chain") ≡ true → Obeys (NoName when ItemLacksName element ∷ []) (some_item (chain_in element))
lacks-end element e = rw e (obeys-value (chain_in element) (λ item. Some item) (chain-obeys element))

item-obeys : (element : Element) → is_item element ≡ true → Obeys (NoName when ItemLacksName element ∷ []) (item_in element)
item-obeys element is =
    elim (item-name element is) [
      | inl e ↦ subst (Obeys (NoName when ItemLacksName element ∷ [])) (sym (item-link element e)) (lacks-name element Item.Link (ap (λ t. bytes_eq t (codes "chain")) e))
      | inr (inl e) ↦ subst (Obeys (NoName when ItemLacksName element ∷ [])) (sym (item-joint element e)) (lacks-name element Item.Joint (ap (λ t. bytes_eq t (codes "chain")) e))
      | inr (inr (inl e)) ↦ subst (Obeys (NoName when ItemLacksName element ∷ [])) (sym (item-chain element e)) (lacks-end element (ap (λ t. bytes_eq t (codes "chain")) e))
      | inr (inr (inr e)) ↦ subst (Obeys (NoName when ItemLacksName element ∷ [])) (sym (item-group element e)) (lacks-name element Item.Group (ap (λ t. bytes_eq t (codes "chain")) e))
    ]

-- the items of a group

items-say : (done : List GroupItem) (elements : List Element) (all : List GroupItem) → items_after done elements ≡ Ok all → (more : List GroupItem) × (all ≡ done ++ more) × AllZip IsItem (filter is_item elements) more
unfolding items_after
items-say done [] all h = let same : done ≡ all = cc in ([], sym same ∙ sym (append-nil done), tt)
items-say done (element ∷ elements) all h =
    let p = then-ok (item_in element) (λ item. items_after (with_item done item) elements) all h in
    by (is_item element) refl p.0 p.1 (items-say (with_item done p.0) elements all p.2)
  where
    by : (b : Bool) → is_item element ≡ b → (item : Option GroupItem) → item_in element ≡ Ok item → (more : List GroupItem) × (all ≡ with_item done item ++ more) × AllZip IsItem (filter is_item elements) more → (more : List GroupItem) × (all ≡ done ++ more) × AllZip IsItem (cond b (element ∷ filter is_item elements) (filter is_item elements)) more
    by true is None e rest = absurd (item-says element None is e)
    by true is (Some item) e rest = (item ∷ rest.0, rest.1 ∙ append_assoc done (item ∷ []) rest.0, (item-says element (Some item) is e, rest.2))
    by false is None e rest = rest
    by false is (Some item) e rest = let clash : value (Some item) ≡ value None = sym e ∙ item-passed element is in absurd cc

items-read : (done : List GroupItem) (elements : List Element) (more : List GroupItem) → AllZip IsItem (filter is_item elements) more → items_after done elements ≡ Ok (done ++ more)
unfolding items_after
items-read done [] [] each = ap Ok (sym (append-nil done))
items-read done [] (item ∷ more) each = absurd each
items-read done (element ∷ elements) more each = by (λ made left. items-read made elements left) (is_item element) refl more each
  where
    by : ((made left : List GroupItem) → AllZip IsItem (filter is_item elements) left → items_after made elements ≡ Ok (made ++ left)) → (b : Bool) → is_item element ≡ b → (more : List GroupItem) → AllZip IsItem (cond b (element ∷ filter is_item elements) (filter is_item elements)) more → (item_in element >>= λ item. items_after (with_item done item) elements) ≡ Ok (done ++ more)
    by rest true is [] each = absurd each
    by rest true is (item ∷ more) each = rw (item-read element item each.0) (rest (done ++ item ∷ []) more each.1 ∙ ap Ok (append_assoc done (item ∷ []) more))
    by rest false is more each = rw (item-passed element is) (rest done more each)

items-obey : (done : List GroupItem) (elements : List Element) → Obeys (NoName when Any ItemLacksName (filter is_item elements) ∷ []) (items_after done elements)
unfolding items_after
items-obey done [] = obeys-ok (NoName when Any ItemLacksName [] ∷ []) done (any-none ItemLacksName, tt)
items-obey done (element ∷ elements) = by (λ made. items-obey made elements) (is_item element) refl
  where
    by : ((made : List GroupItem) → Obeys (NoName when Any ItemLacksName (filter is_item elements) ∷ []) (items_after made elements)) → (b : Bool) → is_item element ≡ b → Obeys (NoName when Any ItemLacksName (cond b (element ∷ filter is_item elements) (filter is_item elements)) ∷ []) (item_in element >>= λ item. items_after (with_item done item) elements)
    by rest true is =
        obeys-same
        (any-join ItemLacksName element (filter is_item elements))
        (any-cases ItemLacksName element (filter is_item elements))
        (obeys-either
        (obeys-next (item_in element) (λ item. items_after (with_item done item) elements) (item-obeys element is) (λ item e. rest (with_item done item))))
    by rest false is = rw (item-passed element is) (rest done)

of-items-say : (element : Element) (items : List GroupItem) → items_of element ≡ Ok items → AllZip IsItem (items_inside element) items
unfolding items_of
of-items-say element items h =
    let p = items-say [] (elements_inside element.tag.depth element.inside) items h in
    subst (AllZip IsItem (items_inside element)) (sym p.1) p.2

of-items-read : (element : Element) (items : List GroupItem) → AllZip IsItem (items_inside element) items → items_of element ≡ Ok items
unfolding items_of
of-items-read element items each = items-read [] (elements_inside element.tag.depth element.inside) items each

of-items-obey : (element : Element) → Obeys (NoName when Any ItemLacksName (items_inside element) ∷ []) (items_of element)
unfolding items_of
of-items-obey element = items-obey [] (elements_inside element.tag.depth element.inside)

-- a group

pub group-says : (names : List (List ℕ)) (element : Element) (group : Group) → group_of names element ≡ Ok group → IsGroup element group × (has_name names group.name ≡ false)
unfolding group_of new_name
group-says names element group h =
    let a = then-ok (name_in (codes "name") element) _ group h in
    let b = then-ok (items_of element) _ group a.2 in
    let c = then-ok (new_name names a.0) _ group b.2 in
    let new = unless-ok (has_name names a.0) NameTwice (Ok tt) c.0 c.1 in
    let made : (let g : Group = record { name = a.0; place = element.tag.place; items = b.0 } in g) ≡ group = cc in
    let Whole : Group → Type 0 = λ g. IsGroup element g × (has_name names g.name ≡ false) in
    subst Whole made (record { name = given-says (codes "name") element a.0 a.1; place = refl; items = of-items-say element b.0 b.1 }, new.0)

pub group-read : (names : List (List ℕ)) (element : Element) (group : Group) → IsGroup element group → has_name names group.name ≡ false → group_of names element ≡ Ok group
unfolding group_of new_name
group-read names element group s new = rw (given-read (codes "name") element group.name s.name, of-items-read element group.items s.items, new, ← s.place) refl

-- a group is read in one way
pub one-group : (element : Element) (a b : Group) → IsGroup element a → IsGroup element b → a ≡ b
one-group element a b p q =
    let both : value a ≡ value b = sym (group-read [] element a p refl) ∙ group-read [] element b q refl in
    cc

pub group-obeys : (before : List Element) (groups : List Group) → AllZip IsGroup (filter (is_named (codes "group")) before) groups → (element : Element) → element.tag.name ≡ codes "group" → Obeys (group_refusals before element) (group_of (names_of_groups groups) element)
unfolding group_of
group-obeys before groups each element is =
    obeys-either
    (obeys-next (name_in (codes "name") element) _ (given-obeys (codes "name") element)
    (λ name e. obeys-next (items_of element) _ (of-items-obey element)
    (λ read f. obeys-value (new_name (names_of_groups groups) name) _
    (again-obeys (λ group. group.name) IsGroup (λ x group g. g.name) (codes "group") before groups each element is name (given-says (codes "name") element name e)))))
