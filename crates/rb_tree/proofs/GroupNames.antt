-- The bodies and the groups that names stand for.
use Rattle.std.proofs.Common.{◌≡◌, ◌↔◌, ◌<◌, ◌≤◌, ◌+◌, ◌⊎◌, ℕ, zero, suc, Bool, true, false, not, cond, List, [], ◌∷◌, ◌++◌, length, map, take, get_or, ltb, is_some, ◌||◌, Option, None, Some, refl, sym, ◌∙◌, ap, subst, arith, inl, inr}
use Rattle.std.specs.Prelude.{position, bytes_eq, option_map}
use Rattle.std.specs.Option.{option_or}
use Rattle.std.specs.List.{Contains, list_any, position_or_len}
use Rattle.std.proofs.lemmas.Bool.{false≢true}
use Rattle.std.proofs.lemmas.List.{length-map, take_more, length-take-le, get_or-take, get_or-map, take_all}
use Rattle.std.proofs.lemmas.List.Folds.{list_any_none}
use Rattle.std.proofs.lemmas.List.Quantifiers.{position-Some}
use Rattle.std.proofs.lemmas.Bool.Decides.{nat_tests}
use Rattle.std.proofs.lemmas.Slice.Eq.{bytes_eq-Decides}
use Rattle.std.proofs.lemmas.Option.{same_Some, slice_get_within, slice_get_read}
use Rattle.rb_tags.specs.Names.{AreDifferent, number_of_name}
use Rattle.rb_srdf.specs.declared.srdf.GroupItem.{GroupItem}
use Rattle.rb_srdf.specs.declared.srdf.GroupItem.TheVariants as Item
use Rattle.rb_srdf.specs.declared.srdf.Group.{Group}
use Rattle.rb_srdf.specs.declared.srdf.Virtual.{Virtual}
use Rattle.rb_srdf.specs.Srdf.{names_of_groups, names_of_virtuals}
use Rattle.rb_urdf.proofs.NameLaws.{number-says, number-read}
use Rattle.rb_urdf.proofs.Zips.{slice_get-to_map, slice_get-of_map}
use Rattle.rb_tree.specs.declared.robot.Body.{Body}
use Rattle.rb_tree.specs.declared.groups.BodyGroup.{BodyGroup}
use Rattle.rb_tree.specs.Columns.{parent_at}
use Rattle.rb_tree.specs.Robot.{AreBodies}
use Rattle.rb_tree.specs.Groups.{body_of_link, body_of_joint, is_virtual, IsAtOrAbove, IsBelow, IsInChain, IsBroken, ItemGives, GroupGives}
use Rattle.rb_tree.specs.GroupMarks.{Scope, IsScope, AreBodiesOf, HasBodies, NamesGroup, ItemGivesAll}
use Rattle.rb_tree.proofs.Stems.{read_same}
use Rattle.rb_tree.proofs.GroupChains.{above_le, above_or_not}

-- what holds of the parts of a scope holds of its value
pub scope_kept : (s t : Scope) (virtuals groups : List (List ℕ)) → s ≡ t → IsScope s virtuals groups → IsScope t virtuals groups
scope_kept s t virtuals groups e kept = let P : Scope → Type 0 = λ x. IsScope x virtuals groups in subst P e kept

-- ---- sets of names
unequal : (a b : List ℕ) → (a ≡ b → ⊥) → bytes_eq a b ≡ false
unequal a b differ = by (bytes_eq a b) refl
  where
    by : (t : Bool) → bytes_eq a b ≡ t → bytes_eq a b ≡ false
    by false e = e
    by true e = absurd (differ ((bytes_eq-Decides a b).0 e))

-- one name more of a list of names that differ
pub names_more : (all now next : List (List ℕ)) (k : ℕ) (name : List ℕ) (added : Bool) → AreDifferent all → now ≡ take k all → k < length all → get_or all k name ≡ name →
    added ≡ not (list_any (bytes_eq name) now) → next ≡ cond added (now ++ name ∷ []) now → next ≡ take (k + 1) all
names_more all now next k name added differ before within at new e =
    let none : list_any (bytes_eq name) now ≡ false =
    ap (list_any (bytes_eq name)) before
    ∙ list_any_none (bytes_eq name) (take k all)
    (λ i d low.
    let small : i < k = omega (arith, length-take-le {A = List ℕ} k all (omega arith)) in
    unequal name (get_or (take k all) i d)
    (λ same. differ i k name small within (sym (get_or-take k all i name small) ∙ (read_same (take k all) i name d low ∙ (sym same ∙ sym at))))) in
    let b : added ≡ true = new ∙ ap not none in
    e ∙ (ap (λ t. cond t (now ++ name ∷ []) now) b
    ∙ (ap (λ names. names ++ name ∷ []) before ∙ (ap (λ v. take k all ++ v ∷ []) (sym at) ∙ sym (take_more all k name within))))

pub names_more_of : {X : Type 0} (f : X → List ℕ) (xs : List X) (k : ℕ) (x : X) (now next : List (List ℕ)) (text : List ℕ) (added : Bool) → AreDifferent (map f xs) →
    now ≡ take k (map f xs) → k < length xs → x ≡ get_or xs k x → text ≡ f x → added ≡ not (list_any (bytes_eq text) now) →
    next ≡ cond added (now ++ text ∷ []) now → next ≡ take (k + 1) (map f xs)
names_more_of f xs k x now next text added differ before within read named new e =
    let size : k < length (map f xs) = omega (arith, length-map xs f) in
    let at : get_or (map f xs) k text ≡ text = get_or-map f xs k x text within ∙ (ap f (sym read) ∙ sym named) in
    names_more (map f xs) now next k text added differ before size at new e

pub names_all : {X : Type 0} (f : X → List ℕ) (xs : List X) (k : ℕ) (now : List (List ℕ)) → now ≡ take k (map f xs) → length xs ≤ k → now ≡ map f xs
names_all f xs k now e end = e ∙ take_all k (map f xs) (omega (arith, length-map xs f))

found_or : {X : Type 0} (p : X → Bool) (xs : List X) → ltb (position_or_len p xs) (length xs) ≡ list_any p xs
found_or p [] = refl
found_or p (x ∷ xs) = by (p x) (position_or_len p xs) (length xs) (list_any p xs) (found_or p xs)
  where
    by : (b : Bool) (n m : ℕ) (rest : Bool) → ltb n m ≡ rest → ltb (cond (not b) (1 + n) 0) (suc m) ≡ (b || rest)
    by true n m rest e = first m
      where
        first : (m : ℕ) → ltb 0 (suc m) ≡ true
        first m = grind (arith, nat_tests)
    by false n m rest e = turned n m ∙ e
      where
        turned : (n m : ℕ) → ltb (1 + n) (suc m) ≡ ltb n m
        turned n m = grind (arith, nat_tests)

some_found : {X : Type 0} (p : X → Bool) (xs : List X) → is_some (position p xs) ≡ list_any p xs
some_found p xs = by (ltb (position_or_len p xs) (length xs)) ∙ found_or p xs
  where
    by : (b : Bool) → is_some (cond b (Some (position_or_len p xs)) None) ≡ b
    by true = refl
    by false = refl

same_turned : (a b : List ℕ) → bytes_eq a b ≡ bytes_eq b a
same_turned a b = by (bytes_eq b a) refl
  where
    by : (t : Bool) → bytes_eq b a ≡ t → bytes_eq a b ≡ t
    by true e = (bytes_eq-Decides a b).1 (sym ((bytes_eq-Decides b a).0 e))
    by false e = unequal a b (λ same. false≢true (sym e ∙ (bytes_eq-Decides b a).1 (sym same)))

virtual_named : (name : List ℕ) (virtuals : List Virtual) → list_any (bytes_eq name) (names_of_virtuals virtuals) ≡ is_virtual virtuals name
unfolding is_virtual
virtual_named name [] = refl
virtual_named name (v ∷ rest) =
    ap (λ b. b || list_any (bytes_eq name) (names_of_virtuals rest)) (same_turned name v.name) ∙ ap (λ b. bytes_eq v.name name || b) (virtual_named name rest)

pub virtual_found : (name : List ℕ) (virtuals : List Virtual) (names : List (List ℕ)) (o : Option ℕ) → names ≡ names_of_virtuals virtuals → o ≡ number_of_name names name →
    is_some o ≡ is_virtual virtuals name
unfolding number_of_name
virtual_found name virtuals names o same e =
    ap is_some (e ∙ ap (λ n. number_of_name n name) same) ∙ (some_found (bytes_eq name) (names_of_virtuals virtuals) ∙ virtual_named name virtuals)

-- ---- bodies
pub record IsThere (bodies : List Body) (i : ℕ) : Type 0 where
  pub from : 1 ≤ i
  pub to : i ≤ length bodies

counted : (n : ℕ) (o : Option ℕ) (i : ℕ) → option_map (λ k. k + n) o ≡ Some i → (k : ℕ) × (o ≡ Some k) × (i ≡ k + n)
counted n None i e = absurd cc
counted n (Some k) i e = let same : k + n ≡ i = cc in (k, refl, sym same)

place_within : {X : Type 0} (p : X → Bool) (xs : List X) (k : ℕ) → position p xs ≡ Some k → k < length xs
place_within p [] k e = absurd cc
place_within p (x ∷ xs) k e = (position-Some p (x ∷ xs) k x e).0

pub link_there : (bodies : List Body) (name : List ℕ) (i : ℕ) → body_of_link bodies name ≡ Some i → IsThere bodies i
unfolding body_of_link
link_there bodies name i e =
    let test : Body → Bool = λ body. bytes_eq body.link_name name in
    let h = counted 1 (position test bodies) i e in
    let is = h.2 in
    let within = place_within test bodies h.0 h.1 in
    record { from = omega arith; to = omega arith }

root_there : (bodies : List Body) (b : Bool) (i : ℕ) → 1 ≤ length bodies → cond b (Some 1) None ≡ Some i → IsThere bodies i
root_there bodies true i some e = let same : 1 ≡ i = cc in record { from = omega arith; to = omega arith }
root_there bodies false i some e = absurd cc

either_there : (bodies : List Body) (o : Option ℕ) (b : Bool) (i : ℕ) → 1 ≤ length bodies → ((k : ℕ) → o ≡ Some k → k + 2 ≤ length bodies) →
    option_or (option_map (λ k. k + 2) o) (cond b (Some 1) None) ≡ Some i → IsThere bodies i
either_there bodies None b i some low e = root_there bodies b i some e
either_there bodies (Some k) b i some low e = let same : k + 2 ≡ i = cc in let l = low k refl in record { from = omega arith; to = omega arith }

pub joint_there : (bodies : List Body) (name : List ℕ) (i : ℕ) → body_of_joint bodies name ≡ Some i → IsThere bodies i
unfolding body_of_joint
joint_there [] name i e = absurd cc
joint_there (root ∷ rest) name i e =
    let test : Body → Bool = λ body. bytes_eq body.joint_name name in
    either_there (root ∷ rest) (position test rest) (bytes_eq root.joint_name name) i (omega arith) (λ k h. let w = place_within test rest k h in omega arith) e

-- ---- chains
pub chain_there : (bodies : List Body) → AreBodies bodies → (base_name tip_name : List ℕ) (i : ℕ) → IsInChain bodies base_name tip_name i → IsThere bodies i
chain_there bodies are base_name tip_name i h =
    let base = link_there bodies base_name h.base h.chain.base_is in
    let tip = link_there bodies tip_name h.tip h.chain.tip_is in
    let b1 = base.from in
    let t1 = tip.to in
    let le = above_le bodies are.parents i h.tip h.down_to in
    let low = above_le bodies are.parents h.base (parent_at bodies i) h.below in
    record { from = positive i low b1; to = omega arith }
  where
    positive : (i : ℕ) → h.base ≤ parent_at bodies i → 1 ≤ h.base → 1 ≤ i
    positive zero le one = absurd (omega arith)
    positive (suc k) le one = omega arith

module _ (bodies : List Body) (base_name tip_name : List ℕ) (base tip : ℕ) (base_is : body_of_link bodies base_name ≡ Some base) (tip_is : body_of_link bodies tip_name ≡ Some tip) where
  pub chain_down : AreBodies bodies → (IsBroken bodies base_name tip_name → ⊥) → IsAtOrAbove bodies base tip
  chain_down are right = elim (above_or_not bodies are.parents tip base tip (omega arith)) [
    | inl h ↦ h
    | inr none ↦ absurd (right (record { base = base; tip = tip; chain = record { base_is = base_is; tip_is = tip_is }; apart = none }))
  ]

  pub chain_bodies : (i : ℕ) → (IsBelow bodies base i × IsAtOrAbove bodies i tip) ↔ IsInChain bodies base_name tip_name i
  chain_bodies i = (
    λ p. record { base = base; tip = tip; chain = record { base_is = base_is; tip_is = tip_is }; below = p.0; down_to = p.1 },
    λ h.
        let b : h.base ≡ base = same_Some h.base base (sym h.chain.base_is ∙ base_is) in
        let t : h.tip ≡ tip = same_Some h.tip tip (sym h.chain.tip_is ∙ tip_is) in
        let P : ℕ → Type 0 = λ n. IsBelow bodies n i in
        let Q : ℕ → Type 0 = λ n. IsAtOrAbove bodies i n in
        (subst P b h.below, subst Q t h.down_to),
  )

  pub broken_tells : (IsAtOrAbove bodies base tip → ⊥) ↔ IsBroken bodies base_name tip_name
  broken_tells = (
    λ none. record { base = base; tip = tip; chain = record { base_is = base_is; tip_is = tip_is }; apart = none },
    λ h.
        let b : h.base ≡ base = same_Some h.base base (sym h.chain.base_is ∙ base_is) in
        let t : h.tip ≡ tip = same_Some h.tip tip (sym h.chain.tip_is ∙ tip_is) in
        let P : ℕ → Type 0 = λ n. IsAtOrAbove bodies n tip → ⊥ in
        let Q : ℕ → Type 0 = λ n. IsAtOrAbove bodies h.base n → ⊥ in
        subst P b (subst Q t h.apart),
  )

-- a chain of which an end is unknown has no bodies, and is not broken
pub chain_none : (bodies : List Body) (base_name tip_name : List ℕ) → (body_of_link bodies base_name ≡ None) ⊎ (body_of_link bodies tip_name ≡ None) → (i : ℕ) →
    IsInChain bodies base_name tip_name i → ⊥
chain_none bodies base_name tip_name o i h = elim o [
  | inl e ↦ let b = h.chain.base_is in cc
  | inr e ↦ let t = h.chain.tip_is in cc
]

pub broken_none : (bodies : List Body) (base_name tip_name : List ℕ) → (body_of_link bodies base_name ≡ None) ⊎ (body_of_link bodies tip_name ≡ None) →
    IsBroken bodies base_name tip_name → ⊥
broken_none bodies base_name tip_name o h = elim o [
  | inl e ↦ let b = h.chain.base_is in cc
  | inr e ↦ let t = h.chain.tip_is in cc
]

-- ---- items
pub item_there : (bodies : List Body) → AreBodies bodies → (item : GroupItem) (i : ℕ) → ItemGives bodies item i → IsThere bodies i
item_there bodies are (Item.Link name) i h = link_there bodies name i h
item_there bodies are (Item.Joint name) i h = joint_there bodies name i h
item_there bodies are (Item.Chain base tip) i h = chain_there bodies are base tip i h
item_there bodies are (Item.Group name) i h = absurd h

pub group_there : (bodies : List Body) → AreBodies bodies → (groups : List Group) (k i : ℕ) → GroupGives bodies groups k i → IsThere bodies i
group_there bodies are groups k i g = item_there bodies are g.item i g.gives

-- an item that names no group gives what it names itself
pub own_gives : (bodies : List Body) (groups : List Group) (item : GroupItem) → ((name : List ℕ) → item ≡ Item.Group name → ⊥) → (i : ℕ) →
    ItemGives bodies item i ↔ ItemGivesAll bodies groups item i
own_gives bodies groups item own i = (λ h. inl h, λ h. elim h [ inl g ↦ g | inr n ↦ absurd (own n.1.group.name n.1.names) ])

-- ---- groups
module _ (groups : List Group) (name : List ℕ) where
  -- the group of a name that is found
  pub found_group : (k : ℕ) → number_of_name (names_of_groups groups) name ≡ Some k → NamesGroup groups (Item.Group name) k
  found_group k e =
      let g = slice_get-of_map (λ (g : Group). g.name) groups k name (number-says (names_of_groups groups) name k e) in
      record { group = g.0; is = g.1; names = ap Item.Group (sym g.2) }

  -- no other has it
  pub only_found : AreDifferent (names_of_groups groups) → (k : ℕ) → NamesGroup groups (Item.Group name) k → number_of_name (names_of_groups groups) name ≡ Some k
  only_found differ k n =
      let h = n.names in
      let same : name ≡ n.group.name = cc in
      number-read (names_of_groups groups) name k differ (slice_get-to_map (λ (g : Group). g.name) groups k n.group n.is ∙ ap Some (sym same))

-- what a group that is named gives is what its list has
pub held_gives : (bodies : List Body) (groups : List Group) (name : List ℕ) (k : ℕ) (numbers : List ℕ) → AreDifferent (names_of_groups groups) →
    number_of_name (names_of_groups groups) name ≡ Some k → AreBodiesOf bodies groups k numbers → (i : ℕ) → Contains numbers i ↔ ItemGivesAll bodies groups (Item.Group name) i
held_gives bodies groups name k numbers differ found are i = (
  λ c. inr (k, found_group groups name k found, (are.all i).0 c),
  λ h. elim h [
    | inl none ↦ absurd none
    | inr n ↦
        let same : n.0 ≡ k = same_Some n.0 k (sym (only_found groups name differ n.0 n.1) ∙ found) in
        let P : ℕ → Type 0 = λ b. GroupGives bodies groups b i in
        (are.all i).1 (subst P same n.2)
  ],
)

pub unfound_gives : (bodies : List Body) (groups : List Group) (name : List ℕ) → AreDifferent (names_of_groups groups) → number_of_name (names_of_groups groups) name ≡ None → (i : ℕ) →
    ItemGivesAll bodies groups (Item.Group name) i → ⊥
unfound_gives bodies groups name differ none i h = elim h [
  | inl own ↦ own
  | inr n ↦ let found = only_found groups name differ n.0 n.1 in cc
]

-- in a scope
module _ (scope : Scope) (virtuals groups : List (List ℕ)) (kept : IsScope scope virtuals groups) (name : List ℕ) where
  pub found_in : (o : Option ℕ) (k : ℕ) → o ≡ number_of_name groups name → o ≡ Some k → number_of_name (names_of_groups scope.srdf.groups) name ≡ Some k
  found_in o k e is = ap (λ names. number_of_name names name) (sym kept.groups_are) ∙ sym e ∙ is

  pub unfound_in : (o : Option ℕ) → o ≡ number_of_name groups name → o ≡ None → number_of_name (names_of_groups scope.srdf.groups) name ≡ None
  unfound_in o e is = ap (λ names. number_of_name names name) (sym kept.groups_are) ∙ sym e ∙ is

  pub held_found : (made : List BodyGroup) (o : Option ℕ) (k : ℕ) (group : BodyGroup) → length made ≡ length scope.srdf.groups → o ≡ number_of_name groups name → o ≡ Some k →
      group ≡ get_or made k group → ((k : ℕ) → NamesGroup scope.srdf.groups (Item.Group name) k → HasBodies scope.bodies scope.srdf.groups made k) →
      AreBodiesOf scope.bodies scope.srdf.groups k group.bodies
  held_found made o k group count e is read held =
      let n = found_group scope.srdf.groups name k (found_in o k e is) in
      held k n group (slice_get_read made (length made) k group refl (omega (arith, slice_get_within scope.srdf.groups k n.group n.is)) read)
