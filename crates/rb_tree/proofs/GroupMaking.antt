-- The groups of a file, one after another.
use Rattle.std.proofs.Common.{◌≡◌, ◌≢◌, ◌↔◌, ◌<◌, ◌≤◌, ◌+◌, ℕ, zero, suc, Bool, List, [], ◌∷◌, ◌++◌, length, map, take, set, get_or, Some, refl, sym, ◌∙◌, ap, subst, arith, inl, inr}
use Rattle.std.specs.List.{Any, Contains, slice_get, AllByRecursion}
use Rattle.std.proofs.lemmas.Bool.{cases_order}
use Rattle.std.proofs.lemmas.List.{length-map, map-append, take_more, get_or-map}
use Rattle.std.proofs.lemmas.Option.{same_Some, slice_get_within, get_or_from_slice_get, slice_get_read}
use Rattle.rb_srdf.specs.declared.srdf.GroupItem.{GroupItem}
use Rattle.rb_srdf.specs.declared.srdf.GroupItem.TheVariants as Item
use Rattle.rb_srdf.specs.declared.srdf.Group.{Group}
use Rattle.rb_srdf.specs.declared.srdf.Virtual.{Virtual}
use Rattle.rb_srdf.specs.Groups.{Holds, IsHoldingOrder}
use Rattle.rb_srdf.specs.Srdf.{names_of_groups}
use Rattle.rb_urdf.proofs.Zips.{slice_get-to_map}
use Rattle.std.proofs.Math.Seq.{map-set_same}
use Rattle.rb_tree.specs.declared.robot.Body.{Body}
use Rattle.rb_tree.specs.declared.groups.BodyGroup.{BodyGroup}
use Rattle.rb_tree.specs.Robot.{AreBodies, IsGroupKept}
use Rattle.rb_tree.specs.Groups.{GroupGives, IsGroupRight, AreGroupsOf}
use Rattle.rb_tree.specs.GroupMarks.{IsMarked, Adds, AreMarked, AreBodiesOf, HasBodies, NamesGroup, ItemGivesAll}
use Rattle.rb_tree.proofs.Answered.{below_or_last}
use Rattle.rb_tree.proofs.ListLaws.{item_there}
use Rattle.rb_tree.proofs.GroupMarking.{any_contained}
use Rattle.rb_tree.proofs.GroupGiving.{gives_by_items}
use Rattle.rb_tree.proofs.GroupNames.{group_there}
use Rattle.rb_tree.proofs.GroupOrder.{held_before}

-- ---- lists
pub slice_get-set_same : {X : Type 0} (xs : List X) (k : ℕ) (x : X) → k < length xs → slice_get (set xs k x) k ≡ Some x
slice_get-set_same [] k x h = absurd (omega arith)
slice_get-set_same (y ∷ xs) zero x h = refl
slice_get-set_same (y ∷ xs) (suc k) x h = slice_get-set_same xs k x (omega arith)

pub slice_get-set_other : {X : Type 0} (xs : List X) (k i : ℕ) (x : X) → i ≢ k → slice_get (set xs k x) i ≡ slice_get xs i
slice_get-set_other [] k i x o = refl
slice_get-set_other (y ∷ xs) zero zero x o = absurd (o refl)
slice_get-set_other (y ∷ xs) zero (suc i) x o = refl
slice_get-set_other (y ∷ xs) (suc k) zero x o = refl
slice_get-set_other (y ∷ xs) (suc k) (suc i) x o = slice_get-set_other xs k i x (λ e. o (ap suc e))

-- ---- one group
-- an item that names a group holds it
pub holds_named : (groups : List Group) (number k : ℕ) (group : Group) (items : List GroupItem) → slice_get groups number ≡ Some group → items ≡ group.items →
    Any (λ item. NamesGroup groups item k) items → Holds groups number k
holds_named groups number k group items is same a =
    let f = any_contained (λ item. NamesGroup groups item k) items a in
    let P : GroupItem → Type 0 = λ item. Contains items item in
    let Q : List GroupItem → Type 0 = λ xs. Contains xs (Item.Group f.2.group.name) in
    record { holder = group; held = f.2.group; holder_is = is; held_is = f.2.is; item = subst Q same (subst P f.2.names f.1) }

pub marks_tell : (bodies : List Body) (groups : List Group) (number : ℕ) (group : Group) (items : List GroupItem) (old new : List Bool) → slice_get groups number ≡ Some group →
    items ≡ group.items → ((i : ℕ) → IsMarked old i → ⊥) → Adds (λ i. Any (λ item. ItemGivesAll bodies groups item i) items) old new → (i : ℕ) →
    IsMarked new i ↔ GroupGives bodies groups number i
marks_tell bodies groups number group items old new is same none adds i =
    let P : List GroupItem → Type 0 = λ xs. Any (λ item. ItemGivesAll bodies groups item i) xs in
    let g = gives_by_items bodies groups number i group is in (
      λ m. elim ((adds.marks i).0 m) [ inl o ↦ absurd (none i o) | inr a ↦ g.0 (subst P same a) ],
      λ h. (adds.marks i).1 (inr (subst P (sym same) (g.1 h))),
    )

pub marked_bodies : (bodies : List Body) (groups : List Group) (k : ℕ) (marks : List Bool) (numbers : List ℕ) → AreMarked marks numbers →
    ((i : ℕ) → IsMarked marks i ↔ GroupGives bodies groups k i) → AreBodiesOf bodies groups k numbers
marked_bodies bodies groups k marks numbers are tell = record {
  ascending = are.ascending;
  all = λ i. (λ c. (tell i).0 ((are.all i).0 c), λ g. (are.all i).1 ((tell i).1 g));
}

-- ---- all groups
abbrev pub names_made : List BodyGroup → List (List ℕ)
names_made made = map (λ (group : BodyGroup). group.name) made

pub named_more : (groups : List Group) (k : ℕ) (group : Group) (made now : List BodyGroup) (one : BodyGroup) → names_made made ≡ take k (names_of_groups groups) →
    k < length groups → group ≡ get_or groups k group → now ≡ made ++ one ∷ [] → one.name ≡ group.name → names_made now ≡ take (k + 1) (names_of_groups groups)
named_more groups k group made now one before within read e same =
    let names = names_of_groups groups in
    let size : k < length names = omega (arith, length-map groups (λ (g : Group). g.name)) in
    let at : get_or names k group.name ≡ group.name = get_or-map (λ (g : Group). g.name) groups k group group.name within ∙ ap (λ (g : Group). g.name) (sym read) in
    ap names_made e ∙ (map-append (λ (g : BodyGroup). g.name) made (one ∷ [])
    ∙ (ap (λ v. names_made made ++ v ∷ []) (same ∙ sym at) ∙ (ap (λ v. v ++ get_or names k group.name ∷ []) before ∙ sym (take_more names k group.name size))))

-- the groups of the first places have their bodies
pub record MadeUpTo (bodies : List Body) (groups : List Group) (order : List ℕ) (n : ℕ) (made : List BodyGroup) : Type 0 where
  pub names : names_made made ≡ names_of_groups groups
  pub done : (place k : ℕ) → place < n → slice_get order place ≡ Some k → HasBodies bodies groups made k

pub made_first : (bodies : List Body) (groups : List Group) (order : List ℕ) (made : List BodyGroup) → names_made made ≡ names_of_groups groups → MadeUpTo bodies groups order 0 made
made_first bodies groups order made e = record { names = e; done = λ place k low at. absurd (omega arith) }

pub made_count : (groups : List Group) (made : List BodyGroup) → names_made made ≡ names_of_groups groups → length made ≡ length groups
made_count groups made e = sym (length-map made (λ (g : BodyGroup). g.name)) ∙ (ap length e ∙ length-map groups (λ (g : Group). g.name))

module _ (bodies : List Body) (groups : List Group) (order : List ℕ) (n : ℕ) (made : List BodyGroup) (done : MadeUpTo bodies groups order n made) where
  pub made_more : (k : ℕ) (old one : BodyGroup) → slice_get order n ≡ Some k → k < length made → old ≡ get_or made k old → one.name ≡ old.name →
      AreBodiesOf bodies groups k one.bodies → MadeUpTo bodies groups order (n + 1) (set made k one)
  made_more k old one at within read same are = record {
    names = map-set_same (λ (g : BodyGroup). g.name) made k one old (same ∙ ap (λ (g : BodyGroup). g.name) read) ∙ done.names;
    done = λ place b low at_b group got. elim (cases_order b k) [
      | inl e ↦
          let P : ℕ → Type 0 = λ x. slice_get (set made k one) x ≡ Some group in
          let new : one ≡ group = same_Some one group (sym (slice_get-set_same made k one within) ∙ subst P e got) in
          let Q : BodyGroup → Type 0 = λ g. AreBodiesOf bodies groups b g.bodies in
          let R : ℕ → Type 0 = λ x. AreBodiesOf bodies groups x one.bodies in
          subst Q new (subst R (sym e) are)
      | inr o ↦
          let other : b ≢ k = elim o [ inl lt ↦ (λ e. absurd (omega arith)) | inr gt ↦ (λ e. absurd (omega arith)) ] in
          let earlier : place < n = elim (below_or_last place n low) [
            | inl lt ↦ lt
            | inr last ↦ absurd (other (same_Some b k (sym at_b ∙ (ap (slice_get order) last ∙ at))))
          ] in
          done.done place b earlier at_b group (sym (slice_get-set_other made k b one other) ∙ got)
    ];
  }

  module _ (holding : IsHoldingOrder groups order) where
    pub made_held : (k : ℕ) → slice_get order n ≡ Some k → (b : ℕ) → Holds groups k b → HasBodies bodies groups made b
    made_held k at b holds = let h = held_before groups order holding n k b at holds in done.done h.0 b h.1 h.2

    pub made_all : (virtuals : List Virtual) → AllByRecursion (IsGroupRight bodies virtuals) groups → length order ≤ n → AreGroupsOf bodies virtuals groups made
    made_all virtuals right end = record {
      right = right;
      count = made_count groups made done.names;
      each = λ k one at.
          let within = slice_get_within made k one at in
          let k_in : k < length groups = omega (arith, made_count groups made done.names) in
          let c = holding.all k k_in in
          let are = done.done c.0 k (let lt = c.1 in omega arith) (slice_get_read order (length order) c.0 k refl c.1 (sym c.2)) one at in
          let g = item_there groups k k_in in
          record {
            group = g.0;
            is = g.1;
            name = same_Some one.name g.0.name
                (sym (slice_get-to_map (λ (x : BodyGroup). x.name) made k one at)
                ∙ (ap (λ names. slice_get names k) done.names ∙ slice_get-to_map (λ (x : Group). x.name) groups k g.0 g.1));
            ascending = are.ascending;
            all = are.all;
          };
    }

-- ---- what the groups of a robot keep
-- what holds of each item of a list by its place holds by recursion
all_at : {X : Type 0} (P : X → Type 0) (xs : List X) → ((k : ℕ) (x : X) → slice_get xs k ≡ Some x → P x) → AllByRecursion P xs
all_at P [] f = tt
all_at P (x ∷ xs) f = (f 0 x refl, all_at P xs (λ k y at. f (suc k) y at))

contained_at : {X : Type 0} (xs : List X) (k : ℕ) (x : X) → slice_get xs k ≡ Some x → Contains xs x
contained_at xs k x at = (k, slice_get_within xs k x at, get_or_from_slice_get xs k x x at)

pub groups_kept : (bodies : List Body) (virtuals : List Virtual) (groups : List Group) (made : List BodyGroup) → AreBodies bodies → AreGroupsOf bodies virtuals groups made →
    AllByRecursion (IsGroupKept bodies) made
groups_kept bodies virtuals groups made are all = all_at (IsGroupKept bodies) made (λ k one at.
    let g = all.each k one at in
    record {
      there = all_at (λ i. (1 ≤ i) × (i ≤ length bodies)) one.bodies (λ place i at_i.
          let t = group_there bodies are groups k i ((g.all i).0 (contained_at one.bodies place i at_i)) in
          (t.from, t.to));
      ascending = g.ascending;
    })
