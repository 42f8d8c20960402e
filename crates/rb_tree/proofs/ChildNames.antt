-- Names among those of links, and virtual joints that bear none of these links.
use Rattle.std.proofs.Common.{◌≡◌, ◌↔◌, ℕ, suc, ◌+◌, ◌<◌, Bool, true, false, not, cond, IsTrue, List, [], ◌∷◌, ◌++◌, length, take, drop, get_or, Option, Some, None, is_some, add-one, drop-cons, sym, ◌∙◌, ap, subst, arith, inl, inr}
use Rattle.std.specs.Prelude.{bytes_eq}
use Rattle.std.specs.List.{AllByRecursion, Contains, list_any, position_or_len}
use Rattle.std.proofs.lemmas.Bool.{cases_lt}
use Rattle.std.proofs.lemmas.Bool.Decides.{nat_tests}
use Rattle.std.proofs.lemmas.Slice.Eq.{bytes_eq-Decides}
use Rattle.std.proofs.lemmas.List.{take-append-drop, take_more, map-append}
use Rattle.std.proofs.lemmas.List.Sums.{fails_before_first}
use Rattle.std.proofs.lemmas.Option.{slice_get_within, get_or_from_slice_get}
use Rattle.rb_tags.specs.Names.{AreDifferent, number_of_name}
use Rattle.rb_urdf.specs.declared.robot.UrdfLink.{UrdfLink}
use Rattle.rb_urdf.specs.Robot.{names_of_links}
use Rattle.rb_urdf.proofs.NameLaws.{number-says, differ-new}
use Rattle.rb_srdf.specs.declared.srdf.Virtual.{Virtual}
use Rattle.rb_tree.specs.Build.{BearsLink}
use Rattle.rb_tree.specs.Refusals.{BearsNoLink}

-- ---- names that have a number
has_number : (names : List (List ℕ)) (name : List ℕ) (o : Option ℕ) → number_of_name names name ≡ o → IsTrue (is_some o) → Contains names name
has_number names name None e t = absurd cc
has_number names name (Some n) e t =
    let at = number-says names name n e in
    (n, slice_get_within names n name at, get_or_from_slice_get names n name name at)

-- a name that is there is there first somewhere
first_within : (names : List (List ℕ)) (name : List ℕ) → Contains names name → position_or_len (bytes_eq name) names < length names
first_within names name has =
    elim (cases_lt has.0 (position_or_len (bytes_eq name) names)) [
      | inl less ↦
          let fails = fails_before_first (bytes_eq name) names has.0 name less in
          let same : bytes_eq name (get_or names has.0 name) ≡ true = (bytes_eq-Decides name (get_or names has.0 name)).1 (sym has.2) in
          absurd (let clash : true ≡ false = sym same ∙ fails in cc)
      | inr high ↦ let within = has.1 in omega arith
    ]

number_of : (names : List (List ℕ)) (name : List ℕ) → Contains names name → IsTrue (is_some (number_of_name names name))
unfolding number_of_name
number_of names name has = let low = first_within names name has in grind (arith, nat_tests)

pub numbered : (names : List (List ℕ)) (name : List ℕ) (o : Option ℕ) (b : Bool) → o ≡ number_of_name names name → b ≡ is_some o → IsTrue b ↔ Contains names name
numbered names name o b e is = (
  λ t. has_number names name o (sym e) (sym is ∙ t),
  λ has. is ∙ (ap is_some e ∙ number_of names name has),
)

-- ---- the names of links, one after another
split_here : {X : Type 0} (xs : List X) (k : ℕ) (x : X) → k < length xs → x ≡ get_or xs k x → take k xs ++ x ∷ drop (k + 1) xs ≡ xs
split_here xs k x within is =
    let tail : drop k xs ≡ x ∷ drop (k + 1) xs = rw add-one (drop-cons xs k x within ∙ ap (λ y. y ∷ drop (suc k) xs) (sym is)) in
    ap (λ rest. take k xs ++ rest) (sym tail) ∙ take-append-drop k xs

link_name_new : (links : List UrdfLink) (k : ℕ) (link : UrdfLink) → AreDifferent (names_of_links links) → k < length links → link ≡ get_or links k link →
    list_any (bytes_eq link.name) (names_of_links (take k links)) ≡ false
link_name_new links k link differ within is =
    let parts : names_of_links links ≡ names_of_links (take k links) ++ link.name ∷ names_of_links (drop (k + 1) links) =
    ap (λ (ls : List UrdfLink). names_of_links ls) (sym (split_here links k link within is)) ∙ map-append (λ (l : UrdfLink). l.name) (take k links) (link ∷ drop (k + 1) links) in
    differ-new (names_of_links (take k links)) (names_of_links (drop (k + 1) links)) link.name (subst AreDifferent parts differ)

pub one_link_more : (links : List UrdfLink) (k : ℕ) (link : UrdfLink) (name : List ℕ) (before after : List (List ℕ)) (added : Bool) → AreDifferent (names_of_links links) → k < length links →
    link ≡ get_or links k link → name ≡ link.name → before ≡ names_of_links (take k links) → added ≡ not (list_any (bytes_eq name) before) →
    after ≡ cond added (before ++ name ∷ []) before → after ≡ names_of_links (take (k + 1) links)
one_link_more links k link name before after added differ within is n b a e =
    let new : list_any (bytes_eq name) before ≡ false = ap (λ m. list_any (bytes_eq m) before) n ∙ (ap (list_any (bytes_eq link.name)) b ∙ link_name_new links k link differ within is) in
    let t : added ≡ true = a ∙ ap not new in
    let longer : names_of_links (take (k + 1) links) ≡ names_of_links (take k links) ++ link.name ∷ [] =
    ap (λ (ls : List UrdfLink). names_of_links ls) (take_more links k link within ∙ ap (λ l. take k links ++ l ∷ []) (sym is)) ∙ map-append (λ (l : UrdfLink). l.name) (take k links) (link ∷ []) in
    e ∙ (ap (λ t. cond t (before ++ name ∷ []) before) t ∙ (ap (λ m. before ++ m ∷ []) n ∙ (ap (λ names. names ++ link.name ∷ []) b ∙ sym longer)))

-- ---- virtual joints one after another
all_push : {X : Type 0} (P : X → Type 0) (xs : List X) (x : X) → AllByRecursion P xs → P x → AllByRecursion P (xs ++ x ∷ [])
all_push P [] x all p = (p, tt)
all_push P (y ∷ xs) x all p = (all.0, all_push P xs x all.1 p)

pub one_virtual_more : (names : List (List ℕ)) (virtuals : List Virtual) (k : ℕ) (virtual : Virtual) → k < length virtuals → virtual ≡ get_or virtuals k virtual →
    AllByRecursion (BearsLink names) (take k virtuals) → BearsLink names virtual → AllByRecursion (BearsLink names) (take (k + 1) virtuals)
one_virtual_more names virtuals k virtual within is all bears =
    let P : List Virtual → Type 0 = λ vs. AllByRecursion (BearsLink names) vs in
    subst P (sym (take_more virtuals k virtual within ∙ ap (λ v. take k virtuals ++ v ∷ []) (sym is))) (all_push (BearsLink names) (take k virtuals) virtual all bears)

pub bears_none : (names : List (List ℕ)) (virtuals : List Virtual) (k : ℕ) (virtual : Virtual) (at : ℕ) → k < length virtuals → virtual ≡ get_or virtuals k virtual → at ≡ virtual.place →
    AllByRecursion (BearsLink names) (take k virtuals) → (BearsLink names virtual → ⊥) → BearsNoLink names virtuals at
bears_none names virtuals k virtual at within is place all none = record {
  before = take k virtuals;
  virtual = virtual;
  after = drop (k + 1) virtuals;
  are = sym (split_here virtuals k virtual within is);
  place = place;
  none = none;
  first = all;
}
