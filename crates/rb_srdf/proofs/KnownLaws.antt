-- Groups that are named are there.
use Rattle.std.proofs.Common.{◌≡◌, inl, ℕ, Bool, true, false, cond, ◌&&◌, List, [], ◌∷◌, ◌++◌, get_or, Option, Some, None, Result, Ok, Err, refl, sym, ap, ◌∙◌, subst, true≢false}
use Rattle.std.specs.Prelude.{Any, bytes_eq, codes, filter}
use Rattle.std.specs.List.{AllZip, AllByRecursion, Contains, list_all}
use Rattle.std.proofs.lemmas.List.Folds.{Any-from_list_any, list_any-from_Any}
use Rattle.rb_result.specs.Steps.{◌>>=◌, placed}
use Rattle.rb_tags.specs.InOrder.{◌when◌, either, at_place}
use Rattle.rb_tags.proofs.Obeying.{Obeys, obeys-ok, obeys-err, obeys-placed, obeys-then}
use Rattle.rb_tags.specs.declared.tag.Tag.{Tag}
use Rattle.rb_tags.specs.Elements.{Element, element_of, is_inside, is_child, elements, elements_inside, attribute}
use Rattle.rb_srdf.specs.declared.faults.SrdfFaultKind.{SrdfFaultKind}
use Rattle.rb_srdf.specs.declared.faults.SrdfFaultKind.TheVariants.{UnknownName}
use Rattle.rb_srdf.specs.declared.srdf.Group.{Group}
use Rattle.rb_srdf.specs.Faults.{fault_at}
use Rattle.rb_srdf.specs.Names.{has_name}
use Rattle.rb_srdf.specs.Parts.{is_known, names_known, groups_inside, is_settled, all_settled}
use Rattle.rb_srdf.specs.Srdf.{names_of_groups}
use Rattle.rb_srdf.specs.Profile.{Gives, HasName, children, IsGroup}
use Rattle.rb_srdf.specs.Refusals.{NamesUnknown, name_refusals, in_order}
use Rattle.rb_srdf.proofs.GivenLaws.{is-text, same-text, one-text}
use Rattle.rb_srdf.proofs.AgainLaws.{is_named, name-made, name-of_made}
use Rattle.rb_srdf.proofs.Lists.{any-each, each-lacks, each-not_any, each-weaker, all-pass, one-fails}

-- the elements of a name are those of that name among all

pub elements-named : (name : List ℕ) (around : ℕ) (tags : List Tag) → elements name around tags ≡ filter (is_named name) (elements_inside around tags)
unfolding elements elements_inside is_child is_inside
elements-named name around [] = refl
elements-named name around (tag ∷ tags) = by (is_inside around tag) (elements-named name around tags)
  where
    by : (b : Bool) → elements name around tags ≡ filter (is_named name) (elements_inside around tags) → cond (b && bytes_eq tag.name name) (element_of tag tags ∷ elements name around tags) (elements name around tags) ≡ filter (is_named name) (cond b (element_of tag tags ∷ elements_inside around tags) (elements_inside around tags))
    by true rest = ap (λ es. cond (bytes_eq tag.name name) (element_of tag tags ∷ es) es) rest
    by false rest = rest

-- names that are there

pub contains-name : (names : List (List ℕ)) (name : List ℕ) → has_name names name ≡ true → Contains names name
contains-name names name h =
    let a = Any-from_list_any (bytes_eq name) names h in
    let same : name ≡ a.1 = is-text name a.1 a.4 in
    (a.0, a.2, subst (λ x. get_or names a.0 x ≡ x) (sym same) a.3)

pub name-contained : (names : List (List ℕ)) (name : List ℕ) → Contains names name → has_name names name ≡ true
name-contained names name c = list_any-from_Any (bytes_eq name) names (c.0, name, c.1, c.2, same-text name name refl)

-- an attribute is given
abbrev pub IsGiven : List ℕ → Element → Type 0
IsGiven key element = (text : List ℕ) × Gives key element text

-- an element that is to name groups gives their names
pub record NamesAll (element : Element) : Type 0 where
  pub groups : is_named (codes "group") element ≡ true → AllByRecursion (IsGiven (codes "name")) (children (codes "group") element)
  pub group : is_named (codes "group_state") element ≡ true → IsGiven (codes "group") element

-- the answer of a test that an element passes, or has the fault of
abbrev told : Bool → Result (Unit {0}) SrdfFaultKind
told true = Ok tt
told false = Err UnknownName

-- an attribute that names one of the groups, or none

module _ (groups : List Element) (read : List Group) (are : AllZip IsGroup groups read) where
  -- a text that is the name of a group
  record Known (key : List ℕ) (element : Element) : Type 0 where
    text : List ℕ
    gives : Gives key element text
    there : has_name (names_of_groups read) text ≡ true

  known-says : (key : List ℕ) (element : Element) → names_known (names_of_groups read) key element ≡ true → Known key element
  known-says key element h = by (attribute key element) refl h
    where
      by : (said : Option (List ℕ)) → attribute key element ≡ said → is_known (names_of_groups read) said ≡ true → Known key element
      by None e h = absurd (true≢false (sym h))
      by (Some text) e h =
          let one = name-made (λ (g : Group). g.name) IsGroup (λ x group g. g.name) groups read are text h in
          record { text = text; gives = record { says = e; some = one.4.some }; there = h }

  known-read : (key : List ℕ) (element : Element) (text : List ℕ) → Gives key element text → has_name (names_of_groups read) text ≡ true → names_known (names_of_groups read) key element ≡ true
  known-read key element text gives there = rw (gives.says) there

  known-not : (key : List ℕ) (element : Element) → names_known (names_of_groups read) key element ≡ true → ¬ NamesUnknown groups key element
  known-not key element h u =
      let k = known-says key element h in
      each-not_any (λ g. HasName g k.text) groups (subst (λ t. AllByRecursion (λ g. ¬ HasName g t) groups) (one-text key element u.name k.text u.gives k.gives) u.unknown)
      (name-made (λ (g : Group). g.name) IsGroup (λ x group g. g.name) groups read are k.text k.there)

  known-none : (key : List ℕ) (element : Element) → IsGiven key element → names_known (names_of_groups read) key element ≡ false → NamesUnknown groups key element
  known-none key element given h = record {
    name = given.0;
    gives = given.1;
    unknown = each-lacks (λ g. HasName g given.0) groups
        (λ one. true≢false (sym (known-read key element given.0 given.1 (name-of_made (λ (g : Group). g.name) IsGroup (λ x group g. g.name) groups read are given.0 one)) ∙ h));
  }

  -- the refusals of the second pass

  settle : Element → Result (Unit {0}) SrdfFaultKind
  settle element = told (is_settled (names_of_groups read) element)

  obeys-test : (P : Type 0) (b : Bool) → (b ≡ true → ¬ P) → (b ≡ false → P) → Obeys (UnknownName when P ∷ []) (told b)
  obeys-test P true holds fails = obeys-ok (UnknownName when P ∷ []) tt (holds refl, tt)
  obeys-test P false holds fails = obeys-err (UnknownName when P ∷ []) UnknownName (inl (fails refl, refl))

  settle-obeys : (element : Element) → NamesAll element → Obeys (name_refusals groups element) (settle element)
  unfolding settle is_settled
  settle-obeys element names = by (bytes_eq element.tag.name (codes "group")) (bytes_eq element.tag.name (codes "group_state")) refl refl
    where
      by : (a b : Bool) → is_named (codes "group") element ≡ a → is_named (codes "group_state") element ≡ b → Obeys (either a (UnknownName when Any (NamesUnknown groups (codes "name")) (children (codes "group") element) ∷ []) (either b (UnknownName when NamesUnknown groups (codes "group") element ∷ []) []))
          (told (cond a (list_all (names_known (names_of_groups read) (codes "name")) (groups_inside element)) (cond b (names_known (names_of_groups read) (codes "group") element) true)))
      by true b is _ =
          obeys-test (Any (NamesUnknown groups (codes "name")) (groups_inside element)) (list_all (names_known (names_of_groups read) (codes "name")) (groups_inside element))
          (λ h. each-not_any (NamesUnknown groups (codes "name")) (groups_inside element) (each-weaker _ (λ e. ¬ NamesUnknown groups (codes "name") e) (groups_inside element) (known-not (codes "name")) (all-pass (names_known (names_of_groups read) (codes "name")) (groups_inside element) h)))
          (λ h. any-each (IsGiven (codes "name")) _ (NamesUnknown groups (codes "name")) (groups_inside element) (known-none (codes "name")) (names.groups is) (one-fails (names_known (names_of_groups read) (codes "name")) (groups_inside element) h))
      by false true _ is = obeys-test (NamesUnknown groups (codes "group") element) (names_known (names_of_groups read) (codes "group") element) (known-not (codes "group") element) (known-none (codes "group") element (names.group is))
      by false false _ _ = obeys-ok [] tt tt

  settled-more : (element : Element) (others : List Element) → all_settled (names_of_groups read) (element ∷ others) ≡ (placed fault_at element.tag.place (settle element) >>= λ _. all_settled (names_of_groups read) others)
  unfolding all_settled settle
  settled-more element others = by (is_settled (names_of_groups read) element)
    where
      by : (b : Bool) → cond b (all_settled (names_of_groups read) others) (Err (fault_at UnknownName element.tag.place)) ≡ (placed fault_at element.tag.place (told b) >>= λ _. all_settled (names_of_groups read) others)
      by true = refl
      by false = refl

  pub all-settled-obey : (before elements : List Element) → AllByRecursion NamesAll elements → Obeys (in_order (λ before element. name_refusals groups element) before elements) (all_settled (names_of_groups read) elements)
  unfolding all_settled
  all-settled-obey before [] names = obeys-ok [] tt tt
  all-settled-obey before (element ∷ others) names =
      subst (Obeys (in_order (λ before element. name_refusals groups element) before (element ∷ others))) (sym (settled-more element others))
      (obeys-then (at_place fault_at element.tag.place (name_refusals groups element)) _ (placed fault_at element.tag.place (settle element)) _
      (obeys-placed fault_at element.tag.place (settle element) (settle-obeys element names.0))
      (λ _ e. all-settled-obey (before ++ element ∷ []) others names.1))
