-- Names that are given, and that differ.
use Rattle.std.proofs.Common.{◌≡◌, ℕ, ◌+◌, ◌<◌, Bool, true, false, List, ◌∷◌, ◌++◌, length, get_or, slice_get, Some, Ok, refl, sym, ap, ◌∙◌, subst, arith}
use Rattle.std.specs.Prelude.{bytes_eq, codes}
use Rattle.std.specs.List.{list_any, position_or_len}
use Rattle.std.proofs.lemmas.Bool.Decides.{nat_tests}
use Rattle.std.proofs.lemmas.Slice.Eq.{bytes_eq-Decides}
use Rattle.std.proofs.lemmas.List.{length-append, get_or_append_left}
use Rattle.std.proofs.Math.Seq.{get_or-append_seam}
use Rattle.std.proofs.lemmas.Option.{slice_get-get_or, slice_get_within, get_or_from_slice_get}
use Rattle.std.proofs.lemmas.List.Sums.{position_or_len_is}
use Rattle.std.proofs.lemmas.List.Folds.{list_any_none}
use Rattle.std.proofs.lemmas.List.Quantifiers.{position-Some}
use Rattle.rb_urdf.specs.declared.faults.UrdfFaultKind.TheVariants.{NoName, NameTwice}
use Rattle.rb_tags.specs.Elements.{Element, given}
use Rattle.rb_tags.proofs.Given.{given_says, given_read}
use Rattle.rb_urdf.specs.Names.{new_name, name_of, name_after}
use Rattle.rb_urdf.specs.Profile.{HasName}
use Rattle.rb_tags.specs.Names.{number_of_name, AreDifferent}
use Rattle.rb_result.proofs.Results.{then-ok, found-ok, unless-ok}

pub name-says : (element : Element) (name : List ℕ) → name_of element ≡ Ok name → HasName element name
unfolding name_of
name-says element name h =
    let s = given_says (codes "name") element name (found-ok (given (codes "name") element) NoName name h) in
    record { says = s.0; given = s.1 }

pub name-read : (element : Element) (name : List ℕ) → HasName element name → name_of element ≡ Ok name
unfolding name_of
name-read element name h = rw (given_read (codes "name") element name h.says h.given) refl

pub new-says : (names : List (List ℕ)) (name said : List ℕ) → new_name names name ≡ Ok said → (name ≡ said) × (list_any (bytes_eq said) names ≡ false)
unfolding new_name
new-says names name said h =
    let u = unless-ok (list_any (bytes_eq name) names) NameTwice (Ok name) said h in
    let same : name ≡ said = cc in
    (same, subst (λ n. list_any (bytes_eq n) names ≡ false) same u.0)

pub name_after-says : (names : List (List ℕ)) (element : Element) (name : List ℕ) → name_after names element ≡ Ok name → HasName element name × (list_any (bytes_eq name) names ≡ false)
unfolding name_after
name_after-says names element name h =
    let p = then-ok (name_of element) (new_name names) name h in
    let n = new-says names p.0 name p.2 in
    (name-says element name (p.1 ∙ ap Ok n.0), n.1)

pub name_after-read : (names : List (List ℕ)) (element : Element) (name : List ℕ) → HasName element name → list_any (bytes_eq name) names ≡ false → name_after names element ≡ Ok name
unfolding name_after new_name
name_after-read names element name h new = rw (name-read element name h, new) refl

-- the number of a name says where it stands
pub number-says : (names : List (List ℕ)) (name : List ℕ) (n : ℕ) → number_of_name names name ≡ Some n → slice_get names n ≡ Some name
unfolding number_of_name
number-says names name n h =
    let p = position-Some (bytes_eq name) names n name h in
    slice_get-get_or names n name p.0 ∙ ap Some (sym ((bytes_eq-Decides name (get_or names n name)).0 p.1))

unequal : (a b : List ℕ) → (a ≡ b → ⊥) → bytes_eq a b ≡ false
unequal a b differ = by (bytes_eq a b) refl
  where
    by : (t : Bool) → bytes_eq a b ≡ t → bytes_eq a b ≡ false
    by false e = e
    by true e = absurd (differ ((bytes_eq-Decides a b).0 e))

-- the number of a name among names that differ
pub number-read : (names : List (List ℕ)) (name : List ℕ) (n : ℕ) → AreDifferent names → slice_get names n ≡ Some name → number_of_name names name ≡ Some n
unfolding number_of_name
number-read names name n differ at =
    let within : n < length names = slice_get_within names n name at in
    let here : get_or names n name ≡ name = get_or_from_slice_get names n name name at in
    let first : position_or_len (bytes_eq name) names ≡ n =
    position_or_len_is (bytes_eq name) names n name (omega arith)
    (λ k before. unequal name (get_or names k name) (λ same. differ k n name before within (sym same ∙ sym here)))
    (λ _. (bytes_eq-Decides name (get_or names n name)).1 (sym here)) in
    rw first (grind (arith, nat_tests))

-- a name among names that differ is none of those before it
pub differ-new : (names others : List (List ℕ)) (name : List ℕ) → AreDifferent (names ++ name ∷ others) → list_any (bytes_eq name) names ≡ false
differ-new names others name differ =
    list_any_none (bytes_eq name) names
    (λ k d before.
    let size : length (names ++ name ∷ others) ≡ length names + length (name ∷ others) = length-append names (name ∷ others) in
    unequal name (get_or names k d)
    (λ same. differ k (length names) d before (omega arith)
    (get_or_append_left names (name ∷ others) d k before ∙ sym same ∙ sym (get_or-append_seam names name others d))))
