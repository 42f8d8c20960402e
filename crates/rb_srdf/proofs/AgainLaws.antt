-- Names that an earlier element has.
use Rattle.std.proofs.Common.{◌≡◌, ℕ, Bool, true, false, List, [], ◌∷◌, map, Some, Ok, sym, ap, subst, ◌∙◌, true≢false}
use Rattle.std.specs.Prelude.{Any, bytes_eq, codes, filter}
use Rattle.std.specs.List.{AllZip}
use Rattle.rb_tags.specs.InOrder.{◌when◌}
use Rattle.rb_tags.proofs.Obeying.{Obeys, obeys-ok, obeys-unless}
use Rattle.rb_tags.specs.Elements.{Element}
use Rattle.rb_tags.proofs.Numbering.{list_any-map}
use Rattle.rb_srdf.specs.declared.faults.SrdfFaultKind.TheVariants.{NameTwice}
use Rattle.rb_srdf.specs.Names.{has_name, new_name}
use Rattle.rb_srdf.specs.Profile.{HasName}
use Rattle.rb_srdf.specs.Refusals.{HasNameAgain}
use Rattle.rb_srdf.proofs.GivenLaws.{is-text, same-text, one-text}
use Rattle.rb_srdf.proofs.Lists.{zip-any, any-zip, any-weaker, any-filter, filter-any}

-- an element of this name
abbrev pub is_named : List ℕ → Element → Bool
is_named tag element = bytes_eq element.tag.name tag

-- a test that passes exactly where a fact holds stops a step
pub fails-not : (b : Bool) (P : Type 0) → (P → b ≡ true) → b ≡ false → ¬ P
fails-not b P passes e p = true≢false (sym (passes p) ∙ e)

module _ {A : Type 0} (name : A → List ℕ) (R : Element → A → Type 0) (named : (element : Element) (x : A) → R element x → HasName element (name x)) where
  -- a name of what was made is that of an element, and the other way round

  pub name-made : (elements : List Element) (xs : List A) → AllZip R elements xs → (said : List ℕ) → has_name (map name xs) said ≡ true → Any (λ e. HasName e said) elements
  name-made elements xs each said h =
      zip-any R (λ x. bytes_eq said (name x)) (λ e. HasName e said)
      (λ e x r same. let is = is-text said (name x) same in let n = named e x r in record { says = n.says ∙ ap Some (sym is); some = λ none. n.some (sym is ∙ none) })
      elements xs each (sym (list_any-map name (bytes_eq said) xs) ∙ h)

  pub name-of_made : (elements : List Element) (xs : List A) → AllZip R elements xs → (said : List ℕ) → Any (λ e. HasName e said) elements → has_name (map name xs) said ≡ true
  name-of_made elements xs each said h =
      list_any-map name (bytes_eq said) xs
      ∙ any-zip R (λ x. bytes_eq said (name x)) (λ e. HasName e said)
      (λ e x r has. same-text said (name x) (one-text (codes "name") e said (name x) has (named e x r)))
      elements xs each h

  module _ (tag : List ℕ) (before : List Element) (xs : List A) (each : AllZip R (filter (is_named tag) before) xs) (element : Element) (alike : element.tag.name ≡ tag) (said : List ℕ) (has : HasName element said) where
    again-says : has_name (map name xs) said ≡ true → HasNameAgain before element
    again-says h =
        any-weaker (λ e. (is_named tag e ≡ true) × HasName e said) _ before
        (λ e p. (is-text e.tag.name tag p.0 ∙ sym alike, record { text = said; first = p.1; second = has }))
        (any-filter (λ e. HasName e said) (is_named tag) before (name-made (filter (is_named tag) before) xs each said h))

    again-read : HasNameAgain before element → has_name (map name xs) said ≡ true
    again-read h =
        name-of_made (filter (is_named tag) before) xs each said
        (filter-any (λ e. HasName e said) (is_named tag) before
        (any-weaker _ (λ e. (is_named tag e ≡ true) × HasName e said) before
        (λ e p. (same-text e.tag.name tag (p.0 ∙ alike), subst (HasName e) (one-text (codes "name") element p.1.text said p.1.second has) p.1.first)) h))

    pub again-obeys : Obeys (NameTwice when HasNameAgain before element ∷ []) (new_name (map name xs) said)
    unfolding new_name
    again-obeys =
        obeys-unless NameTwice (HasNameAgain before element) [] (has_name (map name xs) said) (Ok tt) again-says
        (fails-not (has_name (map name xs) said) (HasNameAgain before element) again-read) (λ _. obeys-ok [] tt tt)
