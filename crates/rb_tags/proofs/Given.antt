-- Texts that attributes give, which are not empty.
use Rattle.std.proofs.Common.{ne_eqb, eqb, ◌≡◌, ◌≢◌, ℕ, false, List, [], ◌∷◌, length, Option, Some, None, refl, ap, ◌∙◌, arith}
use Rattle.std.specs.Prelude.{option_and_then}
use Rattle.rb_tags.specs.Elements.{Element, attribute, given, filled}

filled-says : (text : Option (List ℕ)) (said : List ℕ) → option_and_then filled text ≡ Some said → (text ≡ Some said) × (said ≢ [])
filled-says None said h = absurd cc
filled-says (Some []) said h = absurd cc
filled-says (Some (b ∷ bs)) said h =
    let full : eqb (length (b ∷ bs)) 0 ≡ false = ne_eqb (length (b ∷ bs)) 0 (λ e. omega arith) in
    let same : Some (b ∷ bs) ≡ Some said = rw full at h in
    (same, λ none. let clash : Some (b ∷ bs) ≡ Some [] = same ∙ ap Some none in absurd cc)

filled-read : (said : List ℕ) → said ≢ [] → filled said ≡ Some said
filled-read [] some = absurd (some refl)
filled-read (b ∷ bs) some = rw (ne_eqb (length (b ∷ bs)) 0 (λ e. omega arith)) refl

pub given_says : (key : List ℕ) (element : Element) (text : List ℕ) → given key element ≡ Some text → (attribute key element ≡ Some text) × (text ≢ [])
unfolding given
given_says key element text h = filled-says (attribute key element) text h

pub given_read : (key : List ℕ) (element : Element) (text : List ℕ) → attribute key element ≡ Some text → text ≢ [] → given key element ≡ Some text
unfolding given
given_read key element text says some = rw (says, filled-read text some) refl
