-- How values are made of elements one by one, each behind those before it.
use Rattle.std.proofs.Common.{◌≡◌, ℕ, ◌+◌, ◌-◌, ◌<◌, ◌≤◌, ◌⊎◌, true, false, List, [], ◌∷◌, ◌++◌, length, map, take, drop, get_or, Result, Ok, Err, refl, sym, ap, ◌∙◌, arith}
use Rattle.std.proofs.lemmas.List.{map-append, length-append, length-take, length-drop}
use Rattle.rb_result.specs.Steps.{◌>>=◌, placed}
use Rattle.rb_result.proofs.Placing.{IsPlacing, step_fails, fails_along}
use Rattle.rb_tags.specs.declared.tag.Tag.{Tag}
use Rattle.rb_tags.specs.Elements.{Element, element_of, is_child, elements}
use Rattle.rb_tags.proofs.Walks.{behind, elements-first, elements-others, elements-none}

pub record IsFold {K F A : Type 0} (fault_at : K → ℕ → F) (after : List A → List Element → Result (List A) F) (step : List A → Element → Result A K) : Type 0 where
  pub none : (xs : List A) → after xs [] ≡ Ok xs
  pub more : (xs : List A) (e : Element) (es : List Element) → after xs (e ∷ es) ≡ (placed fault_at e.tag.place (step xs e) >>= λ x. after (xs ++ x ∷ []) es)

module _ {K F A : Type 0} {fault_at : K → ℕ → F} {after : List A → List Element → Result (List A) F} {step : List A → Element → Result A K} (fold : IsFold fault_at after step)
    (name : List ℕ) (around : ℕ) (whole : Result (List A) F) (xs : List A) (tags : List Tag) (tag : Tag) where
  pub fold-fails : {told : K → ℕ → F} {memory : K} {no_memory : F} → IsPlacing fault_at told memory no_memory → (kind : K) (fault : F) (element : Element) (made : Result A K) → whole ≡ after xs (elements name around tags) → 1 ≤ length tags → tag ≡ get_or tags 0 tag → is_child name around tag ≡ true → element ≡ element_of tag (behind name around tags tag) → made ≡ step xs element → fault ≡ told kind tag.place → (kind ≡ memory) ⊎ (made ≡ Err kind) → (fault ≡ no_memory) ⊎ (whole ≡ Err fault)
  fold-fails {no_memory} places kind fault element made all some first is e m f fails =
      fails_along no_memory fault whole _ (all ∙ ap (after xs) (elements-first name around tags tag some first is) ∙ fold.more xs _ _)
      (step_fails places kind tag.place fault (step xs (element_of tag (behind name around tags tag))) _ f (rw (← e, ← m) fails))

  pub fold-more : (element : Element) (made : Result A K) (x : A) (ys : List A) → whole ≡ after xs (elements name around tags) → 1 ≤ length tags → tag ≡ get_or tags 0 tag → is_child name around tag ≡ true → element ≡ element_of tag (behind name around tags tag) → made ≡ step xs element → made ≡ Ok x → ys ≡ xs ++ x ∷ [] → whole ≡ after ys (elements name around (behind name around tags tag))
  fold-more element made x ys all some first is e m ok more =
      all ∙ ap (after xs) (elements-first name around tags tag some first is) ∙ fold.more xs _ _
      ∙ rw (← e, ← m, ok, more) refl

  pub fold-other : whole ≡ after xs (elements name around tags) → 1 ≤ length tags → tag ≡ get_or tags 0 tag → is_child name around tag ≡ false → whole ≡ after xs (elements name around (behind name around tags tag))
  fold-other all some first is = all ∙ ap (after xs) (elements-others name around tags tag some first is)

pub fold-end : {K F A : Type 0} {fault_at : K → ℕ → F} {after : List A → List Element → Result (List A) F} {step : List A → Element → Result A K} (fold : IsFold fault_at after step) (name : List ℕ) (around : ℕ) (whole : Result (List A) F) (xs : List A) (tags : List Tag) → whole ≡ after xs (elements name around tags) → length tags < 1 → whole ≡ Ok xs
fold-end {after} fold name around whole xs tags all none = all ∙ ap (after xs) (elements-none name around tags none) ∙ fold.none xs

-- one name more stands behind the others
pub names_more : {A : Type 0} (name : A → List ℕ) (xs ys : List A) (x : A) (names now : List (List ℕ)) → names ≡ map name xs → now ≡ names ++ name x ∷ [] → ys ≡ xs ++ x ∷ [] → now ≡ map name ys
names_more name xs ys x names now e n y = n ∙ rw (e, y) (sym (map-append name xs (x ∷ [])))

-- what was made and what is left are few
pub few_more : {A B : Type 0} (xs ys : List A) (x : A) (rest : List B) (n : ℕ) → ys ≡ xs ++ x ∷ [] → 1 ≤ length rest → length xs + length rest ≤ n → length ys + length (take (length rest - 1) (drop 1 rest)) ≤ n
few_more xs ys x rest n e some few = rw e (simp (length-append, length-take, length-drop) (omega arith))

pub few_other : {A B : Type 0} (xs : List A) (rest : List B) (n : ℕ) → 1 ≤ length rest → length xs + length rest ≤ n → length xs + length (take (length rest - 1) (drop 1 rest)) ≤ n
few_other xs rest n some few = simp (length-take, length-drop) (omega arith)
