-- How tags are walked one by one.
use Rattle.std.proofs.Common.{◌≡◌, ℕ, zero, suc, ◌-◌, ◌<◌, ◌≤◌, true, false, List, [], ◌∷◌, length, take, drop, get_or, refl, sym, ap, ◌∙◌, arith}
use Rattle.std.proofs.lemmas.List.{take_all}
use Rattle.rb_tags.specs.declared.tag.Tag.{Tag}
use Rattle.rb_tags.specs.Elements.{element_of, is_inside, is_child, elements_inside, elements}

-- a list by its first item and the others
pub first_and_others : {A : Type 0} (xs : List A) (x : A) → 1 ≤ length xs → x ≡ get_or xs 0 x → xs ≡ x ∷ take (length xs - 1) (drop 1 xs)
first_and_others [] x h first = absurd (omega arith)
first_and_others (y ∷ ys) x h first =
    let n : length (y ∷ ys) - 1 ≡ length ys = omega arith in
    rw (n, take_all (length ys) ys (omega arith)) (ap (λ z. z ∷ ys) (sym first))

pub elements-child : (name : List ℕ) (around : ℕ) (tag : Tag) (tags : List Tag) → is_child name around tag ≡ true → elements name around (tag ∷ tags) ≡ element_of tag tags ∷ elements name around tags
unfolding elements
elements-child name around tag tags h = rw h refl

pub elements-other : (name : List ℕ) (around : ℕ) (tag : Tag) (tags : List Tag) → is_child name around tag ≡ false → elements name around (tag ∷ tags) ≡ elements name around tags
unfolding elements
elements-other name around tag tags h = rw h refl

module _ (name : List ℕ) (around : ℕ) (tags : List Tag) (tag : Tag) where
  abbrev pub behind : List Tag
  behind = take (length tags - 1) (drop 1 tags)

  -- the first tag is one of the elements
  pub elements-first : 1 ≤ length tags → tag ≡ get_or tags 0 tag → is_child name around tag ≡ true → elements name around tags ≡ element_of tag behind ∷ elements name around behind
  elements-first h first is = ap (elements name around) (first_and_others tags tag h first) ∙ elements-child name around tag behind is

  -- the first tag is none of the elements
  pub elements-others : 1 ≤ length tags → tag ≡ get_or tags 0 tag → is_child name around tag ≡ false → elements name around tags ≡ elements name around behind
  elements-others h first is = ap (elements name around) (first_and_others tags tag h first) ∙ elements-other name around tag behind is

pub elements-none : (name : List ℕ) (around : ℕ) (tags : List Tag) → length tags < 1 → elements name around tags ≡ []
unfolding elements
elements-none name around [] h = refl
elements-none name around (tag ∷ tags) h = absurd (omega arith)

pub inside-child : (around : ℕ) (tag : Tag) (tags : List Tag) → is_inside around tag ≡ true → elements_inside around (tag ∷ tags) ≡ element_of tag tags ∷ elements_inside around tags
unfolding elements_inside
inside-child around tag tags h = rw h refl

pub inside-other : (around : ℕ) (tag : Tag) (tags : List Tag) → is_inside around tag ≡ false → elements_inside around (tag ∷ tags) ≡ elements_inside around tags
unfolding elements_inside
inside-other around tag tags h = rw h refl

module _ (around : ℕ) (tags : List Tag) (tag : Tag) where
  abbrev pub others : List Tag
  others = take (length tags - 1) (drop 1 tags)

  -- the first tag is directly inside
  pub inside-first : 1 ≤ length tags → tag ≡ get_or tags 0 tag → is_inside around tag ≡ true → elements_inside around tags ≡ element_of tag others ∷ elements_inside around others
  inside-first h first is = ap (elements_inside around) (first_and_others tags tag h first) ∙ inside-child around tag others is

  -- the first tag is not directly inside
  pub inside-others : 1 ≤ length tags → tag ≡ get_or tags 0 tag → is_inside around tag ≡ false → elements_inside around tags ≡ elements_inside around others
  inside-others h first is = ap (elements_inside around) (first_and_others tags tag h first) ∙ inside-other around tag others is

pub inside-none : (around : ℕ) (tags : List Tag) → length tags < 1 → elements_inside around tags ≡ []
unfolding elements_inside
inside-none around [] h = refl
inside-none around (tag ∷ tags) h = absurd (omega arith)

take-nil : {A : Type 0} (n : ℕ) → take n (let none : List A = [] in none) ≡ []
take-nil zero = refl
take-nil (suc n) = refl

-- so many items as a front has are that front
pub front_again : {A : Type 0} (n m : ℕ) (xs : List A) → m ≡ length (take n xs) → take m xs ≡ take n xs
front_again n m [] e = take-nil m ∙ sym (take-nil n)
front_again zero m (x ∷ xs) e = rw e refl
front_again (suc n) zero (x ∷ xs) e = absurd (omega arith)
front_again (suc n) (suc m) (x ∷ xs) e = ap (λ ys. x ∷ ys) (front_again n m xs (omega arith))
