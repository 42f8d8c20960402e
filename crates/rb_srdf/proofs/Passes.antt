-- Passes over elements or words, one by one, that stop at the first fault.
use Rattle.std.proofs.Common.{◌≡◌, ℕ, ◌<◌, ◌≤◌, Bool, true, false, List, [], ◌∷◌, length, get_or, Result, Ok, Err, refl, ap, ◌∙◌}
use Rattle.rb_result.specs.Steps.{◌>>=◌}
use Rattle.rb_tags.specs.declared.tag.Tag.{Tag}
use Rattle.rb_tags.specs.Elements.{Element, element_of, is_inside, is_child, elements_inside, elements}
use Rattle.rb_tags.proofs.Walks.{others, elements-first, elements-others, elements-none, inside-first, inside-others, inside-none}

-- each part is read behind what there is, and put to it
pub record IsPass {E K X Y : Type 0} (read : X → E → Result Y K) (put : X → Y → X) (after : X → List E → Result X K) : Type 0 where
  pub none : (x : X) → after x [] ≡ Ok x
  pub more : (x : X) (e : E) (es : List E) → after x (e ∷ es) ≡ (read x e >>= λ y. after (put x y) es)

-- what is left gives what is missing
pub record Reached {E K X : Type 0} (after : X → List E → Result X K) (whole : Result X K) (left : List E) : Type 0 where
  pub so_far : X
  pub are : whole ≡ after so_far left

module _ {E K X Y : Type 0} {read : X → E → Result Y K} {put : X → Y → X} {after : X → List E → Result X K}
    (pass : IsPass read put after) (whole : Result X K) (x : X) (all left : List E) (e : E) where
  pub goes-on : (y : Y) (z : X) → whole ≡ after x all → all ≡ e ∷ left → read x e ≡ Ok y → z ≡ put x y → whole ≡ after z left
  goes-on y z is parts ok same = is ∙ ap (after x) parts ∙ pass.more x e left ∙ rw (ok, same) refl

  pub stops : (fault : K) → whole ≡ after x all → all ≡ e ∷ left → read x e ≡ Err fault → whole ≡ Err fault
  stops fault is parts fails = is ∙ ap (after x) parts ∙ pass.more x e left ∙ rw fails refl

pub ends : {E K X Y : Type 0} {read : X → E → Result Y K} {put : X → Y → X} {after : X → List E → Result X K} (pass : IsPass read put after) (whole : Result X K) (x : X) (left : List E) → whole ≡ after x left → left ≡ [] → whole ≡ Ok x
ends {after} pass whole x left is none = is ∙ ap (after x) none ∙ pass.none x

-- the elements of tags are those of the tags that pass a test
pub record IsWalk (pick : List Tag → List Element) (test : Tag → Bool) : Type 0 where
  pub first : (tags : List Tag) (tag : Tag) → 1 ≤ length tags → tag ≡ get_or tags 0 tag → test tag ≡ true → pick tags ≡ element_of tag (others 0 tags tag) ∷ pick (others 0 tags tag)
  pub other : (tags : List Tag) (tag : Tag) → 1 ≤ length tags → tag ≡ get_or tags 0 tag → test tag ≡ false → pick tags ≡ pick (others 0 tags tag)
  pub none : (tags : List Tag) → length tags < 1 → pick tags ≡ []

-- the first element of tags and those behind it
pub walk-first : {pick : List Tag → List Element} {test : Tag → Bool} (walk : IsWalk pick test) (tags : List Tag) (tag : Tag) (element : Element) → 1 ≤ length tags → tag ≡ get_or tags 0 tag → test tag ≡ true → element ≡ element_of tag (others 0 tags tag) → pick tags ≡ element ∷ pick (others 0 tags tag)
walk-first walk tags tag element some first is e = rw e (walk.first tags tag some first is)

pub inside_walk : (around : ℕ) → IsWalk (elements_inside around) (is_inside around)
inside_walk around = record { first = λ tags tag. inside-first around tags tag; other = λ tags tag. inside-others around tags tag; none = inside-none around }

pub named_walk : (name : List ℕ) (around : ℕ) → IsWalk (elements name around) (is_child name around)
named_walk name around = record { first = λ tags tag. elements-first name around tags tag; other = λ tags tag. elements-others name around tags tag; none = elements-none name around }

module _ {K X Y : Type 0} {read : X → Element → Result Y K} {put : X → Y → X} {after : X → List Element → Result X K} {pick : List Tag → List Element} {test : Tag → Bool}
    (pass : IsPass read put after) (walk : IsWalk pick test) (whole : Result X K) (x : X) (tags : List Tag) where
  pub pass-more : (tag : Tag) (element : Element) (y : Y) (z : X) → whole ≡ after x (pick tags) → 1 ≤ length tags → tag ≡ get_or tags 0 tag → test tag ≡ true → element ≡ element_of tag (others 0 tags tag) → read x element ≡ Ok y → z ≡ put x y → whole ≡ after z (pick (others 0 tags tag))
  pass-more tag element y z all some first is e ok same =
      goes-on pass whole x (pick tags) _ element y z all (walk-first walk tags tag element some first is e) ok same

  pub pass-fails : (tag : Tag) (element : Element) (fault : K) → whole ≡ after x (pick tags) → 1 ≤ length tags → tag ≡ get_or tags 0 tag → test tag ≡ true → element ≡ element_of tag (others 0 tags tag) → read x element ≡ Err fault → whole ≡ Err fault
  pass-fails tag element fault all some first is e fails =
      stops pass whole x (pick tags) (pick (others 0 tags tag)) element fault all (walk-first walk tags tag element some first is e) fails

  pub pass-other : (tag : Tag) → whole ≡ after x (pick tags) → 1 ≤ length tags → tag ≡ get_or tags 0 tag → test tag ≡ false → whole ≡ after x (pick (others 0 tags tag))
  pass-other tag all some first is = all ∙ ap (after x) (walk.other tags tag some first is)

  pub pass-end : whole ≡ after x (pick tags) → length tags < 1 → whole ≡ Ok x
  pass-end all none = ends pass whole x (pick tags) all (walk.none tags none)
