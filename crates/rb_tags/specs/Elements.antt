-- Elements: a tag and the tags inside it.
use Rattle.std.specs.Prelude.{ℕ, ◌+◌, Bool, ◌&&◌, ◌==◌, nat_lt, if◌then◌else◌, List, [], ◌∷◌, length, slice_get, bytes_eq, find, Option, Some, None, option_map, option_and_then}
use Rattle.std.specs.List.{take_while}
use Rattle.rb_tags.specs.declared.tag.Tag.{Tag}
use Rattle.rb_tags.specs.declared.element.ElementRef.{ElementRef}

-- the tag of an element, and the tags inside it
pub record Element : Type 0 where
  pub tag : Tag
  pub inside : List Tag

-- what contracts see of a borrowed element
abbrev pub as_element : ElementRef → Element
as_element element = record { tag = element.tag.now; inside = element.inside.now }

abbrev pub is_deeper : ℕ → Tag → Bool
is_deeper depth tag = nat_lt depth tag.depth

-- the element of a tag, before the tags behind it: inside are those that are deeper, up to the first that is not
abbrev pub element_of : Tag → List Tag → Element
element_of tag behind = record { tag = tag; inside = take_while (is_deeper tag.depth) behind }

-- a tag directly inside an element of a depth
unfoldable pub is_inside : ℕ → Tag → Bool
is_inside around tag = tag.depth == around + 1

-- a tag of this name, directly inside an element of a depth
unfoldable pub is_child : List ℕ → ℕ → Tag → Bool
is_child name around tag = tag.depth == around + 1 && bytes_eq tag.name name

-- the elements directly inside an element of a depth, in file order
unfoldable pub elements_inside : ℕ → List Tag → List Element
elements_inside around [] = []
elements_inside around (tag ∷ tags) =
    if is_inside around tag then element_of tag tags ∷ elements_inside around tags else elements_inside around tags

-- the elements of this name, directly inside an element of a depth
unfoldable pub elements : List ℕ → ℕ → List Tag → List Element
elements name around [] = []
elements name around (tag ∷ tags) =
    if is_child name around tag then element_of tag tags ∷ elements name around tags else elements name around tags

-- the first element of this name directly inside
unfoldable pub child : List ℕ → Element → Option Element
child name element = slice_get (elements name element.tag.depth element.inside) 0

-- the value of the first attribute of this name
unfoldable pub attribute : List ℕ → Element → Option (List ℕ)
attribute key element = option_map (λ attr. attr.value) (find (λ attr. bytes_eq attr.name key) element.tag.attrs)

-- the same, of an element that may be missing
abbrev pub child_in : List ℕ → Option Element → Option Element
child_in name element = option_and_then (child name) element

abbrev pub attribute_in : List ℕ → Option Element → Option (List ℕ)
attribute_in key element = option_and_then (attribute key) element

-- a text that is not empty
abbrev pub filled : List ℕ → Option (List ℕ)
filled text = if length text == 0 then None else Some text

-- the value of the first attribute of this name, where it is not empty
unfoldable pub given : List ℕ → Element → Option (List ℕ)
given key element = option_and_then filled (attribute key element)
