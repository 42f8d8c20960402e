-- The numbers of attributes.
use Rattle.std.specs.Prelude.{ℕ, List, [], ◌∷◌, codes, Option, Some, None, Result, Ok}
use Rattle.rb_num.specs.Interval.{Interval, zero_interval, one_interval}
use Rattle.rb_text.specs.Bracket.{bracket_of}
use Rattle.rb_text.specs.declared.bracket.TextFault.{TextFault}
use Rattle.rb_urdf.specs.declared.faults.UrdfFaultKind.{UrdfFaultKind}
use Rattle.rb_urdf.specs.declared.faults.UrdfFaultKind.TheVariants.{BadNumber}
use Rattle.rb_urdf.specs.declared.numbers.Origin.{Origin}
use Rattle.rb_tags.specs.Elements.{Element, attribute_in}
use Rattle.rb_result.specs.Steps.{◌>>=◌, told_as}
use Rattle.rb_text.specs.Three.{three_of}

-- 0 0 0
abbrev pub zeros : List Interval
zeros = zero_interval ∷ zero_interval ∷ zero_interval ∷ []

-- 1 0 0
abbrev pub first_axis : List Interval
first_axis = one_interval ∷ zero_interval ∷ zero_interval ∷ []

-- why a text has no bracket is not told
abbrev pub as_bad_number : TextFault → UrdfFaultKind
as_bad_number fault = BadNumber

-- the bracket of a text
unfoldable pub number_in : List ℕ → Result Interval UrdfFaultKind
number_in text = told_as as_bad_number (bracket_of text)

-- the brackets of a text of three words
unfoldable pub three_in : List ℕ → Result (List Interval) UrdfFaultKind
three_in text = told_as as_bad_number (three_of text)

-- what a text says, or the default where there is none
abbrev pub said_or : {A : Type 0} → A → (List ℕ → Result A UrdfFaultKind) → Option (List ℕ) → Result A UrdfFaultKind
said_or default read None = Ok default
said_or default read (Some text) = read text

-- the number of an attribute, or the default where the element or the attribute is missing
unfoldable pub number_or : Interval → List ℕ → Option Element → Result Interval UrdfFaultKind
number_or default key element = said_or default number_in (attribute_in key element)

-- the three numbers of an attribute, or the default
unfoldable pub three_or : List Interval → List ℕ → Option Element → Result (List Interval) UrdfFaultKind
three_or default key element = said_or default three_in (attribute_in key element)

-- where an origin is and how it is turned
unfoldable pub origin_of : Option Element → Result Origin UrdfFaultKind
origin_of origin =
    three_or zeros (codes "xyz") origin >>= λ xyz.
    three_or zeros (codes "rpy") origin >>= λ rpy.
    Ok (record { xyz = xyz; rpy = rpy })
