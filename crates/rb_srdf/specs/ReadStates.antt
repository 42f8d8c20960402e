-- The states of groups, one by one.
use Rattle.std.specs.Prelude.{ℕ, if◌then◌else◌, List, [], ◌∷◌, ◌++◌, codes, Option, Some, None, Result, Ok, Err}
use Rattle.std.specs.List.{list_any}
use Rattle.rb_num.specs.Interval.{Interval}
use Rattle.rb_text.specs.Bracket.{bracket_of}
use Rattle.rb_text.specs.declared.bracket.TextFault.{TextFault}
use Rattle.rb_srdf.specs.declared.faults.SrdfFaultKind.{SrdfFaultKind}
use Rattle.rb_srdf.specs.declared.faults.SrdfFaultKind.TheVariants.{NameTwice, BadNumber}
use Rattle.rb_srdf.specs.declared.srdf.JointNumbers.{JointNumbers}
use Rattle.rb_srdf.specs.declared.srdf.GroupState.{GroupState}
use Rattle.rb_tags.specs.Elements.{Element, elements, attribute}
use Rattle.rb_tags.specs.Words.{words}
use Rattle.rb_result.specs.Steps.{◌>>=◌, told_as}
use Rattle.rb_srdf.specs.Names.{name_in}
use Rattle.rb_srdf.specs.StateNames.{StateName, is_state, name_of_state}
use Rattle.rb_srdf.specs.declared.read_states.NameRef.{NameRef}

-- why a text has no bracket is not told
abbrev pub as_bad_number : TextFault → SrdfFaultKind
as_bad_number fault = BadNumber

-- the bracket of a word
unfoldable pub number_in : List ℕ → Result Interval SrdfFaultKind
number_in word = told_as as_bad_number (bracket_of word)

-- these numbers and those of the words behind them
unfoldable pub numbers_after : List Interval → List (List ℕ) → Result (List Interval) SrdfFaultKind
numbers_after numbers [] = Ok numbers
numbers_after numbers (word ∷ words) = number_in word >>= λ number. numbers_after (numbers ++ number ∷ []) words

-- the numbers of words, of which there is one at least
unfoldable pub numbers_in : List (List ℕ) → Result (List Interval) SrdfFaultKind
numbers_in [] = Err BadNumber
numbers_in (word ∷ words) = numbers_after [] (word ∷ words)

abbrev pub numbers_said : Option (List ℕ) → Result (List Interval) SrdfFaultKind
numbers_said None = Err BadNumber
numbers_said (Some text) = numbers_in (words text)

-- the joint that an element names, and its numbers
unfoldable pub value_in : Element → Result JointNumbers SrdfFaultKind
value_in element =
    name_in (codes "name") element >>= λ joint.
    numbers_said (attribute (codes "value") element) >>= λ numbers.
    Ok (record { joint = joint; numbers = numbers })

-- these values and those of the elements behind them
unfoldable pub values_after : List JointNumbers → List Element → Result (List JointNumbers) SrdfFaultKind
values_after values [] = Ok values
values_after values (element ∷ elements) = value_in element >>= λ value. values_after (values ++ value ∷ []) elements

-- each of the elements names something
unfoldable pub all_named : List Element → Result (Unit {0}) SrdfFaultKind
all_named [] = Ok tt
all_named (element ∷ elements) = name_in (codes "name") element >>= λ _. all_named elements

-- the elements that give a state its values
abbrev pub joints_inside : Element → List Element
joints_inside element = elements (codes "joint") element.tag.depth element.inside

-- a state that none of these is
unfoldable pub new_state : List StateName → List ℕ → List ℕ → Result (Unit {0}) SrdfFaultKind
new_state names group name = if list_any (is_state group name) names then Err NameTwice else Ok tt

-- the state of an element behind states of these names
unfoldable pub state_of : List StateName → Element → Result GroupState SrdfFaultKind
state_of names element =
    name_in (codes "name") element >>= λ name.
    name_in (codes "group") element >>= λ group.
    all_named (joints_inside element) >>= λ _.
    new_state names group name >>= λ _.
    values_after [] (joints_inside element) >>= λ values.
    Ok (record { name = name; group = group; place = element.tag.place; values = values })

-- the group and the name of a state that is read
abbrev pub name_of_read : Result GroupState SrdfFaultKind → Result StateName SrdfFaultKind
name_of_read state = state >>= λ state. Ok (name_of_state state)

-- what contracts see of a borrowed name
abbrev pub as_name : NameRef → StateName
as_name name = record { group = name.group.now; name = name.name.now }
