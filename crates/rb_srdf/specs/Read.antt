-- The semantics that the tags of a file describe.
use Rattle.std.specs.Prelude.{◌≡◌, ◌⊎◌, ℕ, if◌then◌else◌, List, [], ◌∷◌, codes, bytes_eq, slice_get, Some, Result, Ok, Err}
use Rattle.rb_tags.specs.declared.tag.Tag.{Tag}
use Rattle.rb_tags.specs.Elements.{element_of, elements_inside}
use Rattle.rb_result.specs.Steps.{◌>>=◌, placed}
use Rattle.rb_srdf.specs.declared.faults.SrdfFault.{SrdfFault}
use Rattle.rb_srdf.specs.declared.faults.SrdfFaultKind.TheVariants.{NoRobot, GroupLoop}
use Rattle.rb_srdf.specs.declared.srdf.Group.{Group}
use Rattle.rb_srdf.specs.declared.parts.Parts.{Parts}
use Rattle.rb_srdf.specs.Faults.{no_memory, fault_at}
use Rattle.rb_srdf.specs.Groups.{HoldsItself, IsFirstLoop}
use Rattle.rb_srdf.specs.Names.{name_in}
use Rattle.rb_srdf.specs.Parts.{no_parts, parts_after, all_settled}
use Rattle.rb_srdf.specs.Srdf.{Semantics, names_of_groups}

abbrev pub semantics_from : List ℕ → ℕ → Parts → Semantics
semantics_from name place parts = record { name = name; place = place; groups = parts.groups; states = parts.states; virtuals = parts.virtuals }

-- the semantics of the tags behind the outermost one, for a robot of this name
unfoldable pub semantics_with : List ℕ → ℕ → List Tag → Result Semantics SrdfFault
semantics_with name place tags =
    parts_after no_parts (elements_inside 1 tags) >>= λ parts.
    all_settled (names_of_groups parts.groups) (elements_inside 1 tags) >>= λ _.
    Ok (semantics_from name place parts)

-- the semantics of the outermost element, whose tag is before these
unfoldable pub semantics_in : Tag → List Tag → Result Semantics SrdfFault
semantics_in root tags =
    placed fault_at root.place (name_in (codes "name") (element_of root tags)) >>= λ name.
    semantics_with name root.place tags

-- the outermost element is the first, and its name is robot. Groups may hold themselves
unfoldable pub semantics_of : List Tag → Result Semantics SrdfFault
semantics_of [] = Err (fault_at NoRobot 0)
semantics_of (root ∷ tags) = if bytes_eq root.name (codes "robot") then semantics_in root tags else Err (fault_at NoRobot root.place)

-- at the first group that holds itself
pub record HasGroupLoop (groups : List Group) (fault : SrdfFault) : Type 0 where
  pub number : ℕ
  pub group : Group
  pub there : slice_get groups number ≡ Some group
  pub first : IsFirstLoop groups number
  pub told : fault ≡ fault_at GroupLoop group.place

-- semantics are described, of which a group holds itself
pub record IsLooped (read : Result Semantics SrdfFault) (fault : SrdfFault) : Type 0 where
  pub semantics : Semantics
  pub described : read ≡ Ok semantics
  pub loops : HasGroupLoop semantics.groups fault

-- what reading refuses, and what is described but for a group that holds itself
abbrev pub IsFaulted : Result Semantics SrdfFault → SrdfFault → Type 0
IsFaulted read fault = (read ≡ Err fault) ⊎ IsLooped read fault

abbrev pub IsRefused : List Tag → SrdfFault → Type 0
IsRefused tags fault = IsFaulted (semantics_of tags) fault

-- what a reader answers, unless memory ran out: semantics in which no group holds itself, or the fault
abbrev pub Answers : Result Semantics SrdfFault → Result Semantics SrdfFault → Type 0
Answers (Ok semantics) read = (read ≡ Ok semantics) × ((k : ℕ) → ¬ HoldsItself semantics.groups k)
Answers (Err fault) read = (fault ≡ no_memory) ⊎ IsFaulted read fault

-- the name of the robot, which is the outermost element
unfoldable pub robot_of : List Tag → Result (List ℕ) SrdfFault
robot_of [] = Err (fault_at NoRobot 0)
robot_of (root ∷ tags) =
    if bytes_eq root.name (codes "robot")
    then placed fault_at root.place (name_in (codes "name") (element_of root tags))
    else Err (fault_at NoRobot root.place)
