-- The groups, states and virtual joints of a file, in the order in which its elements stand.
use Rattle.std.specs.Prelude.{ℕ, Bool, true, false, if◌then◌else◌, List, [], ◌∷◌, ◌++◌, codes, bytes_eq, Option, Some, None, Result, Ok, Err}
use Rattle.std.specs.List.{list_all}
use Rattle.rb_srdf.specs.declared.faults.SrdfFault.{SrdfFault}
use Rattle.rb_srdf.specs.declared.faults.SrdfFaultKind.{SrdfFaultKind}
use Rattle.rb_srdf.specs.declared.faults.SrdfFaultKind.TheVariants.{UnknownName}
use Rattle.rb_srdf.specs.declared.parts.Parts.{Parts}
use Rattle.rb_tags.specs.Elements.{Element, elements, attribute}
use Rattle.rb_result.specs.Steps.{◌>>=◌, placed}
use Rattle.rb_srdf.specs.Faults.{fault_at}
use Rattle.rb_srdf.specs.Names.{has_name}
use Rattle.rb_srdf.specs.StateNames.{names_of_states}
use Rattle.rb_srdf.specs.Srdf.{names_of_groups, names_of_virtuals}
use Rattle.rb_srdf.specs.ReadGroups.{group_of}
use Rattle.rb_srdf.specs.ReadStates.{state_of}
use Rattle.rb_srdf.specs.ReadVirtuals.{virtual_of}

abbrev pub no_parts : Parts
no_parts = record { groups = []; states = []; virtuals = [] }

abbrev pub with_group : Parts → Element → Result Parts SrdfFaultKind
with_group parts element =
    group_of (names_of_groups parts.groups) element >>= λ group. Ok (record parts { groups = parts.groups ++ group ∷ [] })

abbrev pub with_state : Parts → Element → Result Parts SrdfFaultKind
with_state parts element =
    state_of (names_of_states parts.states) element >>= λ state. Ok (record parts { states = parts.states ++ state ∷ [] })

abbrev pub with_virtual : Parts → Element → Result Parts SrdfFaultKind
with_virtual parts element =
    virtual_of (names_of_virtuals parts.virtuals) element >>= λ virtual. Ok (record parts { virtuals = parts.virtuals ++ virtual ∷ [] })

-- these parts and that of an element behind them, if it is one that counts
unfoldable pub parts_with : Parts → Element → Result Parts SrdfFaultKind
parts_with parts element =
    if bytes_eq element.tag.name (codes "group") then with_group parts element else
    if bytes_eq element.tag.name (codes "group_state") then with_state parts element else
    if bytes_eq element.tag.name (codes "virtual_joint") then with_virtual parts element else
    Ok parts

-- these parts and those of the elements behind them
unfoldable pub parts_after : Parts → List Element → Result Parts SrdfFault
parts_after parts [] = Ok parts
parts_after parts (element ∷ elements) =
    placed fault_at element.tag.place (parts_with parts element) >>= λ more. parts_after more elements

abbrev pub is_known : List (List ℕ) → Option (List ℕ) → Bool
is_known groups None = false
is_known groups (Some name) = has_name groups name

-- an attribute of an element names one of these groups
abbrev pub names_known : List (List ℕ) → List ℕ → Element → Bool
names_known groups key element = is_known groups (attribute key element)

-- the elements that name groups in a group
abbrev pub groups_inside : Element → List Element
groups_inside element = elements (codes "group") element.tag.depth element.inside

-- each group that an element names is one of these
unfoldable pub is_settled : List (List ℕ) → Element → Bool
is_settled groups element =
    if bytes_eq element.tag.name (codes "group") then list_all (names_known groups (codes "name")) (groups_inside element) else
    if bytes_eq element.tag.name (codes "group_state") then names_known groups (codes "group") element else true

-- the groups that the elements name are among these
unfoldable pub all_settled : List (List ℕ) → List Element → Result (Unit {0}) SrdfFault
all_settled groups [] = Ok tt
all_settled groups (element ∷ elements) =
    if is_settled groups element then all_settled groups elements else Err (fault_at UnknownName element.tag.place)
