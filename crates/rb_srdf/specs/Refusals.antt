-- What may be wrong with tags, in the words of the format, and in which order it is told.
use Rattle.std.specs.Prelude.{◌≡◌, ◌≢◌, ◌⊎◌, ℕ, List, [], ◌∷◌, ◌++◌, length, codes, bytes_eq, Any, MatchBool, Some}
use Rattle.std.specs.List.{AllByRecursion, AllZip}
use Rattle.rb_tags.specs.declared.tag.Tag.{Tag}
use Rattle.rb_tags.specs.Elements.{Element, element_of, elements, elements_inside, attribute}
use Rattle.rb_tags.specs.Words.{words}
use Rattle.rb_tags.specs.InOrder.{SaysNone, Refusal, ◌when◌, IsFirst, either, at_place, in_turn}
use Rattle.rb_srdf.specs.declared.faults.SrdfFault.{SrdfFault}
use Rattle.rb_srdf.specs.declared.faults.SrdfFaultKind.{SrdfFaultKind}
use Rattle.rb_srdf.specs.declared.faults.SrdfFaultKind.TheVariants as kind
use Rattle.rb_srdf.specs.declared.srdf.Group.{Group}
use Rattle.rb_srdf.specs.Faults.{fault_at}
use Rattle.rb_srdf.specs.Groups.{HoldsItself}
use Rattle.rb_srdf.specs.Profile.{Gives, HasName, children, items_inside, IsGroup, IsNumber, HasType}

-- ---- what may be wrong

-- an attribute of an element is missing or empty
abbrev pub Lacks : List ℕ → Element → Type 0
Lacks key element = SaysNone (Gives key element)

-- an element inside a group does not name what it has to: both ends of a chain, and else a name
abbrev pub ItemLacksName : Element → Type 0
ItemLacksName item =
    MatchBool (bytes_eq item.tag.name (codes "chain")) (Lacks (codes "base_link") item ⊎ Lacks (codes "tip_link") item) (Lacks (codes "name") item)

-- an attribute of two elements gives the same text
pub record GiveSame (key : List ℕ) (a b : Element) : Type 0 where
  pub text : List ℕ
  pub first : Gives key a text
  pub second : Gives key b text

-- an earlier element of the same kind has the name of this one
abbrev pub HasNameAgain : List Element → Element → Type 0
HasNameAgain before element = Any (λ earlier. (earlier.tag.name ≡ element.tag.name) × GiveSame (codes "name") earlier element) before

-- an earlier state has the name and the group of this one
abbrev pub IsStateAgain : List Element → Element → Type 0
IsStateAgain before state =
    Any (λ earlier. (earlier.tag.name ≡ state.tag.name) × GiveSame (codes "name") earlier state × GiveSame (codes "group") earlier state) before

-- the `value` of a joint is missing, has no word, or a word of it is no number
abbrev pub LacksNumbers : Element → Type 0
LacksNumbers joint =
    (text : List ℕ) → attribute (codes "value") joint ≡ Some text → (words text ≡ []) ⊎ Any (λ word. SaysNone (IsNumber word)) (words text)

-- an attribute of an element gives a name that none of these groups has
pub record NamesUnknown (groups : List Element) (key : List ℕ) (element : Element) : Type 0 where
  pub name : List ℕ
  pub gives : Gives key element name
  pub unknown : AllByRecursion (λ group. ¬ HasName group name) groups

-- the one of these groups that stands behind so many holds itself
pub record IsInLoop (groups : List Element) (count : ℕ) : Type 0 where
  pub read : List Group
  pub are : AllZip IsGroup groups read
  pub loop : HoldsItself read count

-- ---- the order in which it is told

-- the refusals of a group behind these elements
abbrev pub group_refusals : List Element → Element → List (Refusal SrdfFaultKind)
group_refusals before group =
    kind.NoName when (Lacks (codes "name") group ⊎ Any ItemLacksName (items_inside group))
    ∷ kind.NameTwice when HasNameAgain before group
    ∷ []

-- the refusals of a state behind these
abbrev pub state_refusals : List Element → Element → List (Refusal SrdfFaultKind)
state_refusals before state =
    kind.NoName when (Lacks (codes "name") state ⊎ (Lacks (codes "group") state ⊎ Any (Lacks (codes "name")) (children (codes "joint") state)))
    ∷ kind.NameTwice when IsStateAgain before state
    ∷ kind.BadNumber when Any LacksNumbers (children (codes "joint") state)
    ∷ []

-- the refusals of a virtual joint behind these
abbrev pub virtual_refusals : List Element → Element → List (Refusal SrdfFaultKind)
virtual_refusals before virtual =
    kind.NoName when (Lacks (codes "name") virtual ⊎ Lacks (codes "child_link") virtual)
    ∷ kind.NameTwice when HasNameAgain before virtual
    ∷ kind.BadType when SaysNone (HasType virtual)
    ∷ []

-- the refusals of an element directly inside the robot, behind these
abbrev pub element_refusals : List Element → Element → List (Refusal SrdfFaultKind)
element_refusals before element =
    either (bytes_eq element.tag.name (codes "group")) (group_refusals before element)
    (either (bytes_eq element.tag.name (codes "group_state")) (state_refusals before element)
    (either (bytes_eq element.tag.name (codes "virtual_joint")) (virtual_refusals before element) []))

-- the refusals of the groups that such an element names, in a file with these groups
abbrev pub name_refusals : List Element → Element → List (Refusal SrdfFaultKind)
name_refusals groups element =
    either (bytes_eq element.tag.name (codes "group")) (kind.UnknownName when Any (NamesUnknown groups (codes "name")) (children (codes "group") element) ∷ [])
    (either (bytes_eq element.tag.name (codes "group_state")) (kind.UnknownName when NamesUnknown groups (codes "group") element ∷ []) [])

-- the refusals of one of these groups, which stands behind those before it, as one that holds itself
abbrev pub loop_refusals : List Element → List Element → Element → List (Refusal SrdfFaultKind)
loop_refusals groups before group = kind.GroupLoop when IsInLoop groups (length before) ∷ []

-- the refusals of these elements in file order, behind those before
abbrev pub in_order : (List Element → Element → List (Refusal SrdfFaultKind)) → List Element → List Element → List (Refusal SrdfFault)
in_order refusals before elements = in_turn (λ before element. at_place fault_at element.tag.place (refusals before element)) before elements

-- of all elements, then of all groups that they name, then of all groups as those that hold themselves
abbrev pub part_refusals : List Element → List Element → List (Refusal SrdfFault)
part_refusals elements groups =
    in_order element_refusals [] elements
    ++ (in_order (λ before element. name_refusals groups element) [] elements
    ++ in_order (loop_refusals groups) [] groups)

-- all refusals of tags in their order
abbrev pub refusals : List Tag → List (Refusal SrdfFault)
refusals [] = fault_at kind.NoRobot 0 when Unit {0} ∷ []
refusals (root ∷ behind) =
    fault_at kind.NoRobot root.place when (root.name ≢ codes "robot")
    ∷ fault_at kind.NoName root.place when Lacks (codes "name") (element_of root behind)
    ∷ part_refusals (elements_inside 1 behind) (elements (codes "group") 1 behind)

-- the fault of the first of all refusals whose condition holds
abbrev pub HasFault : List Tag → SrdfFault → Type 0
HasFault tags fault = IsFirst (refusals tags) fault
