-- The entries that the states of a file set, and what is wrong with a state.
use Rattle.std.specs.Prelude.{◌≡◌, ◌<◌, ◌+◌, ◌==◌, ℕ, if◌then◌else◌, List, [], ◌∷◌, ◌++◌, length, reverse, filter, find, flat_map, bytes_eq, Option, None, Some, Result, Ok, Err}
use Rattle.std.specs.Option.{option_map_or}
use Rattle.std.specs.List.{Any}
use Rattle.rb_num.specs.Interval.{Interval}
use Rattle.rb_result.specs.Steps.{◌>>=◌, placed, told_as}
use Rattle.rb_trig.specs.declared.sine.AngleRange.{AngleRange as TooLarge}
use Rattle.rb_trig.specs.Sine.{sin_cos_of}
use Rattle.rb_flat.specs.Joint as Kinds
use Rattle.rb_flat.specs.Joint.{Kind}
use Rattle.rb_joint.specs.Any.{kind_of}
use Rattle.rb_srdf.specs.declared.srdf.JointNumbers.{JointNumbers}
use Rattle.rb_srdf.specs.declared.srdf.GroupState.{GroupState}
use Rattle.rb_srdf.specs.declared.srdf.Virtual.{Virtual}
use Rattle.rb_tree.specs.declared.faults.TreeFault.{TreeFault}
use Rattle.rb_tree.specs.declared.faults.TreeKind.{TreeKind}
use Rattle.rb_tree.specs.declared.faults.TreeKind.TheVariants.{UnknownName, StateValues, AngleRange}
use Rattle.rb_tree.specs.declared.faults.WhichFile.TheVariants.{Srdf}
use Rattle.rb_tree.specs.declared.robot.Body.{Body}
use Rattle.rb_tree.specs.declared.robot.Mimic.{Mimic}
use Rattle.rb_tree.specs.declared.states.Entry.{Entry}
use Rattle.rb_tree.specs.declared.states.NamedState.{NamedState}
use Rattle.rb_tree.specs.Columns.{first_entry, body_at}
use Rattle.rb_tree.specs.State.{at_place}
use Rattle.rb_tree.specs.Groups.{body_of_joint, is_virtual}

-- ---- the entries of a joint
-- the cosine and the sine of an angle
unfoldable pub turn_of : Interval → Result (List Interval) TreeKind
turn_of angle = told_as (λ (why : TooLarge). AngleRange) (sin_cos_of angle) >>= λ turn. Ok (turn.1 ∷ turn.0 ∷ [])

-- the entries that numbers give a joint of a kind: a continuous one takes an angle, or a cosine and a sine, and a planar one x, y and an angle
unfoldable pub entries_for : Kind → List Interval → Result (List Interval) TreeKind
entries_for Kinds.Revolute (angle ∷ []) = Ok (angle ∷ [])
entries_for Kinds.Prismatic (shift ∷ []) = Ok (shift ∷ [])
entries_for Kinds.Continuous (angle ∷ []) = turn_of angle
entries_for Kinds.Continuous (cosine ∷ sine ∷ []) = Ok (cosine ∷ sine ∷ [])
entries_for Kinds.Planar (x ∷ y ∷ angle ∷ []) = turn_of angle >>= λ turn. Ok (x ∷ y ∷ turn)
entries_for Kinds.Free (x ∷ y ∷ z ∷ qx ∷ qy ∷ qz ∷ qw ∷ []) = Ok (x ∷ y ∷ z ∷ qx ∷ qy ∷ qz ∷ qw ∷ [])
entries_for kind numbers = Err StateValues

-- the numbers of a fixed joint, and of one that follows another, are passed over
abbrev pub entries_unless : Kind → Option Mimic → List Interval → Result (List Interval) TreeKind
entries_unless Kinds.Fixed mimic numbers = Ok []
entries_unless kind (Some mimic) numbers = Ok []
entries_unless kind None numbers = entries_for kind numbers

-- values one behind the other, from a place on
abbrev pub entries_from : ℕ → List Interval → List Entry
entries_from place [] = []
entries_from place (value ∷ rest) = record { place = place; value = value } ∷ entries_from (place + 1) rest

-- ---- the entries of a state
abbrev pub body_entries : List Body → ℕ → List Interval → Option Body → Result (List Entry) TreeKind
body_entries bodies i numbers None = Ok []
body_entries bodies i numbers (Some body) = entries_unless (kind_of body.joint) body.mimic numbers >>= λ values. Ok (entries_from (first_entry bodies i) values)

-- the numbers of a virtual joint that bears no body are passed over
abbrev pub named_entries : List Body → List Virtual → JointNumbers → Option ℕ → Result (List Entry) TreeKind
named_entries bodies virtuals value (Some i) = body_entries bodies i value.numbers (body_at bodies i)
named_entries bodies virtuals value None = if is_virtual virtuals value.joint then Ok [] else Err UnknownName

unfoldable pub value_entries : List Body → List Virtual → JointNumbers → Result (List Entry) TreeKind
value_entries bodies virtuals value = named_entries bodies virtuals value (body_of_joint bodies value.joint)

-- those of all joints of a state, in file order
unfoldable pub state_entries : List Body → List Virtual → List JointNumbers → Result (List Entry) TreeKind
state_entries bodies virtuals [] = Ok []
state_entries bodies virtuals (value ∷ values) =
    value_entries bodies virtuals value >>= λ entries. state_entries bodies virtuals values >>= λ rest. Ok (entries ++ rest)

-- a fault of a state's file
abbrev pub state_fault : TreeKind → ℕ → TreeFault
state_fault kind at = record { kind = kind; file = Srdf; at = at }

-- the states of a file, in file order
unfoldable pub states_made : List Body → List Virtual → List GroupState → Result (List NamedState) TreeFault
states_made bodies virtuals [] = Ok []
states_made bodies virtuals (state ∷ states) =
    placed state_fault state.place (state_entries bodies virtuals state.values) >>= λ entries.
    states_made bodies virtuals states >>= λ rest. Ok (record { name = state.name; entries = entries } ∷ rest)

-- ---- positions by name
-- some state has the name
abbrev pub HasState : List NamedState → List ℕ → Type 0
HasState states name = Any (λ state. state.name ≡ name) states

-- what all states of a name set, in file order
unfoldable pub entries_named : List NamedState → List ℕ → List Entry
entries_named states name = flat_map (λ state. state.entries) (filter (λ state. bytes_eq state.name name) states)

-- the last entry of a place among these
abbrev pub last_at : ℕ → List Entry → Option Entry
last_at place entries = find (λ entry. entry.place == place) (reverse entries)

-- the position where entries are set: at each place the last entry of it, or what was there
pub record IsPositionWith (entries : List Entry) (before after : List Interval) : Type 0 where
  pub count : length after ≡ length before
  pub at : (place : ℕ) → place < length before → at_place after place ≡ option_map_or (λ entry. entry.value) (last_at place entries) (at_place before place)
