-- The names of states and of their groups.
use Rattle.std.specs.Prelude.{ℕ, Bool, ◌&&◌, List, map, bytes_eq}
use denote.Ref.{Bor}
use Rattle.rb_srdf.specs.declared.srdf.GroupState.{GroupState}

-- the group and the name of a state
pub record StateName : Type 0 where
  pub group : List ℕ
  pub name : List ℕ

-- of this group and this name
abbrev pub is_state : List ℕ → List ℕ → StateName → Bool
is_state group name state = bytes_eq group state.group && bytes_eq name state.name

abbrev pub name_of_state : GroupState → StateName
name_of_state state = record { group = state.group; name = state.name }

abbrev pub names_of_states : List GroupState → List StateName
names_of_states states = map name_of_state states

-- what contracts see of borrowed names
abbrev pub as_names : List (Bor (List ℕ) × Bor (List ℕ)) → List StateName
as_names keys = map (λ key. record { group = key.0.now; name = key.1.now }) keys
