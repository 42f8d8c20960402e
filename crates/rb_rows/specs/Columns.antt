-- The columns of a state: their names, and the numbers that they stand for.
use Rattle.std.specs.Prelude.{ℕ, ◌+◌, List, [], ◌∷◌, ◌++◌, map, flat_map, codes}
use Rattle.rb_body.specs.Raw.{kind_of}
use Rattle.rb_tree.specs.declared.robot.Body.{Body}
use Rattle.rb_tree.specs.declared.robot.Mimic.{Mimic}
use Rattle.std.specs.Prelude.{Option, None, Some}
use Rattle.rb_tree.specs.Names.{entry_names, column_names}
use Rattle.rb_tree.specs.Robot.{Tree}
use Rattle.rb_rows.specs.declared.header.Target.{Target}
use Rattle.rb_rows.specs.declared.header.Target.TheVariants as To

-- ---- names
-- a joint that follows another has no columns of its own
abbrev pub unless_mimic : Option Mimic → List (List ℕ) → List (List ℕ)
unless_mimic None names = names
unless_mimic (Some mimic) names = []

abbrev pub entries_of : Body → List (List ℕ)
entries_of body = unless_mimic body.mimic (entry_names (kind_of body.joint_raw.kind) body.joint_name)

abbrev pub columns_of : Body → List (List ℕ)
columns_of body = unless_mimic body.mimic (column_names (kind_of body.joint_raw.kind) body.joint_name)

-- the names, each behind a prefix
abbrev pub behind : List ℕ → List (List ℕ) → List (List ℕ)
behind prefix names = map (λ name. prefix ++ name) names

-- the columns of the position; of speeds, accelerations or torques; in the order of the bodies
abbrev pub entry_columns : Tree → List (List ℕ)
entry_columns tree = behind (codes "q.") (flat_map entries_of tree.bodies)

abbrev pub columns_behind : List ℕ → Tree → List (List ℕ)
columns_behind prefix tree = behind prefix (flat_map columns_of tree.bodies)

-- of a state: the position, the speeds, the accelerations, the torques
unfoldable pub state_columns : Tree → List (List ℕ)
state_columns tree = entry_columns tree ++ columns_behind (codes "v.") tree ++ columns_behind (codes "a.") tree ++ columns_behind (codes "tau.") tree

-- ---- the numbers that they stand for
-- so many, by place from this on
abbrev pub numbered : {A : Type 0} → (ℕ → Target) → ℕ → List A → List Target
numbered to place [] = []
numbered to place (x ∷ rest) = to place ∷ numbered to (place + 1) rest

unfoldable pub state_targets : Tree → List Target
state_targets tree =
    numbered To.Entry 0 (flat_map entries_of tree.bodies)
    ++ numbered To.Speed 0 (flat_map columns_of tree.bodies)
    ++ numbered To.Acceleration 0 (flat_map columns_of tree.bodies)
    ++ numbered To.Torque 0 (flat_map columns_of tree.bodies)
