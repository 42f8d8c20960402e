-- The lines of names: the columns of a state, and the first line of the output.
use Rattle.std.specs.Prelude.{ℕ, ◌+◌, ◌-◌, List, [], ◌∷◌, ◌++◌, map, flat_map, codes, decimal, Bool, if◌then◌else◌}
use Rattle.std.specs.List.{range_with_len}
use Rattle.csv.specs.Writing.{default_writer, row_text}
use Rattle.rb_tree.specs.Columns.{column_count}
use Rattle.rb_tree.specs.Robot.{Tree}
use Rattle.rb_constraint.specs.declared.axes.Direction.{Direction}
use Rattle.rb_constraint.specs.declared.constraints.Constraint.{Constraint}
use Rattle.rb_constraint.specs.Axes.{letter_of, directions}
use Rattle.rb_rows.specs.declared.task.Task.{Task}
use Rattle.rb_rows.specs.declared.task.Task.TheVariants as For
use Rattle.rb_rows.specs.Columns.{behind, columns_behind, state_columns}

abbrev pub task_word : Task → List ℕ
task_word For.Rnea = codes "rnea"
task_word For.Crba = codes "crba"
task_word For.Fd = codes "fd"
task_word For.Aba = codes "aba"
task_word For.Contact = codes "contact"
task_word For.Impulse = codes "impulse"

-- ---- lines
-- names as a record of comma-separated values, or nothing where there are none; ended by LF
abbrev pub line_of : List (List ℕ) → List ℕ
line_of [] = codes "\n"
line_of (name ∷ names) = row_text default_writer (name ∷ names)

-- ---- pairs of columns, which are numbered from 1
-- column c and each from it on, of so many columns
abbrev pub pairs_at : ℕ → ℕ → List (ℕ × ℕ)
pairs_at count c = map (λ d. (c, d)) (range_with_len c (count + 1 - c))

-- each two of so many columns, the lower one first
abbrev pub pairs_of : ℕ → List (ℕ × ℕ)
pairs_of count = flat_map (pairs_at count) (range_with_len 1 count)

-- ---- the names of values
-- the entry of the inertia matrix at two columns
abbrev pub mass_name : ℕ × ℕ → List ℕ
mass_name pair = codes "M." ++ decimal pair.0 ++ codes "." ++ decimal pair.1

abbrev pub mass_names : ℕ → List (List ℕ)
mass_names count = map mass_name (pairs_of count)

-- a row of a constraint: the name of the constraint and the letter of what the row holds
abbrev pub row_name : Constraint → Direction → List ℕ
row_name c direction = c.name ++ codes "." ++ letter_of direction ∷ []

abbrev pub own_names : Constraint → List (List ℕ)
own_names c = map (row_name c) (directions c.axes)

-- the rows of all constraints, in their order
abbrev pub row_names : List Constraint → List (List ℕ)
row_names cons = flat_map own_names cons

-- the values of a task, of which each but an entry of the inertia matrix is named as a column of speeds or as a row of constraints is, behind its prefix
abbrev pub value_names : Tree → List Constraint → Task → List (List ℕ)
value_names tree cons For.Rnea = columns_behind (codes "tau.") tree
value_names tree cons For.Crba = mass_names (column_count tree.bodies)
value_names tree cons For.Fd = columns_behind (codes "a.") tree
value_names tree cons For.Aba = columns_behind (codes "a.") tree
value_names tree cons For.Contact = columns_behind (codes "a.") tree ++ behind (codes "lam.") (row_names cons)
value_names tree cons For.Impulse = columns_behind (codes "v.") tree ++ behind (codes "imp.") (row_names cons)

-- the columns of the state, where they are given again
abbrev pub echoed_names : Tree → Bool → List (List ℕ)
echoed_names tree echo = if echo then behind (codes "in.") (state_columns tree) else []

-- of the output: the number of the row, its answer, the cause of a refusal, the state where it is given again, the values
unfoldable pub head_fields : Tree → List Constraint → Task → Bool → List (List ℕ)
head_fields tree cons task echo = codes "row" ∷ codes "answer" ∷ codes "cause" ∷ (echoed_names tree echo ++ value_names tree cons task)
