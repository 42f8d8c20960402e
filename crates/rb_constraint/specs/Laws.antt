-- What files and constraints are to each other, for each robot.
use Rattle.std.specs.Prelude.{◌≡◌, ℕ, List, Result, Ok, Err}
use Rattle.rb_frac.specs.Frac.{Frac}
use Rattle.rb_flat.specs.Contact as Flat
use Rattle.rb_flat.specs.Contact.{RowsFit}
use Rattle.rb_tree.specs.Robot.{Tree}
use Rattle.rb_tree.specs.Shape.{shape_of}
use Rattle.rb_constraint.specs.declared.faults.ConFault.{ConFault}
use Rattle.rb_constraint.specs.declared.constraints.Constraint.{Constraint}
use Rattle.rb_constraint.specs.Constraints.{AreConstraints, constraints_of, IsConstraintChoice}
use Rattle.rb_constraint.specs.File.{IsFile}
use Rattle.rb_constraint.specs.Refusals.{HasFault}

-- a file says constraints, or has a fault
abbrev pub Answers : Tree → List ℕ → Result (List Constraint) ConFault → Type 0
Answers tree text (Ok list) = IsFile tree text list
Answers tree text (Err fault) = HasFault tree text fault

-- each file has an answer for each robot
abbrev pub HasAnswer : Type 0
HasAnswer = (tree : Tree) (text : List ℕ) → (answer : Result (List Constraint) ConFault) × Answers tree text answer

-- and no other
abbrev pub HasOneAnswer : Type 0
HasOneAnswer = (tree : Tree) (text : List ℕ) (a b : Result (List Constraint) ConFault) → Answers tree text a → Answers tree text b → a ≡ b

-- the rows of a file's constraints are between bodies of the robot
abbrev pub RowsFitRobot : Type 0
RowsFitRobot = (tree : Tree) (text : List ℕ) (list : List Constraint) → IsFile tree text list → RowsFit (shape_of tree) (constraints_of list)

-- constraints have a choice
abbrev pub HasChoice : Type 0
HasChoice = (list : List Constraint) → AreConstraints list → (c : Flat.Constraints Frac) × IsConstraintChoice (constraints_of list) c
