-- What orders, robots and faults are to each other, for each robot file that keeps what such files keep; and what each robot is.
use Rattle.std.specs.Prelude.{◌≡◌, ℕ, ◌<◌, ◌≤◌, List, take, sum_by, Option, None, Some, Ok}
use Rattle.rb_tags.specs.declared.root.RootKind.{RootKind}
use Rattle.rb_tags.specs.declared.root.RootKind.TheVariants as Root
use Rattle.rb_num.specs.Interval.{Interval, zero_interval}
use Rattle.rb_frac.specs.Spatial.{Frame}
use Rattle.rb_frac.specs.Tables.{identity, nothing}
use Rattle.rb_num.specs.Arith.{intervals, signs_of}
use Rattle.rb_flat.specs.Shape.{ParentsComeFirst, ColumnsFit, MimicsFit}
use Rattle.rb_flat.specs.Choice.{Choice, IsChoice}
use Rattle.rb_joint.specs.declared.any.AnyJoint.{AnyJoint}
use Rattle.rb_joint.specs.declared.any.AnyJoint.TheVariants as Variant
use Rattle.rb_urdf.specs.Numbers.{zeros}
use Rattle.rb_urdf.specs.Robot.{Robot, IsRobot}
use Rattle.rb_tree.specs.declared.faults.TreeFault.{TreeFault}
use Rattle.rb_tree.specs.declared.order.Stem.{Stem}
use Rattle.rb_tree.specs.declared.robot.Body.{Body}
use Rattle.rb_tree.specs.Order.{IsOrder}
use Rattle.rb_tree.specs.Columns.{own_columns, parent_at, columns_at, nearest_column}
use Rattle.rb_tree.specs.Robot.{Tree, AreBodies}
use Rattle.rb_tree.specs.Parts.{root_kind, root_joint, joint_made}
use Rattle.rb_tree.specs.Build.{Source, IsBuilt}
use Rattle.rb_tree.specs.Refusals.{HasFault}
use Rattle.rb_tree.specs.Shape.{shape_of, brackets_of}
use Rattle.rb_tree.specs.State.{Row, IsRow, state_brackets}

-- ---- orders
-- a robot has at most one order
abbrev pub HasOneOrder : Type 0
HasOneOrder = (robot : Robot) (a b : List Stem) → IsRobot robot.links robot.joints → IsOrder robot a → IsOrder robot b → a ≡ b

-- ---- robots
-- a source gives at most one robot
abbrev pub IsBuiltOnce : Type 0
IsBuiltOnce = (source : Source) (a b : Tree) → IsRobot source.urdf.links source.urdf.joints → IsBuilt source a → IsBuilt source b → a ≡ b

-- the order of the refusals and their places leave at most one fault
abbrev pub HasOneFault : Type 0
HasOneFault = (source : Source) (a b : TreeFault) → IsRobot source.urdf.links source.urdf.joints → HasFault source a → HasFault source b → a ≡ b

-- a source with a fault gives no robot
abbrev pub FaultExcludesRobot : Type 0
FaultExcludesRobot =
    (source : Source) (fault : TreeFault) (tree : Tree) → IsRobot source.urdf.links source.urdf.joints → HasFault source fault → IsBuilt source tree → ⊥

-- the frame of the world
abbrev pub still : Frame Interval
still = let signs = signs_of intervals in record { rot = identity signs; at = nothing signs }

-- in the frame that is the identity, the model of a root's joint
abbrev pub root_model : Option RootKind → AnyJoint
root_model None = Variant.Fixed (record { frame = still })
root_model (Some Root.Fixed) = Variant.Fixed (record { frame = still })
root_model (Some Root.Planar) = Variant.Planar (record { frame = still })
root_model (Some Root.Floating) = Variant.Free (record { frame = still })

-- the root's joint is of the kind that is asked for, else fixed, and its frame is the identity
abbrev pub RootStandsAtOrigin : Type 0
RootStandsAtOrigin =
    (root : Option RootKind) (name : List ℕ) (at : ℕ) → joint_made (root_joint (root_kind root) name at)
    ≡ Ok (root_model root, record { kind = root_kind root; xyz = zeros; rpy = zeros; axis = zeros; factor = zero_interval })

-- ---- the shape of a robot
-- the parents of its bodies come first
abbrev pub ParentsFitShape : Type 0
ParentsFitShape = (tree : Tree) → AreBodies tree.bodies → ParentsComeFirst (shape_of tree)

-- its columns are those of its bodies' joints, and each belongs to one body alone
abbrev pub ColumnsFitShape : Type 0
ColumnsFitShape = (tree : Tree) → AreBodies tree.bodies → ColumnsFit (shape_of tree)

-- joints that follow others may
abbrev pub MimicsFitShape : Type 0
MimicsFitShape = (tree : Tree) → AreBodies tree.bodies → MimicsFit (shape_of tree)

-- each robot has a choice in each state
abbrev pub HasChoiceInState : Type 0
HasChoiceInState = (tree : Tree) (row : Row) → AreBodies tree.bodies → IsRow row.q row.v row.a row.tau row.gravity →
    (c : Choice) × IsChoice (brackets_of tree) (state_brackets row) c

-- ---- the nearest column upward of a body, by its own column, its parent and the world alone
-- parents have smaller numbers
abbrev pub HasParentsBelow : List Body → Type 0
HasParentsBelow bodies = (i : ℕ) → 1 ≤ i → parent_at bodies i < i

-- the world has none
abbrev pub WorldHasNoColumn : Type 0
WorldHasNoColumn = (bodies : List Body) → nearest_column bodies 0 ≡ 0

-- a body with columns has its last one: so many have the bodies up to it
abbrev pub BodyHasItsLast : Type 0
BodyHasItsLast = (bodies : List Body) → HasParentsBelow bodies → (i : ℕ) → 0 < columns_at bodies i → nearest_column bodies i ≡ sum_by own_columns (take i bodies)

-- a body without columns has that of its parent
abbrev pub BodyHasItsParents : Type 0
BodyHasItsParents =
    (bodies : List Body) → HasParentsBelow bodies → (i : ℕ) → columns_at bodies i ≡ 0 → nearest_column bodies i ≡ nearest_column bodies (parent_at bodies i)
