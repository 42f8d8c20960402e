-- The shape of a robot, and its brackets by body, from which choices are taken.
use Rattle.std.specs.Prelude.{ℕ, List, length, Option, None, Some}
use Rattle.std.specs.Option.{option_map_or}
use Rattle.rb_num.specs.Interval.{zero_interval}
use Rattle.rb_frac.specs.Tables.{nothing}
use Rattle.rb_num.specs.Arith.{intervals, signs_of}
use Rattle.rb_flat.specs.Joint as Kinds
use Rattle.rb_flat.specs.Joint.{Kind}
use Rattle.rb_flat.specs.Shape.{Shape}
use Rattle.rb_flat.specs.Choice.{LinkBrackets, JointBrackets, MimicBrackets, RobotBrackets}
use Rattle.rb_joint.specs.Any.{kind_of}
use Rattle.rb_body.specs.Raw.{link_brackets, joint_brackets}
use Rattle.rb_tree.specs.declared.robot.Body.{Body}
use Rattle.rb_tree.specs.declared.robot.Mimic.{Mimic}
use Rattle.rb_tree.specs.Columns.{body_at, parent_at, column_count, first_column, first_entry, body_of_column}
use Rattle.rb_tree.specs.Numbers.{mimic_at}
use Rattle.rb_tree.specs.Robot.{Tree, mimic_brackets}

-- ---- of a body by its number
abbrev pub kind_at : List Body → ℕ → Kind
kind_at bodies i = option_map_or (λ body. kind_of body.joint) (body_at bodies i) Kinds.Fixed

abbrev pub master_of : Option Mimic → Option ℕ
master_of None = None
master_of (Some mimic) = Some mimic.master

abbrev pub master_at : List Body → ℕ → Option ℕ
master_at bodies i = option_map_or (λ body. master_of body.mimic) (body_at bodies i) None

-- ---- of a robot
abbrev pub shape_of : Tree → Shape
shape_of tree = record {
  bodies = length tree.bodies;
  columns = column_count tree.bodies;
  parent = parent_at tree.bodies;
  kind = kind_at tree.bodies;
  first_column = first_column tree.bodies;
  first_entry = first_entry tree.bodies;
  mimic = master_at tree.bodies;
  owner = body_of_column tree.bodies;
}

-- what stands where there is no body, or no joint that it follows
abbrev pub no_link : LinkBrackets
no_link =
    let o = nothing (signs_of intervals) in
    record { mass = zero_interval; centre = o; rpy = o; six = record { xx = zero_interval; xy = zero_interval; xz = zero_interval; yy = zero_interval; yz = zero_interval; zz = zero_interval } }

abbrev pub no_joint : JointBrackets
no_joint =
    let o = nothing (signs_of intervals) in
    record { origin = o; rpy = o; axis = o; factor = zero_interval }

abbrev pub no_mimic : MimicBrackets
no_mimic = record { multiplier = zero_interval; offset = zero_interval }

-- by how much the joint of body i follows another
abbrev pub following_at : List Body → ℕ → MimicBrackets
following_at bodies i = option_map_or mimic_brackets (mimic_at bodies i) no_mimic

abbrev pub brackets_of : Tree → RobotBrackets
brackets_of tree = record {
  shape = shape_of tree;
  link = λ i. option_map_or (λ body. link_brackets body.link_raw) (body_at tree.bodies i) no_link;
  joint = λ i. option_map_or (λ body. joint_brackets body.joint_raw) (body_at tree.bodies i) no_joint;
  mimic = λ i. option_map_or (λ body. option_map_or mimic_brackets body.mimic no_mimic) (body_at tree.bodies i) no_mimic;
}
