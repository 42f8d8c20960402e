-- The model of a robot as lines of comma-separated values.
use Rattle.std.specs.Prelude.{ℕ, List, [], ◌∷◌, ◌++◌, map, flat_map, replicate, codes, decimal, Option, None, Some}
use Rattle.std.specs.List.{enumerate_from, join_with_byte}
use Rattle.csv.specs.Writing.{default_writer, row_text}
use Rattle.rb_num.specs.Interval.{Interval}
use Rattle.rb_num.specs.Text.{iv_text}
use Rattle.rb_urdf.specs.declared.robot.UrdfKind.{UrdfKind}
use Rattle.rb_urdf.specs.declared.robot.UrdfKind.TheVariants.{Fixed, Revolute, Prismatic, Continuous, Planar, Floating}
use Rattle.rb_body.specs.declared.raw.JointRaw.{JointRaw}
use Rattle.rb_body.specs.declared.raw.LinkRaw.{LinkRaw}
use Rattle.rb_tree.specs.declared.robot.Body.{Body}
use Rattle.rb_tree.specs.declared.robot.Mimic.{Mimic}
use Rattle.rb_tree.specs.declared.groups.BodyGroup.{BodyGroup}
use Rattle.rb_tree.specs.Robot.{Tree}

-- ---- fields
abbrev pub kind_word : UrdfKind → List ℕ
kind_word Fixed = codes "fixed"
kind_word Revolute = codes "revolute"
kind_word Prismatic = codes "prismatic"
kind_word Continuous = codes "continuous"
kind_word Planar = codes "planar"
kind_word Floating = codes "floating"

-- so many empty fields
abbrev pub blanks : ℕ → List (List ℕ)
blanks count = replicate count []

-- each bracket with both its ends
abbrev pub bracket_fields : List Interval → List (List ℕ)
bracket_fields brackets = map iv_text brackets

-- the fields of an axis, where joints of the kind have one
abbrev pub axis_by : UrdfKind → List (List ℕ) → List (List ℕ)
axis_by Revolute fields = fields
axis_by Prismatic fields = fields
axis_by Continuous fields = fields
axis_by Fixed fields = blanks 4
axis_by Planar fields = blanks 4
axis_by Floating fields = blanks 4

-- the axis and its factor
abbrev pub axis_fields : JointRaw → List (List ℕ)
axis_fields raw = axis_by raw.kind (bracket_fields raw.axis ++ iv_text raw.factor ∷ [])

-- the body whose joint is followed, the multiplier, the offset
abbrev pub mimic_fields : Option Mimic → List (List ℕ)
mimic_fields None = blanks 3
mimic_fields (Some mimic) = decimal mimic.master ∷ iv_text mimic.multiplier ∷ iv_text mimic.offset ∷ []

-- the kind of a joint, its origin, its roll, pitch and yaw, its axis
abbrev pub joint_raw_fields : JointRaw → List (List ℕ)
joint_raw_fields raw = kind_word raw.kind ∷ (bracket_fields raw.xyz ++ bracket_fields raw.rpy ++ axis_fields raw)

-- the mass of a link, its centre of mass, its roll, pitch and yaw, and ixx, ixy, ixz, iyy, iyz, izz
abbrev pub link_raw_fields : LinkRaw → List (List ℕ)
link_raw_fields raw = iv_text raw.mass ∷ (bracket_fields raw.com ++ bracket_fields raw.rpy ++ bracket_fields raw.six)

-- ---- lines
-- of the joint of a body: its number, that of its parent, the joint's name, the joint, and what it follows
unfoldable pub joint_fields : ℕ → Body → List (List ℕ)
joint_fields i body = codes "joint" ∷ decimal i ∷ decimal body.parent ∷ body.joint_name ∷ (joint_raw_fields body.joint_raw ++ mimic_fields body.mimic)

-- of the link of a body: its number, the link's name, the link
unfoldable pub link_fields : ℕ → Body → List (List ℕ)
link_fields i body = codes "link" ∷ decimal i ∷ body.link_name ∷ link_raw_fields body.link_raw

-- of a body with its number
abbrev pub body_lines : ℕ × Body → List (List (List ℕ))
body_lines (i, body) = joint_fields i body ∷ link_fields i body ∷ []

-- of a group: its name, and the numbers of its bodies with a space between each two
unfoldable pub group_fields : BodyGroup → List (List ℕ)
group_fields group = codes "group" ∷ group.name ∷ join_with_byte 32 (map decimal group.bodies) ∷ []

-- of a position: its entries, or one empty field where there are none
abbrev pub entry_fields : List Interval → List (List ℕ)
entry_fields [] = blanks 1
entry_fields (entry ∷ entries) = bracket_fields (entry ∷ entries)

unfoldable pub position_fields : List Interval → List (List ℕ)
position_fields q = codes "state" ∷ entry_fields q

-- ---- the model
-- the name of the robot, its bodies from body 1 on, its groups, a position
unfoldable pub model_fields : Tree → List Interval → List (List (List ℕ))
model_fields tree q =
    (codes "robot" ∷ tree.name ∷ []) ∷ (flat_map body_lines (enumerate_from 1 tree.bodies) ++ map group_fields tree.groups ++ position_fields q ∷ [])

-- each line as a record of comma-separated values, ended by LF
abbrev pub lines_text : List (List (List ℕ)) → List ℕ
lines_text lines = flat_map (row_text default_writer) lines

unfoldable pub model_text : Tree → List Interval → List ℕ
model_text tree q = lines_text (model_fields tree q)
