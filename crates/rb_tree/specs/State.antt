-- The numbers of a state: what contracts see of it, the neutral state of a robot, and the brackets that choices take.
use Rattle.std.specs.Prelude.{◌≡◌, ℕ, ◌-◌, pos, neg_ℤ, List, [], ◌∷◌, length, replicate, slice_index_or, flat_map, Option, None, Some}
use Rattle.std.specs.List.{All}
use Rattle.rb_frac.specs.Ops.{V3}
use Rattle.rb_num.specs.Interval.{Interval, interval, zero_interval, one_interval}
use Rattle.rb_flat.specs.Joint as Kinds
use Rattle.rb_flat.specs.Joint.{Kind}
use Rattle.rb_flat.specs.Choice.{StateBrackets, IsOrdered, AreOrdered}
use Rattle.rb_joint.specs.Any.{kind_of}
use Rattle.rb_tree.specs.declared.robot.Body.{Body}
use Rattle.rb_tree.specs.declared.robot.Mimic.{Mimic}
use Rattle.rb_tree.specs.Columns.{column_count, entry_count}
use Rattle.rb_tree.specs.Robot.{Tree}

-- the entries of the position by place from 0; speeds, accelerations and torques, each by place from 0, of which column c has the place
-- c - 1; and gravity in m/s²
pub record Row : Type 0 where
  pub q : List Interval
  pub v : List Interval
  pub a : List Interval
  pub tau : List Interval
  pub gravity : V3 Interval

-- the ends of each bracket are in order: what holds of every state
pub record IsRow (q v a tau : List Interval) (gravity : V3 Interval) : Type 0 where
  pub q_ordered : All IsOrdered q
  pub v_ordered : All IsOrdered v
  pub a_ordered : All IsOrdered a
  pub tau_ordered : All IsOrdered tau
  pub gravity_ordered : AreOrdered gravity

-- a state has as many entries and columns as the robot
pub record Fits (tree : Tree) (row : Row) : Type 0 where
  pub q : length row.q ≡ entry_count tree.bodies
  pub v : length row.v ≡ column_count tree.bodies
  pub a : length row.a ≡ column_count tree.bodies
  pub tau : length row.tau ≡ column_count tree.bodies

-- ---- one number
-- at a place from 0
abbrev pub at_place : List Interval → ℕ → Interval
at_place numbers place = slice_index_or numbers place zero_interval

-- the brackets of a state: entries by place from 0, and columns by number from 1
unfoldable pub state_brackets : Row → StateBrackets
state_brackets row = record {
  gravity = row.gravity;
  entry = at_place row.q;
  speed = λ c. at_place row.v (c - 1);
  acceleration = λ c. at_place row.a (c - 1);
  torque = λ c. at_place row.tau (c - 1);
}

-- ---- the neutral state
-- a turn has the cosine 1 and the sine 0, or the quaternion 0, 0, 0, 1; every other entry is 0
abbrev pub neutral_entries : Kind → List Interval
neutral_entries Kinds.Fixed = []
neutral_entries Kinds.Revolute = zero_interval ∷ []
neutral_entries Kinds.Continuous = one_interval ∷ zero_interval ∷ []
neutral_entries Kinds.Prismatic = zero_interval ∷ []
neutral_entries Kinds.Planar = zero_interval ∷ zero_interval ∷ one_interval ∷ zero_interval ∷ []
neutral_entries Kinds.Free = zero_interval ∷ zero_interval ∷ zero_interval ∷ zero_interval ∷ zero_interval ∷ zero_interval ∷ one_interval ∷ []

-- a joint that follows another has no entries of its own
abbrev pub neutral_unless : Option Mimic → List Interval → List Interval
neutral_unless None entries = entries
neutral_unless (Some mimic) entries = []

abbrev pub neutral_of : Body → List Interval
neutral_of body = neutral_unless body.mimic (neutral_entries (kind_of body.joint))

abbrev pub neutral_position : List Body → List Interval
neutral_position bodies = flat_map neutral_of bodies

-- neutral entries, and speeds, accelerations and torques of zero, under this gravity
unfoldable pub neutral_under : V3 Interval → Tree → Row
neutral_under gravity tree =
    let still = replicate (column_count tree.bodies) zero_interval in
    record { q = neutral_position tree.bodies; v = still; a = still; tau = still; gravity = gravity }

-- 9.81 m/s² downward
abbrev pub standard_gravity : V3 Interval
standard_gravity =
    let down = interval (neg_ℤ (pos 9810000000000)) (neg_ℤ (pos 9810000000000)) in
    record { x = zero_interval; y = zero_interval; z = down }
