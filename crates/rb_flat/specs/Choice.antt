-- A choice for a robot and a state: one number from each bracket, a factor for each axis, and a sine and cosine for each angle.
use Rattle.std.specs.Prelude.{◌≡◌, ℕ, zero, suc, ◌+◌, ◌<◌, ◌≤ℤ◌, List, [], ◌∷◌, Option, None, Some}
use Rattle.std.specs.List.{AllZip}
use Rattle.rb_frac.specs.Ops.{V3}
use Rattle.rb_frac.specs.Frac.{Frac, Same, add, mul}
use Rattle.rb_frac.specs.Tables.{Symmetric, Vectors, Symmetrics}
use Rattle.rb_num.specs.Interval.{Interval}
use Rattle.rb_num.specs.Fraction.{LiesIn}
use Rattle.rb_num.specs.Least.{Covers}
use Rattle.rb_flat.specs.Shape.{Shape, HasBody, HasColumn, MimicsFit}
use Rattle.rb_flat.specs.Joint.{Kind, entry_count, JointChoice, IsJointChoice}
use Rattle.rb_flat.specs.Body.{BodyChoice, IsBodyChoice}

-- ---- brackets
-- of a link: mass in kilograms, centre in metres, angles in radians, and the six numbers of its inertia
pub record LinkBrackets : Type 0 where
  pub mass : Interval
  pub centre : V3 Interval
  pub rpy : V3 Interval
  pub six : Symmetric Interval

-- of a joint: origin in metres, angles in radians, axis and its factor
pub record JointBrackets : Type 0 where
  pub origin : V3 Interval
  pub rpy : V3 Interval
  pub axis : V3 Interval
  pub factor : Interval

-- of a joint that follows another
pub record MimicBrackets : Type 0 where
  pub multiplier : Interval
  pub offset : Interval

-- of a robot, by body
pub record RobotBrackets : Type 0 where
  pub shape : Shape
  pub link : ℕ → LinkBrackets
  pub joint : ℕ → JointBrackets
  pub mimic : ℕ → MimicBrackets

-- of a state: gravity in m/s², the entries of the position by place, and speeds, accelerations and torques by column
pub record StateBrackets : Type 0 where
  pub gravity : V3 Interval
  pub entry : ℕ → Interval
  pub speed : ℕ → Interval
  pub acceleration : ℕ → Interval
  pub torque : ℕ → Interval

-- ---- choices
pub record Choice : Type 0 where
  pub gravity : V3 Frac
  pub link : ℕ → BodyChoice
  pub joint : ℕ → JointChoice
  pub speed : ℕ → Frac
  pub acceleration : ℕ → Frac
  pub torque : ℕ → Frac

pub record LinkChosen (c : BodyChoice) (b : LinkBrackets) : Type 0 where
  pub mass : LiesIn c.mass b.mass
  pub centre : Vectors LiesIn c.centre b.centre
  pub rpy : Vectors LiesIn c.rpy b.rpy
  pub six : Symmetrics LiesIn c.six b.six
  pub angles : IsBodyChoice c

-- all but the entries
pub record JointChosen (k : Kind) (c : JointChoice) (b : JointBrackets) : Type 0 where
  pub origin : Vectors LiesIn c.origin b.origin
  pub rpy : Vectors LiesIn c.rpy b.rpy
  pub axis : Vectors LiesIn c.axis b.axis
  pub factor : LiesIn c.factor b.factor
  pub is : IsJointChoice k c

-- the one entry is the multiplier times the master's entry, plus the offset
pub record FollowsMaster (c master : JointChoice) (b : MimicBrackets) : Type 0 where
  pub multiplier : LiesIn c.multiplier b.multiplier
  pub offset : LiesIn c.offset b.offset
  pub entry : Frac
  pub master_entry : Frac
  pub entries : c.entries ≡ entry ∷ []
  pub master_entries : master.entries ≡ master_entry ∷ []
  pub is : Same entry (add (mul c.multiplier master_entry) c.offset)

-- n items from a place on
abbrev pub items_from : {A : Type 0} → (ℕ → A) → ℕ → ℕ → List A
items_from f place zero = []
items_from f place (suc n) = f place ∷ items_from f (suc place) n

-- the entries of a joint that leads lie in those of the state; one that follows has its master's
abbrev pub EntriesChosen : RobotBrackets → StateBrackets → Choice → ℕ → Option ℕ → Type 0
EntriesChosen robot state c i None = AllZip LiesIn (c.joint i).entries (items_from state.entry (robot.shape.first_entry i) (entry_count (robot.shape.kind i)))
EntriesChosen robot state c i (Some master) = FollowsMaster (c.joint i) (c.joint master) (robot.mimic i)

pub record BodyChosen (robot : RobotBrackets) (state : StateBrackets) (c : Choice) (i : ℕ) : Type 0 where
  pub link : LinkChosen (c.link i) (robot.link i)
  pub joint : JointChosen (robot.shape.kind i) (c.joint i) (robot.joint i)
  pub entries : EntriesChosen robot state c i (robot.shape.mimic i)

pub record ColumnChosen (state : StateBrackets) (c : Choice) (k : ℕ) : Type 0 where
  pub speed : LiesIn (c.speed k) (state.speed k)
  pub acceleration : LiesIn (c.acceleration k) (state.acceleration k)
  pub torque : LiesIn (c.torque k) (state.torque k)

pub record IsChoice (robot : RobotBrackets) (state : StateBrackets) (c : Choice) : Type 0 where
  pub gravity : Vectors LiesIn c.gravity state.gravity
  pub bodies : (i : ℕ) → HasBody robot.shape i → BodyChosen robot state c i
  pub columns : (k : ℕ) → HasColumn robot.shape k → ColumnChosen state c k

-- ---- that there is one
abbrev pub IsOrdered : Interval → Type 0
IsOrdered v = v.lo ≤ℤ v.hi

pub record AreOrdered (v : V3 Interval) : Type 0 where
  pub x : IsOrdered v.x
  pub y : IsOrdered v.y
  pub z : IsOrdered v.z

pub record SixOrdered (s : Symmetric Interval) : Type 0 where
  pub xx : IsOrdered s.xx
  pub xy : IsOrdered s.xy
  pub xz : IsOrdered s.xz
  pub yy : IsOrdered s.yy
  pub yz : IsOrdered s.yz
  pub zz : IsOrdered s.zz

pub record LinkOrdered (b : LinkBrackets) : Type 0 where
  pub mass : IsOrdered b.mass
  pub centre : AreOrdered b.centre
  pub rpy : AreOrdered b.rpy
  pub six : SixOrdered b.six

pub record JointOrdered (b : JointBrackets) : Type 0 where
  pub origin : AreOrdered b.origin
  pub rpy : AreOrdered b.rpy
  pub axis : AreOrdered b.axis
  pub factor : IsOrdered b.factor

pub record MimicOrdered (b : MimicBrackets) : Type 0 where
  pub multiplier : IsOrdered b.multiplier
  pub offset : IsOrdered b.offset

-- the ends of each bracket are in order, and each joint that follows another may
pub record IsRobotOrdered (robot : RobotBrackets) : Type 0 where
  pub link : (i : ℕ) → HasBody robot.shape i → LinkOrdered (robot.link i)
  pub joint : (i : ℕ) → HasBody robot.shape i → JointOrdered (robot.joint i)
  pub mimic : (i master : ℕ) → HasBody robot.shape i → robot.shape.mimic i ≡ Some master → MimicOrdered (robot.mimic i)
  pub fits : MimicsFit robot.shape

pub record ColumnOrdered (state : StateBrackets) (k : ℕ) : Type 0 where
  pub speed : IsOrdered (state.speed k)
  pub acceleration : IsOrdered (state.acceleration k)
  pub torque : IsOrdered (state.torque k)

-- the ends of each bracket are in order: of the entries, those of the joints that lead
pub record IsStateOrdered (shape : Shape) (state : StateBrackets) : Type 0 where
  pub gravity : AreOrdered state.gravity
  pub entry : (i k : ℕ) → HasBody shape i → shape.mimic i ≡ None → k < entry_count (shape.kind i) → IsOrdered (state.entry (shape.first_entry i + k))
  pub column : (k : ℕ) → HasColumn shape k → ColumnOrdered state k

-- each robot and state has a choice
abbrev pub HasChoice : Type 0
HasChoice = (robot : RobotBrackets) (state : StateBrackets) → IsRobotOrdered robot → IsStateOrdered robot.shape state → (c : Choice) × IsChoice robot state c

-- ---- wider brackets
-- each bracket of the one state covers that of the other
pub record StateCovers (wide narrow : StateBrackets) : Type 0 where
  pub gravity : Vectors Covers wide.gravity narrow.gravity
  pub entry : (place : ℕ) → Covers (wide.entry place) (narrow.entry place)
  pub speed : (k : ℕ) → Covers (wide.speed k) (narrow.speed k)
  pub acceleration : (k : ℕ) → Covers (wide.acceleration k) (narrow.acceleration k)
  pub torque : (k : ℕ) → Covers (wide.torque k) (narrow.torque k)

-- a choice for a state is one for each wider state
abbrev pub WiderKeepsChoice : Type 0
WiderKeepsChoice =
    (robot : RobotBrackets) (wide narrow : StateBrackets) (c : Choice) → StateCovers wide narrow → IsChoice robot narrow c → IsChoice robot wide c
