-- What it is for a joint model to enclose the joint relation.
use Rattle.std.specs.Prelude.{ℕ, List}
use Rattle.std.specs.List.{AllZip}
use Rattle.rb_frac.specs.Ops.{V3}
use Rattle.rb_frac.specs.Tables.{Vectors}
use Rattle.rb_frac.specs.Spatial.{Motion, Place, Frame, Motions, Places, Frames}
use Rattle.rb_num.specs.Interval.{Interval}
use Rattle.rb_num.specs.Fraction.{LiesIn}
use Rattle.rb_flat.specs.Joint.{Kind, JointChoice, IsJointChoice, chosen_frame, chosen_axis, chosen_place, chosen_column}

-- the frame of the choice lies in f, and its axis in a
pub record HasFrameAndAxis (f : Frame Interval) (a : V3 Interval) (c : JointChoice) : Type 0 where
  pub frame : Frames LiesIn (chosen_frame c) f
  pub axis : Vectors LiesIn (chosen_axis c) a

-- the place of each choice that `has` and with its entries in q lies in p
pub record EnclosesPlace (k : Kind) (has : JointChoice → Type 0) (q : List Interval) (p : Place Interval) : Type 0 where
  pub at : (c : JointChoice) → IsJointChoice k c → has c → AllZip LiesIn c.entries q → Places LiesIn (chosen_place k c) p

-- column j of each choice that `has` lies in s
pub record EnclosesColumn (k : Kind) (has : JointChoice → Type 0) (j : ℕ) (s : Motion Interval) : Type 0 where
  pub at : (c : JointChoice) → has c → Motions LiesIn (chosen_column k c j) s
