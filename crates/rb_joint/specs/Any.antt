-- What a joint of any of the models answers: what its model answers.
use Rattle.std.specs.Prelude.{ℕ, Result, List}
use Rattle.rb_frac.specs.Tables.{nothing}
use Rattle.rb_frac.specs.Spatial.{Motion, Place}
use Rattle.rb_num.specs.Interval.{Interval}
use Rattle.rb_num.specs.Arith.{intervals, signs_of}
use Rattle.rb_trig.specs.Sine.{IsAngle}
use Rattle.rb_flat.specs.Joint as Flat
use Rattle.rb_flat.specs.Joint.{Kind, JointChoice, along, around}
use Rattle.rb_joint.specs.declared.faults.JointFault.{JointFault}
use Rattle.rb_joint.specs.declared.any.AnyJoint.{AnyJoint}
use Rattle.rb_joint.specs.declared.any.AnyJoint.TheVariants.{Fixed, Revolute, Continuous, Prismatic, Planar, Free}
use Rattle.rb_joint.specs.Frames.{HasFrame}
use Rattle.rb_joint.specs.Model.{HasFrameAndAxis}
use Rattle.rb_joint.specs.Models.{entry_at, pair_from, level_shift, free_shift, free_turn, square_of_pair, square_of_quaternion, IsNotOne}
use Rattle.rb_joint.specs.Models.{fixed_place, revolute_place, continuous_place, prismatic_place, planar_place, free_place, planar_column, free_column}

abbrev pub kind_of : AnyJoint → Kind
kind_of (Fixed m) = Flat.Fixed
kind_of (Revolute m) = Flat.Revolute
kind_of (Continuous m) = Flat.Continuous
kind_of (Prismatic m) = Flat.Prismatic
kind_of (Planar m) = Flat.Planar
kind_of (Free m) = Flat.Free

-- the frame of the choice, and its axis where the joint has one, are among those of the model
abbrev pub IsOfModel : AnyJoint → JointChoice → Type 0
IsOfModel (Fixed m) c = HasFrame m.frame c
IsOfModel (Revolute m) c = HasFrameAndAxis m.frame m.axis c
IsOfModel (Continuous m) c = HasFrameAndAxis m.frame m.axis c
IsOfModel (Prismatic m) c = HasFrameAndAxis m.frame m.axis c
IsOfModel (Planar m) c = HasFrame m.frame c
IsOfModel (Free m) c = HasFrame m.frame c

unfoldable pub any_place : AnyJoint → List Interval → Result (Place Interval) JointFault
any_place (Fixed m) q = fixed_place m.frame
any_place (Revolute m) q = revolute_place m.frame m.axis (entry_at q 0)
any_place (Continuous m) q = continuous_place m.frame m.axis (pair_from q 0)
any_place (Prismatic m) q = prismatic_place m.frame m.axis (entry_at q 0)
any_place (Planar m) q = planar_place m.frame (level_shift q) (pair_from q 2)
any_place (Free m) q = free_place m.frame (free_shift q) (free_turn q)

unfoldable pub any_column : AnyJoint → ℕ → Motion Interval
any_column (Fixed m) k = along (signs_of intervals) (nothing (signs_of intervals))
any_column (Revolute m) k = around (signs_of intervals) m.axis
any_column (Continuous m) k = around (signs_of intervals) m.axis
any_column (Prismatic m) k = along (signs_of intervals) m.axis
any_column (Planar m) k = planar_column k
any_column (Free m) k = free_column k

-- that the angle of a revolute joint has no sine and cosine
abbrev pub PassesRange : AnyJoint → List Interval → Type 0
PassesRange (Revolute m) q = ¬ IsAngle (entry_at q 0)
PassesRange _ q = ⊥

-- that a cosine and sine, or a quaternion, has not the length one
abbrev pub IsNotUnit : AnyJoint → List Interval → Type 0
IsNotUnit (Continuous m) q = IsNotOne (square_of_pair intervals (pair_from q 0))
IsNotUnit (Planar m) q = IsNotOne (square_of_pair intervals (pair_from q 2))
IsNotUnit (Free m) q = IsNotOne (square_of_quaternion intervals (free_turn q))
IsNotUnit _ q = ⊥
