-- Turns about the coordinate axes.
use Rattle.std.specs.Prelude.{◌≡◌, [], ◌∷◌, Result, Ok}
use Rattle.rb_frac.specs.Ops.{V3}
use Rattle.rb_frac.specs.Tables.{Table, Symmetric, vector}
use Rattle.rb_frac.specs.Spatial.{SineCosine, Frame, Place}
use Rattle.rb_num.specs.declared.interval.NumFault.{NumFault}
use Rattle.rb_num.specs.Interval.{Interval, zero_interval, one_interval, negative_of}
use Rattle.rb_num.specs.Dot.{iv_dot}
use Rattle.rb_num.specs.Narrow.{IsNarrow}
use Rattle.rb_num.specs.Arith.{intervals}
use Rattle.rb_spatial.specs.Motions.{three}
use Rattle.rb_joint.specs.declared.level.Coordinate.{Coordinate}
use Rattle.rb_joint.specs.declared.level.Coordinate.TheVariants.{X, Y, Z}
use Rattle.rb_joint.specs.declared.level.LevelTurn.{LevelTurn}
use Rattle.rb_joint.specs.Turns.{axis_products, turn_about}
use Rattle.rb_joint.specs.Models.{place_turned}

pub record IsNarrowVector (v : V3 Interval) : Type 0 where
  pub x : IsNarrow v.x.lo v.x.hi
  pub y : IsNarrow v.y.lo v.y.hi
  pub z : IsNarrow v.z.lo v.z.hi

-- the vector with this part along an axis, and nothing across it
abbrev pub lone : Coordinate → Interval → V3 Interval
lone X w = vector w zero_interval zero_interval
lone Y w = vector zero_interval w zero_interval
lone Z w = vector zero_interval zero_interval w

-- the part along an axis
abbrev pub along : Coordinate → V3 Interval → Interval
along X v = v.x
along Y v = v.y
along Z v = v.z

abbrev pub IsLone : V3 Interval → Coordinate × Interval → Type 0
IsLone a p = a ≡ lone p.0 p.1

-- the cross product of u with a vector along an axis, without the products of zeros
abbrev pub crossed : Coordinate → V3 Interval → Interval → Result (V3 Interval) NumFault
crossed X u p = three intervals (Ok zero_interval) (iv_dot ((u.z, p) ∷ [])) (iv_dot ((negative_of u.y, p) ∷ []))
crossed Y u p = three intervals (iv_dot ((negative_of u.z, p) ∷ [])) (Ok zero_interval) (iv_dot ((u.x, p) ∷ []))
crossed Z u p = three intervals (iv_dot ((u.y, p) ∷ [])) (iv_dot ((negative_of u.x, p) ∷ [])) (Ok zero_interval)

-- the table of the turn about a coordinate axis, of the cosine, the sine and the negative of the sine
abbrev pub turned_about : Coordinate → Interval → Interval → Interval → Table Interval
turned_about X c s l = record {
  x = vector one_interval zero_interval zero_interval;
  y = vector zero_interval c l;
  z = vector zero_interval s c;
}
turned_about Y c s l = record {
  x = vector c zero_interval s;
  y = vector zero_interval one_interval zero_interval;
  z = vector l zero_interval c;
}
turned_about Z c s l = record {
  x = vector c l zero_interval;
  y = vector s c zero_interval;
  z = vector zero_interval zero_interval one_interval;
}

abbrev pub level_table : LevelTurn → Table Interval
level_table t = turned_about t.about t.cos t.sin t.less

-- it is the turn about the axis a by t
pub record IsLevel (a : V3 Interval) (t : SineCosine Interval) (l : LevelTurn) : Type 0 where
  pub turn : (p : Symmetric Interval) → axis_products intervals a ≡ Ok p → turn_about intervals a p t ≡ Ok (level_table l)

-- r is the place of a joint in the frame f that turns by t about the axis a, whose products are within the limit
pub record IsPlaceTurned (f : Frame Interval) (a : V3 Interval) (t : SineCosine Interval) (r : Place Interval) : Type 0 where
  pub place : (p : Symmetric Interval) → axis_products intervals a ≡ Ok p → place_turned intervals f a t ≡ Ok r
