-- Turns, which are rotations, by products of tables, over any operations. Featherstone, Rigid Body Dynamics Algorithms, chapter 2.
use Rattle.rb_frac.specs.Ops.{Ops, Signs, signs, V3, vadd}
use Rattle.rb_frac.specs.Tables.{Table, vector, identity, cross_table, transpose, table_times, table_product, table_sum, table_scaled}
use Rattle.rb_frac.specs.Spatial.{SineCosine, Quaternion, Frame, Place}

module _ {A : Type 0} (s : Signs A) where
  -- the turns about x, y and z
  unfoldable pub about_x : SineCosine A → Table A
  about_x t = record {
    x = vector s.one s.nul s.nul;
    y = vector s.nul t.cos (s.neg t.sin);
    z = vector s.nul t.sin t.cos;
  }

  unfoldable pub about_y : SineCosine A → Table A
  about_y t = record {
    x = vector t.cos s.nul t.sin;
    y = vector s.nul s.one s.nul;
    z = vector (s.neg t.sin) s.nul t.cos;
  }

  unfoldable pub about_z : SineCosine A → Table A
  about_z t = record {
    x = vector t.cos (s.neg t.sin) s.nul;
    y = vector t.sin t.cos s.nul;
    z = vector s.nul s.nul s.one;
  }

module _ {A : Type 0} (o : Ops A) where
  -- Rz Ry Rx
  unfoldable pub roll_pitch_yaw : SineCosine A → SineCosine A → SineCosine A → Table A
  roll_pitch_yaw roll pitch yaw = table_product o (about_z (signs o) yaw) (table_product o (about_y (signs o) pitch) (about_x (signs o) roll))

  -- 1 + s (a x) + (1 - c) (a x)(a x)
  unfoldable pub about_axis : V3 A → SineCosine A → Table A
  about_axis a t =
      table_sum o (identity (signs o))
      (table_sum o
      (table_scaled o t.sin (cross_table (signs o) a))
      (table_scaled o (o.add o.one (o.neg t.cos)) (table_product o (cross_table (signs o) a) (cross_table (signs o) a))))

  -- 1 + 2 w (u x) + 2 (u x)(u x), where u is the vector part
  unfoldable pub about_quaternion : Quaternion A → Table A
  about_quaternion q =
      let u = vector q.x q.y q.z in
      let two = o.add o.one o.one in
      table_sum o (identity (signs o))
      (table_sum o
      (table_scaled o (o.mul two q.w) (cross_table (signs o) u))
      (table_scaled o two (table_product o (cross_table (signs o) u) (cross_table (signs o) u))))

  -- a joint's turn Rj and shift p in its frame (Ro, ro): E is the transpose of Ro Rj, and r = ro + Ro p
  unfoldable pub placed : Frame A → Table A → V3 A → Place A
  placed f turn p = record { e = transpose (table_product o f.rot turn); r = vadd o f.at (table_times o f.rot p) }
