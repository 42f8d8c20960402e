-- The rules of turns, which are rotations, over any numbers. Featherstone, Rigid Body Dynamics Algorithms, chapter 2; roll, pitch and yaw
-- as in URDF.
use Rattle.std.specs.Prelude.{[], ◌∷◌}
use Rattle.rb_frac.specs.Ops.{V3}
use Rattle.rb_frac.specs.Tables.{Table, Symmetric, Vectors, Tables, Symmetrics}
use Rattle.rb_frac.specs.Spatial.{SineCosine, Quaternion, SineCosines, Quaternions}
use Rattle.rb_num.specs.Interval.{Interval}
use Rattle.rb_num.specs.Fraction.{LiesIn}
use Rattle.rb_num.specs.Arith.{Arith, fractions, signs_of}
use Rattle.rb_spatial.specs.Encloses.{Encloses, EnclosesThree}
use Rattle.rb_spatial.specs.Motions.{three, three_rows, six}
use Rattle.rb_flat.specs.Turns.{about_z}

module _ (R : Arith) where
  -- ---- the turn of roll, pitch and yaw: Rz Ry Rx
  -- its rows, where t1 and t2 are the sine of pitch times the sine and the cosine of roll
  unfoldable pub rotation_row_x : SineCosine R.N → SineCosine R.N → SineCosine R.N → R.N → R.N → R.M (V3 R.N)
  rotation_row_x roll pitch yaw t1 t2 =
      three R
      (R.dot ((yaw.cos, pitch.cos) ∷ []))
      (R.dot ((yaw.cos, t1) ∷ (R.neg yaw.sin, roll.cos) ∷ []))
      (R.dot ((yaw.cos, t2) ∷ (yaw.sin, roll.sin) ∷ []))

  unfoldable pub rotation_row_y : SineCosine R.N → SineCosine R.N → SineCosine R.N → R.N → R.N → R.M (V3 R.N)
  rotation_row_y roll pitch yaw t1 t2 =
      three R
      (R.dot ((yaw.sin, pitch.cos) ∷ []))
      (R.dot ((yaw.sin, t1) ∷ (yaw.cos, roll.cos) ∷ []))
      (R.dot ((yaw.sin, t2) ∷ (R.neg yaw.cos, roll.sin) ∷ []))

  unfoldable pub rotation_row_z : SineCosine R.N → SineCosine R.N → R.M (V3 R.N)
  rotation_row_z roll pitch =
      three R
      (R.ret (R.neg pitch.sin))
      (R.dot ((pitch.cos, roll.sin) ∷ []))
      (R.dot ((pitch.cos, roll.cos) ∷ []))

  unfoldable pub rotation : SineCosine R.N → SineCosine R.N → SineCosine R.N → R.M (Table R.N)
  rotation roll pitch yaw =
      R.bind (R.dot ((pitch.sin, roll.sin) ∷ [])) (λ t1.
      R.bind (R.dot ((pitch.sin, roll.cos) ∷ [])) (λ t2.
      three_rows R (rotation_row_x roll pitch yaw t1 t2) (rotation_row_y roll pitch yaw t1 t2) (rotation_row_z roll pitch)))

  -- ---- the turn about an axis
  -- of an axis: on the diagonal the squared distances from the coordinate axes, and above it the products
  unfoldable pub axis_products : V3 R.N → R.M (Symmetric R.N)
  axis_products a =
      six R
      (R.dot ((a.y, a.y) ∷ (a.z, a.z) ∷ []))
      (R.dot ((a.x, a.y) ∷ []))
      (R.dot ((a.x, a.z) ∷ []))
      (R.dot ((a.z, a.z) ∷ (a.x, a.x) ∷ []))
      (R.dot ((a.y, a.z) ∷ []))
      (R.dot ((a.x, a.x) ∷ (a.y, a.y) ∷ []))

  -- the rows, where p has the products of the axis a, s is the sine, and k is one less the cosine
  unfoldable pub axis_row_x : V3 R.N → Symmetric R.N → R.N → R.N → R.M (V3 R.N)
  axis_row_x a p s k =
      three R
      (R.dot ((R.one, R.one) ∷ (R.neg k, p.xx) ∷ []))
      (R.dot ((k, p.xy) ∷ (R.neg a.z, s) ∷ []))
      (R.dot ((k, p.xz) ∷ (a.y, s) ∷ []))

  unfoldable pub axis_row_y : V3 R.N → Symmetric R.N → R.N → R.N → R.M (V3 R.N)
  axis_row_y a p s k =
      three R
      (R.dot ((k, p.xy) ∷ (a.z, s) ∷ []))
      (R.dot ((R.one, R.one) ∷ (R.neg k, p.yy) ∷ []))
      (R.dot ((k, p.yz) ∷ (R.neg a.x, s) ∷ []))

  unfoldable pub axis_row_z : V3 R.N → Symmetric R.N → R.N → R.N → R.M (V3 R.N)
  axis_row_z a p s k =
      three R
      (R.dot ((k, p.xz) ∷ (R.neg a.y, s) ∷ []))
      (R.dot ((k, p.yz) ∷ (a.x, s) ∷ []))
      (R.dot ((R.one, R.one) ∷ (R.neg k, p.zz) ∷ []))

  unfoldable pub turn_about : V3 R.N → Symmetric R.N → SineCosine R.N → R.M (Table R.N)
  turn_about a p t =
      R.bind (R.sub R.one t.cos) (λ k. three_rows R (axis_row_x a p t.sin k) (axis_row_y a p t.sin k) (axis_row_z a p t.sin k))

  -- ---- the turn of a quaternion
  -- its rows, where d has twice the vector part
  unfoldable pub quaternion_row_x : Quaternion R.N → V3 R.N → R.M (V3 R.N)
  quaternion_row_x q d =
      three R
      (R.dot ((R.one, R.one) ∷ (R.neg d.y, q.y) ∷ (R.neg d.z, q.z) ∷ []))
      (R.dot ((d.x, q.y) ∷ (R.neg d.z, q.w) ∷ []))
      (R.dot ((d.x, q.z) ∷ (d.y, q.w) ∷ []))

  unfoldable pub quaternion_row_y : Quaternion R.N → V3 R.N → R.M (V3 R.N)
  quaternion_row_y q d =
      three R
      (R.dot ((d.x, q.y) ∷ (d.z, q.w) ∷ []))
      (R.dot ((R.one, R.one) ∷ (R.neg d.x, q.x) ∷ (R.neg d.z, q.z) ∷ []))
      (R.dot ((d.y, q.z) ∷ (R.neg d.x, q.w) ∷ []))

  unfoldable pub quaternion_row_z : Quaternion R.N → V3 R.N → R.M (V3 R.N)
  quaternion_row_z q d =
      three R
      (R.dot ((d.x, q.z) ∷ (R.neg d.y, q.w) ∷ []))
      (R.dot ((d.y, q.z) ∷ (d.x, q.w) ∷ []))
      (R.dot ((R.one, R.one) ∷ (R.neg d.x, q.x) ∷ (R.neg d.y, q.y) ∷ []))

  unfoldable pub twice : Quaternion R.N → R.M (V3 R.N)
  twice q = three R (R.add q.x q.x) (R.add q.y q.y) (R.add q.z q.z)

  unfoldable pub turn_of : Quaternion R.N → R.M (Table R.N)
  turn_of q = R.bind (twice q) (λ d. three_rows R (quaternion_row_x q d) (quaternion_row_y q d) (quaternion_row_z q d))

-- ---- what encloses them
abbrev pub EnclosesRotation : SineCosine Interval → SineCosine Interval → SineCosine Interval → Table Interval → Type 0
EnclosesRotation roll pitch yaw r = EnclosesThree (SineCosines LiesIn) (SineCosines LiesIn) (SineCosines LiesIn) (Tables LiesIn) (rotation fractions) roll pitch yaw r

abbrev pub EnclosesAxisProducts : V3 Interval → Symmetric Interval → Type 0
EnclosesAxisProducts a r = Encloses (Vectors LiesIn) (Symmetrics LiesIn) (axis_products fractions) a r

abbrev pub EnclosesTurnAbout : V3 Interval → Symmetric Interval → SineCosine Interval → Table Interval → Type 0
EnclosesTurnAbout a p t r = EnclosesThree (Vectors LiesIn) (Symmetrics LiesIn) (SineCosines LiesIn) (Tables LiesIn) (turn_about fractions) a p t r

abbrev pub EnclosesTurnLevel : SineCosine Interval → Table Interval → Type 0
EnclosesTurnLevel t r = Encloses (SineCosines LiesIn) (Tables LiesIn) (about_z (signs_of fractions)) t r

abbrev pub EnclosesTurnOf : Quaternion Interval → Table Interval → Type 0
EnclosesTurnOf q r = Encloses (Quaternions LiesIn) (Tables LiesIn) (turn_of fractions) q r
