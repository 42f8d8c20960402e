-- The rules of places, over any numbers. Featherstone, Rigid Body Dynamics Algorithms, chapter 4.
use Rattle.std.specs.Prelude.{[], ◌∷◌}
use Rattle.rb_frac.specs.Ops.{V3}
use Rattle.rb_frac.specs.Tables.{Table, Vectors, Tables, transpose}
use Rattle.rb_frac.specs.Spatial.{Place, Frame, Places, Frames}
use Rattle.rb_num.specs.Interval.{Interval}
use Rattle.rb_num.specs.Fraction.{LiesIn}
use Rattle.rb_num.specs.Arith.{Arith, fractions}
use Rattle.rb_spatial.specs.Encloses.{EnclosesTwo, EnclosesThree}
use Rattle.rb_spatial.specs.Motions.{three}
use Rattle.rb_spatial.specs.Carrying.{product}

module _ (R : Arith) where
  -- a point of a frame, seen from outside
  unfoldable pub outside : Frame R.N → V3 R.N → R.M (V3 R.N)
  outside f p =
      three R
      (R.dot ((f.at.x, R.one) ∷ (f.rot.x.x, p.x) ∷ (f.rot.x.y, p.y) ∷ (f.rot.x.z, p.z) ∷ []))
      (R.dot ((f.at.y, R.one) ∷ (f.rot.y.x, p.x) ∷ (f.rot.y.y, p.y) ∷ (f.rot.y.z, p.z) ∷ []))
      (R.dot ((f.at.z, R.one) ∷ (f.rot.z.x, p.x) ∷ (f.rot.z.y, p.y) ∷ (f.rot.z.z, p.z) ∷ []))

  -- the place of a joint that turns by `turn` and shifts by p in its frame
  unfoldable pub place_of : Frame R.N → Table R.N → V3 R.N → R.M (Place R.N)
  place_of f turn p =
      R.bind (product R f.rot turn) (λ t. R.bind (outside f p) (λ r. R.ret (record { e = transpose t; r = r })))

  -- the place of one that shifts only
  unfoldable pub place_shifted : Frame R.N → V3 R.N → R.M (Place R.N)
  place_shifted f p = R.bind (outside f p) (λ r. R.ret (record { e = transpose f.rot; r = r }))

-- ---- what encloses them
abbrev pub EnclosesOutside : Frame Interval → V3 Interval → V3 Interval → Type 0
EnclosesOutside f p r = EnclosesTwo (Frames LiesIn) (Vectors LiesIn) (Vectors LiesIn) (outside fractions) f p r

abbrev pub EnclosesPlaceOf : Frame Interval → Table Interval → V3 Interval → Place Interval → Type 0
EnclosesPlaceOf f turn p r = EnclosesThree (Frames LiesIn) (Tables LiesIn) (Vectors LiesIn) (Places LiesIn) (place_of fractions) f turn p r

abbrev pub EnclosesPlaceShifted : Frame Interval → V3 Interval → Place Interval → Type 0
EnclosesPlaceShifted f p r = EnclosesTwo (Frames LiesIn) (Vectors LiesIn) (Places LiesIn) (place_shifted fractions) f p r
