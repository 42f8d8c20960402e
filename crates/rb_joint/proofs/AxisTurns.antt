-- Turns about the coordinate axes: the rule of any axis gives the cosine and the sine themselves.
use Rattle.std.proofs.Common.{◌≡◌, [], ◌∷◌, Result, Ok, refl, sym, ap, ◌∙◌, arith}
use Rattle.std.proofs.lemmas.Int.{ints}
use Rattle.rb_frac.specs.Ops.{V3}
use Rattle.rb_frac.specs.Tables.{Table, Symmetric, vector, transpose, nothing}
use Rattle.rb_frac.specs.Spatial.{SineCosine, Frame}
use Rattle.rb_num.specs.declared.interval.NumFault.{NumFault}
use Rattle.rb_num.specs.Interval.{Interval, zero_interval, one_interval, negative_of, difference_of}
use Rattle.rb_num.specs.Narrow.{IsNarrow}
use Rattle.rb_num.specs.Dot.{iv_dot}
use Rattle.rb_num.specs.Refusing.{iv_sub}
use Rattle.rb_num.specs.Arith.{intervals, signs_of}
use Rattle.rb_num.proofs.Zeros.{dot-none, dot-zero_first, dot-zero_second, dot-head_zero_first, dot-head_zero_second}
use Rattle.rb_num.proofs.Ones.{minus_one, one_narrow, dot-one_first, dot-minus_first, dot-swapped, sub-narrow, dot-one_less}
use Rattle.rb_spatial.specs.Motions.{three, three_rows, six, pairs}
use Rattle.rb_spatial.specs.Carrying.{row_mul, product}
use Rattle.rb_joint.specs.declared.level.Coordinate.{Coordinate}
use Rattle.rb_joint.specs.declared.level.Coordinate.TheVariants.{X, Y, Z}
use Rattle.rb_joint.specs.Turns.{axis_products, axis_row_x, axis_row_y, axis_row_z, turn_about}
use Rattle.rb_joint.proofs.JointMotion.{first_alone, second_alone, third_alone}
use Rattle.rb_joint.specs.Places.{outside, place_of}
use Rattle.rb_joint.specs.Models.{place_turned, kept}
use Rattle.rb_joint.specs.Level.{IsNarrowVector, lone, along, turned_about, level_table, IsLevel, IsPlaceTurned}
use Rattle.rb_joint.specs.declared.level.LevelTurn.{LevelTurn}

three_ok : {a b c : Result Interval NumFault} {x y z : Interval} → a ≡ Ok x → b ≡ Ok y → c ≡ Ok z → three intervals a b c ≡ Ok (vector x y z)
three_ok ea eb ec = rw (ea, eb, ec) refl

rows_ok : {a b c : Result (V3 Interval) NumFault} {x y z : V3 Interval} → a ≡ Ok x → b ≡ Ok y → c ≡ Ok z
    → three_rows intervals a b c ≡ Ok (record { x = x; y = y; z = z })
rows_ok ea eb ec = rw (ea, eb, ec) refl

-- ---- a unit part w of an axis times the sine s
record IsUnit (w s p l : Interval) : Type 0 where
  pub up : iv_dot ((w, s) ∷ []) ≡ Ok p
  pub down : iv_dot ((negative_of w, s) ∷ []) ≡ Ok l
  pub square : iv_dot ((w, w) ∷ []) ≡ Ok one_interval

unit_one : (s : Interval) → IsNarrow s.lo s.hi → IsUnit one_interval s s (negative_of s)
unit_one s h = record { up = dot-one_first s h; down = dot-minus_first s h; square = dot-one_first one_interval one_narrow }

minus_narrow : IsNarrow minus_one.lo minus_one.hi
minus_narrow = record { ordered = omega (arith, ints); low = omega (arith, ints); high = omega (arith, ints) }

unit_minus : (s : Interval) → IsNarrow s.lo s.hi → IsUnit minus_one s (negative_of s) s
unit_minus s h = record { up = dot-minus_first s h; down = dot-one_first s h; square = dot-minus_first minus_one minus_narrow }

-- ---- the products of such an axis
alone : (w : Interval) → iv_dot ((zero_interval, zero_interval) ∷ (w, w) ∷ []) ≡ iv_dot ((w, w) ∷ [])
alone w = dot-head_zero_first zero_interval ((w, w) ∷ [])

ahead : (w : Interval) → iv_dot ((w, w) ∷ (zero_interval, zero_interval) ∷ []) ≡ iv_dot ((w, w) ∷ [])
ahead w = dot-zero_first zero_interval ((w, w) ∷ []) []

none_first : (w : Interval) → iv_dot ((zero_interval, w) ∷ []) ≡ Ok zero_interval
none_first w = dot-head_zero_first w [] ∙ dot-none

none_second : (w : Interval) → iv_dot ((w, zero_interval) ∷ []) ≡ Ok zero_interval
none_second w = dot-head_zero_second w [] ∙ dot-none

none_twice : iv_dot ((zero_interval, zero_interval) ∷ (zero_interval, zero_interval) ∷ []) ≡ Ok zero_interval
none_twice = dot-head_zero_first zero_interval ((zero_interval, zero_interval) ∷ []) ∙ none_first zero_interval

six_ok : {a b c d e f : Result Interval NumFault} {xx xy xz yy yz zz : Interval} → a ≡ Ok xx → b ≡ Ok xy → c ≡ Ok xz → d ≡ Ok yy → e ≡ Ok yz → f ≡ Ok zz
    → six intervals a b c d e f ≡ Ok (record { xx = xx; xy = xy; xz = xz; yy = yy; yz = yz; zz = zz })
six_ok ea eb ec ed ee ef = rw (ea, eb, ec, ed, ee, ef) refl

-- one across the axis, and zero along it
abbrev squares : Coordinate → Symmetric Interval
squares X = record { xx = zero_interval; xy = zero_interval; xz = zero_interval; yy = one_interval; yz = zero_interval; zz = one_interval }
squares Y = record { xx = one_interval; xy = zero_interval; xz = zero_interval; yy = zero_interval; yz = zero_interval; zz = one_interval }
squares Z = record { xx = one_interval; xy = zero_interval; xz = zero_interval; yy = one_interval; yz = zero_interval; zz = zero_interval }

products_lone : (k : Coordinate) (w : Interval) → iv_dot ((w, w) ∷ []) ≡ Ok one_interval → axis_products intervals (lone k w) ≡ Ok (squares k)
unfolding axis_products
products_lone X w h = six_ok none_twice (none_second w) (none_second w) (alone w ∙ h) (none_first zero_interval) (ahead w ∙ h)
products_lone Y w h = six_ok (ahead w ∙ h) (none_first w) (none_first zero_interval) none_twice (none_second w) (alone w ∙ h)
products_lone Z w h = six_ok (alone w ∙ h) (none_first zero_interval) (none_first w) (ahead w ∙ h) (none_first w) none_twice

-- ---- the entries of the turn, where k is one less the cosine
mixed : (k w s p : Interval) → iv_dot ((w, s) ∷ []) ≡ Ok p → iv_dot ((k, zero_interval) ∷ (w, s) ∷ []) ≡ Ok p
mixed k w s p h = dot-head_zero_second k ((w, s) ∷ []) ∙ h

gone : (k s : Interval) → iv_dot ((k, zero_interval) ∷ (zero_interval, s) ∷ []) ≡ Ok zero_interval
gone k s = mixed k zero_interval s zero_interval (none_first s)

still : (k : Interval) → iv_dot ((one_interval, one_interval) ∷ (k, zero_interval) ∷ []) ≡ Ok one_interval
still k = dot-zero_second k ((one_interval, one_interval) ∷ []) [] ∙ dot-one_first one_interval one_narrow

turn_ok : (a : V3 Interval) (p : Symmetric Interval) (t : SineCosine Interval) (k : Interval) (x y z : V3 Interval) → iv_sub one_interval t.cos ≡ Ok k
    → axis_row_x intervals a p t.sin k ≡ Ok x → axis_row_y intervals a p t.sin k ≡ Ok y → axis_row_z intervals a p t.sin k ≡ Ok z
    → turn_about intervals a p t ≡ Ok (record { x = x; y = y; z = z })
unfolding turn_about
turn_ok a p t k x y z ek ex ey ez = rw ek (rows_ok ex ey ez)

turn_lone : (k : Coordinate) (w p l : Interval) (t : SineCosine Interval) → IsNarrow t.cos.lo t.cos.hi → IsUnit w t.sin p l
    → turn_about intervals (lone k w) (squares k) t ≡ Ok (turned_about k t.cos p l)
unfolding axis_row_x axis_row_y axis_row_z
turn_lone X w p l t n u =
    let k : Interval = difference_of one_interval t.cos in
    turn_ok (lone X w) (squares X) t k _ _ _ (sub-narrow t.cos n)
    (three_ok (still (negative_of k)) (gone k t.sin) (gone k t.sin))
    (three_ok (gone k t.sin) (dot-one_less t.cos n) (mixed k (negative_of w) t.sin l u.down))
    (three_ok (gone k t.sin) (mixed k w t.sin p u.up) (dot-one_less t.cos n))
turn_lone Y w p l t n u =
    let k : Interval = difference_of one_interval t.cos in
    turn_ok (lone Y w) (squares Y) t k _ _ _ (sub-narrow t.cos n)
    (three_ok (dot-one_less t.cos n) (gone k t.sin) (mixed k w t.sin p u.up))
    (three_ok (gone k t.sin) (still (negative_of k)) (gone k t.sin))
    (three_ok (mixed k (negative_of w) t.sin l u.down) (gone k t.sin) (dot-one_less t.cos n))
turn_lone Z w p l t n u =
    let k : Interval = difference_of one_interval t.cos in
    turn_ok (lone Z w) (squares Z) t k _ _ _ (sub-narrow t.cos n)
    (three_ok (dot-one_less t.cos n) (mixed k (negative_of w) t.sin l u.down) (gone k t.sin))
    (three_ok (mixed k w t.sin p u.up) (dot-one_less t.cos n) (gone k t.sin))
    (three_ok (gone k t.sin) (gone k t.sin) (still (negative_of k)))

-- ---- a row times the turn
one_second : (v : Interval) → IsNarrow v.lo v.hi → iv_dot ((v, one_interval) ∷ []) ≡ Ok v
one_second v h = dot-swapped v one_interval ∙ dot-one_first v h

pub row_x : (v : V3 Interval) (c s l y z : Interval) → IsNarrow v.x.lo v.x.hi → iv_dot ((v.y, c) ∷ (v.z, s) ∷ []) ≡ Ok y
    → iv_dot ((v.y, l) ∷ (v.z, c) ∷ []) ≡ Ok z
    → row_mul intervals v (transpose (turned_about X c s l)) ≡ Ok (vector v.x y z)
unfolding row_mul
row_x v c s l y z n ey ez =
    three_ok (first_alone v.x v.y v.z ∙ one_second v.x n)
    (dot-head_zero_second v.x ((v.y, c) ∷ (v.z, s) ∷ []) ∙ ey)
    (dot-head_zero_second v.x ((v.y, l) ∷ (v.z, c) ∷ []) ∙ ez)

pub row_y : (v : V3 Interval) (c s l x z : Interval) → IsNarrow v.y.lo v.y.hi → iv_dot ((v.x, c) ∷ (v.z, l) ∷ []) ≡ Ok x
    → iv_dot ((v.x, s) ∷ (v.z, c) ∷ []) ≡ Ok z
    → row_mul intervals v (transpose (turned_about Y c s l)) ≡ Ok (vector x v.y z)
unfolding row_mul
row_y v c s l x z n ex ez =
    three_ok (dot-zero_second v.y ((v.x, c) ∷ []) ((v.z, l) ∷ []) ∙ ex) (second_alone v.x v.y v.z ∙ one_second v.y n) (dot-zero_second v.y ((v.x, s) ∷ []) ((v.z, c) ∷ []) ∙ ez)

pub row_z : (v : V3 Interval) (c s l x y : Interval) → IsNarrow v.z.lo v.z.hi → iv_dot ((v.x, c) ∷ (v.y, s) ∷ []) ≡ Ok x
    → iv_dot ((v.x, l) ∷ (v.y, c) ∷ []) ≡ Ok y
    → row_mul intervals v (transpose (turned_about Z c s l)) ≡ Ok (vector x y v.z)
unfolding row_mul
row_z v c s l x y n ex ey =
    three_ok (dot-zero_second v.z ((v.x, c) ∷ (v.y, s) ∷ []) [] ∙ ex) (dot-zero_second v.z ((v.x, l) ∷ (v.y, c) ∷ []) [] ∙ ey) (third_alone v.x v.y v.z ∙ one_second v.z n)

pub product_rows : (m t r : Table Interval) (mx my mz x y z : V3 Interval) → mx ≡ m.x → my ≡ m.y → mz ≡ m.z → row_mul intervals mx (transpose t) ≡ Ok x
    → row_mul intervals my (transpose t) ≡ Ok y → row_mul intervals mz (transpose t) ≡ Ok z → r ≡ record { x = x; y = y; z = z } → product intervals m t ≡ Ok r
unfolding product
product_rows m t r mx my mz x y z hx hy hz ex ey ez er =
    let fx : row_mul intervals m.x (transpose t) ≡ Ok x = rw (← hx) ex in
    let fy : row_mul intervals m.y (transpose t) ≡ Ok y = rw (← hy) ey in
    let fz : row_mul intervals m.z (transpose t) ≡ Ok z = rw (← hz) ez in
    rw er (rows_ok fx fy fz)

-- ---- the origin of a frame, seen from outside
at_alone : (x a b c : Interval) → IsNarrow x.lo x.hi → iv_dot ((x, one_interval) ∷ (a, zero_interval) ∷ (b, zero_interval) ∷ (c, zero_interval) ∷ []) ≡ Ok x
at_alone x a b c h =
    dot-zero_second a ((x, one_interval) ∷ []) ((b, zero_interval) ∷ (c, zero_interval) ∷ [])
    ∙ first_alone x b c ∙ one_second x h

pub outside_none : (f : Frame Interval) → IsNarrowVector f.at → outside intervals f (nothing (signs_of intervals)) ≡ Ok f.at
unfolding outside
outside_none f h = three_ok (at_alone f.at.x f.rot.x.x f.rot.x.y f.rot.x.z h.x) (at_alone f.at.y f.rot.y.x f.rot.y.y f.rot.y.z h.y) (at_alone f.at.z f.rot.z.x f.rot.z.y f.rot.z.z h.z)

-- ---- the place of a joint that turns
pub place_ok : (f : Frame Interval) (a : V3 Interval) (t : SineCosine Interval) (p : Symmetric Interval) (turn m : Table Interval)
    → axis_products intervals a ≡ Ok p
    → turn_about intervals a p t ≡ Ok turn → product intervals f.rot turn ≡ Ok m → IsNarrowVector f.at
    → place_turned intervals f a t ≡ Ok (record { e = transpose m; r = f.at })
unfolding place_turned place_of
place_ok f a t p turn m ep et em h = rw (ep, et, em, outside_none f h) refl

-- ---- as the code finds them
level_at : (k : Coordinate) (w p l : Interval) (t : SineCosine Interval) → IsNarrow t.cos.lo t.cos.hi → IsUnit w t.sin p l → (q : Symmetric Interval)
    → axis_products intervals (lone k w) ≡ Ok q
    → turn_about intervals (lone k w) q t ≡ Ok (turned_about k t.cos p l)
level_at k w p l t n u q e = rw (← (ap kept (sym (products_lone k w u.square) ∙ e))) (turn_lone k w p l t n u)

pub level_one : (a : V3 Interval) (t : SineCosine Interval) (k : Coordinate) (w s c l : Interval) → a ≡ lone k w → w ≡ one_interval
    → ◌≡◌ {A = SineCosine Interval} (record { sin = s; cos = c }) t
    → IsNarrow s.lo s.hi → IsNarrow c.lo c.hi → l ≡ negative_of s → IsLevel a t (record { about = k; cos = c; sin = s; less = l })
level_one a t k w s c l ea ew et ns nc el =
    rw (ea, ew, ← et, el) (record { turn = level_at k one_interval s (negative_of s) (record { sin = s; cos = c }) nc (unit_one s ns) })

pub level_minus : (a : V3 Interval) (t : SineCosine Interval) (k : Coordinate) (w s c l : Interval) → a ≡ lone k w → w ≡ minus_one
    → ◌≡◌ {A = SineCosine Interval} (record { sin = s; cos = c }) t
    → IsNarrow s.lo s.hi → IsNarrow c.lo c.hi → l ≡ negative_of s → IsLevel a t (record { about = k; cos = c; sin = l; less = s })
level_minus a t k w s c l ea ew et ns nc el =
    rw (ea, ew, ← et, el) (record { turn = level_at k minus_one (negative_of s) s (record { sin = s; cos = c }) nc (unit_minus s ns) })

pub row_x_is : (v r : V3 Interval) (t : LevelTurn) (vx vy vz y z : Interval) → t.about ≡ X → vx ≡ v.x → vy ≡ v.y → vz ≡ v.z → IsNarrow vx.lo vx.hi
    → iv_dot ((vy, t.cos) ∷ (vz, t.sin) ∷ []) ≡ Ok y → iv_dot ((vy, t.less) ∷ (vz, t.cos) ∷ []) ≡ Ok z → r ≡ vector vx y z
    → row_mul intervals v (transpose (level_table t)) ≡ Ok r
row_x_is v r t vx vy vz y z ek ex ey ez n e f er =
    ap (λ k. row_mul intervals v (transpose (turned_about k t.cos t.sin t.less))) ek
    ∙ row_x v t.cos t.sin t.less y z (rw (← ex) n) (rw (← ey, ← ez) e) (rw (← ey, ← ez) f) ∙ rw (er, ex) refl

pub row_y_is : (v r : V3 Interval) (t : LevelTurn) (vx vy vz x z : Interval) → t.about ≡ Y → vx ≡ v.x → vy ≡ v.y → vz ≡ v.z → IsNarrow vy.lo vy.hi
    → iv_dot ((vx, t.cos) ∷ (vz, t.less) ∷ []) ≡ Ok x → iv_dot ((vx, t.sin) ∷ (vz, t.cos) ∷ []) ≡ Ok z → r ≡ vector x vy z
    → row_mul intervals v (transpose (level_table t)) ≡ Ok r
row_y_is v r t vx vy vz x z ek ex ey ez n e f er =
    ap (λ k. row_mul intervals v (transpose (turned_about k t.cos t.sin t.less))) ek
    ∙ row_y v t.cos t.sin t.less x z (rw (← ey) n) (rw (← ex, ← ez) e) (rw (← ex, ← ez) f) ∙ rw (er, ey) refl

pub row_z_is : (v r : V3 Interval) (t : LevelTurn) (vx vy vz x y : Interval) → t.about ≡ Z → vx ≡ v.x → vy ≡ v.y → vz ≡ v.z → IsNarrow vz.lo vz.hi
    → iv_dot ((vx, t.cos) ∷ (vy, t.sin) ∷ []) ≡ Ok x → iv_dot ((vx, t.less) ∷ (vy, t.cos) ∷ []) ≡ Ok y → r ≡ vector x y vz
    → row_mul intervals v (transpose (level_table t)) ≡ Ok r
row_z_is v r t vx vy vz x y ek ex ey ez n e f er =
    ap (λ k. row_mul intervals v (transpose (turned_about k t.cos t.sin t.less))) ek
    ∙ row_z v t.cos t.sin t.less x y (rw (← ez) n) (rw (← ex, ← ey) e) (rw (← ex, ← ey) f) ∙ rw (er, ez) refl

pub times_zero : (a x : Interval) → a ≡ zero_interval → Ok zero_interval ≡ iv_dot ((a, x) ∷ [])
times_zero a x e = rw e (sym (none_first x))

pub times_one : (a x : Interval) → a ≡ one_interval → IsNarrow x.lo x.hi → Ok x ≡ iv_dot ((a, x) ∷ [])
times_one a x e n = rw e (sym (dot-one_first x n))

pub times_minus : (a x r : Interval) → a ≡ minus_one → IsNarrow x.lo x.hi → r ≡ negative_of x → Ok r ≡ iv_dot ((a, x) ∷ [])
times_minus a x r e n h = rw (e, h) (sym (dot-minus_first x n))

pub origin_is : (f f' : Frame Interval) → f' ≡ f → IsNarrowVector f'.at → Ok f'.at ≡ outside intervals f (nothing (signs_of intervals))
origin_is f f' e h = rw (← e) (sym (outside_none f' h))

pub level_place_is : (f f' : Frame Interval) (a : V3 Interval) (t : SineCosine Interval) (l : LevelTurn) (m e : Table Interval) → f' ≡ f → IsLevel a t l
    → product intervals f'.rot (level_table l) ≡ Ok m → IsNarrowVector f'.at → e ≡ transpose m → IsPlaceTurned f a t (record { e = e; r = f'.at })
level_place_is f f' a t l m e h k em n ee =
    rw (← h, ee) (record { place = λ p ep. place_ok f' a t p (level_table l) m ep (k.turn p ep) em n })

pub times_swapped : (a b : Interval) (r : Result Interval NumFault) → r ≡ iv_dot ((a, b) ∷ []) → r ≡ iv_dot ((b, a) ∷ [])
times_swapped a b r e = e ∙ dot-swapped a b

pub one_times : (x : Interval) → IsNarrow x.lo x.hi → Ok x ≡ iv_dot ((x, one_interval) ∷ [])
one_times x n = sym (one_second x n)

-- the product of a vector with one part alone
lone_pairs : (k : Coordinate) (w : Interval) (v : V3 Interval) → iv_dot ((w, along k v) ∷ []) ≡ iv_dot (pairs (lone k w) v)
lone_pairs X w v = sym (dot-zero_first v.y ((w, v.x) ∷ []) ((zero_interval, v.z) ∷ []) ∙ dot-zero_first v.z ((w, v.x) ∷ []) [])
lone_pairs Y w v = sym (dot-head_zero_first v.x ((w, v.y) ∷ (zero_interval, v.z) ∷ []) ∙ dot-zero_first v.z ((w, v.y) ∷ []) [])
lone_pairs Z w v = sym (dot-head_zero_first v.x ((zero_interval, v.y) ∷ (w, v.z) ∷ []) ∙ dot-head_zero_first v.y ((w, v.z) ∷ []))

pub lone_product : (a v : V3 Interval) (k : Coordinate) (w x : Interval) (r : Result Interval NumFault) → a ≡ lone k w → x ≡ along k v
    → r ≡ iv_dot ((w, x) ∷ [])
    → r ≡ iv_dot (pairs a v)
lone_product a v k w x r ea ex e = e ∙ ap (λ (y : Interval). iv_dot ((w, y) ∷ [])) ex ∙ lone_pairs k w v ∙ ap (λ (b : V3 Interval). iv_dot (pairs b v)) (sym ea)
