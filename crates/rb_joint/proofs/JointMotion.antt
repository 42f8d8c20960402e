-- The motion over a joint without the products of zeros, and what it encloses.
use Rattle.std.proofs.Common.{◌≡◌, ℕ, zero, suc, ◌-◌, ◌<◌, ◌≤◌, List, [], ◌∷◌, ◌++◌, length, Result, Ok, Err, refl, sym, ap, ◌∙◌, arith}
use Rattle.rb_result.specs.Steps.{◌>>=◌}
use Rattle.rb_frac.specs.Ops.{V3}
use Rattle.rb_frac.specs.Tables.{component, unit, nothing}
use Rattle.rb_frac.specs.Spatial.{Motion, Force}
use Rattle.rb_num.specs.declared.interval.NumFault.{NumFault}
use Rattle.rb_num.specs.Interval.{Interval, zero_interval, one_interval}
use Rattle.rb_num.specs.Arith.{intervals, signs_of}
use Rattle.rb_num.specs.Dot.{iv_dot}
use Rattle.rb_num.proofs.Zeros.{dot-none, dot-zero_first, dot-zero_second, dot-head_zero_second}
use Rattle.rb_spatial.specs.Motions.{pairs, three, two, multiple, power}
use Rattle.rb_flat.specs.Joint.{along, around, joint_column}
use Rattle.rb_joint.specs.Models.{entry_at, planar_column, free_column}
use Rattle.rb_joint.specs.Columns.{columns_motion, along_axes, motion_around, motion_along, motion_level}

-- ---- motions
-- of no products, and of a zero alone
no_product : (x : Interval) → iv_dot ((x, zero_interval) ∷ []) ≡ Ok zero_interval
no_product x = dot-head_zero_second x [] ∙ dot-none

three_zeros : (a b c : Result Interval NumFault) → a ≡ Ok zero_interval → b ≡ Ok zero_interval → c ≡ Ok zero_interval
    → three intervals a b c ≡ Ok (nothing (signs_of intervals))
three_zeros a b c ea eb ec = rw (ea, eb, ec) refl

two_lin : (a : Result (V3 Interval) NumFault) (b : Result (V3 Interval) NumFault) → a ≡ Ok (nothing (signs_of intervals)) → (b >>= λ u. Ok (around (signs_of intervals) u)) ≡ two intervals a b
two_lin a b e = rw e refl

two_ang : (a : Result (V3 Interval) NumFault) (b : Result (V3 Interval) NumFault) → b ≡ Ok (nothing (signs_of intervals)) → (a >>= λ u. Ok (along (signs_of intervals) u)) ≡ two intervals a b
two_ang a b e = rw e refl

pub around_one : (a : V3 Interval) (rates : List Interval) → length rates ≡ 1 → motion_around a (entry_at rates 0) ≡ columns_motion intervals (λ k. around (signs_of intervals) a) rates
unfolding motion_around columns_motion multiple
around_one a (x ∷ []) h = two_lin _ _ (three_zeros _ _ _ (no_product x) (no_product x) (no_product x))
around_one a [] h = absurd (omega arith)
around_one a (x ∷ (y ∷ ys)) h = absurd (omega arith)

pub along_one : (a : V3 Interval) (rates : List Interval) → length rates ≡ 1 → motion_along a (entry_at rates 0) ≡ columns_motion intervals (λ k. along (signs_of intervals) a) rates
unfolding motion_along columns_motion multiple
along_one a (x ∷ []) h = two_ang _ _ (three_zeros _ _ _ (no_product x) (no_product x) (no_product x))
along_one a [] h = absurd (omega arith)
along_one a (x ∷ (y ∷ ys)) h = absurd (omega arith)

-- a product with one between those with zero
pub first_alone : (x y z : Interval) → iv_dot ((x, one_interval) ∷ (y, zero_interval) ∷ (z, zero_interval) ∷ []) ≡ iv_dot ((x, one_interval) ∷ [])
first_alone x y z = dot-zero_second y ((x, one_interval) ∷ []) ((z, zero_interval) ∷ []) ∙ dot-zero_second z ((x, one_interval) ∷ []) []

pub second_alone : (x y z : Interval) → iv_dot ((x, zero_interval) ∷ (y, one_interval) ∷ (z, zero_interval) ∷ []) ≡ iv_dot ((y, one_interval) ∷ [])
second_alone x y z = dot-head_zero_second x ((y, one_interval) ∷ (z, zero_interval) ∷ []) ∙ dot-zero_second z ((y, one_interval) ∷ []) []

pub third_alone : (x y z : Interval) → iv_dot ((x, zero_interval) ∷ (y, zero_interval) ∷ (z, one_interval) ∷ []) ≡ iv_dot ((z, one_interval) ∷ [])
third_alone x y z = dot-head_zero_second x ((y, zero_interval) ∷ (z, one_interval) ∷ []) ∙ dot-head_zero_second y ((z, one_interval) ∷ [])

none_alone : (x y z : Interval) → iv_dot ((x, zero_interval) ∷ (y, zero_interval) ∷ (z, zero_interval) ∷ []) ≡ Ok zero_interval
none_alone x y z = dot-head_zero_second x ((y, zero_interval) ∷ (z, zero_interval) ∷ []) ∙ dot-head_zero_second y ((z, zero_interval) ∷ []) ∙ no_product z

-- six, of which the first or the last three are with zero
left_out : (x : Interval × Interval) (ps qs : List (Interval × Interval)) → x.1 ≡ zero_interval → iv_dot (ps ++ x ∷ qs) ≡ iv_dot (ps ++ qs)
left_out (a, b) ps qs e = rw e (dot-zero_second a ps qs)

three_ahead : (p q r x y z : Interval × Interval) → x.1 ≡ zero_interval → y.1 ≡ zero_interval → z.1 ≡ zero_interval
    → iv_dot (p ∷ q ∷ r ∷ x ∷ y ∷ z ∷ []) ≡ iv_dot (p ∷ q ∷ r ∷ [])
three_ahead p q r x y z ex ey ez =
    left_out x (p ∷ q ∷ r ∷ []) (y ∷ z ∷ []) ex ∙ left_out y (p ∷ q ∷ r ∷ []) (z ∷ []) ey ∙ left_out z (p ∷ q ∷ r ∷ []) [] ez

three_behind : (p q r x y z : Interval × Interval) → p.1 ≡ zero_interval → q.1 ≡ zero_interval → r.1 ≡ zero_interval
    → iv_dot (p ∷ q ∷ r ∷ x ∷ y ∷ z ∷ []) ≡ iv_dot (x ∷ y ∷ z ∷ [])
three_behind p q r x y z ep eq er =
    left_out p [] (q ∷ r ∷ x ∷ y ∷ z ∷ []) ep ∙ left_out q [] (r ∷ x ∷ y ∷ z ∷ []) eq ∙ left_out r [] (x ∷ y ∷ z ∷ []) er

level_motion : (x y z : Interval) (dx dy dz : Result Interval NumFault) (a b : Result (V3 Interval) NumFault) → dx ≡ iv_dot ((x, one_interval) ∷ []) → dy ≡ iv_dot ((y, one_interval) ∷ []) → dz ≡ iv_dot ((z, one_interval) ∷ [])
    → a ≡ three intervals dx dy (Ok zero_interval) → b ≡ three intervals (Ok zero_interval) (Ok zero_interval) dz → motion_level x y z ≡ two intervals a b
unfolding motion_level
level_motion x y z (Ok u) (Ok v) (Ok w) a b ex ey ez ea eb = rw (ea, eb, ← ex, ← ey, ← ez) refl
level_motion x y z (Err e) dy dz a b ex ey ez ea eb = rw (ea, ← ex) refl
level_motion x y z (Ok u) (Err e) dz a b ex ey ez ea eb = rw (ea, ← ex, ← ey) refl
level_motion x y z (Ok u) (Ok v) (Err e) a b ex ey ez ea eb = rw (ea, eb, ← ex, ← ey, ← ez) refl

pub three_same : {a a' b b' c c' : Result Interval NumFault} → a ≡ a' → b ≡ b' → c ≡ c' → three intervals a b c ≡ three intervals a' b' c'
three_same ea eb ec = cc

pub level_three : (rates : List Interval) → length rates ≡ 3 → motion_level (entry_at rates 0) (entry_at rates 1) (entry_at rates 2) ≡ columns_motion intervals planar_column rates
unfolding columns_motion joint_column
level_three (x ∷ (y ∷ (z ∷ []))) h =
    level_motion x y z _ _ _ _ _ refl refl refl
    (three_same (first_alone x y z) (second_alone x y z) (none_alone x y z))
    (three_same (none_alone x y z) (none_alone x y z) (third_alone x y z))
level_three [] h = absurd (omega arith)
level_three (x ∷ []) h = absurd (omega arith)
level_three (x ∷ (y ∷ [])) h = absurd (omega arith)
level_three (x ∷ (y ∷ (z ∷ (w ∷ ws)))) h = absurd (omega arith)

pub two_same : {a a' b b' : Result (V3 Interval) NumFault} → a ≡ a' → b ≡ b' → two intervals a b ≡ two intervals a' b'
two_same ea eb = cc

pub free_six : (rates : List Interval) → length rates ≡ 6
    → two intervals (along_axes (entry_at rates 0) (entry_at rates 1) (entry_at rates 2)) (along_axes (entry_at rates 3) (entry_at rates 4) (entry_at rates 5)) ≡ columns_motion intervals free_column rates
unfolding along_axes columns_motion joint_column
free_six (a ∷ (b ∷ (c ∷ (x ∷ (y ∷ (z ∷ [])))))) h =
    two_same
    (three_same
    (sym (three_ahead _ _ _ (x, zero_interval) (y, zero_interval) (z, zero_interval) refl refl refl ∙ first_alone a b c))
    (sym (three_ahead _ _ _ (x, zero_interval) (y, zero_interval) (z, zero_interval) refl refl refl ∙ second_alone a b c))
    (sym (three_ahead _ _ _ (x, zero_interval) (y, zero_interval) (z, zero_interval) refl refl refl ∙ third_alone a b c)))
    (three_same
    (sym (three_behind (a, zero_interval) (b, zero_interval) (c, zero_interval) _ _ _ refl refl refl ∙ first_alone x y z))
    (sym (three_behind (a, zero_interval) (b, zero_interval) (c, zero_interval) _ _ _ refl refl refl ∙ second_alone x y z))
    (sym (three_behind (a, zero_interval) (b, zero_interval) (c, zero_interval) _ _ _ refl refl refl ∙ third_alone x y z)))
free_six [] h = absurd (omega arith)
free_six (a ∷ []) h = absurd (omega arith)
free_six (a ∷ (b ∷ [])) h = absurd (omega arith)
free_six (a ∷ (b ∷ (c ∷ []))) h = absurd (omega arith)
free_six (a ∷ (b ∷ (c ∷ (x ∷ [])))) h = absurd (omega arith)
free_six (a ∷ (b ∷ (c ∷ (x ∷ (y ∷ []))))) h = absurd (omega arith)
free_six (a ∷ (b ∷ (c ∷ (x ∷ (y ∷ (z ∷ (w ∷ ws))))))) h = absurd (omega arith)

-- a joint without columns
pub none_zero : (column : ℕ → Motion Interval) (rates : List Interval) → length rates ≡ 0 → Ok (along (signs_of intervals) (nothing (signs_of intervals))) ≡ columns_motion intervals column rates
unfolding columns_motion
none_zero column [] h = sym (two_same {b' = Ok (nothing (signs_of intervals))} (three_zeros _ _ _ dot-none dot-none dot-none) (three_zeros _ _ _ dot-none dot-none dot-none))
none_zero column (x ∷ xs) h = absurd (omega arith)

-- ---- powers
left_out_first : (x : Interval × Interval) (ps qs : List (Interval × Interval)) → x.0 ≡ zero_interval → iv_dot (ps ++ x ∷ qs) ≡ iv_dot (ps ++ qs)
left_out_first (a, b) ps qs e = rw e (dot-zero_first b ps qs)

pub power_around : (a : V3 Interval) (f : Force Interval) → iv_dot (pairs a f.ang) ≡ power intervals (around (signs_of intervals) a) f
unfolding power
power_around a f =
    sym
    (left_out_first (zero_interval, f.lin.x) [] ((zero_interval, f.lin.y) ∷ (zero_interval, f.lin.z) ∷ pairs a f.ang) refl
    ∙ left_out_first (zero_interval, f.lin.y) [] ((zero_interval, f.lin.z) ∷ pairs a f.ang) refl
    ∙ left_out_first (zero_interval, f.lin.z) [] (pairs a f.ang) refl)

pub power_along : (a : V3 Interval) (f : Force Interval) → iv_dot (pairs a f.lin) ≡ power intervals (along (signs_of intervals) a) f
unfolding power
power_along a f =
    sym
    (left_out_first (zero_interval, f.ang.x) (pairs a f.lin) ((zero_interval, f.ang.y) ∷ (zero_interval, f.ang.z) ∷ []) refl
    ∙ left_out_first (zero_interval, f.ang.y) (pairs a f.lin) ((zero_interval, f.ang.z) ∷ []) refl
    ∙ left_out_first (zero_interval, f.ang.z) (pairs a f.lin) [] refl)

pub part_unit : (v : V3 Interval) (k : ℕ) → k < 3 → iv_dot ((one_interval, component v k) ∷ []) ≡ iv_dot (pairs (unit (signs_of intervals) k) v)
part_unit v zero h = sym (left_out_first (zero_interval, v.y) ((one_interval, v.x) ∷ []) ((zero_interval, v.z) ∷ []) refl ∙ left_out_first (zero_interval, v.z) ((one_interval, v.x) ∷ []) [] refl)
part_unit v (suc zero) h = sym (left_out_first (zero_interval, v.x) [] ((one_interval, v.y) ∷ (zero_interval, v.z) ∷ []) refl ∙ left_out_first (zero_interval, v.z) ((one_interval, v.y) ∷ []) [] refl)
part_unit v (suc (suc zero)) h = sym (left_out_first (zero_interval, v.x) [] ((zero_interval, v.y) ∷ (one_interval, v.z) ∷ []) refl ∙ left_out_first (zero_interval, v.y) [] ((one_interval, v.z) ∷ []) refl)
part_unit v (suc (suc (suc k))) h = absurd (omega arith)

-- ---- of the models, whose columns are these
pub revolute_motion : (column : ℕ → Motion Interval) (a : V3 Interval) (s : Motion Interval) (rates : List Interval) (r : Result (Motion Interval) NumFault) → column ≡ (λ k. around (signs_of intervals) a)
    → length rates ≡ 1 → s ≡ around (signs_of intervals) a → r ≡ motion_around s.ang (entry_at rates 0) → r ≡ columns_motion intervals column rates
revolute_motion column a s rates r is h es e =
    e ∙ ap (λ (t : Motion Interval). motion_around t.ang (entry_at rates 0)) es ∙ around_one a rates h ∙ ap (λ j. columns_motion intervals j rates) (sym is)

pub prismatic_motion : (column : ℕ → Motion Interval) (a : V3 Interval) (s : Motion Interval) (rates : List Interval) (r : Result (Motion Interval) NumFault) → column ≡ (λ k. along (signs_of intervals) a)
    → length rates ≡ 1 → s ≡ along (signs_of intervals) a → r ≡ motion_along s.lin (entry_at rates 0) → r ≡ columns_motion intervals column rates
prismatic_motion column a s rates r is h es e =
    e ∙ ap (λ (t : Motion Interval). motion_along t.lin (entry_at rates 0)) es ∙ along_one a rates h ∙ ap (λ j. columns_motion intervals j rates) (sym is)

pub planar_motion : (column : ℕ → Motion Interval) (rates : List Interval) (r : Result (Motion Interval) NumFault) → column ≡ planar_column
    → length rates ≡ 3 → r ≡ motion_level (entry_at rates 0) (entry_at rates 1) (entry_at rates 2) → r ≡ columns_motion intervals column rates
planar_motion column rates r is h e = e ∙ level_three rates h ∙ ap (λ j. columns_motion intervals j rates) (sym is)

pub free_motion : (column : ℕ → Motion Interval) (rates : List Interval) (r : Result (Motion Interval) NumFault) → column ≡ free_column
    → length rates ≡ 6 → r ≡ two intervals (along_axes (entry_at rates 0) (entry_at rates 1) (entry_at rates 2)) (along_axes (entry_at rates 3) (entry_at rates 4) (entry_at rates 5)) → r ≡ columns_motion intervals column rates
free_motion column rates r is h e = e ∙ free_six rates h ∙ ap (λ j. columns_motion intervals j rates) (sym is)

pub revolute_power : (column : Motion Interval) (a : V3 Interval) (s : Motion Interval) (f : Force Interval) (r : Result Interval NumFault) → column ≡ around (signs_of intervals) a
    → s ≡ around (signs_of intervals) a → r ≡ iv_dot (pairs s.ang f.ang) → r ≡ power intervals column f
revolute_power column a s f r is es e = e ∙ ap (λ (t : Motion Interval). iv_dot (pairs t.ang f.ang)) es ∙ power_around a f ∙ ap (λ m. power intervals m f) (sym is)

pub prismatic_power : (column : Motion Interval) (a : V3 Interval) (s : Motion Interval) (f : Force Interval) (r : Result Interval NumFault) → column ≡ along (signs_of intervals) a
    → s ≡ along (signs_of intervals) a → r ≡ iv_dot (pairs s.lin f.lin) → r ≡ power intervals column f
prismatic_power column a s f r is es e = e ∙ ap (λ (t : Motion Interval). iv_dot (pairs t.lin f.lin)) es ∙ power_along a f ∙ ap (λ m. power intervals m f) (sym is)

-- ---- columns along and around the axes
pub planar_lin : (k : ℕ) (f : Force Interval) (r : Result Interval NumFault) → k < 2 → r ≡ iv_dot ((one_interval, component f.lin k) ∷ []) → r ≡ power intervals (planar_column k) f
unfolding joint_column
planar_lin zero f r h e = e ∙ part_unit f.lin 0 (omega arith) ∙ power_along (unit (signs_of intervals) 0) f
planar_lin (suc zero) f r h e = e ∙ part_unit f.lin 1 (omega arith) ∙ power_along (unit (signs_of intervals) 1) f
planar_lin (suc (suc k)) f r h e = absurd (omega arith)

pub planar_ang : (k : ℕ) (f : Force Interval) (r : Result Interval NumFault) → 2 ≤ k → k < 3 → r ≡ iv_dot ((one_interval, component f.ang 2) ∷ []) → r ≡ power intervals (planar_column k) f
unfolding joint_column
planar_ang zero f r l h e = absurd (omega arith)
planar_ang (suc zero) f r l h e = absurd (omega arith)
planar_ang (suc (suc zero)) f r l h e = e ∙ part_unit f.ang 2 (omega arith) ∙ power_around (unit (signs_of intervals) 2) f
planar_ang (suc (suc (suc k))) f r l h e = absurd (omega arith)

pub free_lin : (k : ℕ) (f : Force Interval) (r : Result Interval NumFault) → k < 3 → r ≡ iv_dot ((one_interval, component f.lin k) ∷ []) → r ≡ power intervals (free_column k) f
unfolding joint_column
free_lin zero f r h e = e ∙ part_unit f.lin 0 h ∙ power_along (unit (signs_of intervals) 0) f
free_lin (suc zero) f r h e = e ∙ part_unit f.lin 1 h ∙ power_along (unit (signs_of intervals) 1) f
free_lin (suc (suc zero)) f r h e = e ∙ part_unit f.lin 2 h ∙ power_along (unit (signs_of intervals) 2) f
free_lin (suc (suc (suc k))) f r h e = absurd (omega arith)

pub free_ang : (k : ℕ) (f : Force Interval) (r : Result Interval NumFault) → 3 ≤ k → k < 6 → r ≡ iv_dot ((one_interval, component f.ang (k - 3)) ∷ []) → r ≡ power intervals (free_column k) f
unfolding joint_column
free_ang zero f r l h e = absurd (omega arith)
free_ang (suc zero) f r l h e = absurd (omega arith)
free_ang (suc (suc zero)) f r l h e = absurd (omega arith)
free_ang (suc (suc (suc zero))) f r l h e = e ∙ part_unit f.ang 0 (omega arith) ∙ power_around (unit (signs_of intervals) 0) f
free_ang (suc (suc (suc (suc zero)))) f r l h e = e ∙ part_unit f.ang 1 (omega arith) ∙ power_around (unit (signs_of intervals) 1) f
free_ang (suc (suc (suc (suc (suc zero))))) f r l h e = e ∙ part_unit f.ang 2 (omega arith) ∙ power_around (unit (signs_of intervals) 2) f
free_ang (suc (suc (suc (suc (suc (suc k)))))) f r l h e = absurd (omega arith)

pub fixed_motion : (column : ℕ → Motion Interval) (u v : V3 Interval) (rates : List Interval) → u ≡ nothing (signs_of intervals) → v ≡ nothing (signs_of intervals) → length rates ≡ 0
    → Ok (record { lin = u; ang = v }) ≡ columns_motion intervals column rates
fixed_motion column u v rates eu ev h = rw (eu, ev) (none_zero column rates h)
