-- The product of a motion with that over a joint, without the products of zeros.
use Rattle.std.proofs.Common.{◌≡◌, ℕ, [], ◌∷◌, List, length, Result, Ok, Err, refl, sym, ap, ◌∙◌}
use Rattle.rb_result.specs.Steps.{◌>>=◌}
use Rattle.rb_frac.specs.Ops.{V3}
use Rattle.rb_frac.specs.Tables.{nothing}
use Rattle.rb_frac.specs.Spatial.{Motion}
use Rattle.rb_num.specs.declared.interval.NumFault.{NumFault}
use Rattle.rb_num.specs.Interval.{Interval, zero_interval, negative_of}
use Rattle.rb_num.specs.Dot.{iv_dot}
use Rattle.rb_num.specs.Arith.{intervals, signs_of}
use Rattle.rb_num.proofs.Zeros.{dot-none, dot-zero_second, dot-head_zero_second}
use Rattle.rb_spatial.specs.Motions.{two, multiple, cross_twice, cross3, cross}
use Rattle.rb_flat.specs.Joint.{along, around}
use Rattle.rb_joint.specs.declared.level.Coordinate.{Coordinate}
use Rattle.rb_joint.specs.declared.level.Coordinate.TheVariants.{X, Y, Z}
use Rattle.rb_joint.specs.Level.{lone, crossed}
use Rattle.rb_joint.specs.Models.{entry_at}
use Rattle.rb_joint.specs.Columns.{columns_motion, motion_around, motion_along, turning_around, turning_along}
use Rattle.rb_joint.proofs.JointMotion.{three_same, two_same, around_one, along_one, none_zero}

-- of a sum of two products, one or both with zero
second_zero : (a p b : Interval) → iv_dot ((a, p) ∷ (b, zero_interval) ∷ []) ≡ iv_dot ((a, p) ∷ [])
second_zero a p b = dot-zero_second b ((a, p) ∷ []) []

first_zero : (a b p : Interval) → iv_dot ((a, zero_interval) ∷ (b, p) ∷ []) ≡ iv_dot ((b, p) ∷ [])
first_zero a b p = dot-head_zero_second a ((b, p) ∷ [])

both_zero : (a b : Interval) → iv_dot ((a, zero_interval) ∷ (b, zero_interval) ∷ []) ≡ Ok zero_interval
both_zero a b = first_zero a b zero_interval ∙ dot-head_zero_second b [] ∙ dot-none

pub crossed_lone : (k : Coordinate) (u : V3 Interval) (p : Interval) → crossed k u p ≡ cross3 intervals u (lone k p)
unfolding cross3
crossed_lone X u p = sym (three_same (both_zero u.y (negative_of u.z)) (second_zero u.z p (negative_of u.x)) (first_zero u.x (negative_of u.y) p))
crossed_lone Y u p = sym (three_same (first_zero u.y (negative_of u.z) p) (both_zero u.z (negative_of u.x)) (second_zero u.x p (negative_of u.y)))
crossed_lone Z u p = sym (three_same (second_zero u.y p (negative_of u.z)) (first_zero u.z (negative_of u.x) p) (both_zero u.x (negative_of u.y)))

-- ---- with a motion around an axis, and with one along it
twice_second : (a b c p d q : Interval) → iv_dot ((a, zero_interval) ∷ (b, zero_interval) ∷ (c, p) ∷ (d, q) ∷ []) ≡ iv_dot ((c, p) ∷ (d, q) ∷ [])
twice_second a b c p d q = dot-head_zero_second a ((b, zero_interval) ∷ (c, p) ∷ (d, q) ∷ []) ∙ dot-head_zero_second b ((c, p) ∷ (d, q) ∷ [])

twice_first : (a p b q c d : Interval) → iv_dot ((a, p) ∷ (b, q) ∷ (c, zero_interval) ∷ (d, zero_interval) ∷ []) ≡ iv_dot ((a, p) ∷ (b, q) ∷ [])
twice_first a p b q c d = dot-zero_second c ((a, p) ∷ (b, q) ∷ []) ((d, zero_interval) ∷ []) ∙ dot-zero_second d ((a, p) ∷ (b, q) ∷ []) []

cross_around : (v : Motion Interval) (w : V3 Interval)
    → cross intervals v (around (signs_of intervals) w) ≡ two intervals (cross3 intervals v.lin w) (cross3 intervals v.ang w)
unfolding cross cross_twice cross3
cross_around v w =
    two_same {b = cross3 intervals v.ang w}
    (three_same
    (twice_second v.ang.y (negative_of v.ang.z) v.lin.y w.z (negative_of v.lin.z) w.y)
    (twice_second v.ang.z (negative_of v.ang.x) v.lin.z w.x (negative_of v.lin.x) w.z)
    (twice_second v.ang.x (negative_of v.ang.y) v.lin.x w.y (negative_of v.lin.y) w.x))
    refl

cross_nothing : (u : V3 Interval) → cross3 intervals u (nothing (signs_of intervals)) ≡ Ok (nothing (signs_of intervals))
unfolding cross3
cross_nothing u = three_same (both_zero u.y (negative_of u.z)) (both_zero u.z (negative_of u.x)) (both_zero u.x (negative_of u.y))

cross_along : (v : Motion Interval) (u : V3 Interval)
    → cross intervals v (along (signs_of intervals) u) ≡ (cross3 intervals v.ang u >>= λ lin. Ok (along (signs_of intervals) lin))
unfolding cross cross_twice cross3
cross_along v u =
    two_same
    (three_same
    (twice_first v.ang.y u.z (negative_of v.ang.z) u.y v.lin.y (negative_of v.lin.z))
    (twice_first v.ang.z u.x (negative_of v.ang.x) u.z v.lin.z (negative_of v.lin.x))
    (twice_first v.ang.x u.y (negative_of v.ang.y) u.x v.lin.x (negative_of v.lin.y)))
    (cross_nothing v.ang)

-- ---- and where the motion may be refused
around_then : (v : Motion Interval) (r : Result (V3 Interval) NumFault)
    → (r >>= λ w. two intervals (cross3 intervals v.lin w) (cross3 intervals v.ang w)) ≡ ((r >>= λ u. Ok (around (signs_of intervals) u)) >>= λ j. cross intervals v j)
around_then v (Ok w) = sym (cross_around v w)
around_then v (Err e) = refl

along_then : (v : Motion Interval) (r : Result (V3 Interval) NumFault)
    → (r >>= λ u. cross3 intervals v.ang u >>= λ lin. Ok (along (signs_of intervals) lin)) ≡ ((r >>= λ u. Ok (along (signs_of intervals) u)) >>= λ j. cross intervals v j)
along_then v (Ok u) = sym (cross_along v u)
along_then v (Err e) = refl

pub turning_around_is : (v : Motion Interval) (a : V3 Interval) (x : Interval) → turning_around v a x ≡ (motion_around a x >>= λ j. cross intervals v j)
unfolding turning_around motion_around
turning_around_is v a x = around_then v (multiple intervals x a)

pub turning_along_is : (v : Motion Interval) (a : V3 Interval) (x : Interval) → turning_along v a x ≡ (motion_along a x >>= λ j. cross intervals v j)
unfolding turning_along motion_along
turning_along_is v a x = along_then v (multiple intervals x a)

-- ---- as the code finds them
pub lone_crossed : (k j : Coordinate) (u : V3 Interval) (p : Interval) (r : Result (V3 Interval) NumFault) → k ≡ j → r ≡ crossed j u p
    → r ≡ cross3 intervals u (lone k p)
lone_crossed k j u p r ek e = e ∙ crossed_lone j u p ∙ ap (λ i. cross3 intervals u (lone i p)) (sym ek)

pub revolute_turning : (column : ℕ → Motion Interval) (a : V3 Interval) (s v : Motion Interval) (rates : List Interval) (r : Result (Motion Interval) NumFault)
    → column ≡ (λ k. around (signs_of intervals) a)
    → length rates ≡ 1 → s ≡ around (signs_of intervals) a → r ≡ turning_around v s.ang (entry_at rates 0)
    → r ≡ (columns_motion intervals column rates >>= λ j. cross intervals v j)
revolute_turning column a s v rates r is h es e =
    e ∙ ap (λ (t : Motion Interval). turning_around v t.ang (entry_at rates 0)) es ∙ turning_around_is v a (entry_at rates 0)
    ∙ ap (λ (m : Result (Motion Interval) NumFault). m >>= λ j. cross intervals v j) (around_one a rates h ∙ ap (λ f. columns_motion intervals f rates) (sym is))

pub prismatic_turning : (column : ℕ → Motion Interval) (a : V3 Interval) (s v : Motion Interval) (rates : List Interval) (r : Result (Motion Interval) NumFault)
    → column ≡ (λ k. along (signs_of intervals) a)
    → length rates ≡ 1 → s ≡ along (signs_of intervals) a → r ≡ turning_along v s.lin (entry_at rates 0)
    → r ≡ (columns_motion intervals column rates >>= λ j. cross intervals v j)
prismatic_turning column a s v rates r is h es e =
    e ∙ ap (λ (t : Motion Interval). turning_along v t.lin (entry_at rates 0)) es ∙ turning_along_is v a (entry_at rates 0)
    ∙ ap (λ (m : Result (Motion Interval) NumFault). m >>= λ j. cross intervals v j) (along_one a rates h ∙ ap (λ f. columns_motion intervals f rates) (sym is))

still : (v : Motion Interval)
    → Ok (along (signs_of intervals) (nothing (signs_of intervals))) ≡ cross intervals v (along (signs_of intervals) (nothing (signs_of intervals)))
still v = sym (cross_along v (nothing (signs_of intervals)) ∙ ap (λ (r : Result (V3 Interval) NumFault). r >>= λ lin. Ok (along (signs_of intervals) lin)) (cross_nothing v.ang))

pub fixed_turning : (column : ℕ → Motion Interval) (v : Motion Interval) (a b : V3 Interval) (rates : List Interval)
    → a ≡ nothing (signs_of intervals) → b ≡ nothing (signs_of intervals) → length rates ≡ 0
    → Ok (record { lin = a; ang = b }) ≡ (columns_motion intervals column rates >>= λ j. cross intervals v j)
fixed_turning column v a b rates ea eb h =
    rw (ea, eb) (still v ∙ ap (λ (m : Result (Motion Interval) NumFault). m >>= λ j. cross intervals v j) (none_zero column rates h))
