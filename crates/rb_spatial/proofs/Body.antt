-- The force of a body's inertia at a motion, without the products of the zeros in its table.
use Rattle.std.proofs.Common.{◌≡◌, Result, Ok, [], ◌∷◌, ◌∙◌, refl}
use Rattle.rb_frac.specs.Ops.{V3}
use Rattle.rb_frac.specs.Spatial.{Spatial, BodyInertia}
use Rattle.rb_num.specs.declared.interval.NumFault.{NumFault}
use Rattle.rb_num.specs.Interval.{Interval, zero_interval}
use Rattle.rb_num.specs.Dot.{iv_dot}
use Rattle.rb_num.specs.Arith.{intervals}
use Rattle.rb_num.proofs.Zeros.{dot-zero_first, dot-head_zero_first}
use Rattle.rb_spatial.specs.Motions.{pairs, six_pairs, three, two}
use Rattle.rb_spatial.specs.Inertias.{mul_both, table, times, body_force, body_moment}

abbrev vec : Interval → Interval → Interval → V3 Interval
vec x y z = record { x = x; y = y; z = z }

abbrev o : Interval
o = zero_interval

-- where one of three entries is not zero, and then two of three
first_last : (m p q : Interval) (u w : V3 Interval) → iv_dot (six_pairs (vec m o o) u (vec o p q) w) ≡ iv_dot ((m, u.x) ∷ (p, w.y) ∷ (q, w.z) ∷ [])
first_last m p q u w = dot-zero_first u.y ((m, u.x) ∷ []) _ ∙ dot-zero_first u.z ((m, u.x) ∷ []) _ ∙ dot-zero_first w.x ((m, u.x) ∷ []) _

second_outer : (m p q : Interval) (u w : V3 Interval) → iv_dot (six_pairs (vec o m o) u (vec p o q) w) ≡ iv_dot ((m, u.y) ∷ (p, w.x) ∷ (q, w.z) ∷ [])
second_outer m p q u w = dot-head_zero_first u.x _ ∙ dot-zero_first u.z ((m, u.y) ∷ []) _ ∙ dot-zero_first w.y ((m, u.y) ∷ (p, w.x) ∷ []) _

third_first : (m p q : Interval) (u w : V3 Interval) → iv_dot (six_pairs (vec o o m) u (vec p q o) w) ≡ iv_dot ((m, u.z) ∷ (p, w.x) ∷ (q, w.y) ∷ [])
third_first m p q u w = dot-head_zero_first u.x _ ∙ dot-head_zero_first u.y _ ∙ dot-zero_first w.z ((m, u.z) ∷ (p, w.x) ∷ (q, w.y) ∷ []) _

-- where two of three are not, and then all
without_x : (p q : Interval) (u c w : V3 Interval) → iv_dot (six_pairs (vec o p q) u c w) ≡ iv_dot ((p, u.y) ∷ (q, u.z) ∷ pairs c w)
without_x p q u c w = dot-head_zero_first u.x _

without_y : (p q : Interval) (u c w : V3 Interval) → iv_dot (six_pairs (vec p o q) u c w) ≡ iv_dot ((p, u.x) ∷ (q, u.z) ∷ pairs c w)
without_y p q u c w = dot-zero_first u.y ((p, u.x) ∷ []) _

without_z : (p q : Interval) (u c w : V3 Interval) → iv_dot (six_pairs (vec p q o) u c w) ≡ iv_dot ((p, u.x) ∷ (q, u.y) ∷ pairs c w)
without_z p q u c w = dot-zero_first u.z ((p, u.x) ∷ (q, u.y) ∷ []) _

three_same : {a b c d e f : Result Interval NumFault} → a ≡ d → b ≡ e → c ≡ f → three intervals a b c ≡ three intervals d e f
three_same p q r = rw (p, q, r) refl

two_same : {a b c d : Result (V3 Interval) NumFault} → a ≡ c → b ≡ d → two intervals a b ≡ two intervals c d
two_same p q = rw (p, q) refl

pub times_body : (i : BodyInertia Interval) (m : Spatial Interval) → times intervals (table intervals i) m ≡ two intervals (body_force intervals i m) (body_moment intervals i m)
unfolding times table mul_both body_force body_moment
times_body i m =
    two_same
    (three_same (first_last _ _ _ _ _) (second_outer _ _ _ _ _) (third_first _ _ _ _ _))
    (three_same (without_x _ _ _ _ _) (without_y _ _ _ _ _) (without_z _ _ _ _ _))

-- from its parts
pub body_found : (i : BodyInertia Interval) (m : Spatial Interval) (f n : V3 Interval) → body_force intervals i m ≡ Ok f → body_moment intervals i m ≡ Ok n
    → times intervals (table intervals i) m ≡ Ok (record { lin = f; ang = n })
body_found i m f n p q = times_body i m ∙ two_same p q
