-- What the rules mean at fractions: facts about vectors of six. Featherstone, Rigid Body Dynamics Algorithms, chapter 2.
use Rattle.std.specs.Prelude.{◌≡◌, ℕ, ◌<◌, ◌≤◌}
use Rattle.rb_frac.specs.Ops.{V3, vscale, sum as sum_below}
use Rattle.rb_frac.specs.Frac.{Frac, Same, fracs, neg, sub, add, mul}
use Rattle.rb_num.specs.Interval.{Interval}
use Rattle.rb_num.specs.Arith.{fractions}
use Rattle.rb_frac.specs.Tables.{Symmetric, Vectors}
use Rattle.rb_frac.specs.Spatial.{Motion, Force, Place, BodyInertia, Inertia, coordinate, entry, Motions, Forces}
use Rattle.rb_spatial.specs.Motions.{multiple, apply, apply_dual, cross, cross_dual, power}
use Rattle.rb_spatial.specs.Inertias.{table, times, sum, less_outer}
use Rattle.rb_spatial.specs.Carrying.{carry}
use Rattle.rb_frac.specs.Mechanics.{plus, scaled, opposite, combined, in_body, in_parent, motion_product, force_product, power_of, momentum, combined_bodies, body_of, needed}

-- ---- the rules as formulas of vectors
abbrev pub ApplyIsInBody : Type 0
ApplyIsInBody = (x : Place Frac) (m : Motion Frac) → Motions Same (apply fractions x m) (in_body fracs x m)

abbrev pub ApplyDualIsInParent : Type 0
ApplyDualIsInParent = (x : Place Frac) (f : Force Frac) → Forces Same (apply_dual fractions x f) (in_parent fracs x f)

abbrev pub CrossIsMotionProduct : Type 0
CrossIsMotionProduct = (a b : Motion Frac) → Motions Same (cross fractions a b) (motion_product fracs a b)

abbrev pub CrossDualIsForceProduct : Type 0
CrossDualIsForceProduct = (a : Motion Frac) (f : Force Frac) → Forces Same (cross_dual fractions a f) (force_product fracs a f)

abbrev pub MultipleIsScaled : Type 0
MultipleIsScaled = (k : Frac) (v : V3 Frac) → Vectors Same (multiple fractions k v) (vscale fracs k v)

abbrev pub PowerIsSum : Type 0
PowerIsSum = (m : Motion Frac) (f : Force Frac) → Same (power fractions m f) (power_of fracs m f)

-- the table of a body takes a motion to the body's momentum
abbrev pub TableGivesMomentum : Type 0
TableGivesMomentum = (i : BodyInertia Frac) (v : Motion Frac) → Forces Same (times fractions (table fractions i) v) (momentum fracs i v)

-- ---- duality and symmetry
-- a force has the same power at a motion in the body as the force in the parent has at the motion there
abbrev pub ApplyDuality : Type 0
ApplyDuality =
    (x : Place Frac) (m : Motion Frac) (f : Force Frac) → Same (power fractions (apply fractions x m) f) (power fractions m (apply_dual fractions x f))

abbrev pub CrossDuality : Type 0
CrossDuality =
    (v m : Motion Frac) (f : Force Frac) → Same (power fractions (cross fractions v m) f) (neg (power fractions m (cross_dual fractions v f)))

abbrev pub CrossIsAlternating : Type 0
CrossIsAlternating = (a b : Motion Frac) → Motions Same (cross fractions a b) (opposite fracs (cross fractions b a))

abbrev pub TimesIsSymmetric : Type 0
TimesIsSymmetric =
    (i : Inertia Frac) (m n : Motion Frac) → Same (power fractions m (times fractions i n)) (power fractions n (times fractions i m))

-- ---- the table of an inertia
abbrev pub EntryIsSymmetric : Type 0
EntryIsSymmetric = (i : Inertia Interval) (r c : ℕ) → r < 6 → c < 6 → entry i r c ≡ entry i c r

-- coordinate r of a product is the sum of the products of row r
abbrev pub TimesIsRows : Type 0
TimesIsRows =
    (i : Inertia Frac) (m : Motion Frac) (r : ℕ) → r < 6 → Same (coordinate (times fractions i m) r) (sum_below fracs 6 (λ c. mul (entry i r c) (coordinate m c)))

abbrev pub LessOuterEntry : Type 0
LessOuterEntry =
    (i : Inertia Frac) (u w : Force Frac) (r c : ℕ) → r ≤ c → c < 6 → Same (entry (less_outer fractions i u w) r c) (sub (entry i r c) (mul (coordinate u r) (coordinate w c)))

-- where w is a multiple of u: (I - u w^T) m = I m - (w . m) u
abbrev pub LessOuterTimes : Type 0
LessOuterTimes =
    (i : Inertia Frac) (u w : Force Frac) (m : Motion Frac) (k : Frac) → Forces Same w (scaled fracs k u) →
    Forces Same (times fractions (less_outer fractions i u w) m) (combined fracs (neg (power fractions m w)) u (times fractions i m))

-- a carried inertia takes a motion of the parent to the force that the inertia needs there
abbrev pub CarryIsCongruence : Type 0
CarryIsCongruence =
    (x : Place Frac) (i : Inertia Frac) (m : Motion Frac) → Forces Same (times fractions (carry fractions x i) m) (apply_dual fractions x (times fractions i (apply fractions x m)))

-- ---- the equation of motion of a body
abbrev pub NewtonEuler : Type 0
NewtonEuler =
    (m : Frac) (c : V3 Frac) (ic : Symmetric Frac) (v a : Motion Frac) →
    let i = table fractions (body_of fracs m c ic) in
    Forces Same (plus fracs (times fractions i a) (cross_dual fractions v (times fractions i v))) (needed fracs m c ic v a)

-- ---- linearity
abbrev pub ApplyIsLinear : Type 0
ApplyIsLinear =
    (x : Place Frac) (k : Frac) (m n : Motion Frac) → Motions Same (apply fractions x (combined fracs k m n)) (combined fracs k (apply fractions x m) (apply fractions x n))

abbrev pub ApplyDualIsLinear : Type 0
ApplyDualIsLinear =
    (x : Place Frac) (k : Frac) (f g : Force Frac) → Forces Same (apply_dual fractions x (combined fracs k f g)) (combined fracs k (apply_dual fractions x f) (apply_dual fractions x g))

abbrev pub CrossIsLinear : Type 0
CrossIsLinear =
    (a : Motion Frac) (k : Frac) (m n : Motion Frac) → Motions Same (cross fractions a (combined fracs k m n)) (combined fracs k (cross fractions a m) (cross fractions a n))

abbrev pub CrossDualIsLinear : Type 0
CrossDualIsLinear =
    (a : Motion Frac) (k : Frac) (f g : Force Frac) → Forces Same (cross_dual fractions a (combined fracs k f g)) (combined fracs k (cross_dual fractions a f) (cross_dual fractions a g))

abbrev pub TimesIsLinear : Type 0
TimesIsLinear =
    (i : Inertia Frac) (k : Frac) (m n : Motion Frac) → Forces Same (times fractions i (combined fracs k m n)) (combined fracs k (times fractions i m) (times fractions i n))

abbrev pub PowerIsLinear : Type 0
PowerIsLinear =
    (m : Motion Frac) (k : Frac) (f g : Force Frac) → Same (power fractions m (combined fracs k f g)) (add (mul k (power fractions m f)) (power fractions m g))

-- a sum of inertias takes a motion to the sum of the forces
abbrev pub SumIsAdditive : Type 0
SumIsAdditive =
    (i j : Inertia Frac) (m : Motion Frac) → Forces Same (times fractions (sum fractions i j) m) (plus fracs (times fractions i m) (times fractions j m))

-- the momentum is linear in the ten numbers of a body: mass, first moment and rotational inertia
abbrev pub TableIsLinear : Type 0
TableIsLinear =
    (k : Frac) (i j : BodyInertia Frac) (m : Motion Frac) →
    Forces Same (times fractions (table fractions (combined_bodies fracs k i j)) m) (combined fracs k (times fractions (table fractions i) m) (times fractions (table fractions j) m))

-- and so is what a body needs at a speed and an acceleration
abbrev pub NeededIsLinear : Type 0
NeededIsLinear =
    (k : Frac) (i j : BodyInertia Frac) (v a : Motion Frac) →
    let needs = λ (b : BodyInertia Frac). plus fracs (times fractions (table fractions b) a) (cross_dual fractions v (times fractions (table fractions b) v)) in
    Forces Same (needs (combined_bodies fracs k i j)) (combined fracs k (needs i) (needs j))
