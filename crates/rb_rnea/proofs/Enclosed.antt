-- What the equations of motion are made of lies in what the rules answer.
use Rattle.std.proofs.Common.{[], ◌∷◌, Result, Ok, Err, refl}
use Rattle.rb_result.specs.Steps.{◌>>=◌}
use Rattle.rb_frac.specs.Ops.{V3, vadd}
use Rattle.rb_frac.specs.Frac.{Frac, Same, fracs, add, mul}
use Rattle.rb_frac.specs.Pairs.{dot}
use Rattle.rb_frac.specs.Tables.{Symmetric}
use Rattle.rb_frac.specs.Spatial.{Spatial, Motion, Force, Place, BodyInertia, Spatials, Places, BodyInertias}
use Rattle.rb_frac.specs.Mechanics.{plus, in_body, in_parent, motion_product, power_of, body_of, needed}
use Rattle.rb_frac.proofs.Ring.{expr, var}
use Rattle.rb_frac.proofs.Hom.{frac_ring}
use Rattle.rb_frac.proofs.Variables.{at}
use Rattle.rb_num.specs.declared.interval.NumFault.{NumFault}
use Rattle.rb_num.specs.Interval.{Interval}
use Rattle.rb_num.specs.Dot.{iv_dot}
use Rattle.rb_num.specs.Refusing.{iv_add}
use Rattle.rb_num.specs.Fraction.{LiesIn}
use Rattle.rb_num.specs.Arith.{intervals}
use Rattle.rb_num.proofs.Same.{lies_in_same}
use Rattle.rb_num.proofs.Relates.{Met, dot_met, add_met}
use Rattle.rb_num.proofs.Bridges.{to_intervals}
use Rattle.rb_spatial.specs.Motions.{apply, apply_dual, cross, cross_dual, power, sum_spatial, sum_vector}
use Rattle.rb_spatial.specs.Inertias.{table, times}
use Rattle.rb_spatial.proofs.Keep.{apply_met, apply_dual_met, cross_met, cross_dual_met, power_met, sum_spatial_met, times_met, table_rel}
use Rattle.rb_spatial.proofs.Identities.{apply-in_body, apply_dual-in_parent, cross-motion_product, power-sum, newton-euler}
use Rattle.rb_joint.proofs.JointMotionLies.{spatials_same}

-- where there is an answer, the motion or the force lies in it
abbrev pub SpatialWithin : Spatial Frac → Result (Spatial Interval) NumFault → Type 0
SpatialWithin p n = Met to_intervals (Spatials LiesIn) p n

abbrev pub NumberWithin : Frac → Result Interval NumFault → Type 0
NumberWithin x n = Met to_intervals LiesIn x n

-- ---- steps
pub then_lies : {A B C D : Type 0} {r : A → B → Type 0} {s : C → D → Type 0} {m : A} {x : C} {n : Result B NumFault} {g : B → Result D NumFault}
    → Met to_intervals r m n → ((b : B) → r m b → Met to_intervals s x (g b)) → Met to_intervals s x (n >>= g)
then_lies {n = Ok b} h k = k b h.met
then_lies {n = Err e} h k = record { met = tt }

pub spatial_same : {p q : Spatial Frac} {n : Result (Spatial Interval) NumFault} → Spatials Same p q → SpatialWithin p n → SpatialWithin q n
spatial_same {n = Ok v} e h = record { met = spatials_same e h.met }
spatial_same {n = Err f} e h = record { met = tt }

pub number_same : {x y : Frac} {n : Result Interval NumFault} → Same x y → NumberWithin x n → NumberWithin y n
number_same {x = x} {y = y} {n = Ok v} e h = record { met = lies_in_same x y v e h.met }
number_same {n = Err f} e h = record { met = tt }

-- ---- motions and forces
pub plus_lies : {a b : Spatial Frac} {v w : Spatial Interval} → Spatials LiesIn a v → Spatials LiesIn b w → SpatialWithin (plus fracs a b) (sum_spatial intervals v w)
unfolding plus sum_spatial sum_vector vadd
plus_lies ha hb = sum_spatial_met to_intervals ha hb

pub in_body_lies : {x : Place Frac} {p : Place Interval} {a : Motion Frac} {v : Motion Interval} → Places LiesIn x p → Spatials LiesIn a v → SpatialWithin (in_body fracs x a) (apply intervals p v)
in_body_lies {x = x} {a = a} hx ha = spatial_same (apply-in_body x a) (apply_met to_intervals hx ha)

pub in_parent_lies : {x : Place Frac} {p : Place Interval} {f : Force Frac} {v : Force Interval} → Places LiesIn x p → Spatials LiesIn f v → SpatialWithin (in_parent fracs x f) (apply_dual intervals p v)
in_parent_lies {x = x} {f = f} hx hf = spatial_same (apply_dual-in_parent x f) (apply_dual_met to_intervals hx hf)

pub product_lies : {a b : Motion Frac} {v w : Motion Interval} → Spatials LiesIn a v → Spatials LiesIn b w → SpatialWithin (motion_product fracs a b) (cross intervals v w)
product_lies {a = a} {b = b} ha hb = spatial_same (cross-motion_product a b) (cross_met to_intervals ha hb)

pub power_lies : {m : Motion Frac} {f : Force Frac} {v w : Spatial Interval} → Spatials LiesIn m v → Spatials LiesIn f w → NumberWithin (power_of fracs m f) (power intervals v w)
power_lies {m = m} {f = f} hm hf = number_same (power-sum m f) (power_met to_intervals hm hf)

-- what a body needs
pub needed_lies : (m : Frac) (c : V3 Frac) (ic : Symmetric Frac) {i : BodyInertia Interval} {v a : Motion Frac} {x y : Motion Interval}
    → BodyInertias LiesIn (body_of fracs m c ic) i → Spatials LiesIn v x → Spatials LiesIn a y
    → SpatialWithin (needed fracs m c ic v a)
    (times intervals (table intervals i) y >>= λ f.
    times intervals (table intervals i) x >>= λ h.
    cross_dual intervals x h >>= λ g.
    sum_spatial intervals f g)
needed_lies m c ic {v = v} {a = a} hi hv ha =
    let ht = table_rel to_intervals hi in
    spatial_same (newton-euler m c ic v a)
    (then_lies (times_met to_intervals ht ha) (λ f hf.
    then_lies (times_met to_intervals ht hv) (λ h hh.
    then_lies (cross_dual_met to_intervals hv hh) (λ g hg.
    plus_lies hf hg))))

-- ---- numbers
pub sum_lies : {x y : Frac} {v w : Interval} → LiesIn x v → LiesIn y w → NumberWithin (add x y) (iv_add v w)
sum_lies hx hy = add_met to_intervals hx hy

product_alone : (x y : Frac) → Same (dot fracs ((x, y) ∷ [])) (mul x y)
unfolding dot
product_alone x y =
    frac_ring (at (x ∷ y ∷ [])) (expr.add (expr.mul (var 0) (var 1)) expr.nul) (expr.mul (var 0) (var 1)) refl

pub multiple_lies : {x y : Frac} {v w : Interval} → LiesIn x v → LiesIn y w → NumberWithin (mul x y) (iv_dot ((v, w) ∷ []))
multiple_lies {x = x} {y = y} {v = v} {w = w} hx hy =
    number_same (product_alone x y) (dot_met to_intervals ((x, y) ∷ []) ((v, w) ∷ []) (hx, hy, tt))
