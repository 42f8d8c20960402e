-- The motion over a joint: its columns, each times its rate. Featherstone, Rigid Body Dynamics Algorithms, chapter 3.
use Rattle.std.specs.Prelude.{ℕ, suc, ◌<◌, List, [], ◌∷◌, length, Result, Ok}
use Rattle.rb_result.specs.Steps.{◌>>=◌}
use Rattle.rb_frac.specs.Ops.{V3}
use Rattle.rb_frac.specs.Tables.{vector}
use Rattle.rb_frac.specs.Frac.{Frac, fracs}
use Rattle.rb_frac.specs.Mechanics.{scaled, power_of}
use Rattle.rb_frac.specs.Spatial.{Motion, Force, Motions, Forces}
use Rattle.rb_num.specs.declared.interval.NumFault.{NumFault}
use Rattle.rb_num.specs.Interval.{Interval, zero_interval, one_interval}
use Rattle.rb_num.specs.Fraction.{LiesIn}
use Rattle.rb_num.specs.Arith.{Arith, intervals, fractions, signs_of}
use Rattle.rb_num.specs.Dot.{iv_dot}
use Rattle.rb_spatial.specs.Motions.{three, two, multiple, power, cross3, cross}
use Rattle.rb_flat.specs.Dynamics.{spatial_sum}
use Rattle.rb_flat.specs.Joint.{JointChoice, chosen_column, along, around}
use Rattle.rb_joint.specs.declared.any.AnyJoint.{AnyJoint}
use Rattle.rb_joint.specs.Any.{kind_of, IsOfModel, any_column}
use Rattle.rb_joint.specs.Models.{entry_at}

-- the rates, each with this part of its column
abbrev pub part_pairs : {N : Type 0} → (ℕ → N) → List N → List (N × N)
part_pairs part [] = []
part_pairs part (x ∷ xs) = (x, part 0) ∷ part_pairs (λ k. part (suc k)) xs

module _ (R : Arith) where
  -- part by part, one sum of products
  unfoldable pub columns_motion : (ℕ → Motion R.N) → List R.N → R.M (Motion R.N)
  columns_motion column rates =
      two R
      (three R (R.dot (part_pairs (λ k. (column k).lin.x) rates)) (R.dot (part_pairs (λ k. (column k).lin.y) rates)) (R.dot (part_pairs (λ k. (column k).lin.z) rates)))
      (three R (R.dot (part_pairs (λ k. (column k).ang.x) rates)) (R.dot (part_pairs (λ k. (column k).ang.y) rates)) (R.dot (part_pairs (λ k. (column k).ang.z) rates)))

abbrev pub joint_motion : AnyJoint → List Interval → Result (Motion Interval) NumFault
joint_motion joint rates = columns_motion intervals (any_column joint) rates

abbrev pub joint_power : AnyJoint → ℕ → Force Interval → Result Interval NumFault
joint_power joint k f = power intervals (any_column joint k) f

-- how the motion over the joint changes as it moves along with the motion v
abbrev pub joint_turning : AnyJoint → Motion Interval → List Interval → Result (Motion Interval) NumFault
joint_turning joint v rates = joint_motion joint rates >>= λ j. cross intervals v j

-- ---- the same without the products of zeros
unfoldable pub along_axes : Interval → Interval → Interval → Result (V3 Interval) NumFault
along_axes x y z =
    three intervals (iv_dot ((x, one_interval) ∷ [])) (iv_dot ((y, one_interval) ∷ [])) (iv_dot ((z, one_interval) ∷ []))

unfoldable pub motion_around : V3 Interval → Interval → Result (Motion Interval) NumFault
motion_around a x = multiple intervals x a >>= λ u. Ok (around (signs_of intervals) u)

unfoldable pub motion_along : V3 Interval → Interval → Result (Motion Interval) NumFault
motion_along a x = multiple intervals x a >>= λ u. Ok (along (signs_of intervals) u)

unfoldable pub motion_level : Interval → Interval → Interval → Result (Motion Interval) NumFault
motion_level x y turn =
    iv_dot ((x, one_interval) ∷ []) >>= λ u.
    iv_dot ((y, one_interval) ∷ []) >>= λ v.
    iv_dot ((turn, one_interval) ∷ []) >>= λ w.
    Ok (record { lin = vector u v zero_interval; ang = vector zero_interval zero_interval w })

unfoldable pub turning_around : Motion Interval → V3 Interval → Interval → Result (Motion Interval) NumFault
turning_around v a x =
    multiple intervals x a >>= λ w. two intervals (cross3 intervals v.lin w) (cross3 intervals v.ang w)

unfoldable pub turning_along : Motion Interval → V3 Interval → Interval → Result (Motion Interval) NumFault
turning_along v a x =
    multiple intervals x a >>= λ u. cross3 intervals v.ang u >>= λ lin. Ok (along (signs_of intervals) lin)

-- ---- what encloses them
-- the sum of the columns of each choice, each times a number from its rate
pub record EnclosesMotion (joint : AnyJoint) (rates : List Interval) (m : Motion Interval) : Type 0 where
  pub at : (c : JointChoice) (rate : ℕ → Frac) → IsOfModel joint c → ((k : ℕ) → k < length rates → LiesIn (rate k) (entry_at rates k))
      → Motions LiesIn (spatial_sum fracs (length rates) (λ k. scaled fracs (rate k) (chosen_column (kind_of joint) c k))) m

-- the power of each force in f at column k of each choice
pub record EnclosesColumnPower (joint : AnyJoint) (k : ℕ) (f : Force Interval) (x : Interval) : Type 0 where
  pub at : (c : JointChoice) (p : Force Frac) → IsOfModel joint c → Forces LiesIn p f → LiesIn (power_of fracs (chosen_column (kind_of joint) c k) p) x

-- the product of each motion in v with the sum of the columns of each choice, each times a number from its rate
pub record EnclosesTurning (joint : AnyJoint) (v : Motion Interval) (rates : List Interval) (m : Motion Interval) : Type 0 where
  pub at : (c : JointChoice) (p : Motion Frac) (rate : ℕ → Frac) → IsOfModel joint c → Motions LiesIn p v → ((k : ℕ) → k < length rates → LiesIn (rate k) (entry_at rates k))
      → Motions LiesIn (cross fractions p (spatial_sum fracs (length rates) (λ k. scaled fracs (rate k) (chosen_column (kind_of joint) c k)))) m
