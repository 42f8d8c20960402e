-- The rates of a joint lie in the joint's intervals, and the motion over the joint in what its columns give.
use Rattle.std.proofs.Common.{◌≡◌, ℕ, zero, suc, ◌+◌, ◌-◌, ◌<◌, List, [], ◌∷◌, ◌++◌, length, take, Option, None, Some, Result, Ok, refl, sym, ap, ◌∙◌, subst, arith}
use Rattle.std.proofs.Math.Seq.{take-append_seam}
use Rattle.rb_result.specs.Steps.{◌>>=◌}
use Rattle.rb_frac.specs.Frac.{Frac, fracs, mul}
use Rattle.rb_frac.specs.Spatial.{Motion, Spatials}
use Rattle.rb_frac.specs.Mechanics.{scaled}
use Rattle.rb_num.specs.declared.interval.NumFault.{NumFault}
use Rattle.rb_num.specs.Interval.{Interval}
use Rattle.rb_num.specs.Dot.{iv_dot}
use Rattle.rb_num.specs.Fraction.{LiesIn}
use Rattle.rb_num.proofs.Relates.{Met}
use Rattle.rb_num.proofs.Bridges.{to_intervals, if_answer}
use Rattle.rb_flat.specs.Shape.{Shape, HasBody, HasColumn, ColumnsFit, MimicsFit, MayFollow}
use Rattle.rb_flat.specs.Joint.{Kind, column_count, chosen_column}
use Rattle.rb_flat.specs.Choice.{Choice, items_from}
use Rattle.rb_flat.specs.Mechanism.{mechanism_of}
use Rattle.rb_flat.specs.Dynamics.{spatial_sum, followed, joint_motion}
use Rattle.rb_flat.proofs.VirtualWork.{one_column}
use Rattle.rb_joint.specs.declared.any.AnyJoint.{AnyJoint}
use Rattle.rb_joint.specs.Any.{kind_of, IsOfModel}
use Rattle.rb_joint.specs.Columns as Columns
use Rattle.rb_joint.specs.Models.{entry_at}
use Rattle.rb_joint.proofs.JointMotionLies.{motion_lies}
use Rattle.rb_rnea.proofs.Enclosed.{SpatialWithin, then_lies, multiple_lies}

-- there are n rates, and each of these lies in its own
record AreRates (n : ℕ) (rate : ℕ → Frac) (rates : List Interval) : Type 0 where
  count : length rates ≡ n
  each : (k : ℕ) → k < n → LiesIn (rate k) (entry_at rates k)

-- the same of the first n of a list
pub record RatesLie (n : ℕ) (rate : ℕ → Frac) (rates : List Interval) : Type 0 where
  pub count : length (take n rates) ≡ n
  pub each : (k : ℕ) → k < n → LiesIn (rate k) (entry_at (take n rates) k)

in_front : (n : ℕ) (rate : ℕ → Frac) (xs ys : List Interval) → AreRates n rate xs → RatesLie n rate (xs ++ ys)
in_front n rate xs ys h =
    let taken : take n (xs ++ ys) ≡ xs = subst (λ (m : ℕ). take m (xs ++ ys) ≡ xs) h.count (take-append_seam xs ys) in
    record { count = ap length taken ∙ h.count; each = λ k l. subst (λ (zs : List Interval). LiesIn (rate k) (entry_at zs k)) (sym taken) (h.each k l) }

abbrev pub RatesWithin : ℕ → (ℕ → Frac) → Result (List Interval) NumFault → Type 0
RatesWithin n rate r = Met to_intervals (RatesLie n) rate r

own_lie : (numbers : ℕ → Interval) (place n : ℕ) (rate : ℕ → Frac) → ((k : ℕ) → k < n → LiesIn (rate k) (numbers (place + k))) → AreRates n rate (items_from numbers place n)
own_lie numbers place zero rate h = record { count = refl; each = λ k l. absurd (omega arith) }
own_lie numbers place (suc n) rate h =
    let e : place + 0 ≡ place = omega arith in
    let rest = own_lie numbers (suc place) n (λ k. rate (suc k)) (λ k l. behind k (h (suc k) (omega arith))) in
    record {
      count = ap suc rest.count;
      each = at_each (subst (λ (p : ℕ). LiesIn (rate 0) (numbers p)) e (h 0 (omega arith))) rest.each;
    }
  where
    behind : (k : ℕ) → LiesIn (rate (suc k)) (numbers (place + suc k)) → LiesIn (rate (suc k)) (numbers (suc place + k))
    behind k h = let e : place + suc k ≡ suc place + k = omega arith in subst (λ (p : ℕ). LiesIn (rate (suc k)) (numbers p)) e h

    at_each : LiesIn (rate 0) (numbers place) → ((k : ℕ) → k < n → LiesIn (rate (suc k)) (entry_at (items_from numbers (suc place) n) k))
        → (k : ℕ) → k < suc n → LiesIn (rate k) (entry_at (numbers place ∷ items_from numbers (suc place) n) k)
    at_each first rest zero l = first
    at_each first rest (suc k) l = rest k (omega arith)

followed_lie : (behind : List Interval → List Interval) (x y : Frac) (v w : Interval) (rate : ℕ → Frac) → LiesIn x v → LiesIn y w → rate 0 ≡ mul x y → RatesWithin 1 rate (iv_dot ((v, w) ∷ []) >>= λ z. Ok ((z ∷ []) ++ behind (z ∷ [])))
followed_lie behind x y v w rate hx hy e =
    then_lies (multiple_lies hx hy) (λ z hz. record { met = in_front 1 rate (z ∷ []) (behind (z ∷ [])) (record { count = refl; each = λ k l. alone k l z hz }) })
  where
    alone : (k : ℕ) → k < 1 → (z : Interval) → LiesIn (mul x y) z → LiesIn (rate k) (entry_at (z ∷ []) k)
    alone zero l z hz = subst (λ (t : Frac). LiesIn t z) (sym e) hz
    alone (suc k) l z hz = absurd (omega arith)

-- the rates of the joint of body i, which are its own or its master's times the multiplier; column c has the place c - 1
pub rates_lie : (shape : Shape) (i : ℕ) (multiplier : Frac) (rate : ℕ → Frac) (by : Interval) (numbers : ℕ → Interval) (behind : List Interval → List Interval) (r : Result (List Interval) NumFault)
    → ColumnsFit shape → MimicsFit shape → HasBody shape i
    → ((c : ℕ) → HasColumn shape c → LiesIn (rate c) (numbers (c - 1)))
    → ((master : ℕ) → shape.mimic i ≡ Some master → LiesIn multiplier by)
    → (shape.mimic i ≡ None → r ≡ Ok (let rates = items_from numbers (shape.first_column i - 1) (column_count (shape.kind i)) in rates ++ behind rates))
    → ((master : ℕ) → shape.mimic i ≡ Some master → r ≡ (iv_dot ((by, numbers (shape.first_column i - 1)) ∷ []) >>= λ x. Ok ((x ∷ []) ++ behind (x ∷ []))))
    → RatesWithin (column_count (shape.kind i)) (λ k. followed fracs (shape.mimic i) multiplier (rate (shape.first_column i + k))) r
rates_lie shape i multiplier rate by numbers behind r fit mimics has lies follows own its = go (shape.mimic i) refl
  where
    go : (mimic : Option ℕ) → shape.mimic i ≡ mimic → RatesWithin (column_count (shape.kind i)) (λ k. followed fracs mimic multiplier (rate (shape.first_column i + k))) r
    go None e =
        subst (λ (q : Result (List Interval) NumFault). RatesWithin (column_count (shape.kind i)) (λ k. rate (shape.first_column i + k)) q) (sym (own e))
        (record { met = in_front (column_count (shape.kind i)) (λ k. rate (shape.first_column i + k)) _ _ (own_lie numbers (shape.first_column i - 1) (column_count (shape.kind i)) (λ k. rate (shape.first_column i + k)) column) })
      where
        column : (k : ℕ) → k < column_count (shape.kind i) → LiesIn (rate (shape.first_column i + k)) (numbers (shape.first_column i - 1 + k))
        column k l =
            let there : HasColumn shape (shape.first_column i + k) = fit.there i k has l in
            let zeroth : HasColumn shape (shape.first_column i + 0) = fit.there i 0 has (omega arith) in
            let e : shape.first_column i + k - 1 ≡ shape.first_column i - 1 + k = omega arith in
            subst (λ (p : ℕ). LiesIn (rate (shape.first_column i + k)) (numbers p)) e (lies (shape.first_column i + k) there)
    go (Some master) e =
        let may : MayFollow shape i master = mimics i master has e in
        let one : column_count (shape.kind i) ≡ 1 = one_column (shape.kind i) may.entry in
        let zeroth : HasColumn shape (shape.first_column i + 0) = fit.there i 0 has (omega arith) in
        let same : shape.first_column i + 0 - 1 ≡ shape.first_column i - 1 = omega arith in
        subst (λ (m : ℕ). RatesWithin m (λ k. mul multiplier (rate (shape.first_column i + k))) r) (sym one)
        (subst (λ (q : Result (List Interval) NumFault). RatesWithin 1 (λ k. mul multiplier (rate (shape.first_column i + k))) q) (sym (its master e))
        (followed_lie behind multiplier (rate (shape.first_column i + 0)) by (numbers (shape.first_column i - 1)) (λ k. mul multiplier (rate (shape.first_column i + k))) (follows master e)
        (subst (λ (p : ℕ). LiesIn (rate (shape.first_column i + 0)) (numbers p)) same (lies (shape.first_column i + 0) zeroth)) refl))

-- the rate of column k of the joint of body i, from 0, and the sum of the first n columns of a joint of this kind, each times its rate
abbrev pub rate_of : Shape → Choice → (ℕ → Frac) → ℕ → ℕ → Frac
rate_of shape c rate i k = followed fracs (shape.mimic i) (c.joint i).multiplier (rate (shape.first_column i + k))

abbrev pub motion_of : Shape → Choice → (ℕ → Frac) → ℕ → ℕ → Kind → Motion Frac
motion_of shape c rate i n kind = spatial_sum fracs n (λ k. scaled fracs (rate_of shape c rate i k) (chosen_column kind (c.joint i) k))

-- the motion over the joint
pub motion_within : (shape : Shape) (c : Choice) (i : ℕ) (joint : AnyJoint) (rate : ℕ → Frac) (rates : List Interval)
    → kind_of joint ≡ shape.kind i → IsOfModel joint (c.joint i) → RatesLie (column_count (shape.kind i)) (rate_of shape c rate i) rates
    → SpatialWithin (joint_motion fracs shape (mechanism_of shape c) rate i) (Columns.joint_motion joint (take (column_count (kind_of joint)) rates))
unfolding joint_motion mechanism_of
motion_within shape c i joint rate rates kind model h =
    let first = take (column_count (shape.kind i)) rates in
    subst (λ (k : Kind). SpatialWithin (motion_of shape c rate i (column_count (shape.kind i)) (shape.kind i)) (Columns.joint_motion joint (take (column_count k) rates))) (sym kind)
    (record {
      met = if_answer (Columns.joint_motion joint first)
          (λ v. Spatials LiesIn (motion_of shape c rate i (column_count (shape.kind i)) (shape.kind i)) v)
          (λ v e.
          subst (λ (k : Kind). Spatials LiesIn (motion_of shape c rate i (column_count (shape.kind i)) k) v) kind
          (subst (λ (n : ℕ). Spatials LiesIn (motion_of shape c rate i n (kind_of joint)) v) h.count
          ((motion_lies joint first v e).at (c.joint i) (rate_of shape c rate i) model (λ k l. h.each k (omega (arith, h.count))))));
    })
