-- When a frame or a joint is refused: with `Range` exactly where an angle is out of range, and with `NotUnit` exactly where a squared length is
-- not near one.
use Rattle.std.proofs.Common.{◌≡◌, ◌≢◌, ◌↔◌, Bool, true, false, if◌then◌else◌, Result, Ok, Err, IsErr, IfErr, refl, ap}
use Rattle.rb_frac.specs.Ops.{V3}
use Rattle.rb_num.specs.declared.interval.NumFault.{NumFault}
use Rattle.rb_num.specs.Interval.{Interval}
use Rattle.rb_num.specs.Arith.{intervals}
use Rattle.rb_num.specs.Hull.{Meet, do_meet}
use Rattle.rb_num.proofs.Refused.{decides_meet}
use Rattle.rb_frac.specs.Tables.{Table}
use Rattle.rb_frac.specs.Spatial.{Place, Frame, SineCosine, Quaternion}
use Rattle.rb_trig.specs.declared.sine.AngleRange.{AngleRange}
use Rattle.rb_trig.specs.Sine.{IsAngle, sin_cos_of}
use Rattle.rb_trig.proofs.Results.{ranges}
use Rattle.rb_joint.specs.declared.faults.JointFault.{JointFault}
use Rattle.rb_joint.specs.declared.faults.JointFault.TheVariants.{Range, NotUnit, Size}
use Rattle.rb_joint.specs.Turns.{rotation}
use Rattle.rb_joint.specs.Models.{place_fixed, place_turned, place_along, place_level, place_free}
use Rattle.rb_joint.specs.Models.{near_one, IsNotOne, check_unit, square_of_pair, square_of_quaternion}
use Rattle.rb_result.specs.Steps.{◌>>=◌, told_as}
use Rattle.rb_joint.specs.Frames.{sine_cosine_of, frame_by, AreAngles}
use Rattle.rb_joint.specs.Models.{fixed_place, revolute_place, continuous_place, prismatic_place, planar_place, free_place}

abbrev AnswersBy : Interval → Result (SineCosine Interval) JointFault → Type 0
AnswersBy x (Ok t) = ¬ (¬ IsAngle x)
AnswersBy x (Err e) = (e ≡ Range) × (¬ IsAngle x)

turn_answers : (x : Interval) → AnswersBy x (sine_cosine_of x)
unfolding sine_cosine_of
turn_answers x = go (sin_cos_of x) (ranges x (sin_cos_of x) refl)
  where
    go : (r : Result (Interval × Interval) AngleRange) → IsErr r ↔ (¬ IsAngle x) → AnswersBy x (told_as (λ _. Range) r >>= λ p. Ok (record { sin = p.0; cos = p.1 }))
    go (Ok p) h = λ n. is_ok p (h.1 n)
      where
        is_ok : (p : Interval × Interval) → IsErr {E = AngleRange} (Ok p) → ⊥
        is_ok p k = cc
    go (Err e) h = (refl, h.0 refl)

-- a step of size is refused with `Size` alone
told_next : {A B : Type 0} (r : Result A NumFault) (f : A → B) (e : JointFault) → (told_as (λ _. Size) r >>= λ x. Ok (f x)) ≡ Err e → e ≡ Size
told_next (Ok x) f e h = cc
told_next (Err n) f e h = cc

told_alone : {A : Type 0} (r : Result A NumFault) (e : JointFault) → told_as (λ _. Size) r ≡ Err e → e ≡ Size
told_alone (Ok x) e h = cc
told_alone (Err n) e h = cc

no_range : {A : Type 0} (r : Result A NumFault) → (told_as (λ _. Size) r ≡ Err Range) ↔ ⊥
no_range r = (λ h. differ (told_alone r Range h), λ n. absurd n)
  where
    differ : Range ≡ Size → ⊥
    differ e = cc

no_unit : {A : Type 0} (r : Result A NumFault) → (told_as (λ _. Size) r ≡ Err NotUnit) ↔ ⊥
no_unit r = (λ h. differ (told_alone r NotUnit h), λ n. absurd n)
  where
    differ : NotUnit ≡ Size → ⊥
    differ e = cc

pub frame_range : (xyz rpy : V3 Interval) (r : Result (Frame Interval) JointFault) → r ≡ frame_by xyz rpy → (r ≡ Err Range) ↔ (¬ AreAngles rpy)
unfolding frame_by
frame_range xyz rpy r e =
    rw e (go (sine_cosine_of rpy.x) (sine_cosine_of rpy.y) (sine_cosine_of rpy.z) (turn_answers rpy.x) (turn_answers rpy.y) (turn_answers rpy.z))
  where
    differ : {A : Type 0} → Range ≡ Size → A
    differ e = cc

    posed : Table Interval → Result (Frame Interval) JointFault
    posed t = Ok (record { rot = t; at = xyz })

    go : (a b c : Result (SineCosine Interval) JointFault) → AnswersBy rpy.x a → AnswersBy rpy.y b → AnswersBy rpy.z c → ((a >>= λ roll. b >>= λ pitch. c >>= λ yaw. told_as (λ _. Size) (rotation intervals roll pitch yaw) >>= posed) ≡ Err Range) ↔ (¬ AreAngles rpy)
    go (Err e) b c h i j = (λ k n. h.1 n.roll, λ n. ap (λ (f : JointFault). Err f) h.0)
    go (Ok t) (Err e) c h i j = (λ k n. i.1 n.pitch, λ n. ap (λ (f : JointFault). Err f) i.0)
    go (Ok t) (Ok u) (Err e) h i j = (λ k n. j.1 n.yaw, λ n. ap (λ (f : JointFault). Err f) j.0)
    go (Ok t) (Ok u) (Ok v) h i j = (
      λ k. differ (told_next (rotation intervals t u v) (λ t. record { rot = t; at = xyz }) Range k),
      λ n. absurd (h (λ a. i (λ b. j (λ c. n (record { roll = a; pitch = b; yaw = c }))))),
    )

-- and never with `NotUnit`
pub frame_not_unit : (xyz rpy : V3 Interval) (r : Result (Frame Interval) JointFault) → r ≡ frame_by xyz rpy → IfErr r (λ e. e ≢ NotUnit)
unfolding frame_by
frame_not_unit xyz rpy r e =
    rw e (go (sine_cosine_of rpy.x) (sine_cosine_of rpy.y) (sine_cosine_of rpy.z) (turn_answers rpy.x) (turn_answers rpy.y) (turn_answers rpy.z))
  where
    range : (e : JointFault) → e ≡ Range → e ≢ NotUnit
    range e h k = cc

    size : {A B : Type 0} (r : Result A NumFault) (f : A → B) → IfErr {T = B} (told_as (λ _. Size) r >>= λ x. Ok (f x)) (λ e. e ≢ NotUnit)
    size (Ok x) f = tt
    size (Err n) f = λ h. cc

    go : (a b c : Result (SineCosine Interval) JointFault) → AnswersBy rpy.x a → AnswersBy rpy.y b → AnswersBy rpy.z c → IfErr {T = Frame Interval} (a >>= λ roll. b >>= λ pitch. c >>= λ yaw. told_as (λ _. Size) (rotation intervals roll pitch yaw) >>= λ t. Ok (record { rot = t; at = xyz })) (λ e. e ≢ NotUnit)
    go (Err e) b c h i j = range e h.0
    go (Ok t) (Err e) c h i j = range e i.0
    go (Ok t) (Ok u) (Err e) h i j = range e j.0
    go (Ok t) (Ok u) (Ok v) h i j = size (rotation intervals t u v) (λ t. record { rot = t; at = xyz })

-- ---- joints without a length
pub fixed_range : (f : Frame Interval) (r : Result (Place Interval) JointFault) → r ≡ fixed_place f → (r ≡ Err Range) ↔ ⊥
unfolding fixed_place
fixed_range f r e = rw e (no_range (place_fixed intervals f))

pub fixed_not_unit : (f : Frame Interval) (r : Result (Place Interval) JointFault) → r ≡ fixed_place f → (r ≡ Err NotUnit) ↔ ⊥
unfolding fixed_place
fixed_not_unit f r e = rw e (no_unit (place_fixed intervals f))

pub revolute_range : (f : Frame Interval) (a : V3 Interval) (x : Interval) (r : Result (Place Interval) JointFault) → r ≡ revolute_place f a x → (r ≡ Err Range) ↔ (¬ IsAngle x)
unfolding revolute_place
revolute_range f a x r e = rw e (go (sine_cosine_of x) (turn_answers x))
  where
    go : (r : Result (SineCosine Interval) JointFault) → AnswersBy x r → ((r >>= λ t. told_as (λ _. Size) (place_turned intervals f a t)) ≡ Err Range) ↔ (¬ IsAngle x)
    go (Ok t) h = (λ k. absurd ((no_range (place_turned intervals f a t)).0 k), λ n. absurd (h n))
    go (Err e) h = (λ k. h.1, λ n. ap (λ (f : JointFault). Err f) h.0)

pub revolute_not_unit : (f : Frame Interval) (a : V3 Interval) (x : Interval) (r : Result (Place Interval) JointFault) → r ≡ revolute_place f a x → (r ≡ Err NotUnit) ↔ ⊥
unfolding revolute_place
revolute_not_unit f a x r e = rw e (go (sine_cosine_of x) (turn_answers x))
  where
    go : (r : Result (SineCosine Interval) JointFault) → AnswersBy x r → ((r >>= λ t. told_as (λ _. Size) (place_turned intervals f a t)) ≡ Err NotUnit) ↔ ⊥
    go (Ok t) h = no_unit (place_turned intervals f a t)
    go (Err e) h = (λ k. let h0 : e ≡ Range = h.0 in cc, λ n. absurd n)

pub prismatic_range : (f : Frame Interval) (a : V3 Interval) (d : Interval) (r : Result (Place Interval) JointFault) → r ≡ prismatic_place f a d → (r ≡ Err Range) ↔ ⊥
unfolding prismatic_place
prismatic_range f a d r e = rw e (no_range (place_along intervals f a d))

pub prismatic_not_unit : (f : Frame Interval) (a : V3 Interval) (d : Interval) (r : Result (Place Interval) JointFault) → r ≡ prismatic_place f a d → (r ≡ Err NotUnit) ↔ ⊥
unfolding prismatic_place
prismatic_not_unit f a d r e = rw e (no_unit (place_along intervals f a d))

-- ---- joints with a length
-- the test of a squared length, and then a step of size
tested : {A : Type 0} → Result Interval NumFault → Result A NumFault → Result A JointFault
tested s x = check_unit s >>= λ _. told_as (λ _. Size) x

tested_not_unit : {A : Type 0} (s : Result Interval NumFault) (x : Result A NumFault) → (tested s x ≡ Err NotUnit) ↔ IsNotOne s
unfolding tested check_unit
tested_not_unit {A} (Ok s) x = go (do_meet s near_one) refl
  where
    apart : do_meet s near_one ≡ false → ¬ Meet s near_one
    apart e m = let h : do_meet s near_one ≡ true = (decides_meet s near_one).1 m in cc

    go : (b : Bool) → do_meet s near_one ≡ b → (((if b then Ok tt else Err NotUnit) >>= λ (_ : Unit {0}). told_as (λ _. Size) x) ≡ Err NotUnit) ↔ (¬ Meet s near_one)
    go true e = (λ h. absurd ((no_unit x).0 h), λ n. absurd (n ((decides_meet s near_one).0 e)))
    go false e = (λ h. apart e, λ n. refl)
tested_not_unit {A} (Err n) x = (λ h. cc, λ k. absurd k)

tested_range : {A : Type 0} (s : Result Interval NumFault) (x : Result A NumFault) → (tested s x ≡ Err Range) ↔ ⊥
unfolding tested check_unit
tested_range {A} (Ok s) x = go (do_meet s near_one)
  where
    go : (b : Bool) → (((if b then Ok tt else Err NotUnit) >>= λ (_ : Unit {0}). told_as (λ _. Size) x) ≡ Err Range) ↔ ⊥
    go true = no_range x
    go false = (λ h. cc, λ n. absurd n)
tested_range {A} (Err n) x = (λ h. cc, λ k. absurd k)

pub continuous_range : (f : Frame Interval) (a : V3 Interval) (t : SineCosine Interval) (r : Result (Place Interval) JointFault) → r ≡ continuous_place f a t → (r ≡ Err Range) ↔ ⊥
unfolding continuous_place tested
continuous_range f a t r e = rw e (tested_range (square_of_pair intervals t) (place_turned intervals f a t))

pub continuous_not_unit : (f : Frame Interval) (a : V3 Interval) (t : SineCosine Interval) (r : Result (Place Interval) JointFault) → r ≡ continuous_place f a t → (r ≡ Err NotUnit) ↔ IsNotOne (square_of_pair intervals t)
unfolding continuous_place tested
continuous_not_unit f a t r e = rw e (tested_not_unit (square_of_pair intervals t) (place_turned intervals f a t))

pub planar_range : (f : Frame Interval) (p : V3 Interval) (t : SineCosine Interval) (r : Result (Place Interval) JointFault) → r ≡ planar_place f p t → (r ≡ Err Range) ↔ ⊥
unfolding planar_place tested
planar_range f p t r e = rw e (tested_range (square_of_pair intervals t) (place_level intervals f p t))

pub planar_not_unit : (f : Frame Interval) (p : V3 Interval) (t : SineCosine Interval) (r : Result (Place Interval) JointFault) → r ≡ planar_place f p t → (r ≡ Err NotUnit) ↔ IsNotOne (square_of_pair intervals t)
unfolding planar_place tested
planar_not_unit f p t r e = rw e (tested_not_unit (square_of_pair intervals t) (place_level intervals f p t))

pub free_range : (f : Frame Interval) (p : V3 Interval) (q : Quaternion Interval) (r : Result (Place Interval) JointFault) → r ≡ free_place f p q → (r ≡ Err Range) ↔ ⊥
unfolding free_place tested
free_range f p q r e = rw e (tested_range (square_of_quaternion intervals q) (place_free intervals f p q))

pub free_not_unit : (f : Frame Interval) (p : V3 Interval) (q : Quaternion Interval) (r : Result (Place Interval) JointFault) → r ≡ free_place f p q → (r ≡ Err NotUnit) ↔ IsNotOne (square_of_quaternion intervals q)
unfolding free_place tested
free_not_unit f p q r e = rw e (tested_not_unit (square_of_quaternion intervals q) (place_free intervals f p q))
