-- Frames and joint models enclose the joint relation.
use Rattle.std.proofs.Common.{◌≡◌, ℕ, zero, suc, List, [], ◌∷◌, length, get_or, Result, Ok, Err, IfOk, refl, arith}
use Rattle.std.proofs.lemmas.Result.{IfOk-at_ok}
use Rattle.rb_frac.specs.Ops.{V3, signs, vscale}
use Rattle.rb_frac.specs.Frac.{Frac, Same, fracs}
use Rattle.rb_num.specs.Interval.{Interval}
use Rattle.rb_num.specs.Fraction.{LiesIn}
use Rattle.rb_num.specs.Arith.{intervals, signs_of}
use Rattle.rb_num.proofs.Same.{lies_in_same}
use Rattle.rb_num.proofs.Bridges.{to_intervals, ok_met}
use Rattle.rb_frac.specs.Spatial.{Motion, Place, Frame, Places, SineCosine, SineCosines, Quaternion, Quaternions}
use Rattle.rb_frac.specs.Tables.{Table, vector, nothing, identity, Vectors, Tables}
use Rattle.rb_trig.specs.declared.sine.AngleRange.{AngleRange}
use Rattle.rb_trig.specs.Sine.{sin_cos_of, Encloses}
use Rattle.rb_trig.proofs.Results.{result_encloses}
use Rattle.rb_flat.specs.Turns.{placed, about_z, about_axis, about_quaternion}
use Rattle.rb_flat.specs.Joint.{Fixed, Revolute, Continuous, Prismatic, Planar, Free, JointChoice, HasAngle, EntryHasAngle, along, around, chosen_frame, chosen_axis, chosen_place, chosen_column, joint_turn, joint_shift, joint_column}
use Rattle.rb_joint.specs.declared.faults.JointFault.{JointFault}
use Rattle.rb_joint.specs.declared.faults.JointFault.TheVariants.{Range, Size}
use Rattle.std.specs.List.{AllZip}
use Rattle.rb_joint.specs.Turns.{rotation}
use Rattle.rb_joint.specs.Models.{place_fixed, place_turned, place_along, place_level, place_free}
use Rattle.rb_result.specs.Steps.{◌>>=◌, told_as}
use Rattle.rb_joint.specs.Frames.{sine_cosine_of, frame_by, HasFrame, EnclosesFrame}
use Rattle.rb_joint.specs.Models.{entry_at, pair_from, level_shift, free_shift, free_turn, check_unit, square_of_pair, square_of_quaternion}
use Rattle.rb_joint.specs.Models.{fixed_place, revolute_place, continuous_place, prismatic_place, planar_place, free_place, planar_column, free_column}
use Rattle.rb_joint.specs.Model.{HasFrameAndAxis, EnclosesPlace, EnclosesColumn}
use Rattle.rb_joint.proofs.Keep.{place_fixed_met, place_turned_met, place_along_met, place_level_met, place_free_met, rotation_met, planar_rel, free_rel}
use Rattle.rb_joint.proofs.Identities.{place_fixed-placed, place_turned-placed, place_along-placed, place_level-placed, place_free-placed, rotation-product}

-- ---- what lies in a table, lies in it by any other form
pub vectors_same : {u v : V3 Frac} {w : V3 Interval} → Vectors Same u v → Vectors LiesIn u w → Vectors LiesIn v w
vectors_same s h = record { x = lies_in_same _ _ _ s.x h.x; y = lies_in_same _ _ _ s.y h.y; z = lies_in_same _ _ _ s.z h.z }

tables_same : {u v : Table Frac} {w : Table Interval} → Tables Same u v → Tables LiesIn u w → Tables LiesIn v w
tables_same s h = record { x = vectors_same s.x h.x; y = vectors_same s.y h.y; z = vectors_same s.z h.z }

places_same : {u v : Place Frac} {w : Place Interval} → Places Same u v → Places LiesIn u w → Places LiesIn v w
places_same s h = record { e = tables_same s.e h.e; r = vectors_same s.r h.r }

-- ---- steps
-- what the second step gives, for each answer of the first
next_ok : {A B : Type 0} (P : B → Type 0) (r : Result A JointFault) (f : A → Result B JointFault) → IfOk r (λ x. IfOk (f x) P) → IfOk (r >>= f) P
next_ok P (Ok x) f h = h
next_ok P (Err e) f h = tt

told_answer : {A E F : Type 0} (P : A → Type 0) (why : E → F) (r : Result A E) → ((x : A) → r ≡ Ok x → P x) → IfOk (told_as why r) P
told_answer P why (Ok x) f = f x refl
told_answer P why (Err e) f = tt

-- the pair of each angle in x lies in the turn by x
pair_lies : (x : Interval) → IfOk (sine_cosine_of x) (λ t. (y : Frac) (u : SineCosine Frac) → LiesIn y x → HasAngle y u → SineCosines LiesIn u t)
unfolding sine_cosine_of
pair_lies x = go (sin_cos_of x) (result_encloses x (sin_cos_of x) refl)
  where
    go : (r : Result (Interval × Interval) AngleRange) → IfOk r (Encloses x) → IfOk (told_as (λ _. Range) r >>= λ p. Ok (record { sin = p.0; cos = p.1 })) (λ t. (y : Frac) (u : SineCosine Frac) → LiesIn y x → HasAngle y u → SineCosines LiesIn u t)
    go (Ok p) h = λ y u l k. let b = h.at y u.sin u.cos l k in record { sin = b.0; cos = b.1 }
    go (Err e) h = tt

-- a fact of each answer, given another
if_ok : {A E : Type 0} (P Q : A → Type 0) (r : Result A E) → ((x : A) → Q x → P x) → IfOk r Q → IfOk r P
if_ok P Q (Ok x) f h = f x h
if_ok P Q (Err e) f h = tt

-- ---- frames
frame_encloses : (xyz rpy : V3 Interval) → IfOk (frame_by xyz rpy) (EnclosesFrame xyz rpy)
unfolding frame_by chosen_frame
frame_encloses xyz rpy =
    next_ok _ (sine_cosine_of rpy.x) _ (if_ok _ _ (sine_cosine_of rpy.x) (λ roll hr.
    next_ok _ (sine_cosine_of rpy.y) _ (if_ok _ _ (sine_cosine_of rpy.y) (λ pitch hp.
    next_ok _ (sine_cosine_of rpy.z) _ (if_ok _ _ (sine_cosine_of rpy.z) (λ yaw hy. rotated roll pitch yaw hr hp hy) (pair_lies rpy.z))) (pair_lies rpy.y))) (pair_lies rpy.x))
  where
    Lies : Interval → SineCosine Interval → Type 0
    Lies x t = (y : Frac) (u : SineCosine Frac) → LiesIn y x → HasAngle y u → SineCosines LiesIn u t

    rotated : (roll pitch yaw : SineCosine Interval) → Lies rpy.x roll → Lies rpy.y pitch → Lies rpy.z yaw → IfOk (told_as (λ _. Size) (rotation intervals roll pitch yaw) >>= λ r. Ok (record { rot = r; at = xyz })) (EnclosesFrame xyz rpy)
    rotated roll pitch yaw hr hp hy =
        next_ok _ (told_as (λ _. Size) (rotation intervals roll pitch yaw)) _ (told_answer _ _ (rotation intervals roll pitch yaw) (λ v e. record {
          at = λ c k o l. record {
            frame = record {
              rot = tables_same (rotation-product c.roll c.pitch c.yaw) (ok_met e (rotation_met to_intervals (hr _ _ l.x k.roll) (hp _ _ l.y k.pitch) (hy _ _ l.z k.yaw)));
              at = o;
            };
          };
        }))

-- ---- places
fixed_encloses : (f : Frame Interval) (q : List Interval) → IfOk (fixed_place f) (EnclosesPlace Fixed (HasFrame f) q)
unfolding fixed_place chosen_place joint_turn joint_shift
fixed_encloses f q =
    told_answer _ _ (place_fixed intervals f) (λ v e. record { at = λ c i h l. places_same (place_fixed-placed (chosen_frame c)) (ok_met e (place_fixed_met to_intervals h.frame)) })

-- ---- entries of a choice
chosen : List Frac → ℕ → Frac
chosen xs k = get_or xs k fracs.nul

-- entry k of a choice lies in that of the position, and zero lies in zero where there is none
entry_lies : (xs : List Frac) (q : List Interval) (k : ℕ) → AllZip LiesIn xs q → LiesIn (chosen xs k) (entry_at q k)
unfolding chosen
entry_lies [] [] k l = to_intervals.zero
entry_lies [] (y ∷ q) k l = absurd l
entry_lies (x ∷ xs) [] k l = absurd l
entry_lies (x ∷ xs) (y ∷ q) zero l = l.0
entry_lies (x ∷ xs) (y ∷ q) (suc k) l = entry_lies xs q k l.1

chosen_pair : List Frac → ℕ → SineCosine Frac
chosen_pair xs k = record { sin = chosen xs (suc k); cos = chosen xs k }

pair_lies_in : (xs : List Frac) (q : List Interval) (k : ℕ) → AllZip LiesIn xs q → SineCosines LiesIn (chosen_pair xs k) (pair_from q k)
unfolding chosen_pair
pair_lies_in xs q k l = record { sin = entry_lies xs q (suc k) l; cos = entry_lies xs q k l }

chosen_quaternion : List Frac → Quaternion Frac
chosen_quaternion xs = record { x = chosen xs 3; y = chosen xs 4; z = chosen xs 5; w = chosen xs 6 }

quaternion_lies : (xs : List Frac) (q : List Interval) → AllZip LiesIn xs q → Quaternions LiesIn (chosen_quaternion xs) (free_turn q)
unfolding chosen_quaternion
quaternion_lies xs q l = record { x = entry_lies xs q 3 l; y = entry_lies xs q 4 l; z = entry_lies xs q 5 l; w = entry_lies xs q 6 l }

-- the place of each kind, by its entries
chosen_continuous : (c : JointChoice) → length c.entries ≡ 2 → chosen_place Continuous c ≡ placed fracs (chosen_frame c) (about_axis fracs (chosen_axis c) (chosen_pair c.entries 0)) (nothing (signs fracs))
unfolding chosen_place joint_turn joint_shift chosen_pair chosen
chosen_continuous c h = go (chosen_frame c) (chosen_axis c) c.angle c.entries h
  where
    go : (f : Frame Frac) (a : V3 Frac) (t : SineCosine Frac) (xs : List Frac) → length xs ≡ 2 → placed fracs f (joint_turn fracs Continuous a t xs) (joint_shift fracs Continuous a xs) ≡ placed fracs f (about_axis fracs a (chosen_pair xs 0)) (nothing (signs fracs))
    go f a t (x0 ∷ (x1 ∷ [])) h = refl
    go f a t [] h = absurd (omega arith)
    go f a t (x0 ∷ []) h = absurd (omega arith)
    go f a t (x0 ∷ (x1 ∷ (x2 ∷ xs))) h = absurd (omega arith)

chosen_prismatic : (c : JointChoice) → length c.entries ≡ 1 → chosen_place Prismatic c ≡ placed fracs (chosen_frame c) (identity (signs fracs)) (vscale fracs (chosen c.entries 0) (chosen_axis c))
unfolding chosen_place joint_turn joint_shift chosen
chosen_prismatic c h = go (chosen_frame c) (chosen_axis c) c.angle c.entries h
  where
    go : (f : Frame Frac) (a : V3 Frac) (t : SineCosine Frac) (xs : List Frac) → length xs ≡ 1 → placed fracs f (joint_turn fracs Prismatic a t xs) (joint_shift fracs Prismatic a xs) ≡ placed fracs f (identity (signs fracs)) (vscale fracs (chosen xs 0) a)
    go f a t (x0 ∷ []) h = refl
    go f a t [] h = absurd (omega arith)
    go f a t (x0 ∷ (x1 ∷ xs)) h = absurd (omega arith)

chosen_planar : (c : JointChoice) → length c.entries ≡ 4 → chosen_place Planar c ≡ placed fracs (chosen_frame c) (about_z (signs fracs) (chosen_pair c.entries 2)) (vector (chosen c.entries 0) (chosen c.entries 1) fracs.nul)
unfolding chosen_place joint_turn joint_shift chosen_pair chosen
chosen_planar c h = go (chosen_frame c) (chosen_axis c) c.angle c.entries h
  where
    go : (f : Frame Frac) (a : V3 Frac) (t : SineCosine Frac) (xs : List Frac) → length xs ≡ 4 → placed fracs f (joint_turn fracs Planar a t xs) (joint_shift fracs Planar a xs) ≡ placed fracs f (about_z (signs fracs) (chosen_pair xs 2)) (vector (chosen xs 0) (chosen xs 1) fracs.nul)
    go f a t (x0 ∷ (x1 ∷ (x2 ∷ (x3 ∷ [])))) h = refl
    go f a t [] h = absurd (omega arith)
    go f a t (x0 ∷ []) h = absurd (omega arith)
    go f a t (x0 ∷ (x1 ∷ [])) h = absurd (omega arith)
    go f a t (x0 ∷ (x1 ∷ (x2 ∷ []))) h = absurd (omega arith)
    go f a t (x0 ∷ (x1 ∷ (x2 ∷ (x3 ∷ (x4 ∷ xs))))) h = absurd (omega arith)

chosen_free : (c : JointChoice) → length c.entries ≡ 7 → chosen_place Free c ≡ placed fracs (chosen_frame c) (about_quaternion fracs (chosen_quaternion c.entries)) (vector (chosen c.entries 0) (chosen c.entries 1) (chosen c.entries 2))
unfolding chosen_place joint_turn joint_shift chosen_quaternion chosen
chosen_free c h = go (chosen_frame c) (chosen_axis c) c.angle c.entries h
  where
    go : (f : Frame Frac) (a : V3 Frac) (t : SineCosine Frac) (xs : List Frac) → length xs ≡ 7 → placed fracs f (joint_turn fracs Free a t xs) (joint_shift fracs Free a xs) ≡ placed fracs f (about_quaternion fracs (chosen_quaternion xs)) (vector (chosen xs 0) (chosen xs 1) (chosen xs 2))
    go f a t (x0 ∷ (x1 ∷ (x2 ∷ (x3 ∷ (x4 ∷ (x5 ∷ (x6 ∷ []))))))) h = refl
    go f a t [] h = absurd (omega arith)
    go f a t (x0 ∷ []) h = absurd (omega arith)
    go f a t (x0 ∷ (x1 ∷ [])) h = absurd (omega arith)
    go f a t (x0 ∷ (x1 ∷ (x2 ∷ []))) h = absurd (omega arith)
    go f a t (x0 ∷ (x1 ∷ (x2 ∷ (x3 ∷ [])))) h = absurd (omega arith)
    go f a t (x0 ∷ (x1 ∷ (x2 ∷ (x3 ∷ (x4 ∷ []))))) h = absurd (omega arith)
    go f a t (x0 ∷ (x1 ∷ (x2 ∷ (x3 ∷ (x4 ∷ (x5 ∷ [])))))) h = absurd (omega arith)
    go f a t (x0 ∷ (x1 ∷ (x2 ∷ (x3 ∷ (x4 ∷ (x5 ∷ (x6 ∷ (x7 ∷ xs)))))))) h = absurd (omega arith)

-- the one entry of a revolute joint
angle_of : (xs : List Frac) (t : SineCosine Frac) → length xs ≡ 1 → EntryHasAngle Revolute xs t → HasAngle (chosen xs 0) t
unfolding chosen
angle_of (y ∷ []) t n h = h
angle_of [] t n h = absurd (omega arith)
angle_of (y ∷ (z ∷ ys)) t n h = absurd (omega arith)

revolute_encloses : (f : Frame Interval) (a : V3 Interval) (q : List Interval) → IfOk (revolute_place f a (entry_at q 0)) (EnclosesPlace Revolute (HasFrameAndAxis f a) q)
unfolding revolute_place chosen_place joint_turn joint_shift
revolute_encloses f a q =
    next_ok _ (sine_cosine_of (entry_at q 0)) _ (if_ok _ _ (sine_cosine_of (entry_at q 0)) (λ t ht. told_answer _ _ (place_turned intervals f a t) (λ v e. record {
      at = λ c i k l.
          places_same (place_turned-placed (chosen_frame c) (chosen_axis c) c.angle)
          (ok_met e (place_turned_met to_intervals k.frame k.axis (ht (chosen c.entries 0) c.angle (entry_lies c.entries q 0 l) (angle_of c.entries c.angle i.count i.angle))));
    })) (pair_lies (entry_at q 0)))

-- an answer after a test
after_ok : {A B : Type 0} (P : B → Type 0) (r : Result A JointFault) (x : Result B JointFault) → IfOk x P → IfOk (r >>= λ _. x) P
after_ok P (Ok a) x h = h
after_ok P (Err e) x h = tt

continuous_encloses : (f : Frame Interval) (a : V3 Interval) (q : List Interval) → IfOk (continuous_place f a (pair_from q 0)) (EnclosesPlace Continuous (HasFrameAndAxis f a) q)
unfolding continuous_place
continuous_encloses f a q =
    after_ok _ (check_unit (square_of_pair intervals (pair_from q 0))) _ (told_answer _ _ (place_turned intervals f a (pair_from q 0)) (λ v e. record {
      at = λ c i k l.
          rw (chosen_continuous c i.count)
          (places_same (place_turned-placed (chosen_frame c) (chosen_axis c) (chosen_pair c.entries 0)) (ok_met e (place_turned_met to_intervals k.frame k.axis (pair_lies_in c.entries q 0 l))));
    }))

prismatic_encloses : (f : Frame Interval) (a : V3 Interval) (q : List Interval) → IfOk (prismatic_place f a (entry_at q 0)) (EnclosesPlace Prismatic (HasFrameAndAxis f a) q)
unfolding prismatic_place
prismatic_encloses f a q =
    told_answer _ _ (place_along intervals f a (entry_at q 0)) (λ v e. record {
      at = λ c i k l.
          rw (chosen_prismatic c i.count)
          (places_same (place_along-placed (chosen_frame c) (chosen_axis c) (chosen c.entries 0)) (ok_met e (place_along_met to_intervals k.frame k.axis (entry_lies c.entries q 0 l))));
    })

planar_encloses : (f : Frame Interval) (q : List Interval) → IfOk (planar_place f (level_shift q) (pair_from q 2)) (EnclosesPlace Planar (HasFrame f) q)
unfolding planar_place
planar_encloses f q =
    after_ok _ (check_unit (square_of_pair intervals (pair_from q 2))) _ (told_answer _ _ (place_level intervals f (level_shift q) (pair_from q 2)) (λ v e. record {
      at = λ c i k l.
          rw (chosen_planar c i.count)
          (places_same (place_level-placed (chosen_frame c) (vector (chosen c.entries 0) (chosen c.entries 1) fracs.nul) (chosen_pair c.entries 2))
          (ok_met e (place_level_met to_intervals k.frame (record { x = entry_lies c.entries q 0 l; y = entry_lies c.entries q 1 l; z = to_intervals.zero }) (pair_lies_in c.entries q 2 l))));
    }))

free_encloses : (f : Frame Interval) (q : List Interval) → IfOk (free_place f (free_shift q) (free_turn q)) (EnclosesPlace Free (HasFrame f) q)
unfolding free_place
free_encloses f q =
    after_ok _ (check_unit (square_of_quaternion intervals (free_turn q))) _ (told_answer _ _ (place_free intervals f (free_shift q) (free_turn q)) (λ v e. record {
      at = λ c i k l.
          rw (chosen_free c i.count)
          (places_same (place_free-placed (chosen_frame c) (vector (chosen c.entries 0) (chosen c.entries 1) (chosen c.entries 2)) (chosen_quaternion c.entries))
          (ok_met e (place_free_met to_intervals k.frame (record { x = entry_lies c.entries q 0 l; y = entry_lies c.entries q 1 l; z = entry_lies c.entries q 2 l }) (quaternion_lies c.entries q l))));
    }))

-- ---- answers of these
pub frame_answer : (xyz rpy : V3 Interval) (r : Frame Interval) → frame_by xyz rpy ≡ Ok r → EnclosesFrame xyz rpy r
frame_answer xyz rpy r e = IfOk-at_ok _ e (frame_encloses xyz rpy)

pub fixed_answer : (f : Frame Interval) (q : List Interval) (p : Place Interval) → fixed_place f ≡ Ok p → EnclosesPlace Fixed (HasFrame f) q p
fixed_answer f q p e = IfOk-at_ok _ e (fixed_encloses f q)

pub revolute_answer : (f : Frame Interval) (a : V3 Interval) (q : List Interval) (p : Place Interval) → revolute_place f a (entry_at q 0) ≡ Ok p → EnclosesPlace Revolute (HasFrameAndAxis f a) q p
revolute_answer f a q p e = IfOk-at_ok _ e (revolute_encloses f a q)

pub continuous_answer : (f : Frame Interval) (a : V3 Interval) (q : List Interval) (p : Place Interval) → continuous_place f a (pair_from q 0) ≡ Ok p → EnclosesPlace Continuous (HasFrameAndAxis f a) q p
continuous_answer f a q p e = IfOk-at_ok _ e (continuous_encloses f a q)

pub prismatic_answer : (f : Frame Interval) (a : V3 Interval) (q : List Interval) (p : Place Interval) → prismatic_place f a (entry_at q 0) ≡ Ok p → EnclosesPlace Prismatic (HasFrameAndAxis f a) q p
prismatic_answer f a q p e = IfOk-at_ok _ e (prismatic_encloses f a q)

pub planar_answer : (f : Frame Interval) (q : List Interval) (p : Place Interval) → planar_place f (level_shift q) (pair_from q 2) ≡ Ok p → EnclosesPlace Planar (HasFrame f) q p
planar_answer f q p e = IfOk-at_ok _ e (planar_encloses f q)

pub free_answer : (f : Frame Interval) (q : List Interval) (p : Place Interval) → free_place f (free_shift q) (free_turn q) ≡ Ok p → EnclosesPlace Free (HasFrame f) q p
free_answer f q p e = IfOk-at_ok _ e (free_encloses f q)

-- ---- columns
pub revolute_column : (f : Frame Interval) (a : V3 Interval) (k : ℕ) (s : Motion Interval) → s ≡ around (signs_of intervals) a → EnclosesColumn Revolute (HasFrameAndAxis f a) k s
unfolding chosen_column joint_column
revolute_column f a k s e = record { at = λ c h. rw e (record { lin = record { x = to_intervals.zero; y = to_intervals.zero; z = to_intervals.zero }; ang = h.axis }) }

pub prismatic_column : (f : Frame Interval) (a : V3 Interval) (k : ℕ) (s : Motion Interval) → s ≡ along (signs_of intervals) a → EnclosesColumn Prismatic (HasFrameAndAxis f a) k s
unfolding chosen_column joint_column
prismatic_column f a k s e = record { at = λ c h. rw e (record { lin = h.axis; ang = record { x = to_intervals.zero; y = to_intervals.zero; z = to_intervals.zero } }) }

pub continuous_column : (f : Frame Interval) (a : V3 Interval) (k : ℕ) (s : Motion Interval) → s ≡ around (signs_of intervals) a → EnclosesColumn Continuous (HasFrameAndAxis f a) k s
unfolding chosen_column joint_column
continuous_column f a k s e = record { at = λ c h. rw e (record { lin = record { x = to_intervals.zero; y = to_intervals.zero; z = to_intervals.zero }; ang = h.axis }) }

pub planar_column_lies : (f : Frame Interval) (k : ℕ) (s : Motion Interval) → s ≡ planar_column k → EnclosesColumn Planar (HasFrame f) k s
unfolding chosen_column
planar_column_lies f k s e = record { at = λ c h. rw e (planar_rel to_intervals _ _ k) }

pub free_column_lies : (f : Frame Interval) (k : ℕ) (s : Motion Interval) → s ≡ free_column k → EnclosesColumn Free (HasFrame f) k s
unfolding chosen_column
free_column_lies f k s e = record { at = λ c h. rw e (free_rel to_intervals _ _ k) }
