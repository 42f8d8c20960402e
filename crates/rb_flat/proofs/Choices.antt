-- A choice for each robot and state: the lower end of each bracket, and of each angle a pair that goes with it.
use Rattle.std.proofs.Common.{◌≡◌, ℕ, zero, suc, ◌+◌, ◌<◌, List, [], ◌∷◌, length, Option, None, Some, refl, sym, ap, subst, ◌∙◌, pos, arith}
use Rattle.std.specs.List.{AllZip}
use lib.Signed.{≤ℤ_refl}
use Rattle.rb_frac.specs.Ops.{V3}
use Rattle.rb_frac.specs.Frac.{Frac, add, mul, whole}
use Rattle.rb_frac.specs.Tables.{Symmetric, Vectors, Symmetrics, vector}
use Rattle.rb_frac.specs.Spatial.{SineCosine}
use Rattle.rb_frac.proofs.Reduce.{same_refl}
use Rattle.rb_num.specs.Interval.{Interval, grid}
use Rattle.rb_num.specs.Fraction.{LiesIn}
use Rattle.rb_num.specs.Least.{units}
use Rattle.rb_num.proofs.Order.{times_pos}
use Rattle.rb_num.proofs.Sine.{has_pair}
use Rattle.rb_flat.specs.Shape.{HasBody, HasColumn}
use Rattle.rb_flat.specs.Joint.{Kind, Fixed, Revolute, Continuous, Prismatic, Planar, Free, entry_count, JointChoice, HasAngle, HasAngles, EntryHasAngle}
use Rattle.rb_flat.specs.Body.{BodyChoice}
use Rattle.rb_flat.specs.Choice.{RobotBrackets, StateBrackets, Choice, items_from, EntriesChosen, BodyChosen, ColumnChosen, IsChoice, IsOrdered, AreOrdered, SixOrdered, IsRobotOrdered, IsStateOrdered, HasChoice}

-- ---- numbers
lowest : Interval → Frac
unfolding units
lowest v = units v.lo

lowest_lies : (v : Interval) → IsOrdered v → LiesIn (lowest v) v
unfolding lowest units
lowest_lies v h = record { above = times_pos v.lo v.lo grid (≤ℤ_refl v.lo); below = times_pos v.lo v.hi grid h }

abbrev lowest_vector : V3 Interval → V3 Frac
lowest_vector v = vector (lowest v.x) (lowest v.y) (lowest v.z)

vectors_lie : (v : V3 Interval) → AreOrdered v → Vectors LiesIn (lowest_vector v) v
vectors_lie v h = record { x = lowest_lies v.x h.x; y = lowest_lies v.y h.y; z = lowest_lies v.z h.z }

abbrev lowest_six : Symmetric Interval → Symmetric Frac
lowest_six s =
    record { xx = lowest s.xx; xy = lowest s.xy; xz = lowest s.xz; yy = lowest s.yy; yz = lowest s.yz; zz = lowest s.zz }

six_lie : (s : Symmetric Interval) → SixOrdered s → Symmetrics LiesIn (lowest_six s) s
six_lie s h = record {
  xx = lowest_lies s.xx h.xx;
  xy = lowest_lies s.xy h.xy;
  xz = lowest_lies s.xz h.xz;
  yy = lowest_lies s.yy h.yy;
  yz = lowest_lies s.yz h.yz;
  zz = lowest_lies s.zz h.zz;
}

abbrev pair_of : Frac → SineCosine Frac
pair_of t = record { sin = (has_pair t).0; cos = (has_pair t).1 }

pair_goes : (t : Frac) → HasAngle t (pair_of t)
pair_goes t = (has_pair t).2

angles_go : (v : V3 Frac) → HasAngles v (pair_of v.x) (pair_of v.y) (pair_of v.z)
angles_go v = record { roll = pair_goes v.x; pitch = pair_goes v.y; yaw = pair_goes v.z }

-- ---- entries
-- the first of a list, or zero
abbrev first_of : List Frac → Frac
first_of [] = whole (pos 0)
first_of (x ∷ xs) = x

one_item : (xs : List Frac) → length xs ≡ 1 → xs ≡ first_of xs ∷ []
one_item [] e = cc
one_item (x ∷ []) e = refl
one_item (x ∷ (y ∷ ys)) e = absurd (omega arith)

entry_goes : (k : Kind) (xs : List Frac) → EntryHasAngle k xs (pair_of (first_of xs))
entry_goes Revolute [] = tt
entry_goes Revolute (x ∷ []) = pair_goes x
entry_goes Revolute (x ∷ (y ∷ ys)) = tt
entry_goes Fixed xs = tt
entry_goes Continuous xs = tt
entry_goes Prismatic xs = tt
entry_goes Planar xs = tt
entry_goes Free xs = tt

lowest_items : (ℕ → Interval) → ℕ → ℕ → List Frac
lowest_items f place zero = []
lowest_items f place (suc n) = lowest (f place) ∷ lowest_items f (suc place) n

items_count : (f : ℕ → Interval) (place n : ℕ) → length (lowest_items f place n) ≡ n
unfolding lowest_items
items_count f place zero = refl
items_count f place (suc n) = ap suc (items_count f (suc place) n)

items_lie : (f : ℕ → Interval) (place n : ℕ) → ((k : ℕ) → k < n → IsOrdered (f (place + k))) → AllZip LiesIn (lowest_items f place n) (items_from f place n)
unfolding lowest_items
items_lie f place zero h = tt
items_lie f place (suc n) h = (lowest_lies (f place) here, items_lie f (suc place) n later)
  where
    here : IsOrdered (f place)
    here = let e : place + 0 ≡ place = omega arith in subst (λ (k : ℕ). IsOrdered (f k)) e (h 0 (omega arith))

    later : (k : ℕ) → k < n → IsOrdered (f (suc place + k))
    later k l = let e : place + suc k ≡ suc place + k = omega arith in subst (λ (j : ℕ). IsOrdered (f j)) e (h (suc k) (omega arith))

module _ (robot : RobotBrackets) (state : StateBrackets) where
  -- of a joint that leads, and of one that follows another
  leading : ℕ → List Frac
  leading i = lowest_items state.entry (robot.shape.first_entry i) (entry_count (robot.shape.kind i))

  abbrev following : ℕ → ℕ → Frac
  following i master = add (mul (lowest (robot.mimic i).multiplier) (first_of (leading master))) (lowest (robot.mimic i).offset)

  entries : ℕ → Option ℕ → List Frac
  entries i None = leading i
  entries i (Some master) = following i master ∷ []

  -- ---- the choice
  abbrev link_of : ℕ → BodyChoice
  link_of i =
      let b = robot.link i in
      record {
        mass = lowest b.mass;
        centre = lowest_vector b.centre;
        rpy = lowest_vector b.rpy;
        roll = pair_of (lowest b.rpy.x);
        pitch = pair_of (lowest b.rpy.y);
        yaw = pair_of (lowest b.rpy.z);
        six = lowest_six b.six;
      }

  abbrev joint_of : ℕ → JointChoice
  joint_of i =
      let b = robot.joint i in
      record {
        origin = lowest_vector b.origin;
        rpy = lowest_vector b.rpy;
        roll = pair_of (lowest b.rpy.x);
        pitch = pair_of (lowest b.rpy.y);
        yaw = pair_of (lowest b.rpy.z);
        axis = lowest_vector b.axis;
        factor = lowest b.factor;
        entries = entries i (robot.shape.mimic i);
        angle = pair_of (first_of (entries i (robot.shape.mimic i)));
        multiplier = lowest (robot.mimic i).multiplier;
        offset = lowest (robot.mimic i).offset;
      }

  abbrev lowest_choice : Choice
  lowest_choice = record {
    gravity = lowest_vector state.gravity;
    link = link_of;
    joint = joint_of;
    speed = λ k. lowest (state.speed k);
    acceleration = λ k. lowest (state.acceleration k);
    torque = λ k. lowest (state.torque k);
  }

  module _ (r : IsRobotOrdered robot) (s : IsStateOrdered robot.shape state) where
    leading_count : (i : ℕ) → length (leading i) ≡ entry_count (robot.shape.kind i)
    unfolding leading
    leading_count i = items_count _ _ _

    entries_count : (i : ℕ) → HasBody robot.shape i → (m : Option ℕ) → robot.shape.mimic i ≡ m → length (entries i m) ≡ entry_count (robot.shape.kind i)
    unfolding entries
    entries_count i h None e = leading_count i
    entries_count i h (Some master) e = sym (r.fits i master h e).entry

    entries_chosen : (i : ℕ) → HasBody robot.shape i → (m : Option ℕ) → robot.shape.mimic i ≡ m → EntriesChosen robot state lowest_choice i m
    unfolding entries leading
    entries_chosen i h None e =
        subst (λ (q : List Frac). AllZip LiesIn q (items_from state.entry (robot.shape.first_entry i) (entry_count (robot.shape.kind i)))) (ap (entries i) (sym e))
        (items_lie state.entry (robot.shape.first_entry i) (entry_count (robot.shape.kind i)) (λ k l. s.entry i k h e l))
    entries_chosen i h (Some master) e =
        let f = r.fits i master h e in
        let o = r.mimic i master h e in
        record {
          multiplier = lowest_lies _ o.multiplier;
          offset = lowest_lies _ o.offset;
          entry = following i master;
          master_entry = first_of (leading master);
          entries = ap (entries i) e;
          master_entries = ap (entries master) f.leads ∙ one_item (leading master) (leading_count master ∙ f.master_entry);
          is = same_refl (following i master);
        }

    body_chosen : (i : ℕ) → HasBody robot.shape i → BodyChosen robot state lowest_choice i
    body_chosen i h =
        let l = r.link i h in
        let j = r.joint i h in
        record {
          link = record {
            mass = lowest_lies _ l.mass;
            centre = vectors_lie _ l.centre;
            rpy = vectors_lie _ l.rpy;
            six = six_lie _ l.six;
            angles = angles_go (lowest_vector (robot.link i).rpy);
          };
          joint = record {
            origin = vectors_lie _ j.origin;
            rpy = vectors_lie _ j.rpy;
            axis = vectors_lie _ j.axis;
            factor = lowest_lies _ j.factor;
            is = record {
              frame = angles_go (lowest_vector (robot.joint i).rpy);
              count = entries_count i h (robot.shape.mimic i) refl;
              angle = entry_goes (robot.shape.kind i) (entries i (robot.shape.mimic i));
            };
          };
          entries = entries_chosen i h (robot.shape.mimic i) refl;
        }

    column_chosen : (k : ℕ) → HasColumn robot.shape k → ColumnChosen state lowest_choice k
    column_chosen k h =
        let o = s.column k h in
        record { speed = lowest_lies _ o.speed; acceleration = lowest_lies _ o.acceleration; torque = lowest_lies _ o.torque }

    is_choice : IsChoice robot state lowest_choice
    is_choice = record { gravity = vectors_lie _ s.gravity; bodies = body_chosen; columns = column_chosen }

pub has_choice : HasChoice
has_choice robot state r s = (lowest_choice robot state, is_choice robot state r s)
