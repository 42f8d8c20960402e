-- The places of joints: at rest, and of one kind as those of another.
use Rattle.std.proofs.Common.{◌≡◌, ℕ, zero, suc, ◌+◌, ◌==◌, if◌then◌else◌, List, [], ◌∷◌, refl, sym, ap, subst, ◌∙◌}
use mathlib.Core.Path.{fun_ext}
use Rattle.rb_frac.specs.Ops.{Ops, V3, signs, vadd, vscale, vdot}
use Rattle.rb_frac.specs.Frac as F
use Rattle.rb_frac.specs.Frac.{Frac, Same, Le, fracs}
use Rattle.rb_frac.specs.Tables.{Table, Vectors, Tables, transpose, table_times, table_product, table_sum, table_scaled}
use Rattle.rb_frac.specs.Spatial.{SineCosine, Frame, Place, Places, coordinate}
use Rattle.rb_frac.proofs.Below.{below_six}
use Rattle.rb_frac.proofs.Reduce.{same_refl, same_trans}
use Rattle.rb_frac.proofs.FracLaws.{antisym_le, le_same}
use Rattle.rb_frac.proofs.Ring.{Expr, expr, var, enul, eone, eval}
use Rattle.rb_frac.proofs.Hom.{hom}
use Rattle.rb_frac.proofs.Rational.{qo, sound, exact}
use Rattle.rb_frac.proofs.Variables.{frame, vector, sine_cosine, of_frame, of_vector, of_sine_cosine, at, table_value, vector_value, vectors, tables}
use Rattle.rb_num.specs.Sine as S
use Rattle.rb_num.specs.Sine.{IsBetween, cut, lesser, greater, sine_sum, cosine_sum, terms, GoesWith}
use Rattle.rb_flat.specs.Turns.{about_axis, about_z, about_quaternion, placed}
use Rattle.rb_flat.specs.Joint as J
use Rattle.rb_flat.specs.Joint.{Kind, Fixed, Revolute, Continuous, Prismatic, Planar, Free, joint_turn, joint_shift, JointChoice, IsJointChoice, HasAngle, EntryHasAngle, chosen_frame, chosen_axis, chosen_place, chosen_column}
use Rattle.rb_flat.specs.Laws.{ZeroHasOnePair, neutral_entries, NeutralFits, FixedIsUnmoved, NeutralIsUnmoved, ContinuousIsRevolute, PlanarIsFree, FreeMovesAll}

-- ---- the angle zero
abbrev zero_angle : Frac
zero_angle = fracs.nul

least_sine : Same (lesser (cut (sine_sum zero_angle terms)) (cut (sine_sum zero_angle (terms + 1)))) fracs.nul
unfolding S.lesser S.greater S.cut S.sine_sum S.sine_term S.power S.factorial Rattle.rb_frac.specs.Ops.sum F.quot F.turn F.mul F.add F.whole
least_sine = refl

greatest_sine : Same (greater (cut (sine_sum zero_angle terms)) (cut (sine_sum zero_angle (terms + 1)))) fracs.nul
unfolding S.lesser S.greater S.cut S.sine_sum S.sine_term S.power S.factorial Rattle.rb_frac.specs.Ops.sum F.quot F.turn F.mul F.add F.whole
greatest_sine = refl

least_cosine : Same (lesser (cut (cosine_sum zero_angle terms)) (cut (cosine_sum zero_angle (terms + 1)))) fracs.one
unfolding S.lesser S.greater S.cut S.cosine_sum S.cosine_term S.power S.factorial Rattle.rb_frac.specs.Ops.sum F.quot F.turn F.mul F.add F.whole
least_cosine = refl

greatest_cosine : Same (greater (cut (cosine_sum zero_angle terms)) (cut (cosine_sum zero_angle (terms + 1)))) fracs.one
unfolding S.lesser S.greater S.cut S.cosine_sum S.cosine_term S.power S.factorial Rattle.rb_frac.specs.Ops.sum F.quot F.turn F.mul F.add F.whole
greatest_cosine = refl

-- a number between two that are one number is that number
between_same : (x y z n : Frac) → Same (lesser x y) n → Same (greater x y) n → IsBetween x y z → Same z n
between_same x y z n l g h =
    antisym_le z n (le_same z z (greater x y) n (same_refl z) g h.below) (le_same (lesser x y) n z z l (same_refl z) h.above)

pub zero_has_one_pair : ZeroHasOnePair
zero_has_one_pair t h = record {
  sin = between_same _ _ t.sin fracs.nul least_sine greatest_sine h.sine;
  cos = between_same _ _ t.cos fracs.one least_cosine greatest_cosine h.cosine;
}

-- ---- tables of fractions
-- an expression at numbers that are the same
near : (l m : ℕ → Frac) → ((i : ℕ) → Same (l i) (m i)) → (e : Expr) → Same (eval fracs l e) (eval fracs m e)
near l m h e =
    exact (eval fracs l e) (eval fracs m e) (hom l e ∙ ap (λ (ρ : ℕ → _). eval qo ρ e) (fun_ext λ i. sound (l i) (m i) (h i)) ∙ sym (hom m e))

near_table : (l m : List Frac) → ((i : ℕ) → Same (at l i) (at m i)) → (t : Table Expr) → Tables Same (table_value (at l) t) (table_value (at m) t)
near_table l m h t = record { x = row t.x; y = row t.y; z = row t.z }
  where
    row : (v : V3 Expr) → Vectors Same (vector_value (at l) v) (vector_value (at m) v)
    row v = record { x = near (at l) (at m) h v.x; y = near (at l) (at m) h v.y; z = near (at l) (at m) h v.z }

tables_trans : (s t u : Table Frac) → Tables Same s t → Tables Same t u → Tables Same s u
tables_trans s t u a b = record { x = row s.x t.x u.x a.x b.x; y = row s.y t.y u.y a.y b.y; z = row s.z t.z u.z a.z b.z }
  where
    row : (p q r : V3 Frac) → Vectors Same p q → Vectors Same q r → Vectors Same p r
    row p q r c d = record { x = same_trans p.x q.x r.x c.x d.x; y = same_trans p.y q.y r.y c.y d.y; z = same_trans p.z q.z r.z c.z d.z }

-- ---- places at rest, in any frame: the variables are the sine, the cosine, the frame and the axis
abbrev still : {A : Type 0} → Frame A → Place A
still f = record { e = transpose f.rot; r = f.at }

abbrev placed_at : {A : Type 0} → Ops A → Kind → Frame A → V3 A → SineCosine A → List A → Place A
placed_at o k f a t q = placed o f (joint_turn o k a t q) (joint_shift o k a q)

abbrev placed_as : Kind → List Expr → Place Expr
placed_as k q = placed_at expr k (frame 2) (vector 14) (sine_cosine 0) q

abbrev numbers : Frame Frac → V3 Frac → SineCosine Frac → List Frac
numbers f a t = of_sine_cosine t (of_frame f (of_vector a []))

fixed_rest : (f : Frame Frac) (a : V3 Frac) (t : SineCosine Frac) (q : List Frac) → Places Same (placed_at fracs Fixed f a t q) (still f)
unfolding placed joint_turn joint_shift table_product table_times vadd vdot
fixed_rest f a t q =
    let l = numbers f a t in
    let x = placed_as Fixed [] in
    let y = still (frame 2) in
    record { e = tables l x.e y.e (refl, refl, refl) (refl, refl, refl) (refl, refl, refl); r = vectors l x.r y.r (refl, refl, refl) }

prismatic_rest : (f : Frame Frac) (a : V3 Frac) (t : SineCosine Frac) → Places Same (placed_at fracs Prismatic f a t (neutral_entries Prismatic)) (still f)
unfolding placed joint_turn joint_shift table_product table_times vadd vscale vdot
prismatic_rest f a t =
    let l = numbers f a t in
    let x = placed_as Prismatic (enul ∷ []) in
    let y = still (frame 2) in
    record { e = tables l x.e y.e (refl, refl, refl) (refl, refl, refl) (refl, refl, refl); r = vectors l x.r y.r (refl, refl, refl) }

continuous_rest : (f : Frame Frac) (a : V3 Frac) (t : SineCosine Frac) → Places Same (placed_at fracs Continuous f a t (neutral_entries Continuous)) (still f)
unfolding placed joint_turn joint_shift about_axis table_product table_sum table_scaled table_times vadd vscale vdot
continuous_rest f a t =
    let l = numbers f a t in
    let x = placed_as Continuous (eone ∷ enul ∷ []) in
    let y = still (frame 2) in
    record { e = tables l x.e y.e (refl, refl, refl) (refl, refl, refl) (refl, refl, refl); r = vectors l x.r y.r (refl, refl, refl) }

planar_rest : (f : Frame Frac) (a : V3 Frac) (t : SineCosine Frac) → Places Same (placed_at fracs Planar f a t (neutral_entries Planar)) (still f)
unfolding placed joint_turn joint_shift about_z table_product table_times vadd vdot
planar_rest f a t =
    let l = numbers f a t in
    let x = placed_as Planar (enul ∷ enul ∷ eone ∷ enul ∷ []) in
    let y = still (frame 2) in
    record { e = tables l x.e y.e (refl, refl, refl) (refl, refl, refl) (refl, refl, refl); r = vectors l x.r y.r (refl, refl, refl) }

free_rest : (f : Frame Frac) (a : V3 Frac) (t : SineCosine Frac) → Places Same (placed_at fracs Free f a t (neutral_entries Free)) (still f)
unfolding placed joint_turn joint_shift about_quaternion table_product table_sum table_scaled table_times vadd vscale vdot
free_rest f a t =
    let l = numbers f a t in
    let x = placed_as Free (enul ∷ enul ∷ enul ∷ enul ∷ enul ∷ enul ∷ eone ∷ []) in
    let y = still (frame 2) in
    record { e = tables l x.e y.e (refl, refl, refl) (refl, refl, refl) (refl, refl, refl); r = vectors l x.r y.r (refl, refl, refl) }

-- the pair of the angle zero is the same as (0, 1)
revolute_rest : (f : Frame Frac) (a : V3 Frac) (t : SineCosine Frac) → HasAngle fracs.nul t → Places Same (placed_at fracs Revolute f a t (neutral_entries Revolute)) (still f)
unfolding placed joint_turn joint_shift about_axis table_product table_sum table_scaled table_times vadd vscale vdot
revolute_rest f a t h =
    let l = numbers f a t in
    let x = placed_as Revolute (enul ∷ []) in
    let z = placed_as Continuous (eone ∷ enul ∷ []) in
    let y = still (frame 2) in
    record {
      e = tables_trans (table_value (at l) x.e) (table_value (at l) z.e) (table_value (at l) y.e)
          (near_table l (numbers f a (record { sin = fracs.nul; cos = fracs.one })) close x.e)
          (tables l z.e y.e (refl, refl, refl) (refl, refl, refl) (refl, refl, refl));
      r = vectors l x.r y.r (refl, refl, refl);
    }
  where
    close : (i : ℕ) → Same (at (numbers f a t) i) (at (numbers f a (record { sin = fracs.nul; cos = fracs.one })) i)
    close zero = (zero_has_one_pair t h).sin
    close (suc zero) = (zero_has_one_pair t h).cos
    close (suc (suc i)) = same_refl (at (of_frame f (of_vector a [])) i)

-- ---- the laws
pub fixed_is_unmoved : FixedIsUnmoved
unfolding chosen_place
fixed_is_unmoved c = fixed_rest (chosen_frame c) (chosen_axis c) c.angle c.entries

pub neutral_fits : NeutralFits
neutral_fits Fixed = refl
neutral_fits Revolute = refl
neutral_fits Continuous = refl
neutral_fits Prismatic = refl
neutral_fits Planar = refl
neutral_fits Free = refl

rest_of : (k : Kind) (f : Frame Frac) (a : V3 Frac) (t : SineCosine Frac) → EntryHasAngle k (neutral_entries k) t → Places Same (placed_at fracs k f a t (neutral_entries k)) (still f)
rest_of Fixed f a t h = fixed_rest f a t []
rest_of Revolute f a t h = revolute_rest f a t h
rest_of Continuous f a t h = continuous_rest f a t
rest_of Prismatic f a t h = prismatic_rest f a t
rest_of Planar f a t h = planar_rest f a t
rest_of Free f a t h = free_rest f a t

pub neutral_is_unmoved : NeutralIsUnmoved
unfolding chosen_place
neutral_is_unmoved k c h e =
    subst (λ (q : List Frac). Places Same (placed_at fracs k (chosen_frame c) (chosen_axis c) c.angle q) (still (chosen_frame c))) (sym e)
    (rest_of k (chosen_frame c) (chosen_axis c) c.angle (subst (λ (q : List Frac). EntryHasAngle k q c.angle) e h.angle))

pub continuous_is_revolute : (c : JointChoice) → ContinuousIsRevolute c
unfolding chosen_place chosen_frame chosen_axis chosen_column joint_turn joint_shift J.joint_column
continuous_is_revolute c = record { place = refl; column = refl }

-- the variables are x, y, z, w and the frame
abbrev cosine_of : {A : Type 0} → Ops A → A → A
cosine_of o z = o.add o.one (o.neg (o.mul (o.add o.one o.one) (o.mul z z)))

abbrev sine_of : {A : Type 0} → Ops A → A → A → A
sine_of o z w = o.mul (o.add o.one o.one) (o.mul w z)

planar_place : (f : Frame Frac) (a b : V3 Frac) (t : SineCosine Frac) (x y z w : Frac) → Places Same (placed_at fracs Planar f a t (x ∷ y ∷ cosine_of fracs z ∷ sine_of fracs z w ∷ [])) (placed_at fracs Free f b t (x ∷ y ∷ fracs.nul ∷ fracs.nul ∷ fracs.nul ∷ z ∷ w ∷ []))
unfolding placed joint_turn joint_shift about_z about_quaternion table_product table_sum table_scaled table_times vadd vscale vdot
planar_place f a b t x y z w =
    let l = x ∷ y ∷ z ∷ w ∷ of_frame f [] in
    let p = placed_at expr Planar (frame 4) (vector 0) (sine_cosine 0) (var 0 ∷ var 1 ∷ cosine_of expr (var 2) ∷ sine_of expr (var 2) (var 3) ∷ []) in
    let q = placed_at expr Free (frame 4) (vector 0) (sine_cosine 0) (var 0 ∷ var 1 ∷ enul ∷ enul ∷ enul ∷ var 2 ∷ var 3 ∷ []) in
    record { e = tables l p.e q.e (refl, refl, refl) (refl, refl, refl) (refl, refl, refl); r = vectors l p.r q.r (refl, refl, refl) }

pub planar_is_free : (c : JointChoice) → PlanarIsFree c
unfolding chosen_place chosen_frame chosen_axis chosen_column J.joint_column
planar_is_free c = record {
  place = λ x y z w. planar_place (chosen_frame c) (chosen_axis c) (chosen_axis c) c.angle x y z w;
  column_x = refl;
  column_y = refl;
  column_turn = refl;
}

pub free_moves_all : FreeMovesAll
unfolding chosen_column J.joint_column coordinate
free_moves_all c j k l m =
    below_six (λ i. coordinate (chosen_column Free c k) i ≡ (if i == k then fracs.one else fracs.nul))
    (below_six (λ i. coordinate (chosen_column Free c i) 0 ≡ (if 0 == i then fracs.one else fracs.nul)) refl refl refl refl refl refl k m)
    (below_six (λ i. coordinate (chosen_column Free c i) 1 ≡ (if 1 == i then fracs.one else fracs.nul)) refl refl refl refl refl refl k m)
    (below_six (λ i. coordinate (chosen_column Free c i) 2 ≡ (if 2 == i then fracs.one else fracs.nul)) refl refl refl refl refl refl k m)
    (below_six (λ i. coordinate (chosen_column Free c i) 3 ≡ (if 3 == i then fracs.one else fracs.nul)) refl refl refl refl refl refl k m)
    (below_six (λ i. coordinate (chosen_column Free c i) 4 ≡ (if 4 == i then fracs.one else fracs.nul)) refl refl refl refl refl refl k m)
    (below_six (λ i. coordinate (chosen_column Free c i) 5 ≡ (if 5 == i then fracs.one else fracs.nul)) refl refl refl refl refl refl k m)
    j l
