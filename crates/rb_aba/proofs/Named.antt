-- Steps of the code, with the names that their refusals bear.
use Rattle.std.proofs.Common.{◌≡◌, ◌≢◌, ◌==◌, ◌+◌, ◌-◌, ◌<◌, if◌then◌else◌, arith, ℕ, zero, suc, Bool, true, false, ◌||◌, List, [], ◌∷◌, slice_get, slice_set, Option, None, Some, is_some, Result, Ok, Err, refl, sym, ap, ◌∙◌}
use Rattle.std.specs.List.{list_any}
use Rattle.std.specs.Option.{option_map_or}
use Rattle.rb_num.specs.declared.interval.NumFault.{NumFault}
use Rattle.rb_num.specs.Interval.{Interval, zero_interval, one_interval}
use Rattle.rb_num.specs.Narrow.{IsNarrow}
use Rattle.rb_num.specs.Dot.{iv_dot}
use Rattle.rb_num.proofs.Zeros.{dot-zero_first}
use Rattle.rb_joint.proofs.AxisTurns.{one_times}
use Rattle.rb_num.specs.Arith.{intervals}
use Rattle.rb_frac.specs.Spatial.{Motion, Force, Inertia}
use Rattle.rb_spatial.specs.Motions.{power}
use Rattle.rb_spatial.specs.Inertias.{times}
use Rattle.rb_work.specs.declared.names.Name.{Name}
use Rattle.rb_work.specs.declared.names.NameKind.TheVariants as K
use Rattle.rb_work.specs.declared.names.RowFault.{RowFault}
use Rattle.rb_work.specs.declared.names.RowFault.TheVariants.{Size}
use Rattle.rb_result.proofs.Results.{same_err}
use Rattle.rb_work.specs.Names.{one, named_as, pivot_as}
use Rattle.rb_work.specs.Path.{packed_place}
use Rattle.rb_work.specs.View.{View}
use Rattle.rb_sweep.specs.Sweep.{Answers, sweep, downward}
use Rattle.rb_sweep.proofs.SweepSteps.{sweep_down_refused}
use Rattle.rb_tree.specs.declared.robot.Body.{Body}
use Rattle.rb_tree.specs.declared.robot.Mimic.{Mimic}
use Rattle.rb_tree.specs.Columns.{parent_at, has_mimic}
use Rattle.rb_tree.specs.Numbers.{mimic_at}
use Rattle.rb_articulated.specs.Rules.{less_power}
use Rattle.rb_aba.specs.Articulated.{Rest, join_inertia, add_inertia, give_way}
use Rattle.rb_aba.specs.Steps.{giving, column_by}

-- ---- no joint follows another
led : (bodies : List Body) → has_mimic bodies ≡ false → (k : ℕ) → option_map_or (λ (b : Body). b.mimic) (slice_get bodies k) None ≡ None
led [] h k = refl
led (b ∷ bs) h zero = go b.mimic h
  where
    go : (m : Option Mimic) → (is_some m || list_any (λ (b : Body). is_some b.mimic) bs) ≡ false → m ≡ None
    go None e = refl
    go (Some mimic) e = absurd cc
led (b ∷ bs) h (suc k) = led bs (rest (is_some b.mimic) h) k
  where
    rest : (m : Bool) → (m || list_any (λ (b : Body). is_some b.mimic) bs) ≡ false → list_any (λ (b : Body). is_some b.mimic) bs ≡ false
    rest false e = e
    rest true e = absurd cc

pub no_mimic : (bodies : List Body) → has_mimic bodies ≡ false → (i : ℕ) → mimic_at bodies i ≡ None
no_mimic bodies h zero = refl
no_mimic bodies h (suc k) = led bodies h k

-- ---- children
pub child_added : (bodies : List Body) (w : View) (i j : ℕ) (total : Inertia Interval) (r : Result (Inertia Interval) NumFault) → parent_at bodies j ≡ i → join_inertia w j total ≡ r
    → add_inertia bodies w i j total ≡ r
unfolding add_inertia
child_added bodies w i j total r e h = let b : (parent_at bodies j == i) ≡ true = grind arith in ap (λ (t : Bool). if t then join_inertia w j total else Ok total) b ∙ h

pub child_passed : (bodies : List Body) (w : View) (i j : ℕ) (total : Inertia Interval) → parent_at bodies j ≢ i → add_inertia bodies w i j total ≡ Ok total
unfolding add_inertia
child_passed bodies w i j total e = let b : (parent_at bodies j == i) ≡ false = grind arith in ap (λ (t : Bool). if t then join_inertia w j total else Ok total) b

pub ruleset children = (child_added, child_passed)

pub down_refused : {S E : Type 0} (step : ℕ → S → Result S E) (lo hi : ℕ) (s : S) (e : E) (whole : Result S E) → lo < hi → step (hi - 1) s ≡ Err e
    → sweep step (downward lo hi) s ≡ whole → whole ≡ Err e
down_refused step lo hi s e whole l r same =
    let h : hi ≡ hi - 1 + 1 = omega arith in
    sym same ∙ ap (λ k. sweep step (downward lo k) s) h ∙ sweep_down_refused step lo (hi - 1) s e (omega arith) r

-- ---- nothing is added
pub plus_zero : (a b k : Interval) → b ≡ zero_interval → IsNarrow a.lo a.hi → Ok a ≡ iv_dot ((a, one_interval) ∷ (b, k) ∷ [])
plus_zero a b k h n = one_times a n ∙ sym (dot-zero_first k ((a, one_interval) ∷ []) []) ∙ ap (λ (v : Interval). iv_dot ((a, one_interval) ∷ (v, k) ∷ [])) (sym h)

-- ---- a step under its name
pub named_was : {A : Type 0} (n m : Name) (r q : Result A NumFault) (step answer : Result A RowFault) → m ≡ n → q ≡ r → step ≡ named_as m q → step ≡ answer → named_as n r ≡ answer
named_was n m r q step answer e f h k = sym (h ∙ ap (λ x. named_as x q) e ∙ ap (named_as n) f) ∙ k

pub pivot_was : (n m : Name) (v : Interval) (step answer : Result Interval RowFault) → m ≡ n → step ≡ pivot_as m v → step ≡ answer → pivot_as n v ≡ answer
pivot_was n m v step answer e h k = sym (h ∙ ap (λ x. pivot_as x v) e) ∙ k

-- the same of a step that leaves its value in a place
pub named_left : {A S : Type 0} (n m : Name) (r : Result A NumFault) (rule : Result S NumFault) (s : S) (step : Result A RowFault) (x : A) → m ≡ n → Answers r rule s → step ≡ named_as m r → step ≡ Ok x
    → named_as n rule ≡ Ok s
named_left n m (Ok y) rule s step x e a h k = ap (named_as n) a
named_left n m (Err d) rule s step x e a h k = absurd cc

pub named_refused : {A S : Type 0} (n m : Name) (r : Result A NumFault) (rule : Result S NumFault) (s : S) (step : Result A RowFault) (fault : RowFault) → m ≡ n → Answers r rule s → step ≡ named_as m r
    → step ≡ Err fault → named_as n rule ≡ Err fault
named_refused n m (Ok y) rule s step fault e a h k = absurd cc
named_refused {A} n m (Err d) rule s step fault e a h k = let told : Size m ≡ fault = same_err {A = A} (Size m) fault (sym h ∙ k) in ap (named_as n) a ∙ ap (λ q. Err (Size q)) (sym e) ∙ ap (λ f. Err f) told

-- ---- a column gives way
module _ (c : ℕ) (axis : Motion Interval) (torque : Interval) (w : View) (rest : Rest) (U : Force Interval) (P D u : Interval)
    (hU : named_as (one K.U c) (times intervals rest.0 axis) ≡ Ok U)
    (hP : named_as (one K.D c) (power intervals axis U) ≡ Ok P)
    (hD : pivot_as (one K.D c) P ≡ Ok D)
    (hu : named_as (one K.u c) (less_power intervals torque axis rest.1) ≡ Ok u) where
  pub column_found : (next : Rest) (a b d : View) → named_as (one K.u c) (give_way U D u rest) ≡ Ok next
      → a ≡ record w { U = slice_set w.U c U } → b ≡ record a { packed = slice_set a.packed (packed_place a.up c c) D } → d ≡ record b { u = slice_set b.u c u }
      → column_by c axis torque (giving w rest) ≡ Ok (giving d next)
  unfolding column_by
  column_found next a b d hn ha hb hd = rw (hU, hP, hD, hu, hn, hd, hb, ha) refl

  pub column_refused : (e : RowFault) → named_as (one K.u c) (give_way U D u rest) ≡ Err e → column_by c axis torque (giving w rest) ≡ Err e
  unfolding column_by
  column_refused e hn = rw (hU, hP, hD, hu, hn) refl
