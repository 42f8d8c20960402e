-- A body without mass and inertia needs no force.
use Rattle.std.proofs.Common.{◌≡◌, ℕ, List, [], ◌∷◌, Result, Ok, refl, ◌∙◌}
use Rattle.rb_num.specs.Interval.{Interval, zero_interval, negative_of}
use Rattle.rb_num.specs.Arith.{intervals}
use Rattle.rb_num.specs.Dot.{iv_dot}
use Rattle.rb_num.specs.Refusing.{iv_add}
use Rattle.rb_num.specs.declared.interval.NumFault.{NumFault}
use Rattle.rb_num.proofs.Zeros.{dot-head_zero_first, dot-head_zero_second, dot-none}
use Rattle.rb_frac.specs.Spatial.{Motion}
use Rattle.rb_spatial.specs.Motions.{three, cross_dual, cross3, cross_twice, sum_spatial, sum_vector}
use Rattle.rb_spatial.specs.Inertias.{table, times, mul_both}
use Rattle.rb_work.specs.View.{View, a_at, v_at}
use Rattle.rb_work.specs.Zeros.{zero_force}
use Rattle.rb_tree.specs.declared.robot.Body.{Body}
use Rattle.rb_tree.specs.Numbers.{inertia_at}
use Rattle.rb_rnea.specs.Accelerations.{massless, need_by}

three_is : (a b c : Result Interval NumFault) (x y z : Interval) → a ≡ Ok x → b ≡ Ok y → c ≡ Ok z → three intervals a b c ≡ Ok (record { x = x; y = y; z = z })
three_is a b c x y z p q r = rw (p, q, r) refl

six_zeros : (a b c d e f : Interval)
    → iv_dot ((zero_interval, a) ∷ (zero_interval, b) ∷ (zero_interval, c) ∷ (zero_interval, d) ∷ (zero_interval, e) ∷ (zero_interval, f) ∷ []) ≡ Ok zero_interval
six_zeros a b c d e f =
    dot-head_zero_first a _ ∙ dot-head_zero_first b _ ∙ dot-head_zero_first c _ ∙ dot-head_zero_first d _ ∙ dot-head_zero_first e _ ∙ dot-head_zero_first f _ ∙ dot-none

times_massless : (m : Motion Interval) → times intervals (table intervals massless) m ≡ Ok zero_force
unfolding times table mul_both zero_force
times_massless m =
    let e = six_zeros m.lin.x m.lin.y m.lin.z m.ang.x m.ang.y m.ang.z in
    rw (three_is _ _ _ _ _ _ e e e) refl

two_zeros : (a b : Interval) → iv_dot ((a, zero_interval) ∷ (b, zero_interval) ∷ []) ≡ Ok zero_interval
two_zeros a b = dot-head_zero_second a _ ∙ dot-head_zero_second b _ ∙ dot-none

four_zeros : (a b c d : Interval) → iv_dot ((a, zero_interval) ∷ (b, zero_interval) ∷ (c, zero_interval) ∷ (d, zero_interval) ∷ []) ≡ Ok zero_interval
four_zeros a b c d = dot-head_zero_second a _ ∙ dot-head_zero_second b _ ∙ two_zeros c d

turned_zero : (v : Motion Interval) → cross_dual intervals v zero_force ≡ Ok zero_force
unfolding cross_dual cross3 cross_twice zero_force
turned_zero v =
    rw (
      three_is _ _ _ _ _ _ (two_zeros v.ang.y (negative_of v.ang.z)) (two_zeros v.ang.z (negative_of v.ang.x)) (two_zeros v.ang.x (negative_of v.ang.y)),
      three_is _ _ _ _ _ _ (four_zeros v.ang.y (negative_of v.ang.z) v.lin.y (negative_of v.lin.z)) (four_zeros v.ang.z (negative_of v.ang.x) v.lin.z (negative_of v.lin.x)) (four_zeros v.ang.x (negative_of v.ang.y) v.lin.x (negative_of v.lin.y)),
    )
    refl

sum_zero : sum_spatial intervals zero_force zero_force ≡ Ok zero_force
unfolding sum_spatial sum_vector zero_force iv_add
sum_zero = refl

pub needs_none : (bodies : List Body) (i : ℕ) (w : View) → inertia_at bodies i ≡ massless → need_by bodies i w ≡ Ok zero_force
unfolding need_by
needs_none bodies i w e = rw (e, times_massless (a_at w i), times_massless (v_at w i), turned_zero (v_at w i), sum_zero) refl
