-- Products with one and with minus one, which are not rounded.
use Rattle.std.proofs.Common.{◌≡◌, ℕ, ℤ, pos, ◌+ℤ◌, ◌*ℤ◌, ◌≤ℤ◌, ◌<◌, List, [], ◌∷◌, Bool, true, false, ◌&&◌, cond, Ok, Err, refl, sym, ap, ◌∙◌, arith}
use mathlib.Core.Path.{ap₂}
use Rattle.std.proofs.lemmas.Int.{ints, clamps}
use Rattle.std.specs.List.{All}
use Rattle.std.proofs.lemmas.List.Elements.{All-nil, All-cons}
use lib.Signed.{≤ℤ_refl}
use Rattle.std.proofs.Math.IntN.{*ℤ_comm}
use Rattle.std.specs.Int.{int_min, int_max}
use Rattle.rb_num.specs.declared.interval.NumFault.TheVariants.{Size}
use Rattle.rb_num.specs.Interval.{Interval, interval, one_interval, difference_of, negative_of, grid}
use Rattle.rb_num.specs.Dot.{ProductsFit, least_product, greatest_product, products_fit, is_within, all_fit, int_sum_by, dot_of, floor_of, ceil_of, iv_dot}
use Rattle.rb_num.specs.Narrow.{IsNarrow}
use Rattle.rb_num.specs.Refusing.{iv_sub}
use Rattle.rb_num.proofs.Quotients.{grid_positive, cancel_pos, floor-low, ceil-high}
use Rattle.rb_num.proofs.Least.{floor_greatest, ceil_least}
use Rattle.rb_num.proofs.Refused.{ok_is, subtracted}

-- ---- what is a whole number of units is not rounded
floor-exact : (w : ℤ) (n : ℕ) → 0 < n → floor_of (w *ℤ pos n) n ≡ w
floor-exact w n p =
    let low : w ≤ℤ floor_of (w *ℤ pos n) n = floor_greatest w (w *ℤ pos n) n p (≤ℤ_refl (w *ℤ pos n)) in
    let high : floor_of (w *ℤ pos n) n ≤ℤ w = cancel_pos (floor_of (w *ℤ pos n) n) w n p (floor-low (w *ℤ pos n) n p) in
    omega (arith, ints, low, high)

ceil-exact : (w : ℤ) (n : ℕ) → 0 < n → ceil_of (w *ℤ pos n) n ≡ w
ceil-exact w n p =
    let high : ceil_of (w *ℤ pos n) n ≤ℤ w = ceil_least w (w *ℤ pos n) n p (≤ℤ_refl (w *ℤ pos n)) in
    let low : w ≤ℤ ceil_of (w *ℤ pos n) n = cancel_pos w (ceil_of (w *ℤ pos n) n) n p (ceil-high (w *ℤ pos n) n p) in
    omega (arith, ints, low, high)

dot-exact : (ps : List (Interval × Interval)) (v : Interval) → All ProductsFit ps → int_sum_by least_product ps ≡ v.lo *ℤ pos grid
    → int_sum_by greatest_product ps ≡ v.hi *ℤ pos grid
    → iv_dot ps ≡ Ok v
unfolding dot_of
dot-exact ps v h l g =
    sym
    (ok_is ps v (record { each = h })
    (ap₂ interval
    (sym (ap (λ (z : ℤ). floor_of z grid) l ∙ floor-exact v.lo grid grid_positive))
    (sym (ap (λ (z : ℤ). ceil_of z grid) g ∙ ceil-exact v.hi grid grid_positive))))

one_fits : (p : Interval × Interval) → ProductsFit p → All ProductsFit (p ∷ [])
one_fits p h = All-cons ProductsFit p [] h (All-nil ProductsFit)

abbrev pub minus_one : Interval
minus_one = negative_of one_interval

-- ---- products with one and minus one
fit_one : (v : Interval) → IsNarrow v.lo v.hi → ProductsFit (one_interval, v)
fit_one v n =
    let n1 = n.low in let n2 = n.ordered in let n3 = n.high in
    record {
      lo_lo = record { above = omega (arith, ints); below = omega (arith, ints) };
      lo_hi = record { above = omega (arith, ints); below = omega (arith, ints) };
      hi_lo = record { above = omega (arith, ints); below = omega (arith, ints) };
      hi_hi = record { above = omega (arith, ints); below = omega (arith, ints) };
    }

fit_minus : (v : Interval) → IsNarrow v.lo v.hi → ProductsFit (minus_one, v)
fit_minus v n =
    let n1 = n.low in let n2 = n.ordered in let n3 = n.high in
    record {
      lo_lo = record { above = omega (arith, ints); below = omega (arith, ints) };
      lo_hi = record { above = omega (arith, ints); below = omega (arith, ints) };
      hi_lo = record { above = omega (arith, ints); below = omega (arith, ints) };
      hi_hi = record { above = omega (arith, ints); below = omega (arith, ints) };
    }

pub dot-one_first : (v : Interval) → IsNarrow v.lo v.hi → iv_dot ((one_interval, v) ∷ []) ≡ Ok v
unfolding least_product greatest_product
dot-one_first v n =
    let n1 = n.ordered in
    dot-exact ((one_interval, v) ∷ []) v (one_fits _ (fit_one v n)) (omega (arith, ints, clamps)) (omega (arith, ints, clamps))

pub dot-minus_first : (v : Interval) → IsNarrow v.lo v.hi → iv_dot ((minus_one, v) ∷ []) ≡ Ok (negative_of v)
unfolding least_product greatest_product
dot-minus_first v n =
    let n1 = n.ordered in
    dot-exact ((minus_one, v) ∷ []) (negative_of v) (one_fits _ (fit_minus v n)) (omega (arith, ints, clamps)) (omega (arith, ints, clamps))

pub one_narrow : IsNarrow one_interval.lo one_interval.hi
one_narrow = record { ordered = omega (arith, ints); low = omega (arith, ints); high = omega (arith, ints) }

-- ---- one less of one less of v is v
pub sub-narrow : (v : Interval) → IsNarrow v.lo v.hi → iv_sub one_interval v ≡ Ok (difference_of one_interval v)
sub-narrow v n =
    let n1 = n.low in let n2 = n.ordered in let n3 = n.high in
    sym
    (subtracted (Ok (difference_of one_interval v)) one_interval v (
      record {
        low = record { above = omega (arith, ints); below = omega (arith, ints) };
        high = record { above = omega (arith, ints); below = omega (arith, ints) };
      },
      refl,
    ) tt)

pub dot-one_less : (v : Interval) → IsNarrow v.lo v.hi
    → iv_dot ((one_interval, one_interval) ∷ (negative_of (difference_of one_interval v), one_interval) ∷ []) ≡ Ok v
unfolding least_product greatest_product
dot-one_less v n =
    let n1 = n.low in let n2 = n.ordered in let n3 = n.high in
    let fits : ProductsFit (negative_of (difference_of one_interval v), one_interval) =
    record {
      lo_lo = record { above = omega (arith, ints); below = omega (arith, ints) };
      lo_hi = record { above = omega (arith, ints); below = omega (arith, ints) };
      hi_lo = record { above = omega (arith, ints); below = omega (arith, ints) };
      hi_hi = record { above = omega (arith, ints); below = omega (arith, ints) };
    } in
    dot-exact ((one_interval, one_interval) ∷ (negative_of (difference_of one_interval v), one_interval) ∷ []) v
    (All-cons ProductsFit _ ((negative_of (difference_of one_interval v), one_interval) ∷ []) (fit_one one_interval one_narrow) (one_fits _ fits)) (omega (arith, ints, clamps)) (omega (arith, ints, clamps))

-- ---- the two of a pair change places
and_across : (p q r s : Bool) → ((p && q) && (r && s)) ≡ ((p && r) && (q && s))
and_across true true r s = refl
and_across true false true s = refl
and_across true false false s = refl
and_across false q r s = refl

least_across : (p q r s : ℤ) → int_min (int_min p q) (int_min r s) ≡ int_min (int_min p r) (int_min q s)
least_across p q r s = omega (arith, ints, clamps)

greatest_across : (p q r s : ℤ) → int_max (int_max p q) (int_max r s) ≡ int_max (int_max p r) (int_max q s)
greatest_across p q r s = omega (arith, ints, clamps)

least_swapped : (a b : Interval) → least_product (a, b) ≡ least_product (b, a)
unfolding least_product
least_swapped a b =
    rw (*ℤ_comm a.lo b.lo, *ℤ_comm a.lo b.hi, *ℤ_comm a.hi b.lo, *ℤ_comm a.hi b.hi)
    (least_across (b.lo *ℤ a.lo) (b.hi *ℤ a.lo) (b.lo *ℤ a.hi) (b.hi *ℤ a.hi))

greatest_swapped : (a b : Interval) → greatest_product (a, b) ≡ greatest_product (b, a)
unfolding greatest_product
greatest_swapped a b =
    rw (*ℤ_comm a.lo b.lo, *ℤ_comm a.lo b.hi, *ℤ_comm a.hi b.lo, *ℤ_comm a.hi b.hi)
    (greatest_across (b.lo *ℤ a.lo) (b.hi *ℤ a.lo) (b.lo *ℤ a.hi) (b.hi *ℤ a.hi))

fit_swapped : (a b : Interval) → products_fit (a, b) ≡ products_fit (b, a)
unfolding products_fit
fit_swapped a b =
    rw (*ℤ_comm a.lo b.lo, *ℤ_comm a.lo b.hi, *ℤ_comm a.hi b.lo, *ℤ_comm a.hi b.hi)
    (and_across (is_within (b.lo *ℤ a.lo)) (is_within (b.hi *ℤ a.lo)) (is_within (b.lo *ℤ a.hi)) (is_within (b.hi *ℤ a.hi)))

pub dot-swapped : (a b : Interval) → iv_dot ((a, b) ∷ []) ≡ iv_dot ((b, a) ∷ [])
unfolding iv_dot all_fit dot_of
dot-swapped a b =
    ap (λ (f : Bool). cond (f && true) (Ok (dot_of ((a, b) ∷ []))) (Err Size)) (fit_swapped a b)
    ∙ ap (λ (l : ℤ). cond (products_fit (b, a) && true) (Ok (interval (floor_of (l +ℤ pos 0) grid) (ceil_of (greatest_product (a, b) +ℤ pos 0) grid))) (Err Size)) (least_swapped a b)
    ∙ ap (λ (h : ℤ). cond (products_fit (b, a) && true) (Ok (interval (floor_of (least_product (b, a) +ℤ pos 0) grid) (ceil_of (h +ℤ pos 0) grid))) (Err Size)) (greatest_swapped a b)
