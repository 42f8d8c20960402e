-- Zero in sums and in sums of products: it changes nothing, and no refusal either.
use Rattle.std.proofs.Common.{◌≡◌, ℤ, pos, ◌+ℤ◌, ◌*ℤ◌, List, [], ◌∷◌, ◌++◌, Bool, true, ◌&&◌, cond, Ok, Err, refl, sym, ap, ◌∙◌, arith}
use mathlib.Core.Path.{ap₂}
use Rattle.std.proofs.lemmas.Int.{ints, clamps}
use Rattle.rb_num.specs.declared.interval.NumFault.TheVariants.{Size}
use Rattle.rb_num.specs.Interval.{Interval, zero_interval, IsInterval, IsWithin, EndsFit, interval, sum_of, difference_of, grid}
use Rattle.rb_num.specs.Dot.{least_product, greatest_product, products_fit, all_fit, int_sum_by, dot_of, floor_of, ceil_of, iv_dot}
use Rattle.rb_num.specs.Refusing.{iv_add, iv_sub}
use Rattle.rb_num.specs.Laws.{DotLeavesOutZero, ZeroIsNeutral}
use Rattle.rb_num.proofs.Refused.{decides_products, added, subtracted}

-- what is known of a pair whose products are all zero
pub record IsNull (p : Interval × Interval) : Type 0 where
  pub fits : products_fit p ≡ true
  pub least : least_product p ≡ pos 0
  pub greatest : greatest_product p ≡ pos 0

null_at : (p : Interval × Interval) → p.0.lo *ℤ p.1.lo ≡ pos 0 → p.0.lo *ℤ p.1.hi ≡ pos 0 → p.0.hi *ℤ p.1.lo ≡ pos 0 → p.0.hi *ℤ p.1.hi ≡ pos 0 → IsNull p
unfolding least_product greatest_product
null_at p a b c d = record {
  fits = (decides_products p).1 record { lo_lo = within _ a; lo_hi = within _ b; hi_lo = within _ c; hi_hi = within _ d };
  least = omega (arith, ints, clamps);
  greatest = omega (arith, ints, clamps);
}
  where
    within : (z : ℤ) → z ≡ pos 0 → IsWithin z
    within z e = record { above = omega (arith, ints); below = omega (arith, ints) }

first_null : (v : Interval) → IsNull (zero_interval, v)
first_null v = null_at (zero_interval, v) (omega (arith, ints)) (omega (arith, ints)) (omega (arith, ints)) (omega (arith, ints))

second_null : (v : Interval) → IsNull (v, zero_interval)
second_null v = null_at (v, zero_interval) (omega (arith, ints)) (omega (arith, ints)) (omega (arith, ints)) (omega (arith, ints))

-- ---- left out of a list
fit_without : (p : Interval × Interval) (ps qs : List (Interval × Interval)) → products_fit p ≡ true → all_fit (ps ++ p ∷ qs) ≡ all_fit (ps ++ qs)
unfolding all_fit
fit_without p [] qs h = ap (λ (b : Bool). b && all_fit qs) h
fit_without p (r ∷ ps) qs h = ap (λ (b : Bool). products_fit r && b) (fit_without p ps qs h)

sum_without : {X : Type 0} (f : X → ℤ) (x : X) (xs ys : List X) → f x ≡ pos 0 → int_sum_by f (xs ++ x ∷ ys) ≡ int_sum_by f (xs ++ ys)
sum_without f x [] ys h = omega (arith, ints)
sum_without f x (z ∷ xs) ys h = ap (λ (s : ℤ). f z +ℤ s) (sum_without f x xs ys h)

dot_without : (p : Interval × Interval) (ps qs : List (Interval × Interval)) → IsNull p → iv_dot (ps ++ p ∷ qs) ≡ iv_dot (ps ++ qs)
unfolding iv_dot dot_of
dot_without p ps qs n =
    ap (λ (b : Bool). cond b (Ok (dot_of (ps ++ p ∷ qs))) (Err Size)) (fit_without p ps qs n.fits)
    ∙ ap (λ (l : ℤ). cond (all_fit (ps ++ qs)) (Ok (interval (floor_of l grid) (ceil_of (int_sum_by greatest_product (ps ++ p ∷ qs)) grid))) (Err Size)) (sum_without least_product p ps qs n.least)
    ∙ ap (λ (h : ℤ). cond (all_fit (ps ++ qs)) (Ok (interval (floor_of (int_sum_by least_product (ps ++ qs)) grid) (ceil_of h grid))) (Err Size)) (sum_without greatest_product p ps qs n.greatest)

-- in the middle
pub dot-zero_first : (v : Interval) (ps qs : List (Interval × Interval)) → iv_dot (ps ++ (zero_interval, v) ∷ qs) ≡ iv_dot (ps ++ qs)
dot-zero_first v ps qs = dot_without (zero_interval, v) ps qs (first_null v)

pub dot-zero_second : (v : Interval) (ps qs : List (Interval × Interval)) → iv_dot (ps ++ (v, zero_interval) ∷ qs) ≡ iv_dot (ps ++ qs)
dot-zero_second v ps qs = dot_without (v, zero_interval) ps qs (second_null v)

-- at the head
pub dot-head_zero_first : (v : Interval) (qs : List (Interval × Interval)) → iv_dot ((zero_interval, v) ∷ qs) ≡ iv_dot qs
dot-head_zero_first v qs = dot-zero_first v [] qs

pub dot-head_zero_second : (v : Interval) (qs : List (Interval × Interval)) → iv_dot ((v, zero_interval) ∷ qs) ≡ iv_dot qs
dot-head_zero_second v qs = dot-zero_second v [] qs

-- of no pairs
pub dot-none : iv_dot [] ≡ Ok zero_interval
unfolding iv_dot dot_of all_fit
dot-none = refl

-- ---- in sums and differences
-- w is v, and fits
as_it_is : (v w : Interval) → IsInterval v.lo v.hi → v.lo ≡ w.lo → v.hi ≡ w.hi → EndsFit w × (v ≡ w)
as_it_is v w h p q = (
  record {
    low = record { above = omega (arith, ints, h); below = omega (arith, ints, h) };
    high = record { above = omega (arith, ints, h); below = omega (arith, ints, h) };
  },
  ap₂ interval p q,
)

pub add-zero_right : (v : Interval) → IsInterval v.lo v.hi → iv_add v zero_interval ≡ Ok v
add-zero_right v h = sym (added (Ok v) v zero_interval (as_it_is v (sum_of v zero_interval) h (omega (arith, ints)) (omega (arith, ints))) tt)

pub add-zero_left : (v : Interval) → IsInterval v.lo v.hi → iv_add zero_interval v ≡ Ok v
add-zero_left v h = sym (added (Ok v) zero_interval v (as_it_is v (sum_of zero_interval v) h (omega (arith, ints)) (omega (arith, ints))) tt)

pub sub-zero : (v : Interval) → IsInterval v.lo v.hi → iv_sub v zero_interval ≡ Ok v
sub-zero v h = sym (subtracted (Ok v) v zero_interval (as_it_is v (difference_of v zero_interval) h (omega (arith, ints)) (omega (arith, ints))) tt)

-- ---- as the laws say it
pub leaves_out_zero : DotLeavesOutZero
leaves_out_zero = record { none = dot-none; first = dot-zero_first; second = dot-zero_second }

pub zero_is_neutral : ZeroIsNeutral
zero_is_neutral = record { add_right = add-zero_right; add_left = add-zero_left; sub = sub-zero }
