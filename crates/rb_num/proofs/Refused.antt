-- The two ways to say a refusal are one: the tests of `Refusing` and `Dot` decide the conditions, so that a contract by cases is an equation.
use Rattle.std.proofs.Common.{◌≡◌, ℤ, ◌≤ℤ◌, List, Bool, true, false, cond, Result, Ok, Err, OkIff, IfOk, IfErr, refl, ap, T}
use Rattle.std.specs.Bool.{Decides}
use Rattle.std.specs.Int.Signed.{le_z, ◌≤ℤ◌}
use Rattle.std.proofs.lemmas.Bool.Decides.{Decides-and, Decides-like, Decides-by_and}
use Rattle.rb_num.specs.declared.interval.NumFault.{NumFault}
use Rattle.rb_num.specs.declared.interval.NumFault.TheVariants.{Size, Zero}
use Rattle.rb_num.specs.Interval.{Interval, IsWithin, EndsFit, sum_of, difference_of}
use Rattle.rb_num.specs.Quotient.{HasZero, QuotientFits, IsQuotientFault, quotient_of}
use Rattle.rb_num.specs.Refusing.{ends_fit, has_zero, quotient_fits, iv_add, iv_sub, iv_div}
use Rattle.rb_num.specs.Hull.{Meet, do_meet}
use Rattle.rb_num.specs.Dot.{is_within, products_fit, all_fit, iv_dot, dot_of, ProductsFit, DotFits}

yes : (b : Bool) → b ≡ true → T b
yes true h = tt
yes false h = cc

back : (b : Bool) → T b → b ≡ true
back true h = refl
back false h = absurd h

pub decides_le : (a b : ℤ) → Decides (le_z a b) (a ≤ℤ b)
decides_le a b = (λ h. record { le = yes (le_z a b) h }, λ h. back (le_z a b) h.le)

pub decides_within : (z : ℤ) → Decides (is_within z) (IsWithin z)
decides_within z = Decides-like _ (λ p. record { above = p.0; below = p.1 }) (λ w. (w.above, w.below)) (Decides-and _ _ (decides_le _ _) (decides_le _ _))

pub decides_products : (p : Interval × Interval) → Decides (products_fit p) (ProductsFit p)
unfolding products_fit
decides_products p =
    Decides-like _ (λ q. record { lo_lo = q.0.0; lo_hi = q.0.1; hi_lo = q.1.0; hi_hi = q.1.1 }) (λ w. ((w.lo_lo, w.lo_hi), (w.hi_lo, w.hi_hi)))
    (Decides-and _ _ (Decides-and _ _ (decides_within _) (decides_within _)) (Decides-and _ _ (decides_within _) (decides_within _)))

pub decides_fit : (ps : List (Interval × Interval)) → Decides (all_fit ps) (DotFits ps)
unfolding all_fit
decides_fit ps = Decides-like _ (λ a. record { each = a }) (λ f. f.each) (Decides-by_and products_fit ProductsFit all_fit decides_products refl (λ _ _. refl) ps)

decided : (r : Result Interval NumFault) (b : Bool) (P : Type 0) (v : Interval) → Decides b P → OkIff r P v → IfErr r (λ e. e ≡ Size) → r ≡ cond b (Ok v) (Err Size)
decided (Ok x) true P v d h k = ap Ok h.1
decided (Ok x) false P v d h k = absurd (no (d.1 h.0))
  where
    no : false ≡ true → ⊥
    no e = cc
decided (Err e) true P v d h k = absurd (h (d.0 refl))
decided (Err e) false P v d h k = ap Err k

-- the contract by cases, as one equation
pub result_is : (r : Result Interval NumFault) (ps : List (Interval × Interval)) → OkIff r (DotFits ps) (dot_of ps) → IfErr r (λ e. e ≡ Size) → r ≡ iv_dot ps
unfolding iv_dot
result_is r ps h k = decided r (all_fit ps) (DotFits ps) (dot_of ps) (decides_fit ps) h k

pub ok_is : (ps : List (Interval × Interval)) (v : Interval) → DotFits ps → v ≡ dot_of ps → Ok v ≡ iv_dot ps
ok_is ps v h e = result_is (Ok v) ps (h, e) tt

-- and back
pub is_ok : (ps : List (Interval × Interval)) (v : Interval) → iv_dot ps ≡ Ok v → DotFits ps × (v ≡ dot_of ps)
unfolding iv_dot
is_ok ps v e = go (all_fit ps) (decides_fit ps) e
  where
    go : (b : Bool) → Decides b (DotFits ps) → cond b (Ok (dot_of ps)) (Err Size) ≡ Ok v → DotFits ps × (v ≡ dot_of ps)
    go true d h = (d.0 refl, cc)
    go false d h = absurd cc

-- what holds of the sum holds of the result, if there is one
pub if_ok : (ps : List (Interval × Interval)) (P : Interval → Type 0) → P (dot_of ps) → IfOk (iv_dot ps) P
unfolding iv_dot
if_ok ps P h = go (all_fit ps)
  where
    go : (b : Bool) → IfOk (cond b (Ok (dot_of ps)) (Err Size)) P
    go true = h
    go false = tt

-- ---- sums, differences and quotients
decides_ends : (v : Interval) → Decides (ends_fit v) (EndsFit v)
decides_ends v = Decides-like _ (λ p. record { low = p.0; high = p.1 }) (λ w. (w.low, w.high)) (Decides-and _ _ (decides_within _) (decides_within _))

pub decides_zero : (v : Interval) → Decides (has_zero v) (HasZero v)
decides_zero v = Decides-like _ (λ p. record { low = p.0; high = p.1 }) (λ w. (w.low, w.high)) (Decides-and _ _ (decides_le _ _) (decides_le _ _))

pub decides_meet : (a b : Interval) → Decides (do_meet a b) (Meet a b)
unfolding do_meet
decides_meet a b = Decides-like _ (λ p. record { left = p.0; right = p.1 }) (λ w. (w.left, w.right)) (Decides-and _ _ (decides_le _ _) (decides_le _ _))

pub added : (r : Result Interval NumFault) (a b : Interval) → OkIff r (EndsFit (sum_of a b)) (sum_of a b) → IfErr r (λ e. e ≡ Size) → r ≡ iv_add a b
unfolding iv_add
added r a b h k = decided r (ends_fit (sum_of a b)) (EndsFit (sum_of a b)) (sum_of a b) (decides_ends _) h k

pub subtracted : (r : Result Interval NumFault) (a b : Interval) → OkIff r (EndsFit (difference_of a b)) (difference_of a b) → IfErr r (λ e. e ≡ Size) → r ≡ iv_sub a b
unfolding iv_sub
subtracted r a b h k = decided r (ends_fit (difference_of a b)) (EndsFit (difference_of a b)) (difference_of a b) (decides_ends _) h k

pub divided : (r : Result Interval NumFault) (a b : Interval) → OkIff r (QuotientFits a b) (quotient_of a b) → IfErr r (IsQuotientFault b) → r ≡ iv_div a b
unfolding iv_div
divided r a b h k = go r (has_zero b) (decides_zero b) h k
  where
    fits : ¬ HasZero b → Decides (quotient_fits a) (QuotientFits a b)
    fits n = Decides-like _ (λ p. record { nonzero = n; low = p.0; high = p.1 }) (λ w. (w.low, w.high)) (Decides-and _ _ (decides_within _) (decides_within _))

    no : (c : Bool) → c ≡ false → c ≡ true → ⊥
    no c e f = cc

    go : (r : Result Interval NumFault) (c : Bool) → Decides c (HasZero b) → OkIff r (QuotientFits a b) (quotient_of a b) → IfErr r (IsQuotientFault b) → r ≡ cond c (Err Zero) (cond (quotient_fits a) (Ok (quotient_of a b)) (Err Size))
    go (Ok v) true d h k = absurd (h.0.nonzero (d.0 refl))
    go (Ok v) false d h k = decided (Ok v) (quotient_fits a) (QuotientFits a b) (quotient_of a b) (fits h.0.nonzero) h tt
    go (Err Zero) true d h k = refl
    go (Err Size) true d h k = absurd (k (d.0 refl))
    go (Err Zero) false d h k = absurd (no false refl (d.1 k))
    go (Err Size) false d h k = decided (Err Size) (quotient_fits a) (QuotientFits a b) (quotient_of a b) (fits k) h refl

choose : (b : Bool) (v : Interval) (P : Interval → Type 0) → P v → IfOk (cond b (Ok v) (Err Size)) P
choose true v P h = h
choose false v P h = tt

pub if_added : (a b : Interval) (P : Interval → Type 0) → P (sum_of a b) → IfOk (iv_add a b) P
unfolding iv_add
if_added a b P h = choose (ends_fit (sum_of a b)) _ P h

pub if_subtracted : (a b : Interval) (P : Interval → Type 0) → P (difference_of a b) → IfOk (iv_sub a b) P
unfolding iv_sub
if_subtracted a b P h = choose (ends_fit (difference_of a b)) _ P h

pub if_divided : (a b : Interval) (P : Interval → Type 0) → (¬ HasZero b → P (quotient_of a b)) → IfOk (iv_div a b) P
unfolding iv_div
if_divided a b P h = go (has_zero b) (decides_zero b)
  where
    no : false ≡ true → ⊥
    no e = cc

    go : (c : Bool) → Decides c (HasZero b) → IfOk (cond c (Err Zero) (cond (quotient_fits a) (Ok (quotient_of a b)) (Err Size))) P
    go true d = tt
    go false d = choose (quotient_fits a) _ P (h (λ z. no (d.1 z)))
