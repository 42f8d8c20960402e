-- What steps under names tell, where they answer and where they are refused.
use Rattle.std.proofs.Common.{◌≡◌, Bool, true, false, cond, Result, Ok, Err, inl, inr, refl}
use Rattle.rb_result.specs.Steps.{◌>>=◌}
use Rattle.rb_result.proofs.Results.{same_ok, then-ok, then-err, told-ok, told-err, unless-ok, unless-err, not-both}
use Rattle.rb_num.specs.declared.interval.NumFault.{NumFault}
use Rattle.rb_num.specs.declared.interval.NumFault.TheVariants as N
use Rattle.rb_num.specs.Interval.{Interval}
use Rattle.rb_num.specs.Dot.{all_fit, dot_of, iv_dot}
use Rattle.rb_num.specs.Refusing.{has_zero, quotient_fits, iv_div}
use Rattle.rb_num.specs.Quotient.{HasZero, quotient_of}
use Rattle.rb_num.proofs.Refused.{decides_zero}
use Rattle.rb_work.specs.declared.names.Name.{Name}
use Rattle.rb_work.specs.declared.names.RowFault.{RowFault}
use Rattle.rb_work.specs.declared.names.RowFault.TheVariants.{Size, Pivot}
use Rattle.rb_work.specs.Names.{named_as, pivot_as}
use Rattle.rb_factor.specs.Steps.{with_product}

zero_told : (v : Interval) → has_zero v ≡ true → HasZero v
zero_told v e = (decides_zero v).0 e

nonzero_told : (v : Interval) → has_zero v ≡ false → ¬ HasZero v
nonzero_told v e h = let k : has_zero v ≡ true = (decides_zero v).1 h in absurd cc

-- ---- steps on intervals
pub product_size : (a m b : Interval) (f : NumFault) → with_product a m b ≡ Err f → with_product a m b ≡ Err N.Size
unfolding iv_dot
product_size a m b f h =
    let p = unless_else (all_fit _) (dot_of _) f h in
    p
  where
    unless_else : (c : Bool) (v : Interval) (f : NumFault) → cond c (Ok v) (Err N.Size) ≡ Err f → cond c (Ok v) (Err N.Size) ≡ Err N.Size
    unless_else true v f h = absurd cc
    unless_else false v f h = refl

pub divisor_told : (a b q : Interval) → iv_div a b ≡ Ok q → ¬ HasZero b
unfolding iv_div
divisor_told a b q h =
    nonzero_told b (unless-ok (has_zero b) N.Zero (cond (quotient_fits a) (Ok (quotient_of a b)) (Err N.Size)) q h).0

pub quotient_size : (a b : Interval) (f : NumFault) → ¬ HasZero b → iv_div a b ≡ Err f → iv_div a b ≡ Err N.Size
unfolding iv_div
quotient_size a b f n h = go (has_zero b) refl h
  where
    go : (c : Bool) → has_zero b ≡ c → cond c (Err N.Zero) (cond (quotient_fits a) (Ok (quotient_of a b)) (Err N.Size)) ≡ Err f
        → cond c (Err N.Zero) (cond (quotient_fits a) (Ok (quotient_of a b)) (Err N.Size)) ≡ Err N.Size
    go true e h = absurd (n (zero_told b e))
    go false e h = fits (quotient_fits a) h
      where
        fits : (d : Bool) → cond d (Ok (quotient_of a b)) (Err N.Size) ≡ Err f → cond d (Ok (quotient_of a b)) (Err N.Size) ≡ Err N.Size
        fits true h = absurd cc
        fits false h = refl

-- ---- pivots
pub pivot_told : (name : Name) (v p : Interval) → pivot_as name v ≡ Ok p → (¬ HasZero v) × (v ≡ p)
pivot_told name v p h = let q = unless-ok (has_zero v) (Pivot name v) (Ok v) p h in (nonzero_told v q.0, same_ok v p q.1)

pub pivot_refused : (name : Name) (v : Interval) (e : RowFault) → pivot_as name v ≡ Err e → HasZero v × (Pivot name v ≡ e)
pivot_refused name v e h =
    elim (unless-err (has_zero v) (Pivot name v) (Ok v) e h) [
      | inl q ↦ (zero_told v q.0, q.1)
      | inr q ↦ absurd (not-both (Ok v) v e refl q.1)
    ]

-- ---- a step under a name, and what is made of its value
module _ {A B : Type 0} (name : Name) (r : Result A NumFault) (f : A → B) where
  make : A → Result B RowFault
  make x = Ok (f x)

  pub made : (y : B) → (named_as name r >>= λ x. Ok (f x)) ≡ Ok y → (x : A) × (r ≡ Ok x) × (f x ≡ y)
  unfolding make
  made y h = let p = then-ok (named_as name r) make y h in (p.0, told-ok (λ e. Size name) r p.0 p.1, same_ok (f p.0) y p.2)

  pub not_made : (e : RowFault) → (named_as name r >>= λ x. Ok (f x)) ≡ Err e → (d : NumFault) × (r ≡ Err d) × (Size name ≡ e)
  unfolding make
  not_made e h =
      elim (then-err (named_as name r) make e h) [
        | inl q ↦ told-err (λ d. Size name) r e q
        | inr q ↦ absurd (not-both (make q.0) (f q.0) e refl q.2)
      ]
