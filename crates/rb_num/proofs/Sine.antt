-- The lesser and the greater of two fractions, the cut, and a pair for each angle.
use Rattle.std.proofs.Common.{◌≡◌, pos, ◌*ℤ◌, Bool, true, false, cond, refl}
use mathlib.Core.Logic.{◌⊎◌, inl, inr}
use Rattle.rb_frac.specs.Frac as F
use Rattle.rb_frac.specs.Frac.{Frac, Same, Le}
use Rattle.rb_frac.specs.Laws.{one}
use Rattle.rb_frac.specs.Ops.{sum}
use Rattle.rb_frac.specs.Positive.{suc_pos}
use Rattle.rb_frac.proofs.FracLaws.{trans_le, antisym_le, total_le, le_same}
use Rattle.rb_frac.proofs.Reduce.{same_refl, same_sym, same_trans}
use Rattle.rb_num.specs.Sine.{minus_one, factorial, power, sine_term, cosine_term, is_le, lesser, greater, cut, sine_sum, cosine_sum, terms, IsBetween}
use Rattle.rb_num.specs.Laws.{IsCut, HasPair}
use Rattle.rb_num.proofs.Refused.{decides_le}

-- the test is true, and x ≤ y; or it is false, and y ≤ x
compared : (x y : Frac) (P : Bool → Type 0) → (Le x y → P true) → (Le y x → P false) → P (is_le x y)
compared x y P f g = go (is_le x y) refl
  where
    other : is_le x y ≡ false → Le y x
    other e = from (total_le x y)
      where
        no : is_le x y ≡ true → ⊥
        no h = cc

        from : Le x y ⊎ Le y x → Le y x
        from (inl h) = absurd (no ((decides_le (x.num *ℤ pos y.den) (y.num *ℤ pos x.den)).1 h))
        from (inr h) = h

    go : (b : Bool) → is_le x y ≡ b → P b
    go true e = f ((decides_le (x.num *ℤ pos y.den) (y.num *ℤ pos x.den)).0 e)
    go false e = g (other e)

refl_le : (x : Frac) → Le x x
refl_le x = from (total_le x x)
  where
    from : Le x x ⊎ Le x x → Le x x
    from (inl h) = h
    from (inr h) = h

pub lesser-le : (x y : Frac) → Le (lesser x y) x
unfolding lesser
lesser-le x y = compared x y (λ b. Le (cond b x y) x) (λ h. refl_le x) (λ h. h)

pub le-greater : (x y : Frac) → Le x (greater x y)
unfolding greater
le-greater x y = compared x y (λ b. Le x (cond b y x)) (λ h. h) (λ h. refl_le x)

-- which of the two it is
lesser_first : (x y : Frac) → Le x y → Same (lesser x y) x
unfolding lesser
lesser_first x y h = compared x y (λ b. Same (cond b x y) x) (λ k. same_refl x) (λ k. antisym_le y x k h)

lesser_second : (x y : Frac) → Le y x → Same (lesser x y) y
unfolding lesser
lesser_second x y h = compared x y (λ b. Same (cond b x y) y) (λ k. antisym_le x y k h) (λ k. same_refl y)

greater_first : (x y : Frac) → Le y x → Same (greater x y) x
unfolding greater
greater_first x y h = compared x y (λ b. Same (cond b y x) x) (λ k. antisym_le y x h k) (λ k. same_refl x)

greater_second : (x y : Frac) → Le x y → Same (greater x y) y
unfolding greater
greater_second x y h = compared x y (λ b. Same (cond b y x) y) (λ k. same_refl y) (λ k. antisym_le x y h k)

-- ---- the cut
ends_ordered : Le minus_one one
unfolding F.whole
ends_ordered = record { le = tt }

cut_inside : (x : Frac) → Le minus_one x → Le x one → Same (cut x) x
unfolding cut
cut_inside x h k =
    let s : Same (lesser x one) x = lesser_first x one k in
    same_trans (cut x) (lesser x one) x (greater_second minus_one (lesser x one) (le_same minus_one minus_one x (lesser x one) (same_refl minus_one) (same_sym (lesser x one) x s) h)) s

cut_above : (x : Frac) → Le one x → Same (cut x) one
unfolding cut
cut_above x h =
    let s : Same (lesser x one) one = lesser_second x one h in
    same_trans (cut x) (lesser x one) one (greater_second minus_one (lesser x one) (le_same minus_one minus_one one (lesser x one) (same_refl minus_one) (same_sym (lesser x one) one s) ends_ordered)) s

cut_below : (x : Frac) → Le x minus_one → Same (cut x) minus_one
unfolding cut
cut_below x h = greater_first minus_one (lesser x one) (trans_le (lesser x one) x minus_one (lesser-le x one) h)

pub is_cut : IsCut
is_cut = record { inside = cut_inside; above = cut_above; below = cut_below }

-- ---- a pair
pub between_first : (x y : Frac) → IsBetween x y x
between_first x y = record { above = lesser-le x y; below = le-greater x y }

pub has_pair : HasPair
has_pair t = (cut (sine_sum t terms), cut (cosine_sum t terms), record { sine = between_first _ _; cosine = between_first _ _ })

-- ---- the sums of two terms at 1/2, worked out by hand: 1/2 - 1/48 and 1 - 1/8
half : Frac
half = record { num = pos 1; den = 2; some = suc_pos 1 }

sine_of_half : Same (sine_sum half 2) record { num = pos 23; den = 48; some = suc_pos 47 }
unfolding half sine_sum sum sine_term power factorial F.quot F.turn F.mul F.add F.whole
sine_of_half = refl

cosine_of_half : Same (cosine_sum half 2) record { num = pos 7; den = 8; some = suc_pos 7 }
unfolding half cosine_sum sum cosine_term power factorial F.quot F.turn F.mul F.add F.whole
cosine_of_half = refl
