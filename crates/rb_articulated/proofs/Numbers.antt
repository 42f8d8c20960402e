-- How a column gives way, in numbers.
use Rattle.std.proofs.Common.{◌≡◌, [], ◌∷◌, refl}
use Rattle.rb_frac.proofs.Ring.{var, eone, plus, times, minus}
use Rattle.rb_frac.proofs.Vec.{nth}
use Rattle.rb_frac.proofs.Combine.{combine}
use Rattle.rb_frac.proofs.Rational.{ℚ, ◌+ℚ◌, ◌*ℚ◌, neg_ℚ, 0ℚ, 1ℚ, rats}

-- the torque s of the column, of which y comes from the acceleration before it, x d from its own, and b from the bias; what is left of it, u
module _ (s y x d b tau u : ℚ) (whole : s ≡ (y +ℚ x *ℚ d) +ℚ b) (left : u ≡ tau +ℚ neg_ℚ b) where
  pub balanced : s ≡ tau → x *ℚ d ≡ u +ℚ neg_ℚ y
  balanced given =
      combine rats (nth 0ℚ (s ∷ y ∷ x ∷ d ∷ b ∷ tau ∷ u ∷ []))
      (times (var 2) (var 3)) (plus (var 6) (minus (var 1)))
      (record { by = minus eone; left = var 0; right = plus (plus (var 1) (times (var 2) (var 3))) (var 4) }
      ∷ record { by = minus eone; left = var 6; right = plus (var 5) (minus (var 4)) }
      ∷ record { by = eone; left = var 0; right = var 5 } ∷ [])
      refl (whole, (left, (given, tt)))

  pub torque_met : x *ℚ d ≡ u +ℚ neg_ℚ y → s ≡ tau
  torque_met balance =
      combine rats (nth 0ℚ (s ∷ y ∷ x ∷ d ∷ b ∷ tau ∷ u ∷ []))
      (var 0) (var 5)
      (record { by = eone; left = var 0; right = plus (plus (var 1) (times (var 2) (var 3))) (var 4) }
      ∷ record { by = eone; left = var 6; right = plus (var 5) (minus (var 4)) }
      ∷ record { by = eone; left = times (var 2) (var 3); right = plus (var 6) (minus (var 1)) } ∷ [])
      refl (whole, (left, (balance, tt)))

-- at any motion: the power f, of which g comes from the inertia at the acceleration before the column, x h from the column, and b from the bias; the
-- same g' and b' once it has given way. Here v is one over the pivot, and y' and h' are y and h times it.
pub given_way : (f g x h b g' b' v d u y y' h' : ℚ) →
    f ≡ (g +ℚ x *ℚ h) +ℚ b → g' ≡ neg_ℚ y' *ℚ h +ℚ g → b' ≡ b +ℚ u *ℚ h' →
    y' ≡ v *ℚ y → h' ≡ v *ℚ h → v *ℚ d ≡ 1ℚ → x *ℚ d ≡ u +ℚ neg_ℚ y →
    f ≡ g' +ℚ b'
given_way f g x h b g' b' v d u y y' h' whole inertia bias first second inverse balance =
    combine rats (nth 0ℚ (f ∷ g ∷ x ∷ h ∷ b ∷ g' ∷ b' ∷ v ∷ d ∷ u ∷ y ∷ y' ∷ h' ∷ []))
    (var 0) (plus (var 5) (var 6))
    (record { by = eone; left = var 0; right = plus (plus (var 1) (times (var 2) (var 3))) (var 4) }
    ∷ record { by = minus eone; left = var 5; right = plus (times (minus (var 11)) (var 3)) (var 1) }
    ∷ record { by = minus eone; left = var 6; right = plus (var 4) (times (var 9) (var 12)) }
    ∷ record { by = var 3; left = var 11; right = times (var 7) (var 10) }
    ∷ record { by = minus (var 9); left = var 12; right = times (var 7) (var 3) }
    ∷ record { by = minus (times (var 2) (var 3)); left = times (var 7) (var 8); right = eone }
    ∷ record { by = times (var 7) (var 3); left = times (var 2) (var 8); right = plus (var 9) (minus (var 10)) } ∷ [])
    refl (whole, (inertia, (bias, (first, (second, (inverse, (balance, tt)))))))
