-- What `sin_cos` answers, from what each of its steps does.
use Rattle.std.proofs.Common.{◌≡◌, ◌+◌, ◌↔◌, Bool, true, false, cond, Result, Ok, Err, IfOk, refl, sym, subst}
use Rattle.std.specs.Result.{IsErr}
use Rattle.std.specs.Bool.{Decides}
use Rattle.std.proofs.lemmas.Bool.Decides.{Decides-and, Decides-like}
use Rattle.rb_num.specs.Interval.{Interval}
use Rattle.rb_num.specs.Hull.{hull_of}
use Rattle.rb_num.specs.Sine.{terms}
use Rattle.rb_num.proofs.Refused.{decides_le}
use Rattle.rb_trig.specs.declared.sine.AngleRange.{AngleRange}
use Rattle.rb_trig.specs.Ends.{clamped}
use Rattle.rb_trig.specs.Sine.{IsAngle, is_angle, square_of, sines, cosines, sine_of, cosine_of, sin_cos_of, Encloses}
use Rattle.rb_trig.proofs.Encloses.{encloses}

pub sine_is : (t u a b h r : Interval) → u ≡ square_of t → a ≡ sines t u terms → b ≡ sines t u (terms + 1) → h ≡ hull_of a b → r ≡ clamped h → r ≡ sine_of t
unfolding sine_of
sine_is t u a b h r e p q f g = cc

pub cosine_is : (t u a b h r : Interval) → u ≡ square_of t → a ≡ cosines u terms → b ≡ cosines u (terms + 1) → h ≡ hull_of a b → r ≡ clamped h → r ≡ cosine_of t
unfolding cosine_of
cosine_is t u a b h r e p q f g = cc

decides_angle : (t : Interval) → Decides (is_angle t) (IsAngle t)
decides_angle t = Decides-like _ (λ p. record { low = p.0; high = p.1 }) (λ a. (a.low, a.high)) (Decides-and _ _ (decides_le _ _) (decides_le _ _))

abbrev Answer : Type 0
Answer = Result (Interval × Interval) AngleRange

abbrev chosen : Interval → Bool → Answer
chosen t b = cond b (Ok (sine_of t, cosine_of t)) (Err (record {}))

no : false ≡ true → ⊥
no e = cc

pub answered : (t s c : Interval) → IsAngle t → s ≡ sine_of t → c ≡ cosine_of t → ◌≡◌ {A = Answer} (Ok (s, c)) (sin_cos_of t)
unfolding sin_cos_of
answered t s c h p q = go (is_angle t) (decides_angle t)
  where
    pair : ◌≡◌ {A = Answer} (Ok (s, c)) (Ok (sine_of t, cosine_of t))
    pair = cc

    go : (b : Bool) → Decides b (IsAngle t) → ◌≡◌ {A = Answer} (Ok (s, c)) (chosen t b)
    go true d = pair
    go false d = absurd (no (d.1 h))

pub refused : (t : Interval) → ¬ IsAngle t → ◌≡◌ {A = Answer} (Err (record {})) (sin_cos_of t)
unfolding sin_cos_of
refused t n = go (is_angle t) (decides_angle t)
  where
    go : (b : Bool) → Decides b (IsAngle t) → ◌≡◌ {A = Answer} (Err (record {})) (chosen t b)
    go true d = absurd (n (d.0 refl))
    go false d = refl

pub ranges : (t : Interval) (r : Answer) → r ≡ sin_cos_of t → IsErr r ↔ (¬ IsAngle t)
unfolding sin_cos_of
ranges t r e = subst (λ (x : Answer). IsErr x ↔ (¬ IsAngle t)) (sym e) (go (is_angle t) (decides_angle t))
  where
    go : (b : Bool) → Decides b (IsAngle t) → IsErr (chosen t b) ↔ (¬ IsAngle t)
    go true d = (λ h. absurd (no h), λ n. absurd (n (d.0 refl)))
    go false d = (λ h a. no (d.1 a), λ n. refl)

pub result_encloses : (t : Interval) (r : Answer) → r ≡ sin_cos_of t → IfOk r (Encloses t)
unfolding sin_cos_of
result_encloses t r e = subst (λ (x : Answer). IfOk x (Encloses t)) (sym e) (go (is_angle t))
  where
    go : (b : Bool) → IfOk (chosen t b) (Encloses t)
    go true = encloses t
    go false = tt
