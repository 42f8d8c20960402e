-- Identities proved with no expression written: `simp` finds it.
use mathlib.Core.Path.{◌≡◌, refl}
use Prim.Native.Nat.{ℕ}
use mathlib.Core.List.{[], ◌∷◌}
use mathlib.Core.Bool.{true}
use Rattle.rb_frac.proofs.Ring.{Expr, var, plus, times, minus, eval, ring, same}
use Rattle.rb_frac.proofs.Vec.{nth}
use Rattle.rb_frac.proofs.Rational.{ℚ, ◌+ℚ◌, ◌*ℚ◌, neg_ℚ, 0ℚ, rats, qo}

pub ev : (ℕ → ℚ) → Expr → ℚ
ev ρ e = eval qo ρ e

pub ev-plus : (ρ : ℕ → ℚ) (a b : Expr) → ev ρ a +ℚ ev ρ b ≡ ev ρ (plus a b)
unfolding ev
ev-plus ρ a b = refl

pub ev-times : (ρ : ℕ → ℚ) (a b : Expr) → ev ρ a *ℚ ev ρ b ≡ ev ρ (times a b)
unfolding ev
ev-times ρ a b = refl

pub ev-minus : (ρ : ℕ → ℚ) (a : Expr) → neg_ℚ (ev ρ a) ≡ ev ρ (minus a)
unfolding ev
ev-minus ρ a = refl

pub finish : (ρ : ℕ → ℚ) (a b : Expr) → same a b ≡ true → ev ρ a ≡ ev ρ b
unfolding ev
finish ρ a b h = ring rats ρ a b h

pub ruleset quote = (ev-plus, ev-times, ev-minus)

pub with2 : {G : Type 0} (x y : ℚ) → ((ρ : ℕ → ℚ) → x ≡ ev ρ (var 0) → y ≡ ev ρ (var 1) → G) → G
unfolding ev
with2 x y k = k (nth 0ℚ (x ∷ y ∷ [])) refl refl

pub with3 : {G : Type 0} (x y z : ℚ) → ((ρ : ℕ → ℚ) → x ≡ ev ρ (var 0) → y ≡ ev ρ (var 1) → z ≡ ev ρ (var 2) → G) → G
unfolding ev
with3 x y z k = k (nth 0ℚ (x ∷ y ∷ z ∷ [])) refl refl refl

pub with4 : {G : Type 0} (x y z w : ℚ) → ((ρ : ℕ → ℚ) → x ≡ ev ρ (var 0) → y ≡ ev ρ (var 1) → z ≡ ev ρ (var 2) → w ≡ ev ρ (var 3) → G) → G
unfolding ev
with4 x y z w k = k (nth 0ℚ (x ∷ y ∷ z ∷ w ∷ [])) refl refl refl refl

pub with9 : {G : Type 0} (a b c d e f g h i : ℚ) → ((ρ : ℕ → ℚ) → a ≡ ev ρ (var 0) → b ≡ ev ρ (var 1) → c ≡ ev ρ (var 2) → d ≡ ev ρ (var 3) → e ≡ ev ρ (var 4) → f ≡ ev ρ (var 5) → g ≡ ev ρ (var 6) → h ≡ ev ρ (var 7) → i ≡ ev ρ (var 8) → G) → G
unfolding ev
with9 a b c d e f g h i k = k (nth 0ℚ (a ∷ b ∷ c ∷ d ∷ e ∷ f ∷ g ∷ h ∷ i ∷ [])) refl refl refl refl refl refl refl refl refl
