-- A goal from equations: the difference of its sides is a sum of multiples of the equations' differences.
use mathlib.Core.Path.{◌≡◌, refl, sym, ◌∙◌, ap, ap₂}
use Prim.Native.Nat.{ℕ}
use mathlib.Core.List.{List, [], ◌∷◌}
use mathlib.Core.Bool.{true}
use Rattle.rb_frac.proofs.Ring.{CommRing, Expr, enul, plus, times, minus, eval, ring, same, mul_nul, add_cancel}

-- an equation and what it is multiplied by
pub record Use : Type 0 where
  pub by : Expr
  pub left : Expr
  pub right : Expr

abbrev pub total : List Use → Expr
total [] = enul
total (u ∷ us) = plus (times u.by (plus u.left (minus u.right))) (total us)

module _ {A : Type 0} (R : CommRing A) (ρ : ℕ → A) where
  -- the equations, each with a proof, in pairs: (h₁, (h₂, tt))
  abbrev pub Given : List Use → Type 0
  Given [] = Unit {0}
  Given (u ∷ us) = (eval R.ops ρ u.left ≡ eval R.ops ρ u.right) × Given us

  total-nul : (us : List Use) → Given us → eval R.ops ρ (total us) ≡ R.ops.nul
  total-nul [] h = refl
  total-nul (u ∷ us) h = ap₂ (λ s t. R.ops.add (R.ops.mul (eval R.ops ρ u.by) (R.ops.add s (R.ops.neg (eval R.ops ρ u.right)))) t) h.0 (total-nul us h.1) ∙ ap (λ s. R.ops.add (R.ops.mul (eval R.ops ρ u.by) s) R.ops.nul) (R.add_neg (eval R.ops ρ u.right)) ∙ R.add_nul (R.ops.mul (eval R.ops ρ u.by) R.ops.nul) ∙ mul_nul R (eval R.ops ρ u.by)

  pub combine : (l r : Expr) (us : List Use) → same (plus l (minus r)) (total us) ≡ true → Given us → eval R.ops ρ l ≡ eval R.ops ρ r
  combine l r us c h = add_cancel R (R.ops.neg (eval R.ops ρ r)) (eval R.ops ρ l) (eval R.ops ρ r)
      (R.add_comm (R.ops.neg (eval R.ops ρ r)) (eval R.ops ρ l) ∙ ring R ρ (plus l (minus r)) (total us) c ∙ total-nul us h ∙ sym (R.add_comm (R.ops.neg (eval R.ops ρ r)) (eval R.ops ρ r) ∙ R.add_neg (eval R.ops ρ r)))
