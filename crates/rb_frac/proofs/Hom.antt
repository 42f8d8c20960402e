-- What is written over the operations means the same at fractions and at rational numbers.
use mathlib.Core.Path.{◌≡◌, refl, sym, ◌∙◌, ap, ap₂}
use Prim.Native.Nat.{ℕ}
use mathlib.Core.Bool.{true}
use Rattle.rb_frac.specs.Frac as F
use Rattle.rb_frac.specs.Frac.{Frac, Same, fracs}
use Rattle.rb_frac.proofs.Ring.{Expr, var, enul, eone, plus, times, minus, eval, ring, same}
use Rattle.rb_frac.proofs.Rational.{ℚ, ◌+ℚ◌, ◌*ℚ◌, neg_ℚ, rats, qo, cls, exact, sound, cls-add, cls-mul, cls-neg, cls-zero, cls-one}

pub hom : (ρ : ℕ → Frac) (e : Expr) → cls (eval fracs ρ e) ≡ eval qo (λ i. cls (ρ i)) e
hom ρ (var i) = refl
hom ρ enul = cls-zero
hom ρ eone = cls-one
hom ρ (plus a b) = sym (cls-add (eval fracs ρ a) (eval fracs ρ b)) ∙ ap₂ ◌+ℚ◌ (hom ρ a) (hom ρ b)
hom ρ (times a b) = sym (cls-mul (eval fracs ρ a) (eval fracs ρ b)) ∙ ap₂ ◌*ℚ◌ (hom ρ a) (hom ρ b)
hom ρ (minus a) = sym (cls-neg (eval fracs ρ a)) ∙ ap neg_ℚ (hom ρ a)

-- an identity of fractions, by cross-multiplication
pub frac_ring : (ρ : ℕ → Frac) (a b : Expr) → same a b ≡ true → Same (eval fracs ρ a) (eval fracs ρ b)
frac_ring ρ a b h = exact (eval fracs ρ a) (eval fracs ρ b) (hom ρ a ∙ ring rats (λ i. cls (ρ i)) a b h ∙ sym (hom ρ b))

pub cls_of_add : (x y : Frac) → cls (F.add x y) ≡ cls x +ℚ cls y
cls_of_add x y = sym (cls-add x y)

pub cls_of_mul : (x y : Frac) → cls (F.mul x y) ≡ cls x *ℚ cls y
cls_of_mul x y = sym (cls-mul x y)

pub cls_of_neg : (x : Frac) → cls (F.neg x) ≡ neg_ℚ (cls x)
cls_of_neg x = sym (cls-neg x)

pub cls_of_sub : (x y : Frac) → cls (F.sub x y) ≡ cls x +ℚ neg_ℚ (cls y)
unfolding F.sub
cls_of_sub x y = sym (cls-add x (F.neg y)) ∙ ap (λ t. cls x +ℚ t) (sym (cls-neg y))

-- the class of a nest of operations, outside in
pub ruleset inside = (cls_of_add, cls_of_mul, cls_of_neg, cls_of_sub, cls-zero, cls-one)
