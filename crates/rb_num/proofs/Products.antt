-- The least and the greatest of the four products of ends, as `product_ends` finds them.
use Rattle.std.proofs.Common.{◌≡◌, ℤ, ◌*ℤ◌, ap, ◌∙◌, sym, subst, refl, to_z, of_z, arith}
use mir.Syntax.{w128}
use mir.Val.{SFits}
use Rattle.rb_num.specs.Interval.{Interval, IsWithin}
use Rattle.rb_num.proofs.Ends.{read, both}
use Rattle.std.proofs.lemmas.Int.{ints}

pub same_product : {a b c d : ℤ} → a ≡ c → b ≡ d → a *ℤ b ≡ c *ℤ d
same_product {a} {b} {c} {d} p q = ap (λ (t : ℤ). t *ℤ b) p ∙ ap (λ (t : ℤ). c *ℤ t) q

pub within_at : {a b : ℤ} → a ≡ b → IsWithin a → IsWithin b
within_at p h = subst IsWithin p h

pub within_fits : {z : ℤ} → IsWithin z → SFits w128 z
within_fits h = omega (arith, ints, h)

-- what `product` says, of the numbers that its arguments and its result are
pub product_at : {x y x' y' z : ℤ} → x ≡ x' → y ≡ y' → IsWithin (x *ℤ y) × (z ≡ x *ℤ y) → IsWithin (x' *ℤ y') × (to_z w128 (of_z w128 z) ≡ x' *ℤ y')
product_at {x} {y} {x'} {y'} {z} p q h =
    let e = same_product p q in
    (within_at e h.0, read z (within_fits (within_at (sym h.1) h.0)) (h.1 ∙ e))

-- the least and the greatest of four products are a function of the four, which are the products of ends
pub four_is : (f : ℤ → ℤ → ℤ) (p : Interval × Interval) (ll lh hl hh r : ℤ) → SFits w128 r
    → r ≡ f (f ll lh) (f hl hh)
    → ll ≡ p.0.lo *ℤ p.1.lo → lh ≡ p.0.lo *ℤ p.1.hi → hl ≡ p.0.hi *ℤ p.1.lo → hh ≡ p.0.hi *ℤ p.1.hi
    → to_z w128 (of_z w128 r) ≡ f (f (p.0.lo *ℤ p.1.lo) (p.0.lo *ℤ p.1.hi)) (f (p.0.hi *ℤ p.1.lo) (p.0.hi *ℤ p.1.hi))
four_is f p ll lh hl hh r s e a b c d = read r s (e ∙ both f (both f a b) (both f c d))

pub same_pair : {a b c d : ℤ} → a ≡ c → b ≡ d → ◌≡◌ {A = ℤ × ℤ} (a, b) (c, d)
same_pair {a} {b} {c} {d} p q = subst (λ (x : ℤ). ◌≡◌ {A = ℤ × ℤ} (a, b) (x, d)) p (subst (λ (y : ℤ). ◌≡◌ {A = ℤ × ℤ} (a, b) (a, y)) q refl)
