-- The rational numbers: reduced fractions, with ≡ for equality.
use mathlib.Core.Path.{◌≡◌, refl, sym, ◌∙◌, ap, ap₂, subst}
use mathlib.Core.HLevel.{is_prop→PathP}
use mathlib.Core.Logic.{◌⊎◌, inl, inr, ◌↔◌}
use Prim.Native.Nat.{ℕ, zero, suc, ◌*◌, ◌<◌}
use mathlib.Core.List.{[], ◌∷◌}
use native.Mathlib.Bridge.{le_prop}
use native.Mathlib.Nat.{ℕ_set}
use native.Mathlib.Omega.{arith}
use Rattle.rb_frac.specs.Positive.{suc_pos}
use lib.IntN.{ℤ, pos, negsuc, ◌+ℤ◌, ◌-ℤ◌, ◌*ℤ◌, neg_ℤ, ℤ_set, ℤ_discrete, zero-*ℤ}
use Rattle.rb_frac.proofs.Ring.{Ops, CommRing, Expr, var, enul, eone, plus, times, minus, ring}
use Rattle.rb_frac.proofs.Vec.{nth}
use Rattle.rb_frac.proofs.Whole.{whole as whole_ring, cancel, neg-mul, NonNeg, NonNeg-add, NonNeg-mul, NonNeg_total, null_from_NonNeg, NonNeg_cancel, le-diff, diff-le}
use Rattle.rb_frac.proofs.Reduce.{norm, norm-same, norm_equal, norm-norm, same_trans}
use Rattle.rb_frac.specs.Frac as F
use Rattle.rb_frac.specs.Frac.{Frac, Same, Le, turn, quot}

pub record ℚ : Type 0 where
  pub rep : Frac
  pub reduced : norm rep ≡ rep

pub Frac_set : IsSet Frac
Frac_set = hlevel (ℤ_set, ℕ_set, le_prop)

pub rat_path : (p q : ℚ) → p.rep ≡ q.rep → p ≡ q
rat_path p q e = λ i. record { rep = e i; reduced = is_prop→PathP (λ j. norm (e j) ≡ e j) (λ j. Frac_set (norm (e j)) (e j)) p.reduced q.reduced i }

-- ---- the class of a fraction
pub cls : Frac → ℚ
cls x = record { rep = norm x; reduced = norm-norm x }

pub sound : (x y : Frac) → Same x y → cls x ≡ cls y
unfolding cls
sound x y h = rat_path (cls x) (cls y) (norm_equal x y h)

pub rep-cls : (x : Frac) → Same (cls x).rep x
unfolding cls
rep-cls x = norm-same x

pub exact : (x y : Frac) → cls x ≡ cls y → Same x y
exact x y e = same_trans x (cls x).rep y (sym (rep-cls x)) (subst (λ (q : ℚ). Same q.rep y) (sym e) (rep-cls y))

pub cls-rep : (q : ℚ) → cls q.rep ≡ q
unfolding cls
cls-rep q = rat_path (cls q.rep) q q.reduced

pub by_cls : (P : ℚ → Type 0) → ((x : Frac) → P (cls x)) → (q : ℚ) → P q
by_cls P f q = subst P (cls-rep q) (f q.rep)

-- ---- operations
infixl 6 ◌+ℚ◌
pub ◌+ℚ◌ : ℚ → ℚ → ℚ
p +ℚ q = cls (F.add p.rep q.rep)

infixl 7 ◌*ℚ◌
pub ◌*ℚ◌ : ℚ → ℚ → ℚ
p *ℚ q = cls (F.mul p.rep q.rep)

pub neg_ℚ : ℚ → ℚ
neg_ℚ p = cls (F.neg p.rep)

pub 0ℚ : ℚ
0ℚ = cls (F.whole (pos 0))

pub 1ℚ : ℚ
1ℚ = cls (F.whole (pos 1))

pub inv : ℚ → ℚ
inv p = cls (turn p.rep.num p.rep.den)

pub add_same : (x x' y y' : Frac) → Same x x' → Same y y' → Same (F.add x y) (F.add x' y')
unfolding F.add
add_same x x' y y' h k = out x.num (pos x.den) y.num (pos y.den) (pos x'.den) (pos y'.den) ∙ ap₂ (λ s t. s *ℤ (pos y.den *ℤ pos y'.den) +ℤ t *ℤ (pos x.den *ℤ pos x'.den)) h k ∙ back x'.num (pos x.den) y'.num (pos y.den) (pos x'.den) (pos y'.den)
  where
    out : (a b c d b' d' : ℤ) → (a *ℤ d +ℤ c *ℤ b) *ℤ (b' *ℤ d') ≡ (a *ℤ b') *ℤ (d *ℤ d') +ℤ (c *ℤ d') *ℤ (b *ℤ b')
    out a b c d b' d' = ring whole_ring (nth (pos 0) (a ∷ b ∷ c ∷ d ∷ b' ∷ d' ∷ []))
        (times (plus (times (var 0) (var 3)) (times (var 2) (var 1))) (times (var 4) (var 5)))
        (plus (times (times (var 0) (var 4)) (times (var 3) (var 5))) (times (times (var 2) (var 5)) (times (var 1) (var 4)))) refl

    back : (a' b c' d b' d' : ℤ) → (a' *ℤ b) *ℤ (d *ℤ d') +ℤ (c' *ℤ d) *ℤ (b *ℤ b') ≡ (a' *ℤ d' +ℤ c' *ℤ b') *ℤ (b *ℤ d)
    back a' b c' d b' d' = ring whole_ring (nth (pos 0) (a' ∷ b ∷ c' ∷ d ∷ b' ∷ d' ∷ []))
        (plus (times (times (var 0) (var 1)) (times (var 3) (var 5))) (times (times (var 2) (var 3)) (times (var 1) (var 4))))
        (times (plus (times (var 0) (var 5)) (times (var 2) (var 4))) (times (var 1) (var 3))) refl

swap4 : (a b c d : ℤ) → (a *ℤ b) *ℤ (c *ℤ d) ≡ (a *ℤ c) *ℤ (b *ℤ d)
swap4 a b c d = ring whole_ring (nth (pos 0) (a ∷ b ∷ c ∷ d ∷ [])) (times (times (var 0) (var 1)) (times (var 2) (var 3))) (times (times (var 0) (var 2)) (times (var 1) (var 3))) refl

pub mul_same : (x x' y y' : Frac) → Same x x' → Same y y' → Same (F.mul x y) (F.mul x' y')
unfolding F.mul
mul_same x x' y y' h k = swap4 x.num y.num (pos x'.den) (pos y'.den) ∙ ap₂ ◌*ℤ◌ h k ∙ swap4 x'.num (pos x.den) y'.num (pos y.den)

pub neg_same : (x x' : Frac) → Same x x' → Same (F.neg x) (F.neg x')
unfolding F.neg
neg_same x x' h = neg-mul x.num (pos x'.den) ∙ ap neg_ℤ h ∙ sym (neg-mul x'.num (pos x.den))

pub cls-add : (x y : Frac) → cls x +ℚ cls y ≡ cls (F.add x y)
unfolding ◌+ℚ◌
cls-add x y = sound (F.add (cls x).rep (cls y).rep) (F.add x y) (add_same (cls x).rep x (cls y).rep y (rep-cls x) (rep-cls y))

pub cls-mul : (x y : Frac) → cls x *ℚ cls y ≡ cls (F.mul x y)
unfolding ◌*ℚ◌
cls-mul x y = sound (F.mul (cls x).rep (cls y).rep) (F.mul x y) (mul_same (cls x).rep x (cls y).rep y (rep-cls x) (rep-cls y))

pub cls-neg : (x : Frac) → neg_ℚ (cls x) ≡ cls (F.neg x)
unfolding neg_ℚ
cls-neg x = sound (F.neg (cls x).rep) (F.neg x) (neg_same (cls x).rep x (rep-cls x))

-- ---- the laws, first of fractions
num_env : Frac → Frac → Frac → ℕ → ℤ
num_env x y z = nth (pos 0) (x.num ∷ pos x.den ∷ y.num ∷ pos y.den ∷ z.num ∷ pos z.den ∷ [])

-- a fraction of expressions
record EF : Type 0 where
  n : Expr
  d : Expr

abbrev fadd : EF → EF → EF
fadd x y = record { n = plus (times x.n y.d) (times y.n x.d); d = times x.d y.d }

abbrev fmul : EF → EF → EF
fmul x y = record { n = times x.n y.n; d = times x.d y.d }

abbrev fneg : EF → EF
fneg x = record { n = minus x.n; d = x.d }

abbrev X : EF
X = record { n = var 0; d = var 1 }

abbrev Y : EF
Y = record { n = var 2; d = var 3 }

abbrev Z : EF
Z = record { n = var 4; d = var 5 }

abbrev lhs : EF → EF → Expr
lhs x y = times x.n y.d

pub f_add_assoc : (x y z : Frac) → Same (F.add (F.add x y) z) (F.add x (F.add y z))
unfolding num_env F.add
f_add_assoc x y z = ring whole_ring (num_env x y z) (lhs (fadd (fadd X Y) Z) (fadd X (fadd Y Z))) (lhs (fadd X (fadd Y Z)) (fadd (fadd X Y) Z)) refl

pub f_add_comm : (x y : Frac) → Same (F.add x y) (F.add y x)
unfolding num_env F.add
f_add_comm x y = ring whole_ring (num_env x y y) (lhs (fadd X Y) (fadd Y X)) (lhs (fadd Y X) (fadd X Y)) refl

pub f_add_nul : (x : Frac) → Same (F.add x (F.whole (pos 0))) x
unfolding num_env F.add F.whole
f_add_nul x = ring whole_ring (num_env x x x) (lhs (fadd X record { n = enul; d = eone }) X) (lhs X (fadd X record { n = enul; d = eone })) refl

pub f_add_neg : (x : Frac) → Same (F.add x (F.neg x)) (F.whole (pos 0))
unfolding num_env F.add F.whole F.neg
f_add_neg x = ring whole_ring (num_env x x x) (lhs (fadd X (fneg X)) record { n = enul; d = eone }) (lhs record { n = enul; d = eone } (fadd X (fneg X))) refl

pub f_mul_assoc : (x y z : Frac) → Same (F.mul (F.mul x y) z) (F.mul x (F.mul y z))
unfolding num_env F.mul
f_mul_assoc x y z = ring whole_ring (num_env x y z) (lhs (fmul (fmul X Y) Z) (fmul X (fmul Y Z))) (lhs (fmul X (fmul Y Z)) (fmul (fmul X Y) Z)) refl

pub f_mul_comm : (x y : Frac) → Same (F.mul x y) (F.mul y x)
unfolding num_env F.mul
f_mul_comm x y = ring whole_ring (num_env x y y) (lhs (fmul X Y) (fmul Y X)) (lhs (fmul Y X) (fmul X Y)) refl

pub f_mul_one : (x : Frac) → Same (F.mul x (F.whole (pos 1))) x
unfolding num_env F.mul F.whole
f_mul_one x = ring whole_ring (num_env x x x) (lhs (fmul X record { n = eone; d = eone }) X) (lhs X (fmul X record { n = eone; d = eone })) refl

pub f_mul_add : (x y z : Frac) → Same (F.mul x (F.add y z)) (F.add (F.mul x y) (F.mul x z))
unfolding num_env F.mul F.add
f_mul_add x y z = ring whole_ring (num_env x y z) (lhs (fmul X (fadd Y Z)) (fadd (fmul X Y) (fmul X Z))) (lhs (fadd (fmul X Y) (fmul X Z)) (fmul X (fadd Y Z))) refl

-- ---- and then of numbers
pub add_assoc : (p q r : ℚ) → (p +ℚ q) +ℚ r ≡ p +ℚ (q +ℚ r)
add_assoc = by_cls _ λ x. by_cls _ λ y. by_cls _ λ z. ap (λ t. t +ℚ cls z) (cls-add x y) ∙ cls-add (F.add x y) z ∙ sound (F.add (F.add x y) z) (F.add x (F.add y z)) (f_add_assoc x y z) ∙ sym (ap (λ t. cls x +ℚ t) (cls-add y z) ∙ cls-add x (F.add y z))

pub add_comm : (p q : ℚ) → p +ℚ q ≡ q +ℚ p
add_comm = by_cls _ λ x. by_cls _ λ y. cls-add x y ∙ sound (F.add x y) (F.add y x) (f_add_comm x y) ∙ sym (cls-add y x)

pub add_nul : (p : ℚ) → p +ℚ 0ℚ ≡ p
unfolding 0ℚ
add_nul = by_cls _ λ x. cls-add x (F.whole (pos 0)) ∙ sound (F.add x (F.whole (pos 0))) x (f_add_nul x)

pub add_neg : (p : ℚ) → p +ℚ neg_ℚ p ≡ 0ℚ
unfolding 0ℚ
add_neg = by_cls _ λ x. ap (λ t. cls x +ℚ t) (cls-neg x) ∙ cls-add x (F.neg x) ∙ sound (F.add x (F.neg x)) (F.whole (pos 0)) (f_add_neg x)

pub mul_assoc : (p q r : ℚ) → (p *ℚ q) *ℚ r ≡ p *ℚ (q *ℚ r)
mul_assoc = by_cls _ λ x. by_cls _ λ y. by_cls _ λ z. ap (λ t. t *ℚ cls z) (cls-mul x y) ∙ cls-mul (F.mul x y) z ∙ sound (F.mul (F.mul x y) z) (F.mul x (F.mul y z)) (f_mul_assoc x y z) ∙ sym (ap (λ t. cls x *ℚ t) (cls-mul y z) ∙ cls-mul x (F.mul y z))

pub mul_comm_ℚ : (p q : ℚ) → p *ℚ q ≡ q *ℚ p
mul_comm_ℚ = by_cls _ λ x. by_cls _ λ y. cls-mul x y ∙ sound (F.mul x y) (F.mul y x) (f_mul_comm x y) ∙ sym (cls-mul y x)

pub mul_one : (p : ℚ) → p *ℚ 1ℚ ≡ p
unfolding 1ℚ
mul_one = by_cls _ λ x. cls-mul x (F.whole (pos 1)) ∙ sound (F.mul x (F.whole (pos 1))) x (f_mul_one x)

pub mul_add : (p q r : ℚ) → p *ℚ (q +ℚ r) ≡ p *ℚ q +ℚ p *ℚ r
mul_add = by_cls _ λ x. by_cls _ λ y. by_cls _ λ z. ap (λ t. cls x *ℚ t) (cls-add y z) ∙ cls-mul x (F.add y z) ∙ sound (F.mul x (F.add y z)) (F.add (F.mul x y) (F.mul x z)) (f_mul_add x y z) ∙ sym (ap₂ ◌+ℚ◌ (cls-mul x y) (cls-mul x z) ∙ cls-add (F.mul x y) (F.mul x z))

abbrev pub qo : Ops ℚ
qo = record { add = ◌+ℚ◌; mul = ◌*ℚ◌; neg = neg_ℚ; nul = 0ℚ; one = 1ℚ }

abbrev pub rats : CommRing ℚ
rats = record { ops = qo; add_assoc = add_assoc; add_comm = add_comm; add_nul = add_nul; add_neg = add_neg; mul_assoc = mul_assoc; mul_comm = mul_comm_ℚ; mul_one = mul_one; mul_add = mul_add }

-- ---- zero, and the inverse
pub cls-null : (x : Frac) → x.num ≡ pos 0 → cls x ≡ 0ℚ
unfolding 0ℚ F.whole
cls-null x e = sound x (F.whole (pos 0)) (ap (λ n. n *ℤ pos 1) e ∙ sym (zero-*ℤ (pos x.den)))

pub null-cls : (x : Frac) → cls x ≡ 0ℚ → x.num ≡ pos 0
unfolding 0ℚ F.whole
null-cls x e = cancel x.num (pos 0) 1 (suc_pos 0) (exact x (F.whole (pos 0)) e ∙ zero-*ℤ (pos x.den))

pub is_zero : (q : ℚ) → Dec (q ≡ 0ℚ)
is_zero q = go (ℤ_discrete q.rep.num (pos 0))
  where
    go : Dec (q.rep.num ≡ pos 0) → Dec (q ≡ 0ℚ)
    go (yes e) = yes (sym (cls-rep q) ∙ cls-null q.rep e)
    go (no n) = no (λ e. n (null-cls q.rep (cls-rep q ∙ e)))

pub one_not_zero : ¬ (1ℚ ≡ 0ℚ)
unfolding 1ℚ 0ℚ F.whole
one_not_zero e = absurd (no_one (null-cls (F.whole (pos 1)) (unfold 0ℚ in e)))
  where
    no_one : ¬ (pos 1 ≡ pos 0)
    no_one e = cc

pub f_inv : (x : Frac) → ¬ (x.num ≡ pos 0) → Same (F.mul x (turn x.num x.den)) (F.whole (pos 1))
unfolding F.mul F.whole turn
f_inv x h = go x.num x.den x.some h
  where
    turned : (a d : ℤ) → (neg_ℤ a *ℤ neg_ℤ d) *ℤ pos 1 ≡ pos 1 *ℤ (d *ℤ a)
    turned a d = ring whole_ring (nth (pos 0) (a ∷ d ∷ [])) (times (times (minus (var 0)) (minus (var 1))) eone) (times eone (times (var 1) (var 0))) refl

    go : (n : ℤ) (d : ℕ) (s : 0 < d) → ¬ (n ≡ pos 0) → Same (F.mul record { num = n; den = d; some = s } (turn n d)) (F.whole (pos 1))
    go (pos zero) d s h = absurd (h refl)
    go (pos (suc m)) d s h = ap pos (plain (suc m) d)
      where
        plain : (a d : ℕ) → (a * d) * 1 ≡ 1 * (d * a)
        plain a d = omega arith
    go (negsuc m) d s h = turned (pos (suc m)) (pos d)

pub mul_inv : (q : ℚ) → ¬ (q ≡ 0ℚ) → q *ℚ inv q ≡ 1ℚ
unfolding inv 1ℚ
mul_inv q h = ap (λ t. t *ℚ cls (turn q.rep.num q.rep.den)) (sym (cls-rep q)) ∙ cls-mul q.rep (turn q.rep.num q.rep.den) ∙ sound (F.mul q.rep (turn q.rep.num q.rep.den)) (F.whole (pos 1)) (f_inv q.rep (λ e. h (sym (cls-rep q) ∙ cls-null q.rep e)))

pub inv_unique : (p q : ℚ) → ¬ (p ≡ 0ℚ) → p *ℚ q ≡ 1ℚ → q ≡ inv p
inv_unique p q h e = sym (mul_one q) ∙ ap (λ t. q *ℚ t) (sym (mul_inv p h)) ∙ sym (mul_assoc q p (inv p)) ∙ ap (λ t. t *ℚ inv p) (mul_comm_ℚ q p ∙ e) ∙ mul_comm_ℚ 1ℚ (inv p) ∙ mul_one (inv p)

pub cls-quot : (x y : Frac) → ¬ (y.num ≡ pos 0) → cls (quot x y) ≡ cls x *ℚ inv (cls y)
unfolding 1ℚ quot F.mul
cls-quot x y h = sym (cls-mul x (turn y.num y.den)) ∙ ap (λ t. cls x *ℚ t) (inv_unique (cls y) (cls (turn y.num y.den)) (λ e. h (null-cls y e)) (cls-mul y (turn y.num y.den) ∙ sound (F.mul y (turn y.num y.den)) (F.whole (pos 1)) (f_inv y h)))

-- also by 0, whose inverse is 0
zero_turn : (n : ℤ) (d : ℕ) → n ≡ pos 0 → cls (turn n d) ≡ 0ℚ
unfolding turn 0ℚ
zero_turn n d e = ap (λ m. cls (turn m d)) e ∙ refl

pub cls_of_quot : (x y : Frac) → cls (quot x y) ≡ cls x *ℚ inv (cls y)
unfolding quot inv 0ℚ F.whole
cls_of_quot x y = go (ℤ_discrete y.num (pos 0))
  where
    go : Dec (y.num ≡ pos 0) → cls (quot x y) ≡ cls x *ℚ inv (cls y)
    go (no n) = cls-quot x y n
    go (yes e) = sym (cls-mul x (turn y.num y.den))
        ∙ ap (λ t. cls x *ℚ t) (zero_turn y.num y.den e ∙ sym (zero_turn (cls y).rep.num (cls y).rep.den (null-cls (cls y).rep (cls-rep (cls y) ∙ cls-null y e))))

-- ---- the order
pub IsNonNeg : ℚ → Type 0
IsNonNeg q = NonNeg q.rep.num

nn_same : (x y : Frac) → Same x y → NonNeg x.num → NonNeg y.num
nn_same x y h k = NonNeg_cancel y.num x.den x.some (subst NonNeg h (NonNeg-mul x.num (pos y.den) k tt))

pub nn-cls : (x : Frac) → NonNeg x.num → IsNonNeg (cls x)
unfolding IsNonNeg
nn-cls x h = nn_same x (cls x).rep (sym (rep-cls x)) h

pub cls-nn : (x : Frac) → IsNonNeg (cls x) → NonNeg x.num
unfolding IsNonNeg
cls-nn x h = nn_same (cls x).rep x (rep-cls x) h

pub nn_add : (p q : ℚ) → IsNonNeg p → IsNonNeg q → IsNonNeg (p +ℚ q)
unfolding IsNonNeg ◌+ℚ◌ F.add
nn_add p q h k = nn-cls (F.add p.rep q.rep) (NonNeg-add (p.rep.num *ℤ pos q.rep.den) (q.rep.num *ℤ pos p.rep.den) (NonNeg-mul p.rep.num (pos q.rep.den) h tt) (NonNeg-mul q.rep.num (pos p.rep.den) k tt))

pub nn_mul : (p q : ℚ) → IsNonNeg p → IsNonNeg q → IsNonNeg (p *ℚ q)
unfolding IsNonNeg ◌*ℚ◌ F.mul
nn_mul p q h k = nn-cls (F.mul p.rep q.rep) (NonNeg-mul p.rep.num q.rep.num h k)

pub nn_total : (p : ℚ) → IsNonNeg p ⊎ IsNonNeg (neg_ℚ p)
unfolding IsNonNeg neg_ℚ F.neg
nn_total p = go (NonNeg_total p.rep.num)
  where
    go : NonNeg p.rep.num ⊎ NonNeg (neg_ℤ p.rep.num) → IsNonNeg p ⊎ IsNonNeg (neg_ℚ p)
    go (inl h) = inl h
    go (inr h) = inr (nn-cls (F.neg p.rep) h)

pub nn_antisym : (p : ℚ) → IsNonNeg p → IsNonNeg (neg_ℚ p) → p ≡ 0ℚ
unfolding IsNonNeg neg_ℚ F.neg
nn_antisym p h k = sym (cls-rep p) ∙ cls-null p.rep (null_from_NonNeg p.rep.num h (cls-nn (F.neg p.rep) k))

infix 5 ◌≤ℚ◌
pub record ◌≤ℚ◌ (p q : ℚ) : Type 0 where
  pub le : IsNonNeg (q +ℚ neg_ℚ p)

pub cls-le : (x y : Frac) → Le x y ↔ (cls x ≤ℚ cls y)
unfolding F.add F.neg
cls-le x y = (
  λ h. record { le = subst IsNonNeg (sym eq) (nn-cls (F.add y (F.neg x)) (subst NonNeg (sym num) (le-diff (x.num *ℤ pos y.den) (y.num *ℤ pos x.den) h))) },
  λ h. diff-le (x.num *ℤ pos y.den) (y.num *ℤ pos x.den) (subst NonNeg num (cls-nn (F.add y (F.neg x)) (subst IsNonNeg eq h.le))),
)
  where
    eq : cls y +ℚ neg_ℚ (cls x) ≡ cls (F.add y (F.neg x))
    eq = ap (λ t. cls y +ℚ t) (cls-neg x) ∙ cls-add y (F.neg x)

    num : (F.add y (F.neg x)).num ≡ y.num *ℤ pos x.den -ℤ x.num *ℤ pos y.den
    num = ap (λ t. y.num *ℤ pos x.den +ℤ t) (neg-mul x.num (pos y.den))

pub cls-zero : cls (F.whole (pos 0)) ≡ 0ℚ
unfolding 0ℚ
cls-zero = refl

pub cls-one : cls (F.whole (pos 1)) ≡ 1ℚ
unfolding 1ℚ
cls-one = refl
