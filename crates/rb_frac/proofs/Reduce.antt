-- The reduced form of a fraction: the one with the least denominator.
use mathlib.Core.Path.{◌≡◌, refl, sym, ◌∙◌, ap}
use mathlib.Core.HLevel.{is_prop→PathP}
use mathlib.Core.Bool.{Bool, true, false, true≢false}
use Prim.Native.Nat.{ℕ, zero, suc, ◌+◌, ◌*◌, ◌<◌, ◌≤◌, ◌/◌, ◌%◌}
use mathlib.Core.List.{[], ◌∷◌}
use native.Mathlib.Omega.{arith}
use native.Mathlib.Bridge.{le_prop}
use native.Mathlib.Nat as NatL
use native.Mathlib.Decide.{dec_le}
use lib.Dec.{eqb}
use Rattle.std.proofs.lemmas.Bool.Decides.{nat_tests}
use lib.IntN.{ℤ, pos, negsuc, ◌*ℤ◌, neg_ℤ, nat_abs}
use Rattle.rb_frac.proofs.Ring.{var, times, ring}
use Rattle.rb_frac.proofs.Vec.{nth}
use Rattle.rb_frac.proofs.Whole.{whole, cancel, abs-neg, neg-mul}
use Rattle.rb_frac.specs.Frac.{Frac, Same}

-- ---- the relation is an equivalence
pub same_refl : (x : Frac) → Same x x
same_refl x = refl

pub same_sym : (x y : Frac) → Same x y → Same y x
same_sym x y h = sym h

pub same_trans : (x y z : Frac) → Same x y → Same y z → Same x z
same_trans x y z h k = cancel (x.num *ℤ pos z.den) (z.num *ℤ pos x.den) y.den y.some
    (swap x.num (pos z.den) (pos y.den) ∙ ap (λ t. t *ℤ pos z.den) h ∙ swap y.num (pos x.den) (pos z.den) ∙ ap (λ t. t *ℤ pos x.den) k ∙ swap z.num (pos y.den) (pos x.den))
  where
    swap : (a b c : ℤ) → (a *ℤ b) *ℤ c ≡ (a *ℤ c) *ℤ b
    swap a b c = ring whole (nth (pos 0) (a ∷ b ∷ c ∷ [])) (times (times (var 0) (var 1)) (var 2)) (times (times (var 0) (var 2)) (var 1)) refl

-- ---- the least number from k on that passes
pub find : (ℕ → Bool) → ℕ → ℕ → ℕ
find p zero k = k
find p (suc f) k = elim (p k) [ true ↦ k | false ↦ find p f (suc k) ]

find_from : (p : ℕ → Bool) (f k : ℕ) → k ≤ find p f k
unfolding find
find_from p zero k = omega arith
find_from p (suc f) k = go (p k) (find_from p f (suc k))
  where
    go : (b : Bool) → suc k ≤ find p f (suc k) → k ≤ elim b [ true ↦ k | false ↦ find p f (suc k) ]
    go true h = omega arith
    go false h = omega arith

find_least : (p : ℕ → Bool) (f k j : ℕ) → k ≤ j → j ≤ k + f → p j ≡ true → (p (find p f k) ≡ true) × (find p f k ≤ j)
unfolding find
find_least p zero k j h₁ h₂ e = (ap p same ∙ e, h₁)
  where
    same : k ≡ j
    same = omega arith
find_least p (suc f) k j h₁ h₂ e = go (p k) refl (find_least p f (suc k) j)
  where
    go : (b : Bool) → p k ≡ b → (suc k ≤ j → j ≤ suc k + f → p j ≡ true → (p (find p f (suc k)) ≡ true) × (find p f (suc k) ≤ j))
        → (p (elim b [ true ↦ k | false ↦ find p f (suc k) ]) ≡ true) × (elim b [ true ↦ k | false ↦ find p f (suc k) ] ≤ j)
    go true q ih = (q, h₁)
    go false q ih = ih (later k j h₁ (λ s. true≢false (sym e ∙ ap p (sym s) ∙ q))) (omega arith) e
      where
        later : (k j : ℕ) → k ≤ j → ¬ (k ≡ j) → suc k ≤ j
        later k j h n = omega arith

-- k is a denominator of a/d
abbrev pub fits : ℕ → ℕ → ℕ → Bool
fits a d k = eqb ((k * a) % d) 0

pub least : ℕ → ℕ → ℕ
least a d = find (fits a d) d 1

abbrev pub signed : ℤ → ℕ → ℤ
signed (pos n) q = pos q
signed (negsuc n) q = neg_ℤ (pos q)

fits-from : (a d k q : ℕ) → 0 < d → k * a ≡ q * d → fits a d k ≡ true
fits-from a d k q h e = eq→true ((k * a) % d) 0 (ap (λ n. n % d) (e ∙ NatL.mul_comm q d) ∙ NatL.mul-mod_right d q)
  where
    eq→true : (m n : ℕ) → m ≡ n → eqb m n ≡ true
    eq→true m n e = grind (arith, nat_tests)

fits-quot : (a d k : ℕ) → 0 < d → fits a d k ≡ true → k * a ≡ ((k * a) / d) * d
fits-quot a d k h e = grind (arith, nat_tests)

least_fits : (a d : ℕ) → 0 < d → fits a d (least a d) ≡ true
unfolding least
least_fits a d h = (find_least (fits a d) d 1 d h (omega arith) (fits-from a d d a h (NatL.mul_comm d a))).0

least_least : (a d k : ℕ) → 0 < d → 0 < k → fits a d k ≡ true → least a d ≤ k
unfolding least
least_least a d k h p e = go (dec_le k (1 + d))
  where
    below : least a d ≤ d
    below = (find_least (fits a d) d 1 d h (omega arith) (fits-from a d d a h (NatL.mul_comm d a))).1

    go : Dec (k ≤ 1 + d) → least a d ≤ k
    go (yes l) = (find_least (fits a d) d 1 k p l e).1
    go (no n) = omega (arith, below)

least_pos : (a d : ℕ) → 0 < least a d
unfolding least
least_pos a d = find_from (fits a d) d 1

-- ---- the reduced fraction
pub norm : Frac → Frac
norm x = record { num = signed x.num ((least (nat_abs x.num) x.den * nat_abs x.num) / x.den); den = least (nat_abs x.num) x.den; some = least_pos (nat_abs x.num) x.den }

signed-same : (n : ℤ) (d k q : ℕ) → k * nat_abs n ≡ q * d → signed n q *ℤ pos d ≡ n *ℤ pos k
signed-same (pos n) d k q e = ap pos (sym e ∙ NatL.mul_comm k n)
signed-same (negsuc n) d k q e = neg_pos q d ∙ ap (λ (m : ℕ). neg_ℤ (pos m)) (sym e ∙ NatL.mul_comm k (suc n))
  where
    neg_pos : (q d : ℕ) → neg_ℤ (pos q) *ℤ pos d ≡ neg_ℤ (pos (q * d))
    neg_pos q d = neg-mul (pos q) (pos d)

pub norm-same : (x : Frac) → Same (norm x) x
unfolding norm
norm-same x = signed-same x.num x.den (least (nat_abs x.num) x.den) ((least (nat_abs x.num) x.den * nat_abs x.num) / x.den) (fits-quot (nat_abs x.num) x.den (least (nat_abs x.num) x.den) x.some (least_fits (nat_abs x.num) x.den x.some))

abs-mul : (n : ℤ) (k : ℕ) → nat_abs (n *ℤ pos k) ≡ nat_abs n * k
abs-mul (pos n) k = refl
abs-mul (negsuc n) k = abs-neg (suc n * k)

-- a denominator of one is a denominator of the other
other_fits : (x y : Frac) (k : ℕ) → Same x y → fits (nat_abs x.num) x.den k ≡ true → fits (nat_abs y.num) y.den k ≡ true
other_fits x y k h e = fits-from (nat_abs y.num) y.den k ((k * nat_abs x.num) / x.den) y.some (go (nat_abs x.num) x.den (nat_abs y.num) y.den ((k * nat_abs x.num) / x.den) k x.some
    (sym (abs-mul x.num y.den) ∙ ap nat_abs h ∙ abs-mul y.num x.den) (fits-quot (nat_abs x.num) x.den k x.some e))
  where
    go : (a d b c q k : ℕ) → 0 < d → a * c ≡ b * d → k * a ≡ q * d → k * b ≡ q * c
    go a d b c q k s e f = cancel-ℕ (k * b) (q * c) d s (step a d b c q k e f)
      where
        step : (a d b c q k : ℕ) → a * c ≡ b * d → k * a ≡ q * d → (k * b) * d ≡ (q * c) * d
        step a d b c q k e f = NatL.mul_assoc k b d ∙ ap (λ (n : ℕ). k * n) (sym e) ∙ sym (NatL.mul_assoc k a c) ∙ ap (λ (n : ℕ). n * c) f ∙ omega arith

        cancel-ℕ : (m n d : ℕ) → 0 < d → m * d ≡ n * d → m ≡ n
        cancel-ℕ m n d s e = grind arith

least_same : (x y : Frac) → Same x y → least (nat_abs x.num) x.den ≡ least (nat_abs y.num) y.den
least_same x y h = NatL.le_antisymm (one x y h) (one y x (sym h))
  where
    one : (x y : Frac) → Same x y → least (nat_abs x.num) x.den ≤ least (nat_abs y.num) y.den
    one x y h = least_least (nat_abs x.num) x.den (least (nat_abs y.num) y.den) x.some (least_pos (nat_abs y.num) y.den) (other_fits y x (least (nat_abs y.num) y.den) (sym h) (least_fits (nat_abs y.num) y.den y.some))

pub frac_path : (x y : Frac) → x.num ≡ y.num → x.den ≡ y.den → x ≡ y
frac_path x y p q = λ i. record { num = p i; den = q i; some = is_prop→PathP (λ j. 0 < q j) (λ j. le_prop) x.some y.some i }

pub norm_equal : (x y : Frac) → Same x y → norm x ≡ norm y
norm_equal x y h = frac_path (norm x) (norm y) (cancel (norm x).num (norm y).num (norm x).den (norm x).some nums) dens
  where
    dens : (norm x).den ≡ (norm y).den
    dens = unfold norm in least_same x y h

    all : Same (norm x) (norm y)
    all = same_trans (norm x) x (norm y) (norm-same x) (same_trans x y (norm y) h (sym (norm-same y)))

    nums : (norm x).num *ℤ pos (norm x).den ≡ (norm y).num *ℤ pos (norm x).den
    nums = ap (λ (k : ℕ). (norm x).num *ℤ pos k) dens ∙ all

pub norm-norm : (x : Frac) → norm (norm x) ≡ norm x
norm-norm x = norm_equal (norm x) x (norm-same x)
