-- A commutative ring, and a normaliser that proves its identities: `ring R ρ a b refl`.
use mathlib.Core.Path.{◌≡◌, refl, sym, ◌∙◌, ap, ap₂}
use Prim.Native.Nat.{ℕ, zero, suc, ◌+◌, ◌*◌, compare, Ordering}
use mathlib.Core.List.{List, [], ◌∷◌}
use mathlib.Core.Bool.{Bool, true, false, true≢false}
use native.Mathlib.Omega.{arith}
use native.Mathlib.Nat as NatL
pub use Rattle.rb_frac.specs.Ops.{Ops}

pub record CommRing (A : Type 0) : Type 0 where
  pub ops : Ops A
  pub add_assoc : (a b c : A) → ops.add (ops.add a b) c ≡ ops.add a (ops.add b c)
  pub add_comm : (a b : A) → ops.add a b ≡ ops.add b a
  pub add_nul : (a : A) → ops.add a ops.nul ≡ a
  pub add_neg : (a : A) → ops.add a (ops.neg a) ≡ ops.nul
  pub mul_assoc : (a b c : A) → ops.mul (ops.mul a b) c ≡ ops.mul a (ops.mul b c)
  pub mul_comm : (a b : A) → ops.mul a b ≡ ops.mul b a
  pub mul_one : (a : A) → ops.mul a ops.one ≡ a
  pub mul_add : (a b c : A) → ops.mul a (ops.add b c) ≡ ops.add (ops.mul a b) (ops.mul a c)

-- ---- expressions
pub data Expr : Type 0 where
  var : ℕ → Expr
  enul : Expr
  eone : Expr
  plus : Expr → Expr → Expr
  times : Expr → Expr → Expr
  minus : Expr → Expr

abbrev pub expr : Ops Expr
expr = record { add = plus; mul = times; neg = minus; nul = enul; one = eone }

abbrev pub eval : {A : Type 0} → Ops A → (ℕ → A) → Expr → A
eval o ρ (var i) = ρ i
eval o ρ enul = o.nul
eval o ρ eone = o.one
eval o ρ (plus a b) = o.add (eval o ρ a) (eval o ρ b)
eval o ρ (times a b) = o.mul (eval o ρ a) (eval o ρ b)
eval o ρ (minus a) = o.neg (eval o ρ a)

-- ---- polynomials: terms (a − b) · x_i · x_j .., in order of their monomials
pub data Poly : Type 0 where
  none : Poly
  term : ℕ → ℕ → List ℕ → Poly → Poly

abbrev pub cmp : List ℕ → List ℕ → Ordering
cmp [] [] = Ordering.eq
cmp [] (j ∷ n) = Ordering.gt
cmp (i ∷ m) [] = Ordering.lt
cmp (i ∷ m) (j ∷ n) = elim (compare i j) [ Ordering.lt ↦ Ordering.lt | Ordering.eq ↦ cmp m n | Ordering.gt ↦ Ordering.gt ]

abbrev pub app : Poly → Poly → Poly
app none q = q
app (term a b m p) q = term a b m (app p q)

abbrev pub put : ℕ → ℕ → List ℕ → Poly → Poly
put a b m p = elim (compare a b) [ Ordering.lt ↦ term a b m p | Ordering.eq ↦ p | Ordering.gt ↦ term a b m p ]

abbrev pub merge : ℕ → Poly → Poly → Poly
merge zero p q = app p q
merge (suc k) none q = q
merge (suc k) (term a b m p) none = term a b m p
merge (suc k) (term a b m p) (term c d n q) = elim (cmp m n) [
  | Ordering.lt ↦ term a b m (merge k p (term c d n q))
  | Ordering.eq ↦ put (a + c) (b + d) m (merge k p q)
  | Ordering.gt ↦ term c d n (merge k (term a b m p) q)
]

abbrev pub ins : ℕ → List ℕ → List ℕ
ins i [] = i ∷ []
ins i (j ∷ n) = elim (compare i j) [ Ordering.lt ↦ i ∷ (j ∷ n) | Ordering.eq ↦ i ∷ (j ∷ n) | Ordering.gt ↦ j ∷ ins i n ]

abbrev pub mulm : List ℕ → List ℕ → List ℕ
mulm [] n = n
mulm (i ∷ m) n = ins i (mulm m n)

abbrev pub scale : ℕ → ℕ → List ℕ → Poly → Poly
scale a b m none = none
scale a b m (term c d n q) = term (a * c + b * d) (a * d + b * c) (mulm m n) (scale a b m q)

abbrev pub mulp : Poly → Poly → Poly
mulp none q = none
mulp (term a b m p) q = merge 1000000 (scale a b m q) (mulp p q)

abbrev pub negp : Poly → Poly
negp none = none
negp (term a b m p) = term b a m (negp p)

abbrev pub norm : Expr → Poly
norm (var i) = term 1 0 (i ∷ []) none
norm enul = none
norm eone = term 1 0 [] none
norm (plus a b) = merge 1000000 (norm a) (norm b)
norm (times a b) = mulp (norm a) (norm b)
norm (minus a) = negp (norm a)

abbrev pub is_null : Poly → Bool
is_null none = true
is_null (term a b m p) = elim (compare a b) [ Ordering.lt ↦ false | Ordering.eq ↦ is_null p | Ordering.gt ↦ false ]

abbrev pub same : Expr → Expr → Bool
same a b = is_null (norm (plus a (minus b)))

-- ---- what the comparison says
cmp-ℕ : (i j : ℕ) → compare i j ≡ Ordering.eq → i ≡ j
cmp-ℕ i j h = grind arith

cmp-eq : (m n : List ℕ) → cmp m n ≡ Ordering.eq → m ≡ n
cmp-eq [] [] h = refl
cmp-eq [] (j ∷ n) h = cc
cmp-eq (i ∷ m) [] h = cc
cmp-eq (i ∷ m) (j ∷ n) h = go (compare i j) refl (cmp-eq m n) h
  where
    go : (o : Ordering) → compare i j ≡ o → (cmp m n ≡ Ordering.eq → m ≡ n) → elim o [ Ordering.lt ↦ Ordering.lt | Ordering.eq ↦ cmp m n | Ordering.gt ↦ Ordering.gt ] ≡ Ordering.eq → (i ∷ m) ≡ (j ∷ n)
    go Ordering.lt e ih k = cc
    go Ordering.eq e ih k = ap₂ ◌∷◌ (cmp-ℕ i j e) (ih k)
    go Ordering.gt e ih k = cc

-- ---- the laws of a commutative ring
module _ {A : Type 0} (R : CommRing A) where
  open R.ops use {add as ◌⊕◌, mul as ◌⊗◌, neg, nul, one}

  infixl 6 ◌⊕◌
  infixl 7 ◌⊗◌
  pub nul_add : (a : A) → nul ⊕ a ≡ a
  nul_add a = R.add_comm nul a ∙ R.add_nul a

  pub add_left_comm : (a b c : A) → a ⊕ (b ⊕ c) ≡ b ⊕ (a ⊕ c)
  add_left_comm a b c = sym (R.add_assoc a b c) ∙ ap (λ x. x ⊕ c) (R.add_comm a b) ∙ R.add_assoc b a c

  pub mul_left_comm : (a b c : A) → a ⊗ (b ⊗ c) ≡ b ⊗ (a ⊗ c)
  mul_left_comm a b c = sym (R.mul_assoc a b c) ∙ ap (λ x. x ⊗ c) (R.mul_comm a b) ∙ R.mul_assoc b a c

  pub one_mul : (a : A) → one ⊗ a ≡ a
  one_mul a = R.mul_comm one a ∙ R.mul_one a

  pub add_mul : (a b c : A) → (a ⊕ b) ⊗ c ≡ a ⊗ c ⊕ b ⊗ c
  add_mul a b c = R.mul_comm (a ⊕ b) c ∙ R.mul_add c a b ∙ ap₂ ◌⊕◌ (R.mul_comm c a) (R.mul_comm c b)

  -- what cancels
  pub add_cancel : (a b c : A) → a ⊕ b ≡ a ⊕ c → b ≡ c
  add_cancel a b c h = sym (back b) ∙ ap (λ x. neg a ⊕ x) h ∙ back c
    where
      back : (x : A) → neg a ⊕ (a ⊕ x) ≡ x
      back x = sym (R.add_assoc (neg a) a x) ∙ ap (λ y. y ⊕ x) (R.add_comm (neg a) a ∙ R.add_neg a) ∙ nul_add x

  pub neg_unique : (a b : A) → a ⊕ b ≡ nul → b ≡ neg a
  neg_unique a b h = add_cancel a b (neg a) (h ∙ sym (R.add_neg a))

  pub mul_nul : (a : A) → a ⊗ nul ≡ nul
  mul_nul a = add_cancel (a ⊗ nul) (a ⊗ nul) nul (sym (R.mul_add a nul nul) ∙ ap (λ x. a ⊗ x) (R.add_nul nul) ∙ sym (R.add_nul (a ⊗ nul)))

  pub nul_mul : (a : A) → nul ⊗ a ≡ nul
  nul_mul a = R.mul_comm nul a ∙ mul_nul a

  pub neg_nul : neg nul ≡ nul
  neg_nul = sym (neg_unique nul nul (R.add_nul nul))

  pub neg_neg : (a : A) → neg (neg a) ≡ a
  neg_neg a = sym (neg_unique (neg a) a (R.add_comm (neg a) a ∙ R.add_neg a))

  pub neg_add : (a b : A) → neg (a ⊕ b) ≡ neg a ⊕ neg b
  neg_add a b = sym (neg_unique (a ⊕ b) (neg a ⊕ neg b) all)
    where
      all : (a ⊕ b) ⊕ (neg a ⊕ neg b) ≡ nul
      all = R.add_assoc a b (neg a ⊕ neg b) ∙ ap (λ x. a ⊕ x) (add_left_comm b (neg a) (neg b)) ∙ ap (λ x. a ⊕ (neg a ⊕ x)) (R.add_neg b) ∙ ap (λ x. a ⊕ x) (R.add_nul (neg a)) ∙ R.add_neg a

  pub mul_neg : (a b : A) → a ⊗ neg b ≡ neg (a ⊗ b)
  mul_neg a b = neg_unique (a ⊗ b) (a ⊗ neg b) (sym (R.mul_add a b (neg b)) ∙ ap (λ x. a ⊗ x) (R.add_neg b) ∙ mul_nul a)

  pub neg_mul : (a b : A) → neg a ⊗ b ≡ neg (a ⊗ b)
  neg_mul a b = R.mul_comm (neg a) b ∙ mul_neg b a ∙ ap neg (R.mul_comm b a)

  pub add_swap : (a b c d : A) → (a ⊕ b) ⊕ (c ⊕ d) ≡ (a ⊕ c) ⊕ (b ⊕ d)
  add_swap a b c d = R.add_assoc a b (c ⊕ d) ∙ ap (λ x. a ⊕ x) (add_left_comm b c d) ∙ sym (R.add_assoc a c (b ⊕ d))

  -- ---- what a polynomial says
  num : ℕ → A
  num zero = nul
  num (suc n) = one ⊕ num n

  num-add : (m n : ℕ) → num (m + n) ≡ num m ⊕ num n
  unfolding num
  num-add zero n = ap num (NatL.zero-add n) ∙ sym (nul_add (num n))
  num-add (suc m) n = ap num (plus_suc m n) ∙ ap (λ x. one ⊕ x) (num-add m n) ∙ sym (R.add_assoc one (num m) (num n))
    where
      plus_suc : (m n : ℕ) → suc m + n ≡ suc (m + n)
      plus_suc m n = omega arith

  num-mul : (m n : ℕ) → num (m * n) ≡ num m ⊗ num n
  unfolding num
  num-mul zero n = ap num (NatL.zero-mul n) ∙ sym (nul_mul (num n))
  num-mul (suc m) n = ap num (times_suc m n) ∙ num-add n (m * n) ∙ ap₂ ◌⊕◌ (sym (one_mul (num n))) (num-mul m n) ∙ sym (add_mul one (num m) (num n))
    where
      times_suc : (m n : ℕ) → suc m * n ≡ n + m * n
      times_suc m n = omega arith

  coef : ℕ → ℕ → A
  coef a b = num a ⊕ neg (num b)

  coef-add : (a b c d : ℕ) → coef (a + c) (b + d) ≡ coef a b ⊕ coef c d
  unfolding coef
  coef-add a b c d = ap₂ (λ x y. x ⊕ neg y) (num-add a c) (num-add b d) ∙ ap (λ x. (num a ⊕ num c) ⊕ x) (neg_add (num b) (num d)) ∙ add_swap (num a) (num c) (neg (num b)) (neg (num d))

  coef-neg : (a b : ℕ) → coef b a ≡ neg (coef a b)
  unfolding coef
  coef-neg a b = R.add_comm (num b) (neg (num a)) ∙ ap (λ x. neg (num a) ⊕ x) (sym (neg_neg (num b))) ∙ sym (neg_add (num a) (neg (num b)))

  product : (a b c d : A) → (a ⊗ c ⊕ b ⊗ d) ⊕ neg (a ⊗ d ⊕ b ⊗ c) ≡ (a ⊕ neg b) ⊗ (c ⊕ neg d)
  product a b c d = sym (add_mul a (neg b) (c ⊕ neg d) ∙ ap₂ ◌⊕◌ (R.mul_add a c (neg d)) (R.mul_add (neg b) c (neg d)) ∙ ap₂ ◌⊕◌ (ap (λ x. a ⊗ c ⊕ x) (mul_neg a d)) (ap₂ ◌⊕◌ (neg_mul b c) (neg_mul b (neg d) ∙ ap neg (mul_neg b d) ∙ neg_neg (b ⊗ d)) ∙ R.add_comm (neg (b ⊗ c)) (b ⊗ d)) ∙ add_swap (a ⊗ c) (neg (a ⊗ d)) (b ⊗ d) (neg (b ⊗ c)) ∙ ap (λ x. (a ⊗ c ⊕ b ⊗ d) ⊕ x) (sym (neg_add (a ⊗ d) (b ⊗ c))))

  coef-mul : (a b c d : ℕ) → coef (a * c + b * d) (a * d + b * c) ≡ coef a b ⊗ coef c d
  unfolding coef
  coef-mul a b c d = ap₂ (λ x y. x ⊕ neg y) (num-add (a * c) (b * d) ∙ ap₂ ◌⊕◌ (num-mul a c) (num-mul b d)) (num-add (a * d) (b * c) ∙ ap₂ ◌⊕◌ (num-mul a d) (num-mul b c)) ∙ product (num a) (num b) (num c) (num d)

  coef-null : (a b : ℕ) → a ≡ b → coef a b ≡ nul
  unfolding coef
  coef-null a b e = ap (λ x. num a ⊕ neg (num x)) (sym e) ∙ R.add_neg (num a)

  module _ (ρ : ℕ → A) where
    ev : Expr → A
    ev e = eval R.ops ρ e

    mono : List ℕ → A
    mono [] = one
    mono (i ∷ m) = ρ i ⊗ mono m

    poly : Poly → A
    poly none = nul
    poly (term a b m p) = coef a b ⊗ mono m ⊕ poly p

    poly-app : (p q : Poly) → poly (app p q) ≡ poly p ⊕ poly q
    unfolding poly
    poly-app none q = sym (nul_add (poly q))
    poly-app (term a b m p) q = ap (λ x. coef a b ⊗ mono m ⊕ x) (poly-app p q) ∙ sym (R.add_assoc (coef a b ⊗ mono m) (poly p) (poly q))

    poly-put : (a b : ℕ) (m : List ℕ) (p : Poly) → poly (put a b m p) ≡ coef a b ⊗ mono m ⊕ poly p
    unfolding poly
    poly-put a b m p = go (compare a b) refl
      where
        go : (o : Ordering) → compare a b ≡ o → poly (elim o [ Ordering.lt ↦ term a b m p | Ordering.eq ↦ p | Ordering.gt ↦ term a b m p ]) ≡ coef a b ⊗ mono m ⊕ poly p
        go Ordering.lt e = refl
        go Ordering.eq e = sym (ap (λ x. x ⊗ mono m ⊕ poly p) (coef-null a b (cmp-ℕ a b e)) ∙ ap (λ x. x ⊕ poly p) (nul_mul (mono m)) ∙ nul_add (poly p))
        go Ordering.gt e = refl

    both : (a b c d : ℕ) (m n : List ℕ) (x y : A) → m ≡ n → coef (a + c) (b + d) ⊗ mono m ⊕ (x ⊕ y) ≡ (coef a b ⊗ mono m ⊕ x) ⊕ (coef c d ⊗ mono n ⊕ y)
    both a b c d m n x y e = ap (λ z. z ⊗ mono m ⊕ (x ⊕ y)) (coef-add a b c d) ∙ ap (λ z. z ⊕ (x ⊕ y)) (add_mul (coef a b) (coef c d) (mono m)) ∙ ap (λ z. (coef a b ⊗ mono m ⊕ coef c d ⊗ mono z) ⊕ (x ⊕ y)) e ∙ add_swap (coef a b ⊗ mono m) (coef c d ⊗ mono n) x y

    poly-step : (k a b c d : ℕ) (m n : List ℕ) (p q : Poly) (o : Ordering) → cmp m n ≡ o
        → poly (merge k p (term c d n q)) ≡ poly p ⊕ (coef c d ⊗ mono n ⊕ poly q)
        → poly (merge k p q) ≡ poly p ⊕ poly q
        → poly (merge k (term a b m p) q) ≡ (coef a b ⊗ mono m ⊕ poly p) ⊕ poly q
        → poly (elim o [
          | Ordering.lt ↦ term a b m (merge k p (term c d n q))
          | Ordering.eq ↦ put (a + c) (b + d) m (merge k p q)
          | Ordering.gt ↦ term c d n (merge k (term a b m p) q)
        ]) ≡ (coef a b ⊗ mono m ⊕ poly p) ⊕ (coef c d ⊗ mono n ⊕ poly q)
    unfolding poly
    poly-step k a b c d m n p q Ordering.lt e h₁ h₂ h₃ = ap (λ x. coef a b ⊗ mono m ⊕ x) h₁ ∙ sym (R.add_assoc (coef a b ⊗ mono m) (poly p) (coef c d ⊗ mono n ⊕ poly q))
    poly-step k a b c d m n p q Ordering.eq e h₁ h₂ h₃ = poly-put (a + c) (b + d) m (merge k p q) ∙ ap (λ x. coef (a + c) (b + d) ⊗ mono m ⊕ x) h₂ ∙ both a b c d m n (poly p) (poly q) (cmp-eq m n e)
    poly-step k a b c d m n p q Ordering.gt e h₁ h₂ h₃ = ap (λ x. coef c d ⊗ mono n ⊕ x) h₃ ∙ add_left_comm (coef c d ⊗ mono n) (coef a b ⊗ mono m ⊕ poly p) (poly q)

    poly-merge : (k : ℕ) (p q : Poly) → poly (merge k p q) ≡ poly p ⊕ poly q
    unfolding poly
    poly-merge zero p q = poly-app p q
    poly-merge (suc k) none q = sym (nul_add (poly q))
    poly-merge (suc k) (term a b m p) none = sym (R.add_nul (coef a b ⊗ mono m ⊕ poly p))
    poly-merge (suc k) (term a b m p) (term c d n q) = poly-step k a b c d m n p q (cmp m n) refl (poly-merge k p (term c d n q)) (poly-merge k p q) (poly-merge k (term a b m p) q)

    mono-ins : (i : ℕ) (m : List ℕ) → mono (ins i m) ≡ ρ i ⊗ mono m
    unfolding mono
    mono-ins i [] = refl
    mono-ins i (j ∷ n) = go (compare i j) (mono-ins i n)
      where
        go : (o : Ordering) → mono (ins i n) ≡ ρ i ⊗ mono n → mono (elim o [ Ordering.lt ↦ i ∷ (j ∷ n) | Ordering.eq ↦ i ∷ (j ∷ n) | Ordering.gt ↦ j ∷ ins i n ]) ≡ ρ i ⊗ (ρ j ⊗ mono n)
        go Ordering.lt h = refl
        go Ordering.eq h = refl
        go Ordering.gt h = ap (λ x. ρ j ⊗ x) h ∙ mul_left_comm (ρ j) (ρ i) (mono n)

    mono-mul : (m n : List ℕ) → mono (mulm m n) ≡ mono m ⊗ mono n
    unfolding mono
    mono-mul [] n = sym (one_mul (mono n))
    mono-mul (i ∷ m) n = mono-ins i (mulm m n) ∙ ap (λ x. ρ i ⊗ x) (mono-mul m n) ∙ sym (R.mul_assoc (ρ i) (mono m) (mono n))

    mul_swap : (a b c d : A) → (a ⊗ b) ⊗ (c ⊗ d) ≡ (a ⊗ c) ⊗ (b ⊗ d)
    mul_swap a b c d = R.mul_assoc a b (c ⊗ d) ∙ ap (λ x. a ⊗ x) (mul_left_comm b c d) ∙ sym (R.mul_assoc a c (b ⊗ d))

    poly-scale : (a b : ℕ) (m : List ℕ) (q : Poly) → poly (scale a b m q) ≡ (coef a b ⊗ mono m) ⊗ poly q
    unfolding poly
    poly-scale a b m none = sym (mul_nul (coef a b ⊗ mono m))
    poly-scale a b m (term c d n q) = ap₂ ◌⊕◌ (ap₂ ◌⊗◌ (coef-mul a b c d) (mono-mul m n) ∙ mul_swap (coef a b) (coef c d) (mono m) (mono n)) (poly-scale a b m q) ∙ sym (R.mul_add (coef a b ⊗ mono m) (coef c d ⊗ mono n) (poly q))

    poly-mul : (p q : Poly) → poly (mulp p q) ≡ poly p ⊗ poly q
    unfolding poly
    poly-mul none q = sym (nul_mul (poly q))
    poly-mul (term a b m p) q = poly-merge 1000000 (scale a b m q) (mulp p q) ∙ ap₂ ◌⊕◌ (poly-scale a b m q) (poly-mul p q) ∙ sym (add_mul (coef a b ⊗ mono m) (poly p) (poly q))

    poly-neg : (p : Poly) → poly (negp p) ≡ neg (poly p)
    unfolding poly
    poly-neg none = sym neg_nul
    poly-neg (term a b m p) = ap₂ ◌⊕◌ (ap (λ x. x ⊗ mono m) (coef-neg a b) ∙ neg_mul (coef a b) (mono m)) (poly-neg p) ∙ sym (neg_add (coef a b ⊗ mono m) (poly p))

    coef_one : coef 1 0 ≡ one
    unfolding coef num
    coef_one = ap₂ ◌⊕◌ (R.add_nul one) neg_nul ∙ R.add_nul one

    single : (m : List ℕ) → coef 1 0 ⊗ mono m ⊕ nul ≡ mono m
    single m = R.add_nul (coef 1 0 ⊗ mono m) ∙ ap (λ x. x ⊗ mono m) coef_one ∙ one_mul (mono m)

    norm-sound : (e : Expr) → poly (norm e) ≡ eval R.ops ρ e
    unfolding poly mono
    norm-sound (var i) = single (i ∷ []) ∙ R.mul_one (ρ i)
    norm-sound enul = refl
    norm-sound eone = single []
    norm-sound (plus a b) = poly-merge 1000000 (norm a) (norm b) ∙ ap₂ ◌⊕◌ (norm-sound a) (norm-sound b)
    norm-sound (times a b) = poly-mul (norm a) (norm b) ∙ ap₂ ◌⊗◌ (norm-sound a) (norm-sound b)
    norm-sound (minus a) = poly-neg (norm a) ∙ ap neg (norm-sound a)

    null-sound : (p : Poly) → is_null p ≡ true → poly p ≡ nul
    unfolding poly
    null-sound none h = refl
    null-sound (term a b m p) h = go (compare a b) refl (null-sound p) h
      where
        go : (o : Ordering) → compare a b ≡ o → (is_null p ≡ true → poly p ≡ nul) → elim o [ Ordering.lt ↦ false | Ordering.eq ↦ is_null p | Ordering.gt ↦ false ] ≡ true → coef a b ⊗ mono m ⊕ poly p ≡ nul
        go Ordering.lt e ih k = absurd (true≢false (sym k))
        go Ordering.eq e ih k = ap₂ (λ x y. x ⊗ mono m ⊕ y) (coef-null a b (cmp-ℕ a b e)) (ih k) ∙ R.add_nul (nul ⊗ mono m) ∙ nul_mul (mono m)
        go Ordering.gt e ih k = absurd (true≢false (sym k))

    pub ring : (a b : Expr) → same a b ≡ true → eval R.ops ρ a ≡ eval R.ops ρ b
    ring a b h = sym (add_cancel (neg (eval R.ops ρ b)) (eval R.ops ρ b) (eval R.ops ρ a) (sym (zero_l ∙ sym zero_r)))
      where
        zero_l : neg (eval R.ops ρ b) ⊕ eval R.ops ρ a ≡ nul
        zero_l = R.add_comm (neg (eval R.ops ρ b)) (eval R.ops ρ a) ∙ sym (norm-sound (plus a (minus b))) ∙ null-sound (norm (plus a (minus b))) h

        zero_r : neg (eval R.ops ρ b) ⊕ eval R.ops ρ b ≡ nul
        zero_r = R.add_comm (neg (eval R.ops ρ b)) (eval R.ops ρ b) ∙ R.add_neg (eval R.ops ρ b)
