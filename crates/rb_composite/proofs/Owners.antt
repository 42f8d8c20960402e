-- What a pair of joint columns adds where it is taken once, by the columns that the two are or follow.
use Rattle.std.proofs.Common.{◌≡◌, ℕ, ◌+◌, ◌==◌, Bool, true, false, if◌then◌else◌, refl, sym, ◌∙◌, ap, arith}
use mathlib.Core.Path.{ap₂}
use Rattle.rb_frac.specs.Frac.{Frac, Same, fracs, add, mul}
use Rattle.rb_frac.proofs.Ring.{mul_nul}
use Rattle.rb_frac.proofs.Rational.{ℚ, ◌+ℚ◌, ◌*ℚ◌, 0ℚ, rats, cls, exact, cls-zero, add_comm, add_nul, mul_comm_ℚ}
use Rattle.rb_frac.proofs.Hom.{cls_of_add, cls_of_mul}
use Rattle.rb_flat.specs.Shape.{Shape}
use Rattle.rb_flat.specs.Mechanism.{Mechanism}
use Rattle.rb_flat.specs.Dynamics.{followed}
use Rattle.rb_composite.specs.Composite.{share}
use Rattle.rb_composite.proofs.Paths.{equal_is}

module _ (shape : Shape) (m : Mechanism Frac) where
  -- the column that column k of the joint of body i is or follows, and by how much
  abbrev pub owner : ℕ → ℕ → ℕ
  owner i k = shape.first_column i + k

  abbrev pub gear : ℕ → Frac
  gear i = followed fracs (shape.mimic i) (m.multiplier i) fracs.one

  -- the one is moved by c and the other by d or the other way round; where c is d both orders count
  abbrev pub once_share : ℕ → ℕ → ℕ → ℕ → ℕ → ℕ → Frac
  once_share c d i k j l =
      let both = mul (gear i) (gear j) in
      if owner i k == c
      then (if owner j l == d then (if c == d then add both both else both) else fracs.nul)
      else (if owner i k == d then (if owner j l == c then both else fracs.nul) else fracs.nul)

  -- ---- numbers
  zero_left : (y : ℚ) → 0ℚ *ℚ y ≡ 0ℚ
  zero_left y = mul_comm_ℚ 0ℚ y ∙ mul_nul rats y

  none : (x y : ℚ) → x ≡ 0ℚ → y ≡ 0ℚ → x +ℚ y ≡ cls fracs.nul
  none x y e f = ap₂ ◌+ℚ◌ e f ∙ add_nul 0ℚ ∙ sym cls-zero

  module _ (c d i k j l : ℕ) where
    abbrev both : Frac
    both = mul (gear i) (gear j)

    abbrev ways : ℚ
    ways = cls (share shape m c i k) *ℚ cls (share shape m d j l) +ℚ cls (share shape m d i k) *ℚ cls (share shape m c j l)

    -- a joint column moves with its owner alone
    with_owner : (a i k : ℕ) → owner i k ≡ a → cls (share shape m a i k) ≡ cls (gear i)
    unfolding share
    with_owner a i k e = let same : (owner i k == a) ≡ true = grind arith in ap (λ (b : Bool). cls (if b then gear i else fracs.nul)) same

    with_others : (a i k : ℕ) → (owner i k == a) ≡ false → cls (share shape m a i k) ≡ 0ℚ
    unfolding share
    with_others a i k e = ap (λ (b : Bool). cls (if b then gear i else fracs.nul)) e ∙ cls-zero

    no_left : {x : ℚ} (y : ℚ) → x ≡ 0ℚ → x *ℚ y ≡ 0ℚ
    no_left y e = ap (λ (t : ℚ). t *ℚ y) e ∙ zero_left y

    no_right : (x : ℚ) {y : ℚ} → y ≡ 0ℚ → x *ℚ y ≡ 0ℚ
    no_right x e = ap (λ (t : ℚ). x *ℚ t) e ∙ mul_nul rats x

    taken : (a b : ℕ) → owner i k ≡ a → owner j l ≡ b → cls (share shape m a i k) *ℚ cls (share shape m b j l) ≡ cls both
    taken a b e f = ap₂ ◌*ℚ◌ (with_owner a i k e) (with_owner b j l f) ∙ sym (cls_of_mul (gear i) (gear j))

    alone : (x y : ℚ) → x ≡ cls both → y ≡ 0ℚ → x +ℚ y ≡ cls both
    alone x y e f = ap₂ ◌+ℚ◌ e f ∙ add_nul (cls both)

    -- the first column moves with c
    at_same : owner i k ≡ c → c ≡ d → (q : Bool) → (owner j l == d) ≡ q → ways ≡ cls (if q then add both both else fracs.nul)
    at_same e f true g =
        let second : owner j l ≡ d = equal_is (owner j l) d g in
        ap₂ ◌+ℚ◌ (taken c d e second) (taken d c (e ∙ f) (second ∙ sym f)) ∙ sym (cls_of_add both both)
    at_same e f false g =
        none _ _ (no_right _ (with_others d j l g)) (no_right _ (with_others c j l (ap (λ (a : ℕ). owner j l == a) f ∙ g)))

    at_other : owner i k ≡ c → (c == d) ≡ false → (q : Bool) → (owner j l == d) ≡ q → ways ≡ cls (if q then both else fracs.nul)
    at_other e f q g = go q g
      where
        gone : cls (share shape m d i k) *ℚ cls (share shape m c j l) ≡ 0ℚ
        gone = no_left _ (with_others d i k (ap (λ (a : ℕ). a == d) e ∙ f))

        go : (q : Bool) → (owner j l == d) ≡ q → ways ≡ cls (if q then both else fracs.nul)
        go true g = alone _ _ (taken c d e (equal_is (owner j l) d g)) gone
        go false g = none _ _ (no_right _ (with_others d j l g)) gone

    at_c : owner i k ≡ c → (t : Bool) → (c == d) ≡ t → ways ≡ cls (if owner j l == d then (if t then add both both else both) else fracs.nul)
    at_c e true f = at_same e (equal_is c d f) (owner j l == d) refl
    at_c e false f = at_other e f (owner j l == d) refl

    -- it does not
    at_d : (owner i k == c) ≡ false → owner i k ≡ d → (s : Bool) → (owner j l == c) ≡ s → ways ≡ cls (if s then both else fracs.nul)
    at_d e f true g =
        ap (λ (t : ℚ). t +ℚ cls (share shape m d i k) *ℚ cls (share shape m c j l)) (no_left _ (with_others c i k e))
        ∙ add_comm 0ℚ _ ∙ alone _ _ (taken d c f (equal_is (owner j l) c g)) refl
    at_d e f false g = none _ _ (no_left _ (with_others c i k e)) (no_right _ (with_others c j l g))

    not_c : (owner i k == c) ≡ false → (r : Bool) → (owner i k == d) ≡ r → ways ≡ cls (if r then (if owner j l == c then both else fracs.nul) else fracs.nul)
    not_c e true f = at_d e (equal_is (owner i k) d f) (owner j l == c) refl
    not_c e false f = none _ _ (no_left _ (with_others c i k e)) (no_left _ (with_others d i k f))

    by_owner : (p : Bool) → (owner i k == c) ≡ p → ways
        ≡ cls (if p
        then (if owner j l == d then (if c == d then add both both else both) else fracs.nul)
        else (if owner i k == d then (if owner j l == c then both else fracs.nul) else fracs.nul))
    by_owner true e = at_c (equal_is (owner i k) c e) (c == d) refl
    by_owner false e = not_c e (owner i k == d) refl

    pub once_share-is : Same (add (mul (share shape m c i k) (share shape m d j l)) (mul (share shape m d i k) (share shape m c j l))) (once_share c d i k j l)
    once_share-is =
        exact (add (mul (share shape m c i k) (share shape m d j l)) (mul (share shape m d i k) (share shape m c j l))) (once_share c d i k j l)
        (cls_of_add (mul (share shape m c i k) (share shape m d j l)) (mul (share shape m d i k) (share shape m c j l))
        ∙ ap₂ ◌+ℚ◌ (cls_of_mul (share shape m c i k) (share shape m d j l)) (cls_of_mul (share shape m d i k) (share shape m c j l))
        ∙ by_owner (owner i k == c) refl)
