-- The laws of fractions, from those of the rational numbers.
use mathlib.Core.Path.{◌≡◌, refl, sym, ◌∙◌, ap, ap₂, subst}
use mathlib.Core.Logic.{◌⊎◌, inl, inr}
use mathlib.Core.List.{[], ◌∷◌}
use lib.IntN.{pos}
use Rattle.rb_frac.specs.Frac as F
use Rattle.rb_frac.specs.Frac.{Frac, Same, Le}
use Rattle.rb_frac.specs.Laws.{IsEquivalence, KeepsSame, IsField, IsOrdered, zero, one}
use Rattle.rb_frac.proofs.Ring.{var, eone, times}
use Rattle.rb_frac.proofs.Vec.{nth}
use Rattle.rb_frac.proofs.Combine.{combine}
use Rattle.rb_frac.proofs.Reduce.{same_refl, same_sym, same_trans}
use Rattle.rb_frac.proofs.Rational.{ℚ, ◌*ℚ◌, 0ℚ, 1ℚ, inv, rats, ◌≤ℚ◌, cls, sound, exact, cls-le, cls-null, null-cls, cls-zero, cls-one, cls_of_quot, mul_inv, one_not_zero, add_same, mul_same, neg_same, f_add_assoc, f_add_comm, f_add_nul, f_add_neg, f_mul_assoc, f_mul_comm, f_mul_one, f_mul_add}
use Rattle.rb_frac.proofs.Hom.{inside}
use Rattle.rb_frac.proofs.Order.{le_refl_ℚ, le_trans_ℚ, le_antisym_ℚ, le_total_ℚ, add_le_ℚ, mul_le_ℚ}

pub equivalence : IsEquivalence
equivalence = record { refl = same_refl; sym = same_sym; trans = same_trans }

-- ---- what keeps the number
pub sub_same : (x x' y y' : Frac) → Same x x' → Same y y' → Same (F.sub x y) (F.sub x' y')
unfolding F.sub
sub_same x x' y y' h k = add_same x x' (F.neg y) (F.neg y') h (neg_same y y' k)

pub quot_same : (x x' y y' : Frac) → Same x x' → Same y y' → Same (F.quot x y) (F.quot x' y')
quot_same x x' y y' h k = exact _ _ (cls_of_quot x y ∙ ap₂ (λ (p q : ℚ). p *ℚ inv q) (sound x x' h) (sound y y' k) ∙ sym (cls_of_quot x' y'))

pub le_same : (x x' y y' : Frac) → Same x x' → Same y y' → Le x y → Le x' y'
le_same x x' y y' h k l = (cls-le x' y').1 (subst (λ (q : ℚ). cls x' ≤ℚ q) (sound y y' k) (subst (λ (p : ℚ). p ≤ℚ cls y) (sound x x' h) ((cls-le x y).0 l)))

pub keeps_same : KeepsSame
keeps_same = record { add = add_same; neg = neg_same; sub = sub_same; mul = mul_same; quot = quot_same; le = le_same }

-- ---- the field
null_same : (x : Frac) → Same x zero → x.num ≡ pos 0
null_same x h = null-cls x (sound x zero h ∙ cls-zero)

same_null : (x : Frac) → x.num ≡ pos 0 → Same x zero
same_null x e = exact x zero (cls-null x e ∙ sym cls-zero)

one_differs : ¬ Same one zero
one_differs h = one_not_zero (sym cls-one ∙ sound one zero h ∙ cls-zero)

inverse_q : (p q : ℚ) → p *ℚ q ≡ 1ℚ → p *ℚ (1ℚ *ℚ q) ≡ 1ℚ
inverse_q p q h = combine rats (nth 0ℚ (p ∷ q ∷ [])) (times (var 0) (times eone (var 1))) eone (record { by = eone; left = times (var 0) (var 1); right = eone } ∷ []) refl (h, tt)

back_q : (p q r : ℚ) → q *ℚ r ≡ 1ℚ → (p *ℚ r) *ℚ q ≡ p
back_q p q r h = combine rats (nth 0ℚ (p ∷ q ∷ r ∷ [])) (times (times (var 0) (var 2)) (var 1)) (var 0) (record { by = var 0; left = times (var 1) (var 2); right = eone } ∷ []) refl (h, tt)

differs : (x : Frac) → ¬ Same x zero → ¬ (cls x ≡ 0ℚ)
differs x n e = n (same_null x (null-cls x e))

has_inverse : (x : Frac) → ¬ Same x zero → Same (F.mul x (F.quot one x)) one
has_inverse x n = exact (F.mul x (F.quot one x)) one (simp inside (ap (λ (t : ℚ). cls x *ℚ t) (cls_of_quot one x ∙ ap (λ (t : ℚ). t *ℚ inv (cls x)) cls-one) ∙ inverse_q (cls x) (inv (cls x)) (mul_inv (cls x) (differs x n))))

quot_back : (x y : Frac) → ¬ Same y zero → Same (F.mul (F.quot x y) y) x
quot_back x y n = exact (F.mul (F.quot x y) y) x (simp inside (ap (λ (t : ℚ). t *ℚ cls y) (cls_of_quot x y) ∙ back_q (cls x) (cls y) (inv (cls y)) (mul_inv (cls y) (differs y n))))

pub field : IsField
unfolding F.sub
field = record {
  add_assoc = f_add_assoc;
  add_comm = f_add_comm;
  add_zero = f_add_nul;
  add_neg = f_add_neg;
  sub = λ x y. refl;
  mul_assoc = f_mul_assoc;
  mul_comm = f_mul_comm;
  mul_one = f_mul_one;
  mul_add = f_mul_add;
  is_zero = λ x. (null_same x, same_null x);
  one_is_not_zero = one_differs;
  inverse = has_inverse;
  quot = quot_back;
}

-- ---- the order
pub trans_le : (x y z : Frac) → Le x y → Le y z → Le x z
trans_le x y z h k = (cls-le x z).1 (le_trans_ℚ ((cls-le x y).0 h) ((cls-le y z).0 k))

pub antisym_le : (x y : Frac) → Le x y → Le y x → Same x y
antisym_le x y h k = exact x y (le_antisym_ℚ ((cls-le x y).0 h) ((cls-le y x).0 k))

pub total_le : (x y : Frac) → Le x y ⊎ Le y x
total_le x y = go (le_total_ℚ (cls x) (cls y))
  where
    go : (cls x ≤ℚ cls y) ⊎ (cls y ≤ℚ cls x) → Le x y ⊎ Le y x
    go (inl h) = inl ((cls-le x y).1 h)
    go (inr h) = inr ((cls-le y x).1 h)

pub add_le : (x y z : Frac) → Le x y → Le (F.add x z) (F.add y z)
add_le x y z h = (cls-le (F.add x z) (F.add y z)).1 (simp inside (add_le_ℚ ((cls-le x y).0 h) (le_refl_ℚ (cls z))))

turned : (p q r : ℚ) → (r *ℚ p) ≤ℚ (r *ℚ q) → (p *ℚ r) ≤ℚ (q *ℚ r)
turned p q r h = subst (λ (t : ℚ). t ≤ℚ (q *ℚ r)) (swap r p) (subst (λ (t : ℚ). (r *ℚ p) ≤ℚ t) (swap r q) h)
  where
    swap : (a b : ℚ) → a *ℚ b ≡ b *ℚ a
    swap a b = rats.mul_comm a b

pub mul_le : (x y z : Frac) → Le zero z → Le x y → Le (F.mul x z) (F.mul y z)
mul_le x y z p h = (cls-le (F.mul x z) (F.mul y z)).1 (simp inside (turned (cls x) (cls y) (cls z) (mul_le_ℚ (cls z) (subst (λ (q : ℚ). q ≤ℚ cls z) cls-zero ((cls-le zero z).0 p)) ((cls-le x y).0 h))))

pub ordered : IsOrdered
ordered = record { refl = λ x. (cls-le x x).1 (le_refl_ℚ (cls x)); trans = trans_le; antisym = antisym_le; total = total_le; add = add_le; mul = mul_le }
