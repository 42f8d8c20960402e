-- The lower triangular table of factors: there is one, and it is the only one.
use Rattle.std.proofs.Common.{◌≡◌, inl, inr, ℕ, refl, sym, ◌∙◌, subst, arith}
use native.Mathlib.Decide.{ℕ_discrete}
use Rattle.rb_frac.specs.Frac.{Frac, Same, fracs}
use Rattle.rb_frac.proofs.Reduce.{same_refl}
use Rattle.rb_frac.proofs.Rational.{ℚ, sound, cls-zero, cls-one}
use Rattle.rb_elimination.specs.Paths.{IsColumn, IsRegular, IsAncestor, IsOn}
use Rattle.rb_elimination.specs.Product.{IsLower}
use Rattle.rb_elimination.proofs.Paths.{lower_of, is_ancestor, is_known}
use Rattle.rb_elimination.proofs.Numbers.{rows}
use Rattle.rb_elimination.proofs.Triangle.{IsTriangle}

-- its numbers
pub triangle_of : (n : ℕ) (up : ℕ → ℕ) (L lower : ℕ → ℕ → Frac) → IsLower n up L lower → IsTriangle n up (rows L) (rows lower)
triangle_of n up L lower h = record {
  diagonal = λ c k. sound (lower c c) fracs.one (h.diagonal c k) ∙ cls-one;
  ancestors = λ c d k a. sound (lower c d) (L c d) (h.ancestors c d k a);
  others = λ c d k j o. sound (lower c d) fracs.nul (h.others c d k j o) ∙ cls-zero;
}

module _ (n : ℕ) (up : ℕ → ℕ) (regular : IsRegular n up) where
  -- ---- there is one
  module _ (L : ℕ → ℕ → Frac) where
    pick : (c d : ℕ) → Dec (c ≡ d) → Dec (IsColumn n c × IsAncestor up c d) → Frac
    pick c d (yes q) r = fracs.one
    pick c d (no m) (yes a) = L c d
    pick c d (no m) (no b) = fracs.nul

    pub lower_at : ℕ → ℕ → Frac
    lower_at c d = pick c d (ℕ_discrete c d) (is_known n up regular c d)

    pick_diagonal : (c : ℕ) (r : Dec (c ≡ c)) (s : Dec (IsColumn n c × IsAncestor up c c)) → Same (pick c c r s) fracs.one
    unfolding pick
    pick_diagonal c (yes q) s = same_refl fracs.one
    pick_diagonal c (no m) s = absurd (m refl)

    pick_ancestor : (c d : ℕ) (r : Dec (c ≡ d)) (s : Dec (IsColumn n c × IsAncestor up c d)) → ¬ (c ≡ d) → IsColumn n c → IsAncestor up c d → Same (pick c d r s) (L c d)
    unfolding pick
    pick_ancestor c d (yes q) s o k a = absurd (o q)
    pick_ancestor c d (no m) (yes p) o k a = same_refl (L c d)
    pick_ancestor c d (no m) (no b) o k a = absurd (b (k, a))

    pick_other : (c d : ℕ) (r : Dec (c ≡ d)) (s : Dec (IsColumn n c × IsAncestor up c d)) → ¬ IsOn up c d → Same (pick c d r s) fracs.nul
    unfolding pick
    pick_other c d (yes q) s o = absurd (o (inl q))
    pick_other c d (no m) (yes p) o = absurd (o (inr p.1))
    pick_other c d (no m) (no b) o = same_refl fracs.nul

    pub lower_is : IsLower n up L lower_at
    unfolding lower_at
    lower_is = record {
      diagonal = λ c k. pick_diagonal c (ℕ_discrete c c) (is_known n up regular c c);
      ancestors = λ c d k a. pick_ancestor c d (ℕ_discrete c d) (is_known n up regular c d) (λ q. absurd (omega (arith, q, lower_of n up regular c d k a))) k a;
      others = λ c d k j o. pick_other c d (ℕ_discrete c d) (is_known n up regular c d) o;
    }

  -- ---- it is the only one
  module _ (L lower other : ℕ → ℕ → ℚ) (is : IsTriangle n up L lower) (is' : IsTriangle n up L other) where
    same_at : (c d : ℕ) → IsColumn n c → IsColumn n d → Dec (c ≡ d) → Dec (IsAncestor up c d) → lower c d ≡ other c d
    same_at c d k j (yes q) r = subst (λ t. lower c t ≡ other c t) q (is.diagonal c k ∙ sym (is'.diagonal c k))
    same_at c d k j (no m) (yes a) = is.ancestors c d k a ∙ sym (is'.ancestors c d k a)
    same_at c d k j (no m) (no b) =
        let off : ¬ IsOn up c d = λ o. elim o [ inl q ↦ m q | inr a ↦ b a ] in
        is.others c d k j off ∙ sym (is'.others c d k j off)

    pub same_lower : (c d : ℕ) → IsColumn n c → IsColumn n d → lower c d ≡ other c d
    same_lower c d k j = same_at c d k j (ℕ_discrete c d) (is_ancestor n up regular c d k)
