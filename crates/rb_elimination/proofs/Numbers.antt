-- Factors of fractions are factors of rational numbers, where to be the same number is to be equal.
use mathlib.Core.Path.{◌≡◌, ◌∙◌}
use Prim.Native.Nat.{ℕ}
use Rattle.rb_frac.specs.Frac as F
use Rattle.rb_frac.specs.Frac.{Frac, Same}
use Rattle.rb_frac.proofs.Rational.{ℚ, ◌+ℚ◌, ◌*ℚ◌, neg_ℚ, inv, cls, sound, exact, cls_of_quot}
use Rattle.rb_frac.proofs.Hom.{inside}
use Rattle.rb_elimination.specs.Factors.{Steps, fraction_steps, AreFactors}
use Rattle.rb_elimination.specs.Solving.{IsReduced, IsDivided, IsSubstituted}

abbrev pub rational_steps : Steps ℚ
rational_steps = record {
  Equal = λ p q. p ≡ q;
  IsLessened = λ a l b r. r ≡ a +ℚ neg_ℚ (l *ℚ b);
  IsQuotient = λ a b q. q ≡ a *ℚ inv b;
}

less_of : (a l b r : Frac) → Same r (F.sub a (F.mul l b)) → cls r ≡ cls a +ℚ neg_ℚ (cls l *ℚ cls b)
less_of a l b r h = simp inside at (sound r (F.sub a (F.mul l b)) h)

pub less_back : (a l b r : Frac) → cls r ≡ cls a +ℚ neg_ℚ (cls l *ℚ cls b) → Same r (F.sub a (F.mul l b))
less_back a l b r h = exact r (F.sub a (F.mul l b)) (simp inside h)

quotient_of : (a b q : Frac) → Same q (F.quot a b) → cls q ≡ cls a *ℚ inv (cls b)
quotient_of a b q h = sound q (F.quot a b) h ∙ cls_of_quot a b

-- numbers of fractions
abbrev pub row : (ℕ → Frac) → ℕ → ℚ
row w c = cls (w c)

abbrev pub rows : (ℕ → ℕ → Frac) → ℕ → ℕ → ℚ
rows m c d = cls (m c d)

module _ (n : ℕ) (up : ℕ → ℕ) where
  pub factors_of : (given : ℕ → ℕ → Frac) (table : ℕ → ℕ → ℕ → Frac) (L : ℕ → ℕ → Frac) (D : ℕ → Frac) →
      AreFactors fraction_steps n up given table L D → AreFactors rational_steps n up (rows given) (λ c. rows (table c)) (rows L) (row D)
  factors_of given table L D h = record {
    first = λ c d l o. sound (table n c d) (given c d) (h.first c d l o);
    pivots = λ c l. sound _ _ (h.pivots c l);
    quotients = λ c d l a. quotient_of _ _ _ (h.quotients c d l a);
    updates = λ c d e l a o. less_of _ _ _ _ (h.updates c d e l a o);
    others = λ c d e l k m o. sound _ _ (h.others c d e l k m o);
  }

  pub reduced_of : (L : ℕ → ℕ → Frac) (right : ℕ → Frac) (left : ℕ → ℕ → Frac) (w : ℕ → Frac) →
      IsReduced fraction_steps n up L right left w → IsReduced rational_steps n up (rows L) (row right) (rows left) (row w)
  reduced_of L right left w h = record {
    first = λ c l. sound _ _ (h.first c l);
    result = λ c l. sound _ _ (h.result c l);
    updates = λ c d l a. less_of _ _ _ _ (h.updates c d l a);
    others = λ c d l k m. sound _ _ (h.others c d l k m);
  }

  pub divided_of : (D w z : ℕ → Frac) → IsDivided fraction_steps n up D w z → IsDivided rational_steps n up (row D) (row w) (row z)
  divided_of D w z h c l = quotient_of _ _ _ (h c l)

  pub substituted_of : (L : ℕ → ℕ → Frac) (z : ℕ → Frac) (part : ℕ → ℕ → Frac) (x : ℕ → Frac) →
      IsSubstituted fraction_steps n up L z part x → IsSubstituted rational_steps n up (rows L) (row z) (rows part) (row x)
  substituted_of L z part x h = record {
    first = λ c l. sound _ _ (h.first c l);
    result = λ c l. sound _ _ (h.result c l);
    updates = λ c d l a. less_of _ _ _ _ (h.updates c d l a);
  }
