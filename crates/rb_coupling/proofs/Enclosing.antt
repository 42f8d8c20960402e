-- The steps and sums over intervals keep equality, and that fractions lie in intervals.
use Rattle.std.proofs.Common.{◌≡◌, ℕ, zero, suc, List, [], ◌∷◌, ◌++◌, Ok, refl, ap, sym, ◌∙◌, subst, arith}
use mathlib.Core.Path.{ap₂}
use Rattle.rb_frac.specs.Ops.{sum}
use Rattle.rb_frac.specs.Frac as F
use Rattle.rb_frac.specs.Frac.{Frac, Same, fracs}
use Rattle.rb_frac.specs.Pairs.{dot, PairsRelate}
use Rattle.rb_frac.proofs.Reduce.{same_sym}
use Rattle.rb_frac.proofs.Rational.{ℚ, ◌+ℚ◌, cls, exact}
use Rattle.rb_frac.proofs.Hom.{cls_of_add}
use Rattle.rb_frac.proofs.Quote.{with2, with3, quote, finish}
use Rattle.rb_result.proofs.Results.{same_ok}
use Rattle.rb_num.specs.Interval.{Interval, negative_of}
use Rattle.rb_num.specs.Dot.{iv_dot}
use Rattle.rb_num.specs.Refusing.{iv_add}
use Rattle.rb_num.specs.Fraction.{LiesIn}
use Rattle.rb_num.proofs.Bridges.{to_intervals, ok_met}
use Rattle.rb_num.proofs.Relates.{dot_met, add_met}
use Rattle.rb_num.proofs.Fractions.{neg_lies}
use Rattle.rb_num.proofs.Same.{lies_in_same}
use Rattle.rb_elimination.specs.Paths.{IsColumn}
use Rattle.rb_factor.proofs.Relations.{intervals_same, fractions_lie}
use Rattle.rb_bordered.specs.Steps.{fraction_row_steps}
use Rattle.rb_coupling.specs.Steps.{pairs_of, interval_row_steps}
use Rattle.rb_coupling.proofs.Meeting.{RowStepsRelate}

last : (n : ℕ) → IsColumn (suc n) (suc n)
last n = record { from = omega arith; to = omega arith }

wider : (n c : ℕ) → IsColumn n c → IsColumn (suc n) c
wider n c i = record { from = i.from; to = omega (arith, i.to) }

-- ---- equality
pub pairs_same : (n : ℕ) (a b a' b' : ℕ → Interval) → ((c : ℕ) → IsColumn n c → a c ≡ a' c) → ((c : ℕ) → IsColumn n c → b c ≡ b' c) → pairs_of a b n ≡ pairs_of a' b' n
unfolding pairs_of
pairs_same zero a b a' b' p q = refl
pairs_same (suc n) a b a' b' p q =
    ap₂ (λ ps x. ps ++ (x ∷ [])) (pairs_same n a b a' b' (λ c i. p c (wider n c i)) (λ c i. q c (wider n c i)))
    (ap₂ (λ x y. (x, y)) (p (suc n) (last n)) (q (suc n) (last n)))

unfoldable pub rows_same : RowStepsRelate interval_row_steps interval_row_steps
unfolding intervals_same
rows_same = record {
  base = intervals_same;
  products = λ n a b x a' b' x' h h' p q. same_ok x x' (sym h ∙ ap iv_dot (pairs_same n a b a' b' p q) ∙ h');
  sum = λ a b x a' b' x' h h' p q. same_ok x x' (sym h ∙ ap₂ iv_add p q ∙ h');
  negative = λ a x a' x' h h' p. h ∙ ap negative_of p ∙ sym h';
}

-- ---- fractions in intervals
frac_pairs : (ℕ → Frac) → (ℕ → Frac) → ℕ → List (Frac × Frac)
frac_pairs a b zero = []
frac_pairs a b (suc n) = frac_pairs a b n ++ ((a (suc n), b (suc n)) ∷ [])

related_last : (ps : List (Frac × Frac)) (qs : List (Interval × Interval)) (p : Frac × Frac) (q : Interval × Interval) → PairsRelate LiesIn ps qs → LiesIn p.0 q.0 → LiesIn p.1 q.1
    → PairsRelate LiesIn (ps ++ p ∷ []) (qs ++ q ∷ [])
related_last [] [] p q h k l = (k, l, tt)
related_last (x ∷ ps) (y ∷ qs) p q h k l = (h.0, h.1, related_last ps qs p q h.2 k l)
related_last [] (y ∷ qs) p q h k l = absurd h
related_last (x ∷ ps) [] p q h k l = absurd h

pairs_lie : (n : ℕ) (a b : ℕ → Frac) (a' b' : ℕ → Interval) → ((c : ℕ) → IsColumn n c → LiesIn (a c) (a' c)) → ((c : ℕ) → IsColumn n c → LiesIn (b c) (b' c))
    → PairsRelate LiesIn (frac_pairs a b n) (pairs_of a' b' n)
unfolding pairs_of frac_pairs
pairs_lie zero a b a' b' p q = tt
pairs_lie (suc n) a b a' b' p q =
    related_last (frac_pairs a b n) (pairs_of a' b' n) (a (suc n), b (suc n)) (a' (suc n), b' (suc n))
    (pairs_lie n a b a' b' (λ c i. p c (wider n c i)) (λ c i. q c (wider n c i))) (p (suc n) (last n)) (q (suc n) (last n))

swapped : (p q : ℚ) → p +ℚ q ≡ q +ℚ p
swapped p q = with2 p q λ ρ a b. simp (a, b, quote) (finish ρ _ _ refl)

grouped : (p q r : ℚ) → p +ℚ (q +ℚ r) ≡ (p +ℚ q) +ℚ r
grouped p q r = with3 p q r λ ρ a b c. simp (a, b, c, quote) (finish ρ _ _ refl)

dot_last : (ps : List (Frac × Frac)) (p : Frac × Frac) → cls (dot fracs (ps ++ p ∷ [])) ≡ cls (dot fracs ps) +ℚ cls (F.mul p.0 p.1)
unfolding dot
dot_last [] p = cls_of_add (F.mul p.0 p.1) fracs.nul ∙ swapped (cls (F.mul p.0 p.1)) (cls fracs.nul)
dot_last (x ∷ ps) p =
    cls_of_add (F.mul x.0 x.1) (dot fracs (ps ++ p ∷ []))
    ∙ ap (λ t. cls (F.mul x.0 x.1) +ℚ t) (dot_last ps p)
    ∙ grouped (cls (F.mul x.0 x.1)) (cls (dot fracs ps)) (cls (F.mul p.0 p.1))
    ∙ ap (λ t. t +ℚ cls (F.mul p.0 p.1)) (sym (cls_of_add (F.mul x.0 x.1) (dot fracs ps)))

sum_is : (n : ℕ) (a b : ℕ → Frac) → cls (dot fracs (frac_pairs a b n)) ≡ cls (sum fracs n (λ c. F.mul (a (suc c)) (b (suc c))))
unfolding dot sum frac_pairs
sum_is zero a b = refl
sum_is (suc n) a b =
    dot_last (frac_pairs a b n) (a (suc n), b (suc n))
    ∙ ap (λ t. t +ℚ cls (F.mul (a (suc n)) (b (suc n)))) (sum_is n a b)
    ∙ sym (cls_of_add (sum fracs n (λ c. F.mul (a (suc c)) (b (suc c)))) (F.mul (a (suc n)) (b (suc n))))

pub products_lie : (n : ℕ) (a b : ℕ → Frac) (x : Frac) (a' b' : ℕ → Interval) (x' : Interval) → Same x (sum fracs n (λ c. F.mul (a (suc c)) (b (suc c)))) → iv_dot (pairs_of a' b' n) ≡ Ok x' →
    ((c : ℕ) → IsColumn n c → LiesIn (a c) (a' c)) → ((c : ℕ) → IsColumn n c → LiesIn (b c) (b' c)) → LiesIn x x'
products_lie n a b x a' b' x' h h' p q =
    let total : Frac = sum fracs n (λ c. F.mul (a (suc c)) (b (suc c))) in
    let lies : LiesIn (dot fracs (frac_pairs a b n)) x' =
    ok_met h' (dot_met to_intervals (frac_pairs a b n) (pairs_of a' b' n) (pairs_lie n a b a' b' p q)) in
    lies_in_same total x x' (same_sym x total h) (lies_in_same (dot fracs (frac_pairs a b n)) total x' (exact (dot fracs (frac_pairs a b n)) total (sum_is n a b)) lies)

pub sum_lies : (a b x : Frac) (a' b' x' : Interval) → Same x (F.add a b) → iv_add a' b' ≡ Ok x' → LiesIn a a' → LiesIn b b' → LiesIn x x'
sum_lies a b x a' b' x' h h' p q =
    let lies : LiesIn (F.add a b) x' = ok_met h' (add_met to_intervals p q) in
    lies_in_same (F.add a b) x x' (same_sym x (F.add a b) h) lies

pub negative_lies : (a x : Frac) (a' x' : Interval) → Same x (F.neg a) → x' ≡ negative_of a' → LiesIn a a' → LiesIn x x'
negative_lies a x a' x' h h' p =
    lies_in_same (F.neg a) x x' (same_sym x (F.neg a) h) (subst (λ v. LiesIn (F.neg a) v) (sym h') (neg_lies a a' p))

unfoldable pub rows_lie : RowStepsRelate fraction_row_steps interval_row_steps
unfolding fractions_lie
rows_lie = record {
  base = fractions_lie;
  products = products_lie;
  sum = sum_lies;
  negative = negative_lies;
}
