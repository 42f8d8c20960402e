-- The totals of rows or columns, and the first that is refused, are determined by what is added up.
use Rattle.std.proofs.Common.{◌≡◌, inl, inr, ℕ, ◌<◌, ◌≤◌, ap, sym, ◌∙◌, arith}
use mathlib.Core.Path.{ap₂}
use Rattle.std.proofs.lemmas.Bool.{cases_lt}
use Rattle.rb_result.proofs.Results.{same_ok, not-both}
use Rattle.rb_num.specs.Interval.{Interval}
use Rattle.rb_num.specs.Dot.{iv_dot}
use Rattle.rb_num.specs.Refusing.{iv_add}
use Rattle.rb_num.specs.declared.interval.NumFault.{NumFault}
use Rattle.rb_num.specs.declared.interval.NumFault.TheVariants as N
use Rattle.rb_elimination.specs.Paths.{IsColumn}
use Rattle.rb_factor.specs.Laws.{SameNumbers}
use Rattle.rb_coupling.specs.Steps.{pairs_of}
use Rattle.rb_coupling.specs.Forces.{IsTotal, IsTotalRefused}
use Rattle.rb_coupling.proofs.Enclosing.{pairs_same}

module _ (m : ℕ) (start start' : Interval) (a a' b b' : ℕ → Interval) (s : start ≡ start') (p : SameNumbers m a a') (q : SameNumbers m b b') where
  sums : iv_dot (pairs_of a b m) ≡ iv_dot (pairs_of a' b' m)
  sums = ap iv_dot (pairs_same m a b a' b' p q)

  pub total_same : (v v' : Interval) → IsTotal start m a b v → IsTotal start' m a' b' v' → v ≡ v'
  total_same v v' h h' =
      let t : h.sum ≡ h'.sum = same_ok {E = NumFault} h.sum h'.sum (sym h.sums ∙ sums ∙ h'.sums) in
      same_ok {E = NumFault} v v' (sym h.adds ∙ ap₂ iv_add s t ∙ h'.adds)

  pub not_total : (v : Interval) → IsTotal start m a b v → IsTotalRefused start' m a' b' → ⊥
  not_total v h (IsTotalRefused.in_sum e) = not-both (iv_dot (pairs_of a' b' m)) h.sum N.Size (sym sums ∙ h.sums) e
  not_total v h (IsTotalRefused.in_total t k e) =
      let same : h.sum ≡ t = same_ok {E = NumFault} h.sum t (sym h.sums ∙ sums ∙ k) in
      not-both (iv_add start' t) v N.Size (sym (ap₂ iv_add s same) ∙ h.adds) e

-- the first that is refused
pub record IsFirstTotal (n m : ℕ) (start : ℕ → Interval) (a : ℕ → ℕ → Interval) (b : ℕ → Interval) : Type 0 where
  pub at : ℕ
  pub there : IsColumn n at
  pub until : (i : ℕ) → 1 ≤ i → i < at → (v : Interval) × IsTotal (start i) m (a i) b v
  pub refused : IsTotalRefused (start at) m (a at) b

module _ (n m : ℕ) (start start' : ℕ → Interval) (a a' : ℕ → ℕ → Interval) (b b' : ℕ → Interval) (s : SameNumbers n start start')
    (p : (i : ℕ) → IsColumn n i → SameNumbers m (a i) (a' i)) (q : SameNumbers m b b') where
  -- where there is each, none is refused
  pub none_refused : ((i : ℕ) → IsColumn n i → (v : Interval) × IsTotal (start i) m (a i) b v) → IsFirstTotal n m start' a' b' → ⊥
  none_refused each f =
      let v = each f.at f.there in
      not_total m (start f.at) (start' f.at) (a f.at) (a' f.at) b b' (s f.at f.there) (p f.at f.there) q v.0 v.1 f.refused

  pub no_earlier : (f : IsFirstTotal n m start a b) (g : IsFirstTotal n m start' a' b') → g.at < f.at → ⊥
  no_earlier f g l =
      let v = f.until g.at g.there.from l in
      not_total m (start g.at) (start' g.at) (a g.at) (a' g.at) b b' (s g.at g.there) (p g.at g.there) q v.0 v.1 g.refused

pub first_same : (n m : ℕ) (start start' : ℕ → Interval) (a a' : ℕ → ℕ → Interval) (b b' : ℕ → Interval) → SameNumbers n start start' → ((i : ℕ) → IsColumn n i → SameNumbers m (a i) (a' i))
    → SameNumbers m b b' → (f : IsFirstTotal n m start a b) (g : IsFirstTotal n m start' a' b') → f.at ≡ g.at
first_same n m start start' a a' b b' s p q f g =
    elim (cases_lt g.at f.at) [
      | inl l ↦ absurd (no_earlier n m start start' a a' b b' s p q f g l)
      | inr k ↦ elim (cases_lt f.at g.at) [
        | inl l ↦
            absurd
            (no_earlier n m start' start a' a b' b (λ i there. sym (s i there)) (λ i there c on. sym (p i there c on)) (λ c on. sym (q c on)) g f l)
        | inr j ↦ omega arith
      ]
    ]
