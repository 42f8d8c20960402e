-- There is one answer of a solution: the same numbers or the same refusal, and not both.
use Rattle.std.proofs.Common.{◌≡◌, inl, inr, ℕ, zero, suc, ◌+◌, ◌-◌, ◌<◌, ◌≤◌, Ok, Err, refl, ap, sym, ◌∙◌, subst, arith}
use Rattle.std.proofs.lemmas.Bool.{cases_lt}
use Rattle.rb_result.proofs.Results.{same_ok, not-both}
use Rattle.rb_num.specs.declared.interval.NumFault.TheVariants as N
use Rattle.rb_num.specs.Interval.{Interval}
use Rattle.rb_num.specs.Refusing.{iv_div}
use Rattle.rb_work.specs.declared.names.NameKind.TheVariants as K
use Rattle.rb_work.specs.declared.names.RowFault.{RowFault}
use Rattle.rb_work.specs.declared.names.RowFault.TheVariants.{Size}
use Rattle.rb_work.specs.Names.{one}
use Rattle.rb_elimination.specs.Paths.{IsColumn, IsRegular, IsAncestor}
use Rattle.rb_elimination.specs.Solving.{IsReduced, IsDivided, IsSubstituted, IsFound}
use Rattle.rb_elimination.proofs.Paths.{is_ancestor, has_above, on_above, above_ancestor, column_of, lower_of}
use Rattle.rb_elimination.proofs.Related.{reduced_met, substituted_met, found_met}
use Rattle.rb_factor.specs.Steps.{lessened, interval_steps}
use Rattle.rb_factor.specs.Solve.{Takes, IsReducedAbove, IsReduceRefused, IsDivideRefused, IsSubstituteRefused, IsSolveRefused, by_reduce, by_divide, by_substitute}
use Rattle.rb_factor.specs.Laws.{SameNumbers, SameFactors, SolveIsOne}
use Rattle.rb_factor.proofs.Relations.{intervals_same}

same_numbers_sym : (n : ℕ) (v w : ℕ → Interval) → SameNumbers n v w → SameNumbers n w v
same_numbers_sym n v w h c i = sym (h c i)

same_factors_sym : (n : ℕ) (up : ℕ → ℕ) (v w : ℕ → ℕ → Interval) → SameFactors n up v w → SameFactors n up w v
same_factors_sym n up v w h c d i a = sym (h c d i a)

module _ (n : ℕ) (up : ℕ → ℕ) (regular : IsRegular n up) (L L' : ℕ → ℕ → Interval) (factors : SameFactors n up L L') where
  -- ---- the first step
  reduced_back : (right : ℕ → Interval) (left : ℕ → ℕ → Interval) (w : ℕ → Interval) → IsReduced interval_steps n up L right left w → IsReducedAbove 0 n up L right left
  reduced_back right left w h = record {
    first = h.first;
    each = λ c low l. record {
      updates = λ d a. ap (λ x. lessened (left (suc c) d) (L (suc c) d) x) (sym (h.result (suc c) (record { from = omega arith; to = omega arith }))) ∙ h.updates c d l a;
      others = λ d from less m. h.others c d l (record { from = from; to = omega arith }) m;
    };
  }

  module _ (right right' : ℕ → Interval) (start : SameNumbers n right right') (k k' : ℕ) (left left' : ℕ → ℕ → Interval)
      (h : IsReducedAbove k n up L right left) (h' : IsReducedAbove k' n up L' right' left') where
    next_at : (c d : ℕ) → c < n → SameNumbers (suc c) (left (suc c)) (left' (suc c)) → Takes up L (suc c) (left (suc c)) (left c) → Takes up L' (suc c) (left' (suc c)) (left' c)
        → IsColumn c d → Dec (IsAncestor up (suc c) d) → left c d ≡ left' c d
    next_at c d l same t t' i (yes a) =
        let here : IsColumn n (suc c) = record { from = omega arith; to = omega arith } in
        let row : left (suc c) d ≡ left' (suc c) d = same d (record { from = i.from; to = omega (arith, i.to) }) in
        let own : left (suc c) (suc c) ≡ left' (suc c) (suc c) = same (suc c) (record { from = omega arith; to = omega arith }) in
        same_ok (left c d) (left' c d) (sym (t.updates d a) ∙ rw (row, own, factors (suc c) d here a) (t'.updates d a))
    next_at c d l same t t' i (no m) =
        t.others d i.from (omega (arith, i.to)) m ∙ same d (record { from = i.from; to = omega (arith, i.to) }) ∙ sym (t'.others d i.from (omega (arith, i.to)) m)

    lefts_same : (j c : ℕ) → c + j ≡ n → k ≤ c → k' ≤ c → SameNumbers c (left c) (left' c)
    lefts_same zero c e low low' =
        let q : n ≡ c = omega arith in
        subst (λ m. SameNumbers m (left m) (left' m)) q (λ d i. h.first d i ∙ start d i ∙ sym (h'.first d i))
    lefts_same (suc j) c e low low' =
        let l : c < n = omega arith in
        let next : SameNumbers (suc c) (left (suc c)) (left' (suc c)) = lefts_same j (suc c) (omega arith) (omega arith) (omega arith) in
        λ d i. next_at c d l next (h.each c low l) (h'.each c low' l) i (is_ancestor n up regular (suc c) d (record { from = omega arith; to = omega arith }))

    -- a column that is taken from one is not refused in the other, which has come to it
    taken_not : k < k' → IsColumn n k' → (d : ℕ) → IsAncestor up k' d → lessened (left' k' d) (L' k' d) (left' k' k') ≡ Err N.Size → ⊥
    taken_not less there d a r = at k' less there (lefts_same (n - k') k' (omega (arith, there.to)) (omega arith) (omega arith)) a r
      where
        at : (m : ℕ) → k < m → IsColumn n m → SameNumbers m (left m) (left' m) → IsAncestor up m d → lessened (left' m d) (L' m d) (left' m m) ≡ Err N.Size → ⊥
        at zero l i same a r = absurd (omega arith)
        at (suc m) l i same a r =
            let t = h.each m (omega arith) (omega (arith, i.to)) in
            let less : d < suc m = lower_of n up regular (suc m) d i a in
            let from : 1 ≤ d = (column_of n up regular (suc m) d i a).from in
            let row : left (suc m) d ≡ left' (suc m) d = same d (record { from = from; to = omega arith }) in
            let own : left (suc m) (suc m) ≡ left' (suc m) (suc m) = same (suc m) (record { from = omega arith; to = omega arith }) in
            not-both (lessened (left' (suc m) d) (L' (suc m) d) (left' (suc m) (suc m))) (left m d) N.Size (rw (← row, ← own, ← factors (suc m) d i a) (t.updates d a)) r

  pub reduce_either : (right right' : ℕ → Interval) → SameNumbers n right right' → (left : ℕ → ℕ → Interval) (w : ℕ → Interval) (e : RowFault)
      → IsReduced interval_steps n up L right left w → IsReduceRefused n up L' right' e → ⊥
  reduce_either right right' start left w e h g =
      taken_not right right' start 0 g.column left g.left (reduced_back right left w h) g.until (omega (arith, g.there.from)) g.there g.ancestor g.is_ancestor g.refused

  -- ---- the last step
  fewer : (z : ℕ → Interval) (part : ℕ → ℕ → Interval) (x : ℕ → Interval) (m k : ℕ) → k ≤ m → IsSubstituted interval_steps m up L z part x
      → IsSubstituted interval_steps k up L z part x
  fewer z part x m k l h = record {
    first = λ c i. h.first c (record { from = i.from; to = omega (arith, i.to) });
    result = λ c i. h.result c (record { from = i.from; to = omega (arith, i.to) });
    updates = λ c d i a. h.updates c d (record { from = i.from; to = omega (arith, i.to) }) a;
  }

  -- what is left before an ancestor has its turn is the same, where the nearer ones had theirs
  module _ (c : ℕ) (there : IsColumn n c) (a : ℕ) (x x' own own' : ℕ → Interval) (below : (d : ℕ) → IsAncestor up c d → x d ≡ x' d)
      (steps : (b : ℕ) → IsAncestor up c b → a < b → lessened (own b) (L c b) (x b) ≡ Ok (own (up b)))
      (steps' : (b : ℕ) → IsAncestor up c b → a < b → lessened (own' b) (L' c b) (x' b) ≡ Ok (own' (up b))) where
    next_same : (b : ℕ) → IsAncestor up c b → a < b → own b ≡ own' b → own (up b) ≡ own' (up b)
    next_same b i l s = same_ok (own (up b)) (own' (up b)) (sym (steps b i l) ∙ rw (s, factors c b there i, below b i) (steps' b i l))

    walk : (b t : ℕ) → t ≡ a → IsAncestor up c b → own b ≡ own' b → IsAncestor up b t → own t ≡ own' t
    walk b t e i s (IsAncestor.next l) =
        let less : up b < b = lower_of n up regular b (up b) (column_of n up regular c b there i) (IsAncestor.next l) in
        next_same b i (omega (arith, e, less)) s
    walk b t e i s (IsAncestor.further l r) =
        let less : t < b = lower_of n up regular b t (column_of n up regular c b there i) (IsAncestor.further l r) in
        walk (up b) t e (above_ancestor up c b i l) (next_same b i (omega (arith, e, less)) s) r

    pub own_same : IsAncestor up c a → own (up c) ≡ own' (up c) → own a ≡ own' a
    own_same i s =
        elim (on_above up c a i) [
          | inl q ↦ subst (λ b. own b ≡ own' b) q s
          | inr r ↦ walk (up c) a refl (IsAncestor.next (has_above up c a i)) s r
        ]

  pub substitute_either : (z z' : ℕ → Interval) → SameNumbers n z z' → (m : ℕ) → m ≤ n → (part : ℕ → ℕ → Interval) (x : ℕ → Interval) (e : RowFault)
      → IsSubstituted interval_steps m up L z part x → (g : IsSubstituteRefused n up L' z' e) → g.found < m → ⊥
  unfolding intervals_same
  substitute_either z z' start m high part x e h g l =
      let c = suc g.found in
      let there : IsColumn n (suc g.found) = record { from = omega arith; to = omega arith } in
      let here : IsColumn m (suc g.found) = record { from = omega arith; to = omega arith } in
      let numbers : (d : ℕ) → IsColumn g.found d → x d ≡ g.x d =
      substituted_met intervals_same g.found up (λ c i. regular c (record { from = i.from; to = omega (arith, i.to) })) L L'
      (λ c d i a. factors c d (record { from = i.from; to = omega (arith, i.to) }) a) z part x z' g.part g.x
      (fewer z part x m g.found (omega arith) h) g.until (λ c i. start c (record { from = i.from; to = omega (arith, i.to) })) in
      let below : (d : ℕ) → IsAncestor up (suc g.found) d → x d ≡ g.x d = λ d a.
      (let less : d < suc g.found = lower_of n up regular (suc g.found) d there a in
      numbers d (record { from = (column_of n up regular (suc g.found) d there a).from; to = omega arith })) in
      let own : part (suc g.found) g.ancestor ≡ g.own g.ancestor =
      own_same (suc g.found) there g.ancestor x g.x (part (suc g.found)) g.own below (λ b i k. h.updates (suc g.found) b here i) g.nearer g.is_ancestor
      (h.first (suc g.found) here ∙ start (suc g.found) there ∙ sym g.first) in
      not-both (lessened (g.own g.ancestor) (L' (suc g.found) g.ancestor) (g.x g.ancestor)) (part (suc g.found) (up g.ancestor)) N.Size
      (rw (← own, ← factors (suc g.found) g.ancestor there g.is_ancestor, ← below g.ancestor g.is_ancestor) (h.updates (suc g.found) g.ancestor here g.is_ancestor))
      g.refused

-- ---- quotients
pub divide_either : (n : ℕ) (up : ℕ → ℕ) (D D' w w' z : ℕ → Interval) → SameNumbers n D D' → SameNumbers n w w' → IsDivided interval_steps n up D w z → (e : RowFault)
    → IsDivideRefused n D' w' e → ⊥
divide_either n up D D' w w' z pivots start h e g =
    not-both (iv_div (w' g.column) (D' g.column)) (z g.column) N.Size (rw (← start g.column g.there, ← pivots g.column g.there) (h g.column g.there)) g.refused

divide_first : (n : ℕ) (D D' w w' : ℕ → Interval) → SameNumbers n D D' → SameNumbers n w w' → (d e : RowFault) (f : IsDivideRefused n D w d) (g : IsDivideRefused n D' w' e)
    → f.column < g.column → ⊥
divide_first n D D' w w' pivots start d e f g l =
    let q = g.until f.column f.there.from l in
    not-both (iv_div (w f.column) (D f.column)) q.0 N.Size (rw (start f.column f.there, pivots f.column f.there) q.1) f.refused

pub divided_same : (n : ℕ) (up : ℕ → ℕ) (D D' w w' z z' : ℕ → Interval) → SameNumbers n D D' → SameNumbers n w w' → IsDivided interval_steps n up D w z
    → IsDivided interval_steps n up D' w' z' → SameNumbers n z z'
divided_same n up D D' w w' z z' pivots start h h' c i = same_ok (z c) (z' c) (sym (h c i) ∙ rw (start c i, pivots c i) (h' c i))

module _ (n : ℕ) (up : ℕ → ℕ) (regular : IsRegular n up) (L L' : ℕ → ℕ → Interval) (D D' : ℕ → Interval) (factors : SameFactors n up L L') (pivots : SameNumbers n D D') where
  pub reduce_same : (right right' : ℕ → Interval) → SameNumbers n right right' → (d e : RowFault) → IsReduceRefused n up L right d → IsReduceRefused n up L' right' e → d ≡ e
  reduce_same right right' start d e f g =
      elim (cases_lt f.column g.column) [
        | inl l ↦
            absurd
            (taken_not n up regular L L' factors right right' start f.column g.column f.left g.left f.until g.until l g.there g.ancestor g.is_ancestor g.refused)
        | inr m ↦ elim (cases_lt g.column f.column) [
          | inl l ↦
              absurd
              (taken_not n up regular L' L (same_factors_sym n up L L' factors) right' right (same_numbers_sym n right right' start) g.column f.column g.left f.left g.until f.until l
              f.there f.ancestor f.is_ancestor f.refused)
          | inr k ↦ let q : f.column ≡ g.column = omega arith in f.named ∙ ap (λ c. Size (one K.w c)) q ∙ sym g.named
        ]
      ]

  pub divide_same : (w w' : ℕ → Interval) → SameNumbers n w w' → (d e : RowFault) → IsDivideRefused n D w d → IsDivideRefused n D' w' e → d ≡ e
  divide_same w w' start d e f g =
      elim (cases_lt f.column g.column) [
        | inl l ↦ absurd (divide_first n D D' w w' pivots start d e f g l)
        | inr m ↦ elim (cases_lt g.column f.column) [
          | inl l ↦ absurd (divide_first n D' D w' w (same_numbers_sym n D D' pivots) (same_numbers_sym n w w' start) e d g f l)
          | inr k ↦ let q : f.column ≡ g.column = omega arith in f.named ∙ ap (λ c. Size (one K.z c)) q ∙ sym g.named
        ]
      ]

  pub substitute_same : (z z' : ℕ → Interval) → SameNumbers n z z' → (d e : RowFault) → IsSubstituteRefused n up L z d → IsSubstituteRefused n up L' z' e → d ≡ e
  substitute_same z z' start d e f g =
      elim (cases_lt f.found g.found) [
        | inl l ↦
            absurd
            (substitute_either n up regular L' L (same_factors_sym n up L L' factors) z' z (same_numbers_sym n z z' start) g.found (omega (arith, g.fewer)) g.part g.x d g.until f l)
        | inr m ↦ elim (cases_lt g.found f.found) [
          | inl l ↦ absurd (substitute_either n up regular L L' factors z z' start f.found (omega (arith, f.fewer)) f.part f.x e f.until g l)
          | inr k ↦ let q : f.found ≡ g.found = omega arith in f.named ∙ ap (λ c. Size (one K.x (suc c))) q ∙ sym g.named
        ]
      ]

  pub w_same : (right right' : ℕ → Interval) → SameNumbers n right right' → (left left' : ℕ → ℕ → Interval) (w w' : ℕ → Interval)
      → IsReduced interval_steps n up L right left w → IsReduced interval_steps n up L' right' left' w' → SameNumbers n w w'
  unfolding intervals_same
  w_same right right' start left left' w w' h h' = reduced_met intervals_same n up regular L L' factors right left w right' left' w' h h' start

  either : (right right' : ℕ → Interval) → SameNumbers n right right' → (x : ℕ → Interval) (e : RowFault) → IsFound interval_steps n up L D right x
      → IsSolveRefused n up L' D' right' e → ⊥
  either right right' start x e f (by_reduce g) = reduce_either n up regular L L' factors right right' start f.left f.w e f.reduced g
  either right right' start x e f (by_divide left w r g) =
      divide_either n up D D' f.w w f.z pivots (w_same right right' start f.left left f.w w f.reduced r) f.divided e g
  either right right' start x e f (by_substitute left w z r q g) =
      substitute_either n up regular L L' factors f.z z
      (divided_same n up D D' f.w w f.z z pivots (w_same right right' start f.left left f.w w f.reduced r) f.divided q) n (omega arith) f.part x e f.substituted g g.fewer

  refusal : (right right' : ℕ → Interval) → SameNumbers n right right' → (d e : RowFault) → IsSolveRefused n up L D right d → IsSolveRefused n up L' D' right' e → d ≡ e
  refusal right right' start d e (by_reduce f) (by_reduce g) = reduce_same right right' start d e f g
  refusal right right' start d e (by_reduce f) (by_divide left w r g) =
      absurd (reduce_either n up regular L' L (same_factors_sym n up L L' factors) right' right (same_numbers_sym n right right' start) left w d r f)
  refusal right right' start d e (by_reduce f) (by_substitute left w z r q g) =
      absurd (reduce_either n up regular L' L (same_factors_sym n up L L' factors) right' right (same_numbers_sym n right right' start) left w d r f)
  refusal right right' start d e (by_divide left w r f) (by_reduce g) = absurd (reduce_either n up regular L L' factors right right' start left w e r g)
  refusal right right' start d e (by_divide left w r f) (by_divide left' w' r' g) = divide_same w w' (w_same right right' start left left' w w' r r') d e f g
  refusal right right' start d e (by_divide left w r f) (by_substitute left' w' z' r' q' g) =
      absurd
      (divide_either n up D' D w' w z' (same_numbers_sym n D D' pivots) (same_numbers_sym n w w' (w_same right right' start left left' w w' r r')) q' d f)
  refusal right right' start d e (by_substitute left w z r q f) (by_reduce g) = absurd (reduce_either n up regular L L' factors right right' start left w e r g)
  refusal right right' start d e (by_substitute left w z r q f) (by_divide left' w' r' g) =
      absurd (divide_either n up D D' w w' z pivots (w_same right right' start left left' w w' r r') q e g)
  refusal right right' start d e (by_substitute left w z r q f) (by_substitute left' w' z' r' q' g) =
      substitute_same z z' (divided_same n up D D' w w' z z' pivots (w_same right right' start left left' w w' r r') q q') d e f g

pub solve_is_one : SolveIsOne
unfolding intervals_same
solve_is_one n up L L' D D' right right' regular factors pivots start = record {
  values = λ x x' f f'. found_met intervals_same n up regular L L' factors D right x D' right' x' f f' pivots start;
  either = either n up regular L L' D D' factors pivots right right' start;
  refusal = refusal n up regular L L' D D' factors pivots right right' start;
}
