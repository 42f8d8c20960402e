-- Sweeps over numbers in turn: what each step keeps, steps that leave alone what the others read and wrote, and steps that go on from one another.
use Rattle.std.proofs.Common.{◌≡◌, ◌≢◌, ◌⊎◌, inl, inr, ℕ, zero, suc, ◌+◌, ◌-◌, ◌<◌, ◌≤◌, Result, Ok, Err, refl, ap, sym, ◌∙◌, subst, arith}
use Rattle.std.proofs.lemmas.Bool.{cases_lt}
use Rattle.rb_result.proofs.Results.{same_ok, then-ok, then-err}
use Rattle.rb_sweep.specs.Sweep.{sweep, counting_up, upward}
use Rattle.rb_elimination.specs.Paths.{IsColumn}

-- what each number has some of, a list has for all
module _ {X : Type 0} (none : X) (P : ℕ → X → Type 0) (n : ℕ) (each : (c : ℕ) → IsColumn n c → (x : X) × P c x) where
  abbrev picked : (c : ℕ) → (c < 1) ⊎ (1 ≤ c) → (n < c) ⊎ (c ≤ n) → X
  picked c (inl l) h = none
  picked c (inr from) (inl l) = none
  picked c (inr from) (inr to) = (each c (record { from = from; to = to })).0

  abbrev pub pick : ℕ → X
  pick c = picked c (cases_lt c 1) (cases_lt n c)

  picked_is : (c : ℕ) (a : (c < 1) ⊎ (1 ≤ c)) (b : (n < c) ⊎ (c ≤ n)) → IsColumn n c → P c (picked c a b)
  picked_is c (inl l) b i = absurd (omega (arith, i.from))
  picked_is c (inr from) (inl l) i = absurd (omega (arith, i.to))
  picked_is c (inr from) (inr to) i = (each c (record { from = from; to = to })).1

  pub pick_is : (c : ℕ) → IsColumn n c → P c (pick c)
  pick_is c i = picked_is c (cases_lt c 1) (cases_lt n c) i

module _ {S E : Type 0} (step : ℕ → S → Result S E) where
  -- ---- what each step keeps, the sweep keeps
  module _ (K : S → S → Type 0) (none : (s : S) → K s s) (both : (s t u : S) → K s t → K t u → K s u) where
    kept : (k lo : ℕ) → ((i : ℕ) (s t : S) → lo ≤ i → i < lo + k → step i s ≡ Ok t → K s t) → (s t : S) → sweep step (counting_up lo k) s ≡ Ok t → K s t
    kept zero lo keeps s t h = subst (λ u. K s u) (same_ok s t h) (none s)
    kept (suc k) lo keeps s t h =
        let p = then-ok (step lo s) (λ u. sweep step (counting_up (lo + 1) k) u) t h in
        both s p.0 t (keeps lo s p.0 (omega arith) (omega arith) p.1)
        (kept k (lo + 1) (λ i u v low high. keeps i u v (omega arith) (omega arith)) p.0 t p.2)

  -- ---- steps that leave alone what the others read and wrote: for number i, two states are alike there
  module _ (Alike : ℕ → S → S → Type 0) (none : (i : ℕ) (s : S) → Alike i s s) (both : (i : ℕ) (s t u : S) → Alike i s t → Alike i t u → Alike i s u) where
    pub record Fine (i : ℕ) (s : S) : Type 0 where
      pub before : S
      pub behind : S
      pub same : Alike i s before
      pub does : step i before ≡ Ok behind

    pub record Done (i : ℕ) (s t : S) : Type 0 where
      pub fine : Fine i s
      pub stays : Alike i fine.behind t

    pub record Stopped (lo hi : ℕ) (s : S) (e : E) : Type 0 where
      pub at : ℕ
      pub low : lo ≤ at
      pub high : at < hi
      pub before : S
      pub same : Alike at s before
      pub until : (i : ℕ) → lo ≤ i → i < at → Fine i s
      pub refused : step at before ≡ Err e

    abbrev pub Apart : ℕ → ℕ → Type 0
    Apart lo hi = (i j : ℕ) (s t : S) → lo ≤ i → i < hi → lo ≤ j → j < hi → i ≢ j → step j s ≡ Ok t → Alike i s t

    narrower : (lo hi : ℕ) → Apart lo hi → Apart (lo + 1) hi
    narrower lo hi apart i j s t a b c d ne h = apart i j s t (omega arith) b (omega arith) d ne h

    done_within : (k lo hi : ℕ) → lo + k ≡ hi → Apart lo hi → (s t : S) → sweep step (counting_up lo k) s ≡ Ok t → (i : ℕ) → lo ≤ i → i < hi → Done i s t
    done_within zero lo hi e apart s t h i low high = absurd (omega arith)
    done_within (suc k) lo hi e apart s t h i low high =
        let p = then-ok (step lo s) (λ u. sweep step (counting_up (lo + 1) k) u) t h in
        elim (cases_lt lo i) [
          | inl l ↦
              let d : Done i p.0 t = done_within k (lo + 1) hi (omega arith) (narrower lo hi apart) p.0 t p.2 i (omega arith) high in
              record {
                fine = record {
                  before = d.fine.before;
                  behind = d.fine.behind;
                  same = both i s p.0 d.fine.before (apart i lo s p.0 low high (omega arith) (omega arith) (λ q. absurd (omega arith)) p.1) d.fine.same;
                  does = d.fine.does;
                };
                stays = d.stays;
              }
          | inr g ↦
              let q : lo ≡ i = omega arith in
              subst (λ j. Done j s t) q
              (record {
                fine = record { before = s; behind = p.0; same = none lo s; does = p.1 };
                stays = kept (Alike lo) (none lo) (both lo) k (lo + 1)
                    (λ j u v a b. apart lo j u v (omega arith) (omega arith) (omega arith) (omega arith) (λ m. absurd (omega arith))) p.0 t p.2;
              })
        ]

    stop_within : (k lo hi : ℕ) → lo + k ≡ hi → Apart lo hi → (s : S) (e : E) → sweep step (counting_up lo k) s ≡ Err e → Stopped lo hi s e
    stop_within zero lo hi q apart s e h = absurd cc
    stop_within (suc k) lo hi q apart s e h =
        elim (then-err (step lo s) (λ u. sweep step (counting_up (lo + 1) k) u) e h) [
          | inl r ↦ record {
            at = lo;
            low = omega arith;
            high = omega arith;
            before = s;
            same = none lo s;
            until = λ i a b. absurd (omega arith);
            refused = r;
          }
          | inr p ↦
              let d : Stopped (lo + 1) hi p.0 e = stop_within k (lo + 1) hi (omega arith) (narrower lo hi apart) p.0 e p.2 in
              let low : lo + 1 ≤ d.at = d.low in
              let high : d.at < hi = d.high in
              record {
                at = d.at;
                low = omega arith;
                high = high;
                before = d.before;
                same = both d.at s p.0 d.before (apart d.at lo s p.0 (omega arith) high (omega arith) (omega arith) (λ m. absurd (omega arith)) p.1) d.same;
                until = λ i a b. elim (cases_lt lo i) [
                  | inl l ↦
                      let f : Fine i p.0 = d.until i (omega arith) b in
                      record {
                        before = f.before;
                        behind = f.behind;
                        same = both i s p.0 f.before (apart i lo s p.0 a (omega arith) (omega arith) (omega arith) (λ m. absurd (omega arith)) p.1) f.same;
                        does = f.does;
                      }
                  | inr g ↦
                      let m : lo ≡ i = omega arith in
                      subst (λ j. Fine j s) m (record { before = s; behind = p.0; same = none lo s; does = p.1 })
                ];
                refused = d.refused;
              }
        ]

    no_numbers : (lo hi : ℕ) (s : S) → hi < lo → sweep step (upward lo hi) s ≡ Ok s
    unfolding upward
    no_numbers lo hi s l = let e : hi - lo ≡ 0 = omega arith in ap (λ k. sweep step (counting_up lo k) s) e

    pub all_done : (lo hi : ℕ) → Apart lo hi → (s t : S) → sweep step (upward lo hi) s ≡ Ok t → (i : ℕ) → lo ≤ i → i < hi → Done i s t
    unfolding upward
    all_done lo hi apart s t h i low high = done_within (hi - lo) lo hi (omega arith) apart s t h i low high

    pub stopped : (lo hi : ℕ) → Apart lo hi → (s : S) (e : E) → sweep step (upward lo hi) s ≡ Err e → Stopped lo hi s e
    unfolding upward
    stopped lo hi apart s e h = elim (cases_lt hi lo) [
      | inl l ↦ let m : sweep step (upward lo hi) s ≡ Ok s = no_numbers lo hi s l in absurd cc
      | inr g ↦ stop_within (hi - lo) lo hi (omega arith) apart s e h
    ]

  -- ---- steps that go on from one another: the state before each number, and that behind the last
  abbrev either_of : (s : S) (f : ℕ → S) (lo i : ℕ) → (lo < i) ⊎ (i ≤ lo) → S
  either_of s f lo i (inl l) = f i
  either_of s f lo i (inr g) = s

  abbrev from : S → (ℕ → S) → ℕ → ℕ → S
  from s f lo i = either_of s f lo i (cases_lt lo i)

  from_first : (s : S) (f : ℕ → S) (lo : ℕ) → from s f lo lo ≡ s
  from_first s f lo = go (cases_lt lo lo)
    where
      go : (r : (lo < lo) ⊎ (lo ≤ lo)) → either_of s f lo lo r ≡ s
      go (inl l) = absurd (omega arith)
      go (inr g) = refl

  from_later : (s : S) (f : ℕ → S) (lo i : ℕ) → lo < i → from s f lo i ≡ f i
  from_later s f lo i m = go (cases_lt lo i)
    where
      go : (r : (lo < i) ⊎ (i ≤ lo)) → either_of s f lo i r ≡ f i
      go (inl l) = refl
      go (inr g) = absurd (omega arith)

  pub record Rise (lo hi : ℕ) (s t : S) : Type 0 where
    pub at : ℕ → S
    pub first : at lo ≡ s
    pub last : at hi ≡ t
    pub each : (i : ℕ) → lo ≤ i → i < hi → step i (at i) ≡ Ok (at (suc i))

  rise_more : (lo hi : ℕ) (s u t : S) → lo < hi → step lo s ≡ Ok u → Rise (suc lo) hi u t → Rise lo hi s t
  rise_more lo hi s u t l e r =
      let ok : S → Result S E = λ x. Ok x in
      record {
        at = from s r.at lo;
        first = from_first s r.at lo;
        last = from_later s r.at lo hi l ∙ r.last;
        each = λ i low high. elim (cases_lt lo i) [
          | inl m ↦ ap (step i) (from_later s r.at lo i m) ∙ r.each i (omega arith) high ∙ ap ok (sym (from_later s r.at lo (suc i) (omega arith)))
          | inr g ↦
              let same : lo ≡ i = omega arith in
              subst (λ b. step b (from s r.at lo b) ≡ Ok (from s r.at lo (suc b))) same
              (ap (step lo) (from_first s r.at lo) ∙ e ∙ ap ok (sym (from_later s r.at lo (suc lo) (omega arith) ∙ r.first)))
        ];
      }

  rises_within : (k lo hi : ℕ) → lo + k ≡ hi → (s t : S) → sweep step (counting_up lo k) s ≡ Ok t → Rise lo hi s t
  rises_within zero lo hi q s t h = record {
    at = λ i. s;
    first = refl;
    last = same_ok s t h;
    each = λ i low high. absurd (omega arith);
  }
  rises_within (suc k) lo hi q s t h =
      let p = then-ok (step lo s) (λ u. sweep step (counting_up (lo + 1) k) u) t h in
      let n : lo + 1 ≡ suc lo = omega arith in
      let r : Rise (lo + 1) hi p.0 t = rises_within k (lo + 1) hi (omega arith) p.0 t p.2 in
      rise_more lo hi s p.0 t (omega arith) p.1 (subst (λ m. Rise m hi p.0 t) n r)

  pub rises : (lo hi : ℕ) → lo ≤ hi → (s t : S) → sweep step (upward lo hi) s ≡ Ok t → Rise lo hi s t
  unfolding upward
  rises lo hi l s t h = rises_within (hi - lo) lo hi (omega arith) s t h

  -- the earlier steps are done, and one is refused
  pub record Halt (lo hi : ℕ) (s : S) (e : E) : Type 0 where
    pub at : ℕ → S
    pub first : at lo ≡ s
    pub stop : ℕ
    pub low : lo ≤ stop
    pub high : stop < hi
    pub earlier : (i : ℕ) → lo ≤ i → i < stop → step i (at i) ≡ Ok (at (suc i))
    pub refused : step stop (at stop) ≡ Err e

  halt_more : (lo hi : ℕ) (s u : S) (e : E) → step lo s ≡ Ok u → Halt (suc lo) hi u e → Halt lo hi s e
  halt_more lo hi s u e k r =
      let ok : S → Result S E = λ x. Ok x in
      let low : suc lo ≤ r.stop = r.low in
      record {
        at = from s r.at lo;
        first = from_first s r.at lo;
        stop = r.stop;
        low = omega arith;
        high = r.high;
        earlier = λ i a b. elim (cases_lt lo i) [
          | inl m ↦ ap (step i) (from_later s r.at lo i m) ∙ r.earlier i (omega arith) b ∙ ap ok (sym (from_later s r.at lo (suc i) (omega arith)))
          | inr g ↦
              let same : lo ≡ i = omega arith in
              subst (λ b. step b (from s r.at lo b) ≡ Ok (from s r.at lo (suc b))) same
              (ap (step lo) (from_first s r.at lo) ∙ k ∙ ap ok (sym (from_later s r.at lo (suc lo) (omega arith) ∙ r.first)))
        ];
        refused = ap (step r.stop) (from_later s r.at lo r.stop (omega arith)) ∙ r.refused;
      }

  halts_within : (k lo hi : ℕ) → lo + k ≡ hi → (s : S) (e : E) → sweep step (counting_up lo k) s ≡ Err e → Halt lo hi s e
  halts_within zero lo hi q s e h = absurd cc
  halts_within (suc k) lo hi q s e h =
      let n : lo + 1 ≡ suc lo = omega arith in
      elim (then-err (step lo s) (λ u. sweep step (counting_up (lo + 1) k) u) e h) [
        | inl r ↦ record {
          at = λ i. s;
          first = refl;
          stop = lo;
          low = omega arith;
          high = omega arith;
          earlier = λ i a b. absurd (omega arith);
          refused = r;
        }
        | inr p ↦
            let r : Halt (lo + 1) hi p.0 e = halts_within k (lo + 1) hi (omega arith) p.0 e p.2 in
            halt_more lo hi s p.0 e p.1 (subst (λ m. Halt m hi p.0 e) n r)
      ]

  pub halts : (lo hi : ℕ) → lo ≤ hi → (s : S) (e : E) → sweep step (upward lo hi) s ≡ Err e → Halt lo hi s e
  unfolding upward
  halts lo hi l s e h = halts_within (hi - lo) lo hi (omega arith) s e h
