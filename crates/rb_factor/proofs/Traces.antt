-- Sweeps over the columns from the last down and from the first up, state by state.
use Rattle.std.proofs.Common.{◌≡◌, ◌⊎◌, inl, inr, ℕ, zero, suc, ◌+◌, ◌-◌, ◌<◌, ◌≤◌, [], ◌∷◌, ◌++◌, Result, Ok, Err, refl, ap, sym, ◌∙◌, subst, arith}
use Rattle.std.proofs.lemmas.Bool.{cases_lt}
use Rattle.rb_result.specs.Steps.{◌>>=◌}
use Rattle.rb_result.proofs.Results.{same_ok, then-ok, then-err, not-both, value_last}
use Rattle.rb_sweep.specs.Sweep.{sweep, counting_up, upward, downward}
use Rattle.rb_sweep.proofs.SweepLaws.{sweep-append}
use Rattle.rb_sweep.proofs.SweepSteps.{downward_next, sweep_down_done, sweep_done}

-- what stays from one number to the next stays
pub steady : {X : Type 0} (f : ℕ → X) (k n : ℕ) → k ≤ n → ((c : ℕ) → k ≤ c → c < n → f c ≡ f (suc c)) → f k ≡ f n
steady f k zero l h = ap f (omega arith)
steady f k (suc n) l h =
    elim (cases_lt n k) [
      | inl g ↦ ap f (omega arith)
      | inr g ↦ steady f k n g (λ c low high. h c low (omega arith)) ∙ h n g (omega arith)
    ]

-- ---- one state more
abbrev either_of : {S : Type 0} (f : ℕ → S) (s : S) (k c : ℕ) → (k < c) ⊎ (c ≤ k) → S
either_of f s k c (inl l) = s
either_of f s k c (inr g) = f c

-- f up to k, and s behind it
abbrev pub up_to : {S : Type 0} → (ℕ → S) → ℕ → S → ℕ → S
up_to f k s c = either_of f s k c (cases_lt k c)

pub up_to_past : {S : Type 0} (f : ℕ → S) (k : ℕ) (s : S) (c : ℕ) → k < c → up_to f k s c ≡ s
up_to_past f k s c l = go (cases_lt k c)
  where
    go : (r : (k < c) ⊎ (c ≤ k)) → either_of f s k c r ≡ s
    go (inl m) = refl
    go (inr g) = absurd (omega arith)

pub up_to_within : {S : Type 0} (f : ℕ → S) (k : ℕ) (s : S) (c : ℕ) → c ≤ k → up_to f k s c ≡ f c
up_to_within f k s c l = go (cases_lt k c)
  where
    go : (r : (k < c) ⊎ (c ≤ k)) → either_of f s k c r ≡ f c
    go (inl m) = absurd (omega arith)
    go (inr g) = refl

module _ {S E : Type 0} (step : ℕ → S → Result S E) where
  -- ---- downward: the states from that behind column n to that behind column k + 1
  pub record Descent (k n : ℕ) (s t : S) : Type 0 where
    pub at : ℕ → S
    pub first : at n ≡ s
    pub last : at k ≡ t
    pub each : (c : ℕ) → k ≤ c → c < n → step (suc c) (at (suc c)) ≡ Ok (at c)

  no_descent : (n : ℕ) (s t : S) → s ≡ t → Descent n n s t
  no_descent n s t e = record { at = λ c. s; first = refl; last = e; each = λ c low high. absurd (omega arith) }

  descent_more : (k n : ℕ) (s u t : S) → k ≤ n → step (suc n) s ≡ Ok u → Descent k n u t → Descent k (suc n) s t
  descent_more k n s u t l e d =
      let ok : S → Result S E = λ x. Ok x in
      let behind : up_to d.at n s (suc n) ≡ s = up_to_past d.at n s (suc n) (omega arith) in
      record {
        at = up_to d.at n s;
        first = behind;
        last = up_to_within d.at n s k l ∙ d.last;
        each = λ c low high. elim (cases_lt c n) [
          | inl m ↦
              ap (step (suc c)) (up_to_within d.at n s (suc c) (omega arith)) ∙ d.each c low m ∙ ap ok (sym (up_to_within d.at n s c (omega arith)))
          | inr g ↦
              let same : n ≡ c = omega arith in
              subst (λ b. step (suc b) (up_to d.at n s (suc b)) ≡ Ok (up_to d.at n s b)) same
              (ap (step (suc n)) behind ∙ e ∙ ap ok (sym (up_to_within d.at n s n (omega arith) ∙ d.first)))
        ];
      }

  down_split : (n : ℕ) (s : S) → sweep step (downward 1 (suc n + 1)) s ≡ (step (suc n) s >>= λ u. sweep step (downward 1 (n + 1)) u)
  down_split n s =
      let e : suc n ≡ n + 1 = omega arith in
      ap (λ is. sweep step is s) (downward_next 1 (suc n) (omega arith)) ∙ ap (λ m. (step (suc n) s >>= λ u. sweep step (downward 1 m) u)) e

  pub descends : (n : ℕ) (s t : S) → sweep step (downward 1 (n + 1)) s ≡ Ok t → Descent 0 n s t
  descends zero s t h = no_descent 0 s t (same_ok s t (sym (sweep_down_done step 1 (0 + 1) s (omega arith)) ∙ h))
  descends (suc n) s t h =
      let p = then-ok (step (suc n) s) (λ u. sweep step (downward 1 (n + 1)) u) t (sym (down_split n s) ∙ h) in
      descent_more 0 n s p.0 t (omega arith) p.1 (descends n p.0 t p.2)

  -- what the steps keep holds of each state
  pub descent_holds : (P : S → Type 0) (k n : ℕ) (s t : S) (d : Descent k n s t) → P s
      → ((c : ℕ) (u v : S) → k ≤ c → c < n → P u → step (suc c) u ≡ Ok v → P v) → (c : ℕ) → k ≤ c → c ≤ n → P (d.at c)
  descent_holds P k n s t d p h c low high = within (n - c) c low (omega arith)
    where
      within : (j c : ℕ) → k ≤ c → c + j ≡ n → P (d.at c)
      within zero c low e = let q : n ≡ c = omega arith in subst (λ m. P (d.at m)) q (subst P (sym d.first) p)
      within (suc j) c low e = h c (d.at (suc c)) (d.at c) low (omega arith) (within j (suc c) (omega arith) (omega arith)) (d.each c low (omega arith))

  -- the columns behind one are done, and that one is refused
  pub record Stop (n : ℕ) (s : S) (e : E) : Type 0 where
    pub before : ℕ
    pub less : before < n
    pub reached : S
    pub until : Descent (suc before) n s reached
    pub refused : step (suc before) reached ≡ Err e

  pub stops : (n : ℕ) (s : S) (e : E) → sweep step (downward 1 (n + 1)) s ≡ Err e → Stop n s e
  stops zero s e h = absurd (not-both (sweep step (downward 1 (0 + 1)) s) s e (sweep_down_done step 1 (0 + 1) s (omega arith)) h)
  stops (suc n) s e h =
      elim (then-err (step (suc n) s) (λ u. sweep step (downward 1 (n + 1)) u) e (sym (down_split n s) ∙ h)) [
        | inl r ↦ record { before = n; less = omega arith; reached = s; until = no_descent (suc n) s s refl; refused = r }
        | inr p ↦
            let q : Stop n p.0 e = stops n p.0 e p.2 in
            record {
              before = q.before;
              less = let l : q.before < n = q.less in omega arith;
              reached = q.reached;
              until = descent_more (suc q.before) n s p.0 q.reached q.less p.1 q.until;
              refused = q.refused;
            }
      ]

  -- ---- upward: the states from that before column 1 to that behind column n
  pub record Ascent (n : ℕ) (s t : S) : Type 0 where
    pub at : ℕ → S
    pub first : at 0 ≡ s
    pub last : at n ≡ t
    pub each : (c : ℕ) → c < n → step (suc c) (at c) ≡ Ok (at (suc c))

  pub ascent_holds : (P : S → Type 0) (n : ℕ) (s t : S) (a : Ascent n s t) → P s
      → ((c : ℕ) (u v : S) → c < n → P u → step (suc c) u ≡ Ok v → P v) → (c : ℕ) → c ≤ n → P (a.at c)
  ascent_holds P n s t a p h zero high = subst P (sym a.first) p
  ascent_holds P n s t a p h (suc c) high = h c (a.at c) (a.at (suc c)) (omega arith) (ascent_holds P n s t a p h c (omega arith)) (a.each c (omega arith))

  ascent_more : (n : ℕ) (s u t : S) → Ascent n s u → step (suc n) u ≡ Ok t → Ascent (suc n) s t
  ascent_more n s u t a e =
      let ok : S → Result S E = λ x. Ok x in
      let behind : up_to a.at n t (suc n) ≡ t = up_to_past a.at n t (suc n) (omega arith) in
      record {
        at = up_to a.at n t;
        first = up_to_within a.at n t 0 (omega arith) ∙ a.first;
        last = behind;
        each = λ c high. elim (cases_lt c n) [
          | inl m ↦ ap (step (suc c)) (up_to_within a.at n t c (omega arith)) ∙ a.each c m ∙ ap ok (sym (up_to_within a.at n t (suc c) (omega arith)))
          | inr g ↦
              let same : n ≡ c = omega arith in
              subst (λ b. step (suc b) (up_to a.at n t b) ≡ Ok (up_to a.at n t (suc b))) same
              (ap (step (suc n)) (up_to_within a.at n t n (omega arith) ∙ a.last) ∙ e ∙ ap ok (sym behind))
        ];
      }

  counting_up_last : (lo k : ℕ) → counting_up lo (suc k) ≡ counting_up lo k ++ (lo + k) ∷ []
  counting_up_last lo zero = ap (λ m. m ∷ []) (omega arith)
  counting_up_last lo (suc k) =
      let e : lo + 1 + k ≡ lo + suc k = omega arith in
      ap (λ ks. lo ∷ ks) (counting_up_last (lo + 1) k ∙ ap (λ m. counting_up (lo + 1) k ++ m ∷ []) e)

  up_last : (n : ℕ) → upward 1 (suc n + 1) ≡ upward 1 (n + 1) ++ suc n ∷ []
  unfolding upward
  up_last n =
      let e : suc n + 1 - 1 ≡ suc n = omega arith in
      let f : n ≡ n + 1 - 1 = omega arith in
      let g : 1 + n ≡ suc n = omega arith in
      ap (counting_up 1) e ∙ counting_up_last 1 n ∙ ap (λ m. counting_up 1 m ++ (1 + n) ∷ []) f ∙ ap (λ m. counting_up 1 (n + 1 - 1) ++ m ∷ []) g

  up_split : (n : ℕ) (s : S) → sweep step (upward 1 (suc n + 1)) s ≡ (sweep step (upward 1 (n + 1)) s >>= λ u. sweep step (suc n ∷ []) u)
  up_split n s = ap (λ is. sweep step is s) (up_last n) ∙ sweep-append step (upward 1 (n + 1)) (suc n ∷ []) s

  pub rises : (n : ℕ) (s t : S) → sweep step (upward 1 (n + 1)) s ≡ Ok t → Ascent n s t
  rises zero s t h = record { at = λ c. s; first = refl; last = same_ok s t (sym (sweep_done step 1 (0 + 1) s (omega arith)) ∙ h); each = λ c high. absurd (omega arith) }
  rises (suc n) s t h =
      let p = then-ok (sweep step (upward 1 (n + 1)) s) (λ u. sweep step (suc n ∷ []) u) t (sym (up_split n s) ∙ h) in
      ascent_more n s p.0 t (rises n s p.0 p.1) (sym (value_last (step (suc n) p.0)) ∙ p.2)

  -- the columns before one are done, and that one is refused
  pub record Halt (n : ℕ) (s : S) (e : E) : Type 0 where
    pub before : ℕ
    pub less : before < n
    pub reached : S
    pub until : Ascent before s reached
    pub refused : step (suc before) reached ≡ Err e

  pub halts : (n : ℕ) (s : S) (e : E) → sweep step (upward 1 (n + 1)) s ≡ Err e → Halt n s e
  halts zero s e h = absurd (not-both (sweep step (upward 1 (0 + 1)) s) s e (sweep_done step 1 (0 + 1) s (omega arith)) h)
  halts (suc n) s e h =
      elim (then-err (sweep step (upward 1 (n + 1)) s) (λ u. sweep step (suc n ∷ []) u) e (sym (up_split n s) ∙ h)) [
        | inl r ↦
            let q : Halt n s e = halts n s e r in
            record { before = q.before; less = let l : q.before < n = q.less in omega arith; reached = q.reached; until = q.until; refused = q.refused }
        | inr p ↦ record { before = n; less = omega arith; reached = p.0; until = rises n s p.0 p.1; refused = sym (value_last (step (suc n) p.0)) ∙ p.2 }
      ]
