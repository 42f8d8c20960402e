-- Sweeps upward along a path.
use Rattle.std.proofs.Common.{◌≡◌, ◌⊎◌, inl, inr, ℕ, zero, suc, ◌<◌, ◌≤◌, List, Result, Ok, Err, refl, ap, sym, ◌∙◌, subst, arith}
use Rattle.rb_result.specs.Steps.{◌>>=◌}
use Rattle.rb_result.proofs.Results.{same_ok, then-ok, then-err, not-both}
use Rattle.rb_sweep.specs.Sweep.{sweep}
use Rattle.rb_work.specs.Path.{above, Ascends, path, IsOn}
use Rattle.rb_work.proofs.PathLaws.{path_next, above_below, on_self, on_above, on_least, on_most}
use Rattle.rb_work.proofs.PathSteps.{path_step_done}
use Rattle.rb_factor.proofs.Paths.{on_cases, on_none}
use Rattle.rb_factor.proofs.Traces.{up_to, up_to_past, up_to_within}

module _ {S E : Type 0} (up : List ℕ) (ascends : Ascends up) (step : ℕ → S → Result S E) where
  split : (a : ℕ) (s : S) → 1 ≤ a → sweep step (path up a) s ≡ (step a s >>= λ u. sweep step (path up (above up a)) u)
  split a s l = ap (λ is. sweep step is s) (path_next up ascends a l)

  first_ok : (a : ℕ) (s t : S) → 1 ≤ a → sweep step (path up a) s ≡ Ok t → (u : S) × (step a s ≡ Ok u) × (sweep step (path up (above up a)) u ≡ Ok t)
  first_ok a s t l h = then-ok (step a s) (λ u. sweep step (path up (above up a)) u) t (sym (split a s l) ∙ h)

  first_err : (a : ℕ) (s : S) (e : E) → 1 ≤ a → sweep step (path up a) s ≡ Err e
      → (step a s ≡ Err e) ⊎ ((u : S) × (step a s ≡ Ok u) × (sweep step (path up (above up a)) u ≡ Err e))
  first_err a s e l h = then-err (step a s) (λ u. sweep step (path up (above up a)) u) e (sym (split a s l) ∙ h)

  done_at_root : (s t : S) → sweep step (path up 0) s ≡ Ok t → s ≡ t
  done_at_root s t h = same_ok s t (sym (path_step_done up step 0 s refl) ∙ h)

  never_at_root : (s : S) (e : E) → sweep step (path up 0) s ≡ Err e → ⊥
  never_at_root s e h = not-both (sweep step (path up 0) s) s e (path_step_done up step 0 s refl) h

  less : (a : ℕ) → above up (suc a) < suc a
  less a = above_below up ascends (suc a) (omega arith)

  -- ---- what each step keeps, the sweep keeps
  module _ (R : S → S → Type 0) (same : (s : S) → R s s) (trans : (s t u : S) → R s t → R t u → R s u) where
    keeps_within : (n a : ℕ) → a ≤ n → ((d : ℕ) (s t : S) → IsOn up a d → step d s ≡ Ok t → R s t) → (s t : S) → sweep step (path up a) s ≡ Ok t → R s t
    keeps_within n zero l moves s t h = subst (λ u. R s u) (done_at_root s t h) (same s)
    keeps_within zero (suc a) l moves s t h = absurd (omega arith)
    keeps_within (suc n) (suc a) l moves s t h =
        let p = first_ok (suc a) s t (omega arith) h in
        let m : above up (suc a) < suc a = less a in
        trans s p.0 t (moves (suc a) s p.0 (on_self up ascends (suc a) (omega arith)) p.1)
        (keeps_within n (above up (suc a)) (omega arith) (λ d s t i. moves d s t (on_above up ascends (suc a) d (omega arith) i)) p.0 t p.2)

    pub keeps : (a : ℕ) → ((d : ℕ) (s t : S) → IsOn up a d → step d s ≡ Ok t → R s t) → (s t : S) → sweep step (path up a) s ≡ Ok t → R s t
    keeps a moves s t h = keeps_within a a (omega arith) moves s t h

  -- ---- steps that leave alone what others read and wrote
  pub record Apart (a : ℕ) : Type 1 where
    -- what a step does, and what is refused
    pub Does : ℕ → S → S → Type 0
    pub Refuses : ℕ → S → E → Type 0
    -- the steps before it leave what it reads, and those behind it what it wrote
    pub Before : ℕ → S → S → Type 0
    pub After : ℕ → S → S → Type 0
    pub does : (d : ℕ) (s t : S) → IsOn up a d → step d s ≡ Ok t → Does d s t
    pub refuses : (d : ℕ) (s : S) (e : E) → IsOn up a d → step d s ≡ Err e → Refuses d s e
    pub before : (d b : ℕ) (s t : S) → IsOn up a d → IsOn up a b → d < b → step b s ≡ Ok t → Before d s t
    pub after : (d b : ℕ) (s t : S) → IsOn up a d → IsOn up a b → b < d → step b s ≡ Ok t → After d s t
    pub after_none : (d : ℕ) (s : S) → After d s s
    pub after_both : (d : ℕ) (s t u : S) → After d s t → After d t u → After d s u
    pub does_before : (d : ℕ) (s t u : S) → IsOn up a d → Before d s t → Does d t u → Does d s u
    pub does_after : (d : ℕ) (s t u : S) → IsOn up a d → Does d s t → After d t u → Does d s u
    pub refuses_before : (d : ℕ) (s t : S) (e : E) → IsOn up a d → Before d s t → Refuses d t e → Refuses d s e

  module _ (a : ℕ) (p : Apart a) where
    abbrev Within : ℕ → Type 0
    Within x = (d : ℕ) → IsOn up x d → IsOn up a d

    within_above : (x : ℕ) → Within (suc x) → Within (above up (suc x))
    within_above x w d i = w d (on_above up ascends (suc x) d (omega arith) i)

    own : (x : ℕ) → Within (suc x) → IsOn up a (suc x)
    own x w = w (suc x) (on_self up ascends (suc x) (omega arith))

    all_within : (n x : ℕ) → x ≤ n → Within x → (s t : S) → sweep step (path up x) s ≡ Ok t → (d : ℕ) → IsOn up x d → p.Does d s t
    all_within n zero l w s t h d i = absurd (on_none up ascends d i)
    all_within zero (suc x) l w s t h d i = absurd (omega arith)
    all_within (suc n) (suc x) l w s t h d i =
        let q = first_ok (suc x) s t (omega arith) h in
        let m : above up (suc x) < suc x = less x in
        elim (on_cases up ascends (suc x) d (omega arith) i) [
          | inl e ↦
              subst (λ b. p.Does b s t) (sym e)
              (p.does_after (suc x) s q.0 t (own x w) (p.does (suc x) s q.0 (own x w) q.1)
              (keeps (p.After (suc x)) (p.after_none (suc x)) (p.after_both (suc x)) (above up (suc x))
              (λ b u v j g.
              let most : b ≤ above up (suc x) = on_most up ascends (above up (suc x)) b j in
              p.after (suc x) b u v (own x w) (within_above x w b j) (omega arith) g)
              q.0 t q.2))
          | inr j ↦
              let most : d ≤ above up (suc x) = on_most up ascends (above up (suc x)) d j in
              p.does_before d s q.0 t (w d i) (p.before d (suc x) s q.0 (w d i) (own x w) (omega arith) q.1)
              (all_within n (above up (suc x)) (omega arith) (within_above x w) q.0 t q.2 d j)
        ]

    -- after the sweep each step has done what it does
    pub all_done : (s t : S) → sweep step (path up a) s ≡ Ok t → (d : ℕ) → IsOn up a d → p.Does d s t
    all_done s t h d i = all_within a a (omega arith) (λ d i. i) s t h d i

    -- the nearer steps are fine, and one is refused
    pub record Stop (x : ℕ) (s : S) (e : E) : Type 0 where
      pub at : ℕ
      pub on : IsOn up x at
      pub nearer : (b : ℕ) → IsOn up x b → at < b → (t : S) × p.Does b s t
      pub refused : p.Refuses at s e

    stop_within : (n x : ℕ) → x ≤ n → Within x → (s : S) (e : E) → sweep step (path up x) s ≡ Err e → Stop x s e
    stop_within n zero l w s e h = absurd (never_at_root s e h)
    stop_within zero (suc x) l w s e h = absurd (omega arith)
    stop_within (suc n) (suc x) l w s e h =
        let m : above up (suc x) < suc x = less x in
        elim (first_err (suc x) s e (omega arith) h) [
          | inl r ↦ record {
            at = suc x;
            on = on_self up ascends (suc x) (omega arith);
            nearer = λ b i g. let most : b ≤ suc x = on_most up ascends (suc x) b i in absurd (omega arith);
            refused = p.refuses (suc x) s e (own x w) r;
          }
          | inr q ↦
              let r : Stop (above up (suc x)) q.0 e = stop_within n (above up (suc x)) (omega arith) (within_above x w) q.0 e q.2 in
              let near : r.at ≤ above up (suc x) = on_most up ascends (above up (suc x)) r.at r.on in
              record {
                at = r.at;
                on = on_above up ascends (suc x) r.at (omega arith) r.on;
                nearer = λ b i g. elim (on_cases up ascends (suc x) b (omega arith) i) [
                  | inl f ↦ subst (λ b. (t : S) × p.Does b s t) (sym f) (q.0, p.does (suc x) s q.0 (own x w) q.1)
                  | inr j ↦
                      let d = r.nearer b j g in
                      let most : b ≤ above up (suc x) = on_most up ascends (above up (suc x)) b j in
                      (d.0, p.does_before b s q.0 d.0 (w b i) (p.before b (suc x) s q.0 (w b i) (own x w) (omega arith) q.1) d.1)
                ];
                refused =
                    p.refuses_before r.at s q.0 e (within_above x w r.at r.on)
                    (p.before r.at (suc x) s q.0 (within_above x w r.at r.on) (own x w) (omega arith) q.1) r.refused;
              }
        ]

    pub stopped : (s : S) (e : E) → sweep step (path up a) s ≡ Err e → Stop a s e
    stopped s e h = stop_within a a (omega arith) (λ d i. i) s e h

  -- ---- steps each of which goes on from the one before
  pub record Climb (a : ℕ) (s t : S) : Type 0 where
    pub at : ℕ → S
    pub first : at a ≡ s
    pub last : at 0 ≡ t
    pub each : (d : ℕ) → IsOn up a d → step d (at d) ≡ Ok (at (above up d))

  -- the nearer steps are done, and one is refused
  pub record Halt (a : ℕ) (s : S) (e : E) : Type 0 where
    pub at : ℕ → S
    pub first : at a ≡ s
    pub stop : ℕ
    pub on : IsOn up a stop
    pub nearer : (b : ℕ) → IsOn up a b → stop < b → step b (at b) ≡ Ok (at (above up b))
    pub refused : step stop (at stop) ≡ Err e

  -- a step at the column itself, before those of its ancestors
  module _ (x : ℕ) (f : ℕ → S) (s u : S) (e : step (suc x) s ≡ Ok u) (first : f (above up (suc x)) ≡ u) where
    longer : ℕ → S
    longer = up_to f (above up (suc x)) s

    ok : S → Result S E
    ok y = Ok y

    own_first : longer (suc x) ≡ s
    unfolding longer
    own_first = up_to_past f (above up (suc x)) s (suc x) (less x)

    rest_same : (d : ℕ) → d ≤ above up (suc x) → longer d ≡ f d
    unfolding longer
    rest_same d l = up_to_within f (above up (suc x)) s d l

    own_step : step (suc x) (longer (suc x)) ≡ Ok (longer (above up (suc x)))
    unfolding ok
    own_step = ap (step (suc x)) own_first ∙ e ∙ ap ok (sym (rest_same (above up (suc x)) (omega arith) ∙ first))

    further_step : (d : ℕ) → IsOn up (above up (suc x)) d → step d (f d) ≡ Ok (f (above up d)) → step d (longer d) ≡ Ok (longer (above up d))
    unfolding ok
    further_step d i h =
        let most : d ≤ above up (suc x) = on_most up ascends (above up (suc x)) d i in
        let least : 1 ≤ d = least_of d i in
        let m : above up d < d = above_below up ascends d least in
        ap (step d) (rest_same d most) ∙ h ∙ ap ok (sym (rest_same (above up d) (omega arith)))
      where
        least_of : (d : ℕ) → IsOn up (above up (suc x)) d → 1 ≤ d
        least_of d i = on_least up ascends (above up (suc x)) d i

  climb_more : (a : ℕ) (s u t : S) → step (suc a) s ≡ Ok u → Climb (above up (suc a)) u t → Climb (suc a) s t
  climb_more a s u t e c = record {
    at = longer a c.at s u e c.first;
    first = own_first a c.at s u e c.first;
    last = rest_same a c.at s u e c.first 0 (omega arith) ∙ c.last;
    each = λ d i. elim (on_cases up ascends (suc a) d (omega arith) i) [
      | inl f ↦
          let g : ℕ → S = longer a c.at s u e c.first in
          subst (λ b. step b (g b) ≡ Ok (g (above up b))) (sym f) (own_step a c.at s u e c.first)
      | inr j ↦ further_step a c.at s u e c.first d j (c.each d j)
    ];
  }

  climbs_within : (n a : ℕ) → a ≤ n → (s t : S) → sweep step (path up a) s ≡ Ok t → Climb a s t
  climbs_within n zero l s t h = record { at = λ d. s; first = refl; last = done_at_root s t h; each = λ d i. absurd (on_none up ascends d i) }
  climbs_within zero (suc a) l s t h = absurd (omega arith)
  climbs_within (suc n) (suc a) l s t h =
      let q = first_ok (suc a) s t (omega arith) h in
      let m : above up (suc a) < suc a = less a in
      climb_more a s q.0 t q.1 (climbs_within n (above up (suc a)) (omega arith) q.0 t q.2)

  pub climbs : (a : ℕ) (s t : S) → sweep step (path up a) s ≡ Ok t → Climb a s t
  climbs a s t h = climbs_within a a (omega arith) s t h

  halt_more : (a : ℕ) (s u : S) (e : E) → step (suc a) s ≡ Ok u → Halt (above up (suc a)) u e → Halt (suc a) s e
  halt_more a s u e k c =
      let near : c.stop ≤ above up (suc a) = on_most up ascends (above up (suc a)) c.stop c.on in
      record {
        at = longer a c.at s u k c.first;
        first = own_first a c.at s u k c.first;
        stop = c.stop;
        on = on_above up ascends (suc a) c.stop (omega arith) c.on;
        nearer = λ b i g. elim (on_cases up ascends (suc a) b (omega arith) i) [
          | inl f ↦
              let h : ℕ → S = longer a c.at s u k c.first in
              subst (λ b. step b (h b) ≡ Ok (h (above up b))) (sym f) (own_step a c.at s u k c.first)
          | inr j ↦ further_step a c.at s u k c.first b j (c.nearer b j g)
        ];
        refused = ap (step c.stop) (rest_same a c.at s u k c.first c.stop near) ∙ c.refused;
      }

  halts_within : (n a : ℕ) → a ≤ n → (s : S) (e : E) → sweep step (path up a) s ≡ Err e → Halt a s e
  halts_within n zero l s e h = absurd (never_at_root s e h)
  halts_within zero (suc a) l s e h = absurd (omega arith)
  halts_within (suc n) (suc a) l s e h =
      let m : above up (suc a) < suc a = less a in
      elim (first_err (suc a) s e (omega arith) h) [
        | inl r ↦ record {
          at = λ d. s;
          first = refl;
          stop = suc a;
          on = on_self up ascends (suc a) (omega arith);
          nearer = λ b i g. let most : b ≤ suc a = on_most up ascends (suc a) b i in absurd (omega arith);
          refused = r;
        }
        | inr q ↦ halt_more a s q.0 e q.1 (halts_within n (above up (suc a)) (omega arith) q.0 e q.2)
      ]

  pub halts : (a : ℕ) (s : S) (e : E) → sweep step (path up a) s ≡ Err e → Halt a s e
  halts a s e h = halts_within a a (omega arith) s e h
