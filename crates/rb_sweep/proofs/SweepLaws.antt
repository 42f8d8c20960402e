-- What sweeps do.
use Rattle.std.proofs.Common.{◌≡◌, ℕ, ◌+◌, ◌-◌, ◌<◌, ◌≤◌, List, [], ◌∷◌, ◌++◌, Result, Ok, Err, inl, inr, refl, ap, sym, ◌∙◌, arith}
use Rattle.rb_result.specs.Steps.{◌>>=◌}
use Rattle.rb_result.proofs.Results.{grouped, then-err, not-both}
use Rattle.rb_sweep.specs.Sweep.{sweep, upward, downward, Among}
use Rattle.rb_sweep.specs.Laws.{IsRefusedAt}
use Rattle.rb_sweep.proofs.Climbing.{then_same, among_counting_up, among_counting_down, counting_up_from, counting_up_below, counting_down_from, counting_down_below}

pub sweep-append : {N S E : Type 0} (step : N → S → Result S E) (ms ns : List N) (s : S) → sweep step (ms ++ ns) s ≡ (sweep step ms s >>= λ t. sweep step ns t)
sweep-append step [] ns s = refl
sweep-append step (m ∷ ms) ns s =
    then_same (step m s) _ _ (λ t. sweep-append step ms ns t) ∙ sym (grouped (step m s) (λ t. sweep step ms t) (λ t. sweep step ns t))

pub refused_at : {N S E : Type 0} (step : N → S → Result S E) (ns : List N) (s : S) (e : E) → sweep step ns s ≡ Err e → IsRefusedAt step ns s e
refused_at {N} {S} {E} step [] s e h = let same : Result S E = Ok s in absurd (not-both (sweep step [] s) s e refl h)
refused_at step (n ∷ ns) s e h =
    elim (then-err (step n s) (λ t. sweep step ns t) e h) [
      | inl d ↦ record { before = []; at = n; after = ns; reached = s; split = refl; until = refl; refused = d }
      | inr m ↦
          let r : IsRefusedAt step ns m.0 e = refused_at step ns m.0 e m.2 in
          record {
            before = n ∷ r.before;
            at = r.at;
            after = r.after;
            reached = r.reached;
            split = ap (λ ks. n ∷ ks) r.split;
            until = ap (λ q. q >>= λ t. sweep step r.before t) m.1 ∙ r.until;
            refused = r.refused;
          }
    ]

pub refused_so : {N S E : Type 0} (step : N → S → Result S E) (ns : List N) (s : S) (e : E) → IsRefusedAt step ns s e → sweep step ns s ≡ Err e
refused_so step ns s e h =
    ap (λ ks. sweep step ks s) h.split
    ∙ sweep-append step h.before (h.at ∷ h.after) s
    ∙ ap (λ q. q >>= λ t. sweep step (h.at ∷ h.after) t) h.until
    ∙ ap (λ q. q >>= λ t. sweep step h.after t) h.refused

pub in_upward : (lo hi i : ℕ) → Among i (upward lo hi) → (lo ≤ i) × (i < hi)
unfolding upward
in_upward lo hi i h =
    let low : lo ≤ i = counting_up_from (hi - lo) lo i h in
    let high : i < lo + (hi - lo) = counting_up_below (hi - lo) lo i h in
    (low, omega arith)

pub among_range_up : (lo hi i : ℕ) → (lo ≤ i) × (i < hi) → Among i (upward lo hi)
unfolding upward
among_range_up lo hi i h = let low : lo ≤ i = h.0 in let high : i < hi = h.1 in among_counting_up (hi - lo) lo i low (omega arith)

pub in_downward : (lo hi i : ℕ) → Among i (downward lo hi) → (lo ≤ i) × (i < hi)
unfolding downward
in_downward lo hi i h =
    let low : lo ≤ i = counting_down_from (hi - lo) lo i h in
    let high : i < lo + (hi - lo) = counting_down_below (hi - lo) lo i h in
    (low, omega arith)

pub among_range_down : (lo hi i : ℕ) → (lo ≤ i) × (i < hi) → Among i (downward lo hi)
unfolding downward
among_range_down lo hi i h = let low : lo ≤ i = h.0 in let high : i < hi = h.1 in among_counting_down (hi - lo) lo i low (omega arith)
