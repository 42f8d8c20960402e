-- Sweeps over a column and its ancestors, upward.
use Rattle.std.proofs.Common.{◌≡◌, ℕ, zero, suc, ◌<◌, ◌≤◌, List, ◌∷◌, flat_map, Result, Ok, Err, inl, refl, ap, sym, ◌∙◌, subst, arith}
use Rattle.rb_result.specs.Steps.{◌>>=◌}
use Rattle.rb_sweep.specs.Sweep.{sweep, Among}
use Rattle.rb_sweep.specs.Naming.{Naming, run}
use Rattle.rb_sweep.proofs.Climbing.{Climbs, climbs_append, among_flat, run_flat}
use Rattle.rb_work.specs.Path.{above, Ascends, path, IsOn}
use Rattle.rb_work.proofs.PathLaws.{path_next, path_done, above_below, on_above}

-- the sweep after its first step
pub path_step_next : {S E : Type 0} (up : List ℕ) → Ascends up → (step : ℕ → S → Result S E) (d : ℕ) (s t : S) → 1 ≤ d → step d s ≡ Ok t
    → sweep step (path up d) s ≡ sweep step (path up (above up d)) t
path_step_next up ascends step d s t l e =
    ap (λ is. sweep step is s) (path_next up ascends d l) ∙ ap (λ r. r >>= λ u. sweep step (path up (above up d)) u) e

-- it ends at its first refusal
pub path_step_refused : {S E : Type 0} (up : List ℕ) → Ascends up → (step : ℕ → S → Result S E) (d : ℕ) (s : S) (e : E) → 1 ≤ d → step d s ≡ Err e
    → sweep step (path up d) s ≡ Err e
path_step_refused up ascends step d s e l r =
    ap (λ is. sweep step is s) (path_next up ascends d l) ∙ ap (λ q. q >>= λ u. sweep step (path up (above up d)) u) r

-- it is done at the world
pub path_step_done : {S E : Type 0} (up : List ℕ) (step : ℕ → S → Result S E) (d : ℕ) (s : S) → d ≡ 0 → sweep step (path up d) s ≡ Ok s
path_step_done up step d s e = ap (λ c. sweep step (path up c) s) e ∙ ap (λ is. sweep step is s) (path_done up)

pub ruleset path_steps = (path_step_next, path_step_refused, path_step_done)

-- a sweep along a path is a run over the names of its columns
pub run_path : {S E : Type 0} (p : Naming S E) (up : List ℕ) (at : ℕ → S → Result S E) (names : ℕ → List p.Name) (c : ℕ)
    → ((d : ℕ) (s : S) → IsOn up c d → at d s ≡ run p (names d) s) → (s : S) → sweep at (path up c) s ≡ run p (flat_map names (path up c)) s
run_path p up at names c h s = run_flat p at names (path up c) (λ d s i. h d s i) s

-- the names of a column on a path are among those of the path
pub among_path : {N : Type 0} (up : List ℕ) (names : ℕ → List N) (n : N) (c d : ℕ) → IsOn up c d → Among n (names d) → Among n (flat_map names (path up c))
among_path up names n c d i h = among_flat names n d (path up c) i h

module _ {N : Type 0} (rank : N → ℕ) (Known : N → Type 0) (up : List ℕ) (ascends : Ascends up) (names : ℕ → List N) (edge : ℕ → ℕ) where
  climbs_within : (n c : ℕ) → c ≤ n → ((d : ℕ) → IsOn up c d → Climbs rank Known (edge d) (names d) (edge (above up d)))
      → Climbs rank Known (edge c) (flat_map names (path up c)) (edge 0)
  climbs_within n zero l h = subst (λ is. Climbs rank Known (edge 0) (flat_map names is) (edge 0)) (sym (path_done up)) (omega arith)
  climbs_within zero (suc c) l h = absurd (omega arith)
  climbs_within (suc n) (suc c) l h =
      let b : above up (suc c) < suc c = above_below up ascends (suc c) (omega arith) in
      let next : path up (suc c) ≡ suc c ∷ path up (above up (suc c)) = path_next up ascends (suc c) (omega arith) in
      let rest : Climbs rank Known (edge (above up (suc c))) (flat_map names (path up (above up (suc c)))) (edge 0) =
      climbs_within n (above up (suc c)) (omega arith) (λ d i. h d (on_above up ascends (suc c) d (omega arith) i)) in
      subst (λ is. Climbs rank Known (edge (suc c)) (flat_map names is) (edge 0)) (sym next)
      (climbs_append rank Known (names (suc c)) (flat_map names (path up (above up (suc c)))) (edge (suc c)) (edge (above up (suc c))) (edge 0)
      (h (suc c) (subst (λ is. Among (suc c) is) (sym next) (inl refl))) rest)

  -- what ascends at each column of a path, from its edge to that of the column above, ascends along the path
  pub climbs_path : (c : ℕ) → ((d : ℕ) → IsOn up c d → Climbs rank Known (edge d) (names d) (edge (above up d)))
      → Climbs rank Known (edge c) (flat_map names (path up c)) (edge 0)
  climbs_path c h = climbs_within c c (omega arith) h
