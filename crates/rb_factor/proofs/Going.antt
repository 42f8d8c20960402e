-- How a loop upward along a path goes on, and what a work keeps by then.
use Rattle.std.proofs.Common.{◌≡◌, ℕ, ◌≤◌, List, Result, Ok, ap, sym, ◌∙◌}
use Rattle.rb_sweep.specs.Sweep.{sweep}
use Rattle.rb_work.specs.Path.{above, Ascends, path}
use Rattle.rb_work.specs.View.{View}
use Rattle.rb_work.proofs.PathSteps.{path_step_next}

pub going : {S E : Type 0} (up : List ℕ) → Ascends up → (step : ℕ → S → Result S E) (d b : ℕ) (s t : S) (r : Result S E) → 1 ≤ d → b ≡ above up d
    → step d s ≡ Ok t → sweep step (path up d) s ≡ r → sweep step (path up b) t ≡ r
going up ascends step d b s t r l e h k = ap (λ a. sweep step (path up a) t) e ∙ sym (path_step_next up ascends step d s t l h) ∙ k

pub others_packed : (u v w : View) → v ≡ record u { packed = v.packed } → u ≡ record w { packed = u.packed } → v ≡ record w { packed = v.packed }
others_packed u v w e f = let put : View → View = λ t. record t { packed = v.packed } in e ∙ ap put f

pub others_w : (u v w : View) → v ≡ record u { w = v.w } → u ≡ record w { w = u.w } → v ≡ record w { w = v.w }
others_w u v w e f = let put : View → View = λ t. record t { w = v.w } in e ∙ ap put f

-- the paths stay
pub up_packed : (u w : View) → u ≡ record w { packed = u.packed } → u.up ≡ w.up
up_packed u w e = ap (λ t. t.up) e

pub up_w : (u w : View) → u ≡ record w { w = u.w } → u.up ≡ w.up
up_w u w e = ap (λ t. t.up) e
