use Rattle.std.proofs.Common.{◌≡◌, ℕ, suc, ◌+◌, ◌-◌, ◌<◌, ◌≤◌, [], ◌∷◌, filter, Bool, true, false, cond, Result, Ok, Err, ap, ◌∙◌, arith}
use Rattle.rb_result.specs.Steps.{◌>>=◌}
use Rattle.rb_sweep.specs.Sweep.{sweep, counting_up, counting_down, upward, downward}

-- there is a first of the numbers
pub upward_next : (i hi : ℕ) → i < hi → upward i hi ≡ i ∷ upward (i + 1) hi
unfolding upward
upward_next i hi h =
    let e : hi - i ≡ suc (hi - (i + 1)) = omega arith in
    ap (counting_up i) e

-- there are no numbers past the end
pub upward_done : (i hi : ℕ) → hi ≤ i → upward i hi ≡ []
unfolding upward
upward_done i hi h =
    let e : hi - i ≡ 0 = omega arith in
    ap (counting_up i) e

-- there is a first of the numbers
pub downward_next : (lo k : ℕ) → lo ≤ k → downward lo (k + 1) ≡ k ∷ downward lo k
unfolding downward
downward_next lo k h =
    let e : k + 1 - lo ≡ suc (k - lo) = omega arith in
    let f : lo + (k - lo) ≡ k = omega arith in
    ap (counting_down lo) e ∙ ap (λ m. m ∷ counting_down lo (k - lo)) f

-- there are no numbers past the end
pub downward_done : (lo hi : ℕ) → hi ≤ lo → downward lo hi ≡ []
unfolding downward
downward_done lo hi h =
    let e : hi - lo ≡ 0 = omega arith in
    ap (counting_down lo) e

-- a sweep after its first step
pub sweep_next : {S E : Type 0} (step : ℕ → S → Result S E) (i hi : ℕ) (s t : S) → i < hi → step i s ≡ Ok t → sweep step (upward i hi) s ≡ sweep step (upward (i + 1) hi) t
sweep_next step i hi s t h e =
    ap (λ is. sweep step is s) (upward_next i hi h) ∙ ap (λ r. (r >>= λ u. sweep step (upward (i + 1) hi) u)) e

-- a sweep ends at its first refusal
pub sweep_refused : {S E : Type 0} (step : ℕ → S → Result S E) (i hi : ℕ) (s : S) (e : E) → i < hi → step i s ≡ Err e → sweep step (upward i hi) s ≡ Err e
sweep_refused step i hi s e h r =
    ap (λ is. sweep step is s) (upward_next i hi h) ∙ ap (λ r. (r >>= λ u. sweep step (upward (i + 1) hi) u)) r

-- a sweep past its end is done
pub sweep_done : {S E : Type 0} (step : ℕ → S → Result S E) (i hi : ℕ) (s : S) → hi ≤ i → sweep step (upward i hi) s ≡ Ok s
sweep_done step i hi s h = ap (λ is. sweep step is s) (upward_done i hi h)

-- a downward sweep after its first step
pub sweep_down_next : {S E : Type 0} (step : ℕ → S → Result S E) (lo k : ℕ) (s t : S) → lo ≤ k → step k s ≡ Ok t → sweep step (downward lo (k + 1)) s ≡ sweep step (downward lo k) t
sweep_down_next step lo k s t h e =
    ap (λ is. sweep step is s) (downward_next lo k h) ∙ ap (λ r. (r >>= λ u. sweep step (downward lo k) u)) e

-- a downward sweep ends at its first refusal
pub sweep_down_refused : {S E : Type 0} (step : ℕ → S → Result S E) (lo k : ℕ) (s : S) (e : E) → lo ≤ k → step k s ≡ Err e → sweep step (downward lo (k + 1)) s ≡ Err e
sweep_down_refused step lo k s e h r =
    ap (λ is. sweep step is s) (downward_next lo k h) ∙ ap (λ r. (r >>= λ u. sweep step (downward lo k) u)) r

-- a downward sweep past its end is done
pub sweep_down_done : {S E : Type 0} (step : ℕ → S → Result S E) (lo hi : ℕ) (s : S) → hi ≤ lo → sweep step (downward lo hi) s ≡ Ok s
sweep_down_done step lo hi s h = ap (λ is. sweep step is s) (downward_done lo hi h)

pub ruleset sweeps = (sweep_next, sweep_refused, sweep_done)

pub ruleset sweeps_down = (sweep_down_next, sweep_down_refused, sweep_down_done)

-- the same for those that pass a test
pub picked_next : {S E : Type 0} (step : ℕ → S → Result S E) (p : ℕ → Bool) (lo k : ℕ) (s t : S) → lo ≤ k → p k ≡ true → step k s ≡ Ok t → sweep step (filter p (downward lo (k + 1))) s ≡ sweep step (filter p (downward lo k)) t
picked_next step p lo k s t h b e =
    ap (λ is. sweep step (filter p is) s) (downward_next lo k h)
    ∙ ap (λ c. sweep step (cond c (k ∷ filter p (downward lo k)) (filter p (downward lo k))) s) b
    ∙ ap (λ r. (r >>= λ u. sweep step (filter p (downward lo k)) u)) e

pub picked_refused : {S E : Type 0} (step : ℕ → S → Result S E) (p : ℕ → Bool) (lo k : ℕ) (s : S) (e : E) → lo ≤ k → p k ≡ true → step k s ≡ Err e → sweep step (filter p (downward lo (k + 1))) s ≡ Err e
picked_refused step p lo k s e h b r =
    ap (λ is. sweep step (filter p is) s) (downward_next lo k h)
    ∙ ap (λ c. sweep step (cond c (k ∷ filter p (downward lo k)) (filter p (downward lo k))) s) b
    ∙ ap (λ r. (r >>= λ u. sweep step (filter p (downward lo k)) u)) r

pub picked_skip : {S E : Type 0} (step : ℕ → S → Result S E) (p : ℕ → Bool) (lo k : ℕ) (s : S) → lo ≤ k → p k ≡ false → sweep step (filter p (downward lo (k + 1))) s ≡ sweep step (filter p (downward lo k)) s
picked_skip step p lo k s h b =
    ap (λ is. sweep step (filter p is) s) (downward_next lo k h)
    ∙ ap (λ c. sweep step (cond c (k ∷ filter p (downward lo k)) (filter p (downward lo k))) s) b

pub picked_done : {S E : Type 0} (step : ℕ → S → Result S E) (p : ℕ → Bool) (lo hi : ℕ) (s : S) → hi ≤ lo → sweep step (filter p (downward lo hi)) s ≡ Ok s
picked_done step p lo hi s h = ap (λ is. sweep step (filter p is) s) (downward_done lo hi h)

pub ruleset picks = (picked_next, picked_refused, picked_skip, picked_done)
