-- The bodies above a body, and that each of them is met once.
use Rattle.std.proofs.Common.{◌≡◌, ℕ, zero, suc, ◌+◌, ◌-◌, ◌<◌, ◌≤◌, ◌==◌, Bool, true, false, refl, sym, ◌∙◌, ap, arith}
use mathlib.Core.Logic.{◌⊎◌, inl, inr}
use Rattle.rb_flat.specs.Shape.{Shape, HasBody, ParentsComeFirst}
use Rattle.rb_composite.specs.Composite.{above, ancestor, IsOnPath}

pub equal_is : (a b : ℕ) → (a == b) ≡ true → a ≡ b
equal_is a b e = grind arith

module _ (shape : Shape) where
  pub ancestor-here : (j : ℕ) → ancestor shape j 0 ≡ j
  unfolding ancestor
  ancestor-here j = refl

  pub ancestor-next : (j n : ℕ) → ancestor shape j (suc n) ≡ above shape (ancestor shape j n)
  unfolding ancestor
  ancestor-next j n = refl

  -- so many steps, and so many more
  further : (j n d : ℕ) → ancestor shape j (n + d) ≡ ancestor shape (ancestor shape j n) d
  unfolding ancestor
  further j n zero = let e : n + 0 ≡ n = omega arith in ap (ancestor shape j) e
  further j n (suc d) = let e : n + suc d ≡ suc (n + d) = omega arith in ap (ancestor shape j) e ∙ ap (above shape) (further j n d)

  module _ (parents : ParentsComeFirst shape) where
    lower : (a b : ℕ) → b ≤ shape.bodies → (1 ≤ a → a ≤ b) → 1 ≤ above shape a → above shape a < a
    lower zero b l h k = absurd (omega arith)
    lower (suc a) b l h k =
        let to : suc a ≤ b = h (omega arith) in
        parents (suc a) (record { from = omega arith; to = omega arith })

    pub some_above : (a : ℕ) → 1 ≤ above shape a → 1 ≤ a
    some_above zero h = absurd (omega arith)
    some_above (suc a) h = omega arith

    -- each step goes to a smaller number, up to the world
    pub path_falls : (i n : ℕ) → i ≤ shape.bodies → 1 ≤ ancestor shape i n → ancestor shape i n + n ≤ i
    unfolding ancestor
    path_falls i zero l h = omega arith
    path_falls i (suc n) l h =
        let a = ancestor shape i n in
        let some : 1 ≤ a = some_above a h in
        let before : a + n ≤ i = path_falls i n l some in
        let less : above shape a < a = lower a i l (λ k. omega arith) h in
        omega arith

    pub path_body : (i n : ℕ) → i ≤ shape.bodies → 1 ≤ ancestor shape i n → HasBody shape (ancestor shape i n)
    path_body i n l h =
        let b : ancestor shape i n + n ≤ i = path_falls i n l h in
        record { from = h; to = omega arith }

    pub path_within : (i n : ℕ) → i ≤ shape.bodies → ancestor shape i n ≤ shape.bodies
    path_within i n l = go (ancestor shape i n) refl
      where
        go : (a : ℕ) → ancestor shape i n ≡ a → ancestor shape i n ≤ shape.bodies
        go zero e = omega (arith, e)
        go (suc a) e = (path_body i n l (omega (arith, e))).to

    pub path_ends : (i : ℕ) → i ≤ shape.bodies → ancestor shape i shape.bodies ≡ 0
    path_ends i l = go (ancestor shape i shape.bodies) refl
      where
        go : (a : ℕ) → ancestor shape i shape.bodies ≡ a → a ≡ 0
        go zero e = refl
        go (suc a) e =
            let some : 1 ≤ ancestor shape i shape.bodies = omega (arith, e) in
            let b : ancestor shape i shape.bodies + shape.bodies ≤ i = path_falls i shape.bodies l some in
            absurd (omega arith)

    not_further : (i j n d : ℕ) → i ≤ shape.bodies → 1 ≤ j → ancestor shape i n ≡ j → ancestor shape i (n + suc d) ≡ j → ⊥
    not_further i j n d l some e f =
        let at : 1 ≤ ancestor shape i n = omega (arith, e, some) in
        let low : ancestor shape i n + n ≤ i = path_falls i n l at in
        let same : ancestor shape j (suc d) ≡ j = sym (ap (λ (a : ℕ). ancestor shape a (suc d)) e) ∙ sym (further i n (suc d)) ∙ f in
        let fall : ancestor shape j (suc d) + suc d ≤ j = path_falls j (suc d) (omega (arith, e, low)) (omega (arith, same, some)) in
        omega (arith, same, fall)

    -- a body of the path is met after one number of steps
    pub met_once : (i j n k : ℕ) → i ≤ shape.bodies → 1 ≤ j → ancestor shape i n ≡ j → ancestor shape i k ≡ j → k ≡ n
    met_once i j n k l some e f =
        let up : n < k → ⊥ = λ h. not_further i j n (k - suc n) l some e (let same : n + suc (k - suc n) ≡ k = omega (arith, h) in ap (ancestor shape i) same ∙ f) in
        let down : k < n → ⊥ = λ h. not_further i j k (n - suc k) l some f (let same : k + suc (n - suc k) ≡ n = omega (arith, h) in ap (ancestor shape i) same ∙ e) in
        omega (arith, up, down)

    -- whether body j is on the path of body i
    meets_within : (i j n : ℕ) → ((k : ℕ) × (k < n) × (ancestor shape i k ≡ j)) ⊎ ((k : ℕ) → k < n → ancestor shape i k ≡ j → ⊥)
    meets_within i j zero = inr (λ k l e. absurd (omega arith))
    meets_within i j (suc n) = go (meets_within i j n) (ancestor shape i n == j) refl
      where
        go : ((k : ℕ) × (k < n) × (ancestor shape i k ≡ j)) ⊎ ((k : ℕ) → k < n → ancestor shape i k ≡ j → ⊥) → (b : Bool) → (ancestor shape i n == j) ≡ b
            → ((k : ℕ) × (k < suc n) × (ancestor shape i k ≡ j)) ⊎ ((k : ℕ) → k < suc n → ancestor shape i k ≡ j → ⊥)
        go (inl h) b e = inl (h.0, (let l : h.0 < n = h.1 in omega arith), h.2)
        go (inr h) true e = inl (n, omega arith, (let same : ancestor shape i n ≡ j = grind arith in same))
        go (inr h) false e = inr λ k l f. last k l f (k == n) refl
          where
            last : (k : ℕ) → k < suc n → ancestor shape i k ≡ j → (b : Bool) → (k == n) ≡ b → ⊥
            last k l f true d = let same : k ≡ n = grind arith in let at : ancestor shape i n ≡ j = ap (ancestor shape i) (sym same) ∙ f in grind arith
            last k l f false d = h k (let less : k < n = grind arith in less) f

    pub meets : (i j : ℕ) → i ≤ shape.bodies → 1 ≤ j → IsOnPath shape i j ⊎ (IsOnPath shape i j → ⊥)
    meets i j l some = go (meets_within i j (suc i))
      where
        go : ((k : ℕ) × (k < suc i) × (ancestor shape i k ≡ j)) ⊎ ((k : ℕ) → k < suc i → ancestor shape i k ≡ j → ⊥) → IsOnPath shape i j ⊎ (IsOnPath shape i j → ⊥)
        go (inl h) = inl (h.0, h.2)
        go (inr h) = inr λ p. h p.0 (early p.0 p.1) p.1
          where
            early : (n : ℕ) → ancestor shape i n ≡ j → n < suc i
            early n e = let fall : ancestor shape i n + n ≤ i = path_falls i n l (omega (arith, e, some)) in omega (arith, fall)
