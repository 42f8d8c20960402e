-- Ways from a body up to the world.
use Rattle.std.proofs.Common.{◌≡◌, ◌↔◌, ◌<◌, ◌≤◌, ◌-◌, ◌⊎◌, ℕ, zero, suc, List, Some, get_or, length, refl, sym, ◌∙◌, ap, subst, arith, inl, inr}
use Rattle.std.specs.List.{slice_get}
use Rattle.std.proofs.lemmas.Bool.{cases_order}
use Rattle.std.proofs.lemmas.Option.{slice_get_read}
use Rattle.rb_tree.specs.declared.robot.Body.{Body}
use Rattle.rb_tree.specs.Columns.{parent_at}
use Rattle.rb_tree.specs.Groups.{nearer, IsAtOrAbove, IsBelow}

parent_got : (bodies : List Body) (k : ℕ) (body : Body) → slice_get bodies k ≡ Some body → parent_at bodies (suc k) ≡ body.parent
parent_got bodies k body is = rw is refl

-- the parent of a body that is read
pub parent_read : (bodies : List Body) (i : ℕ) (body : Body) → 1 ≤ i → i ≤ length bodies → body ≡ get_or bodies (i - 1) body → parent_at bodies i ≡ body.parent
parent_read bodies zero body low high is = absurd (omega arith)
parent_read bodies (suc k) body low high is =
    let e : suc k - 1 ≡ k = omega arith in
    parent_got bodies k body (slice_get_read bodies (length bodies) k body refl (omega arith) (is ∙ ap (λ n. get_or bodies n body) e))

pub parent_is : (bodies : List Body) (i : ℕ) (body : Body) → 1 ≤ i → i ≤ length bodies → body ≡ get_or bodies (i - 1) body → (get_or bodies (i - 1) body).parent ≡ parent_at bodies i
parent_is bodies i body low high is = ap (λ b. b.parent) (sym is) ∙ sym (parent_read bodies i body low high is)

nearer_end : (bodies : List Body) (steps i : ℕ) → parent_at bodies (nearer bodies steps i) ≡ nearer bodies (suc steps) i
nearer_end bodies zero i = refl
nearer_end bodies (suc steps) i = nearer_end bodies steps (parent_at bodies i)

pub above_itself : (bodies : List Body) (above i : ℕ) → i ≡ above → IsAtOrAbove bodies above i
above_itself bodies above i e = (0, e)

pub above_parent : (bodies : List Body) (above i : ℕ) → IsAtOrAbove bodies above (parent_at bodies i) → IsAtOrAbove bodies above i
above_parent bodies above i (steps, e) = (suc steps, e)

pub parent_above : (bodies : List Body) (above i : ℕ) → IsAtOrAbove bodies above i → IsAtOrAbove bodies (parent_at bodies above) i
parent_above bodies above i (steps, e) = (suc steps, sym (nearer_end bodies steps i) ∙ ap (parent_at bodies) e)

up_steps : (bodies : List Body) (above i steps : ℕ) → nearer bodies steps i ≡ above → above < i → IsAtOrAbove bodies above (parent_at bodies i)
up_steps bodies above i zero e lt = absurd (omega arith)
up_steps bodies above i (suc steps) e lt = (steps, e)

pub below_parent : (bodies : List Body) (above i : ℕ) → IsAtOrAbove bodies above i → above < i → IsAtOrAbove bodies above (parent_at bodies i)
below_parent bodies above i (steps, e) lt = up_steps bodies above i steps e lt

pub above_same : (bodies : List Body) (above body p start : ℕ) → p ≡ parent_at bodies body → above < body → IsAtOrAbove bodies above body ↔ IsAtOrAbove bodies above start →
    IsAtOrAbove bodies above p ↔ IsAtOrAbove bodies above start
above_same bodies above body p start e lt same =
    let P : ℕ → Type 0 = λ n. IsAtOrAbove bodies above n in (
      λ h. same.0 (above_parent bodies above body (subst P e h)),
      λ h. subst P (sym e) (below_parent bodies above body (same.1 h) lt),
    )

module _ (bodies : List Body) (parents : (i : ℕ) → 1 ≤ i → parent_at bodies i < i) where
  parent_le : (i : ℕ) → parent_at bodies i ≤ i
  parent_le zero = omega arith
  parent_le (suc i) = omega (arith, parents (suc i) (omega arith))

  nearer_le : (steps i : ℕ) → nearer bodies steps i ≤ i
  nearer_le zero i = omega arith
  nearer_le (suc steps) i = omega (arith, nearer_le steps (parent_at bodies i), parent_le i)

  pub above_le : (above i : ℕ) → IsAtOrAbove bodies above i → above ≤ i
  above_le above i (steps, e) = omega (arith, nearer_le steps i, e)

  -- of two bodies on one way the one nearer to the world is above the other
  between : (s u tip a b : ℕ) → nearer bodies s tip ≡ a → nearer bodies u tip ≡ b → a < b → IsAtOrAbove bodies a (parent_at bodies b)
  between zero u tip a b at_a at_b lt = absurd (omega (arith, nearer_le u tip))
  between (suc s) zero tip a b at_a at_b lt = let P : ℕ → Type 0 = λ n. IsAtOrAbove bodies a (parent_at bodies n) in subst P at_b (s, at_a)
  between (suc s) (suc u) tip a b at_a at_b lt = between s u (parent_at bodies tip) a b at_a at_b lt

  pub below_between : (tip a b : ℕ) → IsAtOrAbove bodies a tip → IsAtOrAbove bodies b tip → a < b → IsAtOrAbove bodies a (parent_at bodies b)
  below_between tip a b (s, at_a) (u, at_b) lt = between s u tip a b at_a at_b lt

  -- a body is above another, or is not
  pub above_or_not : (fuel above i : ℕ) → i ≤ fuel → IsAtOrAbove bodies above i ⊎ (IsAtOrAbove bodies above i → ⊥)
  above_or_not fuel above i low = elim (cases_order above i) [
    | inl e ↦ inl (0, sym e)
    | inr o ↦ elim o [
      | inl lt ↦ further fuel above i low lt
      | inr gt ↦ inr (λ h. let le = above_le above i h in omega arith)
    ]
  ]
    where
      further : (fuel above i : ℕ) → i ≤ fuel → above < i → IsAtOrAbove bodies above i ⊎ (IsAtOrAbove bodies above i → ⊥)
      further zero above i low lt = absurd (omega arith)
      further (suc fuel) above i low lt =
          let less = parents i (omega arith) in
          let p = parent_at bodies i in
          let small : p ≤ fuel = omega arith in
          elim (cases_order above p) [
            | inl e ↦ inl (1, sym e)
            | inr o ↦ elim o [
              | inl more ↦ elim (further fuel above p small more) [
                | inl h ↦ inl (above_parent bodies above i h)
                | inr none ↦ inr (λ h. none (below_parent bodies above i h lt))
              ]
              | inr gt ↦ inr (λ h. let le = above_le above p (below_parent bodies above i h lt) in omega arith)
            ]
          ]

  -- ---- the bodies of a chain
  -- one body more, and then those behind its parent
  pub passed_more : (tip body i : ℕ) → 1 ≤ body → IsAtOrAbove bodies body tip →
      (((body < i) × IsAtOrAbove bodies i tip) ⊎ (i ≡ body)) ↔ ((parent_at bodies body < i) × IsAtOrAbove bodies i tip)
  passed_more tip body i low here = (
    λ h. elim h [
      | inl p ↦ (let lt = p.0 in omega (arith, parents body low), p.1)
      | inr e ↦ (omega (arith, parents body low), let P : ℕ → Type 0 = λ n. IsAtOrAbove bodies n tip in subst P (sym e) here)
    ],
    λ p. let lt = p.0 in elim (cases_order i body) [
      | inl e ↦ inr e
      | inr o ↦ elim o [
        | inl less ↦ absurd (let le = above_le i (parent_at bodies body) (below_between tip i body p.1 here less) in omega arith)
        | inr more ↦ inl (more, p.1)
      ]
    ],
  )

  -- behind the tip there is none
  pub passed_none : (tip i : ℕ) → (tip < i) × IsAtOrAbove bodies i tip → ⊥
  passed_none tip i (lt, h) = let le = above_le i tip h in omega arith

  -- those behind the base are the bodies of the chain
  pub passed_all : (base tip i : ℕ) → 1 ≤ base → IsAtOrAbove bodies base tip →
      ((base < i) × IsAtOrAbove bodies i tip) ↔ (IsBelow bodies base i × IsAtOrAbove bodies i tip)
  passed_all base tip i low down = (
    λ p. (below_between tip base i down p.1 p.0, p.1),
    λ p. (behind i p.0, p.1),
  )
    where
      behind : (i : ℕ) → IsBelow bodies base i → base < i
      behind zero h = let le = above_le base (parent_at bodies 0) h in absurd (omega arith)
      behind (suc k) h = let le = above_le base (parent_at bodies (suc k)) h in let less = parents (suc k) (omega arith) in omega arith

  -- where the way has come to the other body, or passed it
  pub above_end : (above body start : ℕ) → body ≤ above → IsAtOrAbove bodies above body ↔ IsAtOrAbove bodies above start → (body ≡ above) ↔ IsAtOrAbove bodies above start
  above_end above body start end same = (
    λ e. same.0 (0, e),
    λ h. let le = above_le above body (same.1 h) in omega arith,
  )
