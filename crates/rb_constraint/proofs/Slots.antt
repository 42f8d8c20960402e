-- The places of the columns of all joints: each joint column has one of its own among the entries of a way.
use Rattle.std.proofs.Common.{◌≡◌, ℕ, zero, suc, ◌+◌, ◌-◌, ◌<◌, ◌≤◌, List, [], ◌∷◌, take, sum_by, slice_get, Option, None, Some, inl, inr, refl, sym, ap, ◌∙◌, subst, arith}
use Rattle.std.specs.Option.{option_map_or}
use Rattle.std.proofs.lemmas.Bool.{cases_lt}
use Rattle.rb_flat.specs.Joint as Kinds
use Rattle.rb_joint.specs.Any.{kind_of}
use Rattle.rb_tree.specs.declared.robot.Body.{Body}
use Rattle.rb_tree.specs.declared.sizes.TheConstants.{MAX_COLUMNS}
use Rattle.rb_tree.specs.Columns.{full_columns, body_at, full_at, first_full, start_behind}
use Rattle.rb_tree.specs.Robot.{Tree, HasBody, AreBodies}
use Rattle.rb_tree.specs.Shape.{kind_at, shape_of}
use Rattle.rb_tree.proofs.ColumnLaws.{sum_more}
use Rattle.rb_tree.proofs.Spans.{full_within}
use Rattle.rb_composite.specs.Composite.{HasJointColumn}

pub count_same : (bodies : List Body) (i : ℕ) → full_at bodies i ≡ Kinds.column_count (kind_at bodies i)
count_same bodies i = go (body_at bodies i)
  where
    go : (o : Option Body) → option_map_or full_columns o 0 ≡ Kinds.column_count (option_map_or (λ (b : Body). kind_of b.joint) o Kinds.Fixed)
    go None = refl
    go (Some body) = refl

-- ---- those before a body
past_end : (bodies : List Body) (k : ℕ) → slice_get bodies k ≡ None → take (suc k) bodies ≡ take k bodies
past_end [] zero e = refl
past_end [] (suc k) e = refl
past_end (b ∷ bodies) zero e = absurd cc
past_end (b ∷ bodies) (suc k) e = ap (λ xs. b ∷ xs) (past_end bodies k e)

sum_next : (f : Body → ℕ) (bodies : List Body) (k : ℕ) → sum_by f (take (suc k) bodies) ≡ sum_by f (take k bodies) + option_map_or f (slice_get bodies k) 0
sum_next f bodies k = next (slice_get bodies k) refl
  where
    next : (o : Option Body) → slice_get bodies k ≡ o → sum_by f (take (suc k) bodies) ≡ sum_by f (take k bodies) + option_map_or f o 0
    next None e = ap (sum_by f) (past_end bodies k e) ∙ omega arith
    next (Some b) e = sum_more f bodies k b e

sum_rises : (bodies : List Body) (i j : ℕ) → i ≤ j → sum_by full_columns (take i bodies) ≤ sum_by full_columns (take j bodies)
sum_rises bodies i zero h = let e : i ≡ 0 = omega arith in subst (λ (k : ℕ). sum_by full_columns (take k bodies) ≤ sum_by full_columns (take 0 bodies)) (sym e) (omega arith)
sum_rises bodies i (suc j) h =
    elim (cases_lt i (suc j)) [
      | inl l ↦ let r : sum_by full_columns (take i bodies) ≤ sum_by full_columns (take j bodies) = sum_rises bodies i j (omega arith) in let n = sum_next full_columns bodies j in omega (arith, r, n)
      | inr g ↦ let e : i ≡ suc j = omega arith in subst (λ (k : ℕ). sum_by full_columns (take k bodies) ≤ sum_by full_columns (take (suc j) bodies)) (sym e) (omega arith)
    ]

-- the columns of a body's joint come before those of a later body
full_rises : (bodies : List Body) (a i : ℕ) → 1 ≤ a → a < i → first_full bodies a + full_at bodies a ≤ first_full bodies i
unfolding start_behind
full_rises bodies zero i low h = absurd (omega arith)
full_rises bodies (suc a) i low h =
    let n = sum_next full_columns bodies a in
    let r = sum_rises bodies (suc a) (i - 1) (omega arith) in
    let e : suc a - 1 ≡ a = omega arith in
    let s : sum_by full_columns (take (suc a - 1) bodies) ≡ sum_by full_columns (take a bodies) = ap (λ (m : ℕ). sum_by full_columns (take m bodies)) e in
    omega (arith, n, r, s)

-- two joint columns at one place are of one body
apart : (bodies : List Body) (i j k l : ℕ) → 1 ≤ i → 1 ≤ j → k < full_at bodies i → l < full_at bodies j → first_full bodies i + k ≡ first_full bodies j + l → i ≡ j
apart bodies i j k l low from hk hl e =
    elim (cases_lt i j) [
      | inl less ↦ let r = full_rises bodies i j low less in absurd (omega (arith, r, e, hk))
      | inr g ↦ elim (cases_lt j i) [
        | inl less ↦ let r = full_rises bodies j i from less in absurd (omega (arith, r, e, hl))
        | inr h ↦ let s : i ≡ j = omega arith in s
      ]
    ]

module _ (tree : Tree) where
  pub below_count : (i k : ℕ) → HasJointColumn (shape_of tree) i k → k < full_at tree.bodies i
  below_count i k has = let e = count_same tree.bodies i in let h = has.below in omega (arith, e, h)

  pub one_place : (i j k l : ℕ) → HasJointColumn (shape_of tree) i k → HasJointColumn (shape_of tree) j l → first_full tree.bodies i + k ≡ first_full tree.bodies j + l → i ≡ j
  one_place i j k l hi hj e = apart tree.bodies i j k l hi.there.from hj.there.from (below_count i k hi) (below_count j l hj) e

  -- those of a body end within the entries of a way
  pub places_end : AreBodies tree.bodies → (i : ℕ) → HasBody tree i → first_full tree.bodies i + full_at tree.bodies i ≤ MAX_COLUMNS + 7
  places_end kept i has = let w = full_within tree i has in let few = kept.few_full in omega (arith, w, few)
