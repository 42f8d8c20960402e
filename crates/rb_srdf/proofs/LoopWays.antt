-- Ways along rows, and levels that rise or fall along them.
use Rattle.std.proofs.Common.{◌≡◌, ◌<◌, ◌≤◌, ◌↔◌, ℕ, Bool, true, false, true≢false, ◌∙◌, IsTrue, List, [], ◌∷◌, ◌++◌, length, get_or, sym, subst, ap, refl, arith, inl, inr}
use Rattle.std.specs.Prelude.{slice_index}
use Rattle.std.specs.List.{All, Contains}
use Rattle.std.proofs.lemmas.List.Elements.{All-contains}
use Rattle.std.proofs.lemmas.Bool.{cases_lt}
use Rattle.std.proofs.lemmas.List.{get_or_past}
use Rattle.rb_srdf.specs.Loops.{RowHolds, LeadsBy, LeadsTo, AreOrdered, AreFalling}

-- a row that holds another is there
pub holder_within : (rows : List (List ℕ)) (a b : ℕ) → RowHolds rows a b → a < length rows
holder_within rows a b named =
    elim (cases_lt a (length rows)) [
      | inl within ↦ within
      | inr past ↦
          let none : get_or rows a [] ≡ [] = get_or_past rows a [] past in
          let P : List ℕ → Type 0 = λ row. Contains row b in
          let w = subst P none named in
          absurd (let h = w.1 in omega arith)
    ]

pub loop_within : (rows : List (List ℕ)) (k : ℕ) → LeadsTo rows k k → k < length rows
loop_within rows k (next, way, named, leads) = holder_within rows k next named

-- one way behind another
pub leads_on : (rows : List (List ℕ)) (from : ℕ) (way : List ℕ) (middle : ℕ) (rest : List ℕ) (to : ℕ) →
    LeadsBy rows from way middle → LeadsBy rows middle rest to → LeadsBy rows from (way ++ rest) to
leads_on rows from [] middle rest to same leads = subst (λ k. LeadsBy rows k rest to) (sym same) leads
leads_on rows from (next ∷ way) middle rest to (named, first) leads = (named, leads_on rows next way middle rest to first leads)

-- one step more at the end
pub leads_more : (rows : List (List ℕ)) (from middle to : ℕ) → LeadsTo rows from middle → RowHolds rows middle to → LeadsTo rows from to
leads_more rows from middle to (next, way, named, leads) last =
    (next, way ++ to ∷ [], named, leads_on rows next way middle (to ∷ []) to leads (last, refl))

-- one step more at the beginning
pub leads_before : (rows : List (List ℕ)) (from middle to : ℕ) → RowHolds rows from middle → LeadsTo rows middle to → LeadsTo rows from to
leads_before rows from middle to first (next, way, named, leads) = (middle, next ∷ way, first, (named, leads))

pub leads_once : (rows : List (List ℕ)) (from to : ℕ) → RowHolds rows from to → LeadsTo rows from to
leads_once rows from to named = (to, [], named, refl)

module _ (rows : List (List ℕ)) (levels : List ℕ) where
  -- along a way levels do not rise
  no_rise : AreOrdered rows levels → (from : ℕ) (way : List ℕ) (to : ℕ) → LeadsBy rows from way to → slice_index levels to ≤ slice_index levels from
  no_rise ordered from [] to same = omega (arith, ap (slice_index levels) same)
  no_rise ordered from (next ∷ way) to (named, leads) = omega (arith, ordered from next named, no_rise ordered next way to leads)

  -- a row that holds only rows at lower levels is on no loop
  pub no_loop_at : AreOrdered rows levels → (k : ℕ) → ((b : ℕ) → RowHolds rows k b → slice_index levels b < slice_index levels k) → LeadsTo rows k k → ⊥
  no_loop_at ordered k less (next, way, named, leads) = omega (arith, less next named, no_rise ordered next way k leads)

  pub ordered_from_falling : AreFalling rows levels → AreOrdered rows levels
  ordered_from_falling falling a b named = omega (arith, falling a b named)

  -- where levels fall there is no loop
  pub no_loop : AreFalling rows levels → (k : ℕ) → LeadsTo rows k k → ⊥
  no_loop falling k = no_loop_at (ordered_from_falling falling) k (falling k)

-- a row none of whose rows is at a level that is not lower
pub no_way_back : (rows : List (List ℕ)) (levels row : List ℕ) (ordered says : Bool) (k limit : ℕ) → (IsTrue ordered → AreOrdered rows levels) → ordered ≡ true →
    limit ≡ slice_index levels k → row ≡ get_or rows k [] → (IsTrue says ↔ All (λ b. slice_index levels b < limit) row) → says ≡ true → LeadsTo rows k k → ⊥
no_way_back rows levels row ordered says k limit orders is_ordered is row_is tells said =
    no_loop_at rows levels (orders (subst IsTrue (sym is_ordered) refl)) k
    (λ b named.
    let all = tells.0 (subst IsTrue (sym said) refl) in
    omega (arith, is, All-contains (λ j. slice_index levels j < limit) row b all (subst (λ xs. Contains xs b) (sym row_is) named)))

pub not_said : (says : Bool) (P : Type 0) → (IsTrue says ↔ P) → says ≡ false → P → ⊥
not_said says P tells denied holds = true≢false (sym (tells.1 holds) ∙ denied)
