-- The columns of a robot fit its shape, and the parents of its bodies come first.
use Rattle.std.proofs.Common.{◌≡◌, inl, inr, ℕ, zero, suc, ◌+◌, ◌-◌, ◌<◌, ◌≤◌, List, length, take, Option, None, Some, refl, sym, ap, ◌∙◌, subst, arith}
use Rattle.std.specs.List.{sum_by}
use Rattle.std.specs.Option.{option_map_or}
use Rattle.std.proofs.lemmas.Bool.{cases_lt}
use Rattle.rb_flat.specs.Joint as Kinds
use Rattle.rb_flat.specs.Shape.{ColumnsFit, ParentsComeFirst, OwnsColumn}
use Rattle.rb_flat.proofs.VirtualWork.{one_column}
use Rattle.rb_joint.specs.Any.{kind_of}
use Rattle.rb_tree.specs.declared.robot.Body.{Body}
use Rattle.rb_tree.specs.declared.robot.Mimic.{Mimic}
use Rattle.rb_tree.specs.Columns.{own_columns, unless_mimic, mimic_or, body_at, columns_at, column_count, leader_at, start_behind, first_column, body_of_column}
use Rattle.rb_tree.specs.Robot.{Tree, HasBody, HasColumn, AreBodies}
use Rattle.rb_tree.specs.Shape.{kind_at, master_of, master_at, shape_of}
use Rattle.rb_tree.proofs.ColumnLaws.{sum_more}
use Rattle.rb_tree.proofs.Shapes.{body_there, mimics_fit}
use Rattle.rb_tree.proofs.Spans.{sum_rises, owner_there_at, column_within, sum_within}

-- ---- of a body by its number
count_by : (m : Option Mimic) (count : ℕ) → master_of m ≡ None → unless_mimic m count ≡ count
count_by None count h = refl
count_by (Some mimic) count h = absurd cc

count_of : (o : Option Body) → option_map_or (λ (b : Body). master_of b.mimic) o None ≡ None → option_map_or own_columns o 0 ≡ Kinds.column_count (option_map_or (λ (b : Body). kind_of b.joint) o Kinds.Fixed)
count_of None h = refl
count_of (Some body) h = count_by body.mimic (Kinds.column_count (kind_of body.joint)) h

-- a joint that leads has the columns of its kind
own_count : (bodies : List Body) (i : ℕ) → master_at bodies i ≡ None → columns_at bodies i ≡ Kinds.column_count (kind_at bodies i)
own_count bodies i h = count_of (body_at bodies i) h

leads_by : (m : Option Mimic) (count : ℕ) → 0 < unless_mimic m count → master_of m ≡ None
leads_by None count h = refl
leads_by (Some mimic) count h = absurd (omega arith)

leads_of : (o : Option Body) → 0 < option_map_or own_columns o 0 → option_map_or (λ (b : Body). master_of b.mimic) o None ≡ None
leads_of None h = refl
leads_of (Some body) h = leads_by body.mimic _ h

leader_by : (m : Option Mimic) (i : ℕ) → master_of m ≡ None → mimic_or m i ≡ i
leader_by None i h = refl
leader_by (Some mimic) i h = absurd cc

leader_of : (o : Option Body) (i : ℕ) → option_map_or (λ (b : Body). master_of b.mimic) o None ≡ None → option_map_or (λ (b : Body). mimic_or b.mimic i) o i ≡ i
leader_of None i h = refl
leader_of (Some body) i h = leader_by body.mimic i h

master_by : (m : Option Mimic) (i master : ℕ) → master_of m ≡ Some master → mimic_or m i ≡ master
master_by None i master h = absurd cc
master_by (Some mimic) i master h = cc

master_found : (o : Option Body) (i master : ℕ) → option_map_or (λ (b : Body). master_of b.mimic) o None ≡ Some master → option_map_or (λ (b : Body). mimic_or b.mimic i) o i ≡ master
master_found None i master h = absurd cc
master_found (Some body) i master h = master_by body.mimic i master h

-- where its columns begin
begins : (bodies : List Body) (i leader : ℕ) → leader_at bodies i ≡ leader → first_column bodies i ≡ 1 + sum_by own_columns (take (leader - 1) bodies)
unfolding start_behind
begins bodies i leader h = ap (λ (n : ℕ). 1 + sum_by own_columns (take (n - 1) bodies)) h

begins_own : (bodies : List Body) (i : ℕ) → master_at bodies i ≡ None → first_column bodies i ≡ 1 + sum_by own_columns (take (i - 1) bodies)
begins_own bodies i h = begins bodies i i (leader_of (body_at bodies i) i h)

begins_masters : (bodies : List Body) (i master : ℕ) → master_at bodies i ≡ Some master → first_column bodies i ≡ 1 + sum_by own_columns (take (master - 1) bodies)
begins_masters bodies i master h = begins bodies i master (master_found (body_at bodies i) i master h)

-- those up to body i, and those of the bodies before it and its own
sum_to : (bodies : List Body) (i : ℕ) → 1 ≤ i → i ≤ length bodies → sum_by own_columns (take (i - 1) bodies) + columns_at bodies i ≡ sum_by own_columns (take i bodies)
sum_to bodies zero h l = absurd (omega arith)
sum_to bodies (suc k) h l =
    let e : suc k - 1 ≡ k = omega arith in
    let found = body_there bodies (suc k) h l in
    rw e (ap (λ (o : Option Body). sum_by own_columns (take k bodies) + option_map_or own_columns o 0) found.1 ∙ sym (sum_more own_columns bodies k found.0 found.1))

module _ (tree : Tree) (kept : AreBodies tree.bodies) where
  -- the columns of a body that leads end before the last one's end
  ends : (i : ℕ) → HasBody tree i → sum_by own_columns (take (i - 1) tree.bodies) + columns_at tree.bodies i ≤ column_count tree.bodies
  ends i has = sum_within own_columns tree i has

  column_there : (i k : ℕ) → HasBody tree i → k < Kinds.column_count (kind_at tree.bodies i) → HasColumn tree (first_column tree.bodies i + k)
  column_there i k has l = go (master_at tree.bodies i) refl
    where
      go : (m : Option ℕ) → master_at tree.bodies i ≡ m → HasColumn tree (first_column tree.bodies i + k)
      go None e =
          let first = begins_own tree.bodies i e in
          let count = own_count tree.bodies i e in
          let end = ends i has in
          record { from = omega arith; to = omega arith }
      go (Some master) e =
          let may = mimics_fit tree kept i master (record { from = has.from; to = has.to }) e in
          let first = begins_masters tree.bodies i master e in
          let one = one_column (kind_at tree.bodies i) may.entry in
          let masters = one_column (kind_at tree.bodies master) may.master_entry in
          let count = own_count tree.bodies master may.leads in
          let end = ends master (record { from = may.there.from; to = may.there.to }) in
          record { from = omega arith; to = omega arith }

  owns : (c : ℕ) → HasColumn tree c → OwnsColumn (shape_of tree) (body_of_column tree.bodies c) c
  owns c has =
      let i = body_of_column tree.bodies c in
      let there = owner_there_at tree c has in
      let within = column_within tree c has in
      let leads = leads_of (body_at tree.bodies i) (omega (arith, within.0, within.1)) in
      let count = own_count tree.bodies i leads in
      record {
        there = record { from = there.from; to = there.to };
        leads = leads;
        from = within.0;
        below = omega (arith, within.1, count);
      }

  -- of two bodies that own a column the first is not before the second
  not_before : (i j c : ℕ) → OwnsColumn (shape_of tree) i c → OwnsColumn (shape_of tree) j c → i < j → ⊥
  not_before i j c a b l =
      let first = begins_own tree.bodies i a.leads in
      let second = begins_own tree.bodies j b.leads in
      let count = own_count tree.bodies i a.leads in
      let more = sum_to tree.bodies i a.there.from a.there.to in
      let rises = sum_rises tree.bodies i (j - 1) (omega arith) in
      absurd (omega (arith, a.below, b.from, first, second, count, more, rises))

  alone : (i c : ℕ) → OwnsColumn (shape_of tree) i c → body_of_column tree.bodies c ≡ i
  alone i c a =
      let there = column_there i (c - first_column tree.bodies i) (record { from = a.there.from; to = a.there.to }) (omega (arith, a.from, a.below)) in
      let e : first_column tree.bodies i + (c - first_column tree.bodies i) ≡ c = omega (arith, a.from) in
      let has : HasColumn tree c = subst (λ (n : ℕ). HasColumn tree n) e there in
      let own = owns c has in
      elim (cases_lt i (body_of_column tree.bodies c)) [
        | inl lt ↦ absurd (not_before i (body_of_column tree.bodies c) c a own lt)
        | inr ge ↦ elim (cases_lt (body_of_column tree.bodies c) i) [
          | inl lt ↦ absurd (not_before (body_of_column tree.bodies c) i c own a lt)
          | inr le ↦ omega arith
        ]
      ]

  pub columns_fit : ColumnsFit (shape_of tree)
  columns_fit = record {
    there = λ i k has l. let c = column_there i k (record { from = has.from; to = has.to }) l in record { from = c.from; to = c.to };
    owner = λ c has. owns c (record { from = has.from; to = has.to });
    alone = alone;
    follower = λ i master has e.
        let may = mimics_fit tree kept i master (record { from = has.from; to = has.to }) e in
        begins_masters tree.bodies i master e ∙ sym (begins_own tree.bodies master may.leads);
  }

  pub parents_first : ParentsComeFirst (shape_of tree)
  parents_first i has = kept.parents i has.from
