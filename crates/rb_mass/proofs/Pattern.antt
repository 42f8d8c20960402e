-- Two columns are on one path upward where the bodies of their joints are, and in a robot with a mimic all are.
use Rattle.std.proofs.Common.{◌≡◌, ℕ, zero, suc, ◌+◌, ◌-◌, ◌<◌, ◌≤◌, ◌||◌, nat_lt, Bool, true, false, if◌then◌else◌, List, [], ◌∷◌, length, take, Option, None, Some, is_some, inl, inr, refl, sym, ap, ◌∙◌, subst, arith}
use mathlib.Core.Path.{ap₂}
use Rattle.std.specs.List.{sum_by, slice_get}
use Rattle.std.specs.Option.{option_map_or}
use Rattle.std.proofs.lemmas.Bool.{cases_lt}
use Rattle.std.proofs.lemmas.Bool.Decides.{nat_tests}
use Rattle.rb_flat.specs.Shape as Flat
use Rattle.rb_composite.specs.Composite.{above as above_body, ancestor, IsOnPath, AreApart}
use Rattle.rb_composite.proofs.Paths.{ancestor-here, path_falls}
use Rattle.rb_work.specs.Path.{above, Ascends, IsOn}
use Rattle.rb_work.proofs.PathLaws.{on_self, on_above}
use Rattle.rb_tree.specs.declared.robot.Body.{Body}
use Rattle.rb_tree.specs.declared.robot.Mimic.{Mimic}
use Rattle.rb_tree.specs.Columns.{own_columns, column_count, columns_at, parent_at, has_mimic, body_of_column, start_behind, nearest_column, up_of, AreUps}
use Rattle.rb_tree.specs.Robot.{Tree, HasColumn, AreBodies}
use Rattle.rb_tree.specs.Shape.{shape_of, master_at, master_of}
use Rattle.rb_tree.proofs.ListLaws.{IsListOf-get}
use Rattle.rb_tree.proofs.ColumnLaws.{up_mimic, sum_more}
use Rattle.rb_tree.proofs.Shapes.{body_there}
use Rattle.rb_tree.proofs.Spans.{sum_rises, owner_leads, owner_there_at, column_within, up_below}
use Rattle.rb_tree.proofs.Nearest as Nearest
use Rattle.rb_mass.proofs.Ways.{ups_same, ups_ascend}

-- ---- robots without a mimic
none_by : (m : Option Mimic) → is_some m ≡ false → master_of m ≡ None
none_by None h = refl
none_by (Some mimic) h = absurd cc

first_or : (a b : Bool) → (a || b) ≡ false → a ≡ false
first_or true b h = cc
first_or false b h = refl

second_or : (a b : Bool) → (a || b) ≡ false → b ≡ false
second_or true b h = absurd cc
second_or false b h = h

no_mimic_in : (bodies : List Body) (k : ℕ) → has_mimic bodies ≡ false → option_map_or (λ (b : Body). master_of b.mimic) (slice_get bodies k) None ≡ None
no_mimic_in [] k h = refl
no_mimic_in (b ∷ bodies) zero h = none_by b.mimic (first_or (is_some b.mimic) (has_mimic bodies) h)
no_mimic_in (b ∷ bodies) (suc k) h = no_mimic_in bodies k (second_or (is_some b.mimic) (has_mimic bodies) h)

-- in a robot without a mimic each joint leads
pub all_lead : (tree : Tree) (i : ℕ) → has_mimic tree.bodies ≡ false → master_at tree.bodies i ≡ None
all_lead tree zero h = refl
all_lead tree (suc k) h = no_mimic_in tree.bodies k h

less_true : (s d : ℕ) → s < d → nat_lt s d ≡ true
less_true s d h = grind (arith, nat_tests)

less_false : (s d : ℕ) → d ≤ s → nat_lt s d ≡ false
less_false s d h = grind (arith, nat_tests)

up_before : (b : Bool) (s d x : ℕ) → b ≡ false → s < d → (if b || nat_lt s d then d - 1 else x) ≡ d - 1
up_before b s d x e l = ap₂ (λ (p q : Bool). if p || q then d - 1 else x) e (less_true s d l)

up_nearest : (b : Bool) (s d x : ℕ) → b ≡ false → d ≤ s → (if b || nat_lt s d then d - 1 else x) ≡ x
up_nearest b s d x e l = ap₂ (λ (p q : Bool). if p || q then d - 1 else x) e (less_false s d l)

-- ---- the bodies of columns
-- body i has column c, by where its columns begin and end
record Has (bodies : List Body) (i c : ℕ) : Type 0 where
  from : 1 ≤ i
  to : i ≤ length bodies
  low : sum_by own_columns (take (i - 1) bodies) < c
  high : c ≤ sum_by own_columns (take i bodies)

-- those up to a body, and those of the bodies before it and its own
sum_of_own : (bodies : List Body) (i : ℕ) → 1 ≤ i → i ≤ length bodies → sum_by own_columns (take (i - 1) bodies) + columns_at bodies i ≡ sum_by own_columns (take i bodies)
sum_of_own bodies zero from to = absurd (omega arith)
sum_of_own bodies (suc k) from to =
    let e : suc k - 1 ≡ k = omega arith in
    let found = body_there bodies (suc k) from to in
    rw e (ap (λ (o : Option Body). sum_by own_columns (take k bodies) + option_map_or own_columns o 0) found.1 ∙ sym (sum_more own_columns bodies k found.0 found.1))

-- a body before the other has no columns behind the other's first
not_before : (bodies : List Body) (i j c d : ℕ) → Has bodies i c → Has bodies j d → i < j → c < d
not_before bodies i j c d a b l =
    let rises = sum_rises bodies i (j - 1) (omega arith) in
    omega (arith, a.high, b.low, rises)

one_body : (bodies : List Body) (i j c : ℕ) → Has bodies i c → Has bodies j c → i ≡ j
one_body bodies i j c a b =
    elim (cases_lt i j) [
      | inl l ↦ let no : c < c = not_before bodies i j c c a b l in absurd (omega arith)
      | inr g ↦ elim (cases_lt j i) [
        | inl l ↦ let no : c < c = not_before bodies j i c c b a l in absurd (omega arith)
        | inr h ↦ omega arith
      ]
    ]

has_owner : (tree : Tree) (c : ℕ) → HasColumn tree c → Has tree.bodies (body_of_column tree.bodies c) c
unfolding start_behind
has_owner tree c has =
    let i = body_of_column tree.bodies c in
    let there = owner_there_at tree c has in
    let within = column_within tree c has in
    let leads = ap (λ (n : ℕ). 1 + sum_by own_columns (take (n - 1) tree.bodies)) (owner_leads tree.bodies i (omega (arith, within.0, within.1))) in
    let more = sum_of_own tree.bodies i there.from there.to in
    record { from = there.from; to = there.to; low = omega (arith, within.0, leads); high = omega (arith, within.1, leads, more) }

-- the bodies above a body's parent are those more than one step above it
parent_path : (tree : Tree) (p n : ℕ) → ancestor (shape_of tree) (parent_at tree.bodies (suc p)) n ≡ ancestor (shape_of tree) (suc p) (suc n)
unfolding ancestor
parent_path tree p zero = refl
parent_path tree p (suc n) = ap (above_body (shape_of tree)) (parent_path tree p n)

world_path : (tree : Tree) (n : ℕ) → ancestor (shape_of tree) 0 n ≡ 0
unfolding ancestor
world_path tree zero = refl
world_path tree (suc n) = ap (above_body (shape_of tree)) (world_path tree n)

from_parent : (tree : Tree) (p i : ℕ) → 1 ≤ p → (p ≡ i → ⊥) → IsOnPath (shape_of tree) p i → IsOnPath (shape_of tree) (parent_at tree.bodies p) i
from_parent tree zero i some other path = absurd (omega arith)
from_parent tree (suc p) i some other path = go path.0 path.1
  where
    go : (n : ℕ) → ancestor (shape_of tree) (suc p) n ≡ i → IsOnPath (shape_of tree) (parent_at tree.bodies (suc p)) i
    go zero e = absurd (other (sym (ancestor-here (shape_of tree) (suc p)) ∙ e))
    go (suc n) e = (n, parent_path tree p n ∙ e)

module _ (tree : Tree) (kept : AreBodies tree.bodies) where
  parents_first : (i : ℕ) → Flat.HasBody (shape_of tree) i → parent_at tree.bodies i < i
  parents_first i has = kept.parents i has.from

  -- a body on the path of another is not behind it
  path_low : (p i : ℕ) → p ≤ length tree.bodies → 1 ≤ i → IsOnPath (shape_of tree) p i → i ≤ p
  path_low p i to from path =
      let e : ancestor (shape_of tree) p path.0 ≡ i = path.1 in
      let falls : ancestor (shape_of tree) p path.0 + path.0 ≤ p = path_falls (shape_of tree) parents_first p path.0 to (omega (arith, e, from)) in
      omega (arith, falls, e)

  -- the nearest column upward of a body is one of a body from there on, if a body of the path has columns
  record Near (p i c : ℕ) : Type 0 where
    body : ℕ
    has : Has tree.bodies body (nearest_column tree.bodies p)
    path : IsOnPath (shape_of tree) body i
    behind : c ≤ nearest_column tree.bodies p

  near_within : (n p i c : ℕ) → p ≤ n → p ≤ length tree.bodies → Has tree.bodies i c → IsOnPath (shape_of tree) p i → Near p i c
  near_within n zero i c l to has path = absurd (let e : ancestor (shape_of tree) 0 path.0 ≡ i = path.1 in let w = world_path tree path.0 in let from = has.from in omega (arith, e, w, from))
  near_within zero (suc p) i c l to has path = absurd (omega arith)
  near_within (suc n) (suc p) i c l to has path =
      elim (cases_lt 0 (columns_at tree.bodies (suc p))) [
        | inl some ↦
            let is : nearest_column tree.bodies (suc p) ≡ sum_by own_columns (take (suc p) tree.bodies) = Nearest.own tree.bodies kept.parents (suc p) some in
            let more = sum_of_own tree.bodies (suc p) (omega arith) to in
            let low = path_low (suc p) i to has.from path in
            let rises = sum_rises tree.bodies i (suc p) low in
            record {
              body = suc p;
              has = record { from = omega arith; to = to; low = omega (arith, is, more, some); high = omega (arith, is) };
              path = path;
              behind = omega (arith, is, rises, has.high);
            }
        | inr none ↦
            let is : nearest_column tree.bodies (suc p) ≡ nearest_column tree.bodies (parent_at tree.bodies (suc p)) = Nearest.parents tree.bodies kept.parents (suc p) (omega arith) in
            let first = kept.parents (suc p) (omega arith) in
            let more = sum_of_own tree.bodies (suc p) (omega arith) to in
            let other : suc p ≡ i → ⊥ = λ e. let own = sum_of_own tree.bodies i has.from has.to in let same = ap (columns_at tree.bodies) e in omega (arith, own, same, none, has.low, has.high) in
            let near : Near (parent_at tree.bodies (suc p)) i c = near_within n (parent_at tree.bodies (suc p)) i c (omega (arith, first)) (omega (arith, first)) has (from_parent tree (suc p) i (omega arith) other path) in
            record {
              body = near.body;
              has = subst (λ (t : ℕ). Has tree.bodies near.body t) (sym is) near.has;
              path = near.path;
              behind = omega (arith, is, near.behind);
            }
      ]

  near : (p i c : ℕ) → p ≤ length tree.bodies → Has tree.bodies i c → IsOnPath (shape_of tree) p i → Near p i c
  near p i c to has path = near_within p p i c (omega arith) to has path

  -- ---- columns
  module _ (ups : List ℕ) (are : AreUps tree.bodies ups) where
    above_is : (c : ℕ) → HasColumn tree c → above ups c ≡ up_of tree.bodies c
    above_is zero has = absurd (let from = has.from in omega arith)
    above_is (suc k) has =
        let e : k + 1 ≡ suc k = omega arith in
        let to : suc k ≤ column_count tree.bodies = has.to in
        IsListOf-get (column_count tree.bodies) (λ j. up_of tree.bodies (j + 1)) ups k 0 are (omega arith) ∙ ap (up_of tree.bodies) e

    ascends : Ascends ups
    ascends = subst (λ (us : List ℕ). Ascends us) (sym (ups_same tree ups are)) (ups_ascend tree kept)

    -- in a robot with a mimic
    all_within : (n c d : ℕ) → has_mimic tree.bodies ≡ true → d ≤ n → 1 ≤ c → c ≤ d → HasColumn tree d → IsOn ups d c
    all_within n c zero mimic l from order has = absurd (omega arith)
    all_within zero c (suc k) mimic l from order has = absurd (omega arith)
    all_within (suc n) c (suc k) mimic l from order has =
        elim (cases_lt c (suc k)) [
          | inl less ↦
              let e : k + 1 ≡ suc k = omega arith in
              let to : suc k ≤ column_count tree.bodies = has.to in
              let up : above ups (suc k) ≡ k = above_is (suc k) has ∙ sym (up_mimic tree.bodies k mimic ∙ ap (up_of tree.bodies) e) in
              on_above ups ascends (suc k) c (omega arith)
              (subst (λ (t : ℕ). IsOn ups t c) (sym up) (all_within n c k mimic (omega arith) from (omega arith) (record { from = omega arith; to = omega arith })))
          | inr more ↦ let same : suc k ≡ c = omega arith in subst (λ (t : ℕ). IsOn ups (suc k) t) same (on_self ups ascends (suc k) (omega arith))
        ]

    -- without one: behind another column of its joint the one before, else the nearest one of a body above
    by_body : (d j : ℕ) → body_of_column tree.bodies d ≡ j
        → up_of tree.bodies d ≡ (if has_mimic tree.bodies || nat_lt (1 + sum_by own_columns (take (j - 1) tree.bodies)) d then d - 1 else nearest_column tree.bodies (parent_at tree.bodies j))
    unfolding up_of start_behind
    by_body d j own =
        ap (λ (i : ℕ). if has_mimic tree.bodies || nat_lt (1 + sum_by own_columns (take (i - 1) tree.bodies)) d then d - 1 else nearest_column tree.bodies (parent_at tree.bodies i)) own

    -- a column of body j is on the path of each later one, and those of the bodies above are
    on_within : (n c d i j : ℕ) → has_mimic tree.bodies ≡ false → d ≤ n → HasColumn tree d → 1 ≤ c → c ≤ d → Has tree.bodies i c → body_of_column tree.bodies d ≡ j
        → IsOnPath (shape_of tree) j i → IsOn ups d c
    on_within zero c d i j none l has from order at own path = absurd (omega arith)
    on_within (suc n) c d i j none l has from order at own path =
        elim (cases_lt c d) [
          | inr more ↦ let same : d ≡ c = omega arith in subst (λ (t : ℕ). IsOn ups d t) same (on_self ups ascends d (omega arith))
          | inl less ↦ elim (cases_lt (1 + sum_by own_columns (take (j - 1) tree.bodies)) d) [
            | inl later ↦
                let up : up_of tree.bodies d ≡ d - 1 = by_body d j own ∙ up_before (has_mimic tree.bodies) (1 + sum_by own_columns (take (j - 1) tree.bodies)) d (nearest_column tree.bodies (parent_at tree.bodies j)) none later in
                let there : HasColumn tree (d - 1) = record { from = omega arith; to = omega (arith, has.to) } in
                let mine : Has tree.bodies j d = subst (λ (b : ℕ). Has tree.bodies b d) own (has_owner tree d has) in
                let before : Has tree.bodies j (d - 1) = record { from = mine.from; to = mine.to; low = omega (arith, later); high = omega (arith, mine.high) } in
                let owner : body_of_column tree.bodies (d - 1) ≡ j = one_body tree.bodies (body_of_column tree.bodies (d - 1)) j (d - 1) (has_owner tree (d - 1) there) before in
                on_above ups ascends d c (omega arith)
                (subst (λ (t : ℕ). IsOn ups t c) (sym (above_is d has ∙ up)) (on_within n c (d - 1) i j none (omega arith) there from (omega arith) at owner path))
            | inr first ↦
                let up : up_of tree.bodies d ≡ nearest_column tree.bodies (parent_at tree.bodies j) =
                by_body d j own ∙ up_nearest (has_mimic tree.bodies) (1 + sum_by own_columns (take (j - 1) tree.bodies)) d (nearest_column tree.bodies (parent_at tree.bodies j)) none first in
                let mine : Has tree.bodies j d = subst (λ (b : ℕ). Has tree.bodies b d) own (has_owner tree d has) in
                let below : up_of tree.bodies d < d = up_below tree d has kept.parents in
                let other : j ≡ i → ⊥ = λ e. let begins = ap (λ (b : ℕ). sum_by own_columns (take (b - 1) tree.bodies)) e in omega (arith, begins, at.low, first, less) in
                let parent = kept.parents j mine.from in
                let close : Near (parent_at tree.bodies j) i c = near (parent_at tree.bodies j) i c (omega (arith, parent, mine.to)) at (from_parent tree j i mine.from other path) in
                let there : HasColumn tree (nearest_column tree.bodies (parent_at tree.bodies j)) = record { from = omega (arith, from, close.behind); to = omega (arith, up, below, has.to) } in
                let owner : body_of_column tree.bodies (nearest_column tree.bodies (parent_at tree.bodies j)) ≡ close.body =
                one_body tree.bodies (body_of_column tree.bodies (nearest_column tree.bodies (parent_at tree.bodies j))) close.body (nearest_column tree.bodies (parent_at tree.bodies j))
                (has_owner tree (nearest_column tree.bodies (parent_at tree.bodies j)) there) close.has in
                on_above ups ascends d c (omega arith)
                (subst (λ (t : ℕ). IsOn ups t c) (sym (above_is d has ∙ up))
                (on_within n c (nearest_column tree.bodies (parent_at tree.bodies j)) i close.body none (omega (arith, up, below)) there from close.behind at owner close.path))
          ]
        ]

    -- columns that are on no path: no joint follows another, and their bodies are apart
    pub no_mimic : (c d : ℕ) → HasColumn tree c → HasColumn tree d → c ≤ d → (IsOn ups d c → ⊥) → has_mimic tree.bodies ≡ false
    no_mimic c d hc hd order off = go (has_mimic tree.bodies) refl
      where
        go : (b : Bool) → has_mimic tree.bodies ≡ b → has_mimic tree.bodies ≡ false
        go true e = absurd (off (all_within d c d e (omega arith) hc.from order hd))
        go false e = e

    pub are_apart : (c d : ℕ) → HasColumn tree c → HasColumn tree d → c ≤ d → (IsOn ups d c → ⊥) → AreApart (shape_of tree) (body_of_column tree.bodies c) (body_of_column tree.bodies d)
    are_apart c d hc hd order off = record { upward = upward_none; downward = downward_none }
      where
        downward_none : IsOnPath (shape_of tree) (body_of_column tree.bodies d) (body_of_column tree.bodies c) → ⊥
        downward_none path = off (on_within d c d (body_of_column tree.bodies c) (body_of_column tree.bodies d) (no_mimic c d hc hd order off) (omega arith) hd hc.from order (has_owner tree c hc) refl path)

        same_body : body_of_column tree.bodies d ≤ body_of_column tree.bodies c → body_of_column tree.bodies d ≡ body_of_column tree.bodies c
        same_body l =
            elim (cases_lt (body_of_column tree.bodies d) (body_of_column tree.bodies c)) [
              | inl less ↦ let no : d < c = not_before tree.bodies (body_of_column tree.bodies d) (body_of_column tree.bodies c) d c (has_owner tree d hd) (has_owner tree c hc) less in absurd (omega arith)
              | inr more ↦ omega arith
            ]

        upward_none : IsOnPath (shape_of tree) (body_of_column tree.bodies c) (body_of_column tree.bodies d) → ⊥
        upward_none path =
            let mine = has_owner tree c hc in
            let other = has_owner tree d hd in
            let low = path_low (body_of_column tree.bodies c) (body_of_column tree.bodies d) mine.to other.from path in
            downward_none (0, ancestor-here (shape_of tree) (body_of_column tree.bodies d) ∙ same_body low)
