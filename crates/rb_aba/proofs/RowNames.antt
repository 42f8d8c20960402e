-- The names of a row: their ranks along the order, and what their rules read.
use Rattle.std.proofs.Common.{◌≡◌, ℕ, zero, suc, ◌+◌, ◌-◌, ◌*◌, ◌<◌, ◌≤◌, List, [], length, Result, inl, refl, ap, sym, ◌∙◌, subst, arith}
use Rattle.rb_result.specs.Steps.{◌>>=◌}
use Rattle.rb_num.specs.Interval.{Interval}
use Rattle.rb_frac.specs.Spatial.{Motion, Force, Inertia}
use Rattle.rb_flat.specs.Joint as Kinds
use Rattle.rb_flat.specs.Joint.{Kind}
use Rattle.rb_joint.specs.Any.{kind_of}
use Rattle.rb_composite.specs.Composite as Composite
use Rattle.rb_work.specs.Path.{IsOn, path, path_within}
use Rattle.rb_work.specs.View.{View, Extent, X_at, v_at, c_at, a_at, IA_at, p_at, U_at, D_at, u_at, Ia_at, pa_at, x_at}
use Rattle.rb_work.specs.Place.{Place, q_of, X_of, s_of, v_of, c_of, IA_of, p_of, U_of, packed_of, u_of, Ia_of, pa_of, x_of, a_of, ValueOf, put, names}
use Rattle.rb_work.specs.declared.names.RowFault.{RowFault}
use Rattle.rb_work.specs.declared.names.NameKind.TheVariants as K
use Rattle.rb_work.specs.Names.{one, named_as}
use Rattle.rb_num.specs.declared.interval.NumFault.{NumFault}
use Rattle.rb_sweep.specs.Sweep.{sweep, upward, downward}
use Rattle.rb_sweep.specs.Naming.{run}
use Rattle.rb_sweep.proofs.Climbing.{downward_same, upward_same, then_same}
use Rattle.rb_work.proofs.PlaceLaws.{Inside, Call}
use Rattle.rb_tree.specs.Columns.{parent_at, column_count, body_of_column, first_column}
use Rattle.rb_tree.specs.Numbers.{joint_at}
use Rattle.rb_tree.specs.Robot.{Tree, HasBody, HasColumn, AreBodies}
use Rattle.rb_tree.specs.Shape.{shape_of}
use Rattle.rb_tree.specs.State.{Row}
use Rattle.rb_tree.proofs.ColumnLaws.{few_columns}
use Rattle.rb_tree.proofs.ColumnsFit.{columns_fit}
use Rattle.rb_tree.proofs.PlaceEncloses.{kind_same}
use Rattle.rb_rnea.specs.Rates.{joint_columns}
use Rattle.rb_rnea.proofs.RowPass.{HasRoom}
use Rattle.rb_articulated.proofs.Torques.{joint_column, column_again, owner_again}
use Rattle.rb_aba.specs.Articulated.{HasJointColumn, column_of, Rest, passed_at, rest_from, join_inertia, join_bias, add_inertia, add_bias, IA_rule, own_bias, bias_by, p_rule, U_rule, D_rule, checked_rest, u_rule, Ia_rule, pa_rule}
use Rattle.rb_aba.specs.Accelerations.{carried_to, moved_by, checked_rate, x_rule, a_rule}
use Rattle.rb_aba.specs.Forward.{AllLead, place_in, rule, order}
use Rattle.rb_aba.proofs.ForwardEncloses.{all_lead}

-- ---- columns
pub on_itself : (up : List ℕ) (c : ℕ) → 1 ≤ c → IsOn up c c
unfolding path path_within
on_itself up zero h = absurd (omega arith)
on_itself up (suc k) h = inl refl

module _ (tree : Tree) (kept : AreBodies tree.bodies) (lead : AllLead tree) where
  pub few : (i : ℕ) → joint_columns tree.bodies i ≤ 6
  few i = few_columns (kind_of (joint_at tree.bodies i))

  flat_column : (i k : ℕ) → HasJointColumn tree i k → Composite.HasJointColumn (shape_of tree) i k
  flat_column i k col = record {
    there = record { from = col.there.from; to = col.there.to };
    below = subst (λ (n : Kind). k < Kinds.column_count n) (sym (kind_same tree.bodies i)) col.below;
  }

  pub body_again : (i k : ℕ) → HasJointColumn tree i k → body_of_column tree.bodies (column_of tree.bodies i k) ≡ i
  body_again i k col = owner_again (shape_of tree) (columns_fit tree kept) (all_lead tree lead) i k (flat_column i k col)

  pub place_again : (i k : ℕ) → HasJointColumn tree i k → place_in tree.bodies (column_of tree.bodies i k) ≡ k
  place_again i k col =
      ap (λ (j : ℕ). column_of tree.bodies i k - first_column tree.bodies j) (body_again i k col)
      ∙ omega arith

  -- the column of the robot with this number
  pub column_there : (c : ℕ) → HasColumn tree c → HasJointColumn tree (body_of_column tree.bodies c) (place_in tree.bodies c)
  column_there c has =
      let col : Composite.HasJointColumn (shape_of tree) (body_of_column tree.bodies c) (place_in tree.bodies c) =
      joint_column (shape_of tree) (columns_fit tree kept) (all_lead tree lead) c (record { from = has.from; to = has.to }) in
      record {
        there = record { from = col.there.from; to = col.there.to };
        below = subst (λ (n : Kind). place_in tree.bodies c < Kinds.column_count n) (kind_same tree.bodies (body_of_column tree.bodies c)) col.below;
      }

  pub number_again : (c : ℕ) → HasColumn tree c → column_of tree.bodies (body_of_column tree.bodies c) (place_in tree.bodies c) ≡ c
  number_again c has = column_again (shape_of tree) (columns_fit tree kept) (all_lead tree lead) c (record { from = has.from; to = has.to })

  pub has_number : (i k : ℕ) → HasJointColumn tree i k → HasColumn tree (column_of tree.bodies i k)
  has_number i k col =
      let c = (columns_fit tree kept).there i k (record { from = col.there.from; to = col.there.to }) (flat_column i k col).below in
      record { from = c.from; to = c.to }

-- ---- ranks
abbrev pub pass : Tree → ℕ
pass tree = length tree.bodies + 1

abbrev pub up_rank : Tree → ℕ → ℕ
up_rank tree i = 4 * pass tree + 24 * (length tree.bodies - i)

abbrev pub column_rank : Tree → ℕ → ℕ
column_rank tree c = up_rank tree (body_of_column tree.bodies c) + 3 * (5 - place_in tree.bodies c)

abbrev pub rank : Tree → Place → ℕ
rank tree (q_of i) = 2 * i
rank tree (X_of i) = 2 * i + 1
rank tree (s_of i) = 2 * pass tree + 2 * i
rank tree (v_of i) = 2 * pass tree + 2 * i + 1
rank tree (c_of i) = up_rank tree i
rank tree (IA_of i) = up_rank tree i + 1
rank tree (p_of i) = up_rank tree i + 2
rank tree (U_of c) = column_rank tree c + 3
rank tree (packed_of c d) = column_rank tree c + 4
rank tree (u_of c) = column_rank tree c + 5
rank tree (Ia_of i) = up_rank tree i + 21
rank tree (pa_of i) = up_rank tree i + 22
rank tree (x_of c) = 28 * pass tree + 8 * body_of_column tree.bodies c + place_in tree.bodies c
rank tree (a_of i) = 28 * pass tree + 8 * i + 7
rank tree _ = 0

abbrev pub Own : Tree → Place → Type 0
Own tree (q_of i) = HasBody tree i
Own tree (X_of i) = HasBody tree i
Own tree (s_of i) = HasBody tree i
Own tree (v_of i) = i ≤ length tree.bodies
Own tree (c_of i) = HasBody tree i
Own tree (IA_of i) = HasBody tree i
Own tree (p_of i) = HasBody tree i
Own tree (U_of c) = HasColumn tree c
Own tree (packed_of c d) = HasColumn tree c × (d ≡ c)
Own tree (u_of c) = HasColumn tree c
Own tree (Ia_of i) = HasBody tree i
Own tree (pa_of i) = HasBody tree i
Own tree (x_of c) = HasColumn tree c
Own tree (a_of i) = i ≤ length tree.bodies
Own tree _ = ⊥

-- each name of the row gets in turn the value that its rule gives
abbrev pub run_of : Tree → Row → View → Result View RowFault
run_of tree row w = run (names (rule tree row) (order tree)) (order tree) w

abbrev pub call : Tree → Row → Extent → Call
call tree row extent = record {
  rule = rule tree row;
  order = order tree;
  extent = extent;
  rank = rank tree;
  Own = Own tree;
  Read = λ m. ⊥;
  rest = λ w. record w { q = []; X = []; s = []; v = []; c = []; IA = []; p = []; U = []; packed = []; u = []; Ia = []; pa = []; x = []; a = [] };
  sweep = run_of tree row;
}

pub inside : (tree : Tree) (extent : Extent) → HasRoom tree extent → (m : Place) → Own tree m → Inside extent m
inside tree extent e (q_of i) k = let high = k.to in let room = e.bodies in omega arith
inside tree extent e (X_of i) k = let high = k.to in let room = e.bodies in omega arith
inside tree extent e (s_of i) k = let high = k.to in let room = e.bodies in omega arith
inside tree extent e (v_of i) k = let room = e.bodies in omega arith
inside tree extent e (c_of i) k = let high = k.to in let room = e.bodies in omega arith
inside tree extent e (IA_of i) k = let high = k.to in let room = e.bodies in omega arith
inside tree extent e (p_of i) k = let high = k.to in let room = e.bodies in omega arith
inside tree extent e (U_of c) k = let high = k.to in let room = e.columns in omega arith
inside tree extent e (packed_of c d) k =
    let has : HasColumn tree c = k.0 in
    let room = e.columns in
    let to : c ≤ column_count tree.bodies = has.to in
    (omega (arith, to, room), subst (λ (b : ℕ). IsOn extent.up c b) (sym k.1) (on_itself extent.up c has.from))
inside tree extent e (u_of c) k = let high = k.to in let room = e.columns in omega arith
inside tree extent e (Ia_of i) k = let high = k.to in let room = e.bodies in omega arith
inside tree extent e (pa_of i) k = let high = k.to in let room = e.bodies in omega arith
inside tree extent e (x_of c) k = let high = k.to in let room = e.columns in omega arith
inside tree extent e (a_of i) k = let room = e.bodies in omega arith
inside tree extent e _ k = absurd k

pub apart : (tree : Tree) (row : Row) (extent : Extent) (m : Place) (x : ValueOf m) (w : View) → Own tree m → (call tree row extent).rest w ≡ (call tree row extent).rest (put m x w)
apart tree row extent (q_of i) x w k = refl
apart tree row extent (X_of i) x w k = refl
apart tree row extent (s_of i) x w k = refl
apart tree row extent (v_of i) x w k = refl
apart tree row extent (c_of i) x w k = refl
apart tree row extent (IA_of i) x w k = refl
apart tree row extent (p_of i) x w k = refl
apart tree row extent (U_of c) x w k = refl
apart tree row extent (packed_of c d) x w k = refl
apart tree row extent (u_of c) x w k = refl
apart tree row extent (Ia_of i) x w k = refl
apart tree row extent (pa_of i) x w k = refl
apart tree row extent (x_of c) x w k = refl
apart tree row extent (a_of i) x w k = refl
apart tree row extent _ x w k = absurd k

-- ---- what the rules read
pub IA_reads : (tree : Tree) (i : ℕ) (s t : View) → ((j : ℕ) → i < j → j ≤ length tree.bodies → X_at s j ≡ X_at t j)
    → ((j : ℕ) → i < j → j ≤ length tree.bodies → Ia_at s j ≡ Ia_at t j) → IA_rule tree i s ≡ IA_rule tree i t
unfolding IA_rule add_inertia join_inertia
IA_reads tree i s t hX hI =
    let same = λ (x : Inertia Interval). downward_same (add_inertia tree.bodies s i) (add_inertia tree.bodies t i) (i + 1) (length tree.bodies + 1)
    (λ j sum low high. child j sum (hX j (omega arith) (omega arith)) (hI j (omega arith) (omega arith))) x in
    rw (same _) refl
  where
    child : (j : ℕ) (sum : Inertia Interval) → X_at s j ≡ X_at t j → Ia_at s j ≡ Ia_at t j → add_inertia tree.bodies s i j sum ≡ add_inertia tree.bodies t i j sum
    child j sum x y = rw (x, y) refl

pub p_reads : (tree : Tree) (i : ℕ) (s t : View) → v_at s i ≡ v_at t i → ((j : ℕ) → i < j → j ≤ length tree.bodies → X_at s j ≡ X_at t j)
    → ((j : ℕ) → i < j → j ≤ length tree.bodies → pa_at s j ≡ pa_at t j) → p_rule tree i s ≡ p_rule tree i t
unfolding p_rule bias_by own_bias add_bias join_bias
p_reads tree i s t hv hX hp =
    let own : own_bias tree.bodies i s ≡ own_bias tree.bodies i t = rw hv refl in
    ap (named_as (one K.p i))
    (ap (λ (r : Result (Force Interval) NumFault). r >>= λ b. sweep (add_bias tree.bodies s i) (downward (i + 1) (length tree.bodies + 1)) b) own
    ∙ then_same (own_bias tree.bodies i t) _ _
    (λ b. downward_same (add_bias tree.bodies s i) (add_bias tree.bodies t i) (i + 1) (length tree.bodies + 1)
    (λ j sum low high. child j sum (hX j (omega arith) (omega arith)) (hp j (omega arith) (omega arith))) b))
  where
    child : (j : ℕ) (sum : Force Interval) → X_at s j ≡ X_at t j → pa_at s j ≡ pa_at t j → add_bias tree.bodies s i j sum ≡ add_bias tree.bodies t i j sum
    child j sum x y = rw (x, y) refl

pub rest_reads : (tree : Tree) (i k : ℕ) (s t : View) → IA_at s i ≡ IA_at t i → p_at s i ≡ p_at t i
    → ((l : ℕ) → k ≤ l → l < joint_columns tree.bodies i → U_at s (column_of tree.bodies i l) ≡ U_at t (column_of tree.bodies i l))
    → ((l : ℕ) → k ≤ l → l < joint_columns tree.bodies i → D_at s (column_of tree.bodies i l) ≡ D_at t (column_of tree.bodies i l))
    → ((l : ℕ) → k ≤ l → l < joint_columns tree.bodies i → u_at s (column_of tree.bodies i l) ≡ u_at t (column_of tree.bodies i l))
    → rest_from tree.bodies i k s ≡ rest_from tree.bodies i k t
unfolding rest_from passed_at
rest_reads tree i k s t hI hp hU hD hu =
    let same = λ (x : Rest). downward_same (passed_at tree.bodies s i) (passed_at tree.bodies t i) k (joint_columns tree.bodies i)
    (λ l r low high. column l r (hU l low high) (hD l low high) (hu l low high)) x in
    rw (same _) (rw (hI, hp) refl)
  where
    column : (l : ℕ) (r : Rest) → U_at s (column_of tree.bodies i l) ≡ U_at t (column_of tree.bodies i l) → D_at s (column_of tree.bodies i l) ≡ D_at t (column_of tree.bodies i l)
        → u_at s (column_of tree.bodies i l) ≡ u_at t (column_of tree.bodies i l) → passed_at tree.bodies s i l r ≡ passed_at tree.bodies t i l r
    column l r x y z = rw (x, y, z) refl

pub U_reads : (tree : Tree) (i k : ℕ) (s t : View) → rest_from tree.bodies i (k + 1) s ≡ rest_from tree.bodies i (k + 1) t → U_rule tree i k s ≡ U_rule tree i k t
unfolding U_rule
U_reads tree i k s t h = rw h refl

pub D_reads : (tree : Tree) (i k : ℕ) (s t : View) → U_at s (column_of tree.bodies i k) ≡ U_at t (column_of tree.bodies i k) → D_rule tree i k s ≡ D_rule tree i k t
unfolding D_rule
D_reads tree i k s t h = rw h refl

pub u_reads : (tree : Tree) (row : Row) (i k : ℕ) (s t : View) → rest_from tree.bodies i (k + 1) s ≡ rest_from tree.bodies i (k + 1) t
    → U_at s (column_of tree.bodies i k) ≡ U_at t (column_of tree.bodies i k) → D_at s (column_of tree.bodies i k) ≡ D_at t (column_of tree.bodies i k)
    → u_rule tree row i k s ≡ u_rule tree row i k t
unfolding u_rule checked_rest
u_reads tree row i k s t h hU hD = rw (h, hU, hD) refl

pub Ia_reads : (tree : Tree) (i : ℕ) (s t : View) → rest_from tree.bodies i 0 s ≡ rest_from tree.bodies i 0 t → Ia_rule tree i s ≡ Ia_rule tree i t
unfolding Ia_rule
Ia_reads tree i s t h = rw h refl

pub pa_reads : (tree : Tree) (i : ℕ) (s t : View) → rest_from tree.bodies i 0 s ≡ rest_from tree.bodies i 0 t → c_at s i ≡ c_at t i → pa_rule tree i s ≡ pa_rule tree i t
unfolding pa_rule
pa_reads tree i s t h hc = rw (h, hc) refl

pub carried_reads : (tree : Tree) (i : ℕ) (s t : View) → X_at s i ≡ X_at t i → a_at s (parent_at tree.bodies i) ≡ a_at t (parent_at tree.bodies i) → c_at s i ≡ c_at t i
    → carried_to tree.bodies i s ≡ carried_to tree.bodies i t
unfolding carried_to
carried_reads tree i s t hX ha hc = rw (hX, ha, hc) refl

pub moved_reads : (tree : Tree) (i k : ℕ) (s t : View) → ((l : ℕ) → l < k → x_at s (column_of tree.bodies i l) ≡ x_at t (column_of tree.bodies i l))
    → (y : Motion Interval) → sweep (moved_by tree.bodies s i) (upward 0 k) y ≡ sweep (moved_by tree.bodies t i) (upward 0 k) y
unfolding moved_by
moved_reads tree i k s t h y = upward_same (moved_by tree.bodies s i) (moved_by tree.bodies t i) 0 k (λ l z low high. one_more l z (h l high)) y
  where
    one_more : (l : ℕ) (z : Motion Interval) → x_at s (column_of tree.bodies i l) ≡ x_at t (column_of tree.bodies i l) → moved_by tree.bodies s i l z ≡ moved_by tree.bodies t i l z
    one_more l z e = rw e refl

pub x_reads : (tree : Tree) (i k : ℕ) (s t : View) → carried_to tree.bodies i s ≡ carried_to tree.bodies i t
    → ((y : Motion Interval) → sweep (moved_by tree.bodies s i) (upward 0 k) y ≡ sweep (moved_by tree.bodies t i) (upward 0 k) y)
    → U_at s (column_of tree.bodies i k) ≡ U_at t (column_of tree.bodies i k) → D_at s (column_of tree.bodies i k) ≡ D_at t (column_of tree.bodies i k)
    → u_at s (column_of tree.bodies i k) ≡ u_at t (column_of tree.bodies i k) → x_rule tree i k s ≡ x_rule tree i k t
unfolding x_rule checked_rate
x_reads tree i k s t carried moved hU hD hu =
    let rate : (y : Motion Interval) → checked_rate tree.bodies i k s y ≡ checked_rate tree.bodies i k t y = λ y. rw (hU, hD, hu) refl in
    let named = λ (r : Result Interval NumFault). named_as (one K.x (column_of tree.bodies i k)) r in
    ap (λ (r : Result (Motion Interval) NumFault). named_as (one K.a i) r >>= λ start. named (sweep (moved_by tree.bodies s i) (upward 0 k) start >>= λ y. checked_rate tree.bodies i k s y)) carried
    ∙ then_same (named_as (one K.a i) (carried_to tree.bodies i t)) _ _
    (λ start. ap named
    (ap (λ (r : Result (Motion Interval) NumFault). r >>= λ y. checked_rate tree.bodies i k s y) (moved start)
    ∙ then_same (sweep (moved_by tree.bodies t i) (upward 0 k) start) _ _ rate))

pub a_reads : (tree : Tree) (i : ℕ) (s t : View) → carried_to tree.bodies i s ≡ carried_to tree.bodies i t
    → ((y : Motion Interval) → sweep (moved_by tree.bodies s i) (upward 0 (joint_columns tree.bodies i)) y ≡ sweep (moved_by tree.bodies t i) (upward 0 (joint_columns tree.bodies i)) y)
    → a_rule tree i s ≡ a_rule tree i t
unfolding a_rule
a_reads tree i s t carried moved =
    ap (named_as (one K.a i))
    (ap (λ (r : Result (Motion Interval) NumFault). r >>= λ start. sweep (moved_by tree.bodies s i) (upward 0 (joint_columns tree.bodies i)) start) carried
    ∙ then_same (carried_to tree.bodies i t) _ _ moved)
