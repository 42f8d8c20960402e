-- The values of rows of constraints, and the first refusal, are determined by the robot, the constraints and the places alone.
use Rattle.std.proofs.Common.{◌≡◌, ℕ, zero, suc, ◌+◌, ◌*◌, ◌<◌, ◌≤◌, ◌==◌, if◌then◌else◌, List, [], ◌∷◌, length, flat_map, replicate, slice_get, Bool, true, false, Option, None, Result, Ok, Err, inl, inr, refl, ap, sym, ◌∙◌, arith}
use Rattle.std.specs.Option.{option_map_or}
use Rattle.std.proofs.lemmas.Bool.{cases_lt}
use Rattle.std.proofs.lemmas.List.{length-replicate}
use Rattle.rb_num.specs.Interval.{Interval}
use Rattle.rb_num.specs.Arith.{intervals}
use Rattle.rb_num.specs.declared.interval.NumFault.{NumFault}
use Rattle.rb_frac.specs.Spatial.{Force}
use Rattle.rb_result.specs.Steps.{◌>>=◌}
use Rattle.rb_result.proofs.Results.{same_ok}
use Rattle.rb_spatial.specs.Motions.{apply_dual}
use Rattle.rb_flat.specs.Contact.{Constraints, HasRow, RowsFit}
use Rattle.rb_sweep.specs.Sweep.{Among, sweep, upward}
use Rattle.rb_sweep.specs.Naming.{run}
use Rattle.rb_sweep.proofs.Climbing.{Climbs, climbs_append, climbs_widen, climbs_upward, among_left, among_right, among_upward, run_append, run_upward, then_same, sweep_same}
use Rattle.rb_sweep.proofs.SweepSteps.{upward_next}
use Rattle.rb_sweep.proofs.NamingLaws.{found, refusal, same_values, not_both, one_refusal}
use Rattle.rb_work.specs.declared.names.NameKind.TheVariants as K
use Rattle.rb_work.specs.declared.names.RowFault.{RowFault}
use Rattle.rb_work.specs.Names.{one, named_as}
use Rattle.rb_work.specs.Path.{Ascends, above, path}
use Rattle.rb_work.specs.View.{View, Extent, IsSized, extent_of, X_at, O_at, K_at}
use Rattle.rb_work.specs.Place.{Place, X_of, O_of, K_of, J_of, ValueOf, look, put}
use Rattle.rb_work.proofs.PlaceLaws.{Inside, Call, IsCall, naming, ordered}
use Rattle.rb_work.proofs.Sizes.{room_for}
use Rattle.rb_tree.specs.declared.robot.Body.{Body}
use Rattle.rb_tree.specs.Columns.{parent_at, column_count}
use Rattle.rb_tree.specs.Robot.{Tree, HasBody, AreBodies}
use Rattle.rb_tree.specs.Shape.{shape_of}
use Rattle.rb_tree.specs.Places.{IsFor}
use Rattle.rb_constraint.specs.declared.ways.Way.{Way}
use Rattle.rb_constraint.specs.declared.ways.Ways.{Ways}
use Rattle.rb_constraint.specs.Rows.{parents_of, turn_by, O_rule, force_by, forces_by, K_rule, leave, entries_at_body, at_body, start_of, way_from, ways_by, column_by, J_rule, HasEntry, AreRows, rule, turn_order, row_names, row_order, order, SamePlaces, IsRowRefused, RowsHaveOneAnswer}
use Rattle.rb_constraint.specs.Steps.{turn_step, entry_step, put_of, entries_step, row_step, lines_of, fills_of}

-- ---- what the rules read
none_past : (bodies : List Body) (k : ℕ) → length bodies ≤ k → slice_get bodies k ≡ None
none_past [] k h = refl
none_past (b ∷ bodies) zero h = absurd (omega arith)
none_past (b ∷ bodies) (suc k) h = none_past bodies k (omega arith)

-- a body with a parent is there
has_parent : (tree : Tree) (a : ℕ) → (parent_at tree.bodies a == 0) ≡ false → HasBody tree a
has_parent tree zero e = absurd cc
has_parent tree (suc k) e =
    elim (cases_lt k (length tree.bodies)) [
      | inl l ↦ record { from = omega arith; to = omega arith }
      | inr g ↦
          let n : parent_at tree.bodies (suc k) ≡ 0 = ap (λ (o : Option Body). option_map_or (λ (body : Body). body.parent) o 0) (none_past tree.bodies k g) in
          let t : (parent_at tree.bodies (suc k) == 0) ≡ true = ap (λ (m : ℕ). m == 0) n in
          absurd cc
    ]

module _ (tree : Tree) (s t : View) (same : SamePlaces tree s t) where
  leave_same : (a : ℕ) (f : Force Interval) → leave tree.bodies s a f ≡ leave tree.bodies t a f
  unfolding leave
  leave_same a f = go (parent_at tree.bodies a == 0) refl
    where
      go : (b : Bool) → (parent_at tree.bodies a == 0) ≡ b → (if b then Ok f else apply_dual intervals (X_at s a) f) ≡ (if b then Ok f else apply_dual intervals (X_at t a) f)
      go true e = refl
      go false e = rw (same a (has_parent tree a e)) refl

  body_same : (a : ℕ) (x : Way) → at_body tree.bodies s a x ≡ at_body tree.bodies t a x
  unfolding at_body
  body_same a x = then_same (entries_at_body tree.bodies a x) _ _ (λ y. ap (λ r. r >>= λ (force : Force Interval). Ok (record y { force = force })) (leave_same a y.force))

  way_same : (i : ℕ) (f : Force Interval) → way_from tree.bodies s i f ≡ way_from tree.bodies t i f
  unfolding way_from
  way_same i f = sweep_same (at_body tree.bodies s) (at_body tree.bodies t) (path (parents_of tree.bodies) i) (λ a x h. body_same a x) (start_of f)

  pub ways_same : (k : Constraints Interval) (r : ℕ) → K_at s r ≡ K_at t r → ways_by tree.bodies k r s ≡ ways_by tree.bodies k r t
  unfolding ways_by
  ways_same k r h =
      let one : (i : ℕ) (f : Force Interval) → way_from tree.bodies s i f ≡ way_from tree.bodies t i f = way_same in
      rw (h, one _ _, one _ _) refl

O_reads : (tree : Tree) (i : ℕ) (s t : View) → X_at s i ≡ X_at t i → O_at s (parent_at tree.bodies i) ≡ O_at t (parent_at tree.bodies i) → O_rule tree i s ≡ O_rule tree i t
unfolding O_rule turn_by
O_reads tree i s t hX hO = rw (hX, hO) refl

K_reads : (k : Constraints Interval) (r : ℕ) (s t : View) → O_at s (k.row r).first ≡ O_at t (k.row r).first → O_at s (k.row r).second ≡ O_at t (k.row r).second → K_rule k r s ≡ K_rule k r t
unfolding K_rule forces_by force_by
K_reads k r s t first second = rw (first, second) refl

J_reads : (tree : Tree) (k : Constraints Interval) (r c : ℕ) (s t : View) → SamePlaces tree s t → K_at s r ≡ K_at t r → J_rule tree k r c s ≡ J_rule tree k r c t
unfolding J_rule
J_reads tree k r c s t same h = rw (ways_same tree s t same k r h) refl

-- ---- the call
abbrev pub rank : Place → ℕ
rank (O_of i) = i
rank (K_of r) = 1000 + r * 100
rank (J_of r c) = 1000 + r * 100 + 1 + c
rank _ = 0

abbrev pub Own : Tree → Constraints Interval → Place → Type 0
Own tree k (O_of i) = i ≤ length tree.bodies
Own tree k (K_of r) = HasRow k r
Own tree k (J_of r c) = HasEntry tree k r c
Own tree k _ = ⊥

abbrev pub Read : Tree → Place → Type 0
Read tree (X_of i) = HasBody tree i
Read tree _ = ⊥

abbrev pub call : Tree → Constraints Interval → Extent → Call
call tree k extent = record {
  rule = rule tree k;
  order = order tree k;
  extent = extent;
  rank = rank;
  Own = Own tree k;
  Read = Read tree;
  rest = λ w. record w { O = []; K = []; J = [] };
  sweep = fills_of tree k;
}

-- room for the robot and for the rows
pub record HasRoom (tree : Tree) (k : Constraints Interval) (extent : Extent) : Type 0 where
  pub bodies : extent.bodies ≡ length tree.bodies
  pub columns : length extent.up ≡ column_count tree.bodies
  pub rows : k.rows ≤ extent.rows
  pub ascends : Ascends extent.up

module _ (tree : Tree) (k : Constraints Interval) (kept : AreBodies tree.bodies) (fit : RowsFit (shape_of tree) k) where
  inside : (extent : Extent) → HasRoom tree k extent → (m : Place) → Own tree k m → Inside extent m
  inside extent room (O_of i) h = let e = room.bodies in omega arith
  inside extent room (K_of r) h = let e = room.rows in let to = h.to in omega arith
  inside extent room (J_of r c) h = let e = room.rows in let to = h.row.to in let f = room.columns in let below = h.to in (omega arith, omega arith)
  inside extent room _ h = absurd h

  apart : (extent : Extent) (m : Place) (x : ValueOf m) (w : View) → Own tree k m → (call tree k extent).rest w ≡ (call tree k extent).rest (put m x w)
  apart extent (O_of i) x w h = refl
  apart extent (K_of r) x w h = refl
  apart extent (J_of r c) x w h = refl
  apart extent _ x w h = absurd h

  pub reads : (n : Place) (s t : View) → Own tree k n → SamePlaces tree s t → ((m : Place) → Own tree k m → rank m < rank n → look m s ≡ look m t) → rule tree k n s ≡ rule tree k n t
  reads (O_of zero) s t has g h = refl
  reads (O_of (suc i)) s t has g h =
      let there : HasBody tree (suc i) = record { from = omega arith; to = has } in
      let below : parent_at tree.bodies (suc i) < suc i = kept.parents (suc i) there.from in
      O_reads tree (suc i) s t (g (suc i) there) (h (O_of (parent_at tree.bodies (suc i))) (omega (arith, below, has)) below)
  reads (K_of r) s t has g h =
      let few = kept.few in
      let first : (k.row r).first ≤ length tree.bodies = (fit r has).first in
      let second : (k.row r).second ≤ length tree.bodies = (fit r has).second in
      K_reads k r s t (h (O_of (k.row r).first) first (omega (arith, few, first))) (h (O_of (k.row r).second) second (omega (arith, few, second)))
  reads (J_of r c) s t has g h = J_reads tree k r c s t g (h (K_of r) has.row (omega arith))
  reads _ s t has g h = absurd has

  listed : (m : Place) → Own tree k m → Among m (order tree k)
  listed (O_of zero) h = inl refl
  listed (O_of (suc i)) h =
      among_left (O_of (suc i)) (turn_order tree) (row_order tree k)
      (inr (among_upward (λ i. O_of i ∷ []) (O_of (suc i)) (suc i) 1 (length tree.bodies + 1) (omega arith) (omega arith) (inl refl)))
  listed (K_of r) h =
      let low = h.from in
      let high = h.to in
      among_right (K_of r) (turn_order tree) (row_order tree k) (among_upward (row_names tree) (K_of r) r 1 (k.rows + 1) low (omega arith) (inl refl))
  listed (J_of r c) h =
      let low = h.row.from in
      let high = h.row.to in
      let below = h.to in
      among_right (J_of r c) (turn_order tree) (row_order tree k)
      (among_upward (row_names tree) (J_of r c) r 1 (k.rows + 1) low (omega arith)
      (inr (among_upward (λ c. J_of r c ∷ []) (J_of r c) c 0 (column_count tree.bodies + 1) (omega arith) (omega arith) (inl refl))))
  listed _ h = absurd h

  climbs_turns : Climbs rank (Own tree k) 0 (turn_order tree) 1000
  climbs_turns =
      let few = kept.few in (
        omega arith,
        omega arith,
        climbs_widen rank (Own tree k) (flat_map (λ i. O_of i ∷ []) (upward 1 (length tree.bodies + 1))) 1 (length tree.bodies + 1) 1 1000 (omega arith) (omega (arith, few))
            (climbs_upward rank (Own tree k) (λ i. O_of i ∷ []) (λ i. i) 1 (length tree.bodies + 1) (omega arith) (λ i low high. (omega arith, omega arith, omega arith))),
      )

  climbs_row : (r : ℕ) → HasRow k r → Climbs rank (Own tree k) (1000 + r * 100) (row_names tree r) (1000 + (r + 1) * 100)
  climbs_row r has =
      let few = kept.few_columns in
      let base = 1000 + r * 100 + 1 in (
        has,
        omega arith,
        climbs_widen rank (Own tree k) (flat_map (λ c. J_of r c ∷ []) (upward 0 (column_count tree.bodies + 1))) (base + 0) (base + (column_count tree.bodies + 1)) base (1000 + (r + 1) * 100)
            (omega arith) (omega (arith, few))
            (climbs_upward rank (Own tree k) (λ c. J_of r c ∷ []) (λ c. base + c) 0 (column_count tree.bodies + 1) (omega arith)
            (λ c low high. (record { row = has; to = omega arith }, omega arith, omega arith))),
      )

  climbs : Climbs rank (Own tree k) 0 (order tree k) (1000 + (k.rows + 1) * 100)
  climbs =
      climbs_append rank (Own tree k) (turn_order tree) (row_order tree k) 0 1000 (1000 + (k.rows + 1) * 100) climbs_turns
      (climbs_widen rank (Own tree k) (row_order tree k) (1000 + 1 * 100) (1000 + (k.rows + 1) * 100) 1000 (1000 + (k.rows + 1) * 100) (omega arith) (omega arith)
      (climbs_upward rank (Own tree k) (row_names tree) (λ r. 1000 + r * 100) 1 (k.rows + 1) (omega arith) (λ r low high. climbs_row r (record { from = low; to = omega arith }))))

  -- ---- the sweeps are runs over the names
  module _ (extent : Extent) where
    columns_run : (r : ℕ) (ways : Ways) (cs : List ℕ) (w : View) → ways_by tree.bodies k r w ≡ Ok ways
        → sweep (entry_step tree ways r) cs w ≡ run (naming (call tree k extent)) (flat_map (λ c. J_of r c ∷ []) cs) w
    unfolding entry_step J_rule
    columns_run r ways [] w e = refl
    columns_run r ways (c ∷ cs) w e =
        first (named_as (one K.J r) (column_by tree.bodies ways c)) (λ x. columns_run r ways cs (put (J_of r c) x w) (ways_same tree (put (J_of r c) x w) w (λ i h. refl) k r refl ∙ e))
        ∙ sym (ap (λ (q : Result Ways NumFault). named_as (one K.J r) (q >>= λ ways. column_by tree.bodies ways c) >>= λ x. run (naming (call tree k extent)) (flat_map (λ c. J_of r c ∷ []) cs) (put (J_of r c) x w)) e)
      where
        first : (q : Result Interval RowFault)
            → ((x : Interval) → sweep (entry_step tree ways r) cs (put (J_of r c) x w) ≡ run (naming (call tree k extent)) (flat_map (λ c. J_of r c ∷ []) cs) (put (J_of r c) x w))
            → ((q >>= λ x. Ok (put (J_of r c) x w)) >>= λ t. sweep (entry_step tree ways r) cs t)
            ≡ (q >>= λ x. run (naming (call tree k extent)) (flat_map (λ c. J_of r c ∷ []) cs) (put (J_of r c) x w))
        first (Ok x) later = later x
        first (Err d) later = refl

    entries_run : (r : ℕ) (w : View) (q : Result Ways NumFault) → ways_by tree.bodies k r w ≡ q
        → (named_as (one K.J r) q >>= λ ways. put_of tree ways r w) ≡ run (naming (call tree k extent)) (flat_map (λ c. J_of r c ∷ []) (upward 0 (column_count tree.bodies + 1))) w
    unfolding J_rule
    entries_run r w (Ok ways) e = columns_run r ways (upward 0 (column_count tree.bodies + 1)) w e
    entries_run r w (Err d) e =
        let n = column_count tree.bodies + 1 in
        sym (ap (λ cs. run (naming (call tree k extent)) (flat_map (λ c. J_of r c ∷ []) cs) w) (upward_next 0 n (omega arith))
        ∙ ap (λ (q : Result Ways NumFault). named_as (one K.J r) (q >>= λ ways. column_by tree.bodies ways 0) >>= λ x. run (naming (call tree k extent)) (flat_map (λ c. J_of r c ∷ []) (upward 1 n)) (put (J_of r 0) x w)) e)

    row_run : (r : ℕ) (w : View) → row_step tree k r w ≡ run (naming (call tree k extent)) (row_names tree r) w
    unfolding row_step entries_step
    row_run r w = then_same (K_rule k r w) _ _ (λ x. entries_run r (put (K_of r) x w) (ways_by tree.bodies k r (put (K_of r) x w)) refl)

    turn_run : (i : ℕ) (w : View) → 1 ≤ i → turn_step tree i w ≡ run (naming (call tree k extent)) (O_of i ∷ []) w
    unfolding turn_step
    turn_run zero w low = absurd (omega arith)
    turn_run (suc i) w low = refl

    fills_run : (w : View) → fills_of tree k w ≡ run (naming (call tree k extent)) (order tree k) w
    fills_run w =
        let p = naming (call tree k extent) in
        ap (λ r. r >>= λ s. lines_of tree k s)
        (run_upward p (turn_step tree) (λ i. O_of i ∷ []) 1 (length tree.bodies + 1) (λ i s low. turn_run i s low) (put (O_of 0) _ w))
        ∙ then_same (run p (turn_order tree) w) _ _ (λ s. run_upward p (row_step tree k) (row_names tree) 1 (k.rows + 1) (λ r t low. row_run r t) s)
        ∙ sym (run_append p (turn_order tree) (row_order tree k) w)

  pub is_call : (extent : Extent) → HasRoom tree k extent → IsCall (call tree k extent)
  is_call extent room = record {
    ascends = room.ascends;
    first = 0;
    end = 1000 + (k.rows + 1) * 100;
    climbs = climbs;
    listed = listed;
    inside = inside extent room;
    apart = apart extent;
    reads = λ n s t h g l. reads n s t h (λ i has. g (X_of i) has) l;
    runs = fills_run extent;
  }

  -- ---- by names and by the rules of each
  pub are_rows : (w : View) → ((m : Place) → Own tree k m → rule tree k m w ≡ Ok (look m w)) → AreRows tree k w
  are_rows w h = record {
    at_world = sym (same_ok {E = RowFault} _ _ (h (O_of 0) (omega arith)));
    each_O = λ i has. turn i has (h (O_of i) has.to);
    each_K = λ r has. h (K_of r) has;
    each_J = λ r c has. h (J_of r c) has;
  }
    where
      turn : (i : ℕ) → HasBody tree i → rule tree k (O_of i) w ≡ Ok (look (O_of i) w) → O_rule tree i w ≡ Ok (O_at w i)
      turn zero has e = let low = has.from in absurd (omega arith)
      turn (suc i) has e = e

  pub holds : (w : View) → AreRows tree k w → (m : Place) → Own tree k m → rule tree k m w ≡ Ok (look m w)
  holds w h (O_of zero) has = ap Ok (sym h.at_world)
  holds w h (O_of (suc i)) has = h.each_O (suc i) (record { from = omega arith; to = has })
  holds w h (K_of r) has = h.each_K r has
  holds w h (J_of r c) has = h.each_J r c has
  holds w h _ has = absurd has

  -- ---- what a call leaves
  pub room_of : (w : View) → IsSized w → IsFor tree w → k.rows ≤ w.rows → HasRoom tree k (extent_of w)
  room_of w sized is rows = record { bodies = is.bodies; columns = is.up.count; rows = rows; ascends = sized.extent.ascends }

  pub rows_found : (w t : View) → IsSized w → IsFor tree w → k.rows ≤ w.rows → fills_of tree k w ≡ Ok t → AreRows tree k t
  rows_found w t sized is rows e =
      are_rows t (found _ _ (ordered (call tree k (extent_of w)) (is_call (extent_of w) (room_of w sized is rows))) w t (room_for w (extent_of w) sized refl) e).holds

  pub rows_refused : (w : View) (e : RowFault) → IsSized w → IsFor tree w → k.rows ≤ w.rows → fills_of tree k w ≡ Err e → IsRowRefused tree k w e
  rows_refused w e sized is rows r =
      let h = refusal _ _ (ordered (call tree k (extent_of w)) (is_call (extent_of w) (room_of w sized is rows))) w e (room_for w (extent_of w) sized refl) r in
      record { values = h.reached; places = λ i has. ap (λ (u : View). X_at u i) h.keeps; first = h.first }

  -- ---- one answer
  given : (u w : View) → SamePlaces tree u w → (m : Place) → Read tree m → look m (record u { O = []; K = []; J = [] }) ≡ look m (record w { O = []; K = []; J = [] })
  given u w same (X_of i) r = same i r
  given u w same _ r = absurd r

  abbrev some_extent : Extent
  some_extent = record { bodies = length tree.bodies; full = 0; up = replicate (column_count tree.bodies) 0; rows = k.rows }

  zeros_ascend : (n c : ℕ) → 1 ≤ c → above (replicate n 0) c < c
  zeros_ascend n zero low = absurd (omega arith)
  zeros_ascend zero (suc c) low = omega arith
  zeros_ascend (suc n) (suc zero) low = omega arith
  zeros_ascend (suc n) (suc (suc c)) low = let r : above (replicate n 0) (suc c) < suc c = zeros_ascend n (suc c) (omega arith) in omega (arith, r)

  some_call : IsCall (call tree k some_extent)
  some_call =
      is_call some_extent
      (record { bodies = refl; columns = length-replicate (column_count tree.bodies) 0; rows = omega arith; ascends = λ c low high. zeros_ascend (column_count tree.bodies) c low })

  values_same : (u w : View) → SamePlaces tree u w → AreRows tree k u → AreRows tree k w → (m : Place) → Own tree k m → look m u ≡ look m w
  values_same u w same hu hw = same_values _ _ (ordered (call tree k some_extent) some_call) u w (λ g. given u w same g.0 g.1) (holds u hu) (holds w hw)

  pub one_answer : RowsHaveOneAnswer tree k
  one_answer = record {
    values = λ u w same hu hw. record {
      turns = λ i there. values_same u w same hu hw (O_of i) there;
      forces = λ r there. values_same u w same hu hw (K_of r) there;
      table = λ r c there. values_same u w same hu hw (J_of r c) there;
    };
    either = λ u w e same hu r.
        not_both _ _ (ordered (call tree k some_extent) some_call) u r.values e (λ g. given u w same g.0 g.1 ∙ given w r.values r.places g.0 g.1) (holds u hu) r.first;
    refusal = λ u w d e same q r.
        one_refusal _ _ (ordered (call tree k some_extent) some_call) q.values r.values d e
        (λ g. sym (given u q.values q.places g.0 g.1) ∙ given u w same g.0 g.1 ∙ given w r.values r.places g.0 g.1) q.first r.first;
  }
