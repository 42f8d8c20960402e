-- The values of a row, and the first refusal, are determined by the robot and the row alone.
use Rattle.std.proofs.Common.{◌≡◌, ℕ, zero, suc, ◌+◌, ◌-◌, ◌*◌, ◌<◌, ◌≤◌, List, [], ◌∷◌, ◌++◌, length, get_or, map, flat_map, Result, Ok, Err, OnOk, IfErr, inl, inr, refl, ap, sym, ◌∙◌, arith}
use Rattle.rb_num.specs.Interval.{Interval}
use Rattle.rb_frac.specs.Spatial.{Force}
use Rattle.rb_result.specs.Steps.{◌>>=◌}
use Rattle.std.proofs.lemmas.List.{length-map, get_or-map}
use Rattle.rb_result.proofs.Results.{same_ok, not-both, then-ok, then-err}
use Rattle.rb_work.specs.Path.{Ascends}
use Rattle.rb_work.specs.View.{View, Extent, IsSized, extent_of, blank_of, X_at, s_at, v_at, c_at, a_at, b_at, f_at, t_at, T_at}
use Rattle.rb_work.specs.Zeros.{zero_motion}
use Rattle.rb_work.specs.Place.{Place, q_of, X_of, s_of, v_of, c_of, a_of, b_of, f_of, t_of, T_of, ValueOf, look, put, names}
use Rattle.rb_work.specs.declared.names.RowFault.{RowFault}
use Rattle.rb_sweep.specs.Sweep.{Among, Answers, upward}
use Rattle.rb_sweep.specs.Naming.{Naming, run}
use Rattle.rb_sweep.proofs.Climbing.{Climbs, climbs_append, climbs_widen, climbs_upward, climbs_downward, among_left, among_right, among_upward, among_downward, run_upward, run_downward, run_append, then_same, map_upward_same, upward_same, downward_same, length-upward, upward_at}
use Rattle.rb_sweep.proofs.NamingLaws.{found, refusal, same_values, not_both, one_refusal, finds, refuses}
use Rattle.rb_work.proofs.PlaceLaws.{Inside, Call, IsCall, naming, ordered}
use Rattle.rb_work.proofs.Sizes.{sizes_of, sizes_for, blank_for}
use Rattle.rb_tree.specs.Columns.{parent_at, column_count, body_of_column, first_column, up_of}
use Rattle.rb_tree.specs.Robot.{Tree, HasBody, HasColumn, AreBodies}
use Rattle.rb_tree.specs.State.{Row}
use Rattle.rb_tree.specs.Places.{q_rule, ArePlaces, IsPlaceRefused, rule as place_rule, order as place_order}
use Rattle.rb_tree.proofs.Spans.{owner_there_at, up_below}
use Rattle.rb_tree.proofs.PlacePass as places
use Rattle.rb_rnea.specs.Speeds.{s_rule, velocity_by, v_rule, order as speed_order}
use Rattle.rb_rnea.specs.Accelerations.{world_acceleration, turning_by, c_rule, acceleration_by, a_rule, need_by, b_rule, order as acceleration_order}
use Rattle.rb_rnea.specs.Forces.{join_child, add_child, f_rule, order as force_order}
use Rattle.rb_rnea.specs.Torques.{add_power, t_rule, add_follower, T_rule, body_order, column_order}
use Rattle.rb_rnea.specs.Steps.{speed_step, acceleration_step, force_step, power_step, torque_step, speeds_of, accelerations_of, forces_of, powers_of, torques_of, sweeps_of}
use Rattle.rb_rnea.specs.Dynamics.{AreDynamics, rule, order, IsRefused, torques_in, extent_for, answer_of, HasOneAnswer, AnswerMeans}

-- the room of each pass
abbrev pass : Tree → ℕ
pass tree = length tree.bodies + 1

abbrev pub rank : Tree → Place → ℕ
rank tree (q_of i) = 2 * i
rank tree (X_of i) = 2 * i + 1
rank tree (s_of i) = 2 * pass tree + 2 * i
rank tree (v_of i) = 2 * pass tree + 2 * i + 1
rank tree (c_of i) = 4 * pass tree + 3 * i
rank tree (a_of i) = 4 * pass tree + 3 * i + 1
rank tree (b_of i) = 4 * pass tree + 3 * i + 2
rank tree (f_of i) = 7 * pass tree + (length tree.bodies - i)
rank tree (t_of i) = 8 * pass tree + i
rank tree (T_of c) = 9 * pass tree + c
rank tree _ = 0

abbrev pub Own : Tree → Place → Type 0
Own tree (q_of i) = HasBody tree i
Own tree (X_of i) = HasBody tree i
Own tree (s_of i) = HasBody tree i
Own tree (v_of i) = i ≤ length tree.bodies
Own tree (c_of i) = HasBody tree i
Own tree (a_of i) = i ≤ length tree.bodies
Own tree (b_of i) = HasBody tree i
Own tree (f_of i) = HasBody tree i
Own tree (t_of i) = HasBody tree i
Own tree (T_of c) = HasColumn tree c
Own tree _ = ⊥

-- each name of the row gets in turn the value that its rule gives
abbrev pub run_of : Tree → Row → View → Result View RowFault
run_of tree row w = run (names (rule tree row) (order tree)) (order tree) w

abbrev pub call : Tree → Row → Extent → Call
call tree row extent = record {
  rule = rule tree row;
  order = order tree;
  extent = extent;
  rank = rank tree;
  Own = Own tree;
  Read = λ m. ⊥;
  rest = λ w. record w { q = []; X = []; s = []; v = []; c = []; a = []; b = []; f = []; t = []; T = [] };
  sweep = run_of tree row;
}

-- a work with room for the bodies and the columns
pub record HasRoom (tree : Tree) (extent : Extent) : Type 0 where
  pub bodies : extent.bodies ≡ length tree.bodies
  pub columns : length extent.up ≡ column_count tree.bodies
  pub ascends : Ascends extent.up

-- so has a work for the robot
pub room_of : (tree : Tree) (w : View) → IsSized w → w.bodies ≡ length tree.bodies → length w.up ≡ column_count tree.bodies → HasRoom tree (extent_of w)
room_of tree w sized bodies columns = record { bodies = bodies; columns = columns; ascends = sized.extent.ascends }

inside : (tree : Tree) (extent : Extent) → HasRoom tree extent → (m : Place) → Own tree m → Inside extent m
inside tree extent e (q_of i) k = let high = k.to in let room = e.bodies in omega arith
inside tree extent e (X_of i) k = let high = k.to in let room = e.bodies in omega arith
inside tree extent e (s_of i) k = let high = k.to in let room = e.bodies in omega arith
inside tree extent e (v_of i) k = let room = e.bodies in omega arith
inside tree extent e (c_of i) k = let high = k.to in let room = e.bodies in omega arith
inside tree extent e (a_of i) k = let room = e.bodies in omega arith
inside tree extent e (b_of i) k = let high = k.to in let room = e.bodies in omega arith
inside tree extent e (f_of i) k = let high = k.to in let room = e.bodies in omega arith
inside tree extent e (t_of i) k = let high = k.to in let room = e.bodies in omega arith
inside tree extent e (T_of c) k = let high = k.to in let room = e.columns in omega arith
inside tree extent e _ k = absurd k

apart : (tree : Tree) (row : Row) (extent : Extent) (m : Place) (x : ValueOf m) (w : View) → Own tree m → (call tree row extent).rest w ≡ (call tree row extent).rest (put m x w)
apart tree row extent (q_of i) x w k = refl
apart tree row extent (X_of i) x w k = refl
apart tree row extent (s_of i) x w k = refl
apart tree row extent (v_of i) x w k = refl
apart tree row extent (c_of i) x w k = refl
apart tree row extent (a_of i) x w k = refl
apart tree row extent (b_of i) x w k = refl
apart tree row extent (f_of i) x w k = refl
apart tree row extent (t_of i) x w k = refl
apart tree row extent (T_of c) x w k = refl
apart tree row extent _ x w k = absurd k

-- ---- what the rules read
pub v_reads : (tree : Tree) (i : ℕ) (s t : View) → X_at s i ≡ X_at t i → v_at s (parent_at tree.bodies i) ≡ v_at t (parent_at tree.bodies i) → s_at s i ≡ s_at t i → v_rule tree i s ≡ v_rule tree i t
unfolding v_rule velocity_by
v_reads tree i s t hX hv hs = rw (hX, hv, hs) refl

pub c_reads : (tree : Tree) (i : ℕ) (s t : View) → v_at s i ≡ v_at t i → s_at s i ≡ s_at t i → c_rule tree i s ≡ c_rule tree i t
unfolding c_rule turning_by
c_reads tree i s t hv hs = rw (hv, hs) refl

a_reads : (tree : Tree) (row : Row) (i : ℕ) (s t : View) → X_at s i ≡ X_at t i → a_at s (parent_at tree.bodies i) ≡ a_at t (parent_at tree.bodies i) → c_at s i ≡ c_at t i → a_rule tree row i s ≡ a_rule tree row i t
unfolding a_rule acceleration_by
a_reads tree row i s t hX ha hc = rw (hX, ha, hc) refl

b_reads : (tree : Tree) (i : ℕ) (s t : View) → v_at s i ≡ v_at t i → a_at s i ≡ a_at t i → b_rule tree i s ≡ b_rule tree i t
unfolding b_rule need_by
b_reads tree i s t hv ha = rw (hv, ha) refl

child_same : (tree : Tree) (i j : ℕ) (s t : View) (sum : Force Interval) → X_at s j ≡ X_at t j → f_at s j ≡ f_at t j → add_child tree.bodies s i j sum ≡ add_child tree.bodies t i j sum
unfolding add_child join_child
child_same tree i j s t sum hX hf = rw (hX, hf) refl

f_reads : (tree : Tree) (i : ℕ) (s t : View) → b_at s i ≡ b_at t i → ((j : ℕ) → i < j → j ≤ length tree.bodies → X_at s j ≡ X_at t j)
    → ((j : ℕ) → i < j → j ≤ length tree.bodies → f_at s j ≡ f_at t j) → f_rule tree i s ≡ f_rule tree i t
unfolding f_rule
f_reads tree i s t hb hX hf =
    let same = downward_same (add_child tree.bodies s i) (add_child tree.bodies t i) (i + 1) (length tree.bodies + 1)
    (λ j sum low high. child_same tree i j s t sum (hX j (omega arith) (omega arith)) (hf j (omega arith) (omega arith))) (b_at s i) in
    rw same (rw hb refl)

power_same : (tree : Tree) (i k : ℕ) (s t : View) (powers : List Interval) → f_at s i ≡ f_at t i → add_power tree.bodies s i k powers ≡ add_power tree.bodies t i k powers
unfolding add_power
power_same tree i k s t powers hf = rw hf refl

t_reads : (tree : Tree) (i : ℕ) (s t : View) → f_at s i ≡ f_at t i → t_rule tree i s ≡ t_rule tree i t
unfolding t_rule
t_reads tree i s t hf =
    let same = λ (n : ℕ) (xs : List Interval). upward_same (add_power tree.bodies s i) (add_power tree.bodies t i) 0 n (λ k powers low high. power_same tree i k s t powers hf) xs in
    rw (same _ _) refl

follower_same : (tree : Tree) (i k j : ℕ) (s t : View) (sum : Interval) → t_at s j ≡ t_at t j → add_follower tree.bodies s i k j sum ≡ add_follower tree.bodies t i k j sum
unfolding add_follower
follower_same tree i k j s t sum h = rw h refl

T_reads : (tree : Tree) (c : ℕ) (s t : View) → t_at s (body_of_column tree.bodies c) ≡ t_at t (body_of_column tree.bodies c)
    → ((j : ℕ) → 1 ≤ j → j ≤ length tree.bodies → t_at s j ≡ t_at t j) → T_rule tree c s ≡ T_rule tree c t
unfolding T_rule
T_reads tree c s t own each =
    let i = body_of_column tree.bodies c in
    let k = c - first_column tree.bodies i in
    let same = λ (x : Interval). upward_same (add_follower tree.bodies s i k) (add_follower tree.bodies t i k) 1 (length tree.bodies + 1)
    (λ j sum low high. follower_same tree i k j s t sum (each j low (omega arith))) x in
    rw (same _) (rw own refl)

pub has_body : (tree : Tree) (i : ℕ) → 1 ≤ i → i ≤ length tree.bodies → HasBody tree i
has_body tree i low high = record { from = low; to = high }

reads : (tree : Tree) (row : Row) → AreBodies tree.bodies → (n : Place) (s t : View) → Own tree n
    → ((m : Place) → Own tree m → rank tree m < rank tree n → look m s ≡ look m t) → rule tree row n s ≡ rule tree row n t
reads tree row kept (q_of i) s t k h = refl
reads tree row kept (X_of i) s t k h = places.X_reads tree i s t (h (q_of i) k (omega arith))
reads tree row kept (s_of i) s t k h = refl
reads tree row kept (v_of zero) s t k h = refl
reads tree row kept (v_of (suc i)) s t k h =
    let l : parent_at tree.bodies (suc i) < suc i = kept.parents (suc i) (omega arith) in
    let has = has_body tree (suc i) (omega arith) k in
    v_reads tree (suc i) s t (h (X_of (suc i)) has (omega arith)) (h (v_of (parent_at tree.bodies (suc i))) (omega arith) (omega arith)) (h (s_of (suc i)) has (omega arith))
reads tree row kept (c_of i) s t k h =
    let high = k.to in
    c_reads tree i s t (h (v_of i) high (omega arith)) (h (s_of i) k (omega arith))
reads tree row kept (a_of zero) s t k h = refl
reads tree row kept (a_of (suc i)) s t k h =
    let l : parent_at tree.bodies (suc i) < suc i = kept.parents (suc i) (omega arith) in
    let has = has_body tree (suc i) (omega arith) k in
    a_reads tree row (suc i) s t (h (X_of (suc i)) has (omega arith)) (h (a_of (parent_at tree.bodies (suc i))) (omega arith) (omega arith)) (h (c_of (suc i)) has (omega arith))
reads tree row kept (b_of i) s t k h =
    let high = k.to in
    b_reads tree i s t (h (v_of i) high (omega arith)) (h (a_of i) high (omega arith))
reads tree row kept (f_of i) s t k h =
    let low = k.from in
    let high = k.to in
    f_reads tree i s t (h (b_of i) k (omega arith))
    (λ j l below. h (X_of j) (has_body tree j (omega arith) below) (omega arith))
    (λ j l below. h (f_of j) (has_body tree j (omega arith) below) (omega arith))
reads tree row kept (t_of i) s t k h = let low = k.from in let high = k.to in t_reads tree i s t (h (f_of i) k (omega arith))
reads tree row kept (T_of c) s t k h =
    let low = k.from in
    let own = owner_there_at tree c k in
    let own_high = own.to in
    T_reads tree c s t (h (t_of (body_of_column tree.bodies c)) own (omega arith)) (λ j l below. h (t_of j) (has_body tree j l below) (omega arith))
reads tree row kept _ s t k h = absurd k

-- ---- the order
module _ (tree : Tree) where
  behind_places : List Place
  behind_places = speed_order tree ++ (acceleration_order tree ++ (force_order tree ++ (body_order tree ++ column_order tree)))

  behind_speeds : List Place
  behind_speeds = acceleration_order tree ++ (force_order tree ++ (body_order tree ++ column_order tree))

  behind_accelerations : List Place
  behind_accelerations = force_order tree ++ (body_order tree ++ column_order tree)

  in_places : (m : Place) → Among m (place_order tree) → Among m (order tree)
  unfolding behind_places
  in_places m h = among_left m (place_order tree) behind_places h

  in_speeds : (m : Place) → Among m (speed_order tree) → Among m (order tree)
  unfolding behind_places behind_speeds
  in_speeds m h = among_right m (place_order tree) behind_places (among_left m (speed_order tree) behind_speeds h)

  in_accelerations : (m : Place) → Among m (acceleration_order tree) → Among m (order tree)
  unfolding behind_places behind_speeds behind_accelerations
  in_accelerations m h =
      among_right m (place_order tree) behind_places (among_right m (speed_order tree) behind_speeds (among_left m (acceleration_order tree) behind_accelerations h))

  in_forces : (m : Place) → Among m behind_accelerations → Among m (order tree)
  unfolding behind_places behind_speeds behind_accelerations
  in_forces m h =
      among_right m (place_order tree) behind_places (among_right m (speed_order tree) behind_speeds (among_right m (acceleration_order tree) behind_accelerations h))

  listed : (m : Place) → Own tree m → Among m (order tree)
  unfolding behind_accelerations
  listed (q_of i) k = in_places (q_of i) (places.listed tree (q_of i) k)
  listed (X_of i) k = in_places (X_of i) (places.listed tree (X_of i) k)
  listed (s_of i) k = let low = k.from in let high = k.to in in_speeds (s_of i) (inr (among_upward (λ i. s_of i ∷ v_of i ∷ []) (s_of i) i 1 (length tree.bodies + 1) low (omega arith) (inl refl)))
  listed (v_of zero) k = in_speeds (v_of 0) (inl refl)
  listed (v_of (suc i)) k = in_speeds (v_of (suc i)) (inr (among_upward (λ i. s_of i ∷ v_of i ∷ []) (v_of (suc i)) (suc i) 1 (length tree.bodies + 1) (omega arith) (omega arith) (inr (inl refl))))
  listed (c_of i) k = let low = k.from in let high = k.to in in_accelerations (c_of i) (inr (among_upward (λ i. c_of i ∷ a_of i ∷ b_of i ∷ []) (c_of i) i 1 (length tree.bodies + 1) low (omega arith) (inl refl)))
  listed (a_of zero) k = in_accelerations (a_of 0) (inl refl)
  listed (a_of (suc i)) k = in_accelerations (a_of (suc i)) (inr (among_upward (λ i. c_of i ∷ a_of i ∷ b_of i ∷ []) (a_of (suc i)) (suc i) 1 (length tree.bodies + 1) (omega arith) (omega arith) (inr (inl refl))))
  listed (b_of i) k = let low = k.from in let high = k.to in in_accelerations (b_of i) (inr (among_upward (λ i. c_of i ∷ a_of i ∷ b_of i ∷ []) (b_of i) i 1 (length tree.bodies + 1) low (omega arith) (inr (inr (inl refl)))))
  listed (f_of i) k =
      let low = k.from in
      let high = k.to in
      in_forces (f_of i) (among_left (f_of i) (force_order tree) (body_order tree ++ column_order tree) (among_downward (λ i. f_of i ∷ []) (f_of i) i 1 (length tree.bodies + 1) low (omega arith) (inl refl)))
  listed (t_of i) k =
      let low = k.from in
      let high = k.to in
      in_forces (t_of i)
      (among_right (t_of i) (force_order tree) (body_order tree ++ column_order tree)
      (among_left (t_of i) (body_order tree) (column_order tree) (among_upward (λ i. t_of i ∷ []) (t_of i) i 1 (length tree.bodies + 1) low (omega arith) (inl refl))))
  listed (T_of c) k =
      let low = k.from in
      let high = k.to in
      in_forces (T_of c)
      (among_right (T_of c) (force_order tree) (body_order tree ++ column_order tree)
      (among_right (T_of c) (body_order tree) (column_order tree) (among_upward (λ c. T_of c ∷ []) (T_of c) c 1 (column_count tree.bodies + 1) low (omega arith) (inl refl))))
  listed _ k = absurd k

-- ---- the sweeps are runs over these names
speed_run : (tree : Tree) (row : Row) (extent : Extent) (i : ℕ) (w : View) → 1 ≤ i → speed_step tree row i w ≡ run (naming (call tree row extent)) (s_of i ∷ v_of i ∷ []) w
unfolding speed_step
speed_run tree row extent zero w low = absurd (omega arith)
speed_run tree row extent (suc i) w low = refl

acceleration_run : (tree : Tree) (row : Row) (extent : Extent) (i : ℕ) (w : View) → 1 ≤ i → acceleration_step tree row i w ≡ run (naming (call tree row extent)) (c_of i ∷ a_of i ∷ b_of i ∷ []) w
unfolding acceleration_step
acceleration_run tree row extent zero w low = absurd (omega arith)
acceleration_run tree row extent (suc i) w low = refl

pub then_run : {S E : Type 0} (p : Naming S E) (r q : S → Result S E) (ms ns : List p.Name) → ((w : S) → r w ≡ run p ms w) → ((w : S) → q w ≡ run p ns w)
    → (w : S) → (r w >>= λ t. q t) ≡ run p (ms ++ ns) w
then_run p r q ms ns hr hq w =
    ap (λ x. (x >>= λ t. q t)) (hr w) ∙ then_same (run p ms w) _ _ hq ∙ sym (run_append p ms ns w)

module _ (tree : Tree) (row : Row) (extent : Extent) where
  runs : (w : View) → sweeps_of tree row row.a w ≡ run (naming (call tree row extent)) (behind_places tree) w
  unfolding behind_places force_step power_step torque_step
  runs =
      let p = naming (call tree row extent) in
      let n = length tree.bodies + 1 in
      then_run p (speeds_of tree row) _ (speed_order tree) _ (λ w. run_upward p (speed_step tree row) (λ i. s_of i ∷ v_of i ∷ []) 1 n (speed_run tree row extent) (put (v_of 0) zero_motion w))
      (then_run p (accelerations_of tree (record row { a = row.a })) _ (acceleration_order tree) _
      (λ w. run_upward p (acceleration_step tree row) (λ i. c_of i ∷ a_of i ∷ b_of i ∷ []) 1 n (acceleration_run tree row extent) (put (a_of 0) (world_acceleration row) w))
      (then_run p (forces_of tree) _ (force_order tree) _ (λ w. run_downward p (force_step tree) (λ i. f_of i ∷ []) 1 n (λ i w low. refl) w)
      (then_run p (powers_of tree) (torques_of tree) (body_order tree) (column_order tree) (λ w. run_upward p (power_step tree) (λ i. t_of i ∷ []) 1 n (λ i w low. refl) w)
      (λ w. run_upward p (torque_step tree) (λ c. T_of c ∷ []) 1 (column_count tree.bodies + 1) (λ c w low. refl) w))))

  climbs : Climbs (rank tree) (Own tree) 2 (order tree) (9 * pass tree + (column_count tree.bodies + 1))
  climbs =
      let n = length tree.bodies in
      let p = pass tree in
      let end = 9 * p + (column_count tree.bodies + 1) in
      let k = Own tree in
      let r = rank tree in
      let speeds = flat_map (λ i. s_of i ∷ v_of i ∷ []) (upward 1 (n + 1)) in
      let accelerations = flat_map (λ i. c_of i ∷ a_of i ∷ b_of i ∷ []) (upward 1 (n + 1)) in
      climbs_append r k (place_order tree) (speed_order tree ++ (acceleration_order tree ++ (force_order tree ++ (body_order tree ++ column_order tree)))) 2 (2 * p) end
      (climbs_upward r k (λ i. q_of i ∷ X_of i ∷ []) (λ i. 2 * i) 1 (n + 1) (omega arith)
      (λ i low high. let has = has_body tree i low (omega arith) in (has, omega arith, (has, omega arith, omega arith))))
      (climbs_append r k (speed_order tree) (acceleration_order tree ++ (force_order tree ++ (body_order tree ++ column_order tree))) (2 * p) (4 * p) end (
        omega arith,
        omega arith,
        climbs_widen r k speeds (2 * p + 2 * 1) (2 * p + 2 * (n + 1)) (2 * p + 2 * 0 + 1 + 1) (4 * p) (omega arith) (omega arith)
            (climbs_upward r k (λ i. s_of i ∷ v_of i ∷ []) (λ i. 2 * p + 2 * i) 1 (n + 1) (omega arith)
            (λ i low high. (has_body tree i low (omega arith), omega arith, (omega arith, omega arith, omega arith)))),
      )
      (climbs_append r k (acceleration_order tree) (force_order tree ++ (body_order tree ++ column_order tree)) (4 * p) (7 * p) end (
        omega arith,
        omega arith,
        climbs_widen r k accelerations (4 * p + 3 * 1) (4 * p + 3 * (n + 1)) (4 * p + 3 * 0 + 1 + 1) (7 * p) (omega arith) (omega arith)
            (climbs_upward r k (λ i. c_of i ∷ a_of i ∷ b_of i ∷ []) (λ i. 4 * p + 3 * i) 1 (n + 1) (omega arith)
            (λ i low high. let has = has_body tree i low (omega arith) in (has, omega arith, (omega arith, omega arith, (has, omega arith, omega arith))))),
      )
      (climbs_append r k (force_order tree) (body_order tree ++ column_order tree) (7 * p) (8 * p) end
      (climbs_widen r k (force_order tree) (7 * p + (n + 1 - (n + 1))) (7 * p + (n + 1 - 1)) (7 * p) (8 * p) (omega arith) (omega arith)
      (climbs_downward r k (λ i. f_of i ∷ []) (λ i. 7 * p + (n + 1 - i)) 1 (n + 1) (omega arith)
      (λ i low high. (has_body tree i low (omega arith), omega arith, omega arith))))
      (climbs_append r k (body_order tree) (column_order tree) (8 * p) (9 * p) end
      (climbs_widen r k (body_order tree) (8 * p + 1) (8 * p + (n + 1)) (8 * p) (9 * p) (omega arith) (omega arith)
      (climbs_upward r k (λ i. t_of i ∷ []) (λ i. 8 * p + i) 1 (n + 1) (omega arith)
      (λ i low high. (has_body tree i low (omega arith), omega arith, omega arith))))
      (climbs_widen r k (column_order tree) (9 * p + 1) (9 * p + (column_count tree.bodies + 1)) (9 * p) end (omega arith) (omega arith)
      (climbs_upward r k (λ c. T_of c ∷ []) (λ c. 9 * p + c) 1 (column_count tree.bodies + 1) (omega arith)
      (λ c low high. let has : HasColumn tree c = record { from = low; to = omega arith } in (has, omega arith, omega arith))))))))

  pub is_call : AreBodies tree.bodies → HasRoom tree extent → IsCall (call tree row extent)
  is_call kept room = record {
    ascends = room.ascends;
    first = 2;
    end = 9 * pass tree + (column_count tree.bodies + 1);
    climbs = climbs;
    listed = listed tree;
    inside = inside tree extent room;
    apart = apart tree row extent;
    reads = λ n s t k g h. reads tree row kept n s t k h;
    runs = λ w. refl;
  }

-- ---- what a row answers
module _ (tree : Tree) (row : Row) (kept : AreBodies tree.bodies) where
  are_dynamics : (w : View) → ((m : Place) → Own tree m → rule tree row m w ≡ Ok (look m w)) → AreDynamics tree row w
  are_dynamics w h = record {
    places = record { each_q = λ i k. h (q_of i) k; each_X = λ i k. h (X_of i) k };
    speeds = record { at_world = sym (same_ok {E = RowFault} zero_motion (v_at w 0) (h (v_of 0) (omega arith))); each_s = λ i k. h (s_of i) k; each_v = each_v };
    accelerations = record {
      at_world = sym (same_ok {E = RowFault} (world_acceleration row) (a_at w 0) (h (a_of 0) (omega arith)));
      each_c = λ i k. h (c_of i) k;
      each_a = each_a;
      each_b = λ i k. h (b_of i) k;
    };
    forces = record { each_f = λ i k. h (f_of i) k };
    torques = record { each_t = λ i k. h (t_of i) k; each_T = λ c k. h (T_of c) k };
  }
    where
      each_v : (i : ℕ) → HasBody tree i → v_rule tree i w ≡ Ok (v_at w i)
      each_v zero k = let low = k.from in absurd (omega arith)
      each_v (suc i) k = h (v_of (suc i)) k.to

      each_a : (i : ℕ) → HasBody tree i → a_rule tree row i w ≡ Ok (a_at w i)
      each_a zero k = let low = k.from in absurd (omega arith)
      each_a (suc i) k = h (a_of (suc i)) k.to

  holds : (w : View) → AreDynamics tree row w → (m : Place) → Own tree m → rule tree row m w ≡ Ok (look m w)
  holds w h (q_of i) k = h.places.each_q i k
  holds w h (X_of i) k = h.places.each_X i k
  holds w h (s_of i) k = h.speeds.each_s i k
  holds w h (v_of zero) k = ap (λ x. Ok x) (sym h.speeds.at_world)
  holds w h (v_of (suc i)) k = h.speeds.each_v (suc i) (has_body tree (suc i) (omega arith) k)
  holds w h (c_of i) k = h.accelerations.each_c i k
  holds w h (a_of zero) k = ap (λ x. Ok x) (sym h.accelerations.at_world)
  holds w h (a_of (suc i)) k = h.accelerations.each_a (suc i) (has_body tree (suc i) (omega arith) k)
  holds w h (b_of i) k = h.accelerations.each_b i k
  holds w h (f_of i) k = h.forces.each_f i k
  holds w h (t_of i) k = h.torques.each_t i k
  holds w h (T_of c) k = h.torques.each_T c k
  holds w h _ k = absurd k

  pub row_found : (w t : View) → sizes_of w ≡ sizes_for (extent_of w) → HasRoom tree (extent_of w) → run_of tree row w ≡ Ok t → AreDynamics tree row t
  row_found w t f room e = are_dynamics t (found _ _ (ordered (call tree row (extent_of w)) (is_call tree row (extent_of w) kept room)) w t f e).holds

  pub row_refused : (w : View) (e : RowFault) → sizes_of w ≡ sizes_for (extent_of w) → HasRoom tree (extent_of w) → run_of tree row w ≡ Err e → IsRefused tree row e
  row_refused w e f room r =
      let h = refusal _ _ (ordered (call tree row (extent_of w)) (is_call tree row (extent_of w) kept room)) w e f r in
      record { values = h.reached; first = h.first }

  -- ---- one answer
  pub room : HasRoom tree (extent_for tree)
  room = record { bodies = refl; columns = columns_room; ascends = ascends_room }
    where
      columns_room : length (map (up_of tree.bodies) (upward 1 (column_count tree.bodies + 1))) ≡ column_count tree.bodies
      columns_room = omega (arith, length-map (upward 1 (column_count tree.bodies + 1)) (up_of tree.bodies), length-upward 1 (column_count tree.bodies + 1))

      ascends_room : Ascends (map (up_of tree.bodies) (upward 1 (column_count tree.bodies + 1)))
      ascends_room zero low high = absurd (omega arith)
      ascends_room (suc k) low high =
          let few : k < column_count tree.bodies = omega (arith, columns_room) in
          let there : get_or (upward 1 (column_count tree.bodies + 1)) k 0 ≡ 1 + k = upward_at 1 (column_count tree.bodies + 1) k 0 (omega arith) in
          let up : get_or (map (up_of tree.bodies) (upward 1 (column_count tree.bodies + 1))) k 0 ≡ up_of tree.bodies (suc k) =
          get_or-map (up_of tree.bodies) (upward 1 (column_count tree.bodies + 1)) k 0 0 (omega (arith, length-upward 1 (column_count tree.bodies + 1))) ∙ ap (up_of tree.bodies) (there ∙ omega arith) in
          let below = up_below tree (suc k) (record { from = omega arith; to = omega arith }) kept.parents in
          omega (arith, up, below)

  order_of : IsCall (call tree row (extent_for tree))
  order_of = is_call tree row (extent_for tree) kept room

  same_torques : (u w : View) → AreDynamics tree row u → AreDynamics tree row w → torques_in tree u ≡ torques_in tree w
  same_torques u w hu hw =
      map_upward_same (T_at u) (T_at w) 1 (column_count tree.bodies + 1)
      (λ c low high. same_values _ _ (ordered (call tree row (extent_for tree)) order_of) u w (λ g. absurd g.1) (holds u hu) (holds w hw) (T_of c) (record { from = low; to = omega arith }))

  either : (w : View) (e : RowFault) → AreDynamics tree row w → IsRefused tree row e → ⊥
  either w e hw r = not_both _ _ (ordered (call tree row (extent_for tree)) order_of) w r.values e (λ g. absurd g.1) (holds w hw) r.first

  one_refused : (d e : RowFault) → IsRefused tree row d → IsRefused tree row e → d ≡ e
  one_refused d e q r = one_refusal _ _ (ordered (call tree row (extent_for tree)) order_of) q.values r.values d e (λ g. absurd g.1) q.first r.first

  pub one_answer : HasOneAnswer tree row
  one_answer = record { values = same_torques; either = either; refusal = one_refused }

  -- ---- from zeros
  ok : List Interval → Result (List Interval) RowFault
  ok xs = Ok xs

  blank : View
  blank = blank_of (extent_for tree)

  pub answer_is : (t : View) → AreDynamics tree row t → answer_of tree row ≡ Ok (torques_in tree t)
  unfolding answer_of blank ok
  answer_is t h =
      let r = finds _ _ (ordered (call tree row (extent_for tree)) order_of) blank t (blank_for (extent_for tree)) (λ g. absurd g.1) (holds t h) in
      let told : torques_in tree r.reached ≡ torques_in tree t =
      map_upward_same (T_at r.reached) (T_at t) 1 (column_count tree.bodies + 1) (λ c low high. r.same (T_of c) (record { from = low; to = omega arith })) in
      ap (λ x. (x >>= λ w. ok (torques_in tree w))) r.sweeps ∙ ap ok told

  pub answer_refused : (e : RowFault) → IsRefused tree row e → answer_of tree row ≡ Err e
  unfolding answer_of blank ok
  answer_refused e h =
      ap (λ x. (x >>= λ w. ok (torques_in tree w)))
      (refuses _ _ (ordered (call tree row (extent_for tree)) order_of) blank h.values e (blank_for (extent_for tree)) (λ g. absurd g.1) h.first)

  pub told_answer : {A : Type 0} (r : Result A RowFault) (t : View) → OnOk r (AreDynamics tree row t) → IfErr r (IsRefused tree row) → Answers r (answer_of tree row) (torques_in tree t)
  told_answer (Ok x) t h k = answer_is t h
  told_answer (Err e) t h k = answer_refused e k

  found_of : (torques : List Interval) → answer_of tree row ≡ Ok torques → (w : View) × AreDynamics tree row w × (torques_in tree w ≡ torques)
  unfolding answer_of blank
  found_of torques e =
      let h = then-ok (run (naming (call tree row (extent_for tree))) (order tree) blank) _ torques e in
      (h.0, row_found blank h.0 (blank_for (extent_for tree)) room h.1, same_ok {E = RowFault} _ _ h.2)

  refused_of : (e : RowFault) → answer_of tree row ≡ Err e → IsRefused tree row e
  unfolding answer_of blank ok
  refused_of e r =
      elim (then-err (run (naming (call tree row (extent_for tree))) (order tree) blank) (λ w. ok (torques_in tree w)) e r) [
        | inl d ↦ row_refused blank e (blank_for (extent_for tree)) room d
        | inr m ↦ absurd (not-both (ok (torques_in tree m.0)) (torques_in tree m.0) e refl m.2)
      ]

  pub answer_means : AnswerMeans tree row
  unfolding ok
  answer_means = record {
    values = λ torques. (found_of torques, λ h. answer_is h.0 h.1 ∙ ap ok h.2);
    refused = λ e. (refused_of e, answer_refused e);
  }

-- ---- from a work that holds the places, which are those of the row, as are the speeds, whatever its accelerations
module _ (tree : Tree) (row : Row) (numbers : List Interval) where
  with_numbers : Row
  with_numbers = record row { a = numbers }

  places_same : (m : Place) (w : View) → places.Own tree m → rule tree with_numbers m w ≡ place_rule tree row m w
  unfolding q_rule with_numbers
  places_same (q_of i) w k = refl
  places_same (X_of i) w k = refl
  places_same _ w k = absurd k

  speeds_same : (w : View) → speeds_of tree row w ≡ speeds_of tree with_numbers w
  unfolding speed_step s_rule with_numbers
  speeds_same w = upward_same (speed_step tree row) (speed_step tree with_numbers) 1 (length tree.bodies + 1) (λ j s low high. refl) (put (v_of 0) zero_motion w)

  rest_of : View → Result View RowFault
  rest_of s = accelerations_of tree with_numbers s >>= λ a. (forces_of tree a >>= λ f. (powers_of tree f >>= λ t. torques_of tree t))

  sweeps_same : (w : View) → sweeps_of tree row numbers w ≡ sweeps_of tree (record row { a = numbers }) numbers w
  unfolding rest_of with_numbers
  sweeps_same w = ap (λ r. (r >>= λ s. rest_of s)) (speeds_same w)

  -- the sweeps behind the places leave what the run over all names does
  sweeps_run : (w : View) → ArePlaces tree row w → sweeps_of tree row numbers w ≡ run_of tree (record row { a = numbers }) w
  unfolding behind_places with_numbers
  sweeps_run w h =
      sweeps_same w ∙ runs tree with_numbers (extent_of w) w ∙ sym (places.run_behind_places tree row (rule tree with_numbers) (behind_places tree) places_same w h)

  pub behind_found : (w t : View) → AreBodies tree.bodies → sizes_of w ≡ sizes_for (extent_of w) → HasRoom tree (extent_of w) → ArePlaces tree row w
      → sweeps_of tree row numbers w ≡ Ok t → AreDynamics tree (record row { a = numbers }) t
  behind_found w t kept f room h e = row_found tree (record row { a = numbers }) kept w t f room (sym (sweeps_run w h) ∙ e)

  pub behind_refused : (w : View) (e : RowFault) → AreBodies tree.bodies → sizes_of w ≡ sizes_for (extent_of w) → HasRoom tree (extent_of w) → ArePlaces tree row w
      → sweeps_of tree row numbers w ≡ Err e → IsRefused tree (record row { a = numbers }) e
  behind_refused w e kept f room h r = row_refused tree (record row { a = numbers }) kept w e f room (sym (sweeps_run w h) ∙ r)

  -- what is refused among the places is refused in the row
  pub places_refused : (e : RowFault) → IsPlaceRefused tree row e → IsRefused tree (record row { a = numbers }) e
  unfolding behind_places with_numbers
  places_refused e h =
      record { values = h.values; first = places.refused_in_places tree row (rule tree with_numbers) (behind_places tree) places_same h.values e h.first }
