-- The sweeps are runs over the names.
use Rattle.std.proofs.Common.{◌≡◌, ℕ, zero, suc, ◌+◌, ◌-◌, ◌<◌, ◌≤◌, ◌==◌, if◌then◌else◌, List, [], ◌∷◌, ◌++◌, length, flat_map, slice_get, slice_index_or, Bool, true, false, Option, None, Result, Ok, Err, inl, inr, refl, ap, sym, ◌∙◌, arith}
use Rattle.std.specs.Option.{option_map_or}
use Rattle.std.proofs.lemmas.List.{append_assoc}
use Rattle.std.proofs.lemmas.Bool.{cases_lt}
use Rattle.rb_num.specs.Interval.{Interval}
use Rattle.rb_num.specs.Arith.{intervals}
use Rattle.rb_num.specs.declared.interval.NumFault.{NumFault}
use Rattle.rb_frac.specs.Spatial.{Force}
use Rattle.rb_result.specs.Steps.{◌>>=◌}
use Rattle.rb_result.proofs.Results.{same_ok, then-ok}
use Rattle.rb_sweep.specs.Sweep.{sweep, counting_up, upward}
use Rattle.rb_sweep.specs.Naming.{run}
use Rattle.rb_sweep.proofs.Climbing.{then_same, run_append, run_upward, run_downward}
use Rattle.rb_sweep.proofs.SweepSteps.{upward_done, sweep_done}
use Rattle.rb_spatial.specs.Motions.{apply_dual}
use Rattle.rb_spatial.specs.Inertias.{times}
use Rattle.rb_joint.specs.Any.{any_column}
use Rattle.rb_joint.specs.Columns.{joint_power}
use Rattle.rb_work.specs.declared.names.NameKind.TheVariants as K
use Rattle.rb_work.specs.declared.names.RowFault.{RowFault}
use Rattle.rb_work.specs.declared.names.RowFault.TheVariants.{Size}
use Rattle.rb_work.specs.Names.{one, named_as}
use Rattle.rb_work.specs.Path.{is_on}
use Rattle.rb_work.specs.View.{View, X_at, I_at}
use Rattle.rb_work.specs.Zeros.{zero_inertia, zero_place}
use Rattle.rb_tree.specs.declared.robot.Body.{Body}
use Rattle.rb_tree.specs.Columns.{column_count, parent_at, full_at, first_full, full_columns}
use Rattle.rb_tree.specs.Numbers.{joint_at}
use Rattle.rb_tree.specs.Robot.{Tree, HasBody, AreBodies}
use Rattle.rb_mass.specs.Entries.{above, met_columns, leave, force, H_rule, carried_rule}
use Rattle.rb_mass.specs.Table.{ups_of, M_rule}
use Rattle.rb_mass.specs.Steps.{inertia_step, inertias_of, entry_step, entries_on, Way, goes_on, way_step, way_from, column_walk, column_step, joint_step, entries_of, pair_step, mass_step, masses_of, sweeps_of}
use Rattle.rb_mass.specs.Mass.{Name, inertia, entry, carried, mass, put, entries_met, column_names, joint_names, mass_names, inertia_order, entry_order, mass_order, order, naming, SamePlaces}
use Rattle.rb_mass.proofs.Ways.{none_met, walk}

-- ---- what the force on the way upward reads
none_past : (bodies : List Body) (k : ℕ) → length bodies ≤ k → slice_get bodies k ≡ None
none_past [] k h = refl
none_past (b ∷ bodies) zero h = absurd (omega arith)
none_past (b ∷ bodies) (suc k) h = none_past bodies k (omega arith)

-- a body with a parent is there
has_parent : (tree : Tree) (a : ℕ) → (parent_at tree.bodies a == 0) ≡ false → HasBody tree a
has_parent tree zero e = absurd cc
has_parent tree (suc k) e =
    elim (cases_lt k (length tree.bodies)) [
      | inl l ↦ record { from = omega arith; to = omega arith }
      | inr g ↦
          let n : parent_at tree.bodies (suc k) ≡ 0 = ap (λ (o : Option Body). option_map_or (λ (body : Body). body.parent) o 0) (none_past tree.bodies k g) in
          let t : (parent_at tree.bodies (suc k) == 0) ≡ true = ap (λ (m : ℕ). m == 0) n in
          absurd cc
    ]

leave_same : (tree : Tree) (s t : View) (a : ℕ) (f : Force Interval) → SamePlaces tree s t → leave tree.bodies s a f ≡ leave tree.bodies t a f
unfolding leave
leave_same tree s t a f same = go (parent_at tree.bodies a == 0) refl
  where
    go : (b : Bool) → (parent_at tree.bodies a == 0) ≡ b → (if b then Ok f else apply_dual intervals (X_at s a) f) ≡ (if b then Ok f else apply_dual intervals (X_at t a) f)
    go true e = refl
    go false e = rw (same a (has_parent tree a e)) refl

pub force_same : (tree : Tree) (s t : View) (i k n : ℕ) → I_at s i ≡ I_at t i → SamePlaces tree s t → force tree s i k n ≡ force tree t i k n
unfolding force
force_same tree s t i k zero h same = rw h refl
force_same tree s t i k (suc n) h same =
    ap (λ r. r >>= λ f. leave tree.bodies s (above tree i n) f) (force_same tree s t i k n h same)
    ∙ then_same (force tree t i k n) _ _ (λ f. leave_same tree s t (above tree i n) f same)

force_next : (tree : Tree) (w : View) (i k n : ℕ) → force tree w i k (n + 1) ≡ (force tree w i k n >>= λ f. leave tree.bodies w (above tree i n) f)
unfolding force
force_next tree w i k n = let e : n + 1 ≡ suc n = omega arith in ap (force tree w i k) e

-- ---- steps whose refusals bear a name
one_put : (name : _) (r : Result Interval NumFault) (g : Interval → View) (next : View → Result View NumFault) (later : View → Result View RowFault)
    → ((x : Interval) → named_as name (next (g x)) ≡ later (g x)) → named_as name ((r >>= λ x. Ok (g x)) >>= next) ≡ (named_as name r >>= λ x. later (g x))
one_put name (Ok x) g next later h = h x
one_put name (Err e) g next later h = refl

module _ (tree : Tree) (i k : ℕ) where
  -- the entries of one body
  entries_run : (n : ℕ) (f : Force Interval) (ls : List ℕ) (w : View) → force tree w i k n ≡ Ok f
      → named_as (one K.H i) (sweep (entry_step tree.bodies (first_full tree.bodies i + k) (above tree i n) f) ls w) ≡ run (naming tree) (flat_map (λ l. entry i k n l ∷ []) ls) w
  unfolding entry_step H_rule
  entries_run n f [] w e = refl
  entries_run n f (l ∷ ls) w e =
      one_put (one K.H i) (joint_power (joint_at tree.bodies (above tree i n)) l f) (λ x. put tree (entry i k n l) x w)
      (sweep (entry_step tree.bodies (first_full tree.bodies i + k) (above tree i n) f) ls) (run (naming tree) (flat_map (λ l. entry i k n l ∷ []) ls))
      (λ x. entries_run n f ls (put tree (entry i k n l) x w) (force_same tree (put tree (entry i k n l) x w) w i k n refl (λ j has. refl) ∙ e))
      ∙ sym (ap (λ (r : Result (Force Interval) NumFault). named_as (one K.H i) (r >>= λ g. joint_power (joint_at tree.bodies (above tree i n)) l g) >>= λ x. run (naming tree) (flat_map (λ l. entry i k n l ∷ []) ls) (put tree (entry i k n l) x w)) e)

  -- these leave all but H
  entries_keep : (a f : ℕ) (g : Force Interval) (ls : List ℕ) (s t : View) → sweep (entry_step tree.bodies f a g) ls s ≡ Ok t → (t.I ≡ s.I) × (t.X ≡ s.X)
  unfolding entry_step
  entries_keep a f g [] s t e = let same : s ≡ t = same_ok {E = NumFault} s t e in (ap (λ (w : View). w.I) (sym same), ap (λ (w : View). w.X) (sym same))
  entries_keep a f g (l ∷ ls) s t e =
      let first = then-ok (entry_step tree.bodies f a g l s) (λ u. sweep (entry_step tree.bodies f a g) ls u) t e in
      let found = then-ok (joint_power (joint_at tree.bodies a) l g) (λ x. Ok _) first.0 first.1 in
      let same = same_ok {E = NumFault} _ first.0 found.2 in
      let rest = entries_keep a f g ls first.0 t first.2 in
      (rest.0 ∙ sym (ap (λ (w : View). w.I) same), rest.1 ∙ sym (ap (λ (w : View). w.X) same))

  -- where a force is refused on the way, so is the next name
  at_refused : (n : ℕ) (ls : List ℕ) (ns : List Name) (w : View) (e : NumFault) → force tree w i k n ≡ Err e → run (naming tree) ns w ≡ Err (Size (one K.H i))
      → run (naming tree) (flat_map (λ l. entry i k n l ∷ []) ls ++ ns) w ≡ Err (Size (one K.H i))
  unfolding H_rule
  at_refused n [] ns w e r h = h
  at_refused n (l ∷ ls) ns w e r h =
      ap (λ (q : Result (Force Interval) NumFault). named_as (one K.H i) (q >>= λ g. joint_power (joint_at tree.bodies (above tree i n)) l g) >>= λ x. run (naming tree) (flat_map (λ l. entry i k n l ∷ []) ls ++ ns) (put tree (entry i k n l) x w)) r

  last_refused : (w : View) (e : NumFault) → force tree w i k (length tree.bodies) ≡ Err e → run (naming tree) (carried i k ∷ []) w ≡ Err (Size (one K.H i))
  unfolding carried_rule
  last_refused w e r = ap (λ (q : Result (Force Interval) NumFault). named_as (one K.H i) (q >>= λ f. Ok tt) >>= λ x. Ok w) r

  behind : ℕ → ℕ → List Name
  behind n m = flat_map (entries_met tree i k) (counting_up n m) ++ carried i k ∷ []

  refused_run : (m n : ℕ) (w : View) (e : NumFault) → n + m ≡ length tree.bodies → force tree w i k n ≡ Err e → run (naming tree) (behind n m) w ≡ Err (Size (one K.H i))
  unfolding behind
  refused_run zero n w e h r = let same : n ≡ length tree.bodies = omega arith in last_refused w e (ap (force tree w i k) (sym same) ∙ r)
  refused_run (suc m) n w e h r =
      ap (λ ns. run (naming tree) ns w) (append_assoc (entries_met tree i k n) (flat_map (entries_met tree i k) (counting_up (n + 1) m)) (carried i k ∷ []))
      ∙ at_refused n (upward 0 (met_columns tree.bodies i k (above tree i n))) (behind (n + 1) m) w e r
      (refused_run m (n + 1) w e (omega arith) (force_next tree w i k n ∙ ap (λ (q : Result (Force Interval) NumFault). q >>= λ f. leave tree.bodies w (above tree i n) f) r))

  last_run : (w : View) (f : Force Interval) → force tree w i k (length tree.bodies) ≡ Ok f → run (naming tree) (carried i k ∷ []) w ≡ Ok w
  unfolding carried_rule
  last_run w f r = ap (λ (q : Result (Force Interval) NumFault). named_as (one K.H i) (q >>= λ f. Ok tt) >>= λ x. Ok w) r

  up_step : ℕ → Way → Result Way NumFault
  up_step j s = way_step tree.bodies i k (above tree i j) s

  work_of : Way → Result View NumFault
  work_of s = Ok s.work

  -- the steps upward from a body are a run over the names of the pairs that are met
  abbrev GoesAlong : ℕ → ℕ → Type 0
  GoesAlong m n =
      (w : View) (f : Force Interval) → force tree w i k n ≡ Ok f
      → named_as (one K.H i) (sweep up_step (counting_up n m) (record { force = f; work = w }) >>= work_of) ≡ run (naming tree) (behind n m) w

  -- after the entries of the body n steps above
  on_leave : (m n : ℕ) (w : View) (f : Force Interval) → n + 1 + m ≡ length tree.bodies → GoesAlong m (n + 1) → force tree w i k n ≡ Ok f
      → (p : Result (Force Interval) NumFault) → leave tree.bodies w (above tree i n) f ≡ p
      → named_as (one K.H i) ((goes_on p w >>= λ t. sweep up_step (counting_up (n + 1) m) t) >>= work_of) ≡ run (naming tree) (behind (n + 1) m) w
  on_leave m n w f h later r (Ok g) e = later w g (force_next tree w i k n ∙ ap (λ (q : Result (Force Interval) NumFault). q >>= λ g. leave tree.bodies w (above tree i n) g) r ∙ e)
  on_leave m n w f h later r (Err d) e =
      sym (refused_run m (n + 1) w d h (force_next tree w i k n ∙ ap (λ (q : Result (Force Interval) NumFault). q >>= λ g. leave tree.bodies w (above tree i n) g) r ∙ e))

  on_body : (m n : ℕ) (w : View) (f : Force Interval) → n + 1 + m ≡ length tree.bodies → GoesAlong m (n + 1) → force tree w i k n ≡ Ok f
      → (q : Result View NumFault) → entries_on tree.bodies i k (above tree i n) f w ≡ q
      → named_as (one K.H i) (((q >>= λ t. goes_on (leave tree.bodies t (above tree i n) f) t) >>= λ t. sweep up_step (counting_up (n + 1) m) t) >>= work_of)
      ≡ (named_as (one K.H i) q >>= λ t. run (naming tree) (behind (n + 1) m) t)
  on_body m n w f h later r (Err d) e = refl
  on_body m n w f h later r (Ok t) e =
      let keep = entries_keep (above tree i n) (first_full tree.bodies i + k) f (upward 0 (met_columns tree.bodies i k (above tree i n))) w t e in
      let same : force tree t i k n ≡ force tree w i k n =
      force_same tree t w i k n (ap (λ xs. slice_index_or xs i zero_inertia) keep.0) (λ j has. ap (λ xs. slice_index_or xs j zero_place) keep.1) in
      on_leave m n t f h later (same ∙ r) (leave tree.bodies t (above tree i n) f) refl

  way_run : (m n : ℕ) → n + m ≡ length tree.bodies → GoesAlong m n
  unfolding behind up_step work_of way_step
  way_run zero n h w f r = let same : n ≡ length tree.bodies = omega arith in sym (last_run w f (ap (force tree w i k) (sym same) ∙ r))
  way_run (suc m) n h w f r =
      on_body m n w f (omega arith) (way_run m (n + 1) (omega arith)) r (entries_on tree.bodies i k (above tree i n) f w) refl
      ∙ ap (λ q. q >>= λ t. run (naming tree) (behind (n + 1) m) t) (entries_run n f (upward 0 (met_columns tree.bodies i k (above tree i n))) w r)
      ∙ sym (run_append (naming tree) (entries_met tree i k n) (behind (n + 1) m) w)
      ∙ sym (ap (λ ns. run (naming tree) ns w) (append_assoc (entries_met tree i k n) (flat_map (entries_met tree i k) (counting_up (n + 1) m)) (carried i k ∷ [])))

  module _ (kept : AreBodies tree.bodies) (has : HasBody tree i) where
    at_world : (s : Way) → way_step tree.bodies i k 0 s ≡ Ok s
    unfolding way_step leave
    at_world s =
        let low = has.from in
        let none : upward 0 (met_columns tree.bodies i k 0) ≡ [] = upward_done 0 (met_columns tree.bodies i k 0) (omega (arith, none_met tree kept i k low)) in
        ap (λ ls. sweep (entry_step tree.bodies (first_full tree.bodies i + k) 0 s.force) ls s.work >>= λ w. goes_on (leave tree.bodies w 0 s.force) w) none

    start_run : (w : View) (p : Result (Force Interval) NumFault) → times intervals (I_at w i) (any_column (joint_at tree.bodies i) k) ≡ p
        → named_as (one K.H i) (p >>= λ f. way_from tree.bodies i k w f) ≡ run (naming tree) (column_names tree i k) w
    unfolding force behind up_step work_of upward
    start_run w (Err d) e =
        let all : length tree.bodies ≡ length tree.bodies - 0 = omega arith in
        sym (refused_run (length tree.bodies) 0 w d (omega arith) e) ∙ ap (λ m. run (naming tree) (behind 0 m) w) all
    start_run w (Ok f) e =
        let all : length tree.bodies ≡ length tree.bodies - 0 = omega arith in
        let s : Way = record { force = f; work = w } in
        ap (λ q. named_as (one K.H i) (q >>= work_of)) (sym (walk tree kept (way_step tree.bodies i k) at_world i has.from s has.to))
        ∙ ap (λ m. named_as (one K.H i) (sweep up_step (counting_up 0 m) s >>= work_of)) (sym all)
        ∙ way_run (length tree.bodies) 0 (omega arith) w f e
        ∙ ap (λ m. run (naming tree) (behind 0 m) w) all

    column_run : (w : View) → column_step tree i k w ≡ run (naming tree) (column_names tree i k) w
    unfolding column_step column_walk
    column_run w = start_run w (times intervals (I_at w i) (any_column (joint_at tree.bodies i) k)) refl

-- ---- over the bodies and the columns
module _ (tree : Tree) (kept : AreBodies tree.bodies) where
  none_behind : (i : ℕ) → length tree.bodies < i → full_at tree.bodies i ≡ 0
  none_behind zero h = refl
  none_behind (suc k) h = ap (λ (o : Option Body). option_map_or full_columns o 0) (none_past tree.bodies k (omega arith))

  joint_run : (i : ℕ) (w : View) → 1 ≤ i → joint_step tree i w ≡ run (naming tree) (joint_names tree i) w
  unfolding joint_step
  joint_run i w low =
      elim (cases_lt (length tree.bodies) i) [
        | inl l ↦
            let none = none_behind i l in
            sweep_done (column_step tree i) 0 (full_at tree.bodies i) w (omega (arith, none))
            ∙ sym (ap (λ ks. run (naming tree) (flat_map (column_names tree i) ks) w) (upward_done 0 (full_at tree.bodies i) (omega (arith, none))))
        | inr g ↦
            run_upward (naming tree) (column_step tree i) (column_names tree i) 0 (full_at tree.bodies i)
            (λ k s from. column_run tree i k kept (record { from = low; to = g }) s) w
      ]

  pair_run : (c d : ℕ) (w : View) → pair_step tree c d w ≡ run (naming tree) (if is_on (ups_of tree) d c then mass c d ∷ [] else []) w
  unfolding pair_step
  pair_run c d w = go (is_on (ups_of tree) d c)
    where
      go : (b : Bool) → (if b then (M_rule tree c d w >>= λ x. Ok (put tree (mass c d) x w)) else Ok w) ≡ run (naming tree) (if b then mass c d ∷ [] else []) w
      go true = refl
      go false = refl

  inertias_run : (w : View) → inertias_of tree w ≡ run (naming tree) (inertia_order tree) w
  unfolding inertia_step
  inertias_run w = run_downward (naming tree) (inertia_step tree) (λ i. inertia i ∷ []) 1 (length tree.bodies + 1) (λ i s low. refl) w

  masses_run : (w : View) → masses_of tree w ≡ run (naming tree) (mass_order tree) w
  unfolding mass_step
  masses_run w =
      run_upward (naming tree) (mass_step tree) (mass_names tree) 1 (column_count tree.bodies + 1)
      (λ c s low. run_upward (naming tree) (pair_step tree c) (λ d. if is_on (ups_of tree) d c then mass c d ∷ [] else []) c (column_count tree.bodies + 1) (λ d t from. pair_run c d t) s) w

  pub sweeps_run : (w : View) → sweeps_of tree w ≡ run (naming tree) (order tree) w
  sweeps_run w =
      ap (λ r. r >>= λ s. (entries_of tree s >>= λ t. masses_of tree t)) (inertias_run w)
      ∙ then_same (run (naming tree) (inertia_order tree) w) _ _
      (λ s.
      ap (λ r. r >>= λ t. masses_of tree t) (run_upward (naming tree) (joint_step tree) (joint_names tree) 1 (length tree.bodies + 1) (λ i t low. joint_run i t low) s)
      ∙ then_same (run (naming tree) (entry_order tree) s) _ _ masses_run
      ∙ sym (run_append (naming tree) (entry_order tree) (mass_order tree) s))
      ∙ sym (run_append (naming tree) (inertia_order tree) (entry_order tree ++ mass_order tree) w)
