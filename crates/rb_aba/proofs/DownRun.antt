-- The sweep from the root on is a run over the names of the bodies, in a work of the right sizes.
use Rattle.std.proofs.Common.{◌≡◌, ℕ, zero, suc, ◌+◌, ◌-◌, ◌*◌, ◌<◌, List, [], ◌∷◌, ◌++◌, length, flat_map, Result, Ok, Err, refl, ap, sym, ◌∙◌, subst, arith}
use Rattle.rb_result.specs.Steps.{◌>>=◌}
use Rattle.rb_result.proofs.Results.{then-ok, told-ok, same_ok, grouped}
use Rattle.rb_num.specs.declared.interval.NumFault.{NumFault}
use Rattle.rb_num.specs.Interval.{Interval}
use Rattle.rb_num.specs.Arith.{intervals, interval_field}
use Rattle.rb_frac.specs.Spatial.{Motion}
use Rattle.rb_work.specs.View.{View, Extent, U_at, D_at, u_at, x_at}
use Rattle.rb_work.specs.Place.{Place, x_of, a_of, look, put}
use Rattle.rb_work.specs.declared.names.RowFault.{RowFault}
use Rattle.rb_work.specs.declared.names.RowFault.TheVariants.{Size}
use Rattle.rb_work.specs.declared.names.NameKind.TheVariants as K
use Rattle.rb_work.specs.Names.{one, named_as}
use Rattle.rb_sweep.specs.Sweep.{sweep, Among, upward, counting_up}
use Rattle.rb_sweep.specs.Naming.{Naming, run}
use Rattle.rb_sweep.proofs.Climbing.{run_append}
use Rattle.rb_sweep.proofs.NamingLaws.{IsOrdered}
use Rattle.rb_sweep.proofs.SweepLaws.{in_upward}
use Rattle.rb_work.proofs.PlaceLaws.{naming, ordered, shape}
use Rattle.rb_work.proofs.Sizes.{sizes_of, sizes_for}
use Rattle.rb_tree.specs.Robot.{Tree, HasBody, HasColumn, AreBodies}
use Rattle.rb_tree.specs.State.{Row}
use Rattle.rb_rnea.specs.Rates.{joint_columns}
use Rattle.rb_rnea.specs.Accelerations.{world_acceleration}
use Rattle.rb_rnea.proofs.RowPass.{HasRoom}
use Rattle.rb_articulated.specs.Rules.{and_multiple, less_power}
use Rattle.rb_aba.specs.Articulated.{HasJointColumn, column_of, axis_at}
use Rattle.rb_aba.specs.Accelerations.{carried_to, moved_by, checked_rate, x_rule, a_rule, body_names, order}
use Rattle.rb_aba.specs.Steps.{Moving, moving, rate_by, rate_step, rates_of, down_step, downs_of}
use Rattle.rb_aba.specs.Forward.{AllLead, rule}
use Rattle.rb_aba.proofs.Bridge.{sweep_up_last, sweep_up_none}
use Rattle.rb_aba.proofs.Chains.{rate_chain, then_same_where, sweep_run}
use Rattle.rb_aba.proofs.RowNames.{has_number, pass, rank, Own, call, moved_reads}
use Rattle.rb_aba.proofs.RowOrder.{at_rate, carried_same, rates_same, is_call}
use Rattle.rb_aba.proofs.RowAnswer.{at_joint}

module _ (tree : Tree) (row : Row) (kept : AreBodies tree.bodies) (lead : AllLead tree) (extent : Extent) (room : HasRoom tree extent) where
  abbrev p : Naming View RowFault
  p = naming (call tree row extent)

  abbrev pub Fits : View → Type 0
  Fits w = sizes_of w ≡ sizes_for extent

  o : IsOrdered (naming (call tree row extent)) (shape (call tree row extent))
  o = ordered (call tree row extent) (is_call tree kept lead row extent room)

  -- a body so far: the work, and the acceleration with the columns before k
  pub record Rated (i k : ℕ) (s : Moving) : Type 0 where
    pub fits : Fits s.0
    pub start : Motion Interval
    pub carried : carried_to tree.bodies i s.0 ≡ Ok start
    pub so_far : sweep (moved_by tree.bodies s.0 i) (upward 0 k) start ≡ Ok s.1

  module _ (i k : ℕ) (col : HasJointColumn tree i k) (s : Moving) (g : Rated i k s) where
    abbrev c : ℕ
    c = column_of tree.bodies i k

    abbrev w : View
    w = s.0

    abbrev axis : Motion Interval
    axis = axis_at tree.bodies i k

    has : HasColumn tree c
    has = has_number tree kept lead i k col

    abbrev with_x : Interval → View
    with_x x = put (x_of c) x w

    rate_rule : rule tree row (x_of c) w ≡ named_as (one K.x c) (checked_rate tree.bodies i k w s.1)
    unfolding x_rule
    rate_rule =
        at_joint tree row kept lead (λ j l. x_rule tree j l w) i k col
        ∙ ap (λ (r : Result (Motion Interval) NumFault). named_as (one K.a i) r >>= λ start. named_as (one K.x c) (sweep (moved_by tree.bodies w i) (upward 0 k) start >>= λ y. checked_rate tree.bodies i k w y)) g.carried
        ∙ ap (λ (r : Result (Motion Interval) NumFault). named_as (one K.x c) (r >>= λ y. checked_rate tree.bodies i k w y)) g.so_far

    pub rate_run : run (naming (call tree row extent)) (x_of (column_of tree.bodies i k) ∷ []) s.0 ≡ (rate_step tree i k s >>= λ t. Ok t.0)
    unfolding rate_by checked_rate
    rate_run =
        ap (λ (r : Result Interval RowFault). r >>= λ x. (let q : Result View RowFault = Ok (with_x x) in q)) rate_rule
        ∙ rate_chain (λ e. Size (one K.x c)) (less_power intervals (u_at w c) s.1 (U_at w c)) (λ r. interval_field.div r (D_at w c)) (λ x. and_multiple intervals s.1 x axis) with_x

    rate_next : (x : Interval) (y : Motion Interval) → and_multiple intervals s.1 x axis ≡ Ok y → Rated i (suc k) (moving (with_x x) y)
    unfolding moved_by
    rate_next x y h =
        let t = with_x x in
        let R = 28 * pass tree + 8 * i + k in
        let stays : (m : Place) → Own tree m → rank tree m < R → look m t ≡ look m w = λ m own l. o.put_other m (x_of c) x w own has g.fits (omega (arith, at_rate tree kept lead i k col)) in
        let rate : x_at t c ≡ x = o.put_same (x_of c) x w has g.fits in
        record {
          fits = o.put_fits (x_of c) x w g.fits;
          start = g.start;
          carried = carried_same tree kept lead t w R stays i col.there (omega arith) ∙ g.carried;
          so_far = sweep_up_last (moved_by tree.bodies t i) k g.start s.1 y
              (moved_reads tree i k t w (rates_same tree kept lead t w R stays i k col.there (omega (arith, col.below)) (omega arith)) g.start ∙ g.so_far)
              (rw rate h);
        }

    pub rate_good : (t : Moving) → rate_step tree i k s ≡ Ok t → Rated i (suc k) t
    unfolding rate_by
    rate_good t e =
        let first = then-ok (named_as (one K.x c) (less_power intervals (u_at w c) s.1 (U_at w c))) _ t e in
        let second = then-ok (named_as (one K.x c) (interval_field.div first.0 (D_at w c))) _ t first.2 in
        let third = then-ok (named_as (one K.x c) (and_multiple intervals s.1 second.0 axis)) _ t second.2 in
        let same : moving (with_x second.0) third.0 ≡ t = same_ok {E = RowFault} (moving (with_x second.0) third.0) t third.2 in
        subst (Rated i (suc k)) same (rate_next second.0 third.0 (told-ok _ _ _ third.1))

  -- ---- all columns of a body
  module _ (i : ℕ) (there : HasBody tree i) where
    abbrev n : ℕ
    n = joint_columns tree.bodies i

    abbrev name : ℕ → List Place
    name k = x_of (column_of tree.bodies i k) ∷ []

    abbrev names_of : ℕ → ℕ → List Place
    names_of lo j = flat_map name (counting_up lo j)

    abbrev steps_of : ℕ → ℕ → Moving → Result Moving RowFault
    steps_of lo j s = sweep (rate_step tree i) (counting_up lo j) s

    rates_run : (j lo : ℕ) → lo + j ≡ n → (s : Moving) → Rated i lo s → run p (names_of lo j) s.0 ≡ (steps_of lo j s >>= λ t. Ok t.0)
    rates_run zero lo e s g = refl
    rates_run (suc j) lo e s g =
        let col : HasJointColumn tree i lo = record { there = there; below = omega (arith, e) } in
        let up : suc lo ≡ lo + 1 = omega arith in
        run_append p (name lo) (names_of (lo + 1) j) s.0
        ∙ ap (λ (r : Result View RowFault). r >>= λ t. run p (names_of (lo + 1) j) t) (rate_run i lo col s g)
        ∙ grouped (rate_step tree i lo s) (λ t. (let q : Result View RowFault = Ok t.0 in q)) (λ t. run p (names_of (lo + 1) j) t)
        ∙ then_same_where (rate_step tree i lo s) _ _
        (λ t f. rates_run j (lo + 1) (omega (arith, e)) t (subst (λ (k : ℕ). Rated i k t) up (rate_good i lo col s g t f)))
        ∙ sym (grouped (rate_step tree i lo s) (λ t. steps_of (lo + 1) j t) (λ t. (let q : Result View RowFault = Ok t.0 in q)))

    rates_good : (j lo : ℕ) → lo + j ≡ n → (s t : Moving) → Rated i lo s → steps_of lo j s ≡ Ok t → Rated i n t
    rates_good zero lo e s t g h = subst (λ (k : ℕ). Rated i k t) (omega (arith, e)) (subst (Rated i lo) (same_ok {E = RowFault} s t h) g)
    rates_good (suc j) lo e s t g h =
        let col : HasJointColumn tree i lo = record { there = there; below = omega (arith, e) } in
        let up : suc lo ≡ lo + 1 = omega arith in
        let first = then-ok (rate_step tree i lo s) (λ q. steps_of (lo + 1) j q) t h in
        rates_good j (lo + 1) (omega (arith, e)) first.0 t (subst (λ (k : ℕ). Rated i k first.0) up (rate_good i lo col s g first.0 first.1)) first.2

  -- ---- a body
  last_run : (j : ℕ) → HasBody tree (suc j) → (t : Moving) → Rated (suc j) (joint_columns tree.bodies (suc j)) t
      → (let q : Result View RowFault = Ok (put (a_of (suc j)) t.1 t.0) in q) ≡ run (naming (call tree row extent)) (a_of (suc j) ∷ []) t.0
  unfolding a_rule
  last_run j there t g =
      let i = suc j in
      let n = joint_columns tree.bodies (suc j) in
      let found = λ (r : Result (Motion Interval) NumFault). named_as (one K.a (suc j)) (r >>= λ start. sweep (moved_by tree.bodies t.0 (suc j)) (upward 0 n) start) in
      sym (ap (λ (r : Result (Motion Interval) NumFault). found r >>= λ a. (let q : Result View RowFault = Ok (put (a_of (suc j)) a t.0) in q)) g.carried
      ∙ ap (λ (r : Result (Motion Interval) NumFault). named_as (one K.a (suc j)) r >>= λ a. (let q : Result View RowFault = Ok (put (a_of (suc j)) a t.0) in q)) g.so_far)

  started : (j : ℕ) → HasBody tree (suc j) → (w : View) → Fits w → (start : Motion Interval) → carried_to tree.bodies (suc j) w ≡ Ok start
      → (rates_of tree (suc j) (moving w start) >>= λ s. (let q : Result View RowFault = Ok (put (a_of (suc j)) s.1 s.0) in q)) ≡ run (naming (call tree row extent)) (body_names tree (suc j)) w
  unfolding upward
  started j there w f start h =
      let i = suc j in
      let n = joint_columns tree.bodies (suc j) in
      let e : n ≡ n - 0 = omega arith in
      let s = moving w start in
      let g : Rated (suc j) 0 (moving w start) = record { fits = f; start = start; carried = h; so_far = sweep_up_none (moved_by tree.bodies w (suc j)) start } in
      let last = a_of (suc j) ∷ [] in
      subst (λ (m : ℕ). (steps_of (suc j) there 0 m (moving w start) >>= λ s. (let q : Result View RowFault = Ok (put (a_of (suc j)) s.1 s.0) in q)) ≡ run p (names_of (suc j) there 0 m ++ (a_of (suc j) ∷ [])) w) e
      (sym (run_append p (names_of (suc j) there 0 n) (a_of (suc j) ∷ []) w
      ∙ ap (λ (r : Result View RowFault). r >>= λ t. run p (a_of (suc j) ∷ []) t) (rates_run (suc j) there n 0 (omega arith) (moving w start) g)
      ∙ grouped (steps_of (suc j) there 0 n (moving w start)) (λ t. (let q : Result View RowFault = Ok t.0 in q)) (λ t. run p (a_of (suc j) ∷ []) t)
      ∙ then_same_where (steps_of (suc j) there 0 n (moving w start)) _ _ (λ t k. sym (last_run j there t (rates_good (suc j) there n 0 (omega arith) (moving w start) t g k)))))

  -- where the parent's acceleration cannot be carried to the body, the first of its names is refused so
  refused : (j : ℕ) → HasBody tree (suc j) → (w : View) (e : NumFault) → carried_to tree.bodies (suc j) w ≡ Err e
      → (let q : Result View RowFault = Err (Size (one K.a (suc j))) in q) ≡ run (naming (call tree row extent)) (body_names tree (suc j)) w
  unfolding upward a_rule x_rule
  refused j there w e h = subst (λ (m : ℕ). (let q : Result View RowFault = Err (Size (one K.a (suc j))) in q) ≡ run p (names_of (suc j) there 0 m ++ (a_of (suc j) ∷ [])) w) (omega arith) (go n refl)
    where
      n : ℕ
      n = joint_columns tree.bodies (suc j)

      go : (m : ℕ) → m ≡ joint_columns tree.bodies (suc j) → (let q : Result View RowFault = Err (Size (one K.a (suc j))) in q) ≡ run p (names_of (suc j) there 0 m ++ (a_of (suc j) ∷ [])) w
      go zero f =
          sym (ap (λ (r : Result (Motion Interval) NumFault). named_as (one K.a (suc j)) (r >>= λ start. sweep (moved_by tree.bodies w (suc j)) (upward 0 (joint_columns tree.bodies (suc j))) start) >>= λ a.
          (let q : Result View RowFault = Ok (put (a_of (suc j)) a w) in q)) h)
      go (suc k) f =
          let col : HasJointColumn tree (suc j) 0 = record { there = there; below = omega (arith, f) } in
          let c = column_of tree.bodies (suc j) 0 in
          let rest = names_of (suc j) there (0 + 1) k ++ (a_of (suc j) ∷ []) in
          sym (ap (λ (r : Result Interval RowFault). r >>= λ x. run p rest (put (x_of c) x w))
          (at_joint tree row kept lead (λ i l. x_rule tree i l w) (suc j) 0 col
          ∙ ap (λ (r : Result (Motion Interval) NumFault). named_as (one K.a (suc j)) r >>= λ start.
          named_as (one K.x c) (sweep (moved_by tree.bodies w (suc j)) (upward 0 0) start >>= λ y. checked_rate tree.bodies (suc j) 0 w y)) h))

  down_run : (j : ℕ) → HasBody tree (suc j) → (w : View) → Fits w → down_step tree (suc j) w ≡ run (naming (call tree row extent)) (body_names tree (suc j)) w
  unfolding down_step
  down_run j there w f = go (carried_to tree.bodies (suc j) w) refl
    where
      go : (r : Result (Motion Interval) NumFault) → carried_to tree.bodies (suc j) w ≡ r
          → (named_as (one K.a (suc j)) r >>= λ start. rates_of tree (suc j) (moving w start) >>= λ s. (let q : Result View RowFault = Ok (put (a_of (suc j)) s.1 s.0) in q))
          ≡ run (naming (call tree row extent)) (body_names tree (suc j)) w
      go (Ok start) e = started j there w f start e
      go (Err x) e = refused j there w x e

  pub downs_run : (w : View) → Fits w → downs_of tree row w ≡ run (naming (call tree row extent)) (order tree) w
  downs_run w f =
      sweep_run p Fits (λ n x s g. o.put_fits n x s g) (down_step tree) (body_names tree) (upward 1 (length tree.bodies + 1)) each
      (put (a_of 0) (world_acceleration row) w) (o.put_fits (a_of 0) (world_acceleration row) w f)
    where
      each : (i : ℕ) (s : View) → Among i (upward 1 (length tree.bodies + 1)) → Fits s → down_step tree i s ≡ run p (body_names tree i) s
      each zero s k g = let range = in_upward 1 (length tree.bodies + 1) zero k in absurd (omega (arith, range.0))
      each (suc j) s k g = let range = in_upward 1 (length tree.bodies + 1) (suc j) k in down_run j (record { from = omega arith; to = omega (arith, range.1) }) s g
