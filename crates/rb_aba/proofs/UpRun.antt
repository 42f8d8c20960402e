-- The sweep from the leaves to the root is a run over the names of the bodies, in a work of the right sizes.
use Rattle.std.proofs.Common.{◌≡◌, ℕ, zero, suc, ◌+◌, ◌-◌, ◌<◌, ◌≤◌, List, [], ◌∷◌, ◌++◌, length, flat_map, Result, Ok, refl, ap, sym, ◌∙◌, subst, arith}
use Rattle.rb_result.specs.Steps.{◌>>=◌}
use Rattle.rb_result.proofs.Results.{then-ok, told-ok, same_ok, grouped}
use Rattle.rb_num.specs.declared.interval.NumFault.{NumFault}
use Rattle.rb_num.specs.Interval.{Interval}
use Rattle.rb_num.specs.Arith.{intervals}
use Rattle.rb_frac.specs.Spatial.{Motion, Force, Inertia}
use Rattle.rb_spatial.specs.Motions.{power}
use Rattle.rb_spatial.specs.Inertias.{times}
use Rattle.rb_work.specs.View.{View, Extent, c_at, IA_at, p_at, U_at, D_at, u_at}
use Rattle.rb_work.specs.Place.{Place, c_of, IA_of, p_of, U_of, packed_of, u_of, Ia_of, pa_of, look, put}
use Rattle.rb_work.specs.declared.names.RowFault.{RowFault}
use Rattle.rb_work.specs.declared.names.RowFault.TheVariants.{Size}
use Rattle.rb_work.specs.declared.names.NameKind.TheVariants as K
use Rattle.rb_work.specs.Names.{one, named_as, pivot_as}
use Rattle.rb_sweep.specs.Sweep.{sweep, downward, counting_down}
use Rattle.rb_sweep.specs.Naming.{Naming, run}
use Rattle.rb_sweep.proofs.Climbing.{then_same, run_append}
use Rattle.rb_sweep.proofs.NamingLaws.{IsOrdered}
use Rattle.rb_sweep.proofs.SweepLaws.{in_downward}
use Rattle.rb_work.proofs.PlaceLaws.{naming, ordered, shape}
use Rattle.rb_work.proofs.Sizes.{sizes_of, sizes_for}
use Rattle.rb_tree.specs.Robot.{Tree, HasBody, HasColumn, AreBodies}
use Rattle.rb_tree.specs.State.{Row}
use Rattle.rb_rnea.specs.Rates.{joint_columns}
use Rattle.rb_rnea.specs.Accelerations.{c_rule}
use Rattle.rb_rnea.proofs.RowPass.{HasRoom}
use Rattle.rb_articulated.specs.Rules.{less_power}
use Rattle.rb_aba.specs.Articulated.{HasJointColumn, column_of, axis_at, torque_at, Rest, give_way, passed_at, rest_from, U_rule, D_rule, checked_rest, u_rule, IA_rule, p_rule, Ia_rule, handed_with, pa_rule, column_names, body_names, order}
use Rattle.rb_aba.specs.Steps.{Giving, giving, column_by, column_step, columns_of}
use Rattle.rb_aba.proofs.FirstSteps.{first_found, handed_found, up_found, ups_found}
use Rattle.rb_aba.specs.Forward.{AllLead, rule}
use Rattle.rb_aba.proofs.Bridge.{sweep_down_last, sweep_down_none}
use Rattle.rb_aba.proofs.Chains.{column_chain, then_same_where, three_chain, sweep_run}
use Rattle.rb_aba.proofs.RowNames.{has_number, up_rank, column_rank, rank, Own, call}
use Rattle.rb_aba.proofs.RowOrder.{at_column, low_column, rest_same, is_call}
use Rattle.rb_aba.proofs.RowAnswer.{at_joint}

module _ (tree : Tree) (row : Row) (kept : AreBodies tree.bodies) (lead : AllLead tree) (extent : Extent) (room : HasRoom tree extent) where
  abbrev p : Naming View RowFault
  p = naming (call tree row extent)

  abbrev pub Fits : View → Type 0
  Fits w = sizes_of w ≡ sizes_for extent

  o : IsOrdered (naming (call tree row extent)) (shape (call tree row extent))
  o = ordered (call tree row extent) (is_call tree kept lead row extent room)

  -- a body so far: the work, and what is left once its columns from k on have given way
  pub record Good (i k : ℕ) (s : Giving) : Type 0 where
    pub fits : Fits s.0
    pub rest : rest_from tree.bodies i k s.0 ≡ Ok s.1

  module _ (i k : ℕ) (col : HasJointColumn tree i k) (s : Giving) (g : Good i (suc k) s) where
    abbrev c : ℕ
    c = column_of tree.bodies i k

    abbrev w : View
    w = s.0

    abbrev axis : Motion Interval
    axis = axis_at tree.bodies i k

    abbrev torque : Interval
    torque = torque_at row c

    has : HasColumn tree c
    has = has_number tree kept lead i k col

    abbrev with_U : Force Interval → View
    with_U U = put (U_of c) U w

    abbrev with_D : Force Interval → Interval → View
    with_D U D = put (packed_of c c) D (with_U U)

    abbrev with_u : Force Interval → Interval → Interval → View
    with_u U D u = put (u_of c) u (with_D U D)

    fits_U : (U : Force Interval) → Fits (with_U U)
    fits_U U = o.put_fits (U_of c) U w g.fits

    fits_D : (U : Force Interval) (D : Interval) → Fits (with_D U D)
    fits_D U D = o.put_fits (packed_of c c) D (with_U U) (fits_U U)

    fits_u : (U : Force Interval) (D u : Interval) → Fits (with_u U D u)
    fits_u U D u = o.put_fits (u_of c) u (with_D U D) (fits_D U D)

    -- what stands before the column stays
    kept_D : (U : Force Interval) (D : Interval) (m : Place) → Own tree m → rank tree m < column_rank tree c + 3 → look m (with_D U D) ≡ look m w
    kept_D U D m own l =
        o.put_other m (packed_of c c) D (with_U U) own (has, refl) (fits_U U) (omega arith) ∙ o.put_other m (U_of c) U w own has g.fits (omega arith)

    kept_u : (U : Force Interval) (D u : Interval) (m : Place) → Own tree m → rank tree m < column_rank tree c + 3 → look m (with_u U D u) ≡ look m w
    kept_u U D u m own l = o.put_other m (u_of c) u (with_D U D) own has (fits_D U D) (omega arith) ∙ kept_D U D m own l

    same_rest : (t : View) → ((m : Place) → Own tree m → rank tree m < column_rank tree c + 3 → look m t ≡ look m w) → (n : ℕ) → n ≡ suc k → rest_from tree.bodies i n t ≡ Ok s.1
    same_rest t h n e =
        let at = at_column tree kept lead i k col in
        let last : k ≤ 5 = low_column tree kept lead i k col in
        rest_same tree kept lead t w (column_rank tree c + 3) h i n col.there (omega (arith, at)) (λ l low there. omega (arith, at, low_column tree kept lead i l there))
        ∙ subst (λ (j : ℕ). rest_from tree.bodies i j w ≡ Ok s.1) (sym e) g.rest

    at_U : (U : Force Interval) → U_at (with_U U) c ≡ U
    at_U U = o.put_same (U_of c) U w has g.fits

    at_U' : (U : Force Interval) (D : Interval) → U_at (with_D U D) c ≡ U
    at_U' U D = o.put_other (U_of c) (packed_of c c) D (with_U U) has (has, refl) (fits_U U) (omega arith) ∙ at_U U

    at_D : (U : Force Interval) (D : Interval) → D_at (with_D U D) c ≡ D
    at_D U D = o.put_same (packed_of c c) D (with_U U) (has, refl) (fits_U U)

    -- ---- the rules of the column's names
    force_rule : rule tree row (U_of c) w ≡ named_as (one K.U c) (times intervals s.1.0 axis)
    unfolding U_rule
    force_rule =
        let e : k + 1 ≡ suc k = omega arith in
        at_joint tree row kept lead (λ j l. U_rule tree j l w) i k col
        ∙ ap (λ (r : Result Rest NumFault). named_as (one K.U c) (r >>= λ rest. times intervals rest.0 axis)) (subst (λ (j : ℕ). rest_from tree.bodies i j w ≡ Ok s.1) (sym e) g.rest)

    pivot_rule : (U : Force Interval) → rule tree row (packed_of c c) (with_U U) ≡ (named_as (one K.D c) (power intervals axis U) >>= λ P. pivot_as (one K.D c) P)
    unfolding D_rule
    pivot_rule U =
        at_joint tree row kept lead (λ j l. D_rule tree j l (with_U U)) i k col
        ∙ ap (λ (x : Force Interval). named_as (one K.D c) (power intervals axis x) >>= λ P. pivot_as (one K.D c) P) (at_U U)

    left_rule : (U : Force Interval) (D : Interval)
        → rule tree row (u_of c) (with_D U D) ≡ named_as (one K.u c) (less_power intervals torque axis s.1.1 >>= λ u. give_way U D u s.1 >>= λ r. Ok u)
    unfolding u_rule checked_rest
    left_rule U D =
        let rest : rest_from tree.bodies i (k + 1) (with_D U D) ≡ Ok s.1 = same_rest (with_D U D) (kept_D U D) (k + 1) (omega arith) in
        let force : U_at (with_D U D) c ≡ U = at_U' U D in
        let pivot : D_at (with_D U D) c ≡ D = at_D U D in
        at_joint tree row kept lead (λ j l. u_rule tree row j l (with_D U D)) i k col
        ∙ rw (rest, force, pivot) refl

    pub column_run : run (naming (call tree row extent)) (column_names tree i k) s.0 ≡ (column_step tree row i k s >>= λ t. Ok t.0)
    unfolding column_by
    column_run =
        ap (λ (r : Result (Force Interval) RowFault). r >>= λ U. run p (packed_of c c ∷ u_of c ∷ []) (with_U U)) force_rule
        ∙ then_same (named_as (one K.U c) (times intervals s.1.0 axis)) _ _
        (λ U. ap (λ (r : Result Interval RowFault). r >>= λ D. run p (u_of c ∷ []) (with_D U D)) (pivot_rule U)
        ∙ then_same (named_as (one K.D c) (power intervals axis U) >>= λ P. pivot_as (one K.D c) P) _ _
        (λ D. ap (λ (r : Result Interval RowFault). r >>= λ u. (let q : Result View RowFault = Ok (with_u U D u) in q)) (left_rule U D)))
        ∙ column_chain (λ e. Size (one K.u c)) (less_power intervals torque axis s.1.1) (λ U D u. give_way U D u s.1) with_u
        (named_as (one K.U c) (times intervals s.1.0 axis)) (λ U. named_as (one K.D c) (power intervals axis U)) (λ P. pivot_as (one K.D c) P)

    rest_next : (U : Force Interval) (D u : Interval) (next : Rest) → give_way U D u s.1 ≡ Ok next → rest_from tree.bodies i k (with_u U D u) ≡ Ok next
    unfolding rest_from passed_at
    rest_next U D u next h =
        let t = with_u U D u in
        let force : U_at t c ≡ U = o.put_other (U_of c) (u_of c) u (with_D U D) has has (fits_D U D) (omega arith) ∙ at_U' U D in
        let pivot : D_at t c ≡ D = o.put_other (packed_of c c) (u_of c) u (with_D U D) (has, refl) has (fits_D U D) (omega arith) ∙ at_D U D in
        let left : u_at t c ≡ u = o.put_same (u_of c) u (with_D U D) has (fits_D U D) in
        sweep_down_last (passed_at tree.bodies t i) k (joint_columns tree.bodies i) (IA_at t i, p_at t i) s.1 next col.below
        (same_rest t (kept_u U D u) (suc k) refl) (rw (force, pivot, left) h)

    pub column_good : (t : Giving) → column_step tree row i k s ≡ Ok t → Good i k t
    unfolding column_by
    column_good t e =
        let first = then-ok (named_as (one K.U c) (times intervals s.1.0 axis)) _ t e in
        let second = then-ok (named_as (one K.D c) (power intervals axis first.0)) _ t first.2 in
        let third = then-ok (pivot_as (one K.D c) second.0) _ t second.2 in
        let fourth = then-ok (named_as (one K.u c) (less_power intervals torque axis s.1.1)) _ t third.2 in
        let fifth = then-ok (named_as (one K.u c) (give_way first.0 third.0 fourth.0 s.1)) _ t fourth.2 in
        let same : giving (with_u first.0 third.0 fourth.0) fifth.0 ≡ t = same_ok {E = RowFault} (giving (with_u first.0 third.0 fourth.0) fifth.0) t fifth.2 in
        let good : Good i k (giving (with_u first.0 third.0 fourth.0) fifth.0) =
        record { fits = fits_u first.0 third.0 fourth.0; rest = rest_next first.0 third.0 fourth.0 fifth.0 (told-ok _ _ _ fifth.1) } in
        subst (Good i k) same good

  -- ---- all columns of a body
  module _ (i : ℕ) (there : HasBody tree i) where
    abbrev names_of : ℕ → List Place
    names_of m = flat_map (column_names tree i) (counting_down 0 m)

    abbrev steps_of : ℕ → Giving → Result Giving RowFault
    steps_of m s = sweep (column_step tree row i) (counting_down 0 m) s

    pub columns_run : (m : ℕ) → m ≤ joint_columns tree.bodies i → (s : Giving) → Good i m s
        → run (naming (call tree row extent)) (flat_map (column_names tree i) (counting_down 0 m)) s.0 ≡ (sweep (column_step tree row i) (counting_down 0 m) s >>= λ t. Ok t.0)
    columns_run zero l s g = refl
    columns_run (suc k) l s g =
        let col : HasJointColumn tree i k = record { there = there; below = omega arith } in
        let e : k ≡ 0 + k = omega arith in
        subst (λ (a : ℕ). run p (column_names tree i a ++ names_of k) s.0 ≡ ((column_step tree row i a s >>= λ t. steps_of k t) >>= λ t. Ok t.0)) e
        (run_append p (column_names tree i k) (names_of k) s.0
        ∙ ap (λ (r : Result View RowFault). r >>= λ t. run p (names_of k) t) (column_run i k col s g)
        ∙ grouped (column_step tree row i k s) (λ t. (let q : Result View RowFault = Ok t.0 in q)) (λ t. run p (names_of k) t)
        ∙ then_same_where (column_step tree row i k s) _ _ (λ t f. columns_run k (omega arith) t (column_good i k col s g t f))
        ∙ sym (grouped (column_step tree row i k s) (λ t. steps_of k t) (λ t. (let q : Result View RowFault = Ok t.0 in q))))

    pub columns_good : (m : ℕ) → m ≤ joint_columns tree.bodies i → (s t : Giving) → Good i m s → sweep (column_step tree row i) (counting_down 0 m) s ≡ Ok t → Good i 0 t
    columns_good zero l s t g e = subst (Good i 0) (same_ok {E = RowFault} s t e) g
    columns_good (suc k) l s t g e =
        let col : HasJointColumn tree i k = record { there = there; below = omega arith } in
        let same : 0 + k ≡ k = omega arith in
        let h = then-ok (column_step tree row i (0 + k) s) (λ q. steps_of k q) t e in
        columns_good k (omega arith) h.0 t (column_good i k col s g h.0 (subst (λ (a : ℕ). column_step tree row i a s ≡ Ok h.0) same h.1)) h.2

    -- ---- the body's other names
    abbrev ends : List Place
    ends = Ia_of i ∷ pa_of i ∷ []

    ends_run : (t : Giving) → Good i 0 t → handed_found i t ≡ run p ends t.0
    unfolding handed_found Ia_rule pa_rule
    ends_run t g =
        let w4 = put (Ia_of i) t.1.0 t.0 in
        let low : (m : Place) → Own tree m → rank tree m < up_rank tree i + 21 → look m w4 ≡ look m t.0 =
        λ m own l. o.put_other m (Ia_of i) t.1.0 t.0 own there g.fits l in
        let rest : rest_from tree.bodies i 0 w4 ≡ Ok t.1 =
        rest_same tree kept lead w4 t.0 (up_rank tree i + 21) low i 0 there (omega arith) (λ l from col. omega (arith, low_column tree kept lead i l col)) ∙ g.rest in
        let handed = λ (r : Result Rest NumFault). named_as (one K.pa i) (r >>= λ x. handed_with x (c_at w4 i)) in
        let inertia = λ (r : Result Rest NumFault). named_as (one K.Ia i) (r >>= λ x. (let q : Result (Inertia Interval) NumFault = Ok x.0 in q)) in
        sym (ap (λ (r : Result Rest NumFault). inertia r >>= λ x. run p (pa_of i ∷ []) (put (Ia_of i) x t.0)) g.rest
        ∙ ap (λ (r : Result Rest NumFault). handed r >>= λ x. (let q : Result View RowFault = Ok (put (pa_of i) x w4) in q)) rest)

    behind_first : (s : Giving) → Good i (joint_columns tree.bodies i) s
        → (columns_of tree row i s >>= λ t. handed_found i t) ≡ run p (flat_map (column_names tree i) (downward 0 (joint_columns tree.bodies i)) ++ ends) s.0
    unfolding downward
    behind_first s g =
        let n = joint_columns tree.bodies i in
        let e : n ≡ n - 0 = omega arith in
        subst (λ (m : ℕ). (steps_of m s >>= λ t. handed_found i t) ≡ run p (names_of m ++ ends) s.0) e
        (sym (run_append p (names_of n) ends s.0
        ∙ ap (λ (r : Result View RowFault). r >>= λ t. run p ends t) (columns_run n (omega arith) s g)
        ∙ grouped (steps_of n s) (λ t. (let q : Result View RowFault = Ok t.0 in q)) (λ t. run p ends t)
        ∙ then_same_where (steps_of n s) _ _ (λ t f. sym (ends_run t (columns_good n (omega arith) s t g f)))))

    pub first_rest : (w : View) → Fits w → (c : Motion Interval) (I : Inertia Interval) (P : Force Interval)
        → Good i (joint_columns tree.bodies i) (giving (put (p_of i) P (put (IA_of i) I (put (c_of i) c w))) (I, P))
    unfolding rest_from
    first_rest w f c I P =
        let w1 = put (c_of i) c w in
        let w2 = put (IA_of i) I w1 in
        let w3 = put (p_of i) P w2 in
        let f1 : Fits w1 = o.put_fits (c_of i) c w f in
        let f2 : Fits w2 = o.put_fits (IA_of i) I w1 f1 in
        let inertia : IA_at w3 i ≡ I = o.put_other (IA_of i) (p_of i) P w2 there there f2 (omega arith) ∙ o.put_same (IA_of i) I w1 there f1 in
        let bias : p_at w3 i ≡ P = o.put_same (p_of i) P w2 there f2 in
        record {
          fits = o.put_fits (p_of i) P w2 f2;
          rest = sweep_down_none (passed_at tree.bodies w3 i) (joint_columns tree.bodies i) (IA_at w3 i, p_at w3 i) ∙ rw (inertia, bias) refl;
        }

    pub up_run : (w : View) → Fits w → up_found tree row i w ≡ run (naming (call tree row extent)) (body_names tree i) w
    unfolding up_found first_found
    up_run w f =
        three_chain (λ c. IA_rule tree i (put (c_of i) c w)) (λ c I. p_rule tree i (put (IA_of i) I (put (c_of i) c w)))
        (λ c I P. giving (put (p_of i) P (put (IA_of i) I (put (c_of i) c w))) (I, P)) (λ s. columns_of tree row i s >>= λ t. handed_found i t) (c_rule tree i w)
        ∙ then_same (c_rule tree i w) _ _ (λ c.
        then_same (IA_rule tree i (put (c_of i) c w)) _ _ (λ I.
        then_same (p_rule tree i (put (IA_of i) I (put (c_of i) c w))) _ _ (λ P.
        behind_first (giving (put (p_of i) P (put (IA_of i) I (put (c_of i) c w))) (I, P)) (first_good c I P))))
      where
        first_good : (c : Motion Interval) (I : Inertia Interval) (P : Force Interval)
            → Good i (joint_columns tree.bodies i) (giving (put (p_of i) P (put (IA_of i) I (put (c_of i) c w))) (I, P))
        first_good c I P = first_rest w f c I P

  pub ups_run : (w : View) → Fits w → ups_found tree row w ≡ run (naming (call tree row extent)) (order tree) w
  ups_run w f =
      sweep_run p Fits (λ n x s g. o.put_fits n x s g) (up_found tree row) (body_names tree) (downward 1 (length tree.bodies + 1))
      (λ i s k g. let there = in_downward 1 (length tree.bodies + 1) i k in up_run i (record { from = there.0; to = omega (arith, there.1) }) s g) w f
