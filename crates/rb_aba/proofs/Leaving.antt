-- The sweeps of the code leave what those do that keep the first IA and p, but in IA and p what is left of each body.
use Rattle.std.proofs.Common.{◌≡◌, ℕ, zero, suc, ◌+◌, ◌-◌, ◌*◌, ◌<◌, ◌≤◌, List, [], ◌∷◌, length, Result, Ok, Err, inl, inr, refl, ap, sym, ◌∙◌, subst, arith}
use Rattle.std.proofs.lemmas.Bool.{cases_lt}
use Rattle.rb_result.specs.Steps.{◌>>=◌}
use Rattle.rb_result.proofs.Results.{then-ok, same_ok}
use Rattle.rb_num.specs.declared.interval.NumFault.{NumFault}
use Rattle.rb_num.specs.Interval.{Interval}
use Rattle.rb_num.specs.Arith.{intervals, interval_field}
use Rattle.rb_frac.specs.Spatial.{Motion, Force, Inertia}
use Rattle.rb_spatial.specs.Motions.{power}
use Rattle.rb_spatial.specs.Inertias.{times}
use Rattle.rb_work.specs.View.{View, Extent, c_at, IA_at, p_at, U_at, D_at, u_at}
use Rattle.rb_work.specs.Place.{Place, c_of, IA_of, p_of, Ia_of, pa_of, x_of, a_of, look, put}
use Rattle.rb_work.specs.declared.names.RowFault.{RowFault}
use Rattle.rb_work.specs.declared.names.NameKind.TheVariants as K
use Rattle.rb_work.specs.Names.{one, named_as, pivot_as}
use Rattle.rb_sweep.specs.Sweep.{sweep, upward, downward, counting_down}
use Rattle.rb_sweep.specs.Naming.{Naming, run}
use Rattle.rb_sweep.proofs.NamingLaws.{IsOrdered}
use Rattle.rb_work.proofs.PlaceLaws.{naming, ordered, shape}
use Rattle.rb_work.proofs.Sizes.{Sizes, sizes_of, sizes_for}
use Rattle.rb_tree.specs.Robot.{Tree, HasBody, AreBodies}
use Rattle.rb_tree.specs.State.{Row}
use Rattle.rb_rnea.specs.Rates.{joint_columns}
use Rattle.rb_rnea.specs.Accelerations.{world_acceleration, c_rule}
use Rattle.rb_rnea.specs.Steps.{speeds_of}
use Rattle.rb_rnea.proofs.RowPass.{HasRoom, c_reads}
use Rattle.rb_articulated.specs.Rules.{and_multiple, less_power}
use Rattle.rb_aba.specs.Articulated.{column_of, axis_at, torque_at, Rest, give_way, rest_from, IA_rule, p_rule, handed_with, body_names}
use Rattle.rb_aba.specs.Accelerations.{carried_to}
use Rattle.rb_aba.specs.Steps.{Giving, giving, column_by, column_step, columns_of, handed_by, first_step, up_step, ups_of, Moving, moving, rate_by, rate_step, rates_of, down_step, downs_of, sweeps_of}
use Rattle.rb_aba.specs.Forward.{AllLead}
use Rattle.rb_aba.proofs.Alike.{Alike, alike_same, alike_then, alike_so, alike_sweep}
use Rattle.rb_aba.proofs.Chains.{run_below, run_fits}
use Rattle.rb_aba.proofs.FirstSteps.{first_found, handed_found, up_found, ups_found, sweeps_found}
use Rattle.rb_aba.proofs.RowNames.{pass, up_rank, rank, Own, call, IA_reads, p_reads, rest_reads}
use Rattle.rb_aba.proofs.RowOrder.{low_column, rest_same, is_call, body_climbs}
use Rattle.rb_aba.proofs.UpRun.{Good, up_run, first_rest, columns_good}

-- these values with other tables of IA and p
abbrev pub with_last : List (Inertia Interval) → List (Force Interval) → View → View
with_last inertias biases w = record w { IA = inertias; p = biases }

-- ---- columns read no IA and no p of the work
module _ (a : List (Inertia Interval)) (b : List (Force Interval)) where
  abbrev pub Given : Giving → Giving → Type 0
  Given s t = t ≡ giving (with_last a b s.0) s.1

  column_alike : (c : ℕ) (axis : Motion Interval) (torque : Interval) (s t : Giving) → Given s t → Alike Given (column_by c axis torque s) (column_by c axis torque t)
  unfolding column_by
  column_alike c axis torque s t h =
      rw h
      (alike_same Given (named_as (one K.U c) (times intervals s.1.0 axis)) _ _ (λ U eU.
      alike_same Given (named_as (one K.D c) (power intervals axis U)) _ _ (λ P eP.
      alike_same Given (pivot_as (one K.D c) P) _ _ (λ D eD.
      alike_same Given (named_as (one K.u c) (less_power intervals torque axis s.1.1)) _ _ (λ u eu.
      alike_same Given (named_as (one K.u c) (give_way U D u s.1)) _ _ (λ rest e. refl))))))

  pub columns_alike : (tree : Tree) (row : Row) (i : ℕ) (s t : Giving) → Given s t → Alike Given (columns_of tree row i s) (columns_of tree row i t)
  columns_alike tree row i s t h =
      alike_sweep Given (column_step tree row i) (column_step tree row i)
      (λ k u v g. column_alike (column_of tree.bodies i k) (axis_at tree.bodies i k) (torque_at row (column_of tree.bodies i k)) u v g) (downward 0 (joint_columns tree.bodies i)) s t h

  pub first_alike : (tree : Tree) (i : ℕ) (w : View) → Alike Given (first_found tree i w) (first_step tree i (with_last a b w))
  unfolding first_found first_step
  first_alike tree i w =
      let v = with_last a b w in
      let same : c_rule tree i v ≡ c_rule tree i w = c_reads tree i v w refl refl in
      rw same
      (alike_same Given (c_rule tree i w) _ _ (λ c e.
      let w1 = put (c_of i) c w in
      let v1 = put (c_of i) c v in
      let inertia : IA_rule tree i v1 ≡ IA_rule tree i w1 = IA_reads tree i v1 w1 (λ j l k. refl) (λ j l k. refl) in
      rw inertia
      (alike_same Given (IA_rule tree i w1) _ _ (λ I f.
      let w2 = put (IA_of i) I w1 in
      let bias : p_rule tree i v1 ≡ p_rule tree i w2 = p_reads tree i v1 w2 refl (λ j l k. refl) (λ j l k. refl) in
      rw bias
      (alike_same Given (p_rule tree i w2) _ _ (λ P g. refl))))))

-- ---- a body
-- what the code leaves of body i: the rest, in the places of IA and p
abbrev left_in : ℕ → Rest → View → View → View
left_in i rest w v = with_last (put (IA_of i) rest.0 w).IA (put (p_of i) rest.1 w).p v

module _ (tree : Tree) (row : Row) (kept : AreBodies tree.bodies) (lead : AllLead tree) (extent : Extent) (room : HasRoom tree extent) where
  abbrev p : Naming View RowFault
  p = naming (call tree row extent)

  abbrev pub Fits : View → Type 0
  Fits w = sizes_of w ≡ sizes_for extent

  o : IsOrdered (naming (call tree row extent)) (shape (call tree row extent))
  o = ordered (call tree row extent) (is_call tree kept lead row extent room)

  -- the first values beside the work, once the bodies from i on have given way
  pub record Left (i : ℕ) (first w : View) : Type 0 where
    pub fits_first : Fits first
    pub fits : Fits w
    pub rest : w ≡ with_last w.IA w.p first
    pub last : (j : ℕ) → i ≤ j → HasBody tree j → rest_from tree.bodies j 0 first ≡ Ok (IA_at w j, p_at w j)

  -- what stands in the work once body i has given way
  record Handed (i : ℕ) (w first t : View) : Type 0 where
    rest : Rest
    found : rest_from tree.bodies i 0 first ≡ Ok rest
    is : t ≡ left_in i rest w first

  ends_alike : (i : ℕ) → HasBody tree i → (w : View) (s t : Giving) → Good tree row kept lead extent room i 0 s → Given w.IA w.p s t → Alike (Handed i w) (handed_found i s) (handed_by i t)
  unfolding handed_found handed_by
  ends_alike i there w s t g h =
      rw h
      (alike_same (Handed i w) (named_as (one K.pa i) (handed_with s.1 (c_at s.0 i))) _ _ (λ pa e.
      let v = put (pa_of i) pa (put (Ia_of i) s.1.0 s.0) in
      record {
        rest = s.1;
        found = rest_reads tree i 0 v s.0 refl refl (λ l low high. refl) (λ l low high. refl) (λ l low high. refl) ∙ g.rest;
        is = refl;
      }))

  good_first : (i : ℕ) → HasBody tree i → (n : View) → Fits n → (s : Giving) → first_found tree i n ≡ Ok s → Good tree row kept lead extent room i (joint_columns tree.bodies i) s
  unfolding first_found
  good_first i there n f s e =
      let first = then-ok (c_rule tree i n) _ s e in
      let second = then-ok (IA_rule tree i (put (c_of i) first.0 n)) _ s first.2 in
      let third = then-ok (p_rule tree i (put (IA_of i) second.0 (put (c_of i) first.0 n))) _ s second.2 in
      let t = giving (put (p_of i) third.0 (put (IA_of i) second.0 (put (c_of i) first.0 n))) (second.0, third.0) in
      subst (Good tree row kept lead extent room i (joint_columns tree.bodies i)) (same_ok {E = RowFault} t s third.2)
      (first_rest tree row kept lead extent room i there n f first.0 second.0 third.0)

  good_last : (i : ℕ) → HasBody tree i → (s t : Giving) → Good tree row kept lead extent room i (joint_columns tree.bodies i) s → columns_of tree row i s ≡ Ok t → Good tree row kept lead extent room i 0 t
  unfolding downward
  good_last i there s t g e =
      let n = joint_columns tree.bodies i in
      let same : n - 0 ≡ n = omega arith in
      columns_good tree row kept lead extent room i there n (omega arith) s t g (subst (λ (m : ℕ). sweep (column_step tree row i) (counting_down 0 m) s ≡ Ok t) same e)

  handed_alike : (i : ℕ) → HasBody tree i → (n w : View) → Fits n → w ≡ with_last w.IA w.p n → Alike (Handed i w) (up_found tree row i n) (up_step tree row i w)
  unfolding up_found up_step
  handed_alike i there n w f h =
      let G = Given w.IA w.p in
      let H = Handed i w in
      subst (λ (v : View). Alike (Handed i w) (up_found tree row i n) (up_step tree row i v)) (sym h)
      (alike_then G H (first_found tree i n) (first_step tree i (with_last w.IA w.p n)) (λ s. columns_of tree row i s >>= λ t. handed_found i t)
      (λ s. columns_of tree row i s >>= λ t. handed_by i t) (first_alike w.IA w.p tree i n)
      (λ s t e g. alike_then G H (columns_of tree row i s) (columns_of tree row i t) (λ u. handed_found i u) (λ v. handed_by i v)
      (columns_alike w.IA w.p tree row i s t g)
      (λ u v k l. ends_alike i there w u v (good_last i there s u (good_first i there n f s e) k) l)))

  sized : (a : List (Inertia Interval)) (b : List (Force Interval)) (w : View) → Fits w → length a ≡ (sizes_for extent).IA → length b ≡ (sizes_for extent).p → Fits (with_last a b w)
  sized a b w f ha hb =
      ap (λ (z : Sizes). record z { IA = length a; p = length b }) f
      ∙ ap (λ (k : ℕ). record (sizes_for extent) { IA = k; p = length b }) ha
      ∙ ap (λ (k : ℕ). record (sizes_for extent) { p = k }) hb

  -- the places of IA and p, after one more body
  module _ (i : ℕ) (there : HasBody tree i) (n w s : View) (l : Left (suc i) n w) (runs : run (naming (call tree row extent)) (body_names tree i) n ≡ Ok s) (rest : Rest)
      (found : rest_from tree.bodies i 0 s ≡ Ok rest) where
    abbrev w1 : View
    w1 = put (IA_of i) rest.0 w

    abbrev w2 : View
    w2 = put (p_of i) rest.1 w

    fits_1 : Fits w1
    fits_1 = o.put_fits (IA_of i) rest.0 w l.fits

    fits_2 : Fits w2
    fits_2 = o.put_fits (p_of i) rest.1 w l.fits

    fits_s : Fits s
    fits_s = run_fits p Fits (λ n x s f. o.put_fits n x s f) (body_names tree i) n s l.fits_first runs

    low : (m : Place) → Own tree m → rank tree m < up_rank tree i → look m s ≡ look m n
    low m own k =
        let high : i ≤ length tree.bodies = there.to in
        sym (run_below p (shape (call tree row extent)) o (body_names tree i) (4 * pass tree + 24 * (pass tree - (i + 1))) (4 * pass tree + 24 * (pass tree - i)) n s
        (body_climbs tree kept lead i there) l.fits_first runs m own (omega arith))

    last_here : rest_from tree.bodies i 0 s ≡ Ok (IA_at w1 i, p_at w2 i)
    last_here =
        let inertia : IA_at w1 i ≡ rest.0 = o.put_same (IA_of i) rest.0 w there l.fits in
        let bias : p_at w2 i ≡ rest.1 = o.put_same (p_of i) rest.1 w there l.fits in
        rw (inertia, bias) found

    last_above : (j : ℕ) → i < j → HasBody tree j → rest_from tree.bodies j 0 s ≡ Ok (IA_at w1 j, p_at w2 j)
    last_above j above has =
        let high : j ≤ length tree.bodies = has.to in
        let inertia : IA_at w1 j ≡ IA_at w j = o.put_other (IA_of j) (IA_of i) rest.0 w has there l.fits (omega arith) in
        let bias : p_at w2 j ≡ p_at w j = o.put_other (p_of j) (p_of i) rest.1 w has there l.fits (omega arith) in
        let same : rest_from tree.bodies j 0 s ≡ rest_from tree.bodies j 0 n =
        rest_same tree kept lead s n (up_rank tree i) low j 0 has (omega arith) (λ k from col. omega (arith, low_column tree kept lead j k col)) in
        rw (inertia, bias) (same ∙ l.last j (omega arith) has)

    last_at : (j : ℕ) → i ≤ j → HasBody tree j → rest_from tree.bodies j 0 s ≡ Ok (IA_at w1 j, p_at w2 j)
    last_at j from has =
        elim (cases_lt i j) [
          | inl above ↦ last_above j above has
          | inr here ↦ let same : i ≡ j = omega arith in subst (λ (k : ℕ). rest_from tree.bodies k 0 s ≡ Ok (IA_at w1 k, p_at w2 k)) same last_here
        ]

    left_so : Left i s (left_in i rest w s)
    left_so = record {
      fits_first = fits_s;
      fits = sized w1.IA w2.p s fits_s (ap (λ (z : Sizes). z.IA) fits_1) (ap (λ (z : Sizes). z.p) fits_2);
      rest = refl;
      last = last_at;
    }

  body_left : (i : ℕ) → HasBody tree i → (n w : View) → Left (suc i) n w → Alike (Left i) (up_found tree row i n) (up_step tree row i w)
  body_left i there n w l =
      alike_so (Handed i w) (Left i) (up_found tree row i n) (up_step tree row i w) (handed_alike i there n w l.fits_first l.rest)
      (λ s t e h. subst (Left i s) (sym h.is) (left_so i there n w s l (sym (up_run tree row kept lead extent room i there n l.fits_first) ∙ e) h.rest h.found))

  bodies_left : (m : ℕ) → m ≤ length tree.bodies → (n w : View) → Left (suc m) n w
      → Alike (Left 1) (sweep (up_found tree row) (counting_down 1 m) n) (sweep (up_step tree row) (counting_down 1 m) w)
  bodies_left zero high n w l = l
  bodies_left (suc k) high n w l =
      let e : suc (suc k) ≡ suc (1 + k) = omega arith in
      let same : 1 + k ≡ suc k = omega arith in
      alike_then (Left (1 + k)) (Left 1) (up_found tree row (1 + k) n) (up_step tree row (1 + k) w) (λ s. sweep (up_found tree row) (counting_down 1 k) s) (λ t. sweep (up_step tree row) (counting_down 1 k) t)
      (body_left (1 + k) (record { from = omega arith; to = omega arith }) n w (subst (λ (i : ℕ). Left i n w) e l))
      (λ s t g h. bodies_left k (omega arith) s t (subst (λ (i : ℕ). Left i s t) same h))

  pub ups_left : (w : View) → Fits w → Alike (Left 1) (ups_found tree row w) (ups_of tree row w)
  unfolding downward
  ups_left w f =
      let n = length tree.bodies in
      let e : n + 1 - 1 ≡ n = omega arith in
      subst (λ (m : ℕ). Alike (Left 1) (sweep (up_found tree row) (counting_down 1 m) w) (sweep (up_step tree row) (counting_down 1 m) w)) (sym e)
      (bodies_left n (omega arith) w w
      (record { fits_first = f; fits = f; rest = refl; last = λ j from has. let high : j ≤ length tree.bodies = has.to in absurd (omega arith) }))

-- ---- the accelerations read no IA and no p
module _ (a : List (Inertia Interval)) (b : List (Force Interval)) (u : View) where
  -- the same but for IA and p, and x and a alone are new
  pub record Moved (s t : View) : Type 0 where
    pub same : t ≡ with_last a b s
    pub kept : s ≡ record u { x = s.x; a = s.a }

  record Going (s t : Moving) : Type 0 where
    same : t ≡ moving (with_last a b s.0) s.1
    kept : s.0 ≡ record u { x = s.0.x; a = s.0.a }

  rate_alike : (c : ℕ) (axis : Motion Interval) (s t : Moving) → Going s t → Alike Going (rate_by c axis s) (rate_by c axis t)
  unfolding rate_by
  rate_alike c axis s t h =
      subst (λ (q : Moving). Alike Going (rate_by c axis s) (rate_by c axis q)) (sym h.same)
      (alike_same Going (named_as (one K.x c) (less_power intervals (u_at s.0 c) s.1 (U_at s.0 c))) _ _ (λ r e.
      alike_same Going (named_as (one K.x c) (interval_field.div r (D_at s.0 c))) _ _ (λ x f.
      alike_same Going (named_as (one K.x c) (and_multiple intervals s.1 x axis)) _ _ (λ y g.
      record { same = refl; kept = ap (λ (v : View). put (x_of c) x v) h.kept ∙ put_x c x }))))
    where
      put_x : (c : ℕ) (x : Interval) → put (x_of c) x (record u { x = s.0.x; a = s.0.a }) ≡ record u { x = (put (x_of c) x s.0).x; a = s.0.a }
      put_x c x = refl

  rates_alike : (tree : Tree) (i : ℕ) (s t : Moving) → Going s t → Alike Going (rates_of tree i s) (rates_of tree i t)
  rates_alike tree i s t h =
      alike_sweep Going (rate_step tree i) (rate_step tree i) (λ k p q g. rate_alike (column_of tree.bodies i k) (axis_at tree.bodies i k) p q g)
      (upward 0 (joint_columns tree.bodies i)) s t h

  down_alike : (tree : Tree) (i : ℕ) (s t : View) → Moved s t → Alike Moved (down_step tree i s) (down_step tree i t)
  unfolding down_step carried_to
  down_alike tree i s t h =
      subst (λ (q : View). Alike Moved (down_step tree i s) (down_step tree i q)) (sym h.same)
      (alike_same Moved (named_as (one K.a i) (carried_to tree.bodies i s)) _ _ (λ start e.
      alike_then Going Moved (rates_of tree i (moving s start)) (rates_of tree i (moving (with_last a b s) start)) _ _
      (rates_alike tree i (moving s start) (moving (with_last a b s) start) (record { same = refl; kept = h.kept }))
      (λ p q f g. ended p q g)))
    where
      ended : (p q : Moving) → Going p q → Moved (put (a_of i) p.1 p.0) (put (a_of i) q.1 q.0)
      ended p q g = record {
        same = ap (λ (r : Moving). put (a_of i) r.1 r.0) g.same;
        kept = ap (λ (v : View). put (a_of i) p.1 v) g.kept;
      }

  pub downs_alike : (tree : Tree) (row : Row) → Alike Moved (downs_of tree row u) (downs_of tree row (with_last a b u))
  downs_alike tree row =
      alike_sweep Moved (down_step tree) (down_step tree) (λ i s t h. down_alike tree i s t h) (upward 1 (length tree.bodies + 1))
      (put (a_of 0) (world_acceleration row) u) (put (a_of 0) (world_acceleration row) (with_last a b u)) (record { same = refl; kept = refl })

-- ---- all sweeps
-- all is as it is first found, but in IA and p what is left of each body
pub record Leaves (tree : Tree) (first w : View) : Type 0 where
  pub rest : w ≡ with_last w.IA w.p first
  pub last : (i : ℕ) → HasBody tree i → rest_from tree.bodies i 0 first ≡ Ok (IA_at w i, p_at w i)

module _ (tree : Tree) (row : Row) (kept : AreBodies tree.bodies) (lead : AllLead tree) (extent : Extent) (room : HasRoom tree extent) where
  moved_on : (u v s t : View) → Left tree row kept lead extent room 1 u v → Moved v.IA v.p u s t → Leaves tree s t
  moved_on u v s t l m = subst (Leaves tree s) (sym m.same) (record { rest = refl; last = λ i has. still i ∙ l.last i has.from has })
    where
      still : (i : ℕ) → rest_from tree.bodies i 0 s ≡ rest_from tree.bodies i 0 u
      still i =
          subst (λ (q : View). rest_from tree.bodies i 0 q ≡ rest_from tree.bodies i 0 u) (sym m.kept)
          (rest_reads tree i 0 (record u { x = s.x; a = s.a }) u refl refl (λ l low high. refl) (λ l low high. refl) (λ l low high. refl))

  pub sweeps_leave : (w : View) → ((v : View) → speeds_of tree row w ≡ Ok v → sizes_of v ≡ sizes_for extent) → Alike (Leaves tree) (sweeps_found tree row w) (sweeps_of tree row w)
  sweeps_leave w fits =
      alike_same (Leaves tree) (speeds_of tree row w) _ _ (λ v e.
      alike_then (Left tree row kept lead extent room 1) (Leaves tree) (ups_found tree row v) (ups_of tree row v) (λ u. downs_of tree row u) (λ u. downs_of tree row u)
      (ups_left tree row kept lead extent room v (fits v e)) (λ u t f l.
      alike_so (Moved t.IA t.p u) (Leaves tree) (downs_of tree row u) (downs_of tree row t)
      (subst (λ (q : View). Alike (Moved t.IA t.p u) (downs_of tree row u) (downs_of tree row q)) (sym l.rest) (downs_alike t.IA t.p u tree row))
      (λ s q g m. moved_on u t s q l m)))
