-- There is one answer of forward dynamics under rows of constraints, from that of each of its parts.
use Rattle.std.proofs.Common.{◌≡◌, ◌⊎◌, ℕ, ◌+◌, List, length, inl, inr, refl, sym, ap, ◌∙◌, subst, arith}
use Rattle.std.proofs.lemmas.List.{length-map}
use Rattle.rb_num.specs.Interval.{Interval, negative_of}
use Rattle.rb_sweep.specs.Sweep.{upward}
use Rattle.rb_sweep.proofs.Climbing.{map_upward_same, length-upward}
use Rattle.rb_elimination.specs.Paths.{IsColumn, IsRegular}
use Rattle.rb_elimination.specs.Solving.{IsReduced, IsDivided, IsSubstituted}
use Rattle.rb_elimination.proofs.Related.{substituted_met}
use Rattle.rb_flat.specs.Contact.{Constraints, RowsFit}
use Rattle.rb_bordered.specs.Steps.{IsRow}
use Rattle.rb_bordered.specs.Forces.{HaveRowFactors, AreRowSides, IsRightReduced, IsRightDivided, AreForces, AreForcesAdded}
use Rattle.rb_work.specs.declared.names.RowFault.{RowFault}
use Rattle.rb_work.specs.declared.names.RowFault.TheVariants.{Size}
use Rattle.rb_work.specs.declared.names.NameKind.TheVariants as K
use Rattle.rb_work.specs.Names.{one}
use Rattle.rb_work.specs.Path.{above}
use Rattle.rb_work.specs.View.{View, columns_of, L_at, D_at, J_at, w_at, z_at, x_at, k_at, g_at, Y_at, Z_at, l_at, C_at, e_at, lam_at}
use Rattle.rb_tree.specs.Columns.{column_count, up_of}
use Rattle.rb_tree.specs.Robot.{Tree, AreBodies}
use Rattle.rb_tree.specs.Shape.{shape_of}
use Rattle.rb_tree.specs.State.{Row}
use Rattle.rb_tree.specs.Places.{IsFor}
use Rattle.rb_rnea.specs.Dynamics.{unaccelerated}
use Rattle.rb_mass.specs.Table.{ups_of}
use Rattle.rb_mass.proofs.Ways.{ups_same, ups_ascend}
use Rattle.rb_factor.specs.Steps.{interval_steps, AreDivisors}
use Rattle.rb_factor.specs.Solve.{HoldsReduced, HoldsDivided, HoldsSubstituted, IsReduceRefused, IsDivideRefused, IsSubstituteRefused, RefusesReduce, RefusesDivide, RefusesSubstitute}
use Rattle.rb_factor.specs.Laws.{SameNumbers, SameFactors}
use Rattle.rb_factor.proofs.Paths.{regular}
use Rattle.rb_factor.proofs.Relations.{intervals_same}
use Rattle.rb_factor.proofs.OneSolve.{reduce_either, divide_either, substitute_either, divided_same, reduce_same, divide_same, substitute_same, w_same}
use Rattle.rb_constraint.specs.Rows as Rows
use Rattle.rb_constraint.specs.Rows.{AreRows, IsRowRefused, SamePlaces}
use Rattle.rb_constraint.specs.Bias.{AreBias, IsBiasRefused, SameMotions}
use Rattle.rb_constraint.proofs.RowPass as RowPass
use Rattle.rb_constraint.proofs.BiasPass as BiasPass
use Rattle.rb_coupling.specs.Steps.{interval_row_steps}
use Rattle.rb_coupling.specs.Couple.{IsCoupleRefused}
use Rattle.rb_coupling.specs.Forces.{HoldsRowSides, HoldsAddedForces, IsTotal, IsRowSideRefused, IsAddRefused, IsForceRefused, RefusesRowSides, RefusesRowForces, RefusesAddedForces}
use Rattle.rb_coupling.specs.Laws.{SameRows, SameQuotients, HasOneCoupling, HaveOneForces}
use Rattle.rb_coupling.proofs.OneCoupling.{coupling_is_one}
use Rattle.rb_coupling.proofs.OneForce.{forces_are_one}
use Rattle.rb_contact.specs.Driving.{AreDriving}
use Rattle.rb_contact.specs.Forward.{AreFactored, IsPreparationRefused, accelerations_in}
use Rattle.rb_contact.specs.Contact.{compliances, AreConstrained, AreFree, AreForced, AreContact, IsContactRefused, forces_in, HasOneContact}
use Rattle.rb_contact.proofs.Stays.{free_stays}
use Rattle.rb_contact.proofs.OneForward.{places_same, same_factors, same_pivots, same_driving, no_preparation, one_preparation}
use Rattle.rb_contact.proofs.SameMotions.{speeds_same, accelerations_same}
use Rattle.rb_contact.proofs.Totals.{total_same, IsFirstTotal, none_refused, first_same}

-- ---- refusals one after the other
abbrev pub One : (RowFault → Type 0) → Type 0
One R = (d e : RowFault) → R d → R e → d ≡ e

-- where a later refusal needs values with which the first one is not refused
pub next : (First Later : RowFault → Type 0) (Values : Type 0) → One First → ((e : RowFault) → Values → First e → ⊥) → ((e : RowFault) → Later e → Values) → One Later
    → One (λ e. First e ⊎ Later e)
next First Later Values first not needs later d e (inl a) (inl b) = first d e a b
next First Later Values first not needs later d e (inl a) (inr b) = absurd (not d (needs e b) a)
next First Later Values first not needs later d e (inr a) (inl b) = absurd (not e (needs d a) b)
next First Later Values first not needs later d e (inr a) (inr b) = later d e a b

module _ (tree : Tree) (row : Row) (k : Constraints Interval) (kept : AreBodies tree.bodies) (fit : RowsFit (shape_of tree) k) where
  -- ---- the columns and rows of the robot, which each work has
  abbrev n : ℕ
  n = length (ups_of tree)

  abbrev up : ℕ → ℕ
  up = above (ups_of tree)

  abbrev R : ℕ
  R = k.rows

  regular_up : IsRegular (length (ups_of tree)) (above (ups_of tree))
  regular_up = regular (ups_of tree) (ups_ascend tree kept)

  count_is : length (ups_of tree) ≡ column_count tree.bodies
  count_is = omega (arith, length-map (upward 1 (column_count tree.bodies + 1)) (up_of tree.bodies), length-upward 1 (column_count tree.bodies + 1))

  seen : (w : View) → IsFor tree w → (P : ℕ → (ℕ → ℕ) → Type 0) → P (columns_of w) (above w.up) → P (length (ups_of tree)) (above (ups_of tree))
  seen w room P h = subst (λ (ups : List ℕ). P (length ups) (above ups)) (ups_same tree w.up room.up) h

  seen_rows : (w : View) → AreConstrained tree row k w → (P : ℕ → (ℕ → ℕ) → ℕ → Type 0) → P (columns_of w) (above w.up) k.rows → P (length (ups_of tree)) (above (ups_of tree)) k.rows
  seen_rows w h P p = seen w h.factored.room (λ m a. P m a k.rows) p

  -- ---- what is left of the torques, and the rows
  module _ (u w : View) (hu : AreFactored tree row u) (hw : AreFactored tree row w) where
    factors : SameFactors n up (L_at u) (L_at w)
    factors = seen u hu.room (λ m a. SameFactors m a (L_at u) (L_at w)) (same_factors tree row kept u w hu hw)

    pivots : SameNumbers n (D_at u) (D_at w)
    pivots = seen u hu.room (λ m a. SameNumbers m (D_at u) (D_at w)) (same_pivots tree row kept u w hu hw)

    torques : AreDriving tree row u → AreDriving tree row w → SameNumbers n (k_at u) (k_at w)
    torques du dw = seen u hu.room (λ m a. SameNumbers m (k_at u) (k_at w)) (same_driving tree row kept u w hu hw du dw)

    places : SamePlaces tree u w
    places = places_same tree row kept u w hu.bias hw.bias

    module _ (ru : AreRows tree k u) (sw : AreRows tree k w) where
      rows_same : Rows.SameRows tree k u w
      rows_same = (RowPass.one_answer tree k kept fit).values u w places ru sw

      motions : SameMotions tree k u w
      motions = record {
        speed = speeds_same tree (unaccelerated row) kept u w hu.bias hw.bias;
        acceleration = accelerations_same tree (unaccelerated row) kept u w hu.bias hw.bias;
        turn = rows_same.turns;
        forces = rows_same.forces;
      }

      table : SameRows n R (J_at u) (J_at w)
      table r there c on = rows_same.table r c (record { row = record { from = there.from; to = there.to }; to = omega (arith, on.to, count_is) })

      accelerations : AreBias k u → AreBias k w → SameNumbers R (g_at u) (g_at w)
      accelerations bu bw r there = (BiasPass.one_answer tree k fit).values u w r motions bu bw (record { from = there.from; to = there.to })

      coupling : HasOneCoupling n up R (L_at u) (L_at w) (D_at u) (D_at w) (J_at u) (J_at w) (compliances k) (compliances k)
      coupling =
          coupling_is_one n up R (L_at u) (L_at w) (D_at u) (D_at w) (J_at u) (J_at w) (compliances k) (compliances k) regular_up factors pivots table (λ r there. refl)

  -- ---- the factors of the rows
  row_factors : (w : View) → AreConstrained tree row k w → HaveRowFactors interval_row_steps n up R (L_at w) (D_at w) (J_at w) (compliances k) (Y_at w) (l_at w) (C_at w)
  row_factors w h =
      let c = h.coupling in
      seen_rows w h (λ m a r. HaveRowFactors interval_row_steps m a r (L_at w) (D_at w) (J_at w) (compliances k) (Y_at w) (l_at w) (C_at w))
      (record { left = c.left; Z = Z_at w; alone = c.alone; G = c.G; table = c.table; reduced = c.reduced; coupled = c.coupled; eliminated = c.eliminated })

  row_divisors : (w : View) → AreConstrained tree row k w → AreDivisors R (C_at w)
  row_divisors w h = seen_rows w h (λ m a r. AreDivisors r (C_at w)) h.coupling.divisors

  module _ (u w : View) (hu : AreConstrained tree row k u) (hw : AreConstrained tree row k w) where
    one_coupling : HasOneCoupling n up R (L_at u) (L_at w) (D_at u) (D_at w) (J_at u) (J_at w) (compliances k) (compliances k)
    one_coupling = coupling u w hu.factored hw.factored hu.rows hw.rows

    Y_same : SameRows n R (Y_at u) (Y_at w)
    Y_same = one_coupling.rows (Y_at u) (Y_at w) (l_at u) (l_at w) (C_at u) (C_at w) (row_factors u hu) (row_factors w hw)

    l_same : SameQuotients R (l_at u) (l_at w)
    l_same = one_coupling.quotients (Y_at u) (Y_at w) (l_at u) (l_at w) (C_at u) (C_at w) (row_factors u hu) (row_factors w hw)

    C_same : SameNumbers R (C_at u) (C_at w)
    C_same = one_coupling.pivots (Y_at u) (Y_at w) (l_at u) (l_at w) (C_at u) (C_at w) (row_factors u hu) (row_factors w hw)

    own_factors : SameFactors n up (L_at u) (L_at w)
    own_factors = factors u w hu.factored hw.factored

    own_pivots : SameNumbers n (D_at u) (D_at w)
    own_pivots = pivots u w hu.factored hw.factored

    own_torques : SameNumbers n (k_at u) (k_at w)
    own_torques = torques u w hu.factored hw.factored hu.driving hw.driving

  -- ---- without forces
  reduced_at : (w : View) → AreConstrained tree row k w → (h : HoldsReduced (record w { w = w.k }) w) → IsReduced interval_steps n up (L_at w) (k_at w) h.left (w_at w)
  reduced_at w c h = seen w c.factored.room (λ m a. IsReduced interval_steps m a (L_at w) (k_at w) h.left (w_at w)) h.is

  divided_at : (w : View) → AreConstrained tree row k w → HoldsDivided w w → IsDivided interval_steps n up (D_at w) (w_at w) (z_at w)
  divided_at w c h = seen w c.factored.room (λ m a. IsDivided interval_steps m a (D_at w) (w_at w) (z_at w)) h

  right_same : (u w : View) → AreConstrained tree row k u → AreConstrained tree row k w → HoldsReduced (record u { w = u.k }) u → HoldsReduced (record w { w = w.k }) w
      → SameNumbers n (w_at u) (w_at w)
  right_same u w cu cw hu hw =
      w_same n up regular_up (L_at u) (L_at w) (D_at u) (D_at w) (own_factors u w cu cw) (own_pivots u w cu cw) (k_at u) (k_at w) (own_torques u w cu cw) hu.left hw.left (w_at u) (w_at w)
      (reduced_at u cu hu) (reduced_at w cw hw)

  quotients_same : (u w : View) → AreFree tree row k u → AreFree tree row k w → SameNumbers n (z_at u) (z_at w)
  quotients_same u w hu hw =
      divided_same n up (D_at u) (D_at w) (w_at u) (w_at w) (z_at u) (z_at w) (own_pivots u w hu.constrained hw.constrained)
      (right_same u w hu.constrained hw.constrained hu.reduced hw.reduced) (divided_at u hu.constrained hu.divided) (divided_at w hw.constrained hw.divided)

  -- ---- the right sides of the rows
  sides_at : (w s : View) → AreConstrained tree row k w → (h : HoldsRowSides k.rows w s) → AreRowSides interval_row_steps n R (Y_at w) (z_at w) (g_at w) h.without h.total (e_at s)
  sides_at w s c h = seen_rows w c (λ m a r. AreRowSides interval_row_steps m r (Y_at w) (z_at w) (g_at w) h.without h.total (e_at s)) h.are

  side_total : (w s : View) → AreConstrained tree row k w → (h : HoldsRowSides k.rows w s) → (r : ℕ) → IsRow R r → IsTotal (g_at w r) n (Y_at w r) (z_at w) (h.total r)
  side_total w s c h r there = let a = sides_at w s c h in record { sum = h.without r; sums = a.sums r there; adds = a.totals r there }

  own_accelerations : (u w : View) → AreConstrained tree row k u → AreConstrained tree row k w → SameNumbers R (g_at u) (g_at w)
  own_accelerations u w hu hw = accelerations u w hu.factored hw.factored hu.rows hw.rows hu.bias hw.bias

  sides_same : (u s w t : View) → AreFree tree row k u → HoldsRowSides k.rows u s → AreFree tree row k w → HoldsRowSides k.rows w t → SameNumbers R (e_at s) (e_at t)
  sides_same u s w t hu su hw tw r there =
      let cu = hu.constrained in
      let cw = hw.constrained in
      let same : su.total r ≡ tw.total r =
      total_same n (g_at u r) (g_at w r) (Y_at u r) (Y_at w r) (z_at u) (z_at w) (own_accelerations u w cu cw r there) (Y_same u w cu cw r there) (quotients_same u w hu hw)
      (su.total r) (tw.total r) (side_total u s cu su r there) (side_total w t cw tw r there) in
      (sides_at u s cu su).negatives r there ∙ ap negative_of same ∙ sym ((sides_at w t cw tw).negatives r there)

  first_side : (w : View) (e : RowFault) → AreConstrained tree row k w → RefusesRowSides k.rows w e → IsRowSideRefused n R (Y_at w) (z_at w) (g_at w) e
  first_side w e c r = seen_rows w c (λ m a q. IsRowSideRefused m q (Y_at w) (z_at w) (g_at w) e) r

  abbrev side_first : (w : View) (e : RowFault) → IsRowSideRefused n R (Y_at w) (z_at w) (g_at w) e → IsFirstTotal R n (g_at w) (Y_at w) (z_at w)
  side_first w e r = record { at = r.row; there = r.there; until = r.until; refused = r.refused }

  -- ---- the forces of the rows
  one_force : (u s w t : View) → AreFree tree row k u → HoldsRowSides k.rows u s → AreFree tree row k w → HoldsRowSides k.rows w t
      → HaveOneForces R (l_at u) (l_at w) (C_at u) (C_at w) (e_at s) (e_at t)
  one_force u s w t hu su hw tw =
      forces_are_one R (l_at u) (l_at w) (C_at u) (C_at w) (e_at s) (e_at t) (l_same u w hu.constrained hw.constrained) (C_same u w hu.constrained hw.constrained)
      (sides_same u s w t hu su hw tw)

  module _ (w : View) (h : AreForced tree row k w) where
    abbrev sided : View
    sided = record w { e = h.sides }

    abbrev own : AreConstrained tree row k w
    own = h.free.constrained

    right_reduced : IsRightReduced interval_row_steps R (l_at w) (e_at sided) h.row_forces.left h.row_forces.reduced
    right_reduced = seen_rows w own (λ m a r. IsRightReduced interval_row_steps r (l_at w) (e_at sided) h.row_forces.left h.row_forces.reduced) h.row_forces.right_reduced

    right_divided : IsRightDivided interval_row_steps R (C_at w) h.row_forces.reduced h.row_forces.divided
    right_divided = seen_rows w own (λ m a r. IsRightDivided interval_row_steps r (C_at w) h.row_forces.reduced h.row_forces.divided) h.row_forces.right_divided

    forces : AreForces interval_row_steps R (l_at w) h.row_forces.divided h.row_forces.part (lam_at w)
    forces = seen_rows w own (λ m a r. AreForces interval_row_steps r (l_at w) h.row_forces.divided h.row_forces.part (lam_at w)) h.row_forces.forces

  forces_same : (u w : View) → AreForced tree row k u → AreForced tree row k w → SameNumbers R (lam_at u) (lam_at w)
  forces_same u w hu hw =
      let f = hu.row_forces in
      let g = hw.row_forces in
      (one_force u (record u { e = hu.sides }) w (record w { e = hw.sides }) hu.free hu.row_sides hw.free hw.row_sides).values f.left g.left f.reduced g.reduced f.divided g.divided f.part g.part
      (lam_at u) (lam_at w) (right_reduced u hu) (right_divided u hu) (forces u hu) (right_reduced w hw) (right_divided w hw) (forces w hw)

  -- ---- what they add
  abbrev by_column : (w : View) → ℕ → ℕ → Interval
  by_column w c r = Y_at w r c

  add_total : (w : View) → AreForced tree row k w → (more added : ℕ → Interval) → AreForcesAdded interval_row_steps n R (Y_at w) (w_at w) (lam_at w) more added
      → (c : ℕ) → IsColumn n c → IsTotal (w_at w c) R (λ r. Y_at w r c) (lam_at w) (added c)
  add_total w h more added a c there = record { sum = more c; sums = a.sums c there; adds = a.totals c there }

  Y_by_column : (u w : View) → AreConstrained tree row k u → AreConstrained tree row k w → (c : ℕ) → IsColumn n c → SameNumbers R (λ r. Y_at u r c) (λ r. Y_at w r c)
  Y_by_column u w hu hw c there r on = Y_same u w hu hw r on c there

  forced_right_same : (u w : View) → AreForced tree row k u → AreForced tree row k w → SameNumbers n (w_at u) (w_at w)
  forced_right_same u w hu hw = right_same u w hu.free.constrained hw.free.constrained hu.free.reduced hw.free.reduced

  added_same : (u w : View) → AreForced tree row k u → AreForced tree row k w → (more more' added added' : ℕ → Interval)
      → AreForcesAdded interval_row_steps n R (Y_at u) (w_at u) (lam_at u) more added → AreForcesAdded interval_row_steps n R (Y_at w) (w_at w) (lam_at w) more' added'
      → SameNumbers n added added'
  added_same u w hu hw more more' added added' a a' c there =
      total_same R (w_at u c) (w_at w c) (λ r. Y_at u r c) (λ r. Y_at w r c) (lam_at u) (lam_at w) (forced_right_same u w hu hw c there)
      (Y_by_column u w hu.free.constrained hw.free.constrained c there) (forces_same u w hu hw) (added c) (added' c) (add_total u hu more added a c there) (add_total w hw more' added' a' c there)

  -- what a work held before the forces were added
  abbrev before : View → List Interval → List Interval → View
  before w right quotients = record w { w = right; z = quotients }

  room_behind : (w : View) (right quotients : List Interval) → AreForced tree row k (before w right quotients) → IsFor tree w
  room_behind w right quotients h = let room = h.free.constrained.factored.room in record { bodies = room.bodies; full = room.full; up = room.up }

  added_at : (w : View) (right quotients : List Interval) → AreForced tree row k (before w right quotients) → (h : HoldsAddedForces k.rows (record w { w = right }) w)
      → AreForcesAdded interval_row_steps n R (Y_at w) (w_at (before w right quotients)) (lam_at w) h.more (w_at w)
  added_at w right quotients f h =
      seen_rows (before w right quotients) f.free.constrained
      (λ m a r. AreForcesAdded interval_row_steps m r (Y_at w) (w_at (before w right quotients)) (lam_at w) h.more (w_at w)) h.are

  module _ (u : View) (right quotients : List Interval) (hu : AreForced tree row k (before u right quotients)) (au : HoldsAddedForces k.rows (record u { w = right }) u)
      (w : View) (right' quotients' : List Interval) (hw : AreForced tree row k (before w right' quotients')) (aw : HoldsAddedForces k.rows (record w { w = right' }) w) where
    abbrev cu : AreConstrained tree row k (before u right quotients)
    cu = hu.free.constrained

    abbrev cw : AreConstrained tree row k (before w right' quotients')
    cw = hw.free.constrained

    more_same : SameNumbers n (w_at u) (w_at w)
    more_same =
        added_same (before u right quotients) (before w right' quotients') hu hw au.more aw.more (w_at u) (w_at w) (added_at u right quotients hu au) (added_at w right' quotients' hw aw)

    last_factors : SameFactors n up (L_at u) (L_at w)
    last_factors = own_factors (before u right quotients) (before w right' quotients') cu cw

    last_pivots : SameNumbers n (D_at u) (D_at w)
    last_pivots = own_pivots (before u right quotients) (before w right' quotients') cu cw

    last_quotients_same : HoldsDivided u u → HoldsDivided w w → SameNumbers n (z_at u) (z_at w)
    last_quotients_same du dw =
        divided_same n up (D_at u) (D_at w) (w_at u) (w_at w) (z_at u) (z_at w) last_pivots more_same
        (seen u (room_behind u right quotients hu) (λ m a. IsDivided interval_steps m a (D_at u) (w_at u) (z_at u)) du)
        (seen w (room_behind w right' quotients' hw) (λ m a. IsDivided interval_steps m a (D_at w) (w_at w) (z_at w)) dw)

    accelerations_found : HoldsDivided u u → HoldsDivided w w → HoldsSubstituted u u → HoldsSubstituted w w → SameNumbers n (x_at u) (x_at w)
    unfolding intervals_same
    accelerations_found du dw su sw =
        substituted_met intervals_same n up regular_up (L_at u) (L_at w) last_factors (z_at u) su.part (x_at u) (z_at w) sw.part (x_at w)
        (seen u (room_behind u right quotients hu) (λ m a. IsSubstituted interval_steps m a (L_at u) (z_at u) su.part (x_at u)) su.is)
        (seen w (room_behind w right' quotients' hw) (λ m a. IsSubstituted interval_steps m a (L_at w) (z_at w) sw.part (x_at w)) sw.is) (last_quotients_same du dw)

  -- ---- the values up to each part, and where it is refused
  abbrev Prepared : Type 0
  Prepared = (w : View) × AreFactored tree row w × AreDriving tree row w

  abbrev InRows : RowFault → Type 0
  InRows e = (w : View) × AreFactored tree row w × AreDriving tree row w × IsRowRefused tree k w e

  abbrev HaveRows : Type 0
  HaveRows = (w : View) × AreFactored tree row w × AreDriving tree row w × AreRows tree k w

  abbrev InBias : RowFault → Type 0
  InBias e = (w : View) × AreFactored tree row w × AreDriving tree row w × AreRows tree k w × IsBiasRefused tree k w e

  abbrev HaveBias : Type 0
  HaveBias = (w : View) × AreFactored tree row w × AreDriving tree row w × AreRows tree k w × AreBias k w

  abbrev InCoupling : RowFault → Type 0
  InCoupling e =
      (w : View) × AreFactored tree row w × AreDriving tree row w × AreRows tree k w × AreBias k w
      × IsCoupleRefused (columns_of w) (above w.up) k.rows (L_at w) (D_at w) (J_at w) (compliances k) e

  abbrev Constrained : Type 0
  Constrained = (w : View) × AreConstrained tree row k w

  abbrev InReduction : RowFault → Type 0
  InReduction e = (w : View) × AreConstrained tree row k w × RefusesReduce (record w { w = w.k }) e

  abbrev Reduced : Type 0
  Reduced = (w : View) × AreConstrained tree row k w × HoldsReduced (record w { w = w.k }) w

  abbrev InDivision : RowFault → Type 0
  InDivision e = (w : View) × AreConstrained tree row k w × HoldsReduced (record w { w = w.k }) w × RefusesDivide w e

  abbrev Free : Type 0
  Free = (w : View) × AreFree tree row k w

  abbrev InSides : RowFault → Type 0
  InSides e = (w : View) × AreFree tree row k w × RefusesRowSides k.rows w e

  abbrev Sided : Type 0
  Sided = (w : View) × AreFree tree row k w × HoldsRowSides k.rows w w

  abbrev InForces : RowFault → Type 0
  InForces e = (w : View) × AreFree tree row k w × HoldsRowSides k.rows w w × RefusesRowForces k.rows w e

  abbrev Forced : Type 0
  Forced = (w : View) × AreForced tree row k w

  abbrev InAddition : RowFault → Type 0
  InAddition e = (w : View) × AreForced tree row k w × RefusesAddedForces k.rows w e

  abbrev Added : Type 0
  Added = (w : View) × (right : List Interval) × (quotients : List Interval) × AreForced tree row k (before w right quotients) × HoldsAddedForces k.rows (record w { w = right }) w

  abbrev InSecond : RowFault → Type 0
  InSecond e =
      (w : View) × (right : List Interval) × (quotients : List Interval) × AreForced tree row k (before w right quotients) × HoldsAddedForces k.rows (record w { w = right }) w × RefusesDivide w e

  abbrev Divided : Type 0
  Divided =
      (w : View) × (right : List Interval) × (quotients : List Interval) × AreForced tree row k (before w right quotients) × HoldsAddedForces k.rows (record w { w = right }) w × HoldsDivided w w

  abbrev InSubstitution : RowFault → Type 0
  InSubstitution e =
      (w : View) × (right : List Interval) × (quotients : List Interval) × AreForced tree row k (before w right quotients) × HoldsAddedForces k.rows (record w { w = right }) w × HoldsDivided w w
      × RefusesSubstitute w e

  -- ---- none is refused whose value is there, and there is one refusal
  no_preparation_behind : (e : RowFault) → Prepared → IsPreparationRefused tree row e → ⊥
  no_preparation_behind e v r = no_preparation tree row kept v.0 e v.1 v.2 r

  no_rows : (e : RowFault) → HaveRows → InRows e → ⊥
  no_rows e v r = (RowPass.one_answer tree k kept fit).either v.0 r.0 e (places v.0 r.0 v.1 r.1) v.3 r.3

  one_rows : One InRows
  one_rows d e r q = (RowPass.one_answer tree k kept fit).refusal r.0 q.0 d e (places r.0 q.0 r.1 q.1) r.3 q.3

  no_bias : (e : RowFault) → HaveBias → InBias e → ⊥
  no_bias e v r = (BiasPass.one_answer tree k fit).either v.0 r.0 e (motions v.0 r.0 v.1 r.1 v.3 r.3) v.4 r.4

  one_bias : One InBias
  one_bias d e r q = (BiasPass.one_answer tree k fit).refusal r.0 q.0 d e (motions r.0 q.0 r.1 q.1 r.3 q.3) r.4 q.4

  coupling_refused_at : (w : View) (e : RowFault) → IsFor tree w → IsCoupleRefused (columns_of w) (above w.up) k.rows (L_at w) (D_at w) (J_at w) (compliances k) e
      → IsCoupleRefused n up R (L_at w) (D_at w) (J_at w) (compliances k) e
  coupling_refused_at w e room r = seen w room (λ m a. IsCoupleRefused m a k.rows (L_at w) (D_at w) (J_at w) (compliances k) e) r

  no_coupling : (e : RowFault) → Constrained → InCoupling e → ⊥
  no_coupling e v r =
      (coupling v.0 r.0 v.1.factored r.1 v.1.rows r.3).either (Y_at v.0) (l_at v.0) (C_at v.0) e (row_factors v.0 v.1) (row_divisors v.0 v.1) (coupling_refused_at r.0 e r.1.room r.5)

  one_coupling_refusal : One InCoupling
  one_coupling_refusal d e r q =
      (coupling r.0 q.0 r.1 q.1 r.3 q.3).refusal d e (coupling_refused_at r.0 d r.1.room r.5) (coupling_refused_at q.0 e q.1.room q.5)

  reduction_at : (w : View) (e : RowFault) → AreConstrained tree row k w → RefusesReduce (record w { w = w.k }) e → IsReduceRefused n up (L_at w) (k_at w) e
  reduction_at w e c r = seen w c.factored.room (λ m a. IsReduceRefused m a (L_at w) (k_at w) e) r

  division_at : (w : View) (e : RowFault) → IsFor tree w → RefusesDivide w e → IsDivideRefused n (D_at w) (w_at w) e
  division_at w e room r = seen w room (λ m a. IsDivideRefused m (D_at w) (w_at w) e) r

  no_reduction : (e : RowFault) → Reduced → InReduction e → ⊥
  no_reduction e v r =
      reduce_either n up regular_up (L_at v.0) (L_at r.0) (own_factors v.0 r.0 v.1 r.1) (k_at v.0) (k_at r.0) (own_torques v.0 r.0 v.1 r.1) v.2.left (w_at v.0) e (reduced_at v.0 v.1 v.2)
      (reduction_at r.0 e r.1 r.2)

  one_reduction : One InReduction
  one_reduction d e r q =
      reduce_same n up regular_up (L_at r.0) (L_at q.0) (D_at r.0) (D_at q.0) (own_factors r.0 q.0 r.1 q.1) (own_pivots r.0 q.0 r.1 q.1) (k_at r.0) (k_at q.0) (own_torques r.0 q.0 r.1 q.1) d e
      (reduction_at r.0 d r.1 r.2) (reduction_at q.0 e q.1 q.2)

  no_division : (e : RowFault) → Free → InDivision e → ⊥
  no_division e v r =
      let c = v.1.constrained in
      divide_either n up (D_at v.0) (D_at r.0) (w_at v.0) (w_at r.0) (z_at v.0) (own_pivots v.0 r.0 c r.1) (right_same v.0 r.0 c r.1 v.1.reduced r.2) (divided_at v.0 c v.1.divided) e
      (division_at r.0 e r.1.factored.room r.3)

  one_division : One InDivision
  one_division d e r q =
      divide_same n up regular_up (L_at r.0) (L_at q.0) (D_at r.0) (D_at q.0) (own_factors r.0 q.0 r.1 q.1) (own_pivots r.0 q.0 r.1 q.1) (w_at r.0) (w_at q.0) (right_same r.0 q.0 r.1 q.1 r.2 q.2) d e
      (division_at r.0 d r.1.factored.room r.3) (division_at q.0 e q.1.factored.room q.3)

  no_sides : (e : RowFault) → Sided → InSides e → ⊥
  no_sides e v r =
      let c = v.1.constrained in
      let b = r.1.constrained in
      none_refused R n (g_at v.0) (g_at r.0) (Y_at v.0) (Y_at r.0) (z_at v.0) (z_at r.0) (own_accelerations v.0 r.0 c b) (Y_same v.0 r.0 c b) (quotients_same v.0 r.0 v.1 r.1)
      (λ i there. (v.2.total i, side_total v.0 v.0 c v.2 i there)) (side_first r.0 e (first_side r.0 e b r.2))

  one_sides : One InSides
  one_sides d e r q =
      let b = r.1.constrained in
      let c = q.1.constrained in
      let f = first_side r.0 d b r.2 in
      let g = first_side q.0 e c q.2 in
      let same : f.row ≡ g.row =
      first_same R n (g_at r.0) (g_at q.0) (Y_at r.0) (Y_at q.0) (z_at r.0) (z_at q.0) (own_accelerations r.0 q.0 b c) (Y_same r.0 q.0 b c) (quotients_same r.0 q.0 r.1 q.1)
      (side_first r.0 d f) (side_first q.0 e g) in
      f.named ∙ ap (λ (i : ℕ). Size (one K.e i)) same ∙ sym g.named

  forces_at : (w : View) (e : RowFault) → AreConstrained tree row k w → RefusesRowForces k.rows w e → IsForceRefused R (l_at w) (C_at w) (e_at w) e
  forces_at w e c r = seen_rows w c (λ m a q. IsForceRefused q (l_at w) (C_at w) (e_at w) e) r

  no_forces : (e : RowFault) → Forced → InForces e → ⊥
  no_forces e v r =
      let w = v.0 in
      let f = v.1.row_forces in
      (one_force w (record w { e = v.1.sides }) r.0 r.0 v.1.free v.1.row_sides r.1 r.2).either f.left f.reduced f.divided f.part (lam_at w) e (right_reduced w v.1) (right_divided w v.1) (forces w v.1)
      (forces_at r.0 e r.1.constrained r.3)

  one_forces : One InForces
  one_forces d e r q =
      (one_force r.0 r.0 q.0 q.0 r.1 r.2 q.1 q.2).refusal d e (forces_at r.0 d r.1.constrained r.3) (forces_at q.0 e q.1.constrained q.3)

  addition_at : (w : View) (e : RowFault) → AreForced tree row k w → RefusesAddedForces k.rows w e → IsAddRefused n R (Y_at w) (w_at w) (lam_at w) e
  addition_at w e h r = seen_rows w h.free.constrained (λ m a q. IsAddRefused m q (Y_at w) (w_at w) (lam_at w) e) r

  abbrev addition_first : (w : View) (e : RowFault) → IsAddRefused n R (Y_at w) (w_at w) (lam_at w) e → IsFirstTotal n R (w_at w) (by_column w) (lam_at w)
  addition_first w e r = record { at = r.column; there = r.there; until = r.until; refused = r.refused }

  columns_same : (u w : View) → AreConstrained tree row k u → AreConstrained tree row k w → (c : ℕ) → IsColumn n c → SameNumbers R (by_column u c) (by_column w c)
  columns_same u w hu hw c there = Y_by_column u w hu hw c there

  no_addition : (e : RowFault) → Added → InAddition e → ⊥
  no_addition e v r =
      let u = before v.0 v.1 v.2 in
      none_refused n R (w_at u) (w_at r.0) (by_column u) (by_column r.0) (lam_at u) (lam_at r.0) (forced_right_same u r.0 v.3 r.1) (columns_same u r.0 v.3.free.constrained r.1.free.constrained)
      (forces_same u r.0 v.3 r.1)
      (λ i there. (w_at v.0 i, add_total u v.3 v.4.more (w_at v.0) (added_at v.0 v.1 v.2 v.3 v.4) i there)) (addition_first r.0 e (addition_at r.0 e r.1 r.2))

  one_addition : One InAddition
  one_addition d e r q =
      let f = addition_at r.0 d r.1 r.2 in
      let g = addition_at q.0 e q.1 q.2 in
      let same : f.column ≡ g.column =
      first_same n R (w_at r.0) (w_at q.0) (by_column r.0) (by_column q.0) (lam_at r.0) (lam_at q.0) (forced_right_same r.0 q.0 r.1 q.1)
      (columns_same r.0 q.0 r.1.free.constrained q.1.free.constrained) (forces_same r.0 q.0 r.1 q.1) (addition_first r.0 d f) (addition_first q.0 e g) in
      f.named ∙ ap (λ (i : ℕ). Size (one K.w i)) same ∙ sym g.named

  no_second : (e : RowFault) → Divided → InSecond e → ⊥
  no_second e v r =
      divide_either n up (D_at v.0) (D_at r.0) (w_at v.0) (w_at r.0) (z_at v.0) (last_pivots v.0 v.1 v.2 v.3 v.4 r.0 r.1 r.2 r.3 r.4) (more_same v.0 v.1 v.2 v.3 v.4 r.0 r.1 r.2 r.3 r.4)
      (seen v.0 (room_behind v.0 v.1 v.2 v.3) (λ m a. IsDivided interval_steps m a (D_at v.0) (w_at v.0) (z_at v.0)) v.5) e (division_at r.0 e (room_behind r.0 r.1 r.2 r.3) r.5)

  one_second : One InSecond
  one_second d e r q =
      divide_same n up regular_up (L_at r.0) (L_at q.0) (D_at r.0) (D_at q.0) (last_factors r.0 r.1 r.2 r.3 r.4 q.0 q.1 q.2 q.3 q.4) (last_pivots r.0 r.1 r.2 r.3 r.4 q.0 q.1 q.2 q.3 q.4) (w_at r.0) (w_at q.0)
      (more_same r.0 r.1 r.2 r.3 r.4 q.0 q.1 q.2 q.3 q.4) d e (division_at r.0 d (room_behind r.0 r.1 r.2 r.3) r.5) (division_at q.0 e (room_behind q.0 q.1 q.2 q.3) q.5)

  substitution_at : (w : View) (e : RowFault) → IsFor tree w → RefusesSubstitute w e → IsSubstituteRefused n up (L_at w) (z_at w) e
  substitution_at w e room r = seen w room (λ m a. IsSubstituteRefused m a (L_at w) (z_at w) e) r

  no_substitution : (e : RowFault) → (w : View) → AreContact tree row k w → InSubstitution e → ⊥
  no_substitution e w h r =
      let q = substitution_at r.0 e (room_behind r.0 r.1 r.2 r.3) r.6 in
      substitute_either n up regular_up (L_at w) (L_at r.0) (last_factors w h.right h.quotients h.forced h.added r.0 r.1 r.2 r.3 r.4) (z_at w) (z_at r.0)
      (last_quotients_same w h.right h.quotients h.forced h.added r.0 r.1 r.2 r.3 r.4 h.divided r.5) n (omega arith) h.substituted.part (x_at w) e
      (seen w (room_behind w h.right h.quotients h.forced) (λ m a. IsSubstituted interval_steps m a (L_at w) (z_at w) h.substituted.part (x_at w)) h.substituted.is) q q.fewer

  one_substitution : One InSubstitution
  one_substitution d e r q =
      substitute_same n up regular_up (L_at r.0) (L_at q.0) (D_at r.0) (D_at q.0) (last_factors r.0 r.1 r.2 r.3 r.4 q.0 q.1 q.2 q.3 q.4) (last_pivots r.0 r.1 r.2 r.3 r.4 q.0 q.1 q.2 q.3 q.4) (z_at r.0) (z_at q.0)
      (last_quotients_same r.0 r.1 r.2 r.3 r.4 q.0 q.1 q.2 q.3 q.4 r.5 q.5) d e (substitution_at r.0 d (room_behind r.0 r.1 r.2 r.3) r.6) (substitution_at q.0 e (room_behind q.0 q.1 q.2 q.3) q.6)

  -- ---- later values have the earlier ones
  added_of_divided : Divided → Added
  added_of_divided v = (v.0, v.1, v.2, v.3, v.4)

  forced_of_added : Added → Forced
  forced_of_added v = (before v.0 v.1 v.2, v.3)

  sided_of_forced : Forced → Sided
  sided_of_forced v =
      let w = v.0 in
      let s : View = record w { e = v.1.sides } in
      let r = v.1.row_sides in
      (s, free_stays tree row k w s v.1.free, record { without = r.without; total = r.total; are = r.are })

  free_of_sided : Sided → Free
  free_of_sided v = (v.0, v.1)

  reduced_of_free : Free → Reduced
  reduced_of_free v = (v.0, v.1.constrained, v.1.reduced)

  constrained_of_reduced : Reduced → Constrained
  constrained_of_reduced v = (v.0, v.1)

  bias_of_constrained : Constrained → HaveBias
  bias_of_constrained v = (v.0, v.1.factored, v.1.driving, v.1.rows, v.1.bias)

  rows_of_bias : HaveBias → HaveRows
  rows_of_bias v = (v.0, v.1, v.2, v.3)

  prepared_of_rows : HaveRows → Prepared
  prepared_of_rows v = (v.0, v.1, v.2)

  -- ---- from each part on
  abbrev FromSecond : RowFault → Type 0
  FromSecond e = InSecond e ⊎ InSubstitution e

  abbrev FromAddition : RowFault → Type 0
  FromAddition e = InAddition e ⊎ FromSecond e

  abbrev FromForces : RowFault → Type 0
  FromForces e = InForces e ⊎ FromAddition e

  abbrev FromSides : RowFault → Type 0
  FromSides e = InSides e ⊎ FromForces e

  abbrev FromDivision : RowFault → Type 0
  FromDivision e = InDivision e ⊎ FromSides e

  abbrev FromReduction : RowFault → Type 0
  FromReduction e = InReduction e ⊎ FromDivision e

  abbrev FromCoupling : RowFault → Type 0
  FromCoupling e = InCoupling e ⊎ FromReduction e

  abbrev FromBias : RowFault → Type 0
  FromBias e = InBias e ⊎ FromCoupling e

  abbrev FromRows : RowFault → Type 0
  FromRows e = InRows e ⊎ FromBias e

  abbrev All : RowFault → Type 0
  All e = IsPreparationRefused tree row e ⊎ FromRows e

  second_needs : (e : RowFault) → FromSecond e → Added
  second_needs e (inl r) = (r.0, r.1, r.2, r.3, r.4)
  second_needs e (inr r) = (r.0, r.1, r.2, r.3, r.4)

  addition_needs : (e : RowFault) → FromAddition e → Forced
  addition_needs e (inl r) = (r.0, r.1)
  addition_needs e (inr r) = forced_of_added (second_needs e r)

  forces_need : (e : RowFault) → FromForces e → Sided
  forces_need e (inl r) = (r.0, r.1, r.2)
  forces_need e (inr r) = sided_of_forced (addition_needs e r)

  sides_need : (e : RowFault) → FromSides e → Free
  sides_need e (inl r) = (r.0, r.1)
  sides_need e (inr r) = free_of_sided (forces_need e r)

  division_needs : (e : RowFault) → FromDivision e → Reduced
  division_needs e (inl r) = (r.0, r.1, r.2)
  division_needs e (inr r) = reduced_of_free (sides_need e r)

  reduction_needs : (e : RowFault) → FromReduction e → Constrained
  reduction_needs e (inl r) = (r.0, r.1)
  reduction_needs e (inr r) = constrained_of_reduced (division_needs e r)

  coupling_needs : (e : RowFault) → FromCoupling e → HaveBias
  coupling_needs e (inl r) = (r.0, r.1, r.2, r.3, r.4)
  coupling_needs e (inr r) = bias_of_constrained (reduction_needs e r)

  bias_needs : (e : RowFault) → FromBias e → HaveRows
  bias_needs e (inl r) = (r.0, r.1, r.2, r.3)
  bias_needs e (inr r) = rows_of_bias (coupling_needs e r)

  rows_need : (e : RowFault) → FromRows e → Prepared
  rows_need e (inl r) = (r.0, r.1, r.2)
  rows_need e (inr r) = prepared_of_rows (bias_needs e r)

  divided_of_last : (e : RowFault) → InSubstitution e → Divided
  divided_of_last e r = (r.0, r.1, r.2, r.3, r.4, r.5)

  one_of_all : One All
  one_of_all =
      next (IsPreparationRefused tree row) FromRows Prepared (one_preparation tree row kept) no_preparation_behind rows_need
      (next InRows FromBias HaveRows one_rows no_rows bias_needs
      (next InBias FromCoupling HaveBias one_bias no_bias coupling_needs
      (next InCoupling FromReduction Constrained one_coupling_refusal no_coupling reduction_needs
      (next InReduction FromDivision Reduced one_reduction no_reduction division_needs
      (next InDivision FromSides Free one_division no_division sides_need
      (next InSides FromForces Sided one_sides no_sides forces_need
      (next InForces FromAddition Forced one_forces no_forces addition_needs
      (next InAddition FromSecond Added one_addition no_addition second_needs
      (next InSecond InSubstitution Divided one_second no_second divided_of_last one_substitution)))))))))

  split : (e : RowFault) → IsContactRefused tree row k e → All e
  split e (IsContactRefused.in_preparation r) = inl r
  split e (IsContactRefused.in_rows w f d r) = inr (inl (w, f, d, r))
  split e (IsContactRefused.in_bias w f d a r) = inr (inr (inl (w, f, d, a, r)))
  split e (IsContactRefused.in_coupling w f d a b r) = inr (inr (inr (inl (w, f, d, a, b, r))))
  split e (IsContactRefused.in_reduction w c r) = inr (inr (inr (inr (inl (w, c, r)))))
  split e (IsContactRefused.in_division w c h r) = inr (inr (inr (inr (inr (inl (w, c, h, r))))))
  split e (IsContactRefused.in_sides w f r) = inr (inr (inr (inr (inr (inr (inl (w, f, r)))))))
  split e (IsContactRefused.in_forces w f s r) = inr (inr (inr (inr (inr (inr (inr (inl (w, f, s, r))))))))
  split e (IsContactRefused.in_addition w f r) = inr (inr (inr (inr (inr (inr (inr (inr (inl (w, f, r)))))))))
  split e (IsContactRefused.in_second_division w right f a r) = inr (inr (inr (inr (inr (inr (inr (inr (inr (inl (w, right, w.z, f, a, r))))))))))
  split e (IsContactRefused.in_substitution w right quotients f a d r) = inr (inr (inr (inr (inr (inr (inr (inr (inr (inr (w, right, quotients, f, a, d, r))))))))))

  -- ---- of the values of all parts
  module _ (w : View) (h : AreContact tree row k w) where
    divided : Divided
    divided = (w, h.right, h.quotients, h.forced, h.added, h.divided)

    forced : Forced
    forced = forced_of_added (added_of_divided divided)

    free : Free
    free = free_of_sided (sided_of_forced forced)

    constrained : Constrained
    constrained = constrained_of_reduced (reduced_of_free free)

  either : (w : View) (e : RowFault) → AreContact tree row k w → IsContactRefused tree row k e → ⊥
  either w e h r = go (split e r)
    where
      go : All e → ⊥
      go (inl r) = no_preparation_behind e (prepared_of_rows (rows_of_bias (bias_of_constrained (constrained w h)))) r
      go (inr (inl r)) = no_rows e (rows_of_bias (bias_of_constrained (constrained w h))) r
      go (inr (inr (inl r))) = no_bias e (bias_of_constrained (constrained w h)) r
      go (inr (inr (inr (inl r)))) = no_coupling e (constrained w h) r
      go (inr (inr (inr (inr (inl r))))) = no_reduction e (reduced_of_free (free w h)) r
      go (inr (inr (inr (inr (inr (inl r)))))) = no_division e (free w h) r
      go (inr (inr (inr (inr (inr (inr (inl r))))))) = no_sides e (sided_of_forced (forced w h)) r
      go (inr (inr (inr (inr (inr (inr (inr (inl r)))))))) = no_forces e (forced w h) r
      go (inr (inr (inr (inr (inr (inr (inr (inr (inl r))))))))) = no_addition e (added_of_divided (divided w h)) r
      go (inr (inr (inr (inr (inr (inr (inr (inr (inr (inl r)))))))))) = no_second e (divided w h) r
      go (inr (inr (inr (inr (inr (inr (inr (inr (inr (inr r)))))))))) = no_substitution e w h r

  same_accelerations : (u w : View) → AreContact tree row k u → AreContact tree row k w → accelerations_in tree u ≡ accelerations_in tree w
  same_accelerations u w hu hw =
      map_upward_same (x_at u) (x_at w) 1 (column_count tree.bodies + 1)
      (λ c low high. accelerations_found u hu.right hu.quotients hu.forced hu.added w hw.right hw.quotients hw.forced hw.added hu.divided hw.divided hu.substituted hw.substituted c
      (record { from = low; to = omega (arith, count_is) }))

  same_forces : (u w : View) → AreContact tree row k u → AreContact tree row k w → forces_in k u ≡ forces_in k w
  same_forces u w hu hw =
      map_upward_same (lam_at u) (lam_at w) 1 (k.rows + 1)
      (λ r low high. forces_same (before u hu.right hu.quotients) (before w hw.right hw.quotients) hu.forced hw.forced r (record { from = low; to = omega arith }))

  pub has_one_contact : HasOneContact tree row k
  has_one_contact = record {
    accelerations = same_accelerations;
    forces = same_forces;
    either = either;
    refusal = λ d e r q. one_of_all d e (split d r) (split e q);
  }
