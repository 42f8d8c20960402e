-- There is one answer of an impact on rows of constraints, from that of each of its parts.
use Rattle.std.proofs.Common.{◌≡◌, ◌⊎◌, ℕ, ◌+◌, List, length, inl, inr, Result, refl, sym, ap, ◌∙◌, subst, arith}
use Rattle.std.proofs.lemmas.List.{length-map}
use Rattle.rb_num.specs.Interval.{Interval}
use Rattle.rb_num.specs.Dot.{iv_dot}
use Rattle.rb_num.specs.Refusing.{iv_add}
use Rattle.rb_num.specs.declared.interval.NumFault.{NumFault}
use Rattle.rb_result.specs.Steps.{◌>>=◌}
use Rattle.rb_result.proofs.Results.{same_ok}
use Rattle.rb_sweep.specs.Sweep.{upward}
use Rattle.rb_sweep.proofs.Climbing.{map_upward_same, length-upward}
use Rattle.rb_elimination.specs.Paths.{IsColumn, IsRegular}
use Rattle.rb_elimination.specs.Factors.{AreFactors}
use Rattle.rb_elimination.specs.Solving.{IsDivided, IsSubstituted}
use Rattle.rb_elimination.proofs.Related.{substituted_met}
use Rattle.rb_flat.specs.Contact.{Constraints, HasRow, RowsFit}
use Rattle.rb_bordered.specs.Steps.{IsRow}
use Rattle.rb_bordered.specs.Forces.{HaveRowFactors}
use Rattle.rb_work.specs.declared.names.RowFault.{RowFault}
use Rattle.rb_work.specs.declared.names.NameKind.TheVariants as K
use Rattle.rb_work.specs.Names.{one, named_as}
use Rattle.rb_work.specs.Path.{above}
use Rattle.rb_work.specs.View.{View, columns_of, M_at, L_at, D_at, J_at, w_at, z_at, x_at, Y_at, Z_at, l_at, C_at, e_at, lam_at, y_at}
use Rattle.rb_tree.specs.Columns.{column_count, up_of}
use Rattle.rb_tree.specs.Robot.{Tree, HasColumn, AreBodies}
use Rattle.rb_tree.specs.Shape.{shape_of}
use Rattle.rb_tree.specs.State.{Row}
use Rattle.rb_tree.specs.Places.{IsFor, ArePlaces}
use Rattle.rb_tree.proofs.PlacePass as places
use Rattle.rb_mass.specs.Mass.{AreMass, IsRefused, SamePlaces}
use Rattle.rb_mass.specs.Table.{ups_of}
use Rattle.rb_mass.proofs.Ways.{ups_same, ups_ascend}
use Rattle.rb_mass.proofs.RowTold.{row_one}
use Rattle.rb_factor.specs.Steps.{interval_steps, AreDivisors}
use Rattle.rb_factor.specs.Factor.{IsFactorRefused, RefusesFactor}
use Rattle.rb_factor.specs.Solve.{HoldsDivided, HoldsSubstituted, IsDivideRefused, IsSubstituteRefused, RefusesDivide, RefusesSubstitute}
use Rattle.rb_factor.specs.Laws.{SameTables, SameNumbers, SameFactors, HasOneFactor}
use Rattle.rb_factor.proofs.Paths.{regular}
use Rattle.rb_factor.proofs.Relations.{intervals_same}
use Rattle.rb_factor.proofs.OneFactor.{factor_is_one}
use Rattle.rb_factor.proofs.OneSolve.{divide_either, substitute_either, divided_same, divide_same, substitute_same}
use Rattle.rb_constraint.specs.Rows as Rows
use Rattle.rb_constraint.specs.Rows.{AreRows, IsRowRefused}
use Rattle.rb_constraint.proofs.RowPass as RowPass
use Rattle.rb_coupling.specs.Steps.{pairs_of, interval_row_steps}
use Rattle.rb_coupling.specs.Couple.{IsCoupleRefused}
use Rattle.rb_coupling.specs.Forces.{RefusesRowForces}
use Rattle.rb_coupling.specs.Laws.{SameRows, SameQuotients, HasOneCoupling, HaveOneForces}
use Rattle.rb_coupling.proofs.Enclosing.{pairs_same}
use Rattle.rb_coupling.proofs.OneCoupling.{coupling_is_one}
use Rattle.rb_coupling.proofs.OneForce.{forces_are_one}
use Rattle.rb_contact.proofs.OneForward.{tables_same}
use Rattle.rb_contact.proofs.OneContact.{One, next}
use Rattle.rb_impact.specs.Sides.{speed_before, row_speed_of, gain_of, e_rule, AreSides, IsSideRefused}
use Rattle.rb_impact.specs.Pushes.{w_rule, ArePushes, IsPushRefused}
use Rattle.rb_impact.specs.Speeds.{y_rule, IsSpeedRefused}
use Rattle.rb_impact.specs.Impact.{rigid, AreFactored, AreMet, AreStruck, AreChanged, AreImpact, IsImpactRefused, speeds_in, impulses_in, HasOneImpact}
use Rattle.rb_impact.proofs.Stays.{places_stay, met_stays}
use Rattle.rb_impact.proofs.Stops.{Stops, none_stops, one_stop}

-- ---- what the rules read
e_reads : (row : Row) (k : Constraints Interval) (r : ℕ) (u w : View) → columns_of u ≡ columns_of w → SameNumbers (columns_of w) (J_at u r) (J_at w r) → e_rule row k r u ≡ e_rule row k r w
unfolding e_rule
e_reads row k r u w columns same =
    let speeds : row_speed_of row r u ≡ row_speed_of row r w =
    ap (λ (n : ℕ). iv_dot (pairs_of (J_at u r) (speed_before row) n)) columns
    ∙ ap iv_dot (pairs_same (columns_of w) (J_at u r) (speed_before row) (J_at w r) (speed_before row) same (λ c there. refl)) in
    ap (λ (j : Result Interval NumFault). named_as (one K.e r) (j >>= λ v. gain_of (k.numbers r).restitution v)) speeds

w_reads : (k : Constraints Interval) (c : ℕ) (u w : View) → SameNumbers k.rows (λ r. Y_at u r c) (λ r. Y_at w r c) → SameNumbers k.rows (lam_at u) (lam_at w) → w_rule k c u ≡ w_rule k c w
unfolding w_rule
w_reads k c u w rows impulses = ap (named_as (one K.w c)) (ap iv_dot (pairs_same k.rows (λ r. Y_at u r c) (lam_at u) (λ r. Y_at w r c) (lam_at w) rows impulses))

y_reads : (row : Row) (c : ℕ) (u w : View) → x_at u c ≡ x_at w c → y_rule row c u ≡ y_rule row c w
unfolding y_rule
y_reads row c u w same = ap (λ (x : Interval). named_as (one K.y c) (iv_add (speed_before row c) x)) same

module _ (tree : Tree) (row : Row) (k : Constraints Interval) (kept : AreBodies tree.bodies) (fit : RowsFit (shape_of tree) k) where
  -- ---- the columns and rows of the robot, which each work has
  abbrev n : ℕ
  n = length (ups_of tree)

  abbrev up : ℕ → ℕ
  up = above (ups_of tree)

  abbrev R : ℕ
  R = k.rows

  regular_up : IsRegular (length (ups_of tree)) (above (ups_of tree))
  regular_up = regular (ups_of tree) (ups_ascend tree kept)

  count_is : length (ups_of tree) ≡ column_count tree.bodies
  count_is = omega (arith, length-map (upward 1 (column_count tree.bodies + 1)) (up_of tree.bodies), length-upward 1 (column_count tree.bodies + 1))

  robot_column : (c : ℕ) → IsColumn (length (ups_of tree)) c → HasColumn tree c
  robot_column c there = record { from = there.from; to = omega (arith, there.to, count_is) }

  column : (c : ℕ) → HasColumn tree c → IsColumn (length (ups_of tree)) c
  column c there = record { from = there.from; to = omega (arith, there.to, count_is) }

  seen : (w : View) → IsFor tree w → (P : ℕ → (ℕ → ℕ) → Type 0) → P (columns_of w) (above w.up) → P (length (ups_of tree)) (above (ups_of tree))
  seen w room P h = subst (λ (ups : List ℕ). P (length ups) (above ups)) (ups_same tree w.up room.up) h

  -- ---- the factors of the mass table
  one_factor : (u w : View) → IsFor tree u → IsFor tree w → ArePlaces tree row u → ArePlaces tree row w → AreMass tree u → AreMass tree w → HasOneFactor n up (M_at u) (M_at w)
  one_factor u w iu iw pu pw mu mw =
      factor_is_one n up (M_at u) (M_at w) regular_up
      (seen u iu (λ m a. SameTables m a (M_at u) (M_at w)) (tables_same tree row kept u w iu iw (λ i there. (places.one_answer tree row).places u w i pu pw there) mu mw))

  factor_refused_at : (w : View) (e : RowFault) → IsFor tree w → RefusesFactor w e → IsFactorRefused n up (M_at w) e
  factor_refused_at w e room r = seen w room (λ m a. IsFactorRefused m a (M_at w) e) r

  -- the mass table in its place
  abbrev given : (w : View) → AreFactored tree row w → View
  given w h = record w { packed = h.mass }

  given_room : (w : View) (h : AreFactored tree row w) → IsFor tree (given w h)
  given_room w h = record { bodies = h.room.bodies; full = h.room.full; up = h.room.up }

  given_places : (w : View) (h : AreFactored tree row w) → ArePlaces tree row (given w h)
  given_places w h = places_stay tree row w h.mass h.places

  factors_of : (w : View) (h : AreFactored tree row w) → AreFactors interval_steps n up (M_at (given w h)) h.factors.table (L_at w) (D_at w)
  factors_of w h = seen w h.room (λ m a. AreFactors interval_steps m a (M_at (given w h)) h.factors.table (L_at w) (D_at w)) h.factors.are

  divisors_of : (w : View) → AreFactored tree row w → AreDivisors n (D_at w)
  divisors_of w h = seen w h.room (λ m a. AreDivisors m (D_at w)) h.factors.divisors

  module _ (u w : View) (hu : AreFactored tree row u) (hw : AreFactored tree row w) where
    one_table : HasOneFactor n up (M_at (given u hu)) (M_at (given w hw))
    one_table = one_factor (given u hu) (given w hw) (given_room u hu) (given_room w hw) (given_places u hu) (given_places w hw) hu.table hw.table

    factors : SameFactors n up (L_at u) (L_at w)
    factors = one_table.factors hu.factors.table hw.factors.table (L_at u) (L_at w) (D_at u) (D_at w) (factors_of u hu) (factors_of w hw)

    pivots : SameNumbers n (D_at u) (D_at w)
    pivots = one_table.pivots hu.factors.table hw.factors.table (L_at u) (L_at w) (D_at u) (D_at w) (factors_of u hu) (factors_of w hw)

    same_places : SamePlaces tree u w
    same_places i there = (places.one_answer tree row).places u w i hu.places hw.places there

    columns_same : columns_of u ≡ columns_of w
    columns_same = hu.room.up.count ∙ sym hw.room.up.count

    -- ---- the rows
    module _ (ru : AreRows tree k u) (sw : AreRows tree k w) where
      rows_same : Rows.SameRows tree k u w
      rows_same = (RowPass.one_answer tree k kept fit).values u w same_places ru sw

      table : SameRows n R (J_at u) (J_at w)
      table r there c on = rows_same.table r c (record { row = record { from = there.from; to = there.to }; to = omega (arith, on.to, count_is) })

      coupling : HasOneCoupling n up R (L_at u) (L_at w) (D_at u) (D_at w) (J_at u) (J_at w) rigid rigid
      coupling = coupling_is_one n up R (L_at u) (L_at w) (D_at u) (D_at w) (J_at u) (J_at w) rigid rigid regular_up factors pivots table (λ r there. refl)

      -- what they have to gain
      side_rules : (r : ℕ) → IsRow R r → e_rule row k r u ≡ e_rule row k r w
      side_rules r there =
          e_reads row k r u w columns_same (λ c on. table r there c (record { from = on.from; to = omega (arith, on.to, hw.room.up.count, count_is) }))

  -- ---- the factors of the rows
  row_factors : (w : View) → AreMet tree row k w → HaveRowFactors interval_row_steps n up R (L_at w) (D_at w) (J_at w) rigid (Y_at w) (l_at w) (C_at w)
  row_factors w h =
      let c = h.coupling in
      seen w h.factored.room (λ m a. HaveRowFactors interval_row_steps m a R (L_at w) (D_at w) (J_at w) rigid (Y_at w) (l_at w) (C_at w))
      (record { left = c.left; Z = Z_at w; alone = c.alone; G = c.G; table = c.table; reduced = c.reduced; coupled = c.coupled; eliminated = c.eliminated })

  module _ (u w : View) (hu : AreMet tree row k u) (hw : AreMet tree row k w) where
    one_coupling : HasOneCoupling n up R (L_at u) (L_at w) (D_at u) (D_at w) (J_at u) (J_at w) rigid rigid
    one_coupling = coupling u w hu.factored hw.factored hu.rows hw.rows

    Y_same : SameRows n R (Y_at u) (Y_at w)
    Y_same = one_coupling.rows (Y_at u) (Y_at w) (l_at u) (l_at w) (C_at u) (C_at w) (row_factors u hu) (row_factors w hw)

    l_same : SameQuotients R (l_at u) (l_at w)
    l_same = one_coupling.quotients (Y_at u) (Y_at w) (l_at u) (l_at w) (C_at u) (C_at w) (row_factors u hu) (row_factors w hw)

    C_same : SameNumbers R (C_at u) (C_at w)
    C_same = one_coupling.pivots (Y_at u) (Y_at w) (l_at u) (l_at w) (C_at u) (C_at w) (row_factors u hu) (row_factors w hw)

    own_factors : SameFactors n up (L_at u) (L_at w)
    own_factors = factors u w hu.factored hw.factored

    own_pivots : SameNumbers n (D_at u) (D_at w)
    own_pivots = pivots u w hu.factored hw.factored

    own_rules : (r : ℕ) → IsRow R r → e_rule row k r u ≡ e_rule row k r w
    own_rules = side_rules u w hu.factored hw.factored hu.rows hw.rows

    -- ---- the impulses, of sides that the works may have held before
    module _ (s t : List Interval) (su : AreSides row k (record u { e = s })) (tw : AreSides row k (record w { e = t })) where
      sides_same : SameNumbers R (e_at (record u { e = s })) (e_at (record w { e = t }))
      unfolding e_rule
      sides_same r there =
          let has : HasRow k r = record { from = there.from; to = there.to } in
          same_ok {E = RowFault} (e_at (record u { e = s }) r) (e_at (record w { e = t }) r) (sym (su.each_e r has) ∙ own_rules r there ∙ tw.each_e r has)

      one_impulse : HaveOneForces R (l_at u) (l_at w) (C_at u) (C_at w) (e_at (record u { e = s })) (e_at (record w { e = t }))
      one_impulse = forces_are_one R (l_at u) (l_at w) (C_at u) (C_at w) (e_at (record u { e = s })) (e_at (record w { e = t })) l_same C_same sides_same

  -- ---- what they put on the columns, and what it changes
  module _ (u w : View) (hu : AreStruck tree row k u) (hw : AreStruck tree row k w) where
    impulses_same : SameNumbers R (lam_at u) (lam_at w)
    impulses_same =
        let f = hu.impulses in
        let g = hw.impulses in
        (one_impulse u w hu.met hw.met hu.sides hw.sides hu.gains hw.gains).values f.left g.left f.reduced g.reduced f.divided g.divided f.part g.part (lam_at u) (lam_at w) f.right_reduced
        f.right_divided f.forces g.right_reduced g.right_divided g.forces

    push_rules : (c : ℕ) → IsColumn n c → w_rule k c u ≡ w_rule k c w
    push_rules c there = w_reads k c u w (λ r on. Y_same u w hu.met hw.met r on c there) impulses_same

    pushes_same : ArePushes tree k u → ArePushes tree k w → SameNumbers n (w_at u) (w_at w)
    pushes_same pu pw c there =
        same_ok {E = RowFault} (w_at u c) (w_at w c) (sym (pu.each_w c (robot_column c there)) ∙ push_rules c there ∙ pw.each_w c (robot_column c there))

    quotients_same : ArePushes tree k u → ArePushes tree k w → HoldsDivided u u → HoldsDivided w w → SameNumbers n (z_at u) (z_at w)
    quotients_same pu pw du dw =
        divided_same n up (D_at u) (D_at w) (w_at u) (w_at w) (z_at u) (z_at w) (own_pivots u w hu.met hw.met) (pushes_same pu pw)
        (seen u hu.met.factored.room (λ m a. IsDivided interval_steps m a (D_at u) (w_at u) (z_at u)) du)
        (seen w hw.met.factored.room (λ m a. IsDivided interval_steps m a (D_at w) (w_at w) (z_at w)) dw)

    changes_same : ArePushes tree k u → ArePushes tree k w → HoldsDivided u u → HoldsDivided w w → HoldsSubstituted u u → HoldsSubstituted w w → SameNumbers n (x_at u) (x_at w)
    unfolding intervals_same
    changes_same pu pw du dw su sw =
        substituted_met intervals_same n up regular_up (L_at u) (L_at w) (own_factors u w hu.met hw.met) (z_at u) su.part (x_at u) (z_at w) sw.part (x_at w)
        (seen u hu.met.factored.room (λ m a. IsSubstituted interval_steps m a (L_at u) (z_at u) su.part (x_at u)) su.is)
        (seen w hw.met.factored.room (λ m a. IsSubstituted interval_steps m a (L_at w) (z_at w) sw.part (x_at w)) sw.is) (quotients_same pu pw du dw)

  -- ---- the speeds after
  speed_rules : (u w : View) → AreChanged tree row k u → AreChanged tree row k w → (c : ℕ) → IsColumn n c → y_rule row c u ≡ y_rule row c w
  speed_rules u w hu hw c there =
      y_reads row c u w (changes_same u w hu.struck hw.struck hu.pushes hw.pushes hu.divided hw.divided hu.substituted hw.substituted c there)

  same_speeds : (u w : View) → AreImpact tree row k u → AreImpact tree row k w → speeds_in tree u ≡ speeds_in tree w
  same_speeds u w hu hw =
      map_upward_same (y_at u) (y_at w) 1 (column_count tree.bodies + 1)
      (λ c low high.
      let there : HasColumn tree c = record { from = low; to = omega arith } in
      same_ok {E = RowFault} (y_at u c) (y_at w c) (sym (hu.speeds.each_y c there) ∙ speed_rules u w hu.changed hw.changed c (column c there) ∙ hw.speeds.each_y c there))

  same_impulses : (u w : View) → AreImpact tree row k u → AreImpact tree row k w → impulses_in k u ≡ impulses_in k w
  same_impulses u w hu hw =
      map_upward_same (lam_at u) (lam_at w) 1 (k.rows + 1)
      (λ r low high. impulses_same u w hu.changed.struck hw.changed.struck r (record { from = low; to = omega arith }))

  -- ---- the values up to each part, and where it is refused
  abbrev Massed : Type 0
  Massed = (w : View) × IsFor tree w × ArePlaces tree row w × AreMass tree w

  abbrev InFactors : RowFault → Type 0
  InFactors e = (w : View) × IsFor tree w × ArePlaces tree row w × AreMass tree w × RefusesFactor w e

  abbrev Factored : Type 0
  Factored = (w : View) × AreFactored tree row w

  abbrev InRows : RowFault → Type 0
  InRows e = (w : View) × AreFactored tree row w × IsRowRefused tree k w e

  abbrev HaveRows : Type 0
  HaveRows = (w : View) × AreFactored tree row w × AreRows tree k w

  abbrev InCoupling : RowFault → Type 0
  InCoupling e =
      (w : View) × AreFactored tree row w × AreRows tree k w × IsCoupleRefused (columns_of w) (above w.up) k.rows (L_at w) (D_at w) (J_at w) rigid e

  abbrev Met : Type 0
  Met = (w : View) × AreMet tree row k w

  abbrev InSides : RowFault → Type 0
  InSides e = (w : View) × AreMet tree row k w × IsSideRefused row k w e

  abbrev Sided : Type 0
  Sided = (w : View) × AreMet tree row k w × AreSides row k w

  abbrev InImpulses : RowFault → Type 0
  InImpulses e = (w : View) × AreMet tree row k w × AreSides row k w × RefusesRowForces k.rows w e

  abbrev Struck : Type 0
  Struck = (w : View) × AreStruck tree row k w

  abbrev InPushes : RowFault → Type 0
  InPushes e = (w : View) × AreStruck tree row k w × IsPushRefused tree k w e

  abbrev Pushed : Type 0
  Pushed = (w : View) × AreStruck tree row k w × ArePushes tree k w

  abbrev InDivision : RowFault → Type 0
  InDivision e = (w : View) × AreStruck tree row k w × ArePushes tree k w × RefusesDivide w e

  abbrev Divided : Type 0
  Divided = (w : View) × AreStruck tree row k w × ArePushes tree k w × HoldsDivided w w

  abbrev InSubstitution : RowFault → Type 0
  InSubstitution e = (w : View) × AreStruck tree row k w × ArePushes tree k w × HoldsDivided w w × RefusesSubstitute w e

  abbrev Changed : Type 0
  Changed = (w : View) × AreChanged tree row k w

  abbrev InSpeeds : RowFault → Type 0
  InSpeeds e = (w : View) × AreChanged tree row k w × IsSpeedRefused tree row w e

  -- ---- none is refused whose value is there, and there is one refusal
  no_mass : (e : RowFault) → Massed → IsRefused tree row e → ⊥
  no_mass e v r = (row_one tree row kept).either v.0 e (record { columns = ups_same tree v.0.up v.1.up; places = v.2; masses = v.3 }) r

  no_factors : (e : RowFault) → Factored → InFactors e → ⊥
  no_factors e v r =
      let h = v.1 in
      (one_factor (given v.0 h) r.0 (given_room v.0 h) r.1 (given_places v.0 h) r.2 h.table r.3).either h.factors.table (L_at v.0) (D_at v.0) e (factors_of v.0 h) (divisors_of v.0 h)
      (factor_refused_at r.0 e r.1 r.4)

  one_factors : One InFactors
  one_factors d e r q = (one_factor r.0 q.0 r.1 q.1 r.2 q.2 r.3 q.3).refusal d e (factor_refused_at r.0 d r.1 r.4) (factor_refused_at q.0 e q.1 q.4)

  no_rows : (e : RowFault) → HaveRows → InRows e → ⊥
  no_rows e v r = (RowPass.one_answer tree k kept fit).either v.0 r.0 e (same_places v.0 r.0 v.1 r.1) v.2 r.2

  one_rows : One InRows
  one_rows d e r q = (RowPass.one_answer tree k kept fit).refusal r.0 q.0 d e (same_places r.0 q.0 r.1 q.1) r.2 q.2

  coupling_refused_at : (w : View) (e : RowFault) → IsFor tree w → IsCoupleRefused (columns_of w) (above w.up) k.rows (L_at w) (D_at w) (J_at w) rigid e
      → IsCoupleRefused n up R (L_at w) (D_at w) (J_at w) rigid e
  coupling_refused_at w e room r = seen w room (λ m a. IsCoupleRefused m a k.rows (L_at w) (D_at w) (J_at w) rigid e) r

  no_coupling : (e : RowFault) → Met → InCoupling e → ⊥
  no_coupling e v r =
      (coupling v.0 r.0 v.1.factored r.1 v.1.rows r.2).either (Y_at v.0) (l_at v.0) (C_at v.0) e (row_factors v.0 v.1) v.1.coupling.divisors (coupling_refused_at r.0 e r.1.room r.3)

  one_coupling_refusal : One InCoupling
  one_coupling_refusal d e r q =
      (coupling r.0 q.0 r.1 q.1 r.2 q.2).refusal d e (coupling_refused_at r.0 d r.1.room r.3) (coupling_refused_at q.0 e q.1.room q.3)

  side_stops : (w : View) (e : RowFault) → IsSideRefused row k w e → Stops R (λ r. e_rule row k r w) e
  side_stops w e r = record { place = r.number; there = record { from = r.there.from; to = r.there.to }; until = r.until; refused = r.refused }

  no_sides : (e : RowFault) → Sided → InSides e → ⊥
  no_sides e v r =
      none_stops R (λ i. e_rule row k i v.0) (λ i. e_rule row k i r.0) (own_rules v.0 r.0 v.1 r.1) (e_at v.0) e
      (λ i there. v.2.each_e i (record { from = there.from; to = there.to })) (side_stops r.0 e r.2)

  one_sides : One InSides
  one_sides d e r q =
      one_stop R (λ i. e_rule row k i r.0) (λ i. e_rule row k i q.0) (own_rules r.0 q.0 r.1 q.1) d e (side_stops r.0 d r.2) (side_stops q.0 e q.2)

  no_impulses : (e : RowFault) → Struck → InImpulses e → ⊥
  no_impulses e v r =
      let f = v.1.impulses in
      (one_impulse v.0 r.0 v.1.met r.1 v.1.sides r.0.e v.1.gains r.2).either f.left f.reduced f.divided f.part (lam_at v.0) e f.right_reduced f.right_divided f.forces r.3

  one_impulses : One InImpulses
  one_impulses d e r q = (one_impulse r.0 q.0 r.1 q.1 r.0.e q.0.e r.2 q.2).refusal d e r.3 q.3

  push_stops : (w : View) (e : RowFault) → IsPushRefused tree k w e → Stops n (λ c. w_rule k c w) e
  push_stops w e r = record { place = r.column; there = column r.column r.there; until = r.until; refused = r.refused }

  no_pushes : (e : RowFault) → Pushed → InPushes e → ⊥
  no_pushes e v r =
      none_stops n (λ c. w_rule k c v.0) (λ c. w_rule k c r.0) (push_rules v.0 r.0 v.1 r.1) (w_at v.0) e (λ c there. v.2.each_w c (robot_column c there)) (push_stops r.0 e r.2)

  one_pushes : One InPushes
  one_pushes d e r q =
      one_stop n (λ c. w_rule k c r.0) (λ c. w_rule k c q.0) (push_rules r.0 q.0 r.1 q.1) d e (push_stops r.0 d r.2) (push_stops q.0 e q.2)

  division_at : (w : View) (e : RowFault) → AreStruck tree row k w → RefusesDivide w e → IsDivideRefused n (D_at w) (w_at w) e
  division_at w e h r = seen w h.met.factored.room (λ m a. IsDivideRefused m (D_at w) (w_at w) e) r

  no_division : (e : RowFault) → Divided → InDivision e → ⊥
  no_division e v r =
      divide_either n up (D_at v.0) (D_at r.0) (w_at v.0) (w_at r.0) (z_at v.0) (own_pivots v.0 r.0 v.1.met r.1.met) (pushes_same v.0 r.0 v.1 r.1 v.2 r.2)
      (seen v.0 v.1.met.factored.room (λ m a. IsDivided interval_steps m a (D_at v.0) (w_at v.0) (z_at v.0)) v.3) e (division_at r.0 e r.1 r.3)

  one_division : One InDivision
  one_division d e r q =
      divide_same n up regular_up (L_at r.0) (L_at q.0) (D_at r.0) (D_at q.0) (own_factors r.0 q.0 r.1.met q.1.met) (own_pivots r.0 q.0 r.1.met q.1.met) (w_at r.0) (w_at q.0)
      (pushes_same r.0 q.0 r.1 q.1 r.2 q.2) d e (division_at r.0 d r.1 r.3) (division_at q.0 e q.1 q.3)

  substitution_at : (w : View) (e : RowFault) → AreStruck tree row k w → RefusesSubstitute w e → IsSubstituteRefused n up (L_at w) (z_at w) e
  substitution_at w e h r = seen w h.met.factored.room (λ m a. IsSubstituteRefused m a (L_at w) (z_at w) e) r

  no_substitution : (e : RowFault) → Changed → InSubstitution e → ⊥
  no_substitution e v r =
      let w = v.0 in
      let h = v.1 in
      let q = substitution_at r.0 e r.1 r.4 in
      substitute_either n up regular_up (L_at w) (L_at r.0) (own_factors w r.0 h.struck.met r.1.met) (z_at w) (z_at r.0) (quotients_same w r.0 h.struck r.1 h.pushes r.2 h.divided r.3) n (omega arith)
      h.substituted.part (x_at w) e
      (seen w h.struck.met.factored.room (λ m a. IsSubstituted interval_steps m a (L_at w) (z_at w) h.substituted.part (x_at w)) h.substituted.is) q q.fewer

  one_substitution : One InSubstitution
  one_substitution d e r q =
      substitute_same n up regular_up (L_at r.0) (L_at q.0) (D_at r.0) (D_at q.0) (own_factors r.0 q.0 r.1.met q.1.met) (own_pivots r.0 q.0 r.1.met q.1.met) (z_at r.0) (z_at q.0)
      (quotients_same r.0 q.0 r.1 q.1 r.2 q.2 r.3 q.3) d e (substitution_at r.0 d r.1 r.4) (substitution_at q.0 e q.1 q.4)

  speed_stops : (w : View) (e : RowFault) → IsSpeedRefused tree row w e → Stops n (λ c. y_rule row c w) e
  speed_stops w e r = record { place = r.column; there = column r.column r.there; until = r.until; refused = r.refused }

  no_speeds : (e : RowFault) → (w : View) → AreImpact tree row k w → InSpeeds e → ⊥
  no_speeds e w h r =
      none_stops n (λ c. y_rule row c w) (λ c. y_rule row c r.0) (speed_rules w r.0 h.changed r.1) (y_at w) e (λ c there. h.speeds.each_y c (robot_column c there)) (speed_stops r.0 e r.2)

  one_speeds : One InSpeeds
  one_speeds d e r q =
      one_stop n (λ c. y_rule row c r.0) (λ c. y_rule row c q.0) (speed_rules r.0 q.0 r.1 q.1) d e (speed_stops r.0 d r.2) (speed_stops q.0 e q.2)

  -- ---- later values have the earlier ones
  divided_of_changed : Changed → Divided
  divided_of_changed v = (v.0, v.1.struck, v.1.pushes, v.1.divided)

  pushed_of_divided : Divided → Pushed
  pushed_of_divided v = (v.0, v.1, v.2)

  struck_of_pushed : Pushed → Struck
  struck_of_pushed v = (v.0, v.1)

  sided_of_struck : Struck → Sided
  sided_of_struck v = let s : View = record v.0 { e = v.1.sides } in (s, met_stays tree row k v.0 s v.1.met, v.1.gains)

  met_of_sided : Sided → Met
  met_of_sided v = (v.0, v.1)

  rows_of_met : Met → HaveRows
  rows_of_met v = (v.0, v.1.factored, v.1.rows)

  factored_of_rows : HaveRows → Factored
  factored_of_rows v = (v.0, v.1)

  massed_of_factored : Factored → Massed
  massed_of_factored v = (given v.0 v.1, given_room v.0 v.1, given_places v.0 v.1, v.1.table)

  -- ---- from each part on
  abbrev FromSubstitution : RowFault → Type 0
  FromSubstitution e = InSubstitution e ⊎ InSpeeds e

  abbrev FromDivision : RowFault → Type 0
  FromDivision e = InDivision e ⊎ FromSubstitution e

  abbrev FromPushes : RowFault → Type 0
  FromPushes e = InPushes e ⊎ FromDivision e

  abbrev FromImpulses : RowFault → Type 0
  FromImpulses e = InImpulses e ⊎ FromPushes e

  abbrev FromSides : RowFault → Type 0
  FromSides e = InSides e ⊎ FromImpulses e

  abbrev FromCoupling : RowFault → Type 0
  FromCoupling e = InCoupling e ⊎ FromSides e

  abbrev FromRows : RowFault → Type 0
  FromRows e = InRows e ⊎ FromCoupling e

  abbrev FromFactors : RowFault → Type 0
  FromFactors e = InFactors e ⊎ FromRows e

  abbrev All : RowFault → Type 0
  All e = IsRefused tree row e ⊎ FromFactors e

  speeds_need : (e : RowFault) → InSpeeds e → Changed
  speeds_need e r = (r.0, r.1)

  substitution_needs : (e : RowFault) → FromSubstitution e → Divided
  substitution_needs e (inl r) = (r.0, r.1, r.2, r.3)
  substitution_needs e (inr r) = divided_of_changed (speeds_need e r)

  division_needs : (e : RowFault) → FromDivision e → Pushed
  division_needs e (inl r) = (r.0, r.1, r.2)
  division_needs e (inr r) = pushed_of_divided (substitution_needs e r)

  pushes_need : (e : RowFault) → FromPushes e → Struck
  pushes_need e (inl r) = (r.0, r.1)
  pushes_need e (inr r) = struck_of_pushed (division_needs e r)

  impulses_need : (e : RowFault) → FromImpulses e → Sided
  impulses_need e (inl r) = (r.0, r.1, r.2)
  impulses_need e (inr r) = sided_of_struck (pushes_need e r)

  sides_need : (e : RowFault) → FromSides e → Met
  sides_need e (inl r) = (r.0, r.1)
  sides_need e (inr r) = met_of_sided (impulses_need e r)

  coupling_needs : (e : RowFault) → FromCoupling e → HaveRows
  coupling_needs e (inl r) = (r.0, r.1, r.2)
  coupling_needs e (inr r) = rows_of_met (sides_need e r)

  rows_need : (e : RowFault) → FromRows e → Factored
  rows_need e (inl r) = (r.0, r.1)
  rows_need e (inr r) = factored_of_rows (coupling_needs e r)

  factors_need : (e : RowFault) → FromFactors e → Massed
  factors_need e (inl r) = (r.0, r.1, r.2, r.3)
  factors_need e (inr r) = massed_of_factored (rows_need e r)

  one_of_all : One All
  one_of_all =
      next (IsRefused tree row) FromFactors Massed (row_one tree row kept).refusal no_mass factors_need
      (next InFactors FromRows Factored one_factors no_factors rows_need
      (next InRows FromCoupling HaveRows one_rows no_rows coupling_needs
      (next InCoupling FromSides Met one_coupling_refusal no_coupling sides_need
      (next InSides FromImpulses Sided one_sides no_sides impulses_need
      (next InImpulses FromPushes Struck one_impulses no_impulses pushes_need
      (next InPushes FromDivision Pushed one_pushes no_pushes division_needs
      (next InDivision FromSubstitution Divided one_division no_division substitution_needs
      (next InSubstitution InSpeeds Changed one_substitution no_substitution speeds_need one_speeds))))))))

  split : (e : RowFault) → IsImpactRefused tree row k e → All e
  split e (IsImpactRefused.in_mass r) = inl r
  split e (IsImpactRefused.in_factors w i p m r) = inr (inl (w, i, p, m, r))
  split e (IsImpactRefused.in_rows w f r) = inr (inr (inl (w, f, r)))
  split e (IsImpactRefused.in_coupling w f a r) = inr (inr (inr (inl (w, f, a, r))))
  split e (IsImpactRefused.in_sides w h r) = inr (inr (inr (inr (inl (w, h, r)))))
  split e (IsImpactRefused.in_impulses w h s r) = inr (inr (inr (inr (inr (inl (w, h, s, r))))))
  split e (IsImpactRefused.in_pushes w h r) = inr (inr (inr (inr (inr (inr (inl (w, h, r)))))))
  split e (IsImpactRefused.in_division w h p r) = inr (inr (inr (inr (inr (inr (inr (inl (w, h, p, r))))))))
  split e (IsImpactRefused.in_substitution w h p d r) = inr (inr (inr (inr (inr (inr (inr (inr (inl (w, h, p, d, r)))))))))
  split e (IsImpactRefused.in_speeds w h r) = inr (inr (inr (inr (inr (inr (inr (inr (inr (w, h, r)))))))))

  either : (w : View) (e : RowFault) → AreImpact tree row k w → IsImpactRefused tree row k e → ⊥
  either w e h r = go (split e r)
    where
      changed : Changed
      changed = (w, h.changed)

      struck : Struck
      struck = struck_of_pushed (pushed_of_divided (divided_of_changed changed))

      met : Met
      met = (w, h.changed.struck.met)

      go : All e → ⊥
      go (inl r) = no_mass e (massed_of_factored (factored_of_rows (rows_of_met met))) r
      go (inr (inl r)) = no_factors e (factored_of_rows (rows_of_met met)) r
      go (inr (inr (inl r))) = no_rows e (rows_of_met met) r
      go (inr (inr (inr (inl r)))) = no_coupling e met r
      go (inr (inr (inr (inr (inl r))))) = no_sides e (sided_of_struck struck) r
      go (inr (inr (inr (inr (inr (inl r)))))) = no_impulses e struck r
      go (inr (inr (inr (inr (inr (inr (inl r))))))) = no_pushes e (pushed_of_divided (divided_of_changed changed)) r
      go (inr (inr (inr (inr (inr (inr (inr (inl r)))))))) = no_division e (divided_of_changed changed) r
      go (inr (inr (inr (inr (inr (inr (inr (inr (inl r))))))))) = no_substitution e changed r
      go (inr (inr (inr (inr (inr (inr (inr (inr (inr r))))))))) = no_speeds e w h r

  pub has_one_impact : HasOneImpact tree row k
  has_one_impact = record {
    speeds = same_speeds;
    impulses = same_impulses;
    either = either;
    refusal = λ d e r q. one_of_all d e (split d r) (split e q);
  }
