-- There is one answer of forward dynamics, from that of each of its parts.
use Rattle.std.proofs.Common.{◌≡◌, ℕ, ◌+◌, ◌-◌, ◌≤◌, max, min, Bool, true, if◌then◌else◌, List, [], length, get_or, map, inl, inr, Err, refl, sym, ap, ◌∙◌, subst, arith}
use Rattle.std.proofs.lemmas.Bool.{cases_lt}
use Rattle.std.proofs.lemmas.List.{get_or-map}
use Rattle.rb_num.specs.Interval.{Interval, zero_interval}
use Rattle.rb_result.proofs.Results.{same_ok, same_err, not-both}
use Rattle.rb_sweep.specs.Sweep.{upward}
use Rattle.rb_sweep.proofs.Climbing.{map_upward_same, length-upward, upward_at}
use Rattle.rb_elimination.specs.Paths.{IsColumn, IsRegular}
use Rattle.rb_elimination.specs.Factors.{AreFactors}
use Rattle.rb_elimination.specs.Solving.{IsFound}
use Rattle.rb_work.specs.declared.names.RowFault.{RowFault}
use Rattle.rb_work.specs.Path.{above, Ascends, IsOn, is_on}
use Rattle.rb_work.specs.View.{View, columns_of, T_at, M_at, mass_at, L_at, D_at, k_at, x_at}
use Rattle.rb_work.proofs.PathLaws.{is_on_true, on_least, on_most}
use Rattle.rb_tree.specs.Columns.{column_count}
use Rattle.rb_tree.specs.Robot.{Tree, HasColumn, AreBodies}
use Rattle.rb_tree.specs.State.{Row}
use Rattle.rb_tree.specs.Places.{IsFor}
use Rattle.rb_tree.proofs.PlacePass as places
use Rattle.rb_rnea.specs.Dynamics.{AreDynamics, IsRefused, unaccelerated}
use Rattle.rb_rnea.proofs.RowPass.{one_answer}
use Rattle.rb_mass.specs.Mass.{AreMass, IsMassRefused, table_in, SamePlaces, MassHasOneAnswer}
use Rattle.rb_mass.proofs.Ways.{ups_same as ups_are}
use Rattle.rb_mass.proofs.Told.{one_answer as mass_answer}
use Rattle.rb_factor.specs.Steps.{interval_steps}
use Rattle.rb_factor.specs.Factor.{HoldsFactors, IsFactorRefused, RefusesFactor}
use Rattle.rb_factor.specs.Solve.{IsSolveRefused}
use Rattle.rb_factor.specs.Laws.{SameTables, SameFactors, SameNumbers, HasOneFactor, HasOneSolve}
use Rattle.rb_factor.proofs.Paths.{listed_on, regular}
use Rattle.rb_factor.proofs.OneFactor.{factor_is_one}
use Rattle.rb_factor.proofs.OneSolve.{solve_is_one}
use Rattle.rb_contact.specs.Driving.{k_rule, AreDriving, IsDrivingRefused}
use Rattle.rb_contact.specs.Forward.{AreFactored, AreForward, IsPreparationRefused, IsForwardRefused, accelerations_in, HasOneForward}
use Rattle.rb_contact.proofs.Stays.{dynamics_stay}
use Rattle.rb_contact.proofs.RowEncloses.{ascends_for, in_order, found_in}

-- ---- lists of columns
pub numbered : {A : Type 0} (f : ℕ → A) (n c : ℕ) (d : A) → 1 ≤ c → c ≤ n → get_or (map f (upward 1 (n + 1))) (c - 1) d ≡ f c
numbered f n c d low high =
    let e : 1 + (c - 1) ≡ c = omega arith in
    get_or-map f (upward 1 (n + 1)) (c - 1) 0 d (omega (arith, length-upward 1 (n + 1)))
    ∙ ap f (upward_at 1 (n + 1) (c - 1) 0 (omega arith) ∙ e)

-- two lists that are the same have the same numbers
each_same : {A : Type 0} (f g : ℕ → A) (n : ℕ) (d : A) → map f (upward 1 (n + 1)) ≡ map g (upward 1 (n + 1)) → (c : ℕ) → 1 ≤ c → c ≤ n → f c ≡ g c
each_same f g n d e c low high = sym (numbered f n c d low high) ∙ ap (λ xs. get_or xs (c - 1) d) e ∙ numbered g n c d low high

-- the rule of a column reads its bias alone
rule_reads : (row : Row) (c : ℕ) (u w : View) → T_at u c ≡ T_at w c → k_rule row c u ≡ k_rule row c w
unfolding k_rule
rule_reads row c u w h = rw h refl

module _ (tree : Tree) (row : Row) (kept : AreBodies tree.bodies) where
  abbrev n : ℕ
  n = column_count tree.bodies

  abbrev one_mass : MassHasOneAnswer tree
  one_mass = mass_answer tree kept

  abbrev bias_row : Row
  bias_row = unaccelerated row

  -- ---- what the bias gives
  pub places_same : (u w : View) → AreDynamics tree bias_row u → AreDynamics tree bias_row w → SamePlaces tree u w
  places_same u w hu hw i there = (places.one_answer tree bias_row).places u w i hu.places hw.places there

  torques_same : (u w : View) → AreDynamics tree bias_row u → AreDynamics tree bias_row w → (c : ℕ) → HasColumn tree c → T_at u c ≡ T_at w c
  torques_same u w hu hw c there =
      each_same (T_at u) (T_at w) n zero_interval ((one_answer tree bias_row kept).values u w hu hw) c there.from there.to

  ups_same : (u w : View) → IsFor tree u → IsFor tree w → u.up ≡ w.up
  ups_same u w hu hw = ups_are tree u.up hu.up ∙ sym (ups_are tree w.up hw.up)

  robot_column : (u : View) → IsFor tree u → (c : ℕ) → IsColumn (columns_of u) c → HasColumn tree c
  robot_column u room c there = record { from = there.from; to = subst (λ (k : ℕ). c ≤ k) room.up.count there.to }

  -- ---- the mass table
  masses_same : (u w : View) → IsFor tree u → IsFor tree w → table_in tree u ≡ table_in tree w → (c d : ℕ) → HasColumn tree c → HasColumn tree d → mass_at u c d ≡ mass_at w c d
  masses_same u w hu hw e c d i j =
      let columns = upward 1 (n + 1) in
      each_same (mass_at u c) (mass_at w c) n zero_interval (each_same (λ b. map (mass_at u b) columns) (λ b. map (mass_at w b) columns) n [] e c i.from i.to) d j.from j.to

  -- on the paths
  some_mass : (u : View) → Ascends u.up → (c d : ℕ) → IsOn u.up c d → mass_at u c d ≡ M_at u c d
  some_mass u ascends c d on =
      let order = in_order u.up ascends c d on in
      let test : is_on u.up (max c d) (min c d) ≡ true =
      subst (λ (a : ℕ). is_on u.up a (min c d) ≡ true) (sym order.0) (subst (λ (b : ℕ). is_on u.up c b ≡ true) (sym order.1) (is_on_true u.up ascends c d on)) in
      ap (λ (b : Bool). if b then M_at u c d else zero_interval) test

  pub tables_same : (u w : View) → IsFor tree u → IsFor tree w → SamePlaces tree u w → AreMass tree u → AreMass tree w
      → SameTables (columns_of u) (above u.up) (M_at u) (M_at w)
  tables_same u w hu hw places mu mw c d there on =
      let ups = ups_same u w hu hw in
      let ascends = ascends_for tree u kept hu in
      let listed : IsOn u.up c d = listed_on u.up ascends c d there.from on in
      let least : 1 ≤ d = on_least u.up ascends c d listed in
      let most : d ≤ c = on_most u.up ascends c d listed in
      let i = robot_column u hu c there in
      let high : c ≤ n = i.to in
      sym (some_mass u ascends c d listed)
      ∙ masses_same u w hu hw (one_mass.values u w (ups_are tree u.up hu.up) (ups_are tree w.up hw.up) places mu mw) c d i (record { from = least; to = omega arith })
      ∙ some_mass w (ascends_for tree w kept hw) c d (subst (λ (ks : List ℕ). IsOn ks c d) ups listed)

  -- ---- its factors, seen with the columns of another work
  factors_at : (u w : View) (given : List Interval) → u.up ≡ w.up → (h : HoldsFactors (record w { packed = given }) w)
      → AreFactors interval_steps (columns_of u) (above u.up) (M_at (record w { packed = given })) h.table (L_at w) (D_at w)
  factors_at u w given e h =
      subst (λ (ups : List ℕ). AreFactors interval_steps (length ups) (above ups) (M_at (record w { packed = given })) h.table (L_at w) (D_at w)) (sym e) h.are

  refused_at : (u w : View) (e : RowFault) → u.up ≡ w.up → RefusesFactor w e → IsFactorRefused (columns_of u) (above u.up) (M_at w) e
  refused_at u w e same h = subst (λ (ups : List ℕ). IsFactorRefused (length ups) (above ups) (M_at w) e) (sym same) h

  -- the mass table in its place
  abbrev given : (u : View) → AreFactored tree row u → View
  given u h = record u { packed = h.mass }

  given_room : (u : View) (h : AreFactored tree row u) → IsFor tree (given u h)
  given_room u h = record { bodies = h.room.bodies; full = h.room.full; up = h.room.up }

  given_bias : (u : View) (h : AreFactored tree row u) → AreDynamics tree bias_row (given u h)
  given_bias u h = dynamics_stay tree bias_row u (given u h) h.bias

  module _ (u w : View) (hu : AreFactored tree row u) (hw : AreFactored tree row w) where
    ups : u.up ≡ w.up
    ups = ups_same u w hu.room hw.room

    own_regular : IsRegular (columns_of u) (above u.up)
    own_regular = regular u.up (ascends_for tree u kept hu.room)

    one_of : HasOneFactor (columns_of u) (above u.up) (M_at (given u hu)) (M_at (given w hw))
    one_of =
        factor_is_one (columns_of u) (above u.up) (M_at (given u hu)) (M_at (given w hw)) own_regular
        (tables_same (given u hu) (given w hw) (given_room u hu) (given_room w hw) (places_same (given u hu) (given w hw) (given_bias u hu) (given_bias w hw)) hu.table hw.table)

    pub same_factors : SameFactors (columns_of u) (above u.up) (L_at u) (L_at w)
    same_factors = one_of.factors hu.factors.table hw.factors.table (L_at u) (L_at w) (D_at u) (D_at w) hu.factors.are (factors_at u w hw.mass ups hw.factors)

    pub same_pivots : SameNumbers (columns_of u) (D_at u) (D_at w)
    same_pivots = one_of.pivots hu.factors.table hw.factors.table (L_at u) (L_at w) (D_at u) (D_at w) hu.factors.are (factors_at u w hw.mass ups hw.factors)

    rules_same : (c : ℕ) → HasColumn tree c → k_rule row c u ≡ k_rule row c w
    rules_same c there = rule_reads row c u w (torques_same u w hu.bias hw.bias c there)

    module _ (du : AreDriving tree row u) (dw : AreDriving tree row w) where
      pub same_driving : SameNumbers (columns_of u) (k_at u) (k_at w)
      same_driving c there =
          let i = robot_column u hu.room c there in
          same_ok {E = RowFault} (k_at u c) (k_at w c) (sym (du.each_k c i) ∙ rules_same c i ∙ dw.each_k c i)

      solve_of : HasOneSolve (columns_of u) (above u.up) (L_at u) (L_at w) (D_at u) (D_at w) (k_at u) (k_at w)
      solve_of =
          solve_is_one (columns_of u) (above u.up) (L_at u) (L_at w) (D_at u) (D_at w) (k_at u) (k_at w) own_regular same_factors same_pivots same_driving

      solve_refused_at : (e : RowFault) → IsSolveRefused (columns_of w) (above w.up) (L_at w) (D_at w) (k_at w) e
          → IsSolveRefused (columns_of u) (above u.up) (L_at w) (D_at w) (k_at w) e
      solve_refused_at e h = subst (λ (ks : List ℕ). IsSolveRefused (length ks) (above ks) (L_at w) (D_at w) (k_at w) e) (sym ups) h

  -- ---- what is found
  same_accelerations : (u w : View) → AreForward tree row u → AreForward tree row w → accelerations_in tree u ≡ accelerations_in tree w
  same_accelerations u w hu hw =
      let e = ups u w hu.factored hw.factored in
      let one = solve_of u w hu.factored hw.factored hu.driving hw.driving in
      let other = subst (λ (ks : List ℕ). IsFound interval_steps (length ks) (above ks) (L_at w) (D_at w) (k_at w) (x_at w)) (sym e) (found_in tree row w hw) in
      map_upward_same (x_at u) (x_at w) 1 (n + 1)
      (λ c low high. one.values (x_at u) (x_at w) (found_in tree row u hu) other c
      (record { from = low; to = subst (λ (k : ℕ). c ≤ k) (sym hu.factored.room.up.count) (omega arith) }))

  -- ---- nothing is refused whose value is there
  no_bias : (w : View) (e : RowFault) → AreDynamics tree bias_row w → IsRefused tree bias_row e → ⊥
  no_bias w e h r = (one_answer tree bias_row kept).either w e h r

  no_mass : (w v : View) (e : RowFault) → AreDynamics tree bias_row w → AreMass tree w → AreDynamics tree bias_row v → IsMassRefused tree v e → ⊥
  no_mass w v e bw mw bv r = one_mass.either w v e (places_same w v bw bv) mw r

  no_factors : (w v : View) (e : RowFault) → AreFactored tree row w → IsFor tree v → AreDynamics tree bias_row v → AreMass tree v → RefusesFactor v e → ⊥
  no_factors w v e h room bv mv r =
      let same = tables_same (given w h) v (given_room w h) room (places_same (given w h) v (given_bias w h) bv) h.table mv in
      let one = factor_is_one (columns_of w) (above w.up) (M_at (given w h)) (M_at v) (regular w.up (ascends_for tree w kept h.room)) same in
      one.either h.factors.table (L_at w) (D_at w) e h.factors.are h.factors.divisors (refused_at w v e (ups_same w v h.room room) r)

  no_driving : (w v : View) (e : RowFault) → AreFactored tree row w → AreDriving tree row w → AreFactored tree row v → IsDrivingRefused tree row v e → ⊥
  no_driving w v e hw dw hv r =
      not-both (k_rule row r.column w) (k_at w r.column) e (dw.each_k r.column r.there) (rules_same w v hw hv r.column r.there ∙ r.refused)

  no_solution : (w v : View) (e : RowFault) → AreForward tree row w → AreFactored tree row v → AreDriving tree row v
      → IsSolveRefused (columns_of v) (above v.up) (L_at v) (D_at v) (k_at v) e → ⊥
  no_solution w v e h hv dv r =
      (solve_of w v h.factored hv h.driving dv).either (x_at w) e (found_in tree row w h) (solve_refused_at w v h.factored hv h.driving dv e r)

  -- the mass table of a work that holds its factors, and the bias with it
  no_mass_behind : (w v : View) (e : RowFault) → AreFactored tree row w → AreDynamics tree bias_row v → IsMassRefused tree v e → ⊥
  no_mass_behind w v e h bv r = no_mass (given w h) v e (given_bias w h) h.table bv r

  pub no_preparation : (w : View) (e : RowFault) → AreFactored tree row w → AreDriving tree row w → IsPreparationRefused tree row e → ⊥
  no_preparation w e h d (IsPreparationRefused.in_bias r) = no_bias w e h.bias r
  no_preparation w e h d (IsPreparationRefused.in_mass v room bias r) = no_mass_behind w v e h bias r
  no_preparation w e h d (IsPreparationRefused.in_factors v room bias mass r) = no_factors w v e h room bias mass r
  no_preparation w e h d (IsPreparationRefused.in_driving v f r) = no_driving w v e h d f r

  either : (w : View) (e : RowFault) → AreForward tree row w → IsForwardRefused tree row e → ⊥
  either w e h (IsForwardRefused.in_preparation r) = no_preparation w e h.factored h.driving r
  either w e h (IsForwardRefused.in_solution v f d r) = no_solution w v e h f d r

  -- ---- one refusal
  -- where both stop at the same column
  same_stop : (u v : View) (d e : RowFault) → AreFactored tree row u → AreFactored tree row v → (r : IsDrivingRefused tree row u d) → (q : IsDrivingRefused tree row v e) → d ≡ e
  same_stop u v d e hu hv r q =
      elim (cases_lt r.column q.column) [
        | inl l ↦
            let k = q.until r.column r.there.from l in
            absurd (not-both (k_rule row r.column u) k.0 d (rules_same u v hu hv r.column r.there ∙ k.1) r.refused)
        | inr g ↦ elim (cases_lt q.column r.column) [
          | inl l ↦
              let k = r.until q.column q.there.from l in
              absurd (not-both (k_rule row q.column v) k.0 e (sym (rules_same u v hu hv q.column q.there) ∙ k.1) q.refused)
          | inr h ↦
              let same : r.column ≡ q.column = omega arith in
              same_err {A = Interval} d e (sym r.refused ∙ rules_same u v hu hv r.column r.there ∙ subst (λ (c : ℕ). k_rule row c v ≡ Err e) (sym same) q.refused)
        ]
      ]

  same_factor_refusal : (u v : View) (d e : RowFault) → IsFor tree u → AreDynamics tree bias_row u → AreMass tree u → RefusesFactor u d
      → IsFor tree v → AreDynamics tree bias_row v → AreMass tree v → RefusesFactor v e → d ≡ e
  same_factor_refusal u v d e ru bu mu r rv bv mv q =
      (factor_is_one (columns_of u) (above u.up) (M_at u) (M_at v) (regular u.up (ascends_for tree u kept ru)) (tables_same u v ru rv (places_same u v bu bv) mu mv)).refusal d e r
      (refused_at u v e (ups_same u v ru rv) q)

  pub one_preparation : (d e : RowFault) → IsPreparationRefused tree row d → IsPreparationRefused tree row e → d ≡ e
  one_preparation d e (IsPreparationRefused.in_bias r) (IsPreparationRefused.in_bias q) = (one_answer tree bias_row kept).refusal d e r q
  one_preparation d e (IsPreparationRefused.in_bias r) (IsPreparationRefused.in_mass v room bias q) = absurd (no_bias v d bias r)
  one_preparation d e (IsPreparationRefused.in_bias r) (IsPreparationRefused.in_factors v room bias mass q) = absurd (no_bias v d bias r)
  one_preparation d e (IsPreparationRefused.in_bias r) (IsPreparationRefused.in_driving v f q) = absurd (no_bias v d f.bias r)
  one_preparation d e (IsPreparationRefused.in_mass u room bias r) (IsPreparationRefused.in_bias q) = absurd (no_bias u e bias q)
  one_preparation d e (IsPreparationRefused.in_mass u room bias r) (IsPreparationRefused.in_mass v room' bias' q) = one_mass.refusal u v d e (places_same u v bias bias') r q
  one_preparation d e (IsPreparationRefused.in_mass u room bias r) (IsPreparationRefused.in_factors v room' bias' mass q) = absurd (no_mass v u d bias' mass bias r)
  one_preparation d e (IsPreparationRefused.in_mass u room bias r) (IsPreparationRefused.in_driving v f q) = absurd (no_mass_behind v u d f bias r)
  one_preparation d e (IsPreparationRefused.in_factors u room bias mass r) (IsPreparationRefused.in_bias q) = absurd (no_bias u e bias q)
  one_preparation d e (IsPreparationRefused.in_factors u room bias mass r) (IsPreparationRefused.in_mass v room' bias' q) = absurd (no_mass u v e bias mass bias' q)
  one_preparation d e (IsPreparationRefused.in_factors u room bias mass r) (IsPreparationRefused.in_factors v room' bias' mass' q) =
      same_factor_refusal u v d e room bias mass r room' bias' mass' q
  one_preparation d e (IsPreparationRefused.in_factors u room bias mass r) (IsPreparationRefused.in_driving v f q) = absurd (no_factors v u d f room bias mass r)
  one_preparation d e (IsPreparationRefused.in_driving u f r) (IsPreparationRefused.in_bias q) = absurd (no_bias u e f.bias q)
  one_preparation d e (IsPreparationRefused.in_driving u f r) (IsPreparationRefused.in_mass v room bias q) = absurd (no_mass_behind u v e f bias q)
  one_preparation d e (IsPreparationRefused.in_driving u f r) (IsPreparationRefused.in_factors v room bias mass q) = absurd (no_factors u v e f room bias mass q)
  one_preparation d e (IsPreparationRefused.in_driving u f r) (IsPreparationRefused.in_driving v g q) = same_stop u v d e f g r q

  one_refusal : (d e : RowFault) → IsForwardRefused tree row d → IsForwardRefused tree row e → d ≡ e
  one_refusal d e (IsForwardRefused.in_preparation r) (IsForwardRefused.in_preparation q) = one_preparation d e r q
  one_refusal d e (IsForwardRefused.in_preparation r) (IsForwardRefused.in_solution v g l q) = absurd (no_preparation v d g l r)
  one_refusal d e (IsForwardRefused.in_solution u f k r) (IsForwardRefused.in_preparation q) = absurd (no_preparation u e f k q)
  one_refusal d e (IsForwardRefused.in_solution u f k r) (IsForwardRefused.in_solution v g l q) =
      (solve_of u v f g k l).refusal d e r (solve_refused_at u v f g k l e q)

  pub has_one_forward : HasOneForward tree row
  has_one_forward = record { values = same_accelerations; either = either; refusal = one_refusal }
