-- What is found from zeros up to what is left of the torques.
use Rattle.std.proofs.Common.{◌≡◌, ◌≤◌, ℕ, ◌+◌, List, length, Result, Ok, Err, inl, inr, refl, sym, ap, ◌∙◌, subst, arith}
use Rattle.std.proofs.lemmas.Option.{slice_get-get_or}
use Rattle.std.proofs.lemmas.List.{length-map, get_or-map}
use Rattle.std.specs.Prelude.{Some}
use Rattle.rb_num.specs.Interval.{Interval}
use Rattle.rb_result.specs.Steps.{◌>>=◌}
use Rattle.rb_result.proofs.Results.{same_ok, then-ok, then-err, not-both}
use Rattle.rb_sweep.specs.Sweep.{upward}
use Rattle.rb_sweep.specs.Naming.{run}
use Rattle.rb_sweep.proofs.NamingLaws.{found}
use Rattle.rb_sweep.proofs.Climbing.{length-upward, upward_at}
use Rattle.rb_work.specs.declared.names.RowFault.{RowFault}
use Rattle.rb_work.specs.Place.{names}
use Rattle.rb_work.specs.View.{View, Extent, IsExtent, IsSized, extent_of, blank_of}
use Rattle.rb_work.proofs.PlaceLaws.{ordered}
use Rattle.rb_work.proofs.Sizes.{blank_for, room_for, sizes_of}
use Rattle.rb_tree.specs.Columns.{column_count, up_of, AreUps}
use Rattle.rb_tree.specs.Robot.{Tree, AreBodies}
use Rattle.rb_tree.specs.State.{Row}
use Rattle.rb_tree.specs.Places.{IsFor}
use Rattle.rb_rnea.specs.Dynamics.{AreDynamics, unaccelerated, rule, order, extent_for}
use Rattle.rb_rnea.proofs.RowPass.{HasRoom, call, is_call, row_found, row_refused}
use Rattle.rb_mass.specs.Mass.{AreMass, naming, order as mass_order}
use Rattle.rb_mass.specs.Table.{ups_of}
use Rattle.rb_mass.proofs.Ways.{ups_ascend}
use Rattle.rb_mass.proofs.Runs.{sweeps_run}
use Rattle.rb_mass.proofs.MassPass as Mass
use Rattle.rb_mass.proofs.Told.{room_of, mass_found, mass_refused}
use Rattle.rb_factor.specs.Factor.{HoldsFactors, RefusesFactor}
use Rattle.rb_factor.specs.Sweeps.{factor_of}
use Rattle.rb_factor.proofs.Answered.{factor_values, factor_refused}
use Rattle.rb_contact.specs.Driving.{driven_of, AreDriving, IsRightSide}
use Rattle.rb_contact.specs.Forward.{AreFactored, IsPreparationRefused, factored_of, prepared_of}
use Rattle.rb_contact.proofs.Sized.{sized_from}
use Rattle.rb_contact.proofs.DrivingPass.{driving_found, driving_refused}
use Rattle.rb_contact.proofs.Assembled.{room_same, bias_stays, factored_from, factored_driven}
use Rattle.rb_contact.proofs.Lengths.{factor_long, driven_long}

-- ---- the steps over a work
record FactorsFound (m f : View) : Type 0 where
  rest : f ≡ record m { packed = f.packed }
  holds : HoldsFactors m f

factors_found : (m f : View) → IsSized m → factored_of m ≡ Ok f → FactorsFound m f
factors_found m f sized e =
    let h = then-ok (factor_of m.up m.packed) (λ t. Ok (record m { packed = t })) f e in
    let same : record m { packed = h.0 } ≡ f = same_ok {E = RowFault} (record m { packed = h.0 }) f h.2 in
    subst (λ (v : View). FactorsFound m v) same (record { rest = refl; holds = factor_values m sized h.0 h.1 })

factors_not_found : (m : View) (e : RowFault) → IsSized m → factored_of m ≡ Err e → RefusesFactor m e
factors_not_found m e sized r =
    let ok : View → Result View RowFault = λ v. Ok v in
    elim (then-err (factor_of m.up m.packed) (λ t. ok (record m { packed = t })) e r) [
      | inl h ↦ factor_refused m sized e h
      | inr h ↦ absurd (not-both (ok (record m { packed = h.0 })) (record m { packed = h.0 }) e refl h.2)
    ]

-- ---- a row, in a work with so many rows of constraints
module _ (tree : Tree) (row : Row) (kept : AreBodies tree.bodies) (rows : ℕ) (limit : rows ≤ 64) where
  abbrev bias_row : Row
  bias_row = unaccelerated row

  abbrev extent : Extent
  extent = record (extent_for tree) { rows = rows }

  blank : View
  blank = blank_of (record (extent_for tree) { rows = rows })

  count_is : length (ups_of tree) ≡ column_count tree.bodies
  count_is = omega (arith, length-map (upward 1 (column_count tree.bodies + 1)) (up_of tree.bodies), length-upward 1 (column_count tree.bodies + 1))

  is_extent : IsExtent extent
  is_extent =
      let few = kept.few in
      let full = kept.few_full in
      let within = kept.columns_within in
      record { few_bodies = omega arith; few_full = omega arith; few_columns = omega (arith, count_is); few_rows = limit; ascends = ups_ascend tree kept }

  -- a blank work is one for the robot
  ups_are : AreUps tree.bodies (ups_of tree)
  ups_are = record {
    count = count_is;
    at = λ k l.
        let e : 1 + k ≡ k + 1 = omega arith in
        slice_get-get_or (ups_of tree) k 0 (omega (arith, count_is))
        ∙ ap Some (get_or-map (up_of tree.bodies) (upward 1 (column_count tree.bodies + 1)) k 0 0 (omega (arith, length-upward 1 (column_count tree.bodies + 1)))
        ∙ ap (up_of tree.bodies) (upward_at 1 (column_count tree.bodies + 1) k 0 (omega arith) ∙ e));
  }

  has_room : HasRoom tree extent
  has_room = record { bodies = refl; columns = count_is; ascends = ups_ascend tree kept }

  -- ---- the bias
  record BiasFound (u : View) : Type 0 where
    sized : IsSized u
    room : IsFor tree u
    count : u.rows ≡ rows
    bias : AreDynamics tree bias_row u

  bias_found : (u : View) → run (names (rule tree bias_row) (order tree)) (order tree) blank ≡ Ok u → BiasFound u
  unfolding blank
  bias_found u e =
      let f = found _ _ (ordered (call tree bias_row extent) (is_call tree bias_row extent kept has_room)) (blank_of extent) u (blank_for extent) e in
      record {
        sized = sized_from u extent is_extent f.fits;
        room = room_same tree (blank_of extent) u (ap (λ z. z.extent) f.fits) (record { bodies = refl; full = refl; up = ups_are });
        count = ap (λ z. z.extent.rows) f.fits;
        bias = row_found tree bias_row kept (blank_of extent) u (blank_for extent) has_room e;
      }

  -- ---- the mass table
  record MassFound (u m : View) : Type 0 where
    sized : IsSized m
    rest : m ≡ record u { I = m.I; H = m.H; packed = m.packed }
    table : AreMass tree m

  table_found : (u m : View) → BiasFound u → run (naming tree) (mass_order tree) u ≡ Ok m → MassFound u m
  table_found u m h e =
      let f = found _ _ (Mass.ordered tree kept (extent_of u) (room_of tree u h.sized h.room)) u m (room_for u (extent_of u) h.sized refl) e in
      record {
        sized = sized_from m (extent_of u) h.sized.extent f.fits;
        rest = sym (ap (λ (v : View). record v { I = m.I; H = m.H; packed = m.packed }) f.keeps);
        table = mass_found tree kept u m h.sized h.room (sweeps_run tree kept u ∙ e);
      }

  -- ---- the factors, and what they have to give
  pub record Prepared (d : View) : Type 0 where
    pub sized : IsSized d
    pub count : d.rows ≡ rows
    pub factored : AreFactored tree row d
    pub driving : AreDriving tree row d
    pub right : IsRightSide tree d

  factored_found : (u m f : View) → BiasFound u → MassFound u m → FactorsFound m f → AreFactored tree row f
  factored_found u m f hu hm hf = factored_from tree row u m f hu.room hu.bias hm.rest hm.table hf.rest hf.holds

  -- the work stays sized
  sized_driven : (m : View) (packed k w : List Interval) → IsSized m → length m.packed ≡ length packed → length m.k ≡ length k → length m.w ≡ length w
      → IsSized (record m { packed = packed; k = k; w = w })
  sized_driven m packed k w sized p q r =
      sized_from (record m { packed = packed; k = k; w = w }) (extent_of m) sized.extent
      (ap (λ (n : ℕ). record (sizes_of m) { packed = n; k = length k; w = length w }) (sym p) ∙ ap (λ (n : ℕ). record (sizes_of m) { k = n; w = length w }) (sym q)
      ∙ ap (λ (n : ℕ). record (sizes_of m) { w = n }) (sym r) ∙ room_for m (extent_of m) sized refl)

  driven_found : (m f d : View) → IsSized m → m.rows ≡ rows → factored_of m ≡ Ok f → AreFactored tree row f → driven_of tree row f ≡ Ok d → Prepared d
  driven_found m f d sized count ef are ed =
      let h = then-ok (factor_of m.up m.packed) (λ t. Ok (record m { packed = t })) f ef in
      let same : record m { packed = h.0 } ≡ f = same_ok {E = RowFault} (record m { packed = h.0 }) f h.2 in
      let f_k : length f.k ≡ column_count tree.bodies + 1 =
      ap (λ (v : View). length v.k) (sym same) ∙ sized.k ∙ ap (λ (v : View). length v.up + 1) same ∙ ap (λ (n : ℕ). n + 1) are.room.up.count in
      let f_w : length f.w ≡ column_count tree.bodies + 1 =
      ap (λ (v : View). length v.w) (sym same) ∙ sized.w ∙ ap (λ (v : View). length v.up + 1) same ∙ ap (λ (n : ℕ). n + 1) are.room.up.count in
      let g = driving_found row tree f d f_k f_w ed in
      let rest : d ≡ record m { packed = h.0; k = d.k; w = d.w } = g.rest ∙ ap (λ (v : View). record v { k = d.k; w = d.w }) (sym same) in
      record {
        sized =
            subst (λ (v : View). IsSized v) (sym rest)
            (sized_driven m h.0 d.k d.w sized (factor_long m.up m.packed h.0 h.1) (ap (λ (v : View). length v.k) same ∙ driven_long tree row f d ed)
            (ap (λ (v : View). length v.w) same ∙ sym g.long));
        count = ap (λ (v : View). v.rows) rest ∙ count;
        factored = factored_driven tree row f d are g.rest;
        driving = g.driving;
        right = g.right;
      }

  -- ---- all of it
  from_mass : View → Result View RowFault
  from_mass m = factored_of m >>= λ f. driven_of tree row f

  from_bias : View → Result View RowFault
  from_bias u = run (naming tree) (mass_order tree) u >>= λ m. from_mass m

  whole : prepared_of tree row rows ≡ (run (names (rule tree bias_row) (order tree)) (order tree) blank >>= λ u. from_bias u)
  unfolding prepared_of blank from_mass from_bias
  whole = refl

  pub prepared_found : (d : View) → prepared_of tree row rows ≡ Ok d → Prepared d
  unfolding blank from_mass from_bias
  prepared_found d e =
      let a = then-ok (run (names (rule tree bias_row) (order tree)) (order tree) blank) (λ u. from_bias u) d (sym whole ∙ e) in
      let b = then-ok (run (naming tree) (mass_order tree) a.0) (λ m. from_mass m) d a.2 in
      let c = then-ok (factored_of b.0) (λ f. driven_of tree row f) d b.2 in
      let hu = bias_found a.0 a.1 in
      let hm = table_found a.0 b.0 hu b.1 in
      driven_found b.0 c.0 d hm.sized (ap (λ (v : View). v.rows) hm.rest ∙ hu.count) c.1 (factored_found a.0 b.0 c.0 hu hm (factors_found b.0 c.0 hm.sized c.1)) c.2

  pub prepared_refused : (e : RowFault) → prepared_of tree row rows ≡ Err e → IsPreparationRefused tree row e
  unfolding blank from_mass from_bias
  prepared_refused e r =
      elim (then-err (run (names (rule tree bias_row) (order tree)) (order tree) blank) (λ u. from_bias u) e (sym whole ∙ r)) [
        | inl h ↦ IsPreparationRefused.in_bias (row_refused tree bias_row kept (blank_of extent) e (blank_for extent) has_room h)
        | inr a ↦
            let hu = bias_found a.0 a.1 in
            elim (then-err (run (naming tree) (mass_order tree) a.0) (λ m. from_mass m) e a.2) [
              | inl h ↦ IsPreparationRefused.in_mass a.0 hu.room hu.bias (mass_refused tree kept a.0 e hu.sized hu.room (sweeps_run tree kept a.0 ∙ h))
              | inr b ↦
                  let hm = table_found a.0 b.0 hu b.1 in
                  elim (then-err (factored_of b.0) (λ f. driven_of tree row f) e b.2) [
                    | inl h ↦
                        IsPreparationRefused.in_factors b.0 (room_same tree a.0 b.0 (ap extent_of hm.rest) hu.room) (bias_stays tree bias_row a.0 b.0 hm.rest hu.bias) hm.table
                        (factors_not_found b.0 e hm.sized h)
                    | inr c ↦
                        IsPreparationRefused.in_driving c.0 (factored_found a.0 b.0 c.0 hu hm (factors_found b.0 c.0 hm.sized c.1)) (driving_refused row tree c.0 e c.2)
                  ]
            ]
      ]
