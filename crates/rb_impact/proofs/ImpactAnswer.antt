-- What an impact on rows of constraints finds from zeros, and what its answer means.
use Rattle.std.proofs.Common.{◌≡◌, ◌≤◌, ◌<◌, ◌+◌, ◌-◌, ℕ, zero, suc, List, length, map, Result, Ok, Err, OnOk, IfErr, inl, inr, refl, sym, ap, ◌∙◌, subst, arith}
use mathlib.Core.Path.{ap₂}
use Rattle.std.proofs.lemmas.List.{length-map}
use Rattle.std.specs.Prelude.{slice_index_or}
use Rattle.rb_num.specs.Interval.{Interval, zero_interval}
use Rattle.rb_result.specs.Steps.{◌>>=◌}
use Rattle.rb_result.proofs.Results.{then-ok, then-err}
use Rattle.rb_sweep.specs.Sweep.{Answers, upward}
use Rattle.rb_sweep.specs.Naming.{run}
use Rattle.rb_sweep.proofs.Climbing.{length-upward}
use Rattle.rb_sweep.proofs.NamingLaws.{found, refusal}
use Rattle.rb_flat.specs.Contact.{Constraints, RowsFit}
use Rattle.rb_bordered.specs.Steps.{IsRow}
use Rattle.rb_work.specs.declared.names.RowFault.{RowFault}
use Rattle.rb_work.specs.Place.{names}
use Rattle.rb_work.specs.View.{View, Extent, IsExtent, IsSized, extent_of, blank_of, columns_of}
use Rattle.rb_work.proofs.PlaceLaws.{IsCall, ordered}
use Rattle.rb_work.proofs.Sizes.{sizes_of, room_for, blank_for}
use Rattle.rb_tree.specs.Columns.{column_count, up_of}
use Rattle.rb_tree.specs.Robot.{Tree, AreBodies}
use Rattle.rb_tree.specs.Shape.{shape_of}
use Rattle.rb_tree.specs.State.{Row}
use Rattle.rb_tree.specs.Places.{IsFor, ArePlaces, rule as place_rule, order as place_order}
use Rattle.rb_tree.proofs.PlacePass as places
use Rattle.rb_mass.specs.Mass.{AreMass, IsRefused, naming, order as mass_order, extent_for}
use Rattle.rb_mass.specs.Table.{ups_of}
use Rattle.rb_mass.proofs.Ways.{ups_ascend, ups_are}
use Rattle.rb_mass.proofs.Runs.{sweeps_run}
use Rattle.rb_mass.proofs.MassPass as Mass
use Rattle.rb_mass.proofs.Told.{room_of, mass_found, mass_refused}
use Rattle.rb_mass.proofs.RowTold.{places_still}
use Rattle.rb_factor.specs.Factor.{HoldsFactors}
use Rattle.rb_factor.specs.Sweeps.{factor_of, divide_of, substitute_of}
use Rattle.rb_factor.proofs.Answered as Factors
use Rattle.rb_constraint.specs.Rows.{AreRows}
use Rattle.rb_constraint.specs.Steps.{fills_of}
use Rattle.rb_constraint.proofs.RowPass as RowPass
use Rattle.rb_coupling.specs.Steps.{of_row}
use Rattle.rb_coupling.specs.Couple.{HoldsCoupling}
use Rattle.rb_coupling.specs.Sweeps.{couple_of, row_forces_of, added_of}
use Rattle.rb_coupling.proofs.Answered as Rows
use Rattle.rb_contact.proofs.Assembled.{room_same, rows_within}
use Rattle.rb_contact.proofs.Sized.{sized_from}
use Rattle.rb_contact.proofs.Lengths.{factor_long, divide_long, added_long}
use Rattle.rb_contact.proofs.OneForward.{numbered}
use Rattle.rb_contact.proofs.ContactAnswer.{done, not_done, resized, couples, finds_forces}
use Rattle.rb_impact.specs.Sides.{AreSides, gains_of}
use Rattle.rb_impact.specs.Pushes.{ArePushes, cleared_of}
use Rattle.rb_impact.specs.Speeds.{sped_of}
use Rattle.rb_impact.specs.Impact.{rigid, AreFactored, AreMet, AreStruck, AreChanged, AreImpact, IsImpactRefused, speeds_in, impulses_in, massed_of, met_of, struck_of, changed_of, impact_of, HasOneImpact, ImpactMeans}
use Rattle.rb_impact.proofs.Passes.{IsUnpushed, sides_found, sides_refused, sides_kept, cleared_found, clear_kept, clear_stands, speeds_found, speeds_refused, speeds_kept}
use Rattle.rb_impact.proofs.Pushed.{pushes_from, push_refused}
use Rattle.rb_impact.proofs.Struck.{factored_from, tabled_from, couple_refused, met_from, sided_from, row_divisors, struck_from, pushed_from, divisors, AreDivided, divided_from, substitution_refused, changed_from, impact_from}
use Rattle.rb_impact.proofs.OneImpact.{has_one_impact}

-- ---- single steps
abbrev ok : View → Result View RowFault
ok v = Ok v

record Factorised (m f : View) : Type 0 where
  rest : f ≡ record m { packed = f.packed }
  holds : HoldsFactors m f
  sized : IsSized f

factorises : (m f : View) → IsSized m → (factor_of m.up m.packed >>= λ t. ok (record m { packed = t })) ≡ Ok f → Factorised m f
factorises m f sized e =
    let h = done (factor_of m.up m.packed) (λ t. record m { packed = t }) f e in
    subst (λ (v : View). Factorised m v) h.2
    (record {
      rest = refl;
      holds = Factors.factor_values m sized h.0 h.1;
      sized = resized m (record m { packed = h.0 }) (ap (λ (n : ℕ). record (sizes_of m) { packed = n }) (sym (factor_long m.up m.packed h.0 h.1))) sized;
    })

-- ---- a work made for the robot, with so many rows
module _ (tree : Tree) (row : Row) (k : Constraints Interval) (kept : AreBodies tree.bodies) (fit : RowsFit (shape_of tree) k) (limit : k.rows ≤ 64) where
  abbrev extent : Extent
  extent = record (extent_for tree) { rows = k.rows }

  blank : View
  blank = blank_of (record (extent_for tree) { rows = k.rows })

  count_is : length (ups_of tree) ≡ column_count tree.bodies
  count_is = omega (arith, length-map (upward 1 (column_count tree.bodies + 1)) (up_of tree.bodies), length-upward 1 (column_count tree.bodies + 1))

  is_extent : IsExtent extent
  is_extent =
      let within = kept.columns_within in
      let few = kept.few in
      let full = kept.few_full in
      record { few_bodies = omega arith; few_full = omega arith; few_columns = omega (arith, count_is); few_rows = limit; ascends = ups_ascend tree kept }

  place_call : IsCall (places.call tree row extent)
  place_call = places.is_call tree row extent refl (ups_ascend tree kept)

  -- ---- the mass table
  record Placed (p : View) : Type 0 where
    sized : IsSized p
    room : IsFor tree p
    count : p.rows ≡ k.rows
    places : ArePlaces tree row p

  placed : (p : View) → run (names (place_rule tree row) (place_order tree)) (place_order tree) blank ≡ Ok p → Placed p
  unfolding blank
  placed p e =
      let f = found _ _ (ordered (places.call tree row extent) place_call) (blank_of extent) p (blank_for extent) (place_call.runs blank ∙ e) in
      record {
        sized = sized_from p extent is_extent f.fits;
        room = room_same tree (blank_of extent) p (ap (λ z. z.extent) f.fits) (record { bodies = refl; full = refl; up = ups_are tree (ups_of tree) refl });
        count = ap (λ z. z.extent.rows) f.fits;
        places = places.are_places tree row p f.holds;
      }

  not_placed : (e : RowFault) → run (names (place_rule tree row) (place_order tree)) (place_order tree) blank ≡ Err e → IsRefused tree row e
  unfolding blank
  not_placed e q =
      let h = refusal _ _ (ordered (places.call tree row extent) place_call) (blank_of extent) e (blank_for extent) (place_call.runs blank ∙ q) in
      inl (record { values = h.reached; first = h.first })

  record Massed (p m : View) : Type 0 where
    sized : IsSized m
    rest : m ≡ record p { I = m.I; H = m.H; packed = m.packed }
    table : AreMass tree m

  massed : (p m : View) → Placed p → run (naming tree) (mass_order tree) p ≡ Ok m → Massed p m
  massed p m h e =
      let f = found _ _ (Mass.ordered tree kept (extent_of p) (room_of tree p h.sized h.room)) p m (room_for p (extent_of p) h.sized refl) e in
      record {
        sized = sized_from m (extent_of p) h.sized.extent f.fits;
        rest = sym (ap (λ (v : View). record v { I = m.I; H = m.H; packed = m.packed }) f.keeps);
        table = mass_found tree kept p m h.sized h.room (sweeps_run tree kept p ∙ e);
      }

  mass_room : (p m : View) → Placed p → Massed p m → IsFor tree m
  mass_room p m h g = room_same tree p m (ap extent_of g.rest) h.room

  mass_places : (p m : View) → Placed p → Massed p m → ArePlaces tree row m
  mass_places p m h g = places_still tree row p m g.rest h.places

  -- the factors in its place
  record Factored (f : View) : Type 0 where
    sized : IsSized f
    count : f.rows ≡ k.rows
    are : AreFactored tree row f

  factored : (p m f : View) → Placed p → Massed p m → Factorised m f → Factored f
  factored p m f h g d = record {
    sized = d.sized;
    count = ap (λ (v : View). v.rows) d.rest ∙ ap (λ (v : View). v.rows) g.rest ∙ h.count;
    are = factored_from tree row m f (mass_room p m h g) (mass_places p m h g) g.table d.rest d.holds;
  }

  from_mass : View → Result View RowFault
  from_mass m = factor_of m.up m.packed >>= λ factors. ok (record m { packed = factors })

  from_places : View → Result View RowFault
  from_places p = run (naming tree) (mass_order tree) p >>= λ m. from_mass m

  masses : massed_of tree row k.rows ≡ (run (names (place_rule tree row) (place_order tree)) (place_order tree) blank >>= λ p. from_places p)
  unfolding massed_of blank from_mass from_places
  masses = refl

  mass_done : (f : View) → massed_of tree row k.rows ≡ Ok f → Factored f
  unfolding from_mass from_places
  mass_done f e =
      let a = then-ok (run (names (place_rule tree row) (place_order tree)) (place_order tree) blank) (λ p. from_places p) f (sym masses ∙ e) in
      let b = then-ok (run (naming tree) (mass_order tree) a.0) (λ m. from_mass m) f a.2 in
      let p = placed a.0 a.1 in
      let m = massed a.0 b.0 p b.1 in
      factored a.0 b.0 f p m (factorises b.0 f m.sized b.2)

  mass_not_done : (e : RowFault) → massed_of tree row k.rows ≡ Err e → IsImpactRefused tree row k e
  unfolding from_mass from_places
  mass_not_done e q =
      elim (then-err (run (names (place_rule tree row) (place_order tree)) (place_order tree) blank) (λ p. from_places p) e (sym masses ∙ q)) [
        | inl h ↦ IsImpactRefused.in_mass (not_placed e h)
        | inr a ↦
            let p = placed a.0 a.1 in
            elim (then-err (run (naming tree) (mass_order tree) a.0) (λ m. from_mass m) e a.2) [
              | inl h ↦ IsImpactRefused.in_mass (inr (a.0, p.places, mass_refused tree kept a.0 e p.sized p.room (sweeps_run tree kept a.0 ∙ h)))
              | inr b ↦
                  let m = massed a.0 b.0 p b.1 in
                  IsImpactRefused.in_factors b.0 (mass_room a.0 b.0 p m) (mass_places a.0 b.0 p m) m.table
                  (Factors.factor_refused b.0 m.sized e (not_done (factor_of b.0.up b.0.packed) (λ t. record b.0 { packed = t }) e b.2))
            ]
      ]

  -- ---- what an answer is to say
  abbrev pair : View → List Interval × List Interval
  pair w = (speeds_in tree w, impulses_in k w)

  abbrev answer : View → Result (List Interval × List Interval) RowFault
  answer w = Ok (speeds_in tree w, impulses_in k w)

  abbrev Told : Result (List Interval × List Interval) RowFault → Type 0
  Told (Ok numbers) = (w : View) × AreImpact tree row k w × ((speeds_in tree w, impulses_in k w) ≡ numbers)
  Told (Err e) = IsImpactRefused tree row k e

  then_told : {A : Type 0} (r : Result A RowFault) (g : A → Result (List Interval × List Interval) RowFault) → ((a : A) → r ≡ Ok a → Told (g a))
      → ((e : RowFault) → r ≡ Err e → IsImpactRefused tree row k e) → Told (r >>= g)
  then_told (Ok a) g h q = h a refl
  then_told (Err e) g h q = q e refl

  -- ---- the parts in turn
  from_changed : View → Result (List Interval × List Interval) RowFault
  from_changed x = sped_of tree row x >>= λ w. answer w

  from_cleared : View → Result (List Interval × List Interval) RowFault
  from_cleared o = changed_of k o >>= λ x. from_changed x

  from_struck : View → Result (List Interval × List Interval) RowFault
  from_struck f = cleared_of tree f >>= λ o. from_cleared o

  from_sides : View → Result (List Interval × List Interval) RowFault
  from_sides s = struck_of k s >>= λ f. from_struck f

  from_met : View → Result (List Interval × List Interval) RowFault
  from_met c = gains_of row k c >>= λ s. from_sides s

  from_rows : View → Result (List Interval × List Interval) RowFault
  from_rows r = met_of k r >>= λ c. from_met c

  from_factored : View → Result (List Interval × List Interval) RowFault
  from_factored m = fills_of tree k m >>= λ r. from_rows r

  whole : impact_of tree row k ≡ (massed_of tree row k.rows >>= λ m. from_factored m)
  unfolding impact_of from_changed from_cleared from_struck from_sides from_met from_rows from_factored
  whole = refl

  -- ---- the speeds after
  changed_told : (x : View) → AreChanged tree row k x → column_count tree.bodies < length x.y → Told (from_changed x)
  unfolding from_changed
  changed_told x h within =
      then_told (sped_of tree row x) (λ w. answer w)
      (λ w e. (w, impact_from tree row k x w h (speeds_kept tree row x w e) (speeds_found tree row x w within e), refl))
      (λ e q. IsImpactRefused.in_speeds x h (speeds_refused tree row x e q))

  -- ---- the changes
  from_quotients : View → List Interval → List Interval → Result View RowFault
  from_quotients o right quotients = substitute_of o.up o.packed quotients o.x >>= λ changes. ok (record o { w = right; z = quotients; x = changes })

  from_pushes : View → List Interval → Result View RowFault
  from_pushes o right = divide_of o.up o.packed right o.z >>= λ quotients. from_quotients o right quotients

  changes : (o : View) → changed_of k o ≡ (added_of (columns_of o) k.rows o.Y o.lam o.w >>= λ right. from_pushes o right)
  unfolding from_pushes from_quotients
  changes o = refl

  record Changed (x : View) : Type 0 where
    are : AreChanged tree row k x
    long : column_count tree.bodies < length x.y

  module _ (f o : View) (h : AreStruck tree row k f) (rest : o ≡ record f { w = o.w }) (none : IsUnpushed tree o) (own : IsSized o) (within : k.rows ≤ o.rows) where
    pushed_columns : columns_of f ≡ column_count tree.bodies
    pushed_columns = h.met.factored.room.up.count

    cleared_columns : columns_of o ≡ column_count tree.bodies
    cleared_columns = ap (λ (v : View). columns_of v) rest ∙ pushed_columns

    record Added (a : View) : Type 0 where
      struck : AreStruck tree row k a
      pushes : ArePushes tree k a
      sized : IsSized a

    added : (right : List Interval) → added_of (columns_of o) k.rows o.Y o.lam o.w ≡ Ok right → Added (record o { w = right })
    added right e = record {
      struck = pushed_from tree row k f (record o { w = right }) h (ap (λ (v : View). record v { w = right }) rest);
      pushes = pushes_from tree k limit o (record o { w = right }) cleared_columns none refl (Rows.added_values o own k.rows within right e);
      sized =
          resized o (record o { w = right }) (ap (λ (n : ℕ). record (sizes_of o) { w = n }) (sym (added_long (columns_of o) k.rows o.Y o.lam o.w right e))) own;
    }

    record Quotients (v : View) : Type 0 where
      divided : AreDivided tree row k v
      sized : IsSized v

    quotients : (a : View) (t : List Interval) → Added a → divide_of a.up a.packed a.w a.z ≡ Ok t → Quotients (record a { z = t })
    quotients a t g e = record {
      divided = divided_from tree row k a (record a { z = t }) g.struck g.pushes refl (Factors.divide_values a g.sized t e);
      sized = resized a (record a { z = t }) (ap (λ (n : ℕ). record (sizes_of a) { z = n }) (sym (divide_long a.up a.packed a.w a.z t e))) g.sized;
    }

    last : (v : View) (t : List Interval) → Quotients v → substitute_of v.up v.packed v.z v.x ≡ Ok t → Changed (record v { x = t })
    last v t g e = record {
      are = changed_from tree row k v (record v { x = t }) g.divided refl (Factors.substitute_values v g.sized t e);
      long = omega (arith, g.divided.struck.met.factored.room.up.count, g.sized.y);
    }

    changed_done : (x : View) → changed_of k o ≡ Ok x → Changed x
    unfolding from_pushes from_quotients
    changed_done x e =
        let a = then-ok (added_of (columns_of o) k.rows o.Y o.lam o.w) (λ right. from_pushes o right) x (sym (changes o) ∙ e) in
        let b = then-ok (divide_of o.up o.packed a.0 o.z) (λ t. from_quotients o a.0 t) x a.2 in
        let c = done (substitute_of o.up o.packed b.0 o.x) (λ t. record o { w = a.0; z = b.0; x = t }) x b.2 in
        subst (λ (v : View). Changed v) {x = record o { w = a.0; z = b.0; x = c.0 }} c.2
        (last (record o { w = a.0; z = b.0 }) c.0 (quotients (record o { w = a.0 }) b.0 (added a.0 a.1) b.1) c.1)

    changed_not_done : (e : RowFault) → changed_of k o ≡ Err e → IsImpactRefused tree row k e
    unfolding from_pushes from_quotients
    changed_not_done e q =
        elim (then-err (added_of (columns_of o) k.rows o.Y o.lam o.w) (λ right. from_pushes o right) e (sym (changes o) ∙ q)) [
          | inl g ↦
              IsImpactRefused.in_pushes f h (push_refused tree k limit f o e pushed_columns rest none (Rows.added_refused_of o own k.rows within e g))
          | inr a ↦
              let p = added a.0 a.1 in
              elim (then-err (divide_of o.up o.packed a.0 o.z) (λ t. from_quotients o a.0 t) e a.2) [
                | inl g ↦
                    IsImpactRefused.in_division (record o { w = a.0 }) p.struck p.pushes
                    (Factors.divide_refused (record o { w = a.0 }) p.sized (divisors tree row k (record o { w = a.0 }) p.struck) e g)
                | inr b ↦
                    let v : View = record o { w = a.0; z = b.0 } in
                    let g = quotients (record o { w = a.0 }) b.0 p b.1 in
                    substitution_refused tree row k v e g.divided
                    (Factors.substitute_refused v g.sized e (not_done (substitute_of o.up o.packed b.0 o.x) (λ t. record o { w = a.0; z = b.0; x = t }) e b.2))
              ]
        ]

    cleared_told : Told (from_cleared o)
    unfolding from_cleared
    cleared_told =
        then_told (changed_of k o) (λ x. from_changed x) (λ x e. let c = changed_done x e in changed_told x c.are c.long) (λ e q. changed_not_done e q)

  -- ---- the impulses
  struck_told : (f : View) → AreStruck tree row k f → IsSized f → k.rows ≤ f.rows → Told (from_struck f)
  unfolding from_struck
  struck_told f h sized within =
      then_told (cleared_of tree f) (λ o. from_cleared o)
      (λ o e.
      let same = clear_kept tree f o e in
      let long : column_count tree.bodies < length f.w = omega (arith, h.met.factored.room.up.count, sized.w) in
      let own : IsSized (record f { w = o.w }) = resized f (record f { w = o.w }) (ap (λ (n : ℕ). record (sizes_of f) { w = n }) same.0) sized in
      cleared_told f o h same.1 (cleared_found tree f o long e) (subst (λ (v : View). IsSized v) (sym same.1) own)
      (rows_within k.rows f o (ap (λ (v : View). v.rows) same.1) within))
      (λ e q. absurd (clear_stands tree f e q))

  sides_told : (s : View) → AreMet tree row k s → AreSides row k s → IsSized s → k.rows ≤ s.rows → Told (from_sides s)
  unfolding from_sides
  sides_told s h sides sized within =
      then_told (struck_of k s) (λ f. from_struck f)
      (λ f e.
      let g = finds_forces k s f sized within e in
      struck_told f (struck_from tree row k s f h sides g.rest g.holds) g.sized (rows_within k.rows s f (ap (λ (v : View). v.rows) g.rest) within))
      (λ e q. IsImpactRefused.in_impulses s h sides
      (Rows.forces_refused_of s sized k.rows within (row_divisors tree row k s h) e
      (not_done (row_forces_of s.rows k.rows s.pairs (s.e, s.lam)) (λ t. record s { e = t.0; lam = t.1 }) e q)))

  met_told : (c : View) → AreMet tree row k c → IsSized c → k.rows ≤ c.rows → Told (from_met c)
  unfolding from_met
  met_told c h sized within =
      then_told (gains_of row k c) (λ s. from_sides s)
      (λ s e.
      let same = sides_kept row k c s e in
      let long : k.rows < length c.e = omega (arith, within, sized.e) in
      let own : IsSized (record c { e = s.e }) = resized c (record c { e = s.e }) (ap (λ (n : ℕ). record (sizes_of c) { e = n }) same.0) sized in
      sides_told s (sided_from tree row k c s h same.1) (sides_found row k c s long e) (subst (λ (v : View). IsSized v) (sym same.1) own)
      (rows_within k.rows c s (ap (λ (v : View). v.rows) same.1) within))
      (λ e q. IsImpactRefused.in_sides c h (sides_refused row k c e q))

  -- ---- the rows
  abbrev mus : List Interval
  mus = map rigid (upward 1 (k.rows + 1))

  mus_long : length mus ≡ k.rows
  mus_long = omega (arith, length-map (upward 1 (k.rows + 1)) rigid, length-upward 1 (k.rows + 1))

  none_gives : (r : ℕ) → IsRow k.rows r → of_row mus r ≡ rigid r
  none_gives zero there = absurd (omega (arith, there.from))
  none_gives (suc r) there =
      let place : suc r - 1 ≡ r = omega arith in
      ap (λ (j : ℕ). slice_index_or mus j zero_interval) (sym place) ∙ numbered rigid k.rows (suc r) zero_interval there.from there.to

  rows_told : (r : View) → AreFactored tree row r → AreRows tree k r → IsSized r → k.rows ≤ r.rows → Told (from_rows r)
  unfolding from_rows
  rows_told r h rows sized within =
      then_told (met_of k r) (λ c. from_met c)
      (λ c e.
      let g = couples k.rows mus r c sized within e in
      let held : HoldsCoupling (length mus) r c (of_row mus) = subst (λ (R : ℕ). HoldsCoupling R r c (of_row mus)) (sym mus_long) g.holds in
      met_told c (met_from tree row k r c mus h rows mus_long none_gives g.rest held) g.sized (rows_within k.rows r c (ap (λ (v : View). v.rows) g.rest) within))
      (λ e q. couple_refused tree row k r mus e h rows mus_long none_gives
      (Rows.couple_refused r sized k.rows within mus mus_long h.factors.divisors e
      (not_done (couple_of r.up r.rows k.rows r.packed r.J mus (r.Y, r.Z, r.pairs)) (λ t. record r { Y = t.0; Z = t.1; pairs = t.2 }) e q)))

  factored_told : (m : View) → Factored m → Told (from_factored m)
  unfolding from_factored
  factored_told m h =
      let within : k.rows ≤ m.rows = omega (arith, h.count) in
      then_told (fills_of tree k m) (λ r. from_rows r)
      (λ r e.
      let room = RowPass.room_of tree k kept fit m h.sized h.are.room within in
      let f = found _ _ (ordered (RowPass.call tree k (extent_of m)) (RowPass.is_call tree k kept fit (extent_of m) room)) m r (room_for m (extent_of m) h.sized refl) e in
      let rest : r ≡ record m { O = r.O; K = r.K; J = r.J } = sym (ap (λ (v : View). record v { O = r.O; K = r.K; J = r.J }) f.keeps) in
      rows_told r (tabled_from tree row m r h.are rest) (RowPass.rows_found tree k kept fit m r h.sized h.are.room within e)
      (sized_from r (extent_of m) h.sized.extent f.fits) (rows_within k.rows m r (ap (λ (v : View). v.rows) rest) within))
      (λ e q. IsImpactRefused.in_rows m h.are (RowPass.rows_refused tree k kept fit m e h.sized h.are.room within q))

  told : Told (impact_of tree row k)
  told =
      subst (λ (r : Result (List Interval × List Interval) RowFault). Told r) (sym whole)
      (then_told (massed_of tree row k.rows) (λ m. from_factored m) (λ m e. factored_told m (mass_done m e)) (λ e q. mass_not_done e q))

  impact_found : (numbers : List Interval × List Interval) → impact_of tree row k ≡ Ok numbers
      → (w : View) × AreImpact tree row k w × ((speeds_in tree w, impulses_in k w) ≡ numbers)
  impact_found numbers e = subst (λ (r : Result (List Interval × List Interval) RowFault). Told r) e told

  impact_refused : (e : RowFault) → impact_of tree row k ≡ Err e → IsImpactRefused tree row k e
  impact_refused e q = subst (λ (r : Result (List Interval × List Interval) RowFault). Told r) q told

  -- ---- what the answer means, as there is one
  one : HasOneImpact tree row k
  one = has_one_impact tree row k kept fit

  all : List Interval × List Interval → Result (List Interval × List Interval) RowFault
  all numbers = Ok numbers

  impact_is : (w : View) → AreImpact tree row k w → impact_of tree row k ≡ Ok (speeds_in tree w, impulses_in k w)
  unfolding all
  impact_is w h = go (impact_of tree row k) refl
    where
      numbers_same : (u : View) → AreImpact tree row k u → pair u ≡ pair w
      numbers_same u hu = ap₂ (λ (xs ys : List Interval). (xs, ys)) (one.speeds u w hu h) (one.impulses u w hu h)

      go : (r : Result (List Interval × List Interval) RowFault) → impact_of tree row k ≡ r → r ≡ Ok (speeds_in tree w, impulses_in k w)
      go (Ok xs) e = let f = impact_found xs e in ap all (sym f.2 ∙ numbers_same f.0 f.1)
      go (Err e) r = absurd (one.either w e h (impact_refused e r))

  pub impact_refused_is : (e : RowFault) → IsImpactRefused tree row k e → impact_of tree row k ≡ Err e
  impact_refused_is e h = go (impact_of tree row k) refl
    where
      go : (r : Result (List Interval × List Interval) RowFault) → impact_of tree row k ≡ r → r ≡ Err e
      go (Ok xs) q = let f = impact_found xs q in absurd (one.either f.0 e f.1 h)
      go (Err d) q =
          let fault : RowFault → Result (List Interval × List Interval) RowFault = λ e. Err e in
          ap fault (one.refusal d e (impact_refused d q) h)

  pub told_impact : {A : Type 0} (r : Result A RowFault) (t : View) → OnOk r (AreImpact tree row k t) → IfErr r (IsImpactRefused tree row k)
      → Answers r (impact_of tree row k) (speeds_in tree t, impulses_in k t)
  told_impact (Ok x) t h q = impact_is t h
  told_impact (Err e) t h q = impact_refused_is e q

  pub impact_means : ImpactMeans tree row k
  unfolding all
  impact_means = record {
    values = λ numbers. (impact_found numbers, λ h. impact_is h.0 h.1 ∙ ap all h.2);
    refused = λ e. (impact_refused e, impact_refused_is e);
  }
