-- The mass table of each choice lies in the values of a work.
use Rattle.std.proofs.Common.{◌≡◌, ℕ, zero, suc, ◌+◌, ◌<◌, ◌≤◌, ◌==◌, ◌||◌, IsTrue, max, min, Bool, true, false, if◌then◌else◌, List, [], ◌∷◌, length, Option, None, Some, Result, Ok, Err, OnOk, inl, inr, refl, sym, ap, ◌∙◌, subst, arith}
use mathlib.Core.Path.{ap₂}
use Rattle.std.specs.List.{list_any}
use Rattle.std.specs.Option.{option_map_or}
use Rattle.std.proofs.lemmas.Bool.{cases_lt}
use Rattle.rb_result.specs.Steps.{◌>>=◌}
use Rattle.rb_result.proofs.Results.{told-ok}
use Rattle.rb_sweep.specs.Sweep.{upward, Among}
use Rattle.rb_sweep.proofs.SweepLaws.{among_range_up}
use Rattle.rb_frac.specs.Frac.{Frac, Same, fracs, mul}
use Rattle.rb_frac.specs.Spatial.{Force, Motions}
use Rattle.rb_frac.proofs.Ring.{expr, var}
use Rattle.rb_frac.proofs.Hom.{frac_ring}
use Rattle.rb_frac.proofs.Variables.{at}
use Rattle.rb_frac.proofs.Reduce.{same_sym}
use Rattle.rb_num.specs.declared.interval.NumFault.{NumFault}
use Rattle.rb_num.specs.Interval.{Interval, zero_interval, one_interval}
use Rattle.rb_num.specs.Fraction.{LiesIn}
use Rattle.rb_num.specs.Arith.{intervals}
use Rattle.rb_num.proofs.Same.{lies_in_same}
use Rattle.rb_num.proofs.Bridges.{to_intervals, one_lies}
use Rattle.rb_spatial.specs.Motions.{apply_dual}
use Rattle.rb_flat.specs.Joint as Kinds
use Rattle.rb_flat.specs.Joint.{Kind, chosen_column}
use Rattle.rb_flat.specs.Body.{chosen_inertia}
use Rattle.rb_flat.specs.Shape as Flat
use Rattle.rb_flat.specs.Choice.{Choice, IsChoice}
use Rattle.rb_flat.specs.Mechanism.{Mechanism, mechanism_of}
use Rattle.rb_flat.specs.Dynamics.{follows, followed, IsMassTable}
use Rattle.rb_flat.proofs.Superposed.{has_mass_table, torque_is_linear}
use Rattle.rb_flat.proofs.Symmetric.{mass_table_is_symmetric}
use Rattle.rb_flat.proofs.VirtualWork.{one_column}
use Rattle.rb_joint.specs.Any.{kind_of, any_column}
use Rattle.rb_joint.proofs.JointMotionLies.{column_lies}
use Rattle.rb_composite.specs.Composite.{above, ancestor, HasJointColumn}
use Rattle.rb_composite.proofs.Paths.{ancestor-next}
use Rattle.rb_work.specs.Path.{IsOn, is_on}
use Rattle.rb_work.specs.View.{View, X_at, I_at, M_at, packed_at, mass_at}
use Rattle.rb_work.proofs.PathLaws.{on_from_test, is_on_test}
use Rattle.rb_tree.specs.declared.robot.Body.{Body}
use Rattle.rb_tree.specs.declared.robot.Mimic.{Mimic}
use Rattle.rb_tree.specs.Columns.{full_columns, body_at, parent_at, full_at, first_column, body_of_column, AreUps}
use Rattle.rb_tree.specs.Numbers.{joint_at, inertia_at, mimic_at}
use Rattle.rb_tree.specs.Robot.{Tree, HasBody, HasColumn, AreBodies, mimic_brackets}
use Rattle.rb_tree.specs.Shape.{kind_at, master_of, master_at, shape_of, no_mimic, brackets_of}
use Rattle.rb_tree.specs.State.{Row, state_brackets}
use Rattle.rb_tree.specs.Places.{IsFor, ArePlaces}
use Rattle.rb_tree.proofs.Shapes.{mimics_fit}
use Rattle.rb_tree.proofs.NumbersLie.{multiplier_lies, model_of, inertia_lies}
use Rattle.rb_tree.proofs.ColumnsFit.{columns_fit, parents_first}
use Rattle.rb_tree.proofs.PlaceEncloses.{kind_same, master_same, places_enclose}
use Rattle.rb_mass.specs.Inertias as Inertias
use Rattle.rb_mass.specs.Inertias.{I_rule, bear}
use Rattle.rb_mass.specs.Entries.{leave, force, H_rule, entry_at}
use Rattle.rb_mass.specs.Table as Table
use Rattle.rb_mass.specs.Table.{ups_of, HasPair, is_led, multiplier_at, M_rule}
use Rattle.rb_mass.specs.Mass.{AreMass}
use Rattle.rb_mass.specs.Encloses.{EntriesLie, MassLies, PlacesLie, EnclosesMass, EnclosesRowMass, MassEncloses, RowMassEncloses, RowEncloses, MassGivesTorques}
use Rattle.rb_mass.proofs.Pass.{Given, Found, BodyWithin, IsWithin, IsPass, entry_of}
use Rattle.rb_mass.proofs.TablesLie.{apart_nothing, table_lies}
use Rattle.rb_mass.proofs.Ways.{ups_same, ups_are}
use Rattle.rb_mass.proofs.Pattern.{all_lead, no_mimic as none_follows, are_apart}

-- ---- the values
abbrev given : Tree → View → Given
given tree w = record {
  count = full_at tree.bodies;
  place = X_at w;
  column = λ i k. any_column (joint_at tree.bodies i) k;
  inertia = inertia_at tree.bodies;
  gear = multiplier_at tree.bodies;
  is_followed = is_led tree.bodies;
}

abbrev found : Tree → View → Found
found tree w = record { I = I_at w; force = force tree w; H = entry_at tree.bodies w }

count_same : (bodies : List Body) (i : ℕ) → full_at bodies i ≡ Kinds.column_count (kind_at bodies i)
count_same bodies i = go (body_at bodies i)
  where
    go : (o : Option Body) → option_map_or full_columns o 0 ≡ Kinds.column_count (option_map_or (λ (b : Body). kind_of b.joint) o Kinds.Fixed)
    go None = refl
    go (Some body) = refl

-- a body with another above it has a parent
has_parent : (tree : Tree) (a : ℕ) → 1 ≤ above (shape_of tree) a → (parent_at tree.bodies a == 0) ≡ false
has_parent tree zero some = absurd (omega arith)
has_parent tree (suc a) some = positive (parent_at tree.bodies (suc a)) some
  where
    positive : (n : ℕ) → 1 ≤ n → (n == 0) ≡ false
    positive n h = grind arith

left : (bodies : List Body) (w : View) (a : ℕ) (r : Result (Force Interval) NumFault) → (parent_at bodies a == 0) ≡ false
    → (r >>= λ f. leave bodies w a f) ≡ (r >>= λ f. apply_dual intervals (X_at w a) f)
unfolding leave
left bodies w a r e = ap (λ (b : Bool). r >>= λ f. if b then Ok f else apply_dual intervals (X_at w a) f) e

a_pass : (tree : Tree) (w : View) → AreMass tree w → IsPass (shape_of tree) (given tree w) (found tree w)
unfolding I_rule Inertias.add_child bear force H_rule
a_pass tree w are = record {
  each_I = λ i has. told-ok _ _ _ (are.inertias.each_I i (record { from = has.from; to = has.to }));
  first_force = λ i k has. refl;
  next_force = λ i k n has some.
      left tree.bodies w (ancestor (shape_of tree) i n) (force tree w i k n)
      (has_parent tree (ancestor (shape_of tree) i n) (subst (λ (a : ℕ). 1 ≤ a) (ancestor-next (shape_of tree) i n) some));
  each_H = λ i k n l has steps met.
      told-ok _ _ _ (are.entries.each_H i k n l
      (record { column = record { body = record { from = has.there.from; to = has.there.to }; below = subst (λ (t : ℕ). k < t) (sym (count_same tree.bodies i)) has.below }; steps = steps; below = met }));
}

entry_is : (tree : Tree) (w : View) → AreMass tree w → (c d : ℕ) → HasPair tree c d → entry_of (shape_of tree) (given tree w) (found tree w) c d ≡ Ok (M_at w c d)
unfolding M_rule Table.add_joint Table.add_column Table.add_body Table.add_pair Table.pair_adds Table.weighed Table.twice_if
entry_is tree w are c d has = told-ok _ _ _ (are.masses.each_M c d has)

-- ---- the numbers of a choice
times_one : (m : Frac) → Same m (mul m fracs.one)
times_one m = frac_ring (at (m ∷ [])) (var 0) (expr.mul (var 0) expr.one) refl

gear_lies : (master : Option ℕ) (m : Frac) (o : Option Mimic) → master ≡ master_of o → ((i : ℕ) → master ≡ Some i → LiesIn m (option_map_or mimic_brackets o no_mimic).multiplier)
    → LiesIn (followed fracs master m fracs.one) (option_map_or (λ (mimic : Mimic). mimic.multiplier) o one_interval)
gear_lies None m None e h = one_lies
gear_lies None m (Some mimic) e h = absurd cc
gear_lies (Some master) m None e h = absurd cc
gear_lies (Some master) m (Some mimic) e h = lies_in_same m (mul m fracs.one) mimic.multiplier (times_one m) (h master refl)

either_true : (a b : Bool) → b ≡ true → (a || b) ≡ true
either_true true b e = refl
either_true false b e = e

any_of : (p : ℕ → Bool) (xs : List ℕ) (i : ℕ) → Among i xs → p i ≡ true → list_any p xs ≡ true
any_of p [] i h e = absurd h
any_of p (x ∷ xs) i (inl same) e = let is : p x ≡ true = ap p (sym same) ∙ e in rw is refl
any_of p (x ∷ xs) i (inr more) e = either_true (p x) (list_any p xs) (any_of p xs i more e)

follows_is : (o : Option ℕ) (i : ℕ) → o ≡ Some i → follows o i ≡ true
follows_is None i e = absurd cc
follows_is (Some m) i e = let same : m ≡ i = cc in itself m i same
  where
    itself : (m i : ℕ) → m ≡ i → (m == i) ≡ true
    itself m i h = grind arith

-- the column of a joint that others follow
led : (tree : Tree) → AreBodies tree.bodies → (i master k : ℕ) → HasJointColumn (shape_of tree) i k → master_at tree.bodies i ≡ Some master
    → is_led tree.bodies (first_column tree.bodies i + k) ≡ true
led tree kept i master k has e =
    let fit = columns_fit tree kept in
    let may = mimics_fit tree kept i master has.there e in
    let first : first_column tree.bodies i ≡ first_column tree.bodies master = fit.follower i master has.there e in
    let own : Kinds.column_count (kind_at tree.bodies i) ≡ 1 = one_column (kind_at tree.bodies i) may.entry in
    let masters : Kinds.column_count (kind_at tree.bodies master) ≡ 1 = one_column (kind_at tree.bodies master) may.master_entry in
    let owner : body_of_column tree.bodies (first_column tree.bodies i + k) ≡ master =
    fit.alone master (first_column tree.bodies i + k) (record { there = may.there; leads = may.leads; from = omega (arith, first); below = omega (arith, first, has.below, own, masters) }) in
    any_of (λ j. follows (master_of (mimic_at tree.bodies j)) (body_of_column tree.bodies (first_column tree.bodies i + k))) (upward 1 (length tree.bodies + 1)) i
    (among_range_up 1 (length tree.bodies + 1) i (has.there.from, (let to : i ≤ length tree.bodies = has.there.to in omega arith)))
    (follows_is (master_of (mimic_at tree.bodies i)) (body_of_column tree.bodies (first_column tree.bodies i + k)) (sym (master_same tree.bodies i) ∙ e ∙ ap Some (sym owner)))

module _ (tree : Tree) (row : Row) (w : View) (kept : AreBodies tree.bodies) (c : Choice) (chosen : IsChoice (brackets_of tree) (state_brackets row) c)
    (places : PlacesLie tree (mechanism_of (shape_of tree) c) w) where
  body_within : (i : ℕ) → HasBody tree i → BodyWithin (shape_of tree) (mechanism_of (shape_of tree) c) (given tree w) i
  unfolding mechanism_of chosen_inertia
  body_within i has =
      let joint = joint_at tree.bodies i in
      let model = model_of tree row kept c chosen i has in
      record {
        count = count_same tree.bodies i;
        place = places i has;
        column = λ k l. subst (λ (n : Kind). Motions LiesIn (chosen_column n (c.joint i) k) (any_column joint k)) (sym (kind_same tree.bodies i)) (column_lies joint (c.joint i) k model);
        inertia = inertia_lies tree row kept c chosen i has;
        gear = gear_lies (master_at tree.bodies i) (c.joint i).multiplier (mimic_at tree.bodies i) (master_same tree.bodies i) (λ master e. multiplier_lies tree row c chosen i master has e);
      }

  within : IsWithin (shape_of tree) (mechanism_of (shape_of tree) c) (given tree w)
  within = record {
    world = refl;
    each = λ i has. body_within i (record { from = has.from; to = has.to });
    followed = λ i master k has e. led tree kept i master k has e;
  }

  module _ (are : AreMass tree w) (up : AreUps tree.bodies w.up) (table : ℕ → ℕ → Frac) (is : IsMassTable (shape_of tree) (mechanism_of (shape_of tree) c) table) where
    abbrev m : Mechanism Frac
    m = mechanism_of (shape_of tree) c

    parents : Flat.ParentsComeFirst (shape_of tree)
    parents = parents_first tree kept

    mimics : Flat.MimicsFit (shape_of tree)
    mimics = mimics_fit tree kept

    fit : Flat.ColumnsFit (shape_of tree)
    fit = columns_fit tree kept

    -- where the first column does not come behind the second
    ordered_lies : (a b : ℕ) → HasColumn tree a → HasColumn tree b → a ≤ b → LiesIn (table a b) (mass_at w a b)
    ordered_lies a b ha hb order = go (is_on w.up (max a b) (min a b)) refl
      where
        last : max a b ≡ b
        last = omega arith

        least : min a b ≡ a
        least = omega arith

        first : Flat.HasColumn (shape_of tree) a
        first = record { from = ha.from; to = ha.to }

        second : Flat.HasColumn (shape_of tree) b
        second = record { from = hb.from; to = hb.to }

        on_path : is_on w.up (max a b) (min a b) ≡ true → IsOn (ups_of tree) b a
        on_path e = subst (λ (us : List ℕ). IsOn us b a) (ups_same tree w.up up) (on_from_test w.up b a (sym (ap₂ (is_on w.up) last least) ∙ e))

        off_path : is_on w.up (max a b) (min a b) ≡ false → IsOn w.up b a → ⊥
        off_path e on = let is : IsTrue false = (is_on_test w.up false b a (sym e ∙ ap₂ (is_on w.up) last least)).1 on in absurd cc

        go : (t : Bool) → is_on w.up (max a b) (min a b) ≡ t → LiesIn (table a b) (if t then M_at w a b else zero_interval)
        go true e =
            table_lies (shape_of tree) m parents mimics fit table is a b first second (given tree w) (found tree w) within (a_pass tree w are) (M_at w a b)
            (entry_is tree w are a b (record { from = ha.from; order = order; to = hb.to; on = on_path e }))
        go false e =
            let off : IsOn w.up b a → ⊥ = off_path e in
            let alone = none_follows tree kept w.up up a b ha hb order off in
            lies_in_same fracs.nul (table a b) zero_interval
            (same_sym (table a b) fracs.nul
            (apart_nothing (shape_of tree) m parents mimics fit table is a b first second (λ i has. all_lead tree i alone) (are_apart tree kept w.up up a b ha hb order off)))
            to_intervals.zero

    both_orders : (a b : ℕ) → mass_at w a b ≡ mass_at w b a
    both_orders a b =
        let e : max a b ≡ max b a = omega arith in
        let f : min a b ≡ min b a = omega arith in
        ap₂ (λ (x y : ℕ). if is_on w.up x y then packed_at w x y else zero_interval) e f

    all_lie : EntriesLie tree table w
    all_lie a b ha hb =
        elim (cases_lt b a) [
          | inr order ↦ ordered_lies a b ha hb order
          | inl less ↦
              subst (λ (v : Interval). LiesIn (table a b) v) (both_orders b a)
              (lies_in_same (table b a) (table a b) (mass_at w b a)
              (mass_table_is_symmetric (shape_of tree) m table parents mimics fit is b a (record { from = hb.from; to = hb.to }) (record { from = ha.from; to = ha.to }))
              (ordered_lies b a hb ha (omega arith)))
        ]

  mass_lies : AreMass tree w → AreUps tree.bodies w.up → MassLies tree (mechanism_of (shape_of tree) c) w
  mass_lies are up = record {
    exists = has_mass_table (shape_of tree) (mechanism_of (shape_of tree) c) (parents_first tree kept) (columns_fit tree kept);
    lies = λ table is a b ha hb. all_lie are up table is a b ha hb;
  }

pub mass_encloses : MassEncloses
mass_encloses tree w kept room are = record { at = λ row c chosen places. mass_lies tree row w kept c chosen places are room.up }

places_lie : (tree : Tree) (row : Row) (w : View) → AreBodies tree.bodies → ArePlaces tree row w → (c : Choice) → IsChoice (brackets_of tree) (state_brackets row) c
    → PlacesLie tree (mechanism_of (shape_of tree) c) w
places_lie tree row w kept places c chosen i has = (places_enclose tree row w kept places).at c i chosen has

pub row_mass_encloses : RowMassEncloses
row_mass_encloses tree row w kept room places are = record {
  at = λ c chosen. mass_lies tree row w kept c chosen (places_lie tree row w kept places c chosen) are room.up;
}

pub row_encloses : RowEncloses
row_encloses tree row w kept are = record {
  at = λ c chosen. mass_lies tree row w kept c chosen (places_lie tree row w kept are.places c chosen) are.masses (ups_are tree w.up are.columns);
}

pub mass_gives_torques : MassGivesTorques
mass_gives_torques tree row w c kept room places are chosen =
    let shape = shape_of tree in
    let m = mechanism_of shape c in
    let parents = parents_first tree kept in
    let fit = columns_fit tree kept in
    let some = has_mass_table shape m parents fit in
    record {
      table = some.0;
      is = some.1;
      lies = (mass_lies tree row w kept c chosen (places_lie tree row w kept places c chosen) are room.up).lies some.0 some.1;
      gives = λ outside s bias moves at_rest k has. torque_is_linear shape m outside some.0 s bias parents fit some.1 moves at_rest k (record { from = has.from; to = has.to });
    }

-- what a call that changes I, H and M alone leaves
pub left_encloses : (tree : Tree) (before w : View) → AreBodies tree.bodies → IsFor tree before → w ≡ record before { I = w.I; H = w.H; packed = w.packed } → AreMass tree w → EnclosesMass tree w
left_encloses tree before w kept room others are =
    let after : IsFor tree (record before { I = w.I; H = w.H; packed = w.packed }) = record { bodies = room.bodies; full = room.full; up = room.up } in
    mass_encloses tree w kept (subst (λ (v : View). IsFor tree v) (sym others) after) are

-- behind the places of a row
pub behind_places : {X E : Type 0} (tree : Tree) (row : Row) (w : View) (r : Result X E) → AreBodies tree.bodies → OnOk r (ArePlaces tree row w) → OnOk r (EnclosesMass tree w) → OnOk r (EnclosesRowMass tree row w)
behind_places tree row w (Ok x) kept places encloses = record { at = λ c chosen. encloses.at row c chosen (places_lie tree row w kept places c chosen) }
behind_places tree row w (Err e) kept places encloses = tt
