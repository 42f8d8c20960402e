-- What a row of the mass table answers.
use Rattle.std.proofs.Common.{◌≡◌, ◌+◌, List, length, Result, Ok, Err, OnOk, IfErr, inl, inr, refl, ap, sym, ◌∙◌, subst}
use Rattle.rb_num.specs.Interval.{Interval}
use Rattle.rb_frac.specs.Spatial.{Place}
use Rattle.rb_result.specs.Steps.{◌>>=◌}
use Rattle.rb_sweep.specs.Sweep.{Answers}
use Rattle.rb_sweep.specs.Naming.{run}
use Rattle.rb_result.proofs.Results.{then-ok, then-err, same_ok, not-both}
use Rattle.rb_sweep.proofs.NamingLaws.{found, refusal, finds, refuses}
use Rattle.rb_work.specs.declared.names.RowFault.{RowFault}
use Rattle.rb_work.specs.View.{View, blank_of, X_at}
use Rattle.rb_work.specs.Place.{X_of, names}
use Rattle.rb_work.proofs.PlaceLaws.{IsCall, ordered}
use Rattle.rb_work.proofs.Sizes.{Sizes, blank_for}
use Rattle.rb_tree.specs.Robot.{Tree, AreBodies}
use Rattle.rb_tree.specs.State.{Row}
use Rattle.rb_tree.specs.Places.{ArePlaces, IsPlaceRefused, rule as place_rule, order as place_order}
use Rattle.rb_tree.proofs.PlacePass as places
use Rattle.rb_mass.specs.Table.{ups_of}
use Rattle.rb_mass.specs.Mass.{AreMass, AreRow, IsMassRefused, IsRefused, order, naming, table_in, extent_for, mass_of, answer_of, SamePlaces, RowHasOneAnswer, AnswerMeans}
use Rattle.rb_mass.proofs.Ways.{ups_ascend}
use Rattle.rb_mass.proofs.MassPass.{ordered as tables_ordered}
use Rattle.rb_mass.proofs.Told.{are_mass, still_mass, blank_room, start, start_fits, one_answer, answer_is, answer_refused}

-- what holds in any case holds of a success
pub on_any : {A E : Type 0} (r : Result A E) (P : Type 0) → P → OnOk r P
on_any (Ok x) P p = p
on_any (Err e) P p = tt

module _ (tree : Tree) (row : Row) where
  -- the places stand where all else changes
  pub places_still : (u w : View) → w ≡ record u { I = w.I; H = w.H; packed = w.packed } → ArePlaces tree row u → ArePlaces tree row w
  places_still u w e h =
      subst (λ (v : View). ArePlaces tree row v) (sym e)
      (record { each_q = h.each_q; each_X = λ i has. places.X_reads tree i (record u { I = w.I; H = w.H; packed = w.packed }) u refl ∙ h.each_X i has })

  module _ (kept : AreBodies tree.bodies) where
    place_call : IsCall (places.call tree row (extent_for tree))
    place_call = places.is_call tree row (extent_for tree) refl (ups_ascend tree kept)

    blank : View
    blank = blank_of (extent_for tree)

    pub row_refused : (e : RowFault) → IsPlaceRefused tree row e → answer_of tree row ≡ Err e
    unfolding answer_of blank
    row_refused e h =
        ap (λ x. x >>= λ w. mass_of tree w)
        (sym (place_call.runs blank) ∙ refuses _ _ (ordered (places.call tree row (extent_for tree)) place_call) blank h.values e (blank_for (extent_for tree)) (λ g. absurd g.1) h.first)

    -- from zeros the same places are found
    record Found (w : View) : Type 0 where
      reached : View
      answers : answer_of tree row ≡ mass_of tree reached
      long : length reached.X ≡ length tree.bodies + 1
      same : SamePlaces tree reached w

    row_found : (w : View) → ArePlaces tree row w → Found w
    unfolding answer_of blank
    row_found w h =
        let r = finds _ _ (ordered (places.call tree row (extent_for tree)) place_call) blank w (blank_for (extent_for tree)) (λ g. absurd g.1) (places.holds tree row w h) in
        record {
          reached = r.reached;
          answers = ap (λ x. x >>= λ w. mass_of tree w) (sym (place_call.runs blank) ∙ r.sweeps);
          long = ap (λ z. z.X) r.fits;
          same = λ i has. r.same (X_of i) has;
        }

    pub row_answer : {A : Type 0} (r : Result A RowFault) (w t : View) → ArePlaces tree row w → t.up ≡ ups_of tree → t ≡ record w { I = t.I; H = t.H; packed = t.packed }
        → OnOk r (AreMass tree t) → IfErr r (IsMassRefused tree w) → Answers r (answer_of tree row) (table_in tree t)
    row_answer (Ok x) w t places up e h k =
        let f : Found w = row_found w places in
        f.answers ∙ answer_is tree kept f.reached t f.long up (λ i has. f.same i has ∙ sym (ap (λ (v : View). X_at v i) e)) h
    row_answer (Err d) w t places up e h k = let f : Found w = row_found w places in f.answers ∙ answer_refused tree kept f.reached w d f.long f.same k

    -- ---- one answer
    same_rows : (u w : View) → ArePlaces tree row u → ArePlaces tree row w → SamePlaces tree u w
    same_rows u w hu hw = λ i has. places.same_places tree row u w hu hw (X_of i) has

    row_either : (w : View) (e : RowFault) → AreRow tree row w → IsRefused tree row e → ⊥
    row_either w e h (inl r) = places.places_or_refused tree row w e h.places r
    row_either w e h (inr r) = (one_answer tree kept).either w r.0 e (same_rows w r.0 h.places r.1) h.masses r.2

    row_refusal : (d e : RowFault) → IsRefused tree row d → IsRefused tree row e → d ≡ e
    row_refusal d e (inl q) (inl r) = places.one_place_refused tree row d e q r
    row_refusal d e (inl q) (inr r) = absurd (places.places_or_refused tree row r.0 d r.1 q)
    row_refusal d e (inr q) (inl r) = absurd (places.places_or_refused tree row q.0 e q.1 r)
    row_refusal d e (inr q) (inr r) = (one_answer tree kept).refusal q.0 r.0 d e (same_rows q.0 r.0 q.1 r.1) q.2 r.2

    pub row_one : RowHasOneAnswer tree row
    row_one = record {
      values = λ u w hu hw. (one_answer tree kept).values u w hu.columns hw.columns (same_rows u w hu.places hw.places) hu.masses hw.masses;
      either = row_either;
      refusal = row_refusal;
    }

    -- ---- what the answer means
    table : List (List Interval) → Result (List (List Interval)) RowFault
    table rows = Ok rows

    -- the places that are found from zeros
    record Placed (w : View) : Type 0 where
      places : ArePlaces tree row w
      long : length w.X ≡ length tree.bodies + 1

    placed : (w : View) → run (names (place_rule tree row) (place_order tree)) (place_order tree) (blank_of (extent_for tree)) ≡ Ok w → Placed w
    unfolding blank
    placed w e =
        let h = found _ _ (ordered (places.call tree row (extent_for tree)) place_call) blank w (blank_for (extent_for tree)) (place_call.runs blank ∙ e) in
        record { places = places.are_places tree row w h.holds; long = ap (λ (z : Sizes). z.X) h.fits }

    values_to : (rows : List (List Interval)) → answer_of tree row ≡ Ok rows → (w : View) × AreRow tree row w × (table_in tree w ≡ rows)
    unfolding answer_of mass_of
    values_to rows e =
        let h = then-ok (run (names (place_rule tree row) (place_order tree)) (place_order tree) (blank_of (extent_for tree))) (λ w. mass_of tree w) rows e in
        let p : Placed h.0 = placed h.0 h.1 in
        let m = then-ok (run (naming tree) (order tree) (start tree h.0)) (λ t. Ok (table_in tree t)) rows h.2 in
        let t : View = m.0 in
        let f = found _ _ (tables_ordered tree kept (extent_for tree) (blank_room tree kept)) (start tree h.0) t (start_fits tree kept h.0 p.long) m.1 in
        let w : View = record t { q = h.0.q } in
        let same : SamePlaces tree h.0 t = λ i has. ap (λ (u : View). X_at u i) f.keeps in
        let ok : Place Interval → Result (Place Interval) RowFault = λ x. Ok x in
        let stand : ArePlaces tree row w =
        record { each_q = p.places.each_q; each_X = λ i has. places.X_reads tree i w h.0 refl ∙ p.places.each_X i has ∙ ap ok (same i has) } in
        (w, record { columns = sym (ap (λ (u : View). u.up) f.keeps); places = stand; masses = still_mass tree kept t h.0.q (are_mass tree t f.holds) }, same_ok {E = RowFault} _ _ m.2)

    values_from : (rows : List (List Interval)) → (w : View) × AreRow tree row w × (table_in tree w ≡ rows) → answer_of tree row ≡ Ok rows
    unfolding table
    values_from rows h =
        let f : Found h.0 = row_found h.0 h.1.places in
        f.answers ∙ answer_is tree kept f.reached h.0 f.long h.1.columns f.same h.1.masses ∙ ap table h.2

    refused_to : (e : RowFault) → answer_of tree row ≡ Err e → IsRefused tree row e
    unfolding answer_of mass_of blank table
    refused_to e r =
        elim (then-err (run (names (place_rule tree row) (place_order tree)) (place_order tree) (blank_of (extent_for tree))) (λ w. mass_of tree w) e r) [
          | inl d ↦
              let h = refusal _ _ (ordered (places.call tree row (extent_for tree)) place_call) blank e (blank_for (extent_for tree)) (place_call.runs blank ∙ d) in
              inl (record { values = h.reached; first = h.first })
          | inr m ↦
              let p : Placed m.0 = placed m.0 m.1 in
              elim (then-err (run (naming tree) (order tree) (start tree m.0)) (λ t. table (table_in tree t)) e m.2) [
                | inl d ↦
                    let h = refusal _ _ (tables_ordered tree kept (extent_for tree) (blank_room tree kept)) (start tree m.0) e (start_fits tree kept m.0 p.long) d in
                    inr (m.0, p.places, record { values = h.reached; places = λ i has. ap (λ (u : View). X_at u i) h.keeps; first = h.first })
                | inr t ↦ absurd (not-both (table (table_in tree t.0)) (table_in tree t.0) e refl t.2)
              ]
        ]

    refused_from : (e : RowFault) → IsRefused tree row e → answer_of tree row ≡ Err e
    refused_from e (inl r) = row_refused e r
    refused_from e (inr r) = let f : Found r.0 = row_found r.0 r.1 in f.answers ∙ answer_refused tree kept f.reached r.0 e f.long f.same r.2

    pub answer_means : AnswerMeans tree row
    answer_means = record { values = λ rows. (values_to rows, values_from rows); refused = λ e. (refused_to e, refused_from e) }
