-- The entries and the places, and the first refusal, are determined by the robot and the row alone.
use Rattle.std.proofs.Common.{◌≡◌, ℕ, ◌+◌, ◌*◌, ◌<◌, List, [], ◌∷◌, ◌++◌, length, Ok, Err, inl, inr, refl, ap, arith}
use Rattle.std.proofs.lemmas.List.{set-get_or}
use Rattle.rb_work.specs.Path.{Ascends}
use Rattle.rb_work.specs.View.{View, Extent, IsSized, extent_of, q_at}
use Rattle.rb_work.specs.Place.{Place, q_of, X_of, ValueOf, look, put, Rule, names}
use Rattle.rb_work.specs.declared.names.RowFault.{RowFault}
use Rattle.rb_sweep.specs.Sweep.{Among}
use Rattle.rb_sweep.specs.Naming.{Naming, IsRefusedFirst, run}
use Rattle.rb_sweep.proofs.Climbing.{climbs_upward, among_upward, run_upward}
use Rattle.rb_sweep.proofs.NamingLaws.{found, refusal, same_values, not_both, one_refusal, run_behind, refused_behind}
use Rattle.rb_work.proofs.PlaceLaws.{Inside, Call, IsCall, naming, ordered}
use Rattle.rb_work.proofs.Sizes.{room_for}
use Rattle.rb_tree.specs.Robot.{Tree, HasBody}
use Rattle.rb_tree.specs.State.{Row}
use Rattle.rb_tree.specs.Places.{X_rule, ArePlaces, PlacesHaveOneAnswer, rule, order, IsPlaceRefused}
use Rattle.rb_tree.specs.Steps.{place_step, places_of}

abbrev pub rank : Place → ℕ
rank (q_of i) = 2 * i
rank (X_of i) = 2 * i + 1
rank _ = 0

abbrev pub Own : Tree → Place → Type 0
Own tree (q_of i) = HasBody tree i
Own tree (X_of i) = HasBody tree i
Own tree _ = ⊥

abbrev pub call : Tree → Row → Extent → Call
call tree row extent = record {
  rule = rule tree row;
  order = order tree;
  extent = extent;
  rank = rank;
  Own = Own tree;
  Read = λ m. ⊥;
  rest = λ w. record w { q = []; X = [] };
  sweep = places_of tree row;
}

inside : (tree : Tree) (extent : Extent) → extent.bodies ≡ length tree.bodies → (m : Place) → Own tree m → Inside extent m
inside tree extent e (q_of i) k = let high = k.to in omega arith
inside tree extent e (X_of i) k = let high = k.to in omega arith
inside tree extent e _ k = absurd k

apart : (tree : Tree) (row : Row) (extent : Extent) (m : Place) (x : ValueOf m) (w : View) → Own tree m → (call tree row extent).rest w ≡ (call tree row extent).rest (put m x w)
apart tree row extent (q_of i) x w k = refl
apart tree row extent (X_of i) x w k = refl
apart tree row extent _ x w k = absurd k

-- the place of a body comes from its entries
pub X_reads : (tree : Tree) (i : ℕ) (s t : View) → q_at s i ≡ q_at t i → X_rule tree i s ≡ X_rule tree i t
unfolding X_rule
X_reads tree i s t h = cc

reads : (tree : Tree) (row : Row) (n : Place) (s t : View) → Own tree n → ((m : Place) → Own tree m → rank m < rank n → look m s ≡ look m t) → rule tree row n s ≡ rule tree row n t
reads tree row (q_of i) s t k h = refl
reads tree row (X_of i) s t k h = X_reads tree i s t (h (q_of i) k (omega arith))
reads tree row _ s t k h = absurd k

pub listed : (tree : Tree) (m : Place) → Own tree m → Among m (order tree)
listed tree (q_of i) k = let low = k.from in let high = k.to in among_upward (λ i. q_of i ∷ X_of i ∷ []) (q_of i) i 1 (length tree.bodies + 1) low (omega arith) (inl refl)
listed tree (X_of i) k = let low = k.from in let high = k.to in among_upward (λ i. q_of i ∷ X_of i ∷ []) (X_of i) i 1 (length tree.bodies + 1) low (omega arith) (inr (inl refl))
listed tree _ k = absurd k

module _ (tree : Tree) (row : Row) where
  pub is_call : (extent : Extent) → extent.bodies ≡ length tree.bodies → Ascends extent.up → IsCall (call tree row extent)
  unfolding place_step
  is_call extent e ascends =
      record {
        ascends = ascends;
        first = 2;
        end = 2 * (length tree.bodies + 1);
        climbs = climbs_upward rank (Own tree) (λ i. q_of i ∷ X_of i ∷ []) (λ i. 2 * i) 1 (length tree.bodies + 1) (omega arith)
            (λ i low high. let has : HasBody tree i = record { from = low; to = omega arith } in (has, omega arith, (has, omega arith, omega arith)));
        listed = listed tree;
        inside = inside tree extent e;
        apart = apart tree row extent;
        reads = λ n s t k g h. reads tree row n s t k h;
        runs = λ w. run_upward (naming (call tree row extent)) (place_step tree row) (λ i. q_of i ∷ X_of i ∷ []) 1 (length tree.bodies + 1) (λ i w low. refl) w;
      }

  -- ---- by names and by bodies
  pub are_places : (w : View) → ((m : Place) → Own tree m → rule tree row m w ≡ Ok (look m w)) → ArePlaces tree row w
  are_places w h = record { each_q = λ i k. h (q_of i) k; each_X = λ i k. h (X_of i) k }

  pub holds : (w : View) → ArePlaces tree row w → (m : Place) → Own tree m → rule tree row m w ≡ Ok (look m w)
  holds w h (q_of i) k = h.each_q i k
  holds w h (X_of i) k = h.each_X i k
  holds w h _ k = absurd k

  -- ---- what a call answers
  pub places_found : (w t : View) → IsSized w → w.bodies ≡ length tree.bodies → places_of tree row w ≡ Ok t → ArePlaces tree row t
  places_found w t sized b e = are_places t (found _ _ (ordered (call tree row (extent_of w)) (is_call (extent_of w) b sized.extent.ascends)) w t (room_for w (extent_of w) sized refl) e).holds

  pub place_refused : (w : View) (e : RowFault) → IsSized w → w.bodies ≡ length tree.bodies → places_of tree row w ≡ Err e → IsPlaceRefused tree row e
  place_refused w e sized b r =
      let h = refusal _ _ (ordered (call tree row (extent_of w)) (is_call (extent_of w) b sized.extent.ascends)) w e (room_for w (extent_of w) sized refl) r in
      record { values = h.reached; first = h.first }

  -- ---- one answer
  abbrev some_extent : Extent
  some_extent = record { bodies = length tree.bodies; full = 0; up = []; rows = 0 }

  some_call : IsCall (call tree row some_extent)
  some_call = is_call some_extent refl (λ c low high. absurd (omega arith))

  pub same_places : (u w : View) → ArePlaces tree row u → ArePlaces tree row w → (m : Place) → Own tree m → look m u ≡ look m w
  same_places u w hu hw = same_values _ _ (ordered (call tree row some_extent) some_call) u w (λ g. absurd g.1) (holds u hu) (holds w hw)

  pub places_or_refused : (u : View) (e : RowFault) → ArePlaces tree row u → IsPlaceRefused tree row e → ⊥
  places_or_refused u e hu r = not_both _ _ (ordered (call tree row some_extent) some_call) u r.values e (λ g. absurd g.1) (holds u hu) r.first

  pub one_place_refused : (d e : RowFault) → IsPlaceRefused tree row d → IsPlaceRefused tree row e → d ≡ e
  one_place_refused d e q r = one_refusal _ _ (ordered (call tree row some_extent) some_call) q.values r.values d e (λ g. absurd g.1) q.first r.first

-- ---- a row that goes on behind the places: its order begins with theirs, whose names have the same rules
-- putting the entries or the place that a work holds leaves it
held : (tree : Tree) (m : Place) (w : View) → Own tree m → put m (look m w) w ≡ w
held tree (q_of i) w k = ap (λ xs. record w { q = xs }) (set-get_or w.q i _)
held tree (X_of i) w k = ap (λ xs. record w { X = xs }) (set-get_or w.X i _)
held tree _ w k = absurd k

module _ (tree : Tree) (row : Row) (longer : Rule) (behind : List Place)
    (same : (m : Place) (w : View) → Own tree m → longer m w ≡ rule tree row m w) where
  abbrev whole : Naming View RowFault
  whole = names longer (order tree ++ behind)

  -- from a work that holds the places it is found by the names behind them
  pub run_behind_places : (w : View) → ArePlaces tree row w → run whole (order tree ++ behind) w ≡ run whole behind w
  run_behind_places w h =
      run_behind _ _ (ordered (call tree row (some_extent tree row)) (some_call tree row)) longer behind same w (λ m k. held tree m w k) (holds tree row w h)

  -- it is refused where the places are
  pub refused_in_places : (w : View) (e : RowFault) → IsRefusedFirst (names (rule tree row) (order tree)) w e → IsRefusedFirst whole w e
  refused_in_places w e f = refused_behind _ _ (ordered (call tree row (some_extent tree row)) (some_call tree row)) longer behind same w e f

pub one_answer : (tree : Tree) (row : Row) → PlacesHaveOneAnswer tree row
one_answer tree row = record {
  entries = λ u w i hu hw k. same_places tree row u w hu hw (q_of i) k;
  places = λ u w i hu hw k. same_places tree row u w hu hw (X_of i) k;
  either = λ w e. places_or_refused tree row w e;
  refusal = λ d e. one_place_refused tree row d e;
}
