-- The sweeps behind the places leave what a run over the names of a row does.
use Rattle.std.proofs.Common.{◌≡◌, ℕ, zero, suc, ◌+◌, ◌≤◌, List, [], ◌∷◌, ◌++◌, length, Result, Ok, Err, refl, ap, sym, ◌∙◌, arith}
use Rattle.rb_result.specs.Steps.{◌>>=◌}
use Rattle.rb_work.specs.View.{View, Extent, extent_of}
use Rattle.rb_work.specs.Zeros.{zero_motion}
use Rattle.rb_work.specs.Place.{Place, q_of, X_of, s_of, v_of, put}
use Rattle.rb_work.specs.declared.names.RowFault.{RowFault}
use Rattle.rb_sweep.specs.Naming.{Naming, run}
use Rattle.rb_sweep.proofs.Climbing.{run_append, run_upward}
use Rattle.rb_sweep.proofs.NamingLaws.{IsOrdered}
use Rattle.rb_work.proofs.PlaceLaws.{naming, ordered, shape}
use Rattle.rb_work.proofs.Sizes.{sizes_of, sizes_for}
use Rattle.rb_tree.specs.Robot.{Tree, AreBodies}
use Rattle.rb_tree.specs.State.{Row}
use Rattle.rb_tree.specs.Places.{ArePlaces, IsPlaceRefused, rule as place_rule}
use Rattle.rb_tree.proofs.PlacePass as places
use Rattle.rb_rnea.specs.Speeds.{order as speed_order}
use Rattle.rb_rnea.specs.Steps.{speed_step, speeds_of}
use Rattle.rb_rnea.proofs.RowPass.{HasRoom}
use Rattle.rb_aba.specs.Articulated as Up
use Rattle.rb_aba.specs.Accelerations as Down
use Rattle.rb_aba.specs.Steps.{downs_of, sweeps_of}
use Rattle.rb_aba.specs.Forward.{AllLead, AreFirst, AreForward, rule, IsRefused}
use Rattle.rb_aba.proofs.RowNames.{run_of, call}
use Rattle.rb_aba.proofs.RowOrder.{is_call}
use Rattle.rb_aba.proofs.RowAnswer.{row_found, row_refused, found_again}
use Rattle.rb_aba.proofs.Alike.{Alike, value_alike, value_back, fault_alike}
use Rattle.rb_aba.proofs.FirstSteps.{ups_found, sweeps_found}
use Rattle.rb_aba.proofs.Leaving.{Leaves, sweeps_leave}
use Rattle.rb_aba.proofs.Chains.{then_same_where, run_fits}
use Rattle.rb_aba.proofs.UpRun.{ups_run}
use Rattle.rb_aba.proofs.DownRun.{downs_run}

-- the names behind the places
abbrev behind_places : Tree → List Place
behind_places tree = speed_order tree ++ (Up.order tree ++ Down.order tree)

speed_run : (tree : Tree) (row : Row) (extent : Extent) (i : ℕ) (w : View) → 1 ≤ i → speed_step tree row i w ≡ run (naming (call tree row extent)) (s_of i ∷ v_of i ∷ []) w
unfolding speed_step
speed_run tree row extent zero w low = absurd (omega arith)
speed_run tree row extent (suc i) w low = refl

places_same : (tree : Tree) (row : Row) (m : Place) (w : View) → places.Own tree m → rule tree row m w ≡ place_rule tree row m w
places_same tree row (q_of i) w k = refl
places_same tree row (X_of i) w k = refl
places_same tree row _ w k = absurd k

module _ (tree : Tree) (row : Row) (kept : AreBodies tree.bodies) (lead : AllLead tree) where
  module _ (extent : Extent) (room : HasRoom tree extent) where
    abbrev p : Naming View RowFault
    p = naming (call tree row extent)

    o : IsOrdered (naming (call tree row extent)) (shape (call tree row extent))
    o = ordered (call tree row extent) (is_call tree kept lead row extent room)

    speeds_run : (w : View) → speeds_of tree row w ≡ run p (speed_order tree) w
    speeds_run w = run_upward p (speed_step tree row) (λ i. s_of i ∷ v_of i ∷ []) 1 (length tree.bodies + 1) (speed_run tree row extent) (put (v_of 0) zero_motion w)

    speeds_fit : (w v : View) → sizes_of w ≡ sizes_for extent → speeds_of tree row w ≡ Ok v → sizes_of v ≡ sizes_for extent
    speeds_fit w v f e = run_fits p (λ t. sizes_of t ≡ sizes_for extent) (λ n x s g. o.put_fits n x s g) (speed_order tree) w v f (sym (speeds_run w) ∙ e)

    sweeps_run : (w : View) → sizes_of w ≡ sizes_for extent → sweeps_found tree row w ≡ run p (behind_places tree) w
    sweeps_run w f =
        ap (λ (r : Result View RowFault). r >>= λ v. (ups_found tree row v >>= λ u. downs_of tree row u)) (speeds_run w)
        ∙ then_same_where (run p (speed_order tree) w) _ _ (λ v e.
        let fv = run_fits p (λ t. sizes_of t ≡ sizes_for extent) (λ n x s g. o.put_fits n x s g) (speed_order tree) w v f e in
        ap (λ (r : Result View RowFault). r >>= λ u. downs_of tree row u) (ups_run tree row kept lead extent room v fv)
        ∙ then_same_where (run p (Up.order tree) v) _ _ (λ u d.
        downs_run tree row kept lead extent room u (run_fits p (λ t. sizes_of t ≡ sizes_for extent) (λ n x s g. o.put_fits n x s g) (Up.order tree) v u fv d))
        ∙ sym (run_append p (Up.order tree) (Down.order tree) v))
        ∙ sym (run_append p (speed_order tree) (Up.order tree ++ Down.order tree) w)

  whole_run : (w : View) → sizes_of w ≡ sizes_for (extent_of w) → HasRoom tree (extent_of w) → ArePlaces tree row w → sweeps_found tree row w ≡ run_of tree row w
  whole_run w f room h =
      sweeps_run (extent_of w) room w f ∙ sym (places.run_behind_places tree row (rule tree row) (behind_places tree) (places_same tree row) w h)

  leave : (w : View) → sizes_of w ≡ sizes_for (extent_of w) → HasRoom tree (extent_of w) → Alike (Leaves tree) (sweeps_found tree row w) (sweeps_of tree row w)
  leave w f room = sweeps_leave tree row kept lead (extent_of w) room w (λ v e. speeds_fit (extent_of w) room w v f e)

  forward_from : (first w : View) → AreFirst tree row first → Leaves tree first w → AreForward tree row w
  forward_from first w h l = record { first = first; found = h; rest = l.rest; last = l.last }

  pub behind_found : (w t : View) → sizes_of w ≡ sizes_for (extent_of w) → HasRoom tree (extent_of w) → ArePlaces tree row w → sweeps_of tree row w ≡ Ok t → AreForward tree row t
  behind_found w t f room h e =
      let m = value_alike (Leaves tree) (sweeps_found tree row w) (sweeps_of tree row w) t (leave w f room) e in
      forward_from m.0 t (row_found tree row kept lead w m.0 f room (sym (whole_run w f room h) ∙ m.1)) m.2

  pub behind_refused : (w : View) (e : RowFault) → sizes_of w ≡ sizes_for (extent_of w) → HasRoom tree (extent_of w) → ArePlaces tree row w → sweeps_of tree row w ≡ Err e → IsRefused tree row e
  behind_refused w e f room h r =
      row_refused tree row kept lead w e f room
      (sym (whole_run w f room h) ∙ fault_alike (Leaves tree) (sweeps_found tree row w) (sweeps_of tree row w) e (leave w f room) r)

  -- where there are first values, there is what the code leaves
  pub forward_for : (w : View) → sizes_of w ≡ sizes_for (extent_of w) → HasRoom tree (extent_of w) → AreFirst tree row w → (t : View) × AreForward tree row t
  forward_for w f room h =
      let again = found_again tree row kept lead w f room h in
      let m = value_back (Leaves tree) (sweeps_found tree row w) (sweeps_of tree row w) again.0 (leave w f room) (whole_run w f room h.places ∙ again.1) in
      (m.0, forward_from again.0 m.0 (row_found tree row kept lead w again.0 f room again.1) m.2)

  -- what is refused among the places is refused in the row
  pub places_refused : (e : RowFault) → IsPlaceRefused tree row e → IsRefused tree row e
  places_refused e h =
      record { values = h.values; first = places.refused_in_places tree row (rule tree row) (behind_places tree) (places_same tree row) h.values e h.first }
