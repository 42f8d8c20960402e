-- What a call answers, by the laws of names that are found in turn.
use Rattle.std.proofs.Common.{◌≡◌, ℕ, ◌+◌, ◌≤◌, List, length, map, max, min, if◌then◌else◌, Bool, true, false, Result, Ok, Err, OnOk, IfErr, refl, ap, sym, ◌∙◌, arith}
use Rattle.rb_num.specs.Interval.{Interval, zero_interval}
use Rattle.rb_result.specs.Steps.{◌>>=◌}
use Rattle.rb_sweep.specs.Sweep.{Answers, upward}
use Rattle.rb_sweep.proofs.Climbing.{map_upward_same}
use Rattle.rb_sweep.proofs.NamingLaws.{found, refusal, same_values, not_both, one_refusal, finds, refuses}
use Rattle.rb_work.specs.declared.names.RowFault.{RowFault}
use Rattle.rb_work.specs.Path.{is_on}
use Rattle.rb_work.specs.View.{View, IsSized, extent_of, blank_of, X_at, M_at, mass_at}
use Rattle.rb_work.proofs.PathLaws.{on_from_test}
use Rattle.rb_work.proofs.Sizes.{Sizes, sizes_of, sizes_for, room_for, blank_for}
use Rattle.rb_tree.specs.Columns.{column_count}
use Rattle.rb_tree.specs.Robot.{Tree, AreBodies}
use Rattle.rb_tree.specs.Places.{IsFor}
use Rattle.rb_mass.specs.Table.{ups_of, HasPair}
use Rattle.rb_mass.specs.Steps.{sweeps_of}
use Rattle.rb_mass.specs.Mass.{Name, inertia, entry, carried, mass, ValueOf, rule, look, AreMass, IsMassRefused, table_in, extent_for, mass_of, SamePlaces, MassHasOneAnswer}
use Rattle.rb_mass.proofs.Ways.{ups_same, ups_ascend}
use Rattle.rb_mass.proofs.Runs.{sweeps_run}
use Rattle.rb_mass.proofs.Counts.{Known, HasRoom}
use Rattle.rb_mass.proofs.MassPass.{reads, ordered}

-- a work for the robot has room
pub room_of : (tree : Tree) (w : View) → IsSized w → IsFor tree w → HasRoom tree (extent_of w)
room_of tree w sized is = record { bodies = is.bodies; full = is.full; up = ups_same tree w.up is.up; ascends = sized.extent.ascends }

module _ (tree : Tree) where
  -- by names and by the rules of each
  pub are_mass : (w : View) → ((m : Name) → Known tree m → rule tree m w ≡ Ok (look tree m w)) → AreMass tree w
  are_mass w h = record {
    inertias = record { each_I = λ i has. h (inertia i) has };
    entries = record { each_H = λ i k n l has. h (entry i k n l) has; each_carried = λ i k has. h (carried i k) has };
    masses = record { each_M = λ c d has. h (mass c d) has };
  }

  holds : (w : View) → AreMass tree w → (m : Name) → Known tree m → rule tree m w ≡ Ok (look tree m w)
  holds w h (inertia i) has = h.inertias.each_I i has
  holds w h (entry i k n l) has = h.entries.each_H i k n l has
  holds w h (carried i k) has = h.entries.each_carried i k has
  holds w h (mass c d) has = h.masses.each_M c d has

-- a blank work with the places of another
abbrev pub start : Tree → View → View
start tree given = record (blank_of (extent_for tree)) { X = given.X }

module _ (tree : Tree) (kept : AreBodies tree.bodies) where
  -- what is read is the same with other entries
  still_look : (m : Name) (t : View) (q : List (List Interval)) → look tree m (record t { q = q }) ≡ look tree m t
  still_look (inertia i) t q = refl
  still_look (entry i k n l) t q = refl
  still_look (carried i k) t q = refl
  still_look (mass c d) t q = refl

  pub still_mass : (t : View) (q : List (List Interval)) → AreMass tree t → AreMass tree (record t { q = q })
  still_mass t q h =
      are_mass tree (record t { q = q })
      (λ m k.
      reads tree kept m (record t { q = q }) t k (λ i has. refl) (λ n there l. still_look n t q)
      ∙ holds tree t h m k
      ∙ ap (λ (x : ValueOf m). Ok x) (sym (still_look m t q)))

  -- ---- what a call leaves
  pub mass_found : (w t : View) → IsSized w → IsFor tree w → sweeps_of tree w ≡ Ok t → AreMass tree t
  mass_found w t sized is e =
      let room = room_of tree w sized is in
      are_mass tree t (found _ _ (ordered tree kept (extent_of w) room) w t (room_for w (extent_of w) sized refl) (sym (sweeps_run tree kept w) ∙ e)).holds

  pub mass_refused : (w : View) (e : RowFault) → IsSized w → IsFor tree w → sweeps_of tree w ≡ Err e → IsMassRefused tree w e
  mass_refused w e sized is r =
      let room = room_of tree w sized is in
      let h = refusal _ _ (ordered tree kept (extent_of w) room) w e (room_for w (extent_of w) sized refl) (sym (sweeps_run tree kept w) ∙ r) in
      record {
        values = h.reached;
        places = λ i has. ap (λ (u : View). X_at u i) h.keeps;
        first = h.first;
      }

  -- ---- a blank work for the robot
  pub blank_room : HasRoom tree (extent_for tree)
  blank_room = record { bodies = refl; full = refl; up = refl; ascends = ups_ascend tree kept }

  -- ---- one answer
  values_same : (u w : View) → SamePlaces tree u w → AreMass tree u → AreMass tree w → (m : Name) → Known tree m → look tree m u ≡ look tree m w
  values_same u w same hu hw =
      same_values _ _ (ordered tree kept (extent_for tree) blank_room) u w (λ g. same g.0 g.1) (holds tree u hu) (holds tree w hw)

  -- the entries of the table are the same where those of the pairs are
  mass_same : (u w : View) → u.up ≡ ups_of tree → w.up ≡ ups_of tree → ((c d : ℕ) → HasPair tree c d → M_at u c d ≡ M_at w c d)
      → (c d : ℕ) → 1 ≤ c → c ≤ column_count tree.bodies → 1 ≤ d → d ≤ column_count tree.bodies → mass_at u c d ≡ mass_at w c d
  mass_same u w eu ew h c d c_low c_high d_low d_high =
      ap (λ up. if is_on up (max c d) (min c d) then M_at u c d else zero_interval) eu
      ∙ go (is_on (ups_of tree) (max c d) (min c d)) refl
      ∙ sym (ap (λ up. if is_on up (max c d) (min c d) then M_at w c d else zero_interval) ew)
    where
      go : (b : Bool) → is_on (ups_of tree) (max c d) (min c d) ≡ b → (if b then M_at u c d else zero_interval) ≡ (if b then M_at w c d else zero_interval)
      go false e = refl
      go true e =
          let m : max (min c d) (max c d) ≡ max c d = omega arith in
          let n : min (min c d) (max c d) ≡ min c d = omega arith in
          let has : HasPair tree (min c d) (max c d) =
          record { from = omega arith; order = omega arith; to = omega arith; on = on_from_test (ups_of tree) (max c d) (min c d) e } in
          let same : M_at u (min c d) (max c d) ≡ M_at w (min c d) (max c d) = h (min c d) (max c d) has in
          rw (m, n) at same

  table_same : (u w : View) → u.up ≡ ups_of tree → w.up ≡ ups_of tree → ((c d : ℕ) → HasPair tree c d → M_at u c d ≡ M_at w c d) → table_in tree u ≡ table_in tree w
  table_same u w eu ew h =
      let n = column_count tree.bodies + 1 in
      map_upward_same (λ c. map (mass_at u c) (upward 1 n)) (λ c. map (mass_at w c) (upward 1 n)) 1 n
      (λ c low high. map_upward_same (mass_at u c) (mass_at w c) 1 n (λ d from below. mass_same u w eu ew h c d low (omega arith) from (omega arith)))

  one_table : (u w : View) → u.up ≡ ups_of tree → w.up ≡ ups_of tree → SamePlaces tree u w → AreMass tree u → AreMass tree w → table_in tree u ≡ table_in tree w
  one_table u w iu iw same hu hw = table_same u w iu iw (λ c d has. values_same u w same hu hw (mass c d) has)

  either : (u w : View) (e : RowFault) → SamePlaces tree u w → AreMass tree u → IsMassRefused tree w e → ⊥
  either u w e same hu r =
      not_both _ _ (ordered tree kept (extent_for tree) blank_room) u r.values e (λ g. same g.0 g.1 ∙ r.places g.0 g.1) (holds tree u hu) r.first

  one_refused : (u w : View) (d e : RowFault) → SamePlaces tree u w → IsMassRefused tree u d → IsMassRefused tree w e → d ≡ e
  one_refused u w d e same q r =
      one_refusal _ _ (ordered tree kept (extent_for tree) blank_room) q.values r.values d e
      (λ g. sym (q.places g.0 g.1) ∙ same g.0 g.1 ∙ r.places g.0 g.1) q.first r.first

  pub one_answer : MassHasOneAnswer tree
  one_answer = record { values = one_table; either = either; refusal = one_refused }

  -- ---- from zeros
  pub start_fits : (given : View) → length given.X ≡ length tree.bodies + 1 → sizes_of (start tree given) ≡ sizes_for (extent_for tree)
  start_fits given h =
      ap (λ n. record (sizes_of (blank_of (extent_for tree))) { X = n }) h ∙ ap (λ (z : Sizes). record z { X = length tree.bodies + 1 }) (blank_for (extent_for tree))

  table : List (List Interval) → Result (List (List Interval)) RowFault
  table rows = Ok rows

  pub answer_is : (given w : View) → length given.X ≡ length tree.bodies + 1 → w.up ≡ ups_of tree → SamePlaces tree given w → AreMass tree w → mass_of tree given ≡ Ok (table_in tree w)
  unfolding mass_of table
  answer_is given w long up same h =
      let r = finds _ _ (ordered tree kept (extent_for tree) blank_room) (start tree given) w (start_fits given long) (λ g. same g.0 g.1) (holds tree w h) in
      let up_kept : r.reached.up ≡ ups_of tree = sym (ap (λ (u : View). u.up) r.keeps) in
      ap (λ x. x >>= λ t. table (table_in tree t)) r.sweeps ∙ ap table (table_same r.reached w up_kept up (λ c d has. r.same (mass c d) has))

  pub answer_refused : (given w : View) (e : RowFault) → length given.X ≡ length tree.bodies + 1 → SamePlaces tree given w → IsMassRefused tree w e → mass_of tree given ≡ Err e
  unfolding mass_of table
  answer_refused given w e long same r =
      ap (λ x. x >>= λ t. table (table_in tree t))
      (refuses _ _ (ordered tree kept (extent_for tree) blank_room) (start tree given) r.values e (start_fits given long)
      (λ g. same g.0 g.1 ∙ r.places g.0 g.1) r.first)

  pub told_answer : {A : Type 0} (r : Result A RowFault) (given t : View) → length given.X ≡ length tree.bodies + 1 → t.up ≡ ups_of tree → SamePlaces tree given t
      → OnOk r (AreMass tree t) → IfErr r (IsMassRefused tree given) → Answers r (mass_of tree given) (table_in tree t)
  told_answer (Ok x) given t long up same h k = answer_is given t long up same h
  told_answer (Err e) given t long up same h k = answer_refused given given e long (λ i has. refl) k
