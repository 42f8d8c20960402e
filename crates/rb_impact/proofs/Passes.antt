-- What the sweeps of an impact leave, and where they are refused.
use Rattle.std.proofs.Common.{◌≡◌, ℕ, ◌+◌, ◌<◌, [], length, slice_set, Result, Ok, Err, refl, sym, ap}
use Rattle.std.proofs.lemmas.List.{get_or-set_same, get_or-set_other, length-set}
use Rattle.rb_num.specs.Interval.{Interval, zero_interval}
use Rattle.rb_result.specs.Steps.{◌>>=◌}
use Rattle.rb_result.proofs.Results.{same_ok, not-both}
use Rattle.rb_sweep.specs.Sweep.{upward}
use Rattle.rb_flat.specs.Contact.{Constraints}
use Rattle.rb_work.specs.declared.names.RowFault.{RowFault}
use Rattle.rb_work.specs.View.{View, w_at, e_at, y_at}
use Rattle.rb_tree.specs.Columns.{column_count}
use Rattle.rb_tree.specs.Robot.{Tree, HasColumn}
use Rattle.rb_tree.specs.State.{Row}
use Rattle.rb_impact.specs.Sides.{e_rule, side_step, gains_of, AreSides, IsSideRefused}
use Rattle.rb_impact.specs.Pushes.{clear_step, cleared_of}
use Rattle.rb_impact.specs.Speeds.{y_rule, speed_step, sped_of, AreSpeeds, IsSpeedRefused}
use Rattle.rb_impact.proofs.OnePass.{Table, IsTable, kept, pass_found, pass_refused}

-- ---- what the rows have to gain
abbrev sides_table : Row → Constraints Interval → Table
sides_table row k = record { at = e_at; long = λ w. length w.e; rest = λ w. record w { e = [] }; put = λ r x w. record w { e = slice_set w.e r x }; rule = e_rule row k }

sides_are : (row : Row) (k : Constraints Interval) → IsTable (sides_table row k)
unfolding e_rule
sides_are row k = record {
  same = λ r x w l. get_or-set_same w.e r x zero_interval l;
  other = λ r q x w ne. get_or-set_other w.e r q x zero_interval ne;
  keeps = λ r x w. length-set w.e r x;
  apart = λ r x w. refl;
  stays = λ r q x w. refl;
}

side_is : (row : Row) (k : Constraints Interval) (r : ℕ) (w : View) → side_step row k r w ≡ (e_rule row k r w >>= λ x. Ok (record w { e = slice_set w.e r x }))
unfolding side_step
side_is row k r w = refl

pub sides_found : (row : Row) (k : Constraints Interval) (w t : View) → k.rows < length w.e → gains_of row k w ≡ Ok t → AreSides row k t
sides_found row k w t long e = record {
  each_e = λ r there. pass_found (sides_table row k) (sides_are row k) (side_step row k) (side_is row k) k.rows w t long e r there.from there.to;
}

pub sides_kept : (row : Row) (k : Constraints Interval) (w t : View) → gains_of row k w ≡ Ok t → (length t.e ≡ length w.e) × (t ≡ record w { e = t.e })
sides_kept row k w t e =
    let h = kept (sides_table row k) (sides_are row k) (side_step row k) (side_is row k) (upward 1 (k.rows + 1)) w t e in
    (h.long, ap (λ (v : View). record v { e = t.e }) h.rest)

pub sides_refused : (row : Row) (k : Constraints Interval) (w : View) (e : RowFault) → gains_of row k w ≡ Err e → IsSideRefused row k w e
sides_refused row k w e r =
    let h = pass_refused (sides_table row k) (sides_are row k) (side_step row k) (side_is row k) k.rows w e r in
    record { number = h.place; there = record { from = h.from; to = h.to }; until = h.until; refused = h.refused }

-- ---- nothing on any column
pub record IsUnpushed (tree : Tree) (w : View) : Type 0 where
  pub each_w : (c : ℕ) → HasColumn tree c → w_at w c ≡ zero_interval

abbrev clear_rule : ℕ → View → Result Interval RowFault
clear_rule c w = Ok zero_interval

abbrev clear_table : Table
clear_table = record { at = w_at; long = λ w. length w.w; rest = λ w. record w { w = [] }; put = λ c x w. record w { w = slice_set w.w c x }; rule = clear_rule }

clear_are : IsTable clear_table
clear_are = record {
  same = λ c x w l. get_or-set_same w.w c x zero_interval l;
  other = λ c d x w ne. get_or-set_other w.w c d x zero_interval ne;
  keeps = λ c x w. length-set w.w c x;
  apart = λ c x w. refl;
  stays = λ c d x w. refl;
}

clear_is : (c : ℕ) (w : View) → clear_step c w ≡ (clear_rule c w >>= λ x. Ok (record w { w = slice_set w.w c x }))
unfolding clear_step
clear_is c w = refl

pub cleared_found : (tree : Tree) (w t : View) → column_count tree.bodies < length w.w → cleared_of tree w ≡ Ok t → IsUnpushed tree t
cleared_found tree w t long e = record {
  each_w = λ c there.
      sym (same_ok {E = RowFault} zero_interval (w_at t c) (pass_found clear_table clear_are clear_step clear_is (column_count tree.bodies) w t long e c there.from there.to));
}

pub clear_kept : (tree : Tree) (w t : View) → cleared_of tree w ≡ Ok t → (length t.w ≡ length w.w) × (t ≡ record w { w = t.w })
clear_kept tree w t e =
    let h = kept clear_table clear_are clear_step clear_is (upward 1 (column_count tree.bodies + 1)) w t e in
    (h.long, ap (λ (v : View). record v { w = t.w }) h.rest)

-- ---- the speeds after
abbrev speeds_table : Row → Table
speeds_table row = record { at = y_at; long = λ w. length w.y; rest = λ w. record w { y = [] }; put = λ c x w. record w { y = slice_set w.y c x }; rule = y_rule row }

speeds_are : (row : Row) → IsTable (speeds_table row)
unfolding y_rule
speeds_are row = record {
  same = λ c x w l. get_or-set_same w.y c x zero_interval l;
  other = λ c d x w ne. get_or-set_other w.y c d x zero_interval ne;
  keeps = λ c x w. length-set w.y c x;
  apart = λ c x w. refl;
  stays = λ c d x w. refl;
}

speed_is : (row : Row) (c : ℕ) (w : View) → speed_step row c w ≡ (y_rule row c w >>= λ x. Ok (record w { y = slice_set w.y c x }))
unfolding speed_step
speed_is row c w = refl

pub speeds_found : (tree : Tree) (row : Row) (w t : View) → column_count tree.bodies < length w.y → sped_of tree row w ≡ Ok t → AreSpeeds tree row t
speeds_found tree row w t long e = record {
  each_y = λ c there. pass_found (speeds_table row) (speeds_are row) (speed_step row) (speed_is row) (column_count tree.bodies) w t long e c there.from there.to;
}

pub speeds_kept : (tree : Tree) (row : Row) (w t : View) → sped_of tree row w ≡ Ok t → t ≡ record w { y = t.y }
speeds_kept tree row w t e =
    ap (λ (v : View). record v { y = t.y }) (kept (speeds_table row) (speeds_are row) (speed_step row) (speed_is row) (upward 1 (column_count tree.bodies + 1)) w t e).rest

pub speeds_refused : (tree : Tree) (row : Row) (w : View) (e : RowFault) → sped_of tree row w ≡ Err e → IsSpeedRefused tree row w e
speeds_refused tree row w e r =
    let h = pass_refused (speeds_table row) (speeds_are row) (speed_step row) (speed_is row) (column_count tree.bodies) w e r in
    record { column = h.place; there = record { from = h.from; to = h.to }; until = h.until; refused = h.refused }

-- nothing is refused where the columns are cleared
pub clear_stands : (tree : Tree) (w : View) (e : RowFault) → cleared_of tree w ≡ Err e → ⊥
clear_stands tree w e r =
    let h = pass_refused clear_table clear_are clear_step clear_is (column_count tree.bodies) w e r in
    not-both (clear_rule h.place w) zero_interval e refl h.refused
