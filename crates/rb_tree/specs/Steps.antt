-- What the sweep over the bodies leaves of their entries and places.
use Rattle.std.specs.Prelude.{ℕ, ◌+◌, length, slice_set, Result, Ok}
use Rattle.rb_result.specs.Steps.{◌>>=◌}
use Rattle.rb_sweep.specs.Sweep.{sweep, upward}
use Rattle.rb_work.specs.declared.names.RowFault.{RowFault}
use Rattle.rb_work.specs.View.{View}
use Rattle.rb_tree.specs.Robot.{Tree}
use Rattle.rb_tree.specs.State.{Row}
use Rattle.rb_tree.specs.Places.{q_rule, X_rule}

unfoldable pub place_step : Tree → Row → ℕ → View → Result View RowFault
place_step tree row i w =
    q_rule tree row i >>= λ entries.
    let w1 = record w { q = slice_set w.q i entries } in
    X_rule tree i w1 >>= λ place.
    Ok (record w1 { X = slice_set w1.X i place })

abbrev pub places_of : Tree → Row → View → Result View RowFault
places_of tree row w = sweep (place_step tree row) (upward 1 (length tree.bodies + 1)) w
