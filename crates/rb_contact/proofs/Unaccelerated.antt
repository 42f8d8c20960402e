-- A choice for a row is one for the row without accelerations, once it has none.
use Rattle.std.proofs.Common.{ℕ, ◌-◌, inl, inr, Option, None, Some, length, replicate, subst, sym, arith}
use Rattle.std.proofs.lemmas.Bool.{cases_lt}
use Rattle.std.proofs.lemmas.List.{get_or-replicate, get_or_past, length-replicate}
use Rattle.rb_frac.specs.Frac.{fracs}
use Rattle.rb_num.specs.Interval.{Interval, zero_interval}
use Rattle.rb_num.specs.Fraction.{LiesIn}
use Rattle.rb_num.proofs.Bridges.{zero_lies}
use Rattle.rb_flat.specs.Choice.{RobotBrackets, Choice, EntriesChosen, IsChoice}
use Rattle.rb_tree.specs.Robot.{Tree}
use Rattle.rb_tree.specs.Shape.{brackets_of}
use Rattle.rb_tree.specs.State.{Row, at_place, state_brackets}
use Rattle.rb_rnea.specs.Dynamics.{unaccelerated}

abbrev pub still : Choice → Choice
still c = record c { acceleration = λ k. fracs.nul }

entries_still : (robot : RobotBrackets) (row : Row) (c : Choice) (i : ℕ) (m : Option ℕ) → EntriesChosen robot (state_brackets row) c i m
    → EntriesChosen robot (state_brackets (unaccelerated row)) (still c) i m
unfolding state_brackets
entries_still robot row c i None h = h
entries_still robot row c i (Some master) h = h

zero_at : (n k : ℕ) → LiesIn fracs.nul (at_place (replicate n zero_interval) k)
zero_at n k =
    elim (cases_lt k n) [
      | inl l ↦ subst (λ (v : Interval). LiesIn fracs.nul v) (sym (get_or-replicate n k zero_interval zero_interval l)) zero_lies
      | inr g ↦ subst (λ (v : Interval). LiesIn fracs.nul v) (sym (get_or_past (replicate n zero_interval) k zero_interval (omega (arith, length-replicate n zero_interval)))) zero_lies
    ]

pub still_chosen : (tree : Tree) (row : Row) (c : Choice) → IsChoice (brackets_of tree) (state_brackets row) c
    → IsChoice (brackets_of tree) (state_brackets (unaccelerated row)) (still c)
unfolding state_brackets
still_chosen tree row c h = record {
  gravity = h.gravity;
  bodies = λ i has.
      let b = h.bodies i has in
      record { link = b.link; joint = b.joint; entries = entries_still (brackets_of tree) row c i ((brackets_of tree).shape.mimic i) b.entries };
  columns = λ k has.
      let column = h.columns k has in
      record { speed = column.speed; acceleration = zero_at (length row.a) (k - 1); torque = column.torque };
}
