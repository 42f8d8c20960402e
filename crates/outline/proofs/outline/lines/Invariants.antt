use Rattle.std.proofs.Common.{◌≡◌, ◌++◌, ◌-◌, drop, string_bytes}
use Rattle.outline.specs.Outline.{lines_from}
use Rattle.outline.proofs.outline.lines.Given as goal

abbrev pub invariant-loop-i : goal.invariant-loop-i
invariant-loop-i l = string_bytes l.text ++ lines_from l.robot.bodies l.i (drop (l.i - 1) l.robot.bodies) ≡ lines_from l.robot.bodies 1 l.robot.bodies
