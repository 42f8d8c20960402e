use Rattle.std.proofs.Common.{◌≡◌, length, arith, ◌∙◌, sym}
use Rattle.rb_io.proofs.Cutting.{lines_of-none}
use Rattle.rb_io.proofs.lines.next_line.Goals as goal

pub returns-clause-lines : goal.returns-clause-lines
returns-clause-lines c =
    let none : length c.lines.rest.now ≡ 0 = grind arith in
    sym c.lines.invariant.0 ∙ lines_of-none c.lines.rest.now none
