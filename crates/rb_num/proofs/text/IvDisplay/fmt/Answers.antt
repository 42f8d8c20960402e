use Rattle.std.proofs.Common.{refl}
use Rattle.std.proofs.Output.{has_written_of_eq, has_written_append}
use Rattle.rb_num.proofs.Written.{written_ends}
use Rattle.rb_num.proofs.text.IvDisplay.fmt.Goals as goal

pub returns-clause-writes : goal.returns-clause-writes
returns-clause-writes g c = λ p ok.
    let first = c.in_ok-write_end.ensures p refl in
    let points = c.in_ok-write_str.ensures.writes first.plain refl in
    let second = c.write_end-2.ensures points.plain ok in
    has_written_of_eq _ _ _ _ _ (written_ends c.args.self.now c.lo.result c.hi.result c.lo.ensures.bounds c.lo.ensures.value c.hi.ensures.value)
    (has_written_append _ _ _ _ _ _ first (has_written_append _ _ _ _ _ _ points second))
