use Rattle.std.proofs.Common.{◌%◌, ap}
use Rattle.std.specs.Fmt.{styled_decimal}
use Rattle.std.proofs.Output.{has_written_of_eq}
use Rattle.rb_num.specs.Interval.{grid}
use Rattle.rb_num.proofs.Written.{written_end}
use Rattle.rb_num.proofs.text.write_end.Goals as goal

pub returns : goal.returns
returns g c = λ p ok.
    let part = ap (λ x. styled_decimal x (c.unsigned_abs-size.result % grid)) c.laid_out.ensures in
    has_written_of_eq _ _ _ _ _ (written_end c.args.end _ _ _ c.ranges.end c.minus-sign.ensures c.unsigned_abs-size.ensures.value part) (c.write.ensures.writes p ok)
