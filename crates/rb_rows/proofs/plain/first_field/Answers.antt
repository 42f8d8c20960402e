use Rattle.std.proofs.Common.{◌+◌, ◌-◌, length, take, drop, sym, ap, arith}
use Rattle.rb_rows.specs.Plain.{is_comma}
use Rattle.rb_io.proofs.Splits.{slice_split-some, slice_split-none, slice_split-some_part}
use Rattle.rb_rows.proofs.plain.first_field.Goals as goal

pub returns-in-Some-clause-more : goal.returns-in-Some-clause-more
returns-in-Some-clause-more c _ = slice_split-some is_comma _ _ (cc)

pub returns-in-Some-clause-last : goal.returns-in-Some-clause-last
returns-in-Some-clause-last c one =
    let parts = slice_split-some is_comma c.args.line.now c.in-Some.end (cc) in
    let more = slice_split-some_part is_comma (take (length c.args.line.now - (c.in-Some.end + 1)) (drop (c.in-Some.end + 1) c.args.line.now)) in
    absurd (omega (arith, ap length parts, more, one))

pub returns-in-None-clause-more : goal.returns-in-None-clause-more
returns-in-None-clause-more c two =
    let parts = slice_split-none is_comma c.args.line.now (sym c.in-None.ensures) in
    absurd (omega (arith, ap length parts, two))

pub returns-in-None-clause-last : goal.returns-in-None-clause-last
returns-in-None-clause-last c _ = slice_split-none is_comma _ (sym c.in-None.ensures)
