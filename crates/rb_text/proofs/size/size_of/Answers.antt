use Rattle.std.proofs.Common.{◌∙◌, inl, inr, rules, arith, sym}
use Rattle.rb_text.proofs.Rounding.{cut_by, found_by, kept_pass, kept_large, found_rounded, found_large}
use Rattle.rb_text.proofs.size.size_of.Goals as goal
use Rattle.rb_text.proofs.size.size_of.Goals.{then-has_more, else-has_more}

pub units-requires-clause-whole : goal.units-requires-clause-whole
units-requires-clause-whole c = (kept_pass c.args.decimal.whole.now c.args.decimal.part.now _ _ _ c.requires.whole c.requires.part c.cut_digits.ensures.kept).0

pub units-requires-clause-part : goal.units-requires-clause-part
units-requires-clause-part c = (kept_pass c.args.decimal.whole.now c.args.decimal.part.now _ _ _ c.requires.whole c.requires.part c.cut_digits.ensures.kept).1

pub returns-in_err-low : goal.returns-in_err-low
returns-in_err-low c =
    let d = c.args.decimal in
    let is = cut_by d.negative d.whole.now d.part.now d.down d.exponent.now _ _ _ _ _ c.requires.whole c.requires.part (omega arith) (omega arith) c.exponent_value-exponent.ensures c.shift_of-shift.ensures.cut c.shift_of-shift.ensures.zeros c.cut_digits.ensures.kept c.cut_digits.ensures.rest in
    let large = kept_large _ _ _ _ _ is c.in_err-low.ensures in
    search (rules, large)

pub returns-then-high-gt-MOST : goal.returns-then-high-gt-MOST
returns-then-high-gt-MOST c =
    let d = c.args.decimal in
    let is = cut_by d.negative d.whole.now d.part.now d.down d.exponent.now _ _ _ _ _ c.requires.whole c.requires.part (omega arith) (omega arith) c.exponent_value-exponent.ensures c.shift_of-shift.ensures.cut c.shift_of-shift.ensures.zeros c.cut_digits.ensures.kept c.cut_digits.ensures.rest in
    found_large _ _ _ _ _ c.in_ok-low.low c.if-has_more.high
    (found_by _ _ _ _ _ _ _ is c.in_ok-low.ensures.0 c.in_ok-low.ensures.1 (elim c.if-has_more.branch [
      | then-has_more w ↦ inr (sym c.has_more.ensures ∙ w.if-has_more.true, w.high-is)
      | else-has_more w ↦ inl (sym c.has_more.ensures ∙ w.if-has_more.false, w.high-is)
    ]))
    c.if-high-gt-MOST.true

pub returns-else-high-gt-MOST : goal.returns-else-high-gt-MOST
returns-else-high-gt-MOST c =
    let d = c.args.decimal in
    let is = cut_by d.negative d.whole.now d.part.now d.down d.exponent.now _ _ _ _ _ c.requires.whole c.requires.part (omega arith) (omega arith) c.exponent_value-exponent.ensures c.shift_of-shift.ensures.cut c.shift_of-shift.ensures.zeros c.cut_digits.ensures.kept c.cut_digits.ensures.rest in
    found_rounded _ _ _ _ _ c.in_ok-low.low c.if-has_more.high
    (found_by _ _ _ _ _ _ _ is c.in_ok-low.ensures.0 c.in_ok-low.ensures.1 (elim c.if-has_more.branch [
      | then-has_more w ↦ inr (sym c.has_more.ensures ∙ w.if-has_more.true, w.high-is)
      | else-has_more w ↦ inl (sym c.has_more.ensures ∙ w.if-has_more.false, w.high-is)
    ]))
    c.if-high-gt-MOST.false
