use Rattle.std.proofs.Common.{◌≡◌, ◌∙◌, sym, arith, length}
use Rattle.std.proofs.lemmas.List.{nil_from_length}
use Rattle.rb_constraint.proofs.LineLaws.{first-kept, first-passed, none-left}
use Rattle.rb_constraint.proofs.lines.next_kept.Goals as goal

pub returns-then-is_kept-clause-lines : goal.returns-then-is_kept-clause-lines
returns-then-is_kept-clause-lines c =
    sym c.lines.invariant.left ∙ first-kept c.lines.at _ _ c.first_line-cut.result.size _ c.first_line-cut.ensures.all (sym c.is_kept.ensures ∙ c.if-is_kept.true)

pub lines-preserved : goal.lines-preserved
lines-preserved c = record {
  left = sym (first-passed c.lines.at _ _ c.first_line-cut.result.size _ c.first_line-cut.ensures.all (sym c.is_kept.ensures ∙ c.if-is_kept.false)) ∙ c.lines.invariant.left;
  room = omega (arith, c.lines.invariant.room, c.first_line-cut.ensures.shorter);
  shorter = omega (arith, c.lines.invariant.shorter, c.first_line-cut.ensures.shorter);
}

pub returns-clause-lines : goal.returns-clause-lines
returns-clause-lines c =
    let none : length c.lines.rest.now ≡ 0 = grind arith in
    sym c.lines.invariant.left ∙ none-left c.lines.at _ (nil_from_length _ none)
