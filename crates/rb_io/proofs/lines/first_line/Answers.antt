use Rattle.std.proofs.Common.{inl, inr, refl, sym, ◌∙◌}
use Rattle.rb_io.proofs.Cutting.{lines_of-filled, lines_of-empty, lines_of-last, all_lines-some, all_lines-none}
use Rattle.rb_io.proofs.lines.first_line.Goals as goal

pub returns-in-Some-clause-all : goal.returns-in-Some-clause-all
returns-in-Some-clause-all c = inl (all_lines-some _ _ _ (cc) c.without_return.ensures.content)

pub returns-in-Some-clause-filled : goal.returns-in-Some-clause-filled
returns-in-Some-clause-filled c = lines_of-filled _ _ _ (cc) c.without_return.ensures.content

pub returns-in-Some-clause-empty : goal.returns-in-Some-clause-empty
returns-in-Some-clause-empty c none = lines_of-empty _ _ (cc) (sym c.without_return.ensures.content ∙ none)

pub returns-in-None-clause-all : goal.returns-in-None-clause-all
returns-in-None-clause-all c = inr (refl, all_lines-none _ (sym c.in-None.ensures))

pub returns-in-None-clause-filled : goal.returns-in-None-clause-filled
returns-in-None-clause-filled c = lines_of-last _ (sym c.in-None.ensures)
