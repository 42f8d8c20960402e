use Rattle.std.proofs.Common.{◌∙◌, sym}
use Rattle.rb_constraint.specs.File.{numbered_line}
use Rattle.rb_constraint.proofs.FileLaws.{header-none, header-other, header-same}
use Rattle.rb_constraint.proofs.read.read_header.Goals as goal

pub returns-in_default-clause-err : goal.returns-in_default-clause-err
returns-in_default-clause-err c = λ tree. header-none tree c.args.text.now c.fault.result c.in_default.ensures.lines c.fault.ensures

pub returns-then-ne-clause-err : goal.returns-then-ne-clause-err
returns-then-ne-clause-err c =
    λ tree. header-other tree c.args.text.now (numbered_line c.in-Some.first.number c.in-Some.first.content.now) _ c.fault-then-ne.result c.in-Some.ensures.lines (sym c.ne.ensures ∙ c.if-ne.true) c.fault-then-ne.ensures

pub returns-clause-ok : goal.returns-clause-ok
returns-clause-ok c =
    λ tree. header-same tree c.args.text.now (numbered_line c.in-Some.first.number c.in-Some.first.content.now) _ c.in-Some.ensures.lines (sym c.ne.ensures ∙ c.if-ne.false)
