use Rattle.std.proofs.Common.{◌≡◌, ◌⊎◌, ◌∙◌, sym, subst, inr, IfOk, IfErr, Ok, Err}
use Rattle.rb_rows.specs.Faults.{no_memory}
use Rattle.rb_rows.proofs.HeaderSteps.{header_not_text, header_of_text}
use Rattle.rb_rows.proofs.header.Header.read.Goals as goal

pub returns-then-not-is_utf8-clause-err : goal.returns-then-not-is_utf8-clause-err
returns-then-not-is_utf8-clause-err c = inr (header_not_text c.args.robot.now c.args.line.now (sym c.is_utf8.ensures ∙ c.if-not-is_utf8.true))

pub returns-clause-ok : goal.returns-clause-ok
returns-clause-ok c =
    let same = header_of_text c.args.robot.now c.args.line.now c.in_ok-one.one _ (sym c.is_utf8.ensures ∙ c.if-not-is_utf8.false) c.in_ok-one.ensures.one c.in_ok-one.ensures.fields in
    subst (λ answer. IfOk c.read_record.result (λ header. answer ≡ Ok header)) (sym same) c.read_record.ensures.ok

pub returns-clause-err : goal.returns-clause-err
returns-clause-err c =
    let same = header_of_text c.args.robot.now c.args.line.now c.in_ok-one.one _ (sym c.is_utf8.ensures ∙ c.if-not-is_utf8.false) c.in_ok-one.ensures.one c.in_ok-one.ensures.fields in
    subst (λ answer. IfErr c.read_record.result (λ fault. (fault ≡ no_memory) ⊎ (answer ≡ Err fault))) (sym same) c.read_record.ensures.err
