use Rattle.std.proofs.Common.{◌++◌, ◌∙◌, ap, arith, string_bytes}
use Rattle.outline.proofs.Lines.{goes, all, ends}
use Rattle.outline.proofs.outline.lines.Goals as goal

pub loop-i-preserved : goal.loop-i-preserved
loop-i-preserved c =
    goes c.args.robot.now.bodies c.loop-i.i (string_bytes c.loop-i.text) (string_bytes c.in_ok-line.field-0) (string_bytes c.push_str.new.self) c.in_ok-line.ensures
    (c.in_ok-push_str.ensures.bytes ∙ ap (λ s. string_bytes c.loop-i.text ++ s) c.as_str.ensures.value) c.loop-i.invariant

pub returns : goal.returns
returns c =
    ends c.args.robot.now c.args.mass c.bodies.result c.full.result (string_bytes c.loop-i.text) (string_bytes c.push_str-2.new.self)
    (all c.args.robot.now.bodies c.loop-i.i (string_bytes c.loop-i.text) (omega arith) c.loop-i.invariant)
    (c.in_ok-push_str-2.ensures.bytes ∙ ap (λ s. string_bytes c.loop-i.text ++ s) (c.as_str-2.ensures.value ∙ c.in_ok-last.ensures)) c.bodies.ensures.count c.full.ensures.count
