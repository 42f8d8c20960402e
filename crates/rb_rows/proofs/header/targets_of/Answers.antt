use Rattle.std.proofs.Common.{◌<◌, ◌∙◌, ◌+◌, ap, sym, subst, not, inr, arith, length, take}
use Rattle.std.proofs.lemmas.Result.{err_from_is_err_and}
use Rattle.csv.specs.Records.{fields_of}
use Rattle.rb_rows.proofs.HeaderSteps.{HasSeen, field_here, seen_more, taken_with, with_rest, with_more, with_fault, with_none}
use Rattle.rb_rows.proofs.header.targets_of.Goals as goal

pub returns-in_err-target_of-clause-err : goal.returns-in_err-target_of-clause-err
returns-in_err-target_of-clause-err c =
    let fields = fields_of c.args.fields.now in
    let within : c.loop-index.index < length fields = omega (arith, c.len-index-end.ensures, c.loop-index-test.true) in
    let here = field_here fields c.loop-index.index c.get.result _ c.unwrap_or-field.result within c.get.ensures.value c.unwrap_or-field.ensures in
    let fresh = c.in_ok-is_new.ensures.added ∙ ap not (c.loop-index.invariant.seen c.unwrap_or-field.result.now) in
    let p = err_from_is_err_and c.from_residual-in_err-target_of.result c.from_residual-in_err-target_of.ensures.1 in
    rw (p.1, p.2) (inr (c.loop-index.invariant.whole
    ∙ with_fault c.args.robot.now fields c.loop-index.index c.unwrap_or-field.result.now c.loop-index.targets.items within here _ _ (omega arith) (sym (c.in_err-target_of.ensures (take c.loop-index.index fields) fresh))))

pub loop-index-preserved : goal.loop-index-preserved
loop-index-preserved c =
    let fields = fields_of c.args.fields.now in
    let within : c.loop-index.index < length fields = omega (arith, c.len-index-end.ensures, c.loop-index-test.true) in
    let field = c.unwrap_or-field.result.now in
    let here = field_here fields c.loop-index.index c.get.result _ c.unwrap_or-field.result within c.get.ensures.value c.unwrap_or-field.ensures in
    let fresh = c.in_ok-is_new.ensures.added ∙ ap not (c.loop-index.invariant.seen field) in
    record {
      seen = subst (HasSeen c.add.new.self) (sym (taken_with fields c.loop-index.index field within here))
          (seen_more c.loop-index.seen (take c.loop-index.index fields) c.add.new.self field c.in_ok-is_new.is_new c.loop-index.invariant.seen c.in_ok-is_new.ensures.added c.in_ok-is_new.ensures.names);
      whole =
          c.loop-index.invariant.whole
          ∙ with_more c.args.robot.now fields c.loop-index.index field c.loop-index.targets.items within here _ _ (omega arith) (sym (c.in_ok-target_of.ensures (take c.loop-index.index fields) fresh))
          ∙ ap (with_rest c.args.robot.now fields (c.loop-index.index + 1)) (sym c.in_ok-push.ensures.items);
    }

pub returns-clause-ok : goal.returns-clause-ok
returns-clause-ok c =
    c.loop-index.invariant.whole ∙ with_none c.args.robot.now (fields_of c.args.fields.now) c.loop-index.index c.loop-index.targets.items (omega (arith, c.len-index-end.ensures, c.loop-index-test.false))
