use Rattle.std.proofs.Common.{◌≡◌, ℕ, sym, ap, ◌∙◌, Err, inr}
use Rattle.std.specs.Str.Lossy.{utf8_valid_len}
use Rattle.rb_tags.specs.declared.read.TagKind.TheVariants.{NotUtf8}
use Rattle.rb_tags.specs.Faults.{fault_at}
use Rattle.rb_tags.specs.Tags.{tags_of, tags_of_text}
use Rattle.rb_tags.proofs.Valid.{tags_of_utf8, tags_of_other, answers_ok, answers_err}
use Rattle.rb_tags.proofs.read.read_tags.Goals as goal

pub returns-in-Ok-clause-ok : goal.returns-in-Ok-clause-ok
returns-in-Ok-clause-ok c =
    let whole = tags_of_utf8 c.args.bytes.now c.in-Ok.ensures.cases.1 ∙ ap tags_of_text (sym c.in-Ok.ensures.cases.0) in
    answers_ok (λ tags. tags) c.read_text.result (tags_of_text c.in-Ok.text.now) (tags_of c.args.bytes.now) c.read_text.ensures whole

pub returns-in-Ok-clause-err : goal.returns-in-Ok-clause-err
returns-in-Ok-clause-err c =
    let whole = tags_of_utf8 c.args.bytes.now c.in-Ok.ensures.cases.1 ∙ ap tags_of_text (sym c.in-Ok.ensures.cases.0) in
    answers_err (λ tags. tags) c.read_text.result (tags_of_text c.in-Ok.text.now) (tags_of c.args.bytes.now) c.read_text.ensures whole

pub returns-in-Err-clause-err : goal.returns-in-Err-clause-err
returns-in-Err-clause-err c =
    let at : c.valid_up_to.result ≡ utf8_valid_len c.args.bytes.now = c.valid_up_to.ensures ∙ c.in-Err.ensures.valid_len in
    inr (tags_of_other c.args.bytes.now c.in-Err.ensures.cases.0 ∙ ap (λ (n : ℕ). Err (fault_at NotUtf8 n)) (sym at))
