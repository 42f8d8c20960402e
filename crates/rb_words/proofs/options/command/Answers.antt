use Rattle.std.proofs.Common.{◌≡◌, ◌∙◌, ap, ap₂, codes, false}
use Rattle.std.proofs.lemmas.Result.{IfOk-weaker}
use Rattle.clap.specs.Walk.{rule_of}
use Rattle.clap.specs.Simple.{app_of, app_of_fields, new_app, with_rule}
use Rattle.clap.specs.declared.builder.arg.Arg.{Arg}
use Rattle.rb_words.specs.Options.{by_default, option, required}
use Rattle.rb_words.proofs.Simple.{app_by_rules}
use Rattle.rb_words.proofs.options.command.Goals as goal

own : (a b : Arg) → a ≡ b → b.global ≡ false → a.global ≡ false
own a b same h = ap (λ (x : Arg). x.global) same ∙ h

pub returns : goal.returns
returns c =
    let rows_is : rule_of c.default_value-rows.result ≡ by_default (codes "-") (option (codes "rows")) =
    ap rule_of c.default_value-rows.ensures ∙ ap (by_default (codes "-")) c.option.ensures.rule in
    let gravity_is : rule_of c.default_value-gravity.result ≡ by_default (codes "0,0,-9.81") (option (codes "gravity")) =
    ap rule_of c.default_value-gravity.ensures ∙ ap (by_default (codes "0,0,-9.81")) c.option-2.ensures.rule in
    let task_is : rule_of c.required.result ≡ required (option (codes "task")) = ap rule_of c.required.ensures ∙ ap required c.option-3.ensures.rule in
    let urdf_is : rule_of c.required-2.result ≡ required (option (codes "urdf")) = ap rule_of c.required-2.ensures ∙ ap required c.option-4.ensures.rule in
    let start : app_of c.after_help.result ≡ new_app (codes "rbd") = ap app_of_fields c.after_help.ensures ∙ (ap app_of_fields c.about.ensures ∙ c.new.ensures.app) in
    let one = c.in_ok-arg.ensures.shape (own _ _ c.required.ensures c.option-3.ensures.own) ∙ ap₂ with_rule start task_is in
    let two = c.in_ok-arg-2.ensures.shape (own _ _ c.required-2.ensures c.option-4.ensures.own) ∙ ap₂ with_rule one urdf_is in
    let three = c.in_ok-arg-3.ensures.shape c.option-5.ensures.own ∙ ap₂ with_rule two c.option-5.ensures.rule in
    let four = c.in_ok-arg-4.ensures.shape c.option-6.ensures.own ∙ ap₂ with_rule three c.option-6.ensures.rule in
    let five = c.in_ok-arg-5.ensures.shape c.option-7.ensures.own ∙ ap₂ with_rule four c.option-7.ensures.rule in
    let six = c.in_ok-arg-6.ensures.shape c.option-8.ensures.own ∙ ap₂ with_rule five c.option-8.ensures.rule in
    let seven = c.in_ok-arg-7.ensures.shape (own _ _ c.default_value-rows.ensures c.option.ensures.own) ∙ ap₂ with_rule six rows_is in
    let eight = c.in_ok-arg-8.ensures.shape (own _ _ c.default_value-gravity.ensures c.option-2.ensures.own) ∙ ap₂ with_rule seven gravity_is in
    IfOk-weaker c.arg-9.result _ _ (λ made h. h.shape c.echo.ensures.own ∙ (ap₂ with_rule eight c.echo.ensures.rule ∙ app_by_rules)) c.arg-9.ensures
