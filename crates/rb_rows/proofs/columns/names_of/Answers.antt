use Rattle.std.proofs.Common.{arith, ◌∙◌, ap, not, cond, ◌++◌, ◌∷◌, [], string_bytes}
use Rattle.std.specs.Prelude.{bytes_eq}
use Rattle.std.specs.List.{list_any}
use Rattle.rb_rows.proofs.Putting.{set_more}
use Rattle.rb_rows.proofs.columns.names_of.Goals as goal

pub loop-text-preserved : goal.loop-text-preserved
loop-text-preserved c =
    set_more string_bytes c.args.texts.now c.loop-text.text-index c.text-item.result c.loop-text.names c.add.new.self c.in_ok-add.field-0 c.requires (omega arith) c.text-item.is c.loop-text.invariant
    (c.in_ok-add.ensures.added ∙ ap (λ text. not (list_any (bytes_eq text) c.loop-text.names)) c.as_bytes.ensures.value)
    (c.in_ok-add.ensures.names ∙ ap (λ text. cond c.in_ok-add.field-0 (c.loop-text.names ++ text ∷ []) c.loop-text.names) c.as_bytes.ensures.value)
