use Rattle.std.proofs.Common.{◌∙◌, ◌++◌, ◌∷◌, [], ap, string_bytes}
use Rattle.std.specs.Prelude.{slice_get}
use Rattle.rb_model.proofs.Parts.{group_of}
use Rattle.rb_model.proofs.lines.group_fields.Goals as goal

pub returns : goal.returns
returns c =
    group_of (slice_get c.args.robot.now.groups c.args.k) c.group_name.result.now (string_bytes c.in_ok-numbers.numbers) c.group_bodies.result.now c.group_name.ensures.name
    c.group_bodies.ensures.bodies c.in_ok-numbers.ensures c.new-fields.result c.put.new.self c.put_name.new.self c.put-2.new.self c.new-fields.ensures c.in_ok-put.ensures c.in_ok-put_name.ensures
    (c.in_ok-put-2.ensures ∙ ap (λ text. c.put_name.new.self ++ text ∷ []) c.as_str.ensures.value)
