use Rattle.std.proofs.Common.{is_some, sym, ap, ◌∙◌}
use Rattle.rb_tags.specs.Names.{number_of_name}
use Rattle.rb_tree.specs.Groups.{body_of_joint}
use Rattle.rb_tree.proofs.StateEntries.{virtual_is, virtual_gives, unknown_gives, none_from}
use Rattle.rb_tree.proofs.states.value_entries.Goals as goal

pub returns-in-None : goal.returns-in-None
returns-in-None c = λ virtuals names.
    let bodies = c.args.bodies.now in
    let value = c.args.value.now in
    let same = c.as_str-joint.ensures.same in
    let none = sym (c.in-None.ensures.number ∙ ap (body_of_joint bodies) same) in
    let found = ap (λ n. is_some (number_of_name c.args.virtual_names.now n)) (sym same) ∙ ap is_some (sym c.number_of.ensures.number) ∙ sym c.is_some.ensures ∙ c.if-is_some.true in
    none_from 0 c.of.result c.of.ensures ∙ virtual_gives bodies virtuals value none (sym (virtual_is virtuals c.args.virtual_names.now value.joint names) ∙ found)

pub returns-in-None-2 : goal.returns-in-None-2
returns-in-None-2 c = λ virtuals names.
    let bodies = c.args.bodies.now in
    let value = c.args.value.now in
    let same = c.as_str-joint.ensures.same in
    let none = sym (c.in-None.ensures.number ∙ ap (body_of_joint bodies) same) in
    let found = ap (λ n. is_some (number_of_name c.args.virtual_names.now n)) (sym same) ∙ ap is_some (sym c.number_of.ensures.number) ∙ sym c.is_some.ensures ∙ c.if-is_some.false in
    unknown_gives bodies virtuals value none (sym (virtual_is virtuals c.args.virtual_names.now value.joint names) ∙ found)
