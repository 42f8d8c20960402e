use Rattle.std.proofs.Common.{◌∙◌, not, ap, sym, subst, Result, Ok, Err}
use Rattle.std.specs.Prelude.{bytes_eq, IfErr}
use Rattle.std.specs.List.{list_any}
use Rattle.rb_tags.specs.Names.{AreDifferent}
use Rattle.rb_tags.proofs.Different.{differ-added}
use Rattle.rb_tags.proofs.Numbering.{texts, has_text, texts-insert}
use Rattle.rb_tags.proofs.names.Names.add.Goals as goal

pub returns-clause-added : goal.returns-clause-added
returns-clause-added c =
    c.in_ok-insert.ensures.added
    ∙ ap not (has_text c.self.inside.names.keys c.args.name ∙ ap (list_any (bytes_eq c.args.name.now)) c.self.view_is)

if_err : {A E P : Type 0} (r : Result A E) → P → IfErr r (λ _. P)
if_err (Ok x) h = tt
if_err (Err e) h = h

pub returns-in_err-insert-clause-absent : goal.returns-in_err-insert-clause-absent
returns-in_err-insert-clause-absent c =
    if_err c.from_residual.result (sym (has_text c.self.inside.names.keys c.args.name ∙ ap (list_any (bytes_eq c.args.name.now)) c.self.view_is) ∙ c.in_err-insert.ensures.absent)

pub invariant_of-self : goal.invariant_of-self
invariant_of-self c = subst (λ keys. AreDifferent (texts keys)) (sym c.in_err-insert.ensures.err) c.self.invariant

pub invariant_of-self-2 : goal.invariant_of-self-2
invariant_of-self-2 c =
    differ-added (texts c.self.inside.names.keys) (texts c.insert.new.self.keys) c.args.name.now c.in_ok-insert.field-0 c.self.invariant
    (c.in_ok-insert.ensures.added ∙ ap not (has_text c.self.inside.names.keys c.args.name))
    (texts-insert c.self.inside.names.keys c.args.name c.insert.new.self.keys c.in_ok-insert.field-0 c.in_ok-insert.ensures.keys c.in_ok-insert.ensures.added)
