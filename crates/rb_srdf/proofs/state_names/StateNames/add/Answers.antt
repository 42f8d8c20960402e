use Rattle.std.proofs.Common.{◌≡◌, ◌∷◌, [], ◌++◌, cond, subst}
use Rattle.std.specs.List.{list_any}
use Rattle.rb_srdf.specs.StateNames.{is_state, as_names}
use Rattle.rb_srdf.proofs.PairLemmas.{names-insert, name_of_key}
use Rattle.rb_srdf.proofs.state_names.StateNames.add.Goals as goal

pub returns : goal.returns
returns c =
    subst (λ old. as_names c.insert.new.self.keys ≡ cond (list_any (is_state c.args.group.now c.args.name.now) old) old (old ++ name_of_key (c.args.group, c.args.name) ∷ [])) c.self.view_is
    (names-insert c.self.inside.pairs.keys (c.args.group, c.args.name) c.insert.new.self.keys c.in_ok-insert.ensures.keys)
