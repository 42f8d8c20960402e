use Rattle.std.proofs.Common.{◌∙◌, ap}
use Rattle.std.specs.List.{list_any}
use Rattle.rb_srdf.specs.StateNames.{is_state}
use Rattle.rb_srdf.proofs.PairLemmas.{has_key}
use Rattle.rb_srdf.proofs.state_names.StateNames.has.Goals as goal

pub returns : goal.returns
returns c = c.contains.ensures ∙ has_key c.self.inside.pairs.keys (c.args.group, c.args.name) ∙ ap (list_any (is_state c.args.group.now c.args.name.now)) c.self.view_is
