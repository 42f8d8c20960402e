use Rattle.std.proofs.Common.{◌≡◌, ◌∙◌, ap, subst, map, string_bytes}
use Rattle.std.proofs.lemmas.Result.{IfOk-weaker}
use Rattle.clap.specs.Words.{App, FailsBy, app_of, fault_of, is_simple, is_simple_and_free, matches_of}
use Rattle.rb_words.specs.Options.{app}
use Rattle.rb_words.proofs.Simple.{app_is_free, app_is_simple}
use Rattle.rb_words.proofs.options.parse.Goals as goal

pub returns-clause-matches : goal.returns-clause-matches
returns-clause-matches c =
    let made : app_of c.in_ok-command.field-0 ≡ app = c.in_ok-command.ensures in
    IfOk-weaker c.try_get_matches_from.result _ _
    (λ m h. (h (ap is_simple made ∙ app_is_simple)).0 ∙ ap (λ (a : App). matches_of a (map string_bytes c.args.words.now)) made)
    c.try_get_matches_from.ensures.matches

pub returns-clause-kinds : goal.returns-clause-kinds
returns-clause-kinds c =
    let made : app_of c.in_ok-command.field-0 ≡ app = c.in_ok-command.ensures in
    subst (λ (a : App). FailsBy (fault_of a (map string_bytes c.args.words.now)) c.try_get_matches_from.result) made
    (c.try_get_matches_from.ensures.kinds (ap is_simple_and_free made ∙ app_is_free))
