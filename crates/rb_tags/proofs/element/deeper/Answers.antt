use Rattle.std.proofs.Common.{◌∙◌, rules, tests}
use Rattle.std.specs.List.{prefix_len}
use Rattle.std.proofs.lemmas.Iterator.{YieldsList-from_slice}
use Rattle.std.proofs.lemmas.Iterator.Search.{YieldsList-from_take_while}
use Rattle.std.proofs.lemmas.Iterator.Consumers.{count_from_yields_List}
use Rattle.rb_tags.specs.Elements.{is_deeper}
use Rattle.rb_tags.proofs.Walks.{front_again}
use Rattle.rb_tags.proofs.element.deeper.Goals as goal

pub returns : goal.returns
returns c =
    c.split_at.ensures.front
    ∙ front_again (prefix_len (is_deeper c.args.depth) c.args.tags.now) c.count-count.result c.args.tags.now
    (count_from_yields_List c.take_while.result c.count-count.result c.count-count.ensures.ran
    (YieldsList-from_take_while _ (is_deeper c.args.depth) (YieldsList-from_slice c.args.tags.now (cc)) c.take_while.ensures.closure (cc) (λ x b q k. search (rules, tests))))
