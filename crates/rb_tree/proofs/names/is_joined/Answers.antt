use Rattle.std.proofs.Common.{Some, None}
use Rattle.std.proofs.lemmas.Bool.Decides.{Decides-eqb}
use Rattle.std.proofs.lemmas.Slice.Eq.{slice_eq-Decides, strip_prefix_is}
use Rattle.rb_tree.proofs.NameLaws.{joined, not_joined}
use Rattle.rb_tree.proofs.names.is_joined.Goals as goal

pub returns-in-Some : goal.returns-in-Some
returns-in-Some c =
    let text = c.args.text.now in
    let front = c.args.front.now in
    joined text front c.args.end.now c.in-Some.rest.now c.eq.result (strip_prefix_is Decides-eqb text front (Some c.in-Some.rest) c.in-Some.ensures.cases)
    (slice_eq-Decides Decides-eqb c.in-Some.rest.now c.args.end.now c.eq.result c.eq.ensures)

pub returns-in-None : goal.returns-in-None
returns-in-None c =
    let text = c.args.text.now in
    let front = c.args.front.now in
    not_joined text front c.args.end.now (strip_prefix_is Decides-eqb text front None c.in-None.ensures.cases)
