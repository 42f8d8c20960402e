use Rattle.std.proofs.Common.{Some, None}
use Rattle.std.proofs.lemmas.Bool.Decides.{Decides-eqb}
use Rattle.std.proofs.lemmas.Slice.Eq.{strip_prefix_is}
use Rattle.rb_tree.proofs.NameLaws.{same_behind, same_before, not_same}
use Rattle.rb_tree.proofs.names.is_same.Goals as goal

pub returns-in-Some : goal.returns-in-Some
returns-in-Some c =
    let a = c.args.a.now in
    let b = c.args.b.now in
    same_behind a c.args.x.now b c.args.y.now c.in-Some.rest.now c.is_joined.result
    (strip_prefix_is Decides-eqb a b (Some c.in-Some.rest) c.in-Some.ensures.cases) c.is_joined.ensures

pub returns-in-Some-strip_prefix : goal.returns-in-Some-strip_prefix
returns-in-Some-strip_prefix c =
    let a = c.args.a.now in
    let b = c.args.b.now in
    same_before a c.args.x.now b c.args.y.now c.in-Some-strip_prefix.rest.now c.is_joined-in-Some-strip_prefix.result
    (strip_prefix_is Decides-eqb b a (Some c.in-Some-strip_prefix.rest) c.in-Some-strip_prefix.ensures.cases) c.is_joined-in-Some-strip_prefix.ensures

pub returns-in-None : goal.returns-in-None
returns-in-None c =
    let a = c.args.a.now in
    let b = c.args.b.now in
    not_same a c.args.x.now b c.args.y.now (strip_prefix_is Decides-eqb a b None c.in_default.ensures.cases) (strip_prefix_is Decides-eqb b a None c.in-None.ensures.cases)
