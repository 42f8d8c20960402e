use Rattle.std.proofs.Common.{List, sym, ◌∙◌, ap, subst}
use Rattle.rb_tree.specs.declared.robot.Body.{Body}
use Rattle.rb_tree.specs.Groups.{IsBelow, IsAtOrAbove, IsInChain, IsBroken}
use Rattle.rb_tree.specs.GroupMarks.{Adds}
use Rattle.rb_tree.proofs.GroupMarking.{Adds-same}
use Rattle.rb_tree.proofs.GroupNames.{chain_down, chain_bodies}
use Rattle.rb_tree.proofs.groups.Scope.mark_links.Goals as goal

pub mark_chain-requires-clause-down : goal.mark_chain-requires-clause-down
mark_chain-requires-clause-down c =
    let P : List Body → Type 0 = λ bodies. IsBroken bodies c.args.base.now c.args.tip.now → ⊥ in
    chain_down c.self.inside.bodies.now c.args.base.now c.args.tip.now c.in-Some-Some.base c.in-Some-Some.tip (sym c.body_of_link.ensures.number ∙ c.in-Some-Some.is-0)
    (sym c.body_of_link-2.ensures.number ∙ c.in-Some-Some.is-1) c.self.invariant.bodies (subst P (sym (ap (λ s. s.bodies) c.self.view_is)) c.requires.down)

pub returns-in-Some-Some : goal.returns-in-Some-Some
returns-in-Some-Some c =
    let bodies = c.self.inside.bodies.now in
    let P : List Body → Type 0 = λ bodies. Adds (IsInChain bodies c.args.base.now c.args.tip.now) c.args.marks.now c.mark_chain.new.marks in
    subst P (ap (λ s. s.bodies) c.self.view_is)
    (Adds-same (λ i. IsBelow bodies c.in-Some-Some.base i × IsAtOrAbove bodies i c.in-Some-Some.tip) (IsInChain bodies c.args.base.now c.args.tip.now) c.args.marks.now
    c.mark_chain.new.marks
    (chain_bodies bodies c.args.base.now c.args.tip.now c.in-Some-Some.base c.in-Some-Some.tip (sym c.body_of_link.ensures.number ∙ c.in-Some-Some.is-0)
    (sym c.body_of_link-2.ensures.number ∙ c.in-Some-Some.is-1)) c.mark_chain.ensures)
