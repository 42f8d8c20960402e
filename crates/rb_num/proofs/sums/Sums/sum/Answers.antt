use Rattle.std.proofs.Common.{sym, ◌∙◌, ap, Ok}
use Rattle.rb_num.proofs.Adding.{rounded_made, rounded_sums}
use Rattle.rb_num.proofs.sums.Sums.sum.Goals as goal

pub invariant_of-result : goal.invariant_of-result
invariant_of-result c = (rounded_made _ _ _ _ _ _ c.self.invariant c.self.view_is c.in_ok-lo.ensures c.in_ok-hi.ensures).narrow

pub returns-clause-exact : goal.returns-clause-exact
returns-clause-exact c =
    let e = rounded_made _ _ _ _ _ _ c.self.invariant c.self.view_is c.in_ok-lo.ensures c.in_ok-hi.ensures in
    (e.near, e.value)

pub returns-clause-sum : goal.returns-clause-sum
returns-clause-sum c pairs s =
    let e = rounded_made _ _ _ _ _ _ c.self.invariant c.self.view_is c.in_ok-lo.ensures c.in_ok-hi.ensures in
    rounded_sums pairs _ s ∙ ap (λ x. Ok x) (sym e.value)
