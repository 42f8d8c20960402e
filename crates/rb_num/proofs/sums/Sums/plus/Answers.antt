use Rattle.rb_num.specs.Interval.{one_interval}
use Rattle.rb_num.proofs.Small.{one_ends}
use Rattle.rb_num.proofs.Adding.{with_made, sums_made}
use Rattle.rb_num.proofs.sums.Sums.plus.Goals as goal

pub overflow_add-result : goal.overflow_add-result
overflow_add-result c =
    let e = one_ends _ _ _ _ c.args.a c.a.view_is c.a.invariant c.by_one-least.ensures c.by_one-greatest.ensures in
    let m = with_made _ _ _ _ _ _ _ e c.self.invariant c.requires c.self.view_is in
    m.fits_low

pub overflow_add-result-2 : goal.overflow_add-result-2
overflow_add-result-2 c =
    let e = one_ends _ _ _ _ c.args.a c.a.view_is c.a.invariant c.by_one-least.ensures c.by_one-greatest.ensures in
    let m = with_made _ _ _ _ _ _ _ e c.self.invariant c.requires c.self.view_is in
    m.fits_high

pub invariant_of-result : goal.invariant_of-result
invariant_of-result c =
    let e = one_ends _ _ _ _ c.args.a c.a.view_is c.a.invariant c.by_one-least.ensures c.by_one-greatest.ensures in
    let m = with_made _ _ _ _ _ _ _ e c.self.invariant c.requires c.self.view_is in
    m.bounded

pub returns-clause-exact : goal.returns-clause-exact
returns-clause-exact c =
    let e = one_ends _ _ _ _ c.args.a c.a.view_is c.a.invariant c.by_one-least.ensures c.by_one-greatest.ensures in
    let m = with_made _ _ _ _ _ _ _ e c.self.invariant c.requires c.self.view_is in
    m.same

pub returns-clause-sums : goal.returns-clause-sums
returns-clause-sums c =
    let e = one_ends _ _ _ _ c.args.a c.a.view_is c.a.invariant c.by_one-least.ensures c.by_one-greatest.ensures in
    let m = with_made _ _ _ _ _ _ _ e c.self.invariant c.requires c.self.view_is in
    sums_made (c.args.a, one_interval) _ _ m.same e.0
