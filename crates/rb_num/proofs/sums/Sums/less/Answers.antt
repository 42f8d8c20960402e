use Rattle.rb_num.specs.Interval.{negative_of}
use Rattle.rb_num.proofs.Small.{pair_ends}
use Rattle.rb_num.proofs.Adding.{less_made, sums_made, negative_fits}
use Rattle.rb_num.proofs.sums.Sums.less.Goals as goal

pub overflow_sub-result : goal.overflow_sub-result
overflow_sub-result c =
    let e = pair_ends _ _ _ _ _ _ (c.args.a, c.args.b) c.a.view_is c.a.invariant c.b.view_is c.b.invariant c.product_ends-least.ensures.least c.product_ends-least.ensures.greatest in
    let m = less_made _ _ _ _ _ _ _ _ e c.self.invariant c.requires c.self.view_is in
    m.fits_low

pub overflow_sub-result-2 : goal.overflow_sub-result-2
overflow_sub-result-2 c =
    let e = pair_ends _ _ _ _ _ _ (c.args.a, c.args.b) c.a.view_is c.a.invariant c.b.view_is c.b.invariant c.product_ends-least.ensures.least c.product_ends-least.ensures.greatest in
    let m = less_made _ _ _ _ _ _ _ _ e c.self.invariant c.requires c.self.view_is in
    m.fits_high

pub invariant_of-result : goal.invariant_of-result
invariant_of-result c =
    let e = pair_ends _ _ _ _ _ _ (c.args.a, c.args.b) c.a.view_is c.a.invariant c.b.view_is c.b.invariant c.product_ends-least.ensures.least c.product_ends-least.ensures.greatest in
    let m = less_made _ _ _ _ _ _ _ _ e c.self.invariant c.requires c.self.view_is in
    m.bounded

pub returns-clause-exact : goal.returns-clause-exact
returns-clause-exact c =
    let e = pair_ends _ _ _ _ _ _ (c.args.a, c.args.b) c.a.view_is c.a.invariant c.b.view_is c.b.invariant c.product_ends-least.ensures.least c.product_ends-least.ensures.greatest in
    let m = less_made _ _ _ _ _ _ _ _ e c.self.invariant c.requires c.self.view_is in
    m.same

pub returns-clause-sums : goal.returns-clause-sums
returns-clause-sums c =
    let e = pair_ends _ _ _ _ _ _ (c.args.a, c.args.b) c.a.view_is c.a.invariant c.b.view_is c.b.invariant c.product_ends-least.ensures.least c.product_ends-least.ensures.greatest in
    let m = less_made _ _ _ _ _ _ _ _ e c.self.invariant c.requires c.self.view_is in
    sums_made (negative_of c.args.a, c.args.b) _ _ m.same (negative_fits _ _ e.0)
