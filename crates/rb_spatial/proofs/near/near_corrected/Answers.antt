use Rattle.std.proofs.Common.{◌≡◌, IfSome, Ok}
use Rattle.rb_frac.specs.Ops.{V3}
use Rattle.rb_num.specs.Interval.{Interval}
use Rattle.rb_num.specs.Arith.{intervals}
use Rattle.rb_spatial.specs.Carrying.{corrected}
use Rattle.rb_spatial.proofs.Seen.{seen_four}
use Rattle.rb_spatial.proofs.near.near_corrected.Goals as goal

pub returns : goal.returns
returns c =
    let last = c.less-3.ensures.sums _ (c.less-2.ensures.sums _ (c.less.ensures.sums _ c.none.ensures.sums)) in
    let rest = c.with-3.ensures.sums _ (c.with-2.ensures.sums _ (c.with.ensures.sums _ last)) in
    let found = c.sum.ensures.sum _ (c.plus.ensures.sums _ rest) in
    seen_four (λ (u p w q : V3 Interval). IfSome c.sum.result (λ v. corrected intervals c.args.c u p w q ≡ Ok v)) c.u.view_is c.p.view_is c.w.view_is c.q.view_is found
