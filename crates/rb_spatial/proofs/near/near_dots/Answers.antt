use Rattle.std.proofs.Common.{◌≡◌, IfSome, Ok}
use Rattle.rb_frac.specs.Ops.{V3}
use Rattle.rb_num.specs.Interval.{Interval}
use Rattle.rb_num.specs.Dot.{iv_dot}
use Rattle.rb_spatial.specs.Motions.{six_pairs}
use Rattle.rb_spatial.proofs.Seen.{seen_four}
use Rattle.rb_spatial.proofs.near.near_dots.Goals as goal

pub returns : goal.returns
returns c =
    let last = c.with-3.ensures.sums _ (c.with-2.ensures.sums _ (c.with.ensures.sums _ c.none.ensures.sums)) in
    let found = c.sum.ensures.sum _ (c.with-6.ensures.sums _ (c.with-5.ensures.sums _ (c.with-4.ensures.sums _ last))) in
    seen_four (λ (u p w q : V3 Interval). IfSome c.sum.result (λ v. iv_dot (six_pairs u p w q) ≡ Ok v)) c.u.view_is c.p.view_is c.w.view_is c.q.view_is found
