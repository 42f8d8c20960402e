use Rattle.std.proofs.Common.{◌≡◌, IfSome, Ok}
use Rattle.rb_frac.specs.Ops.{V3}
use Rattle.rb_num.specs.Interval.{Interval}
use Rattle.rb_num.specs.Dot.{iv_dot}
use Rattle.rb_spatial.specs.Motions.{pairs}
use Rattle.rb_spatial.proofs.Seen.{seen_two}
use Rattle.rb_spatial.proofs.near.near_dot.Goals as goal

pub returns : goal.returns
returns c =
    let found = c.sum.ensures.sum _ (c.with-3.ensures.sums _ (c.with-2.ensures.sums _ (c.with.ensures.sums _ c.none.ensures.sums))) in
    seen_two (λ (u w : V3 Interval). IfSome c.sum.result (λ v. iv_dot (pairs u w) ≡ Ok v)) c.u.view_is c.w.view_is found
