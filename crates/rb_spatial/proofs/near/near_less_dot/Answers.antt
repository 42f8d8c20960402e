use Rattle.std.proofs.Common.{◌≡◌, IfSome, Ok}
use Rattle.rb_frac.specs.Ops.{V3}
use Rattle.rb_num.specs.Interval.{Interval}
use Rattle.rb_num.specs.Dot.{iv_dot}
use Rattle.rb_num.specs.Arith.{intervals}
use Rattle.rb_spatial.specs.Carrying.{less_pairs}
use Rattle.rb_spatial.proofs.Seen.{seen_two}
use Rattle.rb_spatial.proofs.near.near_less_dot.Goals as goal

pub returns : goal.returns
returns c =
    let last = c.less-3.ensures.sums _ (c.less-2.ensures.sums _ (c.less.ensures.sums _ c.none.ensures.sums)) in
    let found = c.sum.ensures.sum _ (c.plus.ensures.sums _ last) in
    seen_two (λ (v w : V3 Interval). IfSome c.sum.result (λ r. iv_dot (less_pairs intervals c.args.b v w) ≡ Ok r)) c.v.view_is c.w.view_is found
