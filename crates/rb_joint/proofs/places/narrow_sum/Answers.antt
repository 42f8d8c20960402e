use Rattle.std.proofs.Common.{◌≡◌, IfSome, Ok, ◌∷◌}
use Rattle.rb_frac.specs.Ops.{V3}
use Rattle.rb_num.specs.Interval.{Interval, one_interval}
use Rattle.rb_num.specs.Dot.{iv_dot}
use Rattle.rb_spatial.specs.Motions.{pairs}
use Rattle.rb_spatial.proofs.Seen.{seen_two}
use Rattle.rb_joint.proofs.places.narrow_sum.Goals as goal

pub returns : goal.returns
returns c =
    let row = c.with-3.ensures.sums _ (c.with-2.ensures.sums _ (c.with.ensures.sums _ c.none.ensures.sums)) in
    seen_two (λ (u p : V3 Interval). IfSome c.sum.result (λ v. iv_dot ((c.args.at, one_interval) ∷ pairs u p) ≡ Ok v)) c.u.view_is c.p.view_is (c.sum.ensures.sum _ (c.plus.ensures.sums _ row))
