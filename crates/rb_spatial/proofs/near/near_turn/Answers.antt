use Rattle.std.proofs.Common.{◌≡◌, IfSome, Ok, ◌∷◌}
use Rattle.rb_frac.specs.Ops.{V3}
use Rattle.rb_num.specs.Interval.{Interval, negative_of}
use Rattle.rb_num.specs.Dot.{iv_dot}
use Rattle.rb_spatial.specs.Motions.{pairs}
use Rattle.rb_spatial.proofs.Seen.{seen_two}
use Rattle.rb_spatial.proofs.near.near_turn.Goals as goal

pub returns : goal.returns
returns c =
    let row = c.with-3.ensures.sums _ (c.with-2.ensures.sums _ (c.with.ensures.sums _ c.none.ensures.sums)) in
    seen_two (λ (d w : V3 Interval). IfSome c.sum.result (λ v. iv_dot ((c.args.p, c.args.q) ∷ (negative_of c.args.r, c.args.s) ∷ pairs d w) ≡ Ok v)) c.c.view_is c.w.view_is (c.sum.ensures.sum _ (c.with-4.ensures.sums _ (c.less.ensures.sums _ row)))
