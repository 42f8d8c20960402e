use Rattle.std.proofs.Common.{ap, sym, ◌∙◌, arith}
use Rattle.std.proofs.lemmas.List.{get_or-set_same}
use Rattle.rb_result.proofs.Results.{told-ok}
use Rattle.rb_work.specs.View.{s_at}
use Rattle.rb_rnea.specs.Rates.{motion_of}
use Rattle.rb_rnea.proofs.speeds.body_speeds.Goals as goal

pub velocity_at-requires-clause-own : goal.velocity_at-requires-clause-own
velocity_at-requires-clause-own c =
    let room = c.requires.room in let high = c.requires.there.to in let sized = c.bodies-sizes.ensures.sized.s in
    ap (λ w. motion_of c.args.robot.now.bodies c.args.i (s_at w c.args.i)) c.set_s.ensures
    ∙ ap (motion_of c.args.robot.now.bodies c.args.i) (get_or-set_same c.args.work.now.s c.args.i c.in_ok-s.s _ (omega arith))
    ∙ sym c.motion_at.ensures.exact ∙ told-ok _ _ _ (sym c.named-2.ensures ∙ c.in_ok-own.was)
