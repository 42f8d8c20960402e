use Rattle.std.proofs.Common.{◌∙◌}
use Rattle.rb_trig.proofs.Read.{lo_held, hi_held, clamp_makes}
use Rattle.rb_trig.proofs.ends.clamp.Goals as goal

pub returns : goal.returns
returns c =
    let v = c.args.v in
    let i = c.lo.ensures.bounds in
    c.new.ensures ∙ (clamp_makes v _ _ _ _ i (lo_held c.lo.result v c.lo.ensures.value i) (hi_held c.hi.result v c.hi.ensures.value i) c.clamp.ensures.value c.clamp-2.ensures.value).value
