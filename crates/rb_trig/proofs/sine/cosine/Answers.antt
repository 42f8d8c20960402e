use Rattle.std.proofs.Common.{◌∙◌, pos, ap}
use Rattle.rb_num.specs.Interval.{Interval}
use Rattle.rb_trig.specs.Ends.{outward}
use Rattle.rb_trig.specs.Sine.{cosines}
use Rattle.rb_trig.proofs.sine.cosine.Goals as goal

pub returns : goal.returns
unfolding cosines
returns c = c.outward_by_small.ensures ∙ ap (λ (v : Interval). outward v (pos 10000)) c.requires
