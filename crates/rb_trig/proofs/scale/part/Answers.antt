use Rattle.std.proofs.Common.{◌^◌, ◌∙◌}
use Rattle.std.proofs.Math.Nat.{div-div-eq-div-mul}
use Rattle.rb_trig.proofs.scale.part.Goals as goal

pub returns : goal.returns
returns c = c.quotient.ensures ∙ div-div-eq-div-mul c.args.x (2 ^ 16) c.args.by
