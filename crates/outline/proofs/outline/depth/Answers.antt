use Rattle.std.proofs.Common.{◌≡◌, ap, arith}
use Rattle.outline.specs.Outline.{depth_of}
use Rattle.outline.proofs.Depths.{at_world}
use Rattle.outline.proofs.outline.depth.Goals as goal

pub returns : goal.returns
returns c =
    let bodies = c.args.robot.now.bodies in
    let up : c.loop-at.at ≡ 0 = omega arith in
    omega (arith, c.loop-at.invariant.1, ap (depth_of bodies) up, at_world bodies)
