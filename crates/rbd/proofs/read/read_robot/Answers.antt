use Rattle.std.proofs.lemmas.Result.{err_from_is_err_and}
use Rattle.rbd.specs.Plan.{files}
use Rattle.std.specs.Option.{option_copied}
use Rattle.rbd.proofs.Refusals.{source_is, robot_unfit}
use Rattle.rbd.proofs.read.read_robot.Goals as goal

pub returns-in_err-robot_of-clause-refused : goal.returns-in_err-robot_of-clause-refused
returns-in_err-robot_of-clause-refused g c =
    let p = err_from_is_err_and c.from_residual-in_err-robot_of.result c.from_residual-in_err-robot_of.ensures.1 in
    λ tells. rw (p.1, p.2)
    (robot_unfit c.args.root (files (g.I.Inputs.holds c.args.inputs.now) c.args.urdf.now (option_copied c.args.srdf)) _ _
    (source_is c.args.root _ _ c.args.urdf.now (option_copied c.args.srdf) c.in_ok-urdf.urdf c.in_ok-srdf.srdf _ c.read_urdf_of.ensures.holds c.as_ref.ensures.value
    (c.in_ok-urdf.ensures.urdf tells) (c.in_ok-srdf.ensures.srdf (rw c.read_urdf_of.ensures.tells tells)))
    c.in_err-robot_of.ensures.err)

pub returns-clause-robot : goal.returns-clause-robot
returns-clause-robot g c = λ tells. record {
  source = _;
  read =
      source_is c.args.root _ _ c.args.urdf.now (option_copied c.args.srdf) c.in_ok-urdf.urdf c.in_ok-srdf.srdf _ c.read_urdf_of.ensures.holds c.as_ref.ensures.value
      (c.in_ok-urdf.ensures.urdf tells) (c.in_ok-srdf.ensures.srdf (rw c.read_urdf_of.ensures.tells tells));
  built = c.in_ok-robot_of.ensures.ok;
  kept = c.in_ok-robot_of.ensures.kept;
}
