use Rattle.std.proofs.Common.{sym, arith}
use Rattle.std.proofs.lemmas.Result.{err_from_is_err_and}
use Rattle.outline.proofs.Masses.{begins, goes, stops, ends, encloses}
use Rattle.outline.proofs.outline.mass_of.Goals as goal

pub loop-i-init : goal.loop-i-init
loop-i-init c = begins c.args.robot.now

pub loop-i-preserved : goal.loop-i-preserved
loop-i-preserved c =
    goes c.args.robot.now c.loop-i.i c.link_raw.result.now c.loop-i.mass c.in_ok-mass.mass (record { from = omega arith; to = omega arith }) c.link_raw.ensures (sym c.in_ok-mass.ensures.exact)
    c.in_ok-mass.ensures.encloses c.loop-i.invariant

pub returns-in_err-mass-clause-exact : goal.returns-in_err-mass-clause-exact
returns-in_err-mass-clause-exact c =
    let p = err_from_is_err_and c.from_residual.result c.from_residual.ensures.1 in
    rw (p.1, p.2) (sym (stops c.args.robot.now c.loop-i.i c.link_raw.result.now c.loop-i.mass _ (record { from = omega arith; to = omega arith }) c.link_raw.ensures (sym c.in_err-mass.ensures.exact) c.loop-i.invariant))

pub returns-clause-exact : goal.returns-clause-exact
returns-clause-exact c = sym (ends c.args.robot.now c.loop-i.i c.loop-i.mass (omega arith) c.loop-i.invariant)

pub returns-clause-encloses : goal.returns-clause-encloses
returns-clause-encloses c = encloses c.args.robot.now c.loop-i.i c.loop-i.mass (omega arith) c.loop-i.invariant
