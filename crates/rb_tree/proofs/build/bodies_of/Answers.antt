use Rattle.std.proofs.Common.{◌≡◌, ◌⊎◌, None, arith}
use Rattle.std.proofs.lemmas.Option.{slice_get-get_or}
use Rattle.rb_tree.specs.Faults.{no_memory}
use Rattle.rb_tree.specs.Refusals.{HasConstantFault}
use Rattle.rb_tree.proofs.MakingLaws.{stem_there, refused_there, handed_on, one_more}
use Rattle.rb_tree.proofs.build.bodies_of.Goals as goal

pub body_at-requires-clause-there : goal.body_at-requires-clause-there
body_at-requires-clause-there c =
    stem_there c.args.urdf.now c.args.order.now c.loop-stem.stem-index _ c.requires.ordered (slice_get-get_or c.args.order.now c.loop-stem.stem-index (record { link = 0; joint = None; parent = 0 }) c.loop-stem-test.true)

pub returns-in_err-body_at-clause-err : goal.returns-in_err-body_at-clause-err
returns-in_err-body_at-clause-err c =
    let h = slice_get-get_or c.args.order.now c.loop-stem.stem-index (record { link = 0; joint = None; parent = 0 }) c.loop-stem-test.true in
    let refused = refused_there c.args.urdf.now c.args.root.now c.args.order.now c.loop-stem.stem-index _ c.loop-stem.bodies.items c.in_err-body_at.field-0.0 c.requires.ordered h c.loop-stem.invariant c.in_err-body_at.ensures.err in
    handed_on (λ fault. (fault ≡ no_memory) ⊎ HasConstantFault c.args.urdf.now c.args.root.now fault) c.from_residual.result _ c.from_residual.ensures.1 refused

pub loop-stem-preserved : goal.loop-stem-preserved
loop-stem-preserved c =
    rw c.in_ok-push.ensures.items (one_more c.args.urdf.now c.args.root.now c.args.order.now c.loop-stem.stem-index c.loop-stem.bodies.items _ (record { link = 0; joint = None; parent = 0 }) c.loop-stem-test.true c.loop-stem.invariant c.in_ok-body_at.ensures.ok)

pub body_at-requires-clause-few : goal.body_at-requires-clause-few
body_at-requires-clause-few c = omega (arith, c.requires.ordered.count, c.requires.accepted.links)
