use Rattle.std.proofs.Common.{◌≢◌, ap, sym, ◌∙◌, subst, refl, arith, List, length}
use Rattle.std.specs.List.{All}
use Rattle.std.proofs.lemmas.Bool.Decides.{Decides-eqb}
use Rattle.std.proofs.lemmas.Slice.Eq.{slice_eq-Decides}
use Rattle.std.proofs.lemmas.List.{take_all}
use Rattle.std.proofs.lemmas.List.Elements.{All-more}
use Rattle.std.proofs.lemmas.Option.{slice_get_read}
use Rattle.rb_urdf.specs.declared.robot.UrdfJoint.{UrdfJoint}
use Rattle.rb_tree.proofs.sizes.check_root.Goals as goal

pub returns-then-eq-clause-err : goal.returns-then-eq-clause-err
returns-then-eq-clause-err c =
    let says = c.fault.ensures in
    let joints = c.args.joints.now in
    let joint = c.joint-item.result in
    let same = (slice_eq-Decides Decides-eqb c.as_str.result.now c.as_str-in-loop-joint.result.now c.eq.result c.eq.ensures).0 c.if-eq.true in (
      ap (λ f. f.file) says,
      ap (λ f. f.kind) says,
      record {
        moves = omega arith;
        number = c.loop-joint.joint-index;
        joint = joint;
        is = slice_get_read joints (length joints) c.loop-joint.joint-index joint refl c.loop-joint-test.true c.joint-item.is;
        name = sym c.as_str.ensures.same ∙ (same ∙ c.as_str-in-loop-joint.ensures.same);
        place = ap (λ f. f.at) says;
      },
    )

pub loop-joint-preserved : goal.loop-joint-preserved
loop-joint-preserved c =
    let joint = c.joint-item.result in
    let decides = slice_eq-Decides Decides-eqb c.as_str.result.now c.as_str-in-loop-joint.result.now c.eq.result c.eq.ensures in
    let apart : joint.name ≢ c.args.root.now.name = λ e. absurd (let t = decides.1 (c.as_str.ensures.same ∙ (e ∙ sym c.as_str-in-loop-joint.ensures.same)) in let f = c.if-eq.false in let g = sym t ∙ f in cc) in
    let P : UrdfJoint → Type 0 = λ j. j.name ≢ c.args.root.now.name in
    All-more P c.args.joints.now c.loop-joint.joint-index joint c.loop-joint-test.true c.loop-joint.invariant (subst P c.joint-item.is apart)

pub returns-clause-ok : goal.returns-clause-ok
returns-clause-ok c moves =
    let P : List UrdfJoint → Type 0 = λ xs. All (λ (joint : UrdfJoint). joint.name ≢ c.args.root.now.name) xs in
    subst P (take_all c.loop-joint.joint-index c.args.joints.now c.loop-joint-test.false) c.loop-joint.invariant
