use Rattle.std.proofs.Common.{◌≡◌, ◌<◌, ◌-◌, ◌++◌, ◌∷◌, [], ℕ, length, List, None, ap, arith, sym, ◌∙◌, subst}
use Rattle.std.specs.List.{All}
use Rattle.rb_urdf.specs.declared.robot.UrdfJoint.{UrdfJoint}
use Rattle.rb_tree.specs.declared.order.Stem.{Stem}
use Rattle.rb_tree.specs.Grow.{IsGrown, IsNextStem}
use Rattle.rb_tree.proofs.Stems.{length_push}
use Rattle.rb_tree.proofs.Growth.{grown_first, grown_more, grown_fits}
use Rattle.rb_tree.proofs.grow.stems_of.Goals as goal

pub loop-stem-init : goal.loop-stem-init
loop-stem-init c =
    let P : List Stem → Type 0 = λ stems. IsGrown c.args.joints.now c.args.links c.args.root stems in
    let first : Stem = record { link = c.args.root; joint = None; parent = 0 } in
    let e : c.push.new.self.items ≡ first ∷ [] = c.in_ok-push.ensures.items ∙ ap (λ stems. stems ++ first ∷ []) c.new-stems.ensures.items in
    subst P (sym e) (grown_first c.args.joints.now c.args.links c.args.root c.requires.root_there)

pub next_stem-requires-clause-few_stems : goal.next_stem-requires-clause-few_stems
next_stem-requires-clause-few_stems c =
    omega (arith, ap (length {A = Stem}) c.as_slice.ensures.value, grown_fits c.args.joints.now c.args.links c.args.root c.loop-stem.stems.items c.loop-stem.invariant)

-- one stem more, as the program pushes it
pushed : (joints : List UrdfJoint) (links root : ℕ) (stems seen news : List Stem) (stem : Stem) → IsGrown joints links root stems →
    All (λ joint. joint.child < links) joints → seen ≡ stems → IsNextStem joints seen stem → news ≡ stems ++ stem ∷ [] → IsGrown joints links root news
pushed joints links root stems seen news stem grown children e next pushes =
    let Next : List Stem → Type 0 = λ xs. IsNextStem joints xs stem in
    let Grown : List Stem → Type 0 = λ xs. IsGrown joints links root xs in
    subst Grown (sym pushes) (grown_more joints links root stems stem grown (subst Next e next) children)

shorter : (joints : List UrdfJoint) (links root : ℕ) (stems news : List Stem) (stem : Stem) → IsGrown joints links root news →
    news ≡ stems ++ stem ∷ [] → links - length news < links - length stems
shorter joints links root stems news stem grown pushes =
    omega (arith, grown_fits joints links root news grown, ap (length {A = Stem}) pushes, length_push stems stem)

pub loop-stem-preserved : goal.loop-stem-preserved
loop-stem-preserved c =
    pushed c.args.joints.now c.args.links c.args.root c.loop-stem.stems.items c.as_slice.result.now c.push-in-Some.new.self.items c.in-Some.stem
    c.loop-stem.invariant c.requires.children c.as_slice.ensures.value c.in-Some.ensures c.in_ok-push-2.ensures.items

pub loop-stem-smaller : goal.loop-stem-smaller
loop-stem-smaller c =
    shorter c.args.joints.now c.args.links c.args.root c.loop-stem.stems.items c.push-in-Some.new.self.items c.in-Some.stem
    (pushed c.args.joints.now c.args.links c.args.root c.loop-stem.stems.items c.as_slice.result.now c.push-in-Some.new.self.items c.in-Some.stem
    c.loop-stem.invariant c.requires.children c.as_slice.ensures.value c.in-Some.ensures c.in_ok-push-2.ensures.items)
    c.in_ok-push-2.ensures.items
