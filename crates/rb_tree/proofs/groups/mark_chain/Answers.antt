use Rattle.std.proofs.Common.{◌≡◌, ◌<◌, ℕ, arith, refl, sym, subst, true, set}
use Rattle.rb_tree.specs.Columns.{parent_at}
use Rattle.rb_tree.specs.Groups.{IsAtOrAbove, IsBelow}
use Rattle.rb_tree.specs.GroupMarks.{Adds}
use Rattle.rb_tree.proofs.GroupChains.{parent_is, above_itself, below_parent, parent_above, passed_more, passed_none, passed_all, above_le}
use Rattle.rb_tree.proofs.GroupMarking.{Adds-none, Adds-one, Adds-more, Adds-same}
use Rattle.rb_tree.proofs.groups.mark_chain.Goals as goal

pub loop-body-init : goal.loop-body-init
loop-body-init c = record {
  there = c.requires.tip;
  above = c.requires.down;
  on_way = above_itself c.args.bodies.now c.args.tip c.args.tip refl;
  passed = Adds-none _ c.args.marks.now (passed_none c.args.bodies.now c.requires.bodies.parents c.args.tip);
}

pub loop-body-smaller : goal.loop-body-smaller
loop-body-smaller c =
    let i = c.loop-body.body in
    let there = c.loop-body.invariant.there in
    let e = parent_is c.args.bodies.now i c.index-bodies-body.result (omega arith) there c.index-bodies-body.is in
    omega (arith, e, c.requires.bodies.parents i (omega arith))

pub loop-body-preserved : goal.loop-body-preserved
loop-body-preserved c =
    let bodies = c.args.bodies.now in
    let tip = c.args.tip in
    let i = c.loop-body.body in
    let there = c.loop-body.invariant.there in
    let e = parent_is bodies i c.index-bodies-body.result (omega arith) there c.index-bodies-body.is in
    let less = c.requires.bodies.parents i (omega arith) in
    let P : ℕ → Type 0 = λ n. IsAtOrAbove bodies c.args.base n in
    let Q : ℕ → Type 0 = λ n. IsAtOrAbove bodies n tip in
    let R : ℕ → Type 0 = λ n. Adds (λ k. (n < k) × IsAtOrAbove bodies k tip) c.args.marks.now (set c.loop-body.marks i true) in
    record {
      there = omega (arith, e);
      above = subst P (sym e) (below_parent bodies c.args.base i c.loop-body.invariant.above c.loop-body-test.true);
      on_way = subst Q (sym e) (parent_above bodies i tip c.loop-body.invariant.on_way);
      passed = subst R (sym e)
          (Adds-more (λ k. (i < k) × IsAtOrAbove bodies k tip) (λ k. k ≡ i) (λ k. (parent_at bodies i < k) × IsAtOrAbove bodies k tip) c.args.marks.now c.loop-body.marks
          (set c.loop-body.marks i true) (λ k. passed_more bodies c.requires.bodies.parents tip i k (omega arith) c.loop-body.invariant.on_way) c.loop-body.invariant.passed
          (Adds-one c.loop-body.marks i (omega (arith, c.loop-body.invariant.passed.size))));
    }

pub returns : goal.returns
returns c =
    let bodies = c.args.bodies.now in
    let tip = c.args.tip in
    let i = c.loop-body.body in
    let e : i ≡ c.args.base = omega (arith, above_le bodies c.requires.bodies.parents c.args.base i c.loop-body.invariant.above) in
    let R : ℕ → Type 0 = λ n. Adds (λ k. (n < k) × IsAtOrAbove bodies k tip) c.args.marks.now c.loop-body.marks in
    Adds-same (λ k. (c.args.base < k) × IsAtOrAbove bodies k tip) (λ k. IsBelow bodies c.args.base k × IsAtOrAbove bodies k tip) c.args.marks.now c.loop-body.marks
    (λ k. passed_all bodies c.requires.bodies.parents c.args.base tip k c.requires.base c.requires.down)
    (subst R e c.loop-body.invariant.passed)
