use Rattle.std.proofs.Common.{ap, ◌∙◌, arith}
use Rattle.rb_work.specs.Path.{is_on}
use Rattle.rb_work.proofs.PathLaws.{test_next, test_stopped, test_left, is_on_test}
use Rattle.rb_work.proofs.work.Work.is_on.Goals as goal

pub returns-then-at-ne0 : goal.returns-then-at-ne0
returns-then-at-ne0 c =
    let exact = test_stopped _ c.columns-sizes.ensures.sized.extent.ascends _ _ c.loop-at-test.false c.if-at-ne0.true ∙ c.loop-at.invariant.same in
    record { exact = exact; on = is_on_test _ _ _ _ exact }

pub returns-else-at-ne0 : goal.returns-else-at-ne0
returns-else-at-ne0 c =
    let exact = test_left _ c.columns-sizes.ensures.sized.extent.ascends _ _ c.if-at-ne0.false ∙ c.loop-at.invariant.same in
    record { exact = exact; on = is_on_test _ _ _ _ exact }

pub loop-at-preserved : goal.loop-at-preserved
loop-at-preserved c = record {
  to = omega arith;
  same =
      ap (λ u. is_on c.args.self.now.up u c.args.d) c.up-at.ensures.value
      ∙ test_next _ c.columns-sizes.ensures.sized.extent.ascends _ _ c.loop-at-test.true
      ∙ c.loop-at.invariant.same;
}
