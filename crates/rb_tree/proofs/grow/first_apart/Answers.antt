use Rattle.std.proofs.Common.{◌≡◌, below_more}
use Rattle.std.specs.List.{Any}
use Rattle.rb_tree.specs.Grow.{HasLink}
use Rattle.rb_tree.proofs.Answered.{holds, fails}
use Rattle.rb_tree.proofs.Stems.{placed_from_any, any_from_placed}
use Rattle.rb_tree.proofs.grow.first_apart.Goals as goal

pub returns-then-not-is_placed : goal.returns-then-not-is_placed
returns-then-not-is_placed c =
    let stems = c.args.stems.now in
    let link = c.loop-link.link in
    record {
      within = c.loop-link-test.true;
      free = λ placed. fails c.is_placed.result (Any (λ stem. stem.link ≡ link) stems) c.is_placed.ensures c.if-not-is_placed.true (any_from_placed stems link placed);
      first = c.loop-link.invariant;
    }

pub loop-link-preserved : goal.loop-link-preserved
loop-link-preserved c =
    let stems = c.args.stems.now in
    let link = c.loop-link.link in
    below_more (HasLink stems) link c.loop-link.invariant
    (placed_from_any stems link (holds c.is_placed.result (Any (λ stem. stem.link ≡ link) stems) c.is_placed.ensures c.if-not-is_placed.false))
