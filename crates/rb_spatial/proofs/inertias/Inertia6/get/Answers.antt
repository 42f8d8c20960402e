use Rattle.std.proofs.Common.{arith}
use Rattle.std.proofs.lemmas.Grind.{common_steps}
use Rattle.rb_frac.specs.Spatial.{entry}
use Rattle.rb_spatial.proofs.Enclosure.{entry_encloses}
use Rattle.rb_spatial.proofs.inertias.Inertia6.get.Goals as goal

pub returns-then-c-lt3-2-clause-encloses : goal.returns-then-c-lt3-2-clause-encloses
unfolding entry
returns-then-c-lt3-2-clause-encloses c = entry_encloses c.args.r c.args.c c.args.self.now _ (grind (arith, common_steps))

pub returns-else-c-lt3-2-clause-encloses : goal.returns-else-c-lt3-2-clause-encloses
unfolding entry
returns-else-c-lt3-2-clause-encloses c = entry_encloses c.args.r c.args.c c.args.self.now _ (grind (arith, common_steps))
