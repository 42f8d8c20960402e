use Rattle.std.proofs.Common.{rules, arith}
use Rattle.std.proofs.lemmas.List.{places, same_lists}
use Rattle.rb_io.proofs.mem_files.give.Goals as goal

pub returns-clause-takes : goal.returns-clause-takes
returns-clause-takes c = same_lists _ _ (search (rules, places)) (λ k d h. grind (arith, places))
