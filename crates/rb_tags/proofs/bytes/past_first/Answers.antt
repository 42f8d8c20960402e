use Rattle.std.proofs.Common.{arith, sym}
use Rattle.rb_tags.proofs.Runs.{first_lacks, splits_first}
use Rattle.rb_tags.proofs.bytes.past_first.Goals as goal

pub returns-in_err-rest : goal.returns-in_err-rest
returns-in_err-rest c = let none = first_lacks c.args.closing.now c.args.text.now c.in_err-rest.ensures.cases in grind (arith, none)

pub returns : goal.returns
returns c = sym (splits_first c.args.closing.now c.args.text.now _ _ c.in_ok-rest.ensures.cases)
