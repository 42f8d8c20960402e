use Rattle.std.proofs.Common.{arith}
use Rattle.rb_text.proofs.Ends.{length-iv_text}
use Rattle.rb_text.proofs.buffer.Out.put_iv.Goals as goal

pub returns-clause-spare : goal.returns-clause-spare
returns-clause-spare c = omega (arith, length-iv_text c.args.iv c.lo.result c.hi.result c.lo.ensures.value c.hi.ensures.value c.lo.ensures.bounds)
