use Rattle.std.proofs.Common.{[], sym, arith}
use Rattle.std.specs.Str.{is_utf8}
use Rattle.rb_record.proofs.Given.{all_pass}
use Rattle.rb_record.proofs.fields.are_text.Goals as goal

pub returns : goal.returns
returns c = sym (all_pass is_utf8 [] _ (λ k within. c.loop-k.invariant k (omega (arith, c.len-k-end.ensures, c.loop-k-test.false, within))))
