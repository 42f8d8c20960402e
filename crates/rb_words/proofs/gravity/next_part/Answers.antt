use Rattle.std.proofs.Common.{arith}
use Rattle.rb_words.proofs.Parts.{first_part}
use Rattle.rb_words.proofs.gravity.next_part.Goals as goal

pub returns : goal.returns
returns c = first_part c.args.text.now c.split_once.result (c.split_once.ensures.byte (omega arith) (λ w o h. h))
