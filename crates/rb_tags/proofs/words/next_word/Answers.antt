use Rattle.std.proofs.Common.{arith}
use Rattle.rb_tags.proofs.WordLemmas.{no_word, one_word}
use Rattle.rb_tags.proofs.words.next_word.Goals as goal

pub returns-then-len-eq0 : goal.returns-then-len-eq0
returns-then-len-eq0 c =
    no_word c.args.text.now _ _ _ c.space_len.ensures.value c.split_at.ensures.back c.word_len-len.ensures.value c.if-len-eq0.true

pub returns : goal.returns
returns c =
    one_word c.args.text.now _ _ _ _ _ c.space_len.ensures.value c.split_at.ensures.back c.word_len-len.ensures.value (omega arith) c.split_at-2.ensures.front c.split_at-2.ensures.back
