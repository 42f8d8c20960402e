use Rattle.rb_tags.proofs.Runs.{strips_front}
use Rattle.rb_tags.proofs.bytes.past_front.Goals as goal

pub returns : goal.returns
returns c = strips_front c.args.front.now c.args.text.now c.strip_prefix.result c.strip_prefix.ensures.cases
