use Rattle.rb_tags.proofs.ValueSteps.{splits_reference}
use Rattle.rb_tags.proofs.values.split_reference.Goals as goal

pub returns : goal.returns
returns c = splits_reference c.args.text.now c.split_once.result c.split_once.ensures.cases
