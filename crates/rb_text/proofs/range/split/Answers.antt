use Rattle.rb_text.proofs.Splits.{found_split, found_none}
use Rattle.rb_text.proofs.range.split.Goals as goal

pub returns-in-Some : goal.returns-in-Some
returns-in-Some c = found_split c.args.text.now c.find.result c.in-Some.place c.find.ensures c.in-Some.is

pub returns-in-None : goal.returns-in-None
returns-in-None c = found_none c.args.text.now c.find.result c.find.ensures c.in-None.is
