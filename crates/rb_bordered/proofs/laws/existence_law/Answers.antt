use Rattle.rb_bordered.proofs.Exists.{bordered_exists}
use Rattle.rb_bordered.proofs.laws.existence_law.Goals as goal

pub returns : goal.returns
returns c = bordered_exists
