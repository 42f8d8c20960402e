use Rattle.rb_num.proofs.Refused.{decides_meet}
use Rattle.rb_num.proofs.laws.meet_law.Goals as goal

pub returns : goal.returns
returns c = decides_meet
