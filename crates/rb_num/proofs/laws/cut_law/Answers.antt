use Rattle.rb_num.proofs.Sine.{is_cut}
use Rattle.rb_num.proofs.laws.cut_law.Goals as goal

pub returns : goal.returns
returns c = is_cut
