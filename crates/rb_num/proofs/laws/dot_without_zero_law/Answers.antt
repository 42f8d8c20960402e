use Rattle.rb_num.proofs.Zeros.{leaves_out_zero}
use Rattle.rb_num.proofs.laws.dot_without_zero_law.Goals as goal

pub returns : goal.returns
returns c = leaves_out_zero
