use Rattle.rb_coupling.proofs.Borders.{bordered_encloses}
use Rattle.rb_coupling.proofs.laws.bordered_law.Goals as goal

pub returns : goal.returns
returns c = bordered_encloses
