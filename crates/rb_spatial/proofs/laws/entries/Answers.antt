use Rattle.rb_spatial.proofs.Entries.{entry-symmetric, times-rows, less_outer-entry}
use Rattle.rb_spatial.proofs.laws.entries.Goals as goal

pub returns-clause-symmetric : goal.returns-clause-symmetric
returns-clause-symmetric c = entry-symmetric

pub returns-clause-times : goal.returns-clause-times
returns-clause-times c = times-rows

pub returns-clause-less_outer : goal.returns-clause-less_outer
returns-clause-less_outer c = less_outer-entry
