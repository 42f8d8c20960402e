use Rattle.std.proofs.Common.{rules}
use Rattle.rb_spatial.specs.Inertias.{table}
use Rattle.rb_spatial.proofs.Enclosure.{table_encloses}
use Rattle.rb_spatial.proofs.inertias.table.Goals as goal

pub returns-clause-encloses : goal.returns-clause-encloses
unfolding table
returns-clause-encloses c = table_encloses c.args.i.now _ (search rules)
