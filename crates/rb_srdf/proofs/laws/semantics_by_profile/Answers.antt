use Rattle.rb_srdf.proofs.WholeLaws.{reads-described, described-read, refuses-faulty, faulty-refused, one-fault, fault-excludes}
use Rattle.rb_srdf.proofs.laws.semantics_by_profile.Goals as goal

pub returns : goal.returns
returns c = record { sound = reads-described; complete = described-read; refused = refuses-faulty; faulty = faulty-refused; one = one-fault; excludes = fault-excludes }
