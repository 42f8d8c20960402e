use Rattle.rb_urdf.proofs.SoundLaws.{sound}
use Rattle.rb_urdf.proofs.CompleteLaws.{complete}
use Rattle.rb_urdf.proofs.Obeyed.{refused, faulty, one_fault, excludes}
use Rattle.rb_urdf.proofs.laws.robots_by_profile.Goals as goal

pub returns : goal.returns
returns c = record { sound = sound; complete = complete; refused = refused; faulty = faulty; one = one_fault; excludes = excludes }
