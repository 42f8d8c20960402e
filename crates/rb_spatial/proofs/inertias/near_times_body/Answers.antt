use Rattle.rb_spatial.proofs.Body.{body_found}
use Rattle.rb_spatial.proofs.inertias.near_times_body.Goals as goal

pub returns : goal.returns
returns c = body_found _ _ _ _ c.in_ok-lin.ensures c.in_ok-ang.ensures
