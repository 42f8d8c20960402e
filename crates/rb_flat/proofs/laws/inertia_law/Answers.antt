use Rattle.rb_flat.proofs.Identities.{inertia_about_axis, congruent_is_symmetric, parallel_axes_is_square}
use Rattle.rb_flat.proofs.laws.inertia_law.Goals as goal

pub returns-clause-axis : goal.returns-clause-axis
returns-clause-axis c = inertia_about_axis

pub returns-clause-symmetric : goal.returns-clause-symmetric
returns-clause-symmetric c = congruent_is_symmetric

pub returns-clause-parallel : goal.returns-clause-parallel
returns-clause-parallel c = parallel_axes_is_square
