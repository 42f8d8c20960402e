use Rattle.rb_flat.proofs.Places.{zero_has_one_pair, neutral_fits, fixed_is_unmoved, neutral_is_unmoved, continuous_is_revolute, planar_is_free, free_moves_all}
use Rattle.rb_flat.proofs.Rates.{columns_are_rates}
use Rattle.rb_flat.proofs.laws.joint_law.Goals as goal

pub returns-clause-zero : goal.returns-clause-zero
returns-clause-zero c = zero_has_one_pair

pub returns-clause-entries : goal.returns-clause-entries
returns-clause-entries c = neutral_fits

pub returns-clause-fixed : goal.returns-clause-fixed
returns-clause-fixed c = fixed_is_unmoved

pub returns-clause-neutral : goal.returns-clause-neutral
returns-clause-neutral c = neutral_is_unmoved

pub returns-clause-continuous : goal.returns-clause-continuous
returns-clause-continuous c = continuous_is_revolute

pub returns-clause-planar : goal.returns-clause-planar
returns-clause-planar c = planar_is_free

pub returns-clause-free : goal.returns-clause-free
returns-clause-free c = free_moves_all

pub returns-clause-rates : goal.returns-clause-rates
returns-clause-rates c = columns_are_rates
