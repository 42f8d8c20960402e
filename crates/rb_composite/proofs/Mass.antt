-- What the mass table is known for holds of the table that composite inertias give.
use Rattle.rb_flat.proofs.Superposed.{torque_is_linear}
use Rattle.rb_flat.proofs.Symmetric.{mass_table_is_symmetric}
use Rattle.rb_composite.specs.Laws.{CompositeIsSymmetric, CompositeGivesTorques}
use Rattle.rb_composite.proofs.Gathered.{composite_is_mass_table}

pub composite_is_symmetric : CompositeIsSymmetric
composite_is_symmetric shape m table parents mimics fit is = mass_table_is_symmetric shape m table parents mimics fit (composite_is_mass_table shape m table parents mimics fit is)

pub composite_gives_torques : CompositeGivesTorques
composite_gives_torques shape m outside table s bias parents mimics fit is =
    torque_is_linear shape m outside table s bias parents fit (composite_is_mass_table shape m table parents mimics fit is)
