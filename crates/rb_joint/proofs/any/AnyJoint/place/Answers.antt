use Rattle.rb_joint.proofs.Ranges.{fixed_range, fixed_not_unit, revolute_range, revolute_not_unit, continuous_range, continuous_not_unit, prismatic_range, prismatic_not_unit, planar_range, planar_not_unit, free_range, free_not_unit}
use Rattle.rb_joint.proofs.any.AnyJoint.place.Goals as goal

pub returns-in-Fixed-clause-range : goal.returns-in-Fixed-clause-range
returns-in-Fixed-clause-range c = rw c.in-Fixed.is (fixed_range _ _ c.place.ensures.exact)

pub returns-in-Fixed-clause-not_unit : goal.returns-in-Fixed-clause-not_unit
returns-in-Fixed-clause-not_unit c = rw c.in-Fixed.is (fixed_not_unit _ _ c.place.ensures.exact)

pub returns-in-Revolute-clause-range : goal.returns-in-Revolute-clause-range
returns-in-Revolute-clause-range c = rw c.in-Revolute.is (revolute_range _ _ _ _ c.place-in-Revolute.ensures.exact)

pub returns-in-Revolute-clause-not_unit : goal.returns-in-Revolute-clause-not_unit
returns-in-Revolute-clause-not_unit c = rw c.in-Revolute.is (revolute_not_unit _ _ _ _ c.place-in-Revolute.ensures.exact)

pub returns-in-Continuous-clause-range : goal.returns-in-Continuous-clause-range
returns-in-Continuous-clause-range c = rw c.in-Continuous.is (continuous_range _ _ _ _ c.place-in-Continuous.ensures.exact)

pub returns-in-Continuous-clause-not_unit : goal.returns-in-Continuous-clause-not_unit
returns-in-Continuous-clause-not_unit c = rw c.in-Continuous.is (continuous_not_unit _ _ _ _ c.place-in-Continuous.ensures.exact)

pub returns-in-Prismatic-clause-range : goal.returns-in-Prismatic-clause-range
returns-in-Prismatic-clause-range c = rw c.in-Prismatic.is (prismatic_range _ _ _ _ c.place-in-Prismatic.ensures.exact)

pub returns-in-Prismatic-clause-not_unit : goal.returns-in-Prismatic-clause-not_unit
returns-in-Prismatic-clause-not_unit c = rw c.in-Prismatic.is (prismatic_not_unit _ _ _ _ c.place-in-Prismatic.ensures.exact)

pub returns-in-Planar-clause-range : goal.returns-in-Planar-clause-range
returns-in-Planar-clause-range c = rw c.in-Planar.is (planar_range _ _ _ _ c.place-in-Planar.ensures.exact)

pub returns-in-Planar-clause-not_unit : goal.returns-in-Planar-clause-not_unit
returns-in-Planar-clause-not_unit c = rw c.in-Planar.is (planar_not_unit _ _ _ _ c.place-in-Planar.ensures.exact)

pub returns-in-Free-clause-range : goal.returns-in-Free-clause-range
returns-in-Free-clause-range c = rw c.in-Free.is (free_range _ _ _ _ c.place-in-Free.ensures.exact)

pub returns-in-Free-clause-not_unit : goal.returns-in-Free-clause-not_unit
returns-in-Free-clause-not_unit c = rw c.in-Free.is (free_not_unit _ _ _ _ c.place-in-Free.ensures.exact)
