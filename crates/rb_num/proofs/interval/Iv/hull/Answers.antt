use Rattle.rb_num.proofs.Least.{least_hull}
use Rattle.rb_num.proofs.Ends.{ends_are}
use Rattle.rb_num.proofs.Hull.{hull_made, hull_encloses}
use Rattle.rb_num.proofs.interval.Iv.hull.Goals as goal

pub invariant_of-result : goal.invariant_of-result
invariant_of-result c = (hull_made (ends_are c.self.invariant c.self.view_is) (ends_are c.other.invariant c.other.view_is) c.min.ensures.value c.max.ensures.value).invariant

pub returns-clause-exact : goal.returns-clause-exact
returns-clause-exact c = (hull_made (ends_are c.self.invariant c.self.view_is) (ends_are c.other.invariant c.other.view_is) c.min.ensures.value c.max.ensures.value).value

pub returns-clause-encloses : goal.returns-clause-encloses
returns-clause-encloses c = hull_encloses _ _ _ (hull_made (ends_are c.self.invariant c.self.view_is) (ends_are c.other.invariant c.other.view_is) c.min.ensures.value c.max.ensures.value).value

pub returns-clause-least : goal.returns-clause-least
returns-clause-least c = least_hull _ _ _ (hull_made (ends_are c.self.invariant c.self.view_is) (ends_are c.other.invariant c.other.view_is) c.min.ensures.value c.max.ensures.value).value
