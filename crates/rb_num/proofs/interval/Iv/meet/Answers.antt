use Rattle.std.proofs.Common.{rules}
use Rattle.rb_num.specs.Hull.{Meet, meet_of}
use Rattle.std.proofs.Common.{to_z, of_z}
use mir.Syntax.{w128}
use Rattle.rb_num.proofs.Ends.{Made, ends_are}
use Rattle.rb_num.proofs.Hull.{meet_made, meet_encloses, meet_none, within_both}
use Rattle.rb_num.proofs.interval.Iv.meet.Goals as goal
use Rattle.rb_num.proofs.interval.Iv.meet.Goals.{After-min}

meet : (c : After-min) → Meet c.args.self c.args.other
meet c = search (rules, c.if-meets.ensures)

the_ends : (c : After-min) → Made (meet_of c.args.self c.args.other) (to_z w128 (of_z w128 c.max.result)) (to_z w128 (of_z w128 c.min.result))
the_ends c =
    meet_made (ends_are c.self.invariant c.self.view_is) (ends_are c.other.invariant c.other.view_is) (meet c) c.max.ensures.value c.min.ensures.value

pub invariant_of-result : goal.invariant_of-result
invariant_of-result c = (the_ends c).invariant

pub returns-then-meets-clause-exact : goal.returns-then-meets-clause-exact
returns-then-meets-clause-exact c = (meet c, (the_ends c).value)

pub returns-then-meets-clause-within : goal.returns-then-meets-clause-within
returns-then-meets-clause-within c = within_both _ _ _ (the_ends c).value

pub returns-then-meets-clause-encloses : goal.returns-then-meets-clause-encloses
returns-then-meets-clause-encloses c = meet_encloses _ _ _ (the_ends c).value

pub returns-else-meets-clause-encloses : goal.returns-else-meets-clause-encloses
returns-else-meets-clause-encloses c =
    let n : Meet c.args.self c.args.other → ⊥ = search (rules, c.if-meets.ensures) in
    meet_none _ _ n
