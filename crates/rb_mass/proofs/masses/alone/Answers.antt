use Rattle.std.proofs.Common.{sym, ap, ◌∙◌}
use Rattle.rb_num.specs.Interval.{zero_interval}
use Rattle.rb_num.specs.Refusing.{iv_add}
use Rattle.rb_mass.proofs.Plain.{plain_gathered}
use Rattle.rb_mass.proofs.masses.alone.Goals as goal

pub returns-clause-exact : goal.returns-clause-exact
returns-clause-exact c =
    c.add.ensures.exact
    ∙ ap (iv_add zero_interval) c.H.ensures
    ∙ sym (plain_gathered c.args.robot.now c.bodies-tree.ensures.kept c.requires.plain c.args.work.now c.args.c c.args.d c.requires.second c.requires.order c.requires.on)
