use Rattle.rb_sweep.proofs.SweepLaws.{sweep-append, refused_at, refused_so, in_upward, among_range_up, in_downward, among_range_down}
use Rattle.rb_sweep.proofs.laws.sweep_law.Goals as goal

pub returns-clause-goes_on : goal.returns-clause-goes_on
returns-clause-goes_on g c = λ step ms ns s. sweep-append step ms ns s

pub returns-clause-refuses_first : goal.returns-clause-refuses_first
returns-clause-refuses_first g c = λ step ns s e. (refused_at step ns s e, refused_so step ns s e)

pub returns-clause-upward : goal.returns-clause-upward
returns-clause-upward g c = λ lo hi i. (in_upward lo hi i, among_range_up lo hi i)

pub returns-clause-downward : goal.returns-clause-downward
returns-clause-downward g c = λ lo hi i. (in_downward lo hi i, among_range_down lo hi i)
