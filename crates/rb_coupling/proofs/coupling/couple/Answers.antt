use Rattle.std.proofs.Common.{length, refl}
use Rattle.rb_sweep.proofs.Told.{told_err}
use Rattle.rb_coupling.specs.Steps.{of_row}
use Rattle.rb_coupling.specs.Couple.{HoldsCoupling, RefusesCouple}
use Rattle.rb_coupling.specs.Laws.{EnclosesCoupling}
use Rattle.rb_coupling.proofs.Answered.{couple_told, couple_values, couple_refused, couple_encloses}
use Rattle.rb_coupling.proofs.coupling.couple.Goals as goal

pub returns-clause-values : goal.returns-clause-values
returns-clause-values c =
    couple_told c.couple_all.result (length c.args.compliances.now) c.args.work.now c.couple_all.new.work (λ v. HoldsCoupling (length c.args.compliances.now) c.args.work.now v (of_row c.args.compliances.now)) c.args.compliances.now
    c.couple_all.ensures.exact c.couple_all.ensures.others
    (couple_values c.args.work.now c.rows-sizes.ensures.sized (length c.args.compliances.now) c.requires.compliances c.args.compliances.now)

pub returns-clause-refused : goal.returns-clause-refused
returns-clause-refused c =
    told_err c.couple_all.result _ _ (RefusesCouple c.args.work.now c.args.compliances.now) c.couple_all.ensures.exact
    (couple_refused c.args.work.now c.rows-sizes.ensures.sized (length c.args.compliances.now) c.requires.compliances c.args.compliances.now refl c.requires.divisors)

pub returns-clause-encloses : goal.returns-clause-encloses
returns-clause-encloses c =
    couple_told c.couple_all.result (length c.args.compliances.now) c.args.work.now c.couple_all.new.work (λ v. EnclosesCoupling (length c.args.compliances.now) c.args.work.now v (of_row c.args.compliances.now)) c.args.compliances.now
    c.couple_all.ensures.exact c.couple_all.ensures.others
    (couple_encloses c.args.work.now c.rows-sizes.ensures.sized (length c.args.compliances.now) c.requires.compliances c.args.compliances.now)
