use Rattle.std.proofs.Common.{◌≡◌, ◌∙◌, Err, ap, refl}
use Rattle.rb_words.specs.Words.{asked_by}
use Rattle.rb_words.specs.declared.faults.WordsFault.TheVariants as words_fault
use Rattle.rb_words.specs.declared.faults.WordsStop.TheVariants as of_words
use Rattle.rbd.specs.declared.stop.ReadStop.TheVariants as read
use Rattle.rbd.specs.declared.stop.Stop.TheVariants as stop
use Rattle.rbd.specs.declared.stop.UsageFault.TheVariants as usage
use Rattle.rbd.proofs.Going.{goes_words, goes_robot, goes_start, goes_mimic, goes_constraints, goes_obeyed}
use Rattle.rbd.proofs.Saying.{rest_of_words, rest_none}
use Rattle.rbd.proofs.run.steps.Goals as goal

pub returns-in-Err-clause-goes : goal.returns-in-Err-clause-goes
returns-in-Err-clause-goes g c =
    rw c.of_words.ensures
    (goes_words _ _ _ c.in-Err.stop (λ fault e. c.in-Err.ensures.err fault (ap Err e)) refl (record { count = refl; bytes = λ told. refl }))

pub returns-in-Err-read_robot-clause-goes : goal.returns-in-Err-read_robot-clause-goes
returns-in-Err-read_robot-clause-goes g c =
    rw c.of_robot.ensures
    (goes_robot _ (asked_by c.in-Ok.command) _ _ c.in-Err-read_robot.stop c.in-Ok.ensures.ok c.in-Err-read_robot.ensures.refused
    (λ file e. c.in-Err-read_robot.ensures.long file (ap Err e)) (λ e. c.in-Err-read_robot.ensures.rose (ap Err e))
    (λ no. c.in-Err-read_robot.ensures.kept (λ e. let is : c.in-Err-read_robot.stop ≡ read.Input = cc in no is)) (record { count = refl; bytes = λ told. refl }))

pub returns-in-Err-start_of-clause-goes : goal.returns-in-Err-start_of-clause-goes
returns-in-Err-start_of-clause-goes g c =
    rw c.of_start.ensures
    (goes_start _ (asked_by c.in-Ok.command) c.in-Ok-read_robot.robot _ _ c.in-Err-start_of.stop c.in-Ok.ensures.ok c.in-Ok-read_robot.ensures.robot
    c.in-Err-start_of.ensures.err (c.in-Ok-read_robot.ensures.kept (λ e. absurd cc)) (record { count = refl; bytes = λ told. refl }))

pub returns-in-Err-read_constraints_of-clause-goes : goal.returns-in-Err-read_constraints_of-clause-goes
returns-in-Err-read_constraints_of-clause-goes g c =
    let count = c.in-Ok-read_robot.ensures.kept (λ e. absurd cc) in
    rw c.of_constraints.ensures
    (goes_constraints _ (asked_by c.in-Ok.command) c.in-Ok-read_robot.robot c.in-Ok-start_of.start _ _ c.in-Err-read_constraints_of.stop c.in-Ok.ensures.ok c.in-Ok-read_robot.ensures.robot c.in-Ok-start_of.ensures.ok
    (c.is_unfit.ensures.leads c.if-is_unfit.false)
    (λ tells. rw c.read_robot.ensures.holds at (c.in-Err-read_constraints_of.ensures.refused (rw c.read_robot.ensures.tells tells)))
    (λ e. c.in-Err-read_constraints_of.ensures.long (ap Err e)) (λ e. rw count at (c.in-Err-read_constraints_of.ensures.rose (ap Err e)))
    (λ no. c.in-Err-read_constraints_of.ensures.kept (λ e. let is : c.in-Err-read_constraints_of.stop ≡ read.Input = cc in no is) ∙ count) (record { count = refl; bytes = λ told. refl }))

pub returns-clause-goes : goal.returns-clause-goes
returns-clause-goes g c =
    let count = c.in-Ok-read_constraints_of.ensures.kept (λ e. absurd cc) ∙ c.in-Ok-read_robot.ensures.kept (λ e. absurd cc) in
    goes_obeyed _ (asked_by c.in-Ok.command) c.in-Ok-read_robot.robot c.in-Ok-start_of.start c.in-Ok-read_constraints_of.cons _ _ _ c.in-Ok.ensures.ok c.in-Ok-read_robot.ensures.robot c.in-Ok-start_of.ensures.ok
    (c.is_unfit.ensures.leads c.if-is_unfit.false)
    (λ tells. rw c.read_robot.ensures.holds at (c.in-Ok-read_constraints_of.ensures.constraints (rw c.read_robot.ensures.tells tells)))
    (c.read_constraints_of.ensures.tells ∙ c.read_robot.ensures.tells) (c.read_constraints_of.ensures.holds ∙ c.read_robot.ensures.holds) refl count refl _ c.obey.ensures.obeys

pub returns-in-Err-clause-rest : goal.returns-in-Err-clause-rest
returns-in-Err-clause-rest g c = λ none. rw c.of_words.ensures (rest_of_words c.in-Err.stop (λ no. c.in-Err.ensures.quiet (λ e. let same : c.in-Err.stop ≡ of_words.Fault words_fault.Words = cc in no same) ∙ none))

pub returns-in-Err-read_robot-clause-rest : goal.returns-in-Err-read_robot-clause-rest
returns-in-Err-read_robot-clause-rest g c = λ none. rest_none (Err c.of_robot.result) (c.in-Ok.ensures.quiet (λ e. absurd cc) ∙ none)

pub returns-in-Err-start_of-clause-rest : goal.returns-in-Err-start_of-clause-rest
returns-in-Err-start_of-clause-rest g c = λ none. rest_none (Err c.of_start.result) (c.in-Ok.ensures.quiet (λ e. absurd cc) ∙ none)

pub returns-in-Err-read_constraints_of-clause-rest : goal.returns-in-Err-read_constraints_of-clause-rest
returns-in-Err-read_constraints_of-clause-rest g c = λ none. rest_none (Err c.of_constraints.result) (c.in-Ok.ensures.quiet (λ e. absurd cc) ∙ none)

pub returns-clause-rest : goal.returns-clause-rest
returns-clause-rest g c = λ none. rest_none _ (c.in-Ok.ensures.quiet (λ e. absurd cc) ∙ none)

pub returns-then-is_unfit-clause-goes : goal.returns-then-is_unfit-clause-goes
returns-then-is_unfit-clause-goes g c =
    goes_mimic _ (asked_by c.in-Ok.command) c.in-Ok-read_robot.robot c.in-Ok-start_of.start _ _ c.in-Ok.ensures.ok c.in-Ok-read_robot.ensures.robot
    (record { starts = c.in-Ok-start_of.ensures.ok; order = c.is_unfit.ensures.articulated c.if-is_unfit.true; mimic = c.is_unfit.ensures.mimic c.if-is_unfit.true })
    (c.in-Ok-read_robot.ensures.kept (λ e. absurd cc)) (record { count = refl; bytes = λ told. refl })

pub returns-then-is_unfit-clause-rest : goal.returns-then-is_unfit-clause-rest
returns-then-is_unfit-clause-rest g c = λ none. rest_none (Err (stop.Usage usage.Mimic)) (c.in-Ok.ensures.quiet (λ e. absurd cc) ∙ none)
