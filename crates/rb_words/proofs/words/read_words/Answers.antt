use Rattle.std.proofs.Common.{◌≡◌, ◌∙◌, Err, ap, inl, inr}
use Rattle.rb_words.specs.declared.faults.WordsFault.TheVariants.{Words}
use Rattle.rb_words.proofs.Telling.{words_accepted, words_refused}
use Rattle.rb_words.proofs.words.read_words.Goals as goal

pub returns-in-Ok-read_options-clause-ok : goal.returns-in-Ok-read_options-clause-ok
returns-in-Ok-read_options-clause-ok c = words_accepted _ _ _ c.in-Ok.ensures.kinds c.in-Ok.ensures.matches c.in-Ok-read_options.ensures

pub returns-in-Ok-clause-err : goal.returns-in-Ok-clause-err
returns-in-Ok-clause-err c = λ fault told.
    let same : c.in-Err-read_options.fault ≡ fault = cc in
    words_accepted _ _ _ c.in-Ok.ensures.kinds c.in-Ok.ensures.matches c.in-Err-read_options.ensures ∙ ap Err same

pub returns-clause-err : goal.returns-clause-err
returns-clause-err c = λ fault told. elim c.refusal.ensures.stop [
  | inl memory ↦ absurd cc
  | inr words ↦
      let same : Words ≡ fault = cc in
      words_refused _ c.in-Err.error c.in-Err.ensures.kinds words.1 ∙ ap Err same
]
