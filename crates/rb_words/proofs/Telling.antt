-- What the answers of the parser and of the options come to.
use Rattle.std.proofs.Common.{◌≡◌, List, [], ◌∷◌, Result, Err, refl, inl, inr}
use Rattle.clap.specs.Kinds.{HasKind, IsAmong, Kinds}
use Rattle.clap.specs.Values.{kind_of}
use Rattle.clap.specs.Walk.{Row, Text}
use Rattle.clap.specs.Simple.{matches_of}
use Rattle.clap.specs.Faults.{fault_of}
use Rattle.clap.specs.declared.error.Error.{Error}
use Rattle.clap.specs.declared.error.kind.ErrorKind.{ErrorKind}
use Rattle.clap.specs.declared.error.kind.ErrorKind.TheVariants.{OutOfMemory}
use Rattle.rb_words.specs.Options.{app}
use Rattle.rb_words.specs.Words.{Asked, asked_in, command_of, unless_refused}
use Rattle.rb_words.specs.declared.faults.WordsFault.{WordsFault}
use Rattle.rb_words.specs.declared.faults.WordsFault.TheVariants.{Words}

accepted : (faults : Kinds) (rows given : List Row) (answer : Result Asked WordsFault) → faults ≡ [] → given ≡ rows → asked_in given ≡ answer
    → unless_refused faults (asked_in rows) ≡ answer
accepted faults rows given answer none same asked = rw (none, ← same) asked

refused : (faults : Kinds) (kind : ErrorKind) (answer : Result Asked WordsFault) → IsAmong kind faults → unless_refused faults answer ≡ Err Words
refused [] kind answer among = absurd among
refused (fault ∷ faults) kind answer among = refl

-- words that clap does not refuse ask for what its matches ask for
pub words_accepted : (words : List Text) (given : List Row) (answer : Result Asked WordsFault) → fault_of app words ≡ [] → given ≡ matches_of app words
    → asked_in given ≡ answer → command_of words ≡ answer
unfolding command_of
words_accepted words given answer none same asked = accepted (fault_of app words) (matches_of app words) given answer none same asked

pub words_refused : (words : List Text) (error : Error) → HasKind (fault_of app words) error → (kind_of error ≡ OutOfMemory → ⊥) → command_of words ≡ Err Words
unfolding command_of
words_refused words error kinds not_memory = elim kinds [
  | inl memory ↦ absurd (not_memory memory)
  | inr among ↦ refused (fault_of app words) (kind_of error) (asked_in (matches_of app words)) among
]
