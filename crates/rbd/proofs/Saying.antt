-- What is said on standard error.
use Rattle.std.proofs.Common.{◌≡◌, ◌≢◌, ℕ, List, [], Bool, Result, Ok, Err}
use Rattle.rb_words.specs.declared.faults.WordsFault.TheVariants as words_fault
use Rattle.rb_words.specs.declared.faults.WordsStop.{WordsStop}
use Rattle.rb_words.specs.declared.faults.WordsStop.TheVariants as stop
use Rattle.rbd.specs.declared.stop.UsageFault.TheVariants as usage
use Rattle.rbd.specs.declared.stop.Stop.{Stop}
use Rattle.rbd.specs.declared.stop.Stop.TheVariants.{Usage, Robot, Constraints, Rows, Input, Output, Memory}
use Rattle.rbd.specs.Run.{IsRest}
use Rattle.rbd.specs.Stops.{stop_of_words}

-- nothing is said behind the line of any answer
pub rest_none : (answer : Result Bool Stop) {rest : List ℕ} → rest ≡ [] → IsRest answer rest
rest_none (Ok refused) none = none
rest_none (Err (Usage (usage.Words words_fault.Words))) none = tt
rest_none (Err (Usage (usage.Words words_fault.Task))) none = none
rest_none (Err (Usage (usage.Words words_fault.Root))) none = none
rest_none (Err (Usage (usage.Words words_fault.Gravity))) none = none
rest_none (Err (Usage usage.State)) none = none
rest_none (Err (Usage usage.Mimic)) none = none
rest_none (Err (Robot fault)) none = none
rest_none (Err (Constraints fault)) none = none
rest_none (Err (Rows fault)) none = none
rest_none (Err Input) none = none
rest_none (Err Output) none = none
rest_none (Err Memory) none = none

-- and more may be behind that of words that the parser refuses
pub rest_of_words : (why : WordsStop) {rest : List ℕ} → (why ≢ stop.Fault words_fault.Words → rest ≡ []) → IsRest (Err (stop_of_words why)) rest
rest_of_words (stop.Fault words_fault.Words) none = tt
rest_of_words (stop.Fault words_fault.Task) none = none (λ e. let f : words_fault.Task ≡ words_fault.Words = cc in absurd cc)
rest_of_words (stop.Fault words_fault.Root) none = none (λ e. let f : words_fault.Root ≡ words_fault.Words = cc in absurd cc)
rest_of_words (stop.Fault words_fault.Gravity) none = none (λ e. let f : words_fault.Gravity ≡ words_fault.Words = cc in absurd cc)
rest_of_words stop.Memory none = none (λ e. absurd cc)
