-- The exit status of the program.
use Rattle.std.specs.Prelude.{ℕ}
use Rattle.rbd.specs.declared.status.Status.{Status}
use Rattle.rbd.specs.declared.status.Status.TheVariants.{Done, Refused, Usage, Robot, Rows, InputFault, OutputFault, Memory}

unfoldable pub code_of : Status → ℕ
code_of Done = 0
code_of Refused = 1
code_of Usage = 2
code_of Robot = 3
code_of Rows = 4
code_of InputFault = 5
code_of OutputFault = 6
code_of Memory = 7
