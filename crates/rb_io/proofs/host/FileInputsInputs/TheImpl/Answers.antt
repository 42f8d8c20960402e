use Rattle.std.proofs.Common.{rules}
use Rattle.rb_io.proofs.host.FileInputsInputs.TheImpl.Goals as goal

pub open-tells : goal.open-tells
open-tells g c = search rules depth 20

pub read-tells : goal.read-tells
read-tells g c = search rules depth 20
