use Rattle.std.proofs.Common.{◌≡◌, Err, ap}
use Rattle.rbd.specs.declared.stop.Refusal.TheVariants.{Memory}
use Rattle.rbd.specs.Stops.{refusal_of_tags}
use Rattle.rbd.proofs.Refusals.{tags_read}
use Rattle.rbd.proofs.Utf8.{utf8_of_memory}
use Rattle.rbd.proofs.read.tags_of_bytes.Goals as goal

pub returns-in-Ok-clause-ok : goal.returns-in-Ok-clause-ok
returns-in-Ok-clause-ok c = tags_read c.args.file c.args.bytes.now _ c.requires c.in-Ok.ensures.ok

pub returns-in-Err-clause-memory : goal.returns-in-Err-clause-memory
returns-in-Err-clause-memory c = λ is.
    let memory : refusal_of_tags c.args.file c.in-Err.fault ≡ Memory = cc in
    utf8_of_memory c.args.file c.args.bytes.now _ (λ none. c.in-Err.ensures.memory (ap Err none)) c.in-Err.ensures.err memory
