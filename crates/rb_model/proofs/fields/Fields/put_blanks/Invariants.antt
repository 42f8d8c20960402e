use Rattle.std.proofs.Common.{◌≡◌, ◌++◌, [], replicate}
use Rattle.rb_model.proofs.fields.Fields.put_blanks.Given as goal

abbrev pub invariant-loop : goal.invariant-loop
invariant-loop l = l.self ≡ l.fn.self ++ replicate l.counter []
