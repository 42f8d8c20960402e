use Rattle.std.proofs.Common.{◌≡◌, ℕ, ◌<◌, [], get_or, true}
use Rattle.std.specs.Str.{is_utf8}
use Rattle.csv.specs.Records.{fields_of}
use Rattle.rb_record.proofs.fields.are_text.Given as goal

abbrev pub invariant-loop-k : goal.invariant-loop-k
invariant-loop-k l = (k : ℕ) → k < l.k → is_utf8 (get_or (fields_of l.fields) k []) ≡ true
