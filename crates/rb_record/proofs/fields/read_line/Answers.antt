use Rattle.std.proofs.Common.{◌≡◌, ◌∙◌, Bool, inl, inr, true, false, not, ap, sym, refl, Some, arith}
use Rattle.std.specs.Prelude.{ℕ, List, is_some}
use denote.Ref.{Bor}
use Rattle.csv.specs.Reading.{builder_config, builder_trim, builder_names_headers}
use Rattle.rb_record.proofs.Records.{none_read, read_twice, few_fields}
use Rattle.rb_record.proofs.fields.read_line.Goals as goal

pub returns-then-not-found-clause-one : goal.returns-then-not-found-clause-one
returns-then-not-found-clause-one c =
    let reader = c.from_reader-reader.ensures in
    let config = reader.config ∙ ap builder_config c.flexible.ensures ∙ ap builder_config c.has_headers.ensures ∙ c.new.ensures.config in
    let trim = reader.trim ∙ ap builder_trim c.flexible.ensures ∙ ap builder_trim c.has_headers.ensures ∙ c.new.ensures.trim in
    let headers = reader.has_headers ∙ ap builder_names_headers c.flexible.ensures ∙ ap builder_names_headers c.has_headers.ensures in
    let first = c.in-Ok.ensures.reads trim (inr (inr (headers, reader.headers))) in
    sym (ap is_some (none_read _ _ _ _ _ _ _ _ config reader.state reader.source first.0 c.if-not-found.true))

pub returns-in-Ok-read_byte_record-clause-one : goal.returns-in-Ok-read_byte_record-clause-one
returns-in-Ok-read_byte_record-clause-one c =
    let reader = c.from_reader-reader.ensures in
    let config = reader.config ∙ ap builder_config c.flexible.ensures ∙ ap builder_config c.has_headers.ensures ∙ c.new.ensures.config in
    let trim = reader.trim ∙ ap builder_trim c.flexible.ensures ∙ ap builder_trim c.has_headers.ensures ∙ c.new.ensures.trim in
    let headers = reader.has_headers ∙ ap builder_names_headers c.flexible.ensures ∙ ap builder_names_headers c.has_headers.ensures in
    let first = c.in-Ok.ensures.reads trim (inr (inr (headers, reader.headers))) in
    let second = c.in-Ok-read_byte_record.ensures.reads (first.3 ∙ trim) (inl (c.in-Ok.ensures.ready trim)) in
    sym (read_twice (λ (bytes : Bor (List ℕ)). Some bytes.now) _ c.from_reader-reader.result c.read_byte_record.new.self c.read_byte_record-2.new.self _ _ _ _ config reader.state reader.source first c.if-not-found.false second).0

pub returns-in-Ok-read_byte_record-clause-fields : goal.returns-in-Ok-read_byte_record-clause-fields
returns-in-Ok-read_byte_record-clause-fields c =
    let reader = c.from_reader-reader.ensures in
    let config = reader.config ∙ ap builder_config c.flexible.ensures ∙ ap builder_config c.has_headers.ensures ∙ c.new.ensures.config in
    let trim = reader.trim ∙ ap builder_trim c.flexible.ensures ∙ ap builder_trim c.has_headers.ensures ∙ c.new.ensures.trim in
    let headers = reader.has_headers ∙ ap builder_names_headers c.flexible.ensures ∙ ap builder_names_headers c.has_headers.ensures in
    let first = c.in-Ok.ensures.reads trim (inr (inr (headers, reader.headers))) in
    let second = c.in-Ok-read_byte_record.ensures.reads (first.3 ∙ trim) (inl (c.in-Ok.ensures.ready trim)) in
    let both = read_twice (λ (bytes : Bor (List ℕ)). Some bytes.now) _ c.from_reader-reader.result c.read_byte_record.new.self c.read_byte_record-2.new.self _ _ _ _ config reader.state reader.source first c.if-not-found.false second in
    λ one. both.1 (not_true _ one)
  where
    not_true : (b : Bool) → not b ≡ true → b ≡ false
    not_true true e = absurd cc
    not_true false e = refl

pub returns-in-Ok-read_byte_record-clause-few : goal.returns-in-Ok-read_byte_record-clause-few
returns-in-Ok-read_byte_record-clause-few c one = omega (arith, few_fields _ _ (returns-in-Ok-read_byte_record-clause-fields c one))
