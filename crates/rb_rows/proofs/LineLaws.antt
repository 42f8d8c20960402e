-- Lines of names, read back.
use Rattle.std.proofs.Common.{◌≡◌, ◌≢◌, ℕ, ◌<◌, Bool, true, false, cond, List, [], ◌∷◌, ◌++◌, length, flat_map, codes, Option, None, Some, refl, ap, ◌∙◌, sym, arith, append_assoc}
use Rattle.std.specs.Prelude.{if◌then◌else◌}
use Rattle.std.proofs.lemmas.Bool.{ne_eqb}
use Rattle.std.proofs.lemmas.List.{length-append}
use Rattle.csv.specs.Machine.{Read, next_record, step, is_end, fields_after, field_after}
use Rattle.csv.specs.Reading.{default_config, strip_bom}
use Rattle.csv.specs.Writing.{default_writer, quoted, needs_quotes, fields_text, row_body, row_text, is_blank}
use Rattle.csv.specs.declared.parser.State.{State}
use Rattle.csv.specs.declared.parser.State.TheVariants as st
use Rattle.csv.proofs.RoundTrip.{read-write}
use Rattle.rb_tree.specs.Robot.{Tree}
use Rattle.rb_constraint.specs.declared.constraints.Constraint.{Constraint}
use Rattle.rb_rows.specs.declared.task.Task.{Task}
use Rattle.rb_rows.specs.Columns.{behind, entries_of, columns_of, state_columns}
use Rattle.rb_rows.specs.Head.{line_of, head_fields}
use Rattle.rb_rows.specs.Laws.{ReadsBack, ColumnLineReadsBack, HeadLineReadsBack}
use Rattle.rb_record.proofs.Records.{whole_read}

-- ---- a record without its LF
abbrev fields_read : Option Read → List (List ℕ)
fields_read None = []
fields_read (Some read) = read.0

abbrev rest_read : Option Read → List ℕ
rest_read None = []
rest_read (Some read) = read.2

some_left : (byte : ℕ) → [] ≡ byte ∷ [] → ⊥
some_left byte e = omega (arith, ap length e)

-- the record ends at the LF, and not at the byte behind it
at_end : (state : State) (fields all : List (List ℕ)) (field : List ℕ) (next : State) → next_record default_config state fields field (10 ∷ 0 ∷ []) ≡ Some (all, next, 0 ∷ [])
    → next_record default_config state fields field [] ≡ Some (all, st.StartRecord, [])
unfolding next_record
at_end st.StartField fields all field next read = ap (λ xs. Some (xs, st.StartRecord, [])) (ap fields_read read)
at_end st.InField fields all field next read = ap (λ xs. Some (xs, st.StartRecord, [])) (ap fields_read read)
at_end st.AfterQuote fields all field next read = ap (λ xs. Some (xs, st.StartRecord, [])) (ap fields_read read)
at_end st.StartRecord fields all field next read = absurd (some_left 0 (ap rest_read read))
at_end st.AfterCr fields all field next read = absurd (some_left 0 (ap rest_read read))
at_end st.InQuoted fields all field next read = absurd (some_left 0 (ap rest_read read))
at_end st.InEscape fields all field next read = absurd (some_left 0 (ap rest_read read))
at_end st.InComment fields all field next read = absurd (some_left 0 (ap rest_read read))

-- what is read of a text up to an LF behind it is read of the text alone
without_end : (text : List ℕ) (state : State) (fields all : List (List ℕ)) (field : List ℕ) (next : State) → next_record default_config state fields field (text ++ 10 ∷ 0 ∷ []) ≡ Some (all, next, 0 ∷ [])
    → next_record default_config state fields field text ≡ Some (all, st.StartRecord, [])
unfolding next_record
without_end [] state fields all field next read = at_end state fields all field next read
without_end (byte ∷ bytes) state fields all field next read = by (is_end (step default_config state byte).1) (without_end bytes after more all open_field next) read
  where
    after : State
    after = (step default_config state byte).0

    more : List (List ℕ)
    more = fields_after (step default_config state byte).1 fields field

    open_field : List ℕ
    open_field = field_after (step default_config state byte).1 byte field

    by : (ends : Bool)
        → (next_record default_config after more open_field (bytes ++ 10 ∷ 0 ∷ []) ≡ Some (all, next, 0 ∷ []) → next_record default_config after more open_field bytes ≡ Some (all, st.StartRecord, []))
        → cond ends (Some (more, after, bytes ++ 10 ∷ 0 ∷ [])) (next_record default_config after more open_field (bytes ++ 10 ∷ 0 ∷ [])) ≡ Some (all, next, 0 ∷ [])
        → cond ends (Some (more, after, bytes)) (next_record default_config after more open_field bytes) ≡ Some (all, st.StartRecord, [])
    by true further h = let e : bytes ++ 10 ∷ 0 ∷ [] ≡ 0 ∷ [] = ap rest_read h in absurd (omega (arith, ap length e, length-append bytes (10 ∷ 0 ∷ [])))
    by false further h = further h

-- ---- a byte order mark
-- the first name begins with a byte of ASCII
abbrev BeginsPlain : List (List ℕ) → Type 0
BeginsPlain [] = ⊥
BeginsPlain ([] ∷ names) = ⊥
BeginsPlain ((byte ∷ bytes) ∷ names) = byte < 128

-- then no byte order mark stands before it
plain_kept : (byte : ℕ) (bytes : List ℕ) → byte < 128 → strip_bom (byte ∷ bytes) ≡ byte ∷ bytes
unfolding strip_bom
plain_kept byte [] small = refl
plain_kept byte (a ∷ []) small = refl
plain_kept byte (a ∷ b ∷ rest) small = rw (ne_eqb byte 239 (λ e. omega (arith, e))) refl

field_kept : (needs : Bool) (byte : ℕ) (bytes fields end : List ℕ) → byte < 128
    → strip_bom (((if needs then quoted default_writer (byte ∷ bytes) else byte ∷ bytes) ++ fields) ++ end) ≡ ((if needs then quoted default_writer (byte ∷ bytes) else byte ∷ bytes) ++ fields) ++ end
field_kept true byte bytes fields end small = plain_kept 34 _ (omega arith)
field_kept false byte bytes fields end small = plain_kept byte _ small

-- a record up to its LF
abbrev blank_quotes : Bool → List ℕ
blank_quotes blank = if blank then 34 ∷ 34 ∷ [] else []

abbrev record_text : List (List ℕ) → List ℕ
record_text names = row_body default_writer names ++ blank_quotes (is_blank default_writer names)

text_kept : (names : List (List ℕ)) → BeginsPlain names → strip_bom (record_text names) ≡ record_text names
text_kept [] plain = absurd plain
text_kept ([] ∷ names) plain = absurd plain
text_kept ((byte ∷ bytes) ∷ names) plain = field_kept (needs_quotes default_writer (byte ∷ bytes)) byte bytes (fields_text default_writer names) _ plain

-- ---- of any names
with_end : (names : List (List ℕ)) → row_text default_writer names ≡ record_text names ++ 10 ∷ []
with_end names = sym (append_assoc (row_body default_writer names) (blank_quotes (is_blank default_writer names)) (10 ∷ []))

text_read : (name : List ℕ) (names : List (List ℕ)) → next_record default_config st.StartRecord [] [] (record_text (name ∷ names)) ≡ Some (name ∷ names, st.StartRecord, [])
text_read name names =
    without_end (record_text (name ∷ names)) st.StartRecord [] (name ∷ names) [] st.StartRecord (
    ap (next_record default_config st.StartRecord [] []) (sym (append_assoc (record_text (name ∷ names)) (10 ∷ []) (0 ∷ [])) ∙ ap (λ line. line ++ 0 ∷ []) (sym (with_end (name ∷ names))))
    ∙ read-write (name ∷ names) (0 ∷ [])
    )

reads_back : (names : List (List ℕ)) → BeginsPlain names → ReadsBack (line_of names) names
reads_back [] plain = absurd plain
reads_back (name ∷ names) plain = record {
  text = record_text (name ∷ names);
  line_is = with_end (name ∷ names);
  read = whole_read (record_text (name ∷ names)) (name ∷ names) (ap (next_record default_config st.StartRecord [] []) (text_kept (name ∷ names) plain) ∙ text_read name names);
}

-- ---- of columns
begins_plain : (names more : List (List ℕ)) → (names ≢ [] → BeginsPlain names) → (more ≢ [] → BeginsPlain more) → names ++ more ≢ [] → BeginsPlain (names ++ more)
begins_plain [] more first others some = others some
begins_plain ([] ∷ names) more first others some = absurd (first (λ e. cc e))
begins_plain ((byte ∷ bytes) ∷ names) more first others some = first (λ e. cc e)

abbrev IsPlain : List ℕ → Type 0
IsPlain [] = ⊥
IsPlain (byte ∷ bytes) = byte < 128

behind_plain : (prefix : List ℕ) (names : List (List ℕ)) → IsPlain prefix → behind prefix names ≢ [] → BeginsPlain (behind prefix names)
behind_plain prefix [] plain some = absurd (some refl)
behind_plain [] (name ∷ names) plain some = absurd plain
behind_plain (byte ∷ bytes) (name ∷ names) plain some = plain

columns_plain : (tree : Tree) → state_columns tree ≢ [] → BeginsPlain (state_columns tree)
unfolding state_columns
columns_plain tree some =
    let entries = flat_map entries_of tree.bodies in
    let columns = flat_map columns_of tree.bodies in
    let q = behind (codes "q.") entries in
    let v = behind (codes "v.") columns in
    let a = behind (codes "a.") columns in
    let tau = behind (codes "tau.") columns in
    let of_q = behind_plain (codes "q.") entries (omega arith) in
    let of_v = behind_plain (codes "v.") columns (omega arith) in
    let of_a = behind_plain (codes "a.") columns (omega arith) in
    let of_tau = behind_plain (codes "tau.") columns (omega arith) in
    begins_plain ((q ++ v) ++ a) tau (begins_plain (q ++ v) a (begins_plain q v of_q of_v) of_a) of_tau some

pub column_line_reads_back : ColumnLineReadsBack
column_line_reads_back tree some = reads_back (state_columns tree) (columns_plain tree some)

head_plain : (tree : Tree) (cons : List Constraint) (task : Task) (echo : Bool) → BeginsPlain (head_fields tree cons task echo)
unfolding head_fields
head_plain tree cons task echo = omega arith

pub head_line_reads_back : HeadLineReadsBack
head_line_reads_back tree cons task echo = reads_back (head_fields tree cons task echo) (head_plain tree cons task echo)
