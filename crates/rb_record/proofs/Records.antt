-- A line of no record, of one, and of more.
use Rattle.std.proofs.Common.{◌≡◌, ◌≤◌, ◌+◌, ◌++◌, ℕ, suc, List, [], ◌∷◌, length, cond, arith, Option, None, Some, true, false, Bool, refl, ap, sym, ◌∙◌, add-one}
use Rattle.std.specs.Prelude.{is_some, not}
use Rattle.std.proofs.lemmas.List.{length-append}
use Rattle.csv.specs.declared.parser.Action.{Action}
use Rattle.csv.specs.declared.parser.Action.TheVariants as act
use Rattle.csv.specs.Machine.{Read, next_record, fields_after, field_after, is_end, ends_at_end, step}
use Rattle.csv.specs.Reading.{default_config, records_next, records_from, records, strip_bom, is_bom, NextIs, ReadsNext}
use Rattle.csv.specs.Reading.{source_of, pending_of, ReadRecord}
use Rattle.csv.specs.declared.parser.Config.{Config}
use Rattle.csv.specs.declared.reader.Reader.{Reader}
use Rattle.csv.specs.declared.parser.State.{State}
use Rattle.csv.specs.declared.parser.State.TheVariants as st
use Rattle.rb_record.specs.Record.{only, fields_in}

-- a record and what comes behind it
abbrev unless_more : List (List ℕ) → Option Read → Option (List (List ℕ))
unless_more fields None = Some fields
unless_more fields (Some next) = None

abbrev by_first : Option Read → Option (List (List ℕ))
by_first None = None
by_first (Some first) = unless_more first.0 (next_record default_config first.1 [] [] first.2)

-- what is left after two records does not matter
of_two : (n : ℕ) (fields : List (List ℕ)) (next : Option Read) → only (fields ∷ records_next (records_from default_config n) next) ≡ unless_more fields next
of_two n fields None = refl
of_two n fields (Some next) = refl

of_first : (n : ℕ) (first : Option Read) → only (records_next (records_from default_config (suc n)) first) ≡ by_first first
unfolding records_from
of_first n None = refl
of_first n (Some first) = of_two n first.0 (next_record default_config first.1 [] [] first.2)

in_text : (text : List ℕ) → only (records default_config text) ≡ by_first (next_record default_config st.StartRecord [] [] text)
unfolding records_from next_record
in_text [] = refl
in_text (byte ∷ bytes) = rw (add-one (length (byte ∷ bytes))) (of_first (length bytes) (next_record default_config st.StartRecord [] [] (byte ∷ bytes)))

pub in_line : (line : List ℕ) → fields_in line ≡ by_first (next_record default_config st.StartRecord [] [] (strip_bom line))
unfolding fields_in
in_line line = in_text (strip_bom line)

-- ---- what two reads show
module _ (line : List ℕ) (found : Bool) (fields : List (List ℕ)) (state : State) (rest : List ℕ) where
  pub no_record : NextIs (next_record default_config st.StartRecord [] [] (strip_bom line)) found fields state rest → found ≡ false → fields_in line ≡ None
  no_record first none = in_line line ∙ by_read (next_record default_config st.StartRecord [] [] (strip_bom line)) first
    where
      by_read : (read : Option Read) → NextIs read found fields state rest → by_first read ≡ None
      by_read None is = refl
      by_read (Some first) is = let e : true ≡ false = sym is.0 ∙ none in absurd cc

  pub some_record : NextIs (next_record default_config st.StartRecord [] [] (strip_bom line)) found fields state rest → found ≡ true
      → fields_in line ≡ unless_more fields (next_record default_config state [] [] rest)
  some_record first some = in_line line ∙ by_read (next_record default_config st.StartRecord [] [] (strip_bom line)) first
    where
      by_read : (read : Option Read) → NextIs read found fields state rest → by_first read ≡ unless_more fields (next_record default_config state [] [] rest)
      by_read None is = let e : true ≡ false = sym some ∙ is in absurd cc
      by_read (Some first) is = rw (is.1, is.2, is.3) refl

-- a first read that finds nothing
pub none_read : (line : List ℕ) (config : Config) (state after_state : State) (source after : Option (List ℕ)) (found : Bool) (fields : List (List ℕ)) → config ≡ default_config
    → state ≡ st.StartRecord → source ≡ Some (strip_bom line) → ReadsNext config state source after found fields after_state → found ≡ false → fields_in line ≡ None
none_read line config state after_state source None found fields c s x read none = absurd (rw x at read)
none_read line config state after_state source (Some rest) found fields c s x read none = no_record line found fields after_state rest (rw (c, s, x) at read) none

-- two reads, of which the first finds a record
module _ (line : List ℕ) (config : Config) (state middle last : State) (source : Option (List ℕ)) (found next : Bool) (fields others : List (List ℕ)) where
  two_reads : (after further : Option (List ℕ)) → config ≡ default_config → state ≡ st.StartRecord → source ≡ Some (strip_bom line) → ReadsNext config state source after found fields middle → found ≡ true
      → ReadsNext default_config middle after further next others last → (is_some (fields_in line) ≡ not next) × (next ≡ false → fields_in line ≡ Some fields)
  two_reads None further c s x read some more = absurd (rw x at read)
  two_reads (Some rest) None c s x read some more = absurd more
  two_reads (Some rest) (Some end) c s x read some more = by_next (next_record default_config middle [] [] rest) refl more
    where
      told : fields_in line ≡ unless_more fields (next_record default_config middle [] [] rest)
      told = some_record line found fields middle rest (rw (c, s, x) at read) some

      by_next : (read : Option Read) → next_record default_config middle [] [] rest ≡ read → NextIs read next others last end → (is_some (fields_in line) ≡ not next) × (next ≡ false → fields_in line ≡ Some fields)
      by_next None is none = (ap is_some (told ∙ ap (unless_more fields) is) ∙ sym (ap not none), λ _. told ∙ ap (unless_more fields) is)
      by_next (Some record_read) is one =
          (ap is_some (told ∙ ap (unless_more fields) is) ∙ sym (ap not one.0), λ none. let e : true ≡ false = sym one.0 ∙ none in absurd cc)

  pub one_or_more : (after further : Option (List ℕ)) → config ≡ default_config → state ≡ st.StartRecord → source ≡ Some (strip_bom line) → ReadsNext config state source after found fields middle
      → found ≡ true → (config2 : Config) (source2 : Option (List ℕ)) → config2 ≡ default_config → source2 ≡ after → ReadsNext config2 middle source2 further next others last
      → (is_some (fields_in line) ≡ not next) × (next ≡ false → fields_in line ≡ Some fields)
  one_or_more after further c s x read some config2 source2 c2 x2 more = two_reads after further c s x read some (rw (c2, x2) at more)

-- a reader that has looked for a byte order mark reads on from its bytes
reads_on : {R : Type 0} (remaining : R → Option (List ℕ)) (reader : Reader R) → reader.bom_checked ≡ true → source_of remaining reader ≡ pending_of (remaining reader.rdr) reader
reads_on remaining reader looked = rw looked refl

-- two reads of a line, of which the first finds a record
pub read_twice : {R : Type 0} (remaining : R → Option (List ℕ)) (line : List ℕ) (start middle end : Reader R) (found next : Bool) (fields others : List (List ℕ)) → start.config ≡ default_config
    → start.state ≡ st.StartRecord → source_of remaining start ≡ Some (strip_bom line) → ReadRecord remaining start middle found fields → found ≡ true
    → ReadRecord remaining middle end next others → (is_some (fields_in line) ≡ not next) × (next ≡ false → fields_in line ≡ Some fields)
read_twice remaining line start middle end found next fields others config state source first some second =
    one_or_more line start.config start.state middle.state end.state (source_of remaining start) found next fields others (pending_of (remaining middle.rdr) middle)
    (pending_of (remaining end.rdr) end) config state source first.0 some middle.config (source_of remaining middle) (first.2 ∙ config) (reads_on remaining middle first.1) second.0

-- ---- how many fields there are
after_few : (action : Action) (fields : List (List ℕ)) (field : List ℕ) → length (fields_after action fields field) ≤ length fields + 1
after_few act.EndField fields field = omega (arith, length-append fields (field ∷ []))
after_few act.EndRecord fields field = omega (arith, length-append fields (field ∷ []))
after_few act.Skip fields field = omega arith
after_few act.Copy fields field = omega arith

fields_few : (cfg : Config) (state : State) (fields : List (List ℕ)) (field text : List ℕ) (read : Read) → next_record cfg state fields field text ≡ Some read → length read.0 ≤ length fields + length text + 1
unfolding next_record
fields_few cfg state fields field [] read is = by (ends_at_end state) is
  where
    by : (ends : Bool) → cond ends (Some (fields ++ field ∷ [], st.StartRecord, [])) None ≡ Some read → length read.0 ≤ length fields + 0 + 1
    by false is = absurd cc
    by true is = let same : fields ++ field ∷ [] ≡ read.0 = cc in omega (arith, length-append fields (field ∷ []), ap length same)
fields_few cfg state fields field (byte ∷ rest) read is =
    by (is_end (step cfg state byte).1) (fields_few cfg (step cfg state byte).0 (fields_after (step cfg state byte).1 fields field) (field_after (step cfg state byte).1 byte field) rest read) is
  where
    after : List (List ℕ)
    after = fields_after (step cfg state byte).1 fields field

    by : (ends : Bool) → (next_record cfg (step cfg state byte).0 after (field_after (step cfg state byte).1 byte field) rest ≡ Some read → length read.0 ≤ length after + length rest + 1)
        → cond ends (Some (after, (step cfg state byte).0, rest)) (next_record cfg (step cfg state byte).0 after (field_after (step cfg state byte).1 byte field) rest) ≡ Some read
        → length read.0 ≤ length fields + suc (length rest) + 1
    by true further is = let same : after ≡ read.0 = cc in omega (arith, after_few (step cfg state byte).1 fields field, ap length same)
    by false further is = omega (arith, after_few (step cfg state byte).1 fields field, further is)

strip_few : (line : List ℕ) → length (strip_bom line) ≤ length line
unfolding strip_bom
strip_few [] = omega arith
strip_few (a ∷ []) = omega arith
strip_few (a ∷ b ∷ []) = omega arith
strip_few (a ∷ b ∷ c ∷ rest) = by (is_bom a b c)
  where
    by : (mark : Bool) → length (cond mark rest (a ∷ b ∷ c ∷ rest)) ≤ length (a ∷ b ∷ c ∷ rest)
    by true = omega arith
    by false = omega arith

-- a record has at most one field more than its line has bytes
pub few_fields : (line : List ℕ) (fields : List (List ℕ)) → fields_in line ≡ Some fields → length fields ≤ length line + 1
few_fields line fields is = by_read (next_record default_config st.StartRecord [] [] (strip_bom line)) refl (sym (in_line line) ∙ is)
  where
    by_read : (read : Option Read) → next_record default_config st.StartRecord [] [] (strip_bom line) ≡ read → by_first read ≡ Some fields → length fields ≤ length line + 1
    by_read None e is = absurd cc
    by_read (Some first) e is = by_next (next_record default_config first.1 [] [] first.2) is
      where
        by_next : (next : Option Read) → unless_more first.0 next ≡ Some fields → length fields ≤ length line + 1
        by_next (Some other) is = absurd cc
        by_next None is =
            let same : first.0 ≡ fields = cc in
            omega (arith, ap length same, fields_few default_config st.StartRecord [] [] (strip_bom line) first e, strip_few line)

-- ---- a line that is written
-- what is read to the end at once
pub whole_read : (line : List ℕ) (fields : List (List ℕ)) → next_record default_config st.StartRecord [] [] (strip_bom line) ≡ Some (fields, st.StartRecord, []) → fields_in line ≡ Some fields
unfolding next_record
whole_read line fields read = in_line line ∙ ap by_first read
