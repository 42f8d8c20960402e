-- Where the bytes behind a < are no mark, none is read.
use Rattle.std.proofs.Common.{◌≡◌, ℕ, suc, List, ◌++◌, take, drop, codes, Option, Some, None, Result, Ok, Err, refl, ap, ◌∙◌, inl, inr}
use Rattle.rb_tags.specs.declared.read.TagKind.{TagKind}
use Rattle.rb_tags.specs.declared.read.TagKind.TheVariants as kind
use Rattle.rb_tags.specs.Bytes.{after_front, after_first}
use Rattle.rb_tags.specs.Marks.{Mark, tag_in, closing_at, tag_at, run_to, mark_at}
use Rattle.rb_tags.specs.BadMarks.{BeginsTag, Lacks, NeverEnds, NeverFits, IsBadMark}
use Rattle.rb_tags.proofs.Closes.{no_front, first_takes}
use Rattle.rb_tags.proofs.TagParts.{ends_found, ends_there}
use Rattle.rb_tags.proofs.MarkLaws.{mark_sound}
use Rattle.rb_result.specs.Steps.{◌>>=◌}
use Rattle.std.specs.Option.{ok_or}

never_after : (closing bytes : List ℕ) → Lacks closing bytes → after_first closing bytes ≡ None
never_after closing bytes never = by_read (after_first closing bytes) refl
  where
    by_read : (o : Option (List ℕ)) → after_first closing bytes ≡ o → o ≡ None
    by_read None is = refl
    by_read (Some rest) is = absurd (let r = first_takes closing bytes rest is in never r.body rest r.text)

run_never : (closing : List ℕ) (m : Mark) (bytes : List ℕ) → Lacks closing bytes → run_to closing m bytes ≡ Err kind.Unclosed
run_never closing m bytes never = rw (never_after closing bytes never) refl

doctype_again : (rest : List ℕ) → mark_at (codes "!DOCTYPE" ++ rest) ≡ Err kind.Doctype
unfolding mark_at after_front
doctype_again rest = refl

instruction_never : (rest : List ℕ) → Lacks (codes "?>") rest → mark_at (codes "?" ++ rest) ≡ Err kind.Unclosed
unfolding mark_at after_front
instruction_never rest never = run_never (codes "?>") Mark.Passed rest never

comment_never : (rest : List ℕ) → Lacks (codes "-->") rest → mark_at (codes "!--" ++ rest) ≡ Err kind.Unclosed
unfolding mark_at after_front
comment_never rest never = run_never (codes "-->") Mark.Passed rest never

section_never : (rest : List ℕ) → Lacks (codes "]]>") rest → mark_at (codes "![CDATA[" ++ rest) ≡ Err kind.Unclosed
unfolding mark_at after_front
section_never rest never = run_never (codes "]]>") Mark.Data rest never

at_tag : (bytes : List ℕ) → BeginsTag bytes → mark_at bytes ≡ tag_at bytes
unfolding mark_at
at_tag bytes h = rw (no_front (codes "?") bytes h.instruction, no_front (codes "!--") bytes h.comment, no_front (codes "![CDATA[") bytes h.section, no_front (codes "!DOCTYPE") bytes h.doctype) refl

abbrev read_pair : Mark → List ℕ → Result (Mark × List ℕ) TagKind
read_pair m rest = Ok (m, rest)

never_ends : (bytes : List ℕ) → NeverEnds bytes → mark_at bytes ≡ Err kind.Unclosed
unfolding tag_at
never_ends bytes h = at_tag bytes h.tag ∙ by_end (closing_at None bytes) refl
  where
    by_end : (o : Option ℕ) → closing_at None bytes ≡ o → (ok_or o kind.Unclosed >>= λ end. ok_or (tag_in (take end bytes)) kind.BadMark >>= λ mark. read_pair mark (drop (suc end) bytes)) ≡ Err kind.Unclosed
    by_end None is = refl
    by_end (Some n) is = absurd (h.never (ends_there bytes n is))

never_fits : (bytes : List ℕ) → NeverFits bytes → mark_at bytes ≡ Err kind.BadMark
unfolding tag_at
never_fits bytes h = at_tag bytes h.tag ∙ by_end (closing_at None bytes) refl
  where
    by_tag : (n : ℕ) → closing_at None bytes ≡ Some n → (o : Option Mark) → tag_in (take n bytes) ≡ o → (ok_or o kind.BadMark >>= λ mark. read_pair mark (drop (suc n) bytes)) ≡ Err kind.BadMark
    by_tag n ends None is = refl
    by_tag n ends (Some m) is = absurd (
        let read : mark_at bytes ≡ Ok (m, drop (suc n) bytes) = at_tag bytes h.tag ∙ rw (ends, is) refl in
        let s = mark_sound bytes m (drop (suc n) bytes) read in
        h.never s.written (drop (suc n) bytes) s.is_mark s.text
        )

    by_end : (o : Option ℕ) → closing_at None bytes ≡ o → (ok_or o kind.Unclosed >>= λ end. ok_or (tag_in (take end bytes)) kind.BadMark >>= λ mark. read_pair mark (drop (suc end) bytes)) ≡ Err kind.BadMark
    by_end None is = absurd (ends_found bytes is h.ends)
    by_end (Some n) is = by_tag n is (tag_in (take n bytes)) refl

pub bad_again : (bytes : List ℕ) (k : TagKind) → IsBadMark bytes k → mark_at bytes ≡ Err k
bad_again bytes kind.Doctype h = ap mark_at h.text ∙ doctype_again h.rest
bad_again bytes kind.Unclosed (inl o) = ap mark_at o.text ∙ instruction_never o.rest o.never
bad_again bytes kind.Unclosed (inr (inl o)) = ap mark_at o.text ∙ comment_never o.rest o.never
bad_again bytes kind.Unclosed (inr (inr (inl o))) = ap mark_at o.text ∙ section_never o.rest o.never
bad_again bytes kind.Unclosed (inr (inr (inr h))) = never_ends bytes h
bad_again bytes kind.BadMark h = never_fits bytes h
bad_again bytes kind.NotUtf8 h = absurd h
bad_again bytes kind.Twice h = absurd h
bad_again bytes kind.Depth h = absurd h
bad_again bytes kind.TooMany h = absurd h
bad_again bytes kind.Mismatch h = absurd h
bad_again bytes kind.Memory h = absurd h
