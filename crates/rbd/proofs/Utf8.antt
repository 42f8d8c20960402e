-- A file for whose tags memory is wanted is UTF-8.
use Rattle.std.proofs.Common.{◌≡◌, ℕ, Bool, true, false, cond, List, Result, Err, refl, sym, ◌⊎◌, inl, inr, subst}
use Rattle.std.specs.Str.{IsUtf8, is_utf8}
use Rattle.std.specs.Str.Lossy.{utf8_valid_len}
use Rattle.std.proofs.lemmas.Str.{IsUtf8-from_is_utf8}
use Rattle.rb_tags.specs.declared.tag.Tag.{Tag}
use Rattle.rb_tags.specs.declared.read.TagFault.{TagFault}
use Rattle.rb_tags.specs.declared.read.TagKind.TheVariants.{NotUtf8}
use Rattle.rb_tags.specs.Faults.{fault_at}
use Rattle.rb_tags.specs.Tags.{no_memory, tags_of, tags_of_text}
use Rattle.rb_tree.specs.declared.faults.WhichFile.{WhichFile}
use Rattle.rbd.specs.declared.stop.Refusal.TheVariants as refusal
use Rattle.rbd.specs.Stops.{refusal_of_tags}

of_kind : (file : WhichFile) (is : Bool) (read : Result (List Tag) TagFault) (place : ℕ) (fault : TagFault) → cond is read (Err (fault_at NotUtf8 place)) ≡ Err fault → refusal_of_tags file fault ≡ refusal.Memory → is ≡ true
of_kind file true read place fault e memory = refl
of_kind file false read place fault e memory =
    let same : fault_at NotUtf8 place ≡ fault = cc in
    let wanted : refusal_of_tags file (fault_at NotUtf8 place) ≡ refusal.Memory = subst (λ f. refusal_of_tags file f ≡ refusal.Memory) (sym same) memory in
    absurd cc

of_read : (file : WhichFile) (bytes : List ℕ) (fault : TagFault) → tags_of bytes ≡ Err fault → refusal_of_tags file fault ≡ refusal.Memory → IsUtf8 bytes
unfolding tags_of
of_read file bytes fault is memory = IsUtf8-from_is_utf8 bytes (of_kind file (is_utf8 bytes) (tags_of_text bytes) (utf8_valid_len bytes) fault is memory)

pub utf8_of_memory : (file : WhichFile) (bytes : List ℕ) (fault : TagFault) → (fault ≡ no_memory → IsUtf8 bytes) → (fault ≡ no_memory) ⊎ (tags_of bytes ≡ Err fault) → refusal_of_tags file fault ≡ refusal.Memory → IsUtf8 bytes
utf8_of_memory file bytes fault known (inl is) memory = known is
utf8_of_memory file bytes fault known (inr is) memory = of_read file bytes fault is memory
