-- The tags of a file.
use Rattle.std.specs.Prelude.{ℕ, zero, suc, ◌-◌, List, [], ◌∷◌, length, Option, Some, None, Result, Err, if◌then◌else◌}
use Rattle.std.specs.Str.{is_utf8}
use Rattle.std.specs.Str.Lossy.{utf8_valid_len}
use Rattle.rb_tags.specs.declared.tag.Tag.{Tag}
use Rattle.rb_tags.specs.declared.read.TagFault.{TagFault}
use Rattle.rb_tags.specs.declared.read.TagKind.TheVariants.{NotUtf8}
use Rattle.rb_tags.specs.Bytes.{after_front, if_more}
use Rattle.rb_tags.specs.Seen.{Seen, nothing_seen, read_text, read_mark, finished}
use Rattle.rb_tags.specs.Faults.{fault_at}
pub use Rattle.rb_tags.specs.Faults.{no_memory}
use Rattle.rb_result.specs.Steps.{◌>>=◌}

-- the tags of a file of a size, of which what is left holds fewer marks than so many
unfoldable pub tags_from : ℕ → ℕ → Seen → List ℕ → Result (List Tag) TagFault
tags_from size zero seen bytes = finished seen size
tags_from size (suc n) seen bytes =
    read_text seen (size - length bytes) bytes >>= λ rest.
    if_more rest (finished seen size) λ behind.
    read_mark seen (size - length rest) behind >>= λ mark.
    tags_from size n mark.0 mark.1

-- the bytes after a byte order mark
abbrev pub behind_order_mark : Option (List ℕ) → List ℕ → List ℕ
behind_order_mark (Some rest) bytes = rest
behind_order_mark None bytes = bytes

-- the bytes EF BB BF
abbrev pub order_mark : List ℕ
order_mark = 239 ∷ 187 ∷ 191 ∷ []

-- the tags of a text in UTF-8
unfoldable pub tags_of_text : List ℕ → Result (List Tag) TagFault
tags_of_text bytes = tags_from (length bytes) (suc (length bytes)) nothing_seen (behind_order_mark (after_front order_mark bytes) bytes)

unfoldable pub tags_of : List ℕ → Result (List Tag) TagFault
tags_of bytes = if is_utf8 bytes then tags_of_text bytes else Err (fault_at NotUtf8 (utf8_valid_len bytes))
