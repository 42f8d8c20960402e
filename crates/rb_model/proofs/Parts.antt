-- Lines, from what is known of a body, a group or a position.
use Rattle.std.proofs.Common.{◌≡◌, ◌<◌, ◌≤◌, ◌+◌, ℕ, List, [], ◌∷◌, ◌++◌, length, take, get_or, map, codes, refl, ap, sym, ◌∙◌, arith, append_assoc, append-nil, Option, None, Some, IsSomeAnd}
use Rattle.std.specs.Prelude.{decimal}
use Rattle.std.specs.List.{join_with_byte}
use Rattle.std.proofs.lemmas.List.{map_more, take_all}
use Rattle.csv.specs.Writing.{default_writer, row_text}
use Rattle.rb_num.specs.Interval.{Interval, zero_interval}
use Rattle.rb_num.specs.Text.{iv_text}
use Rattle.rb_body.specs.declared.raw.JointRaw.{JointRaw}
use Rattle.rb_body.specs.declared.raw.LinkRaw.{LinkRaw}
use Rattle.rb_tree.specs.declared.robot.Body.{Body}
use Rattle.rb_tree.specs.declared.robot.Mimic.{Mimic}
use Rattle.rb_tree.specs.declared.groups.BodyGroup.{BodyGroup}
use Rattle.rb_model.specs.Model.{blanks, joint_raw_fields, link_raw_fields, mimic_fields, joint_fields, link_fields, body_lines, group_fields, entry_fields, lines_text}

-- ---- of a body
-- a field is put behind others
put_behind : {before after : List (List ℕ)} (more : List (List ℕ)) → before ≡ after → {all : List (List ℕ)} → all ≡ before ++ more → all ≡ after ++ more
put_behind more same all = all ∙ ap (λ fields. fields ++ more) same

pub joint_of : (found : Option Body) (i parent : ℕ) (name : List ℕ) (raw : JointRaw) (mimic : Option Mimic)
    → IsSomeAnd found (λ body. body.parent ≡ parent) → IsSomeAnd found (λ body. body.joint_name ≡ name)
    → IsSomeAnd found (λ body. body.joint_raw ≡ raw) → IsSomeAnd found (λ body. body.mimic ≡ mimic)
    → (none one two three four five fields : List (List ℕ)) → none ≡ [] → one ≡ none ++ codes "joint" ∷ [] → two ≡ one ++ decimal i ∷ [] → three ≡ two ++ decimal parent ∷ []
    → four ≡ three ++ name ∷ [] → five ≡ four ++ joint_raw_fields raw → fields ≡ five ++ mimic_fields mimic → IsSomeAnd found (λ body. fields ≡ joint_fields i body)
unfolding joint_fields
joint_of None i parent name raw mimic p n r m none one two three four five fields a b c d e f g = p
joint_of (Some body) i parent name raw mimic p n r m none one two three four five fields a b c d e f g =
    let four_put : four ≡ codes "joint" ∷ decimal i ∷ decimal parent ∷ name ∷ [] =
    put_behind (name ∷ []) (put_behind (decimal parent ∷ []) (put_behind (decimal i ∷ []) (put_behind (codes "joint" ∷ []) a b) c) d) e in
    put_behind (mimic_fields mimic) (put_behind (joint_raw_fields raw) four_put f) g
    ∙ sym (λ k. codes "joint" ∷ decimal i ∷ decimal (p k) ∷ n k ∷ (joint_raw_fields (r k) ++ mimic_fields (m k)))

pub link_of : (found : Option Body) (i : ℕ) (name : List ℕ) (raw : LinkRaw) → IsSomeAnd found (λ body. body.link_name ≡ name) → IsSomeAnd found (λ body. body.link_raw ≡ raw)
    → (none one two three fields : List (List ℕ)) → none ≡ [] → one ≡ none ++ codes "link" ∷ [] → two ≡ one ++ decimal i ∷ [] → three ≡ two ++ name ∷ [] → fields ≡ three ++ link_raw_fields raw
    → IsSomeAnd found (λ body. fields ≡ link_fields i body)
unfolding link_fields
link_of None i name raw n r none one two three fields a b c d e = n
link_of (Some body) i name raw n r none one two three fields a b c d e =
    put_behind (link_raw_fields raw) (put_behind (name ∷ []) (put_behind (decimal i ∷ []) (put_behind (codes "link" ∷ []) a b) c) d) e
    ∙ sym (λ k. codes "link" ∷ decimal i ∷ n k ∷ link_raw_fields (r k))

-- ---- of a group
pub group_of : (found : Option BodyGroup) (name numbers bodies : List ℕ) → IsSomeAnd found (λ group. group.name ≡ name) → IsSomeAnd found (λ group. group.bodies ≡ bodies)
    → numbers ≡ join_with_byte 32 (map decimal bodies)
    → (none one two fields : List (List ℕ)) → none ≡ [] → one ≡ none ++ codes "group" ∷ [] → two ≡ one ++ name ∷ [] → fields ≡ two ++ numbers ∷ []
    → IsSomeAnd found (λ group. fields ≡ group_fields group)
unfolding group_fields
group_of None name numbers bodies n b are none one two fields e f g h = n
group_of (Some group) name numbers bodies n b are none one two fields e f g h =
    put_behind (numbers ∷ []) (put_behind (name ∷ []) (put_behind (codes "group" ∷ []) e f) g) h
    ∙ (λ k. codes "group" ∷ sym n k ∷ are k ∷ []) ∙ sym (λ k. codes "group" ∷ group.name ∷ join_with_byte 32 (map decimal (b k)) ∷ [])

-- ---- both lines of a body
pub body_of : (found : Option Body) (i : ℕ) (joint link : List (List ℕ)) (old mid new : List ℕ)
    → IsSomeAnd found (λ body. joint ≡ joint_fields i body) → IsSomeAnd found (λ body. link ≡ link_fields i body)
    → mid ≡ old ++ row_text default_writer joint → new ≡ mid ++ row_text default_writer link → IsSomeAnd found (λ body. new ≡ old ++ lines_text (body_lines (i, body)))
body_of None i joint link old mid new j l first second = j
body_of (Some body) i joint link old mid new j l first second =
    second ∙ (λ k. first k ++ row_text default_writer (l k)) ∙ (λ k. (old ++ row_text default_writer (j k)) ++ row_text default_writer (link_fields i body))
    ∙ append_assoc old (row_text default_writer (joint_fields i body)) (row_text default_writer (link_fields i body))
    ∙ (λ k. old ++ (row_text default_writer (joint_fields i body) ++ sym (append-nil (row_text default_writer (link_fields i body))) k))

-- ---- of a position
pub no_entries : (q : List Interval) → length q ≡ 0 → entry_fields q ≡ blanks 1
no_entries [] none = refl
no_entries (entry ∷ entries) none = absurd (omega arith)

some_entries : (q : List Interval) → 0 < length q → entry_fields q ≡ map iv_text q
some_entries [] some = absurd (omega arith)
some_entries (entry ∷ entries) some = refl

pub entries_more : (q : List Interval) (place : ℕ) (entry : Interval) (old mid new : List (List ℕ)) → place < length q → entry ≡ get_or q place zero_interval
    → new ≡ mid ++ iv_text entry ∷ [] → mid ≡ old ++ map iv_text (take place q) → new ≡ old ++ map iv_text (take (place + 1) q)
entries_more q place entry old mid new within is put so_far =
    put ∙ (λ k. so_far k ++ iv_text (is k) ∷ []) ∙ append_assoc old (map iv_text (take place q)) (iv_text (get_or q place zero_interval) ∷ [])
    ∙ ap (λ fields. old ++ fields) (sym (map_more iv_text q place zero_interval within))

pub entries_end : (q : List Interval) (place : ℕ) (old new : List (List ℕ)) → 0 < length q → length q ≤ place → new ≡ old ++ map iv_text (take place q) → new ≡ old ++ entry_fields q
entries_end q place old new some past is =
    is ∙ ap (λ entries. old ++ map iv_text entries) (take_all place q past) ∙ ap (λ fields. old ++ fields) (sym (some_entries q some))
