-- Lines that are put one after the other.
use Rattle.std.proofs.Common.{◌≡◌, ◌≤◌, ◌+◌, ◌-◌, ℕ, zero, suc, List, [], ◌∷◌, ◌++◌, length, take, map, flat_map, codes, refl, ap, ◌∙◌, sym, arith, append_assoc, append-nil, Option, Some, None, IsSomeAnd}
use Rattle.std.specs.Prelude.{slice_get}
use Rattle.std.specs.List.{enumerate_from}
use Rattle.std.proofs.lemmas.Grind.{flat_map-append}
use Rattle.std.proofs.lemmas.List.{map-append, take_more, take_all}
use Rattle.std.proofs.lemmas.Option.{slice_get_within, get_or_from_slice_get}
use Rattle.csv.specs.Writing.{default_writer, row_text}
use Rattle.rb_num.specs.Interval.{Interval}
use Rattle.rb_tree.specs.declared.robot.Body.{Body}
use Rattle.rb_tree.specs.declared.groups.BodyGroup.{BodyGroup}
use Rattle.rb_tree.specs.Columns.{body_at}
use Rattle.rb_tree.specs.Robot.{Tree}
use Rattle.rb_model.specs.Model.{body_lines, group_fields, position_fields, model_fields, lines_text, model_text}

numbered_next : {X : Type 0} (n : ℕ) (xs : List X) (k : ℕ) (x : X) → slice_get xs k ≡ Some x → enumerate_from n (take (suc k) xs) ≡ enumerate_from n (take k xs) ++ (n + k, x) ∷ []
numbered_next n [] k x is = absurd cc
numbered_next n (y ∷ ys) zero x is = let same : y ≡ x = cc in let e : n ≡ n + 0 = omega arith in λ i. (e i, same i) ∷ []
numbered_next n (y ∷ ys) (suc k) x is =
    let e : n + 1 + k ≡ n + suc k = omega arith in
    ap (λ rest. (n, y) ∷ rest) (numbered_next (n + 1) ys k x is ∙ ap (λ m. enumerate_from (n + 1) (take k ys) ++ (m, x) ∷ []) e)

-- the lines of items with their numbers from 1
module _ {X : Type 0} (lines : ℕ × X → List (List (List ℕ))) (old mid new : List ℕ) (xs : List X) where
  abbrev so_far : ℕ → List ℕ
  so_far k = lines_text (flat_map lines (enumerate_from 1 (take k xs)))

  next_put : (k : ℕ) (x : X) → slice_get xs k ≡ Some x → new ≡ mid ++ lines_text (lines (1 + k, x)) → mid ≡ old ++ so_far k → new ≡ old ++ so_far (suc k)
  next_put k x is put before =
      let front = enumerate_from 1 (take k xs) in
      let here = lines_text (lines (1 + k, x)) in
      put ∙ ap (λ text. text ++ here) before ∙ append_assoc old (so_far k) here
      ∙ ap (λ text. old ++ text) (
      ap (λ ls. so_far k ++ lines_text ls) (sym (append-nil (lines (1 + k, x))))
      ∙ sym (flat_map-append (row_text default_writer) (flat_map lines front) (lines (1 + k, x) ++ []))
      ∙ ap lines_text (sym (flat_map-append lines front ((1 + k, x) ∷ [])))
      ∙ ap (λ ys. lines_text (flat_map lines ys)) (sym (numbered_next 1 xs k x is))
      )

lines-append : (lines more : List (List (List ℕ))) → lines_text (lines ++ more) ≡ lines_text lines ++ lines_text more
lines-append lines more = flat_map-append (row_text default_writer) lines more

-- ---- of bodies
abbrev pub bodies_text : List Body → ℕ → List ℕ
bodies_text bodies count = lines_text (flat_map body_lines (enumerate_from 1 (take count bodies)))

pub bodies_more : (old mid new : List ℕ) (bodies : List Body) (i : ℕ) → IsSomeAnd (body_at bodies i) (λ body. new ≡ mid ++ lines_text (body_lines (i, body)))
    → mid ≡ old ++ bodies_text bodies (i - 1) → new ≡ old ++ bodies_text bodies (i + 1 - 1)
bodies_more old mid new bodies zero put before = absurd put
bodies_more old mid new bodies (suc k) put before = by (slice_get bodies k) refl put
  where
    by : (found : Option Body) → slice_get bodies k ≡ found → IsSomeAnd found (λ body. new ≡ mid ++ lines_text (body_lines (suc k, body))) → new ≡ old ++ bodies_text bodies (suc k + 1 - 1)
    by None is h = absurd h
    by (Some body) is h =
        let here : suc k ≡ 1 + k = omega arith in
        let last : suc k - 1 ≡ k = omega arith in
        let next : suc k ≡ suc k + 1 - 1 = omega arith in
        next_put body_lines old mid new bodies k body is (h ∙ ap (λ i. mid ++ lines_text (body_lines (i, body))) here) (before ∙ ap (λ count. old ++ bodies_text bodies count) last)
        ∙ ap (λ count. old ++ bodies_text bodies count) next

pub bodies_end : (old new : List ℕ) (bodies : List Body) (count : ℕ) → length bodies ≤ count → new ≡ old ++ bodies_text bodies count → new ≡ old ++ lines_text (flat_map body_lines (enumerate_from 1 bodies))
bodies_end old new bodies count past is = is ∙ ap (λ all. old ++ lines_text (flat_map body_lines (enumerate_from 1 all))) (take_all count bodies past)

-- ---- of groups
abbrev pub groups_text : List BodyGroup → ℕ → List ℕ
groups_text groups count = lines_text (map group_fields (take count groups))

pub groups_more : (old mid new : List ℕ) (groups : List BodyGroup) (k : ℕ) (fields : List (List ℕ)) → IsSomeAnd (slice_get groups k) (λ group. fields ≡ group_fields group)
    → new ≡ mid ++ row_text default_writer fields → mid ≡ old ++ groups_text groups k → new ≡ old ++ groups_text groups (k + 1)
groups_more old mid new groups k fields of_group put before = by (slice_get groups k) refl of_group
  where
    by : (found : Option BodyGroup) → slice_get groups k ≡ found → IsSomeAnd found (λ group. fields ≡ group_fields group) → new ≡ old ++ groups_text groups (k + 1)
    by None is h = absurd h
    by (Some group) is h =
        let front = take k groups in
        let more : take (k + 1) groups ≡ front ++ group ∷ [] = take_more groups k group (slice_get_within groups k group is) ∙ ap (λ x. front ++ x ∷ []) (get_or_from_slice_get groups k group group is) in
        let here = row_text default_writer (group_fields group) in
        put ∙ (λ i. before i ++ row_text default_writer (h i)) ∙ append_assoc old (groups_text groups k) here
        ∙ ap (λ text. old ++ text) (
        ap (λ text. groups_text groups k ++ text) (sym (append-nil here)) ∙ sym (lines-append (map group_fields front) (group_fields group ∷ []))
        ∙ ap lines_text (sym (map-append group_fields front (group ∷ []))) ∙ ap (λ all. lines_text (map group_fields all)) (sym more)
        )

pub groups_end : (old new : List ℕ) (groups : List BodyGroup) (count : ℕ) → length groups ≤ count → new ≡ old ++ groups_text groups count → new ≡ old ++ lines_text (map group_fields groups)
groups_end old new groups count past is = is ∙ ap (λ all. old ++ lines_text (map group_fields all)) (take_all count groups past)

-- ---- of all
pub whole_text : (tree : Tree) (q : List Interval) (name last : List (List ℕ)) (none first second third text : List ℕ) → name ≡ codes "robot" ∷ tree.name ∷ [] → last ≡ position_fields q
    → none ≡ [] → first ≡ none ++ row_text default_writer name → second ≡ first ++ lines_text (flat_map body_lines (enumerate_from 1 tree.bodies))
    → third ≡ second ++ lines_text (map group_fields tree.groups) → text ≡ third ++ row_text default_writer last → text ≡ model_text tree q
unfolding model_text model_fields
whole_text tree q name last none first second third text n l zero_bytes one two three four =
    let bodies = flat_map body_lines (enumerate_from 1 tree.bodies) in
    let groups = map group_fields tree.groups in
    let head = row_text default_writer (codes "robot" ∷ tree.name ∷ []) in
    let end = row_text default_writer (position_fields q) in
    let start : first ≡ head = one ∙ (λ k. zero_bytes k ++ row_text default_writer (n k)) in
    let bodied : second ≡ head ++ lines_text bodies = two ∙ (λ k. start k ++ lines_text bodies) in
    let grouped : third ≡ (head ++ lines_text bodies) ++ lines_text groups = three ∙ (λ k. bodied k ++ lines_text groups) in
    four ∙ (λ k. grouped k ++ row_text default_writer (l k))
    ∙ ap (λ text. text ++ end) (append_assoc head (lines_text bodies) (lines_text groups))
    ∙ append_assoc head (lines_text bodies ++ lines_text groups) end
    ∙ ap (λ text. head ++ text) (
    (λ k. sym (lines-append bodies groups) k ++ sym (append-nil end) k) ∙ sym (lines-append (bodies ++ groups) (position_fields q ∷ []))
    )
