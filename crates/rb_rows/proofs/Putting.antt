-- Names that are put piece by piece.
use Rattle.std.proofs.Common.{◌≡◌, ◌<◌, ◌≤◌, ◌+◌, ◌-◌, ℕ, zero, suc, List, [], ◌∷◌, ◌++◌, length, take, get_or, map, flat_map, refl, ◌∙◌, ap, sym, subst, arith, append_assoc, append-nil, Option, Some, None, IsSomeAnd, Bool, true, false, not, cond, ◌||◌}
use Rattle.std.specs.Prelude.{slice_get, bytes_eq}
use Rattle.std.specs.List.{list_any}
use Rattle.std.proofs.lemmas.List.{take_more, take_all, map-append, length-map}
use Rattle.std.proofs.lemmas.List.Folds.{list_any-append}
use Rattle.std.proofs.lemmas.Grind.{flat_map-append}
use Rattle.std.proofs.lemmas.Option.{slice_get_within, get_or_from_slice_get}
use Rattle.std.proofs.lemmas.Slice.Eq.{bytes_eq-Decides}
use Rattle.rb_tree.specs.declared.robot.Body.{Body}
use Rattle.rb_tree.specs.declared.robot.Mimic.{Mimic}
use Rattle.rb_body.specs.declared.raw.JointRaw.{JointRaw}
use Rattle.rb_body.specs.Raw.{kind_of}
use Rattle.rb_tags.specs.Names.{AreDifferent}
use Rattle.rb_tree.specs.Columns.{body_at}
use Rattle.rb_tree.specs.Names.{names_by, entry_names, column_names}
use Rattle.rb_rows.specs.Columns.{behind, entries_of, columns_of}

-- ---- of one joint
named : {X : Type 0} (view : X → List ℕ) (prefix name : List ℕ) (suffixes : List X) → map (λ s. prefix ++ (name ++ view s)) suffixes ≡ behind prefix (names_by name (map view suffixes))
named view prefix name [] = refl
named view prefix name (suffix ∷ others) = ap (λ texts. (prefix ++ (name ++ view suffix)) ∷ texts) (named view prefix name others)

pub names_more : {X Y : Type 0} (view : Y → List ℕ) (f : X → List ℕ) (old mid : List Y) (new : Y) (all : List X) (index : ℕ) (next : X) → index < length all → next ≡ get_or all index next → view new ≡ f next
    → map view mid ≡ map view old ++ map f (take index all) → map view (mid ++ new ∷ []) ≡ map view old ++ map f (take (index + 1) all)
names_more view f old mid new all index next within is put so_far =
    map-append view mid (new ∷ []) ∙ ap (λ xs. xs ++ view new ∷ []) so_far ∙ append_assoc (map view old) (map f (take index all)) (view new ∷ [])
    ∙ ap (λ x. map view old ++ (map f (take index all) ++ x ∷ [])) put ∙ ap (λ xs. map view old ++ xs) (sym (map-append f (take index all) (next ∷ [])))
    ∙ ap (λ xs. map view old ++ map f xs) (ap (λ x. take index all ++ x ∷ []) is ∙ sym (take_more all index next within))

pub names_end : {X Y : Type 0} (view : Y → List ℕ) (suffix : X → List ℕ) (prefix name : List ℕ) (old new : List Y) (all : List X) (index : ℕ) → length all ≤ index
    → map view new ≡ map view old ++ map (λ s. prefix ++ (name ++ suffix s)) (take index all) → map view new ≡ map view old ++ behind prefix (names_by name (map suffix all))
names_end view suffix prefix name old new all index past is =
    is ∙ ap (λ xs. map view old ++ map (λ s. prefix ++ (name ++ suffix s)) xs) (take_all index all past) ∙ ap (λ t. map view old ++ t) (named suffix prefix name all)

-- ---- of all joints
-- the body of a number
body_there : (bodies : List Body) (i : ℕ) (body : Body) → body_at bodies i ≡ Some body → slice_get bodies (i - 1) ≡ Some body
body_there bodies zero body is = absurd cc
body_there bodies (suc k) body is = let e : suc k - 1 ≡ k = omega arith in rw e is

-- the names of the bodies so far, and of one more
pub bodies_more : (names : Body → List (List ℕ)) (prefix : List ℕ) (old mid new : List (List ℕ)) (bodies : List Body) (i : ℕ) → IsSomeAnd (body_at bodies i) (λ body. new ≡ mid ++ behind prefix (names body))
    → mid ≡ old ++ behind prefix (flat_map names (take (i - 1) bodies)) → new ≡ old ++ behind prefix (flat_map names (take (i + 1 - 1) bodies))
bodies_more names prefix old mid new bodies i put so_far = by_body (body_at bodies i) refl put
  where
    by_body : (found : Option Body) → body_at bodies i ≡ found → IsSomeAnd found (λ body. new ≡ mid ++ behind prefix (names body)) → new ≡ old ++ behind prefix (flat_map names (take (i + 1 - 1) bodies))
    by_body None is h = absurd h
    by_body (Some body) is h =
        let there = body_there bodies i body is in
        let within : i - 1 < length bodies = slice_get_within bodies (i - 1) body there in
        let next : get_or bodies (i - 1) body ≡ body = get_or_from_slice_get bodies (i - 1) body body there in
        let front = take (i - 1) bodies in
        let more : take (i + 1 - 1) bodies ≡ front ++ body ∷ [] = ap (λ n. take n bodies) (sym (by_number i is)) ∙ take_more bodies (i - 1) body within ∙ ap (λ x. front ++ x ∷ []) next in
        h ∙ ap (λ t. t ++ behind prefix (names body)) so_far ∙ append_assoc old (behind prefix (flat_map names front)) (behind prefix (names body))
        ∙ ap (λ t. old ++ t) (sym (map-append (λ name. prefix ++ name) (flat_map names front) (names body)))
        ∙ ap (λ xs. old ++ behind prefix (flat_map names front ++ xs)) (sym (append-nil (names body)))
        ∙ ap (λ xs. old ++ behind prefix xs) (sym (flat_map-append names front (body ∷ []))) ∙ ap (λ xs. old ++ behind prefix (flat_map names xs)) (sym more)
      where
        by_number : (i : ℕ) → body_at bodies i ≡ Some body → i - 1 + 1 ≡ i + 1 - 1
        by_number zero is = absurd cc
        by_number (suc k) is = omega arith

pub bodies_end : (names : Body → List (List ℕ)) (prefix : List ℕ) (old new : List (List ℕ)) (bodies : List Body) (i : ℕ) → length bodies ≤ i → new ≡ old ++ behind prefix (flat_map names (take i bodies))
    → new ≡ old ++ behind prefix (flat_map names bodies)
bodies_end names prefix old new bodies i past is = is ∙ ap (λ xs. old ++ behind prefix (flat_map names xs)) (take_all i bodies past)

-- ---- of one body
-- the joint of a body follows none, and its names were put
module _ (prefix name : List ℕ) (old new : List (List ℕ)) (raw : JointRaw) (found : Option Body) where
  pub entries_of_body : IsSomeAnd found (λ body. body.mimic ≡ None) → IsSomeAnd found (λ body. body.joint_raw ≡ raw) → IsSomeAnd found (λ body. body.joint_name ≡ name)
      → new ≡ old ++ behind prefix (entry_names (kind_of raw.kind) name) → IsSomeAnd found (λ body. new ≡ old ++ behind prefix (entries_of body))
  entries_of_body leads is_raw is_name put = by_body found leads is_raw is_name
    where
      by_body : (found : Option Body) → IsSomeAnd found (λ body. body.mimic ≡ None) → IsSomeAnd found (λ body. body.joint_raw ≡ raw) → IsSomeAnd found (λ body. body.joint_name ≡ name) → IsSomeAnd found (λ body. new ≡ old ++ behind prefix (entries_of body))
      by_body None h r n = h
      by_body (Some body) h r n = rw (h, r, n) put

  pub columns_of_body : IsSomeAnd found (λ body. body.mimic ≡ None) → IsSomeAnd found (λ body. body.joint_raw ≡ raw) → IsSomeAnd found (λ body. body.joint_name ≡ name)
      → new ≡ old ++ behind prefix (column_names (kind_of raw.kind) name) → IsSomeAnd found (λ body. new ≡ old ++ behind prefix (columns_of body))
  columns_of_body leads is_raw is_name put = by_body found leads is_raw is_name
    where
      by_body : (found : Option Body) → IsSomeAnd found (λ body. body.mimic ≡ None) → IsSomeAnd found (λ body. body.joint_raw ≡ raw) → IsSomeAnd found (λ body. body.joint_name ≡ name) → IsSomeAnd found (λ body. new ≡ old ++ behind prefix (columns_of body))
      by_body None h r n = h
      by_body (Some body) h r n = rw (h, r, n) put

-- the joint follows another, and nothing was put
pub none_of_follower : (names : Body → List (List ℕ)) (prefix : List ℕ) (texts : List (List ℕ)) (found : Option Body) (mimic : Mimic) → ((body : Body) → body.mimic ≡ Some mimic → names body ≡ [])
    → IsSomeAnd found (λ body. body.mimic ≡ Some mimic) → IsSomeAnd found (λ body. texts ≡ texts ++ behind prefix (names body))
none_of_follower names prefix texts None mimic none h = h
none_of_follower names prefix texts (Some body) mimic none h = rw (none body h) (sym (append-nil texts))

pub no_entries : (mimic : Mimic) (body : Body) → body.mimic ≡ Some mimic → entries_of body ≡ []
no_entries mimic body is = rw is refl

pub no_columns : (mimic : Mimic) (body : Body) → body.mimic ≡ Some mimic → columns_of body ≡ []
no_columns mimic body is = rw is refl

-- ---- a set of names that differ
new_name : (names : List (List ℕ)) (k : ℕ) (d : List ℕ) → AreDifferent names → k < length names → list_any (bytes_eq (get_or names k d)) (take k names) ≡ false
new_name names k d differ within = up_to k (omega arith)
  where
    none : (j : ℕ) → j < k → bytes_eq (get_or names k d) (get_or names j d) ≡ false
    none j before = by (bytes_eq (get_or names k d) (get_or names j d)) refl
      where
        by : (b : Bool) → bytes_eq (get_or names k d) (get_or names j d) ≡ b → b ≡ false
        by false e = refl
        by true e = absurd (differ j k d before within (sym ((bytes_eq-Decides (get_or names k d) (get_or names j d)).0 e)))

    up_to : (j : ℕ) → j ≤ k → list_any (bytes_eq (get_or names k d)) (take j names) ≡ false
    up_to zero h = refl
    up_to (suc j) h =
        let on : suc j ≡ j + 1 = omega arith in
        ap (λ n. list_any (bytes_eq (get_or names k d)) (take n names)) on
        ∙ ap (list_any (bytes_eq (get_or names k d))) (take_more names j d (omega arith))
        ∙ list_any-append (bytes_eq (get_or names k d)) (take j names) (get_or names j d ∷ [])
        ∙ (λ i. up_to j (omega arith) i || (none j (omega arith) i || false))

pub set_more : {X : Type 0} (view : X → List ℕ) (all : List X) (index : ℕ) (next : X) (old new : List (List ℕ)) (added : Bool) → AreDifferent (map view all) → index < length all → next ≡ get_or all index next
    → old ≡ map view (take index all) → added ≡ not (list_any (bytes_eq (view next)) old) → new ≡ cond added (old ++ view next ∷ []) old → new ≡ map view (take (index + 1) all)
set_more view all index next old new added differ within is so_far a n =
    let name : get_or (map view all) index (view next) ≡ view next = get_or-map view all index next within ∙ ap view (sym is) in
    let front : take index (map view all) ≡ map view (take index all) = take-map view all index in
    let fresh : list_any (bytes_eq (view next)) old ≡ false =
    ap (list_any (bytes_eq (view next))) (so_far ∙ sym front) ∙ ap (λ x. list_any (bytes_eq x) (take index (map view all))) (sym name)
    ∙ new_name (map view all) index (view next) differ (subst (λ m. index < m) (sym (length-map all view)) within) in
    n ∙ ap (λ b. cond b (old ++ view next ∷ []) old) (a ∙ ap not fresh) ∙ ap (λ xs. xs ++ view next ∷ []) so_far ∙ sym (map-append view (take index all) (next ∷ []))
    ∙ ap (map view) (ap (λ x. take index all ++ x ∷ []) is ∙ sym (take_more all index next within))
  where
    get_or-map : {X : Type 0} (view : X → List ℕ) (all : List X) (index : ℕ) (d : X) → index < length all → get_or (map view all) index (view d) ≡ view (get_or all index d)
    get_or-map view [] index d h = refl
    get_or-map view (x ∷ xs) zero d h = refl
    get_or-map view (x ∷ xs) (suc index) d h = get_or-map view xs index d (omega arith)

    take-map : {X : Type 0} (view : X → List ℕ) (all : List X) (index : ℕ) → take index (map view all) ≡ map view (take index all)
    take-map view [] zero = refl
    take-map view [] (suc index) = refl
    take-map view (x ∷ xs) zero = refl
    take-map view (x ∷ xs) (suc index) = ap (λ t. view x ∷ t) (take-map view xs index)
