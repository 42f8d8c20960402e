-- Names that are put behind a prefix, or by number.
use Rattle.std.proofs.Common.{◌≡◌, ◌≤◌, ◌+◌, ◌-◌, length, take, ℕ, zero, suc, List, [], ◌∷◌, ◌++◌, map, flat_map, refl, ◌∙◌, ap, sym, arith, append_assoc, append-nil}
use Rattle.std.specs.List.{range_with_len}
use Rattle.std.proofs.lemmas.List.{map-append, map_push, take_all}
use Rattle.std.proofs.lemmas.Simd.{map-map}
use Rattle.std.proofs.lemmas.List.FromFn.{map-range_with_len_more}
use Rattle.rb_rows.specs.Columns.{behind}
use Rattle.rb_rows.specs.Head.{pairs_at, pairs_of, mass_name}
use Rattle.std.proofs.lemmas.Grind.{flat_map-append}

-- ---- behind a prefix
each : {X : Type 0} (name : X → List ℕ) (prefix : List ℕ) (all : List X) → map (λ x. prefix ++ name x) all ≡ behind prefix (map name all)
each name prefix [] = refl
each name prefix (x ∷ others) = ap (λ names. (prefix ++ name x) ∷ names) (each name prefix others)

pub behind_end : {X Y : Type 0} (view : Y → List ℕ) (name : X → List ℕ) (prefix : List ℕ) (old new : List Y) (all : List X) (index : ℕ) → length all ≤ index
    → map view new ≡ map view old ++ map (λ x. prefix ++ name x) (take index all) → map view new ≡ map view old ++ behind prefix (map name all)
behind_end view name prefix old new all index past is =
    is ∙ ap (λ xs. map view old ++ map (λ x. prefix ++ name x) xs) (take_all index all past) ∙ ap (λ names. map view old ++ names) (each name prefix all)

-- ---- one name a number
pub row_more : {Y : Type 0} (view : Y → List ℕ) (f : ℕ → List ℕ) (old mid : List Y) (new : Y) (c d : ℕ) → c ≤ d → view new ≡ f d
    → map view mid ≡ map view old ++ map f (range_with_len c (d - c)) → map view (mid ++ new ∷ []) ≡ map view old ++ map f (range_with_len c (d + 1 - c))
row_more view f old mid new c d le put so_far =
    let n : d - c + 1 ≡ d + 1 - c = omega arith in
    map_push view mid new ∙ ap (λ xs. xs ++ view new ∷ []) so_far ∙ append_assoc (map view old) (map f (range_with_len c (d - c))) (view new ∷ [])
    ∙ ap (λ x. map view old ++ (map f (range_with_len c (d - c)) ++ x ∷ [])) put
    ∙ ap (λ xs. map view old ++ xs) (sym (map-range_with_len_more f c (d - c) d (omega arith))) ∙ ap (λ k. map view old ++ map f (range_with_len c k)) n

-- those of a column and each from it on
pub row_whole : (old new : List (List ℕ)) (count c d : ℕ) → d ≡ count + 1 → new ≡ old ++ map (λ e. mass_name (c, e)) (range_with_len c (d - c))
    → new ≡ old ++ map mass_name (pairs_at count c)
row_whole old new count c d end is =
    is ∙ ap (λ k. old ++ map (λ e. mass_name (c, e)) (range_with_len c (k - c))) end
    ∙ ap (λ xs. old ++ xs) (sym (map-map mass_name (λ e. (c, e)) (range_with_len c (count + 1 - c))))

-- ---- the names of a row a number
map_of_rows : {X Y : Type 0} (f : X → Y) (row : ℕ → List X) (ks : List ℕ) → map f (flat_map row ks) ≡ flat_map (λ k. map f (row k)) ks
map_of_rows f row [] = refl
map_of_rows f row (k ∷ ks) = map-append f (row k) (flat_map row ks) ∙ ap (λ xs. map f (row k) ++ xs) (map_of_rows f row ks)

last : (a n : ℕ) → range_with_len a (suc n) ≡ range_with_len a n ++ (a + n) ∷ []
last a zero = let e : a ≡ a + 0 = omega arith in ap (λ x. x ∷ []) e
last a (suc n) = let e : a + 1 + n ≡ a + suc n = omega arith in ap (λ l. a ∷ l) (last (a + 1) n ∙ ap (λ x. range_with_len (a + 1) n ++ x ∷ []) e)

-- those of all columns, column by column
pub rows_whole : (old new : List (List ℕ)) (count c : ℕ) → c ≡ count + 1 → new ≡ old ++ flat_map (λ k. map mass_name (pairs_at count k)) (range_with_len 1 (c - 1))
    → new ≡ old ++ map mass_name (pairs_of count)
rows_whole old new count c end is =
    let n : c - 1 ≡ count = omega arith in
    is ∙ ap (λ k. old ++ flat_map (λ j. map mass_name (pairs_at count j)) (range_with_len 1 k)) n
    ∙ ap (λ xs. old ++ xs) (sym (map_of_rows mass_name (pairs_at count) (range_with_len 1 count)))

pub rows_more : (f : ℕ → List (List ℕ)) (old mid new : List (List ℕ)) (c : ℕ) → 1 ≤ c → new ≡ mid ++ f c → mid ≡ old ++ flat_map f (range_with_len 1 (c - 1))
    → new ≡ old ++ flat_map f (range_with_len 1 (c + 1 - 1))
rows_more f old mid new c first put so_far =
    let n : suc (c - 1) ≡ c + 1 - 1 = omega arith in
    let at : 1 + (c - 1) ≡ c = omega arith in
    let front = range_with_len 1 (c - 1) in
    put ∙ ap (λ xs. xs ++ f c) so_far ∙ append_assoc old (flat_map f front) (f c) ∙ ap (λ xs. old ++ (flat_map f front ++ xs)) (sym (append-nil (f c)))
    ∙ ap (λ xs. old ++ xs) (sym (flat_map-append f front (c ∷ []))) ∙ ap (λ x. old ++ flat_map f (front ++ x ∷ [])) (sym at)
    ∙ ap (λ xs. old ++ flat_map f xs) (sym (last 1 (c - 1))) ∙ ap (λ k. old ++ flat_map f (range_with_len 1 k)) n
