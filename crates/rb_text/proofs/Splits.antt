-- Where a text is split at two points.
use Rattle.std.proofs.Common.{◌≡◌, ℕ, zero, suc, ◌+◌, ◌-◌, ◌<◌, ◌≤◌, true, false, ◌&&◌, cond, eqb, List, [], ◌∷◌, ◌++◌, length, take, drop, get_or, Option, Some, None, refl, sym, ap, ◌∙◌, subst, arith, length-append, length-drop, take_all, drop-cons, take-append-drop}
use Rattle.std.proofs.lemmas.Bool.{and_parts, eqb-true}
use Rattle.memchr.specs.Find.{OccursAt, FindsNeedle}
use Rattle.rb_text.specs.Range.{IsSplit, Halves, begins_with_point, behind, split_of}

-- ---- the text is split as the definition says
-- what a text's halves are
abbrev Splits : List ℕ → Option Halves → Type 0
Splits text None = (head tail : List ℕ) → text ≡ head ++ (46 ∷ (46 ∷ tail)) → ⊥
Splits text (Some h) = IsSplit text h.first h.second

points_first : (byte : ℕ) (bytes : List ℕ) → (eqb byte 46 && begins_with_point bytes) ≡ true → byte ∷ bytes ≡ 46 ∷ (46 ∷ drop 1 bytes)
points_first byte [] h = let p = and_parts (eqb byte 46) false h in absurd (cc)
points_first byte (next ∷ bytes) h =
    let p = and_parts (eqb byte 46) (eqb next 46) h in
    ap (λ (x : ℕ). x ∷ (next ∷ bytes)) (eqb-true byte 46 p.0) ∙ ap (λ (x : ℕ). 46 ∷ (x ∷ bytes)) (eqb-true next 46 p.1)

split_here : (byte : ℕ) (bytes : List ℕ) → (eqb byte 46 && begins_with_point bytes) ≡ true → IsSplit (byte ∷ bytes) [] (drop 1 bytes)
split_here byte bytes h = record { text_is = points_first byte bytes h; earliest = λ head tail e. omega arith }

not_here : (byte : ℕ) (bytes head tail : List ℕ) → (eqb byte 46 && begins_with_point bytes) ≡ false → byte ∷ bytes ≡ head ++ (46 ∷ (46 ∷ tail)) → head ≡ [] → ⊥
not_here byte bytes head tail h e none =
    let at : byte ∷ bytes ≡ 46 ∷ (46 ∷ tail) = e ∙ ap (λ (x : List ℕ). x ++ (46 ∷ (46 ∷ tail))) none in
    let first : byte ≡ 46 = cc in
    let rest : bytes ≡ 46 ∷ tail = cc in
    let test : (eqb byte 46 && begins_with_point bytes) ≡ true = ap (λ (x : ℕ). eqb x 46 && begins_with_point bytes) first ∙ ap begins_with_point rest in
    cc

later_none : (byte : ℕ) (bytes : List ℕ) → (eqb byte 46 && begins_with_point bytes) ≡ false → Splits bytes None → Splits (byte ∷ bytes) None
later_none byte bytes h none [] tail e = not_here byte bytes [] tail h e refl
later_none byte bytes h none (x ∷ head) tail e = let rest : bytes ≡ head ++ (46 ∷ (46 ∷ tail)) = cc in none head tail rest

later_earliest : (byte : ℕ) (bytes first second : List ℕ) → (eqb byte 46 && begins_with_point bytes) ≡ false → IsSplit bytes first second
    → (head tail : List ℕ) → byte ∷ bytes ≡ head ++ (46 ∷ (46 ∷ tail)) → length (byte ∷ first) ≤ length head
later_earliest byte bytes first second h s [] tail e = absurd (not_here byte bytes [] tail h e refl)
later_earliest byte bytes first second h s (x ∷ head) tail e = let rest : bytes ≡ head ++ (46 ∷ (46 ∷ tail)) = cc in omega (arith, s.earliest head tail rest)

later : (byte : ℕ) (bytes : List ℕ) (o : Option Halves) → (eqb byte 46 && begins_with_point bytes) ≡ false → Splits bytes o → Splits (byte ∷ bytes) (behind byte o)
later byte bytes None h s = later_none byte bytes h s
later byte bytes (Some x) h s = record { text_is = ap (λ (xs : List ℕ). byte ∷ xs) s.text_is; earliest = later_earliest byte bytes x.first x.second h s }

splits : (text : List ℕ) → Splits text (split_of text)
unfolding split_of
splits [] = λ head tail e. let long : 0 ≡ length head + suc (suc (length tail)) = ap length e ∙ length-append head (46 ∷ (46 ∷ tail)) in absurd (omega arith)
splits (byte ∷ bytes) =
    elim (eqb byte 46 && begins_with_point bytes)
    as (λ b. (eqb byte 46 && begins_with_point bytes) ≡ b → Splits (byte ∷ bytes) (cond b (Some (record { first = []; second = drop 1 bytes })) (behind byte (split_of bytes)))) [
      | true ↦ λ e. split_here byte bytes e
      | false ↦ λ e. later byte bytes (split_of bytes) e (splits bytes)
    ] refl

pub split_some : (text : List ℕ) (h : Halves) → split_of text ≡ Some h → IsSplit text h.first h.second
split_some text h e = subst (Splits text) e (splits text)

-- ---- a text has one split at most
same_front : (a b x y : List ℕ) → length a ≡ length b → a ++ x ≡ b ++ y → (a ≡ b) × (x ≡ y)
same_front [] [] x y l e = (refl, e)
same_front [] (b ∷ bs) x y l e = absurd (omega arith)
same_front (a ∷ xs) [] x y l e = absurd (omega arith)
same_front (a ∷ xs) (b ∷ bs) x y l e =
    let heads : a ≡ b = cc in
    let rest : xs ++ x ≡ bs ++ y = cc in
    let i = same_front xs bs x y (omega arith) rest in
    (ap (λ (z : ℕ). z ∷ xs) heads ∙ ap (λ (zs : List ℕ). b ∷ zs) i.0, i.1)

halves_same : (h : Halves) (first second : List ℕ) → h.first ≡ first → h.second ≡ second → h ≡ record { first = first; second = second }
halves_same h first second a b =
    ap (λ (x : List ℕ). let r : Halves = record { first = x; second = h.second } in r) a ∙ ap (λ (x : List ℕ). let r : Halves = record { first = first; second = x } in r) b

one_split : (text : List ℕ) (h : Halves) (first second : List ℕ) → IsSplit text h.first h.second → IsSplit text first second → h ≡ record { first = first; second = second }
one_split text h first second s t =
    let long : length h.first ≡ length first = omega (arith, s.earliest first second t.text_is, t.earliest h.first h.second s.text_is) in
    let same = same_front h.first first _ _ long (sym s.text_is ∙ t.text_is) in
    let joined : 46 ∷ (46 ∷ h.second) ≡ 46 ∷ (46 ∷ second) = same.1 in
    let rest : h.second ≡ second = cc in
    halves_same h first second same.0 rest

split_is : (text first second : List ℕ) (o : Option Halves) → Splits text o → IsSplit text first second → o ≡ Some (record { first = first; second = second })
split_is text first second None s t = absurd (s first second t.text_is)
split_is text first second (Some h) s t = ap (λ (x : Halves). Some x) (one_split text h first second s t)

pub split_read : (text first second : List ℕ) → IsSplit text first second → split_of text ≡ Some (record { first = first; second = second })
split_read text first second t = split_is text first second (split_of text) (splits text) t

no_split : (text : List ℕ) (o : Option Halves) → Splits text o → ((head tail : List ℕ) → text ≡ head ++ (46 ∷ (46 ∷ tail)) → ⊥) → o ≡ None
no_split text None s h = refl
no_split text (Some x) s h = absurd (h x.first x.second s.text_is)

pub none_read : (text : List ℕ) → ((head tail : List ℕ) → text ≡ head ++ (46 ∷ (46 ∷ tail)) → ⊥) → split_of text ≡ None
none_read text h = no_split text (split_of text) (splits text) h

-- ---- the search finds it
-- the bytes at two places
two_at : (text : List ℕ) (k : ℕ) → k + 2 ≤ length text → get_or text k 0 ≡ 46 → get_or text (k + 1) 0 ≡ 46 → text ≡ take k text ++ (46 ∷ (46 ∷ drop (k + 2) text))
two_at text k l a b =
    let one : k < length text = omega arith in
    let two : suc k < length text = omega arith in
    let s : k + 1 ≡ suc k = omega arith in
    let t : k + 2 ≡ suc (suc k) = omega arith in
    let c : drop k text ≡ 46 ∷ drop (suc k) text = drop-cons text k 0 one ∙ ap (λ (x : ℕ). x ∷ drop (suc k) text) a in
    let d : drop (suc k) text ≡ 46 ∷ drop (suc (suc k)) text = drop-cons text (suc k) 0 two ∙ ap (λ (x : ℕ). x ∷ drop (suc (suc k)) text) (ap (λ (x : ℕ). get_or text x 0) (sym s) ∙ b) in
    sym (take-append-drop k text) ∙ ap (λ (x : List ℕ). take k text ++ x) (c ∙ ap (λ (x : List ℕ). 46 ∷ x) d ∙ ap (λ (x : ℕ). 46 ∷ (46 ∷ drop x text)) (sym t))

occurs_split : (text : List ℕ) (k : ℕ) → OccursAt text (46 ∷ (46 ∷ [])) k → text ≡ take k text ++ (46 ∷ (46 ∷ drop (k + 2) text))
occurs_split text k o =
    let z : k + 0 ≡ k = omega arith in
    two_at text k o.fits (ap (λ (x : ℕ). get_or text x 0) (sym z) ∙ o.reads 0 (omega arith)) (o.reads 1 (omega arith))

get_behind : (head rest : List ℕ) (j : ℕ) → get_or (head ++ rest) (length head + j) 0 ≡ get_or rest j 0
get_behind [] rest j = ap (λ (x : ℕ). get_or rest x 0) (omega arith)
get_behind (h ∷ head) rest j = let s : suc (length head) + j ≡ suc (length head + j) = omega arith in rw s (get_behind head rest j)

reads_two : (tail : List ℕ) (j : ℕ) → j < 2 → get_or (46 ∷ (46 ∷ tail)) j 0 ≡ get_or (46 ∷ (46 ∷ [])) j 0
reads_two tail zero h = refl
reads_two tail (suc zero) h = refl
reads_two tail (suc (suc j)) h = absurd (omega arith)

occurs_there : (text head tail : List ℕ) → text ≡ head ++ (46 ∷ (46 ∷ tail)) → OccursAt text (46 ∷ (46 ∷ [])) (length head)
occurs_there text head tail e = record {
  fits = omega (arith, ap length e, length-append head (46 ∷ (46 ∷ tail)));
  reads = λ j h. ap (λ (x : List ℕ). get_or x (length head + j) 0) e ∙ get_behind head (46 ∷ (46 ∷ tail)) j ∙ reads_two tail j h;
}

length-take-le : (k : ℕ) (text : List ℕ) → length (take k text) ≤ k
length-take-le zero text = omega arith
length-take-le (suc k) [] = omega arith
length-take-le (suc k) (x ∷ text) = omega (arith, length-take-le k text)

by_cases : (head k front : ℕ) → front ≤ k → (head < k → ⊥) → front ≤ head
by_cases head k front h l = omega (arith, l)

-- the first place of the two points
pub found_split : (text : List ℕ) (o : Option ℕ) (k : ℕ) → FindsNeedle text (46 ∷ (46 ∷ [])) 0 o → o ≡ Some k
    → split_of text ≡ Some (record { first = take k text; second = take (length text - (k + 2)) (drop (k + 2) text) })
found_split text o k found e =
    let at : FindsNeedle text (46 ∷ (46 ∷ [])) 0 (Some k) = subst (FindsNeedle text (46 ∷ (46 ∷ [])) 0) e found in
    let all : take (length text - (k + 2)) (drop (k + 2) text) ≡ drop (k + 2) text = take_all _ (drop (k + 2) text) (omega (arith, length-drop (k + 2) text)) in
    split_read text (take k text) (take (length text - (k + 2)) (drop (k + 2) text)) (record {
      text_is = occurs_split text k at.1 ∙ ap (λ (x : List ℕ). take k text ++ (46 ∷ (46 ∷ x))) (sym all);
      earliest = λ head tail f. by_cases (length head) k (length (take k text)) (length-take-le k text) (λ l. at.0.before (length head) (omega arith) l (occurs_there text head tail f));
    })

pub found_none : (text : List ℕ) (o : Option ℕ) → FindsNeedle text (46 ∷ (46 ∷ [])) 0 o → o ≡ None → split_of text ≡ None
found_none text o found e =
    let at : FindsNeedle text (46 ∷ (46 ∷ [])) 0 None = subst (FindsNeedle text (46 ∷ (46 ∷ [])) 0) e found in
    none_read text (λ head tail f. at (length head) (omega arith) (omega (arith, ap length f, length-append head (46 ∷ (46 ∷ tail)))) (occurs_there text head tail f))
