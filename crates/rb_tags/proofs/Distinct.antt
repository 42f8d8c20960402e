-- Names of attributes that were read from the last to the first.
use Rattle.std.proofs.Common.{Ordering, ◌≡◌, ◌≢◌, ℕ, suc, map, ◌+◌, ◌-◌, ◌<◌, ◌≤◌, get_or, take, Bool, true, false, cond, not, ◌&&◌, ◌||◌, ◌==◌, List, [], ◌∷◌, ◌++◌, length, refl, sym, ap, ◌∙◌, append_assoc, add-one, arith}
use Rattle.std.proofs.lemmas.List.{append-nil, take_more, take_all, length-map, get_or-map}
use Rattle.std.proofs.lemmas.Bool.{and_parts, ne_eqb}
use Rattle.std.proofs.Math.Dec.{eqb-suc-suc}
use Rattle.std.proofs.lemmas.Slice.Eq.{bytes_eq-Decides}
use Rattle.std.proofs.lemmas.List.Kept.{AllPairs-cons}
use Rattle.std.proofs.lemmas.List.Elements.{All-from_recursion, All-head, All-tail}
use Rattle.std.specs.List.{AllByRecursion, All, AllPairs}
use Rattle.rb_tags.specs.Grammar.{WrittenAttr, attr_of}
use Rattle.rb_tags.specs.Kept.{HasDistinctNames}
use Rattle.std.specs.BTreeSet.{BTreeSet, IsEmpty, contains, Updates, btree_set_len}
use Rattle.std.specs.Cmp.Lexicographic.{slice_cmp}
use Rattle.std.specs.Ordering.{nat_cmp}
use Rattle.std.proofs.lemmas.Map.Text.{is_eq-slice_cmp}
use Rattle.std.specs.Str.{bytes_eq}
use denote.Ref.{Bor}
use Rattle.rb_tags.specs.declared.tag.Attr.{Attr}
use Rattle.rb_tags.specs.Seen.{has_name, are_distinct, name_count}

abbrev pub text_order : Bor (List ℕ) → Bor (List ℕ) → Ordering
text_order x y = slice_cmp nat_cmp x.now y.now

-- the names of the set are those of the attributes behind the rest
pub record NamesSoFar (attrs rest : List Attr) (names : BTreeSet (Bor (List ℕ))) : Type 0 where
  pub seen : List Attr
  pub parts : attrs ≡ rest ++ seen
  pub count : btree_set_len names ≡ name_count seen
  pub has : (q : Bor (List ℕ)) → contains text_order names q ≡ has_name q.now seen

pub names_begin : (attrs : List Attr) (names : BTreeSet (Bor (List ℕ))) → IsEmpty names → btree_set_len names ≡ 0 → NamesSoFar attrs attrs names
names_begin attrs names none count = record { seen = []; parts = sym (append-nil attrs); count = count; has = λ q. rw none refl }

last_split : (rest : List Attr) (a : Attr) → 0 < length rest → a ≡ get_or rest (length rest - 1) a → rest ≡ take (length rest - 1) rest ++ a ∷ []
last_split rest a some is =
    let n = length rest - 1 in
    let e : take (n + 1) rest ≡ take n rest ++ get_or rest n a ∷ [] = take_more rest n a (omega arith) in
    let all : take (n + 1) rest ≡ rest = take_all (n + 1) rest (omega arith) in
    sym all ∙ e ∙ ap (λ (b : Attr). take n rest ++ b ∷ []) (sym is)

regroup : (attrs rest front seen : List Attr) (a : Attr) → attrs ≡ rest ++ seen → rest ≡ front ++ a ∷ [] → attrs ≡ front ++ a ∷ seen
regroup attrs rest front seen a e split = e ∙ ap (λ (t : List Attr). t ++ seen) split ∙ append_assoc front (a ∷ []) seen

either : (b c : Bool) → cond b true c ≡ (b || c)
either true c = refl
either false c = refl

if_new : (there added : Bool) → added ≡ not there → cond {A = ℕ} added 1 0 ≡ cond {A = ℕ} there 0 1
if_new true true e = absurd cc
if_new true false e = refl
if_new false true e = refl
if_new false false e = absurd cc

pub names_more : (attrs rest : List Attr) (a : Attr) (names now : BTreeSet (Bor (List ℕ))) (name : Bor (List ℕ)) (added : Bool) → NamesSoFar attrs rest names → 0 < length rest → a ≡ get_or rest (length rest - 1) a → name.now ≡ a.name → added ≡ not (contains text_order names name) → btree_set_len now ≡ btree_set_len names + cond added 1 0 → Updates text_order names now name true → NamesSoFar attrs (take (length rest - 1) rest) now
names_more attrs rest a names now name added h some last is new count updates =
    let there : contains text_order names name ≡ has_name a.name h.seen = h.has name ∙ ap (λ (t : List ℕ). has_name t h.seen) is in
    record {
      seen = a ∷ h.seen;
      parts = regroup attrs rest (take (length rest - 1) rest) h.seen a h.parts (last_split rest a some last);
      count = count ∙ ap (λ (n : ℕ). n + cond added 1 0) h.count ∙ ap (λ (n : ℕ). name_count h.seen + n) (if_new (contains text_order names name) added new ∙ ap (λ (b : Bool). cond b 0 1) there);
      has = λ q. updates.0 q ∙ ap (λ (b : Bool). cond b true (contains text_order names q)) (is_eq-slice_cmp name.now q.now) ∙ either (bytes_eq name.now q.now) (contains text_order names q) ∙ ap (λ (b : Bool). bytes_eq name.now q.now || b) (h.has q) ∙ ap (λ (t : List ℕ). bytes_eq t q.now || has_name q.now h.seen) is;
    }

pub names_all : (attrs rest : List Attr) (names : BTreeSet (Bor (List ℕ))) → NamesSoFar attrs rest names → length rest ≡ 0 → btree_set_len names ≡ name_count attrs
names_all attrs [] names h none = h.count ∙ ap name_count (sym h.parts)
names_all attrs (a ∷ rest) names h none = absurd (omega arith)

few_names : (attrs : List Attr) → name_count attrs ≤ length attrs
few_names [] = omega arith
few_names (a ∷ attrs) = by_test (has_name a.name attrs) (few_names attrs)
  where
    by_test : (b : Bool) → name_count attrs ≤ length attrs → name_count attrs + cond b 0 1 ≤ suc (length attrs)
    by_test true h = omega arith
    by_test false h = omega arith

-- names differ where there are as many as attributes
pub distinct_by_count : (attrs : List Attr) → (name_count attrs == length attrs) ≡ are_distinct attrs
distinct_by_count [] = refl
distinct_by_count (a ∷ attrs) = by_test (has_name a.name attrs) (name_count attrs) (length attrs) (few_names attrs) ∙ ap (λ (b : Bool). not (has_name a.name attrs) && b) (distinct_by_count attrs)
  where
    by_test : (b : Bool) (n m : ℕ) → n ≤ m → (n + cond b 0 1 == suc m) ≡ (not b && (n == m))
    by_test true n m h = ne_eqb _ _ (λ e. omega arith)
    by_test false n m h = rw (add-one, eqb-suc-suc n m) refl

no_name : (name : List ℕ) (attrs : List Attr) → has_name name attrs ≡ false → AllByRecursion (λ a. name ≢ a.name) attrs
no_name name [] h = tt
no_name name (a ∷ attrs) h =
    let both = or_none (bytes_eq a.name name) (has_name name attrs) h in
    (λ same. let equal : bytes_eq a.name name ≡ true = (bytes_eq-Decides a.name name).1 (sym same) in cc, no_name name attrs both.1)
  where
    or_none : (b c : Bool) → (b || c) ≡ false → (b ≡ false) × (c ≡ false)
    or_none true c e = absurd cc
    or_none false c e = (refl, e)

pub distinct_holds : (attrs : List Attr) → are_distinct attrs ≡ true → HasDistinctNames attrs
distinct_holds [] h = λ i j d lt within. absurd (omega arith)
distinct_holds (a ∷ attrs) h =
    let both = and_parts (not (has_name a.name attrs)) (are_distinct attrs) h in
    AllPairs-cons (λ (x y : Attr). x.name ≢ y.name) a attrs (All-from_recursion (λ (y : Attr). a.name ≢ y.name) attrs (no_name a.name attrs (not_true (has_name a.name attrs) both.0))) (distinct_holds attrs both.1)
  where
    not_true : (b : Bool) → not b ≡ true → b ≡ false
    not_true true e = absurd cc
    not_true false e = refl

-- the same of attributes as they are written
pub written_distinct : (attrs : List WrittenAttr) → are_distinct (map attr_of attrs) ≡ true → AllPairs (λ a b. a.name ≢ b.name) attrs
written_distinct attrs h = λ i j d lt within.
    let lt' : i < length attrs = omega arith in
    let pairs = distinct_holds (map attr_of attrs) h i j (attr_of d) lt (omega (arith, length-map attrs attr_of)) in
    λ same. pairs (ap (λ (a : Attr). a.name) (get_or-map attr_of attrs i d (attr_of d) lt') ∙ same ∙ sym (ap (λ (a : Attr). a.name) (get_or-map attr_of attrs j d (attr_of d) within)))

names_differ : (name : List ℕ) (attrs : List WrittenAttr) → All (λ a. name ≢ a.name) attrs → has_name name (map attr_of attrs) ≡ false
names_differ name [] all = refl
names_differ name (a ∷ attrs) all =
    let first : name ≢ a.name = All-head (λ (b : WrittenAttr). name ≢ b.name) a attrs all in
    let others = names_differ name attrs (All-tail (λ (b : WrittenAttr). name ≢ b.name) a attrs all) in
    rw (not_same (bytes_eq a.name name) (λ t. first (sym ((bytes_eq-Decides a.name name).0 t)))) others
  where
    not_same : (b : Bool) → (b ≡ true → ⊥) → b ≡ false
    not_same true h = absurd (h refl)
    not_same false h = refl

pub distinct_again : (attrs : List WrittenAttr) → AllPairs (λ a b. a.name ≢ b.name) attrs → are_distinct (map attr_of attrs) ≡ true
distinct_again [] pairs = refl
distinct_again (a ∷ attrs) pairs =
    let later : All (λ b. a.name ≢ b.name) attrs = λ j d within. pairs 0 (suc j) d (omega arith) (omega arith) in
    let rest : AllPairs (λ x y. x.name ≢ y.name) attrs = λ i j d lt within. pairs (suc i) (suc j) d (omega arith) (omega arith) in
    rw (names_differ a.name attrs later) (distinct_again attrs rest)
