-- What a search finds.
use Rattle.std.proofs.Common.{◌≡◌, ◌<◌, ◌≤◌, ◌+◌, ◌⊎◌, ℕ, Bool, true, false, cond, IsTrue, ◌↔◌, List, [], ◌∷◌, ◌++◌, length, get_or, take, sym, subst, ap, refl, ◌∙◌, arith, inl, inr, append_assoc}
use Rattle.std.specs.Prelude.{nat_eq}
use Rattle.std.specs.List.{Contains, list_any}
use Rattle.std.proofs.lemmas.List.{get_or_default, append-nil, take_more, take_all, length-append, get_or_append_left}
use Rattle.std.proofs.lemmas.List.Elements.{Contains-push, Contains-push_cases, Contains-append_left, Contains-append_cases, Contains-get_or}
use Rattle.std.proofs.lemmas.Bool.{eqb-true, cases_lt}
use Rattle.std.proofs.lemmas.Map.Views.{Contains-from_any, list_any-from_Contains}
use Rattle.std.specs.Cmp.{nat_eq_equiv}
use Rattle.indexmap.specs.IndexSet.{insert_key}
use Rattle.rb_srdf.specs.Loops.{RowHolds, LeadsBy, LeadsTo}
use Rattle.rb_srdf.specs.Reached.{IsAdded, AreReached}
use Rattle.rb_srdf.proofs.LoopWays.{leads_more, leads_once}

pub same_number : (x y : ℕ) → nat_eq x y ≡ true → x ≡ y
same_number x y e = eqb-true x y e

holds : (b : Bool) → IsTrue b → b ≡ true
holds true t = refl
holds false t = absurd cc

holds_back : (b : Bool) → b ≡ true → IsTrue b
holds_back b e = subst IsTrue (sym e) refl

any_from_contains : (xs : List ℕ) (x : ℕ) → Contains xs x → list_any (nat_eq x) xs ≡ true
any_from_contains xs x h = list_any-from_Contains nat_eq_equiv x xs h

-- below the next number is below the number or at it
cases_last : (i n : ℕ) → i < n + 1 → (i < n) ⊎ (i ≡ n)
cases_last i n h =
    elim (cases_lt i n) [
      | inl less ↦ inl less
      | inr most ↦ inr (omega arith)
    ]

-- ---- numbers of a row behind others
none_taken : (row : List ℕ) (k : ℕ) → Contains (take 0 row) k → ⊥
none_taken row k h = let w = h.1 in omega arith

pub added_none : (old row : List ℕ) → IsAdded old (take 0 row) old
added_none old row = record {
  extra = [];
  is = sym (append-nil old);
  only = λ k h. absurd (let w = h.1 in omega arith);
  all = λ k h. absurd (none_taken row k h);
}

-- one number more
module _ (old row now new : List ℕ) (i x : ℕ) (within : i < length row) (is : x ≡ get_or row i 0) (before : IsAdded old (take i row) now) where
  taken : take (i + 1) row ≡ take i row ++ x ∷ []
  taken = take_more row i 0 within ∙ ap (λ y. take i row ++ y ∷ []) (sym is)

  in_taken : (k : ℕ) → Contains (take i row) k → Contains (take (i + 1) row) k
  in_taken k h = subst (λ xs. Contains xs k) (sym taken) (Contains-append_left (take i row) (x ∷ []) k h)

  last_taken : Contains (take (i + 1) row) x
  last_taken = subst (λ xs. Contains xs x) (sym taken) (Contains-push (take i row) x)

  taken_cases : (k : ℕ) → Contains (take (i + 1) row) k → Contains (take i row) k ⊎ (x ≡ k)
  taken_cases k h = Contains-push_cases (take i row) x k (subst (λ xs. Contains xs k) taken h)

  added_by : (there : Bool) → list_any (nat_eq x) now ≡ there → new ≡ cond there now (now ++ x ∷ []) → IsAdded old (take (i + 1) row) new
  added_by true there e = record {
    extra = before.extra;
    is = e ∙ before.is;
    only = λ k h. in_taken k (before.only k h);
    all = λ k h. subst (λ xs. Contains xs k) (sym e) (elim (taken_cases k h) [
      | inl early ↦ before.all k early
      | inr last ↦ subst (Contains now) last (Contains-from_any same_number x now there)
    ]);
  }
  added_by false there e = record {
    extra = before.extra ++ x ∷ [];
    is = e ∙ ap (λ xs. xs ++ x ∷ []) before.is ∙ append_assoc old before.extra (x ∷ []);
    only = λ k h. elim (Contains-push_cases before.extra x k h) [
      | inl early ↦ in_taken k (before.only k early)
      | inr last ↦ subst (Contains (take (i + 1) row)) last last_taken
    ];
    all = λ k h. subst (λ xs. Contains xs k) (sym e) (elim (taken_cases k h) [
      | inl early ↦ Contains-append_left now (x ∷ []) k (before.all k early)
      | inr last ↦ subst (Contains (now ++ x ∷ [])) last (Contains-push now x)
    ]);
  }

  pub added_more : new ≡ insert_key nat_eq now x → IsAdded old (take (i + 1) row) new
  added_more e = added_by (list_any (nat_eq x) now) refl e

pub added_all : (old row new : List ℕ) (i : ℕ) → length row ≤ i → IsAdded old (take i row) new → IsAdded old row new
added_all old row new i past h = subst (λ xs. IsAdded old xs new) (take_all i row past) h

pub kept_by_added : (old row new : List ℕ) (k : ℕ) → IsAdded old row new → Contains old k → Contains new k
kept_by_added old row new k h there = subst (λ xs. Contains xs k) (sym h.is) (Contains-append_left old h.extra k there)

-- ---- the search
-- what was found by when the rows of the first so many numbers were added
pub record IsSearched (rows : List (List ℕ)) (from : ℕ) (found : List ℕ) (next : ℕ) : Type 0 where
  pub within : next ≤ length found
  pub sound : (k : ℕ) → Contains found k → LeadsTo rows from k
  pub begun : (k : ℕ) → RowHolds rows from k → Contains found k
  pub closed : (i : ℕ) → i < next → (k : ℕ) → RowHolds rows (get_or found i 0) k → Contains found k

pub search_begins : (rows : List (List ℕ)) (from : ℕ) (row none found : List ℕ) → none ≡ [] → row ≡ get_or rows from [] →
    IsAdded none row found → IsSearched rows from found 0
search_begins rows from row none found empty is added = record {
  within = omega arith;
  sound = λ k h.
      elim (Contains-append_cases none added.extra k (subst (λ xs. Contains xs k) added.is h)) [
        | inl old ↦ absurd (let w = (subst (λ xs. Contains xs k) empty old).1 in omega arith)
        | inr new ↦ leads_once rows from k (subst (λ xs. Contains xs k) is (added.only k new))
      ];
  begun = λ k named. added.all k (subst (λ xs. Contains xs k) (sym is) named);
  closed = λ i h. absurd (omega arith);
}

module _ (rows : List (List ℕ)) (from : ℕ) (row found new : List ℕ) (next number : ℕ) (before : IsSearched rows from found next)
    (inside : next < length found) (is : number ≡ get_or found next 0) (row_is : row ≡ get_or rows number []) (added : IsAdded found row new) where
  stays : (i : ℕ) → i < length found → get_or new i 0 ≡ get_or found i 0
  stays i h = ap (λ xs. get_or xs i 0) added.is ∙ get_or_append_left found added.extra 0 i h

  longer : length found ≤ length new
  longer = omega (arith, ap (length {A = ℕ}) added.is, length-append found added.extra)

  number_found : Contains found number
  number_found = subst (Contains found) (sym is) (Contains-get_or found next 0 inside)

  pub search_more : IsSearched rows from new (next + 1)
  search_more = record {
    within = omega (arith, longer);
    sound = λ k h.
        elim (Contains-append_cases found added.extra k (subst (λ xs. Contains xs k) added.is h)) [
          | inl old ↦ before.sound k old
          | inr more ↦ leads_more rows from number k (before.sound number number_found) (subst (λ xs. Contains xs k) row_is (added.only k more))
        ];
    begun = λ k named. kept_by_added found row new k added (before.begun k named);
    closed = λ i h k named.
        let e : get_or new i 0 ≡ get_or found i 0 = stays i (omega arith) in
        let named_before : RowHolds rows (get_or found i 0) k = subst (λ (n : ℕ). RowHolds rows n k) e named in
        elim (cases_last i next (omega arith)) [
          | inl early ↦ kept_by_added found row new k added (before.closed i early k named_before)
          | inr last ↦
              added.all k (subst (λ xs. Contains xs k) (sym row_is) (subst (λ (n : ℕ). RowHolds rows n k) (ap (λ j. get_or found j 0) last ∙ sym is) named_before))
        ];
  }

-- ---- the end of the search
module _ (rows : List (List ℕ)) (from : ℕ) (found : List ℕ) (next : ℕ) (all : length found ≤ next) (h : IsSearched rows from found next) where
  follow : (k : ℕ) (way : List ℕ) (to : ℕ) → Contains found k → LeadsBy rows k way to → Contains found to
  follow k [] to there same = subst (Contains found) same there
  follow k (step ∷ way) to there (named, leads) =
      let e : get_or found there.0 0 ≡ k = get_or_default found there.0 0 k there.1 ∙ there.2 in
      let found_step : Contains found step = h.closed there.0 (let w = there.1 in omega arith) step (subst (λ (n : ℕ). RowHolds rows n step) (sym e) named) in
      follow step way to found_step leads

  pub search_ends : AreReached rows from found
  search_ends = record {
    sound = h.sound;
    complete = λ k w. follow w.0 w.1 k (h.begun w.0 w.2) w.3;
  }

-- whether a number was found
pub found_says : (rows : List (List ℕ)) (from k : ℕ) (found : List ℕ) (says : Bool) → AreReached rows from found → says ≡ list_any (nat_eq k) found →
    IsTrue says ↔ LeadsTo rows from k
found_says rows from k found says h e = (
  λ t. h.sound k (Contains-from_any same_number k found (sym e ∙ holds says t)),
  λ w. holds_back says (e ∙ any_from_contains found k (h.complete k w)),
)
