-- Marks of bodies, one after another.
use Rattle.std.proofs.Common.{◌≡◌, ◌≢◌, ◌↔◌, ◌<◌, ◌≤◌, ◌+◌, ◌⊎◌, ℕ, zero, suc, Bool, true, false, List, [], ◌∷◌, ◌++◌, length, take, set, replicate, get_or, refl, sym, ◌∙◌, ap, subst, arith, inl, inr, get_or-set_other, get_or-set_same}
use Rattle.std.proofs.Math.ListN.{length-set}
use Rattle.std.specs.List.{Any, Contains}
use Rattle.std.specs.List.Sorted.{IsStrictlyIncreasing}
use Rattle.std.proofs.lemmas.Bool.{cases_order, false≢true}
use Rattle.std.proofs.lemmas.List.{length-append, get_or_append_left, take_more}
use Rattle.std.proofs.lemmas.List.Elements.{Contains-append_left, Contains-push, Contains-push_cases}
use Rattle.std.proofs.Math.Seq.{get_or-append_seam}
use Rattle.rb_tree.specs.GroupMarks.{IsMarked, Adds, AreMarked}
use Rattle.rb_tree.proofs.Answered.{below_or_last}
use Rattle.rb_tree.proofs.Stems.{read_same}

-- ---- sets of marks
pub Adds-none : (P : ℕ → Type 0) (marks : List Bool) → ((i : ℕ) → P i → ⊥) → Adds P marks marks
Adds-none P marks none = record {
  size = refl;
  marks = λ i. (λ h. inl h, λ h. elim h [ inl m ↦ m | inr p ↦ absurd (none i p) ]);
}

pub Adds-same : (P Q : ℕ → Type 0) (old new : List Bool) → ((i : ℕ) → P i ↔ Q i) → Adds P old new → Adds Q old new
Adds-same P Q old new same a = record {
  size = a.size;
  marks = λ i. (
    λ h. elim ((a.marks i).0 h) [ inl m ↦ inl m | inr p ↦ inr ((same i).0 p) ],
    λ h. elim h [ inl m ↦ (a.marks i).1 (inl m) | inr q ↦ (a.marks i).1 (inr ((same i).1 q)) ],
  );
}

pub Adds-more : (P Q R : ℕ → Type 0) (a b c : List Bool) → ((i : ℕ) → (P i ⊎ Q i) ↔ R i) → Adds P a b → Adds Q b c → Adds R a c
Adds-more P Q R a b c all p q = record {
  size = q.size ∙ p.size;
  marks = λ i. (
    λ h. elim ((q.marks i).0 h) [
      | inl m ↦ elim ((p.marks i).0 m) [ inl m' ↦ inl m' | inr x ↦ inr ((all i).0 (inl x)) ]
      | inr x ↦ inr ((all i).0 (inr x))
    ],
    λ h. elim h [
      | inl m ↦ (q.marks i).1 (inl ((p.marks i).1 (inl m)))
      | inr r ↦ elim ((all i).1 r) [
        | inl x ↦ (q.marks i).1 (inl ((p.marks i).1 (inr x)))
        | inr x ↦ (q.marks i).1 (inr x)
      ]
    ],
  );
}

pub Adds-one : (marks : List Bool) (k : ℕ) → k < length marks → Adds (λ i. i ≡ k) marks (set marks k true)
Adds-one marks k within = record {
  size = length-set marks k true;
  marks = λ i. elim (cases_order i k) [
    | inl e ↦ (λ h. inr e, λ h. ap (λ n. get_or (set marks k true) n false) e ∙ get_or-set_same marks k true false within)
    | inr o ↦
        let other : i ≢ k = elim o [ inl lt ↦ (λ e. absurd (omega arith)) | inr gt ↦ (λ e. absurd (omega arith)) ] in
        let same : get_or (set marks k true) i false ≡ get_or marks i false = get_or-set_other marks k i true false other in
        (λ h. inl (sym same ∙ h), λ h. elim h [ inl m ↦ same ∙ m | inr e ↦ absurd (other e) ])
  ];
}

-- ---- the items of a list up to one
module _ {X : Type 0} (xs : List X) (k : ℕ) (x : X) (within : k < length xs) (is : x ≡ get_or xs k x) where
  one_more : take (k + 1) xs ≡ take k xs ++ x ∷ []
  one_more = take_more xs k x within ∙ ap (λ y. take k xs ++ y ∷ []) (sym is)

  pub Contains-more : (y : X) → (Contains (take k xs) y ⊎ (y ≡ x)) ↔ Contains (take (k + 1) xs) y
  Contains-more y =
      let P : List X → Type 0 = λ ys. Contains ys y in (
        λ h. elim h [
          | inl c ↦ subst P (sym one_more) (Contains-append_left (take k xs) (x ∷ []) y c)
          | inr e ↦ subst P (sym one_more) (let Q : X → Type 0 = λ z. Contains (take k xs ++ x ∷ []) z in subst Q (sym e) (Contains-push (take k xs) x))
        ],
        λ c. elim (Contains-push_cases (take k xs) x y (subst P one_more c)) [ inl h ↦ inl h | inr e ↦ inr (sym e) ],
      )

module _ {X : Type 0} (P : X → Type 0) where
  -- what some item keeps is kept by one that the list contains
  pub any_contained : (xs : List X) → Any P xs → (x : X) × Contains xs x × P x
  any_contained xs (k, x, within, at, p) = (x, (k, within, at), p)

  pub contained_any : (xs : List X) (x : X) → Contains xs x → P x → Any P xs
  contained_any xs x (k, within, at) p = (k, x, within, at, p)

  pub Any-more : (xs : List X) (k : ℕ) (x : X) → k < length xs → x ≡ get_or xs k x → (Any P (take k xs) ⊎ P x) ↔ Any P (take (k + 1) xs)
  Any-more xs k x within is = (
    λ h. elim h [
      | inl a ↦ let (y, c, p) = any_contained (take k xs) a in contained_any (take (k + 1) xs) y ((Contains-more xs k x within is y).0 (inl c)) p
      | inr p ↦ contained_any (take (k + 1) xs) x ((Contains-more xs k x within is x).0 (inr refl)) p
    ],
    λ a. let f = any_contained (take (k + 1) xs) a in
        elim ((Contains-more xs k x within is f.0).1 f.1) [
          | inl c ↦ inl (contained_any (take k xs) f.0 c f.2)
          | inr e ↦ inr (subst P e f.2)
        ],
  )

pub Any-none : {X : Type 0} (P : X → Type 0) → Any P [] → ⊥
Any-none P (k, x, within, at, p) = omega arith

pub Contains-none : {X : Type 0} (x : X) → Contains [] x → ⊥
Contains-none x (k, within, at) = omega arith

pub none_marked : (n i : ℕ) → IsMarked (replicate n false) i → ⊥
none_marked zero i m = cc
none_marked (suc n) zero m = cc
none_marked (suc n) (suc i) m = none_marked n i m

-- ---- numbers that are marked
-- those below a number
pub record MarkedBelow (marks : List Bool) (k : ℕ) (numbers : List ℕ) : Type 0 where
  pub ascending : IsStrictlyIncreasing numbers
  pub all : (i : ℕ) → Contains numbers i ↔ ((i < k) × IsMarked marks i)

pub below_none : (marks : List Bool) → MarkedBelow marks 0 []
below_none marks = record {
  ascending = λ k h. absurd (omega arith);
  all = λ i. (λ h. absurd (Contains-none i h), λ h. absurd (let lt = h.0 in omega arith));
}

increasing_push : (xs : List ℕ) (y : ℕ) → IsStrictlyIncreasing xs → ((x : ℕ) → Contains xs x → x < y) → IsStrictlyIncreasing (xs ++ y ∷ [])
increasing_push xs y up less k high =
    let size : length (xs ++ y ∷ []) ≡ length xs + 1 = length-append xs (y ∷ []) in
    let le : k + 1 ≤ length xs = omega arith in
    let kept : get_or (xs ++ y ∷ []) k 0 ≡ get_or xs k 0 = get_or_append_left xs (y ∷ []) 0 k (omega arith) in
    elim (cases_order (k + 1) (length xs)) [
      | inl e ↦
          let last : get_or (xs ++ y ∷ []) (k + 1) 0 ≡ y = ap (λ n. get_or (xs ++ y ∷ []) n 0) e ∙ get_or-append_seam xs y [] 0 in
          let lt = less (get_or xs k 0) (k, omega arith, read_same xs k (get_or xs k 0) 0 (omega arith)) in
          omega arith
      | inr o ↦ elim o [
        | inl lt ↦
            let next : get_or (xs ++ y ∷ []) (k + 1) 0 ≡ get_or xs (k + 1) 0 = get_or_append_left xs (y ∷ []) 0 (k + 1) lt in
            let step = up k lt in
            omega arith
        | inr gt ↦ absurd (omega arith)
      ]
    ]

pub below_marked : (marks : List Bool) (k : ℕ) (numbers : List ℕ) → MarkedBelow marks k numbers → get_or marks k false ≡ true → MarkedBelow marks (k + 1) (numbers ++ k ∷ [])
below_marked marks k numbers m here = record {
  ascending = increasing_push numbers k m.ascending (λ x c. ((m.all x).0 c).0);
  all = λ i. (
    λ c. elim (Contains-push_cases numbers k i c) [
      | inl h ↦ let p = (m.all i).0 h in (let lt = p.0 in omega arith, p.1)
      | inr e ↦ (omega arith, ap (λ n. get_or marks n false) (sym e) ∙ here)
    ],
    λ p. elim (below_or_last i k p.0) [
      | inl lt ↦ Contains-append_left numbers (k ∷ []) i ((m.all i).1 (lt, p.1))
      | inr e ↦ let Q : ℕ → Type 0 = λ z. Contains (numbers ++ k ∷ []) z in subst Q (sym e) (Contains-push numbers k)
    ],
  );
}

pub below_unmarked : (marks : List Bool) (k : ℕ) (numbers : List ℕ) → MarkedBelow marks k numbers → get_or marks k false ≡ false → MarkedBelow marks (k + 1) numbers
below_unmarked marks k numbers m here = record {
  ascending = m.ascending;
  all = λ i. (
    λ c. let p = (m.all i).0 c in (let lt = p.0 in omega arith, p.1),
    λ p. elim (below_or_last i k p.0) [
      | inl lt ↦ (m.all i).1 (lt, p.1)
      | inr e ↦ absurd (false≢true (sym here ∙ (ap (λ n. get_or marks n false) (sym e) ∙ p.1)))
    ],
  );
}

marked_within : (marks : List Bool) (i : ℕ) → IsMarked marks i → i < length marks
marked_within [] i m = absurd cc
marked_within (b ∷ marks) zero m = omega arith
marked_within (b ∷ marks) (suc i) m = omega (arith, marked_within marks i m)

pub below_all : (marks : List Bool) (k : ℕ) (numbers : List ℕ) → length marks ≤ k → MarkedBelow marks k numbers → AreMarked marks numbers
below_all marks k numbers end m = record {
  ascending = m.ascending;
  all = λ i. (λ c. ((m.all i).0 c).1, λ h. (m.all i).1 (omega (arith, marked_within marks i h), h));
}
