-- The groups of a file have one answer: their bodies, or the fault of the first that is refused.
use Rattle.std.proofs.Common.{◌≡◌, ◌↔◌, ◌<◌, ◌+◌, ◌⊎◌, ℕ, zero, suc, List, [], ◌∷◌, length, get_or, Some, refl, sym, ◌∙◌, ap, subst, arith, inl, inr}
use Rattle.std.specs.List.{Any, Contains, slice_get, AllByRecursion}
use Rattle.std.specs.List.Sorted.{IsStrictlyIncreasing}
use Rattle.std.proofs.lemmas.Bool.{cases_order}
use Rattle.std.proofs.lemmas.Option.{same_Some, slice_get_read}
use Rattle.rb_srdf.specs.declared.srdf.Group.{Group}
use Rattle.rb_srdf.specs.declared.srdf.Virtual.{Virtual}
use Rattle.rb_tree.specs.declared.faults.TreeFault.{TreeFault}
use Rattle.rb_tree.specs.declared.faults.TreeKind.{TreeKind}
use Rattle.rb_tree.specs.declared.faults.TreeKind.TheVariants.{UnknownName, BadChain}
use Rattle.rb_tree.specs.declared.faults.WhichFile.{WhichFile}
use Rattle.rb_tree.specs.declared.robot.Body.{Body}
use Rattle.rb_tree.specs.declared.groups.BodyGroup.{BodyGroup}
use Rattle.rb_tree.specs.Groups.{IsUnknown, IsBadChain, IsGroupRight, IsGroupRefused, HasGroupFault, IsGroupOf, AreGroupsOf}
use Rattle.rb_tree.proofs.ListLaws.{All-at, same_item}
use Rattle.rb_tree.proofs.GroupMarking.{Contains-none}

-- ---- lists in ascending order
contained_first : (x : ℕ) (xs : List ℕ) → Contains (x ∷ xs) x
contained_first x xs = (0, omega arith, refl)

contained_later : (x y : ℕ) (xs : List ℕ) → Contains xs y → Contains (x ∷ xs) y
contained_later x y xs (k, within, at) = (suc k, omega arith, at)

contained_cases : (x y : ℕ) (xs : List ℕ) → Contains (x ∷ xs) y → (x ≡ y) ⊎ Contains xs y
contained_cases x y xs (zero, within, at) = inl at
contained_cases x y xs (suc k, within, at) = inr (k, omega arith, at)

increasing_rest : (x : ℕ) (xs : List ℕ) → IsStrictlyIncreasing (x ∷ xs) → IsStrictlyIncreasing xs
increasing_rest x xs up k high =
    let step = up (suc k) (omega arith) in
    let e : suc k + 1 ≡ suc (k + 1) = omega arith in
    let P : ℕ → Type 0 = λ n. get_or xs k 0 < get_or (x ∷ xs) n 0 in
    subst P e step

behind_first : (x : ℕ) (xs : List ℕ) (y : ℕ) → IsStrictlyIncreasing (x ∷ xs) → Contains xs y → x < y
behind_first x [] y up c = absurd (Contains-none y c)
behind_first x (z ∷ xs) y up c =
    let step = up 0 (omega arith) in
    elim (contained_cases z y xs c) [
      | inl e ↦ omega arith
      | inr later ↦ let more = behind_first z xs y (increasing_rest x (z ∷ xs) up) later in omega arith
    ]

pub increasing_same : (xs ys : List ℕ) → IsStrictlyIncreasing xs → IsStrictlyIncreasing ys → ((i : ℕ) → Contains xs i ↔ Contains ys i) → xs ≡ ys
increasing_same [] [] up down same = refl
increasing_same [] (y ∷ ys) up down same = absurd (Contains-none y ((same y).1 (contained_first y ys)))
increasing_same (x ∷ xs) [] up down same = absurd (Contains-none x ((same x).0 (contained_first x xs)))
increasing_same (x ∷ xs) (y ∷ ys) up down same =
    let least : x ≡ y = elim (contained_cases y x ys ((same x).0 (contained_first x xs))) [
      | inl e ↦ sym e
      | inr later ↦
          let above = behind_first y ys x down later in
          elim (contained_cases x y xs ((same y).1 (contained_first y ys))) [
            | inl e ↦ e
            | inr further ↦ absurd (let below = behind_first x xs y up further in omega arith)
          ]
    ] in
    let rest : xs ≡ ys = increasing_same xs ys (increasing_rest x xs up) (increasing_rest y ys down) (λ i. (
      λ c. elim (contained_cases y i ys ((same i).0 (contained_later x i xs c))) [
        | inl e ↦ absurd (let less = behind_first x xs i up c in omega arith)
        | inr h ↦ h
      ],
      λ c. elim (contained_cases x i xs ((same i).1 (contained_later y i ys c))) [
        | inl e ↦ absurd (let less = behind_first y ys i down c in omega arith)
        | inr h ↦ h
      ],
    )) in
    ap (λ v. v ∷ xs) least ∙ ap (λ vs. y ∷ vs) rest

lists_same : {X : Type 0} (xs ys : List X) → length xs ≡ length ys → ((k : ℕ) (x y : X) → slice_get xs k ≡ Some x → slice_get ys k ≡ Some y → x ≡ y) → xs ≡ ys
lists_same [] [] size f = refl
lists_same [] (y ∷ ys) size f = absurd (omega arith)
lists_same (x ∷ xs) [] size f = absurd (omega arith)
lists_same (x ∷ xs) (y ∷ ys) size f = ap (λ v. v ∷ xs) (f 0 x y refl refl) ∙ ap (λ vs. y ∷ vs) (lists_same xs ys (omega arith) (λ k. f (suc k)))

module _ (bodies : List Body) (virtuals : List Virtual) (groups : List Group) where
  -- ---- the groups
  same_group : (k : ℕ) (a b : BodyGroup) → IsGroupOf bodies groups k a → IsGroupOf bodies groups k b → a ≡ b
  same_group k a b p q =
      let group : p.group ≡ q.group = same_Some p.group q.group (sym p.is ∙ q.is) in
      let name : a.name ≡ b.name = p.name ∙ (ap (λ (g : Group). g.name) group ∙ sym q.name) in
      let numbers : a.bodies ≡ b.bodies = increasing_same a.bodies b.bodies p.ascending q.ascending
      (λ i. (λ c. (q.all i).1 ((p.all i).0 c), λ c. (p.all i).1 ((q.all i).0 c))) in
      let made : List ℕ → List ℕ → BodyGroup = λ n m. record { name = n; bodies = m } in
      ap (λ n. made n a.bodies) name ∙ ap (made b.name) numbers

  pub groups_once : (a b : List BodyGroup) → AreGroupsOf bodies virtuals groups a → AreGroupsOf bodies virtuals groups b → a ≡ b
  groups_once a b p q = lists_same a b (p.count ∙ sym q.count) (λ k x y at_x at_y. same_group k x y (p.each k x at_x) (q.each k y at_y))

  -- ---- faults
  unknown_wrong : (group : Group) → AllByRecursion (λ item. IsUnknown bodies virtuals item → ⊥) group.items → Any (IsUnknown bodies virtuals) group.items → ⊥
  unknown_wrong group known (k, item, within, at, bad) =
      All-at (λ item. IsUnknown bodies virtuals item → ⊥) group.items k item known (slice_get_read group.items (length group.items) k item refl within (sym at)) bad

  chain_wrong : (group : Group) → AllByRecursion (λ item. IsBadChain bodies item → ⊥) group.items → Any (IsBadChain bodies) group.items → ⊥
  chain_wrong group down (k, item, within, at, bad) =
      All-at (λ item. IsBadChain bodies item → ⊥) group.items k item down (slice_get_read group.items (length group.items) k item refl within (sym at)) bad

  -- what a refusal is of
  abbrev IsOfUnknown : Group → TreeKind → Type 0
  IsOfUnknown group kind = (kind ≡ UnknownName) × Any (IsUnknown bodies virtuals) group.items

  abbrev IsOfChain : Group → TreeKind → Type 0
  IsOfChain group kind = (kind ≡ BadChain) × AllByRecursion (λ item. IsUnknown bodies virtuals item → ⊥) group.items × Any (IsBadChain bodies) group.items

  refusal : (group : Group) (kind : TreeKind) → IsGroupRefused bodies virtuals group kind → IsOfUnknown group kind ⊎ IsOfChain group kind
  refusal group UnknownName h = inl (refl, h)
  refusal group BadChain h = inr (refl, h.0, h.1)
  refusal group _ h = absurd h

  refused_wrong : (group : Group) (kind : TreeKind) → IsGroupRight bodies virtuals group → IsGroupRefused bodies virtuals group kind → ⊥
  refused_wrong group kind right h = elim (refusal group kind h) [
    | inl u ↦ unknown_wrong group right.known u.1
    | inr b ↦ chain_wrong group right.down b.2
  ]

  one_kind : (group : Group) (a b : TreeKind) → IsGroupRefused bodies virtuals group a → IsGroupRefused bodies virtuals group b → a ≡ b
  one_kind group a b p q = elim (refusal group a p) [
    | inl u ↦ elim (refusal group b q) [
      | inl v ↦ u.0 ∙ sym v.0
      | inr c ↦ absurd (unknown_wrong group c.1 u.1)
    ]
    | inr c ↦ elim (refusal group b q) [
      | inl v ↦ absurd (unknown_wrong group c.1 v.1)
      | inr d ↦ c.0 ∙ sym d.0
    ]
  ]

  pub one_group_fault : (a b : TreeFault) → HasGroupFault bodies virtuals groups a → HasGroupFault bodies virtuals groups b → a ≡ b
  one_group_fault a b p q =
      let number : p.number ≡ q.number = elim (cases_order p.number q.number) [
        | inl e ↦ e
        | inr o ↦ elim o [
          | inl lt ↦ absurd (refused_wrong p.group a.kind (q.first p.number p.group lt p.is) p.refused)
          | inr gt ↦ absurd (refused_wrong q.group b.kind (p.first q.number q.group gt q.is) q.refused)
        ]
      ] in
      let group = same_item groups p.number q.number p.group q.group number p.is q.is in
      let P : Group → Type 0 = λ g. IsGroupRefused bodies virtuals g a.kind in
      let kind = one_kind q.group a.kind b.kind (subst P group p.refused) q.refused in
      let file : a.file ≡ b.file = p.file ∙ sym q.file in
      let at : a.at ≡ b.at = p.place ∙ (ap (λ (g : Group). g.place) group ∙ sym q.place) in
      let made : TreeKind → WhichFile → ℕ → TreeFault = λ k f n. record { kind = k; file = f; at = n } in
      ap (λ k. made k a.file a.at) kind ∙ (ap (λ f. made b.kind f a.at) file ∙ ap (made b.kind b.file) at)

  pub right_groups : (made : List BodyGroup) (fault : TreeFault) → AreGroupsOf bodies virtuals groups made → HasGroupFault bodies virtuals groups fault → ⊥
  right_groups made fault all wrong =
      refused_wrong wrong.group fault.kind (All-at (IsGroupRight bodies virtuals) groups wrong.number wrong.group all.right wrong.is) wrong.refused
