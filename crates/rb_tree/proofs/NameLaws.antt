-- Names that are joined from two parts, and names that two joints have in common.
use Rattle.std.proofs.Common.{◌≡◌, ◌≢◌, ◌⊎◌, ◌↔◌, ℕ, zero, suc, ◌≤◌, Bool, true, false, IsTrue, Option, None, Some, List, [], ◌∷◌, ◌++◌, length, take, drop, map, inl, inr, refl, sym, ◌∙◌, ap, subst, arith, append_assoc}
use Rattle.std.specs.List.{Any}
use denote.Ref.{Bor}
use Rattle.rb_flat.specs.Joint.{Kind}
use Rattle.rb_urdf.specs.declared.robot.UrdfJoint.{UrdfJoint}
use Rattle.rb_tree.specs.Names.{names_by, HaveCommon, ShareName}
use Rattle.rb_tree.specs.declared.order.Stem.{Stem}
use Rattle.rb_tree.specs.Sizes.{bearer_of, JointsShare, BearersShare, StemsShare}
use Rattle.std.proofs.lemmas.List.{take-append-drop, take-append-le, take_at, append_cancel_left}
use Rattle.std.proofs.lemmas.Bool.{cases_order}

-- ---- joined texts
pub not_joined : (text front end : List ℕ) → ((rest : List ℕ) → text ≢ front ++ rest) → IsTrue false ↔ (front ++ end ≡ text)
not_joined text front end h = (λ t. absurd cc, λ e. absurd (h end (sym e)))

pub joined : (text front end rest : List ℕ) (b : Bool) → text ≡ front ++ rest → ((b ≡ true → rest ≡ end) × (rest ≡ end → b ≡ true)) → IsTrue b ↔ (front ++ end ≡ text)
joined text front end rest b e d = (λ t. ap (λ r. front ++ r) (sym (d.0 t)) ∙ sym e, λ h. d.1 (sym (append_cancel_left front end rest (h ∙ e))))

pub same_behind : (a x b y rest : List ℕ) (r : Bool) → a ≡ b ++ rest → (IsTrue r ↔ (rest ++ x ≡ y)) → IsTrue r ↔ (a ++ x ≡ b ++ y)
same_behind a x b y rest r e d =
    let whole : a ++ x ≡ b ++ (rest ++ x) = ap (λ (l : List ℕ). l ++ x) e ∙ append_assoc b rest x in
    (λ t. whole ∙ ap (λ l. b ++ l) (d.0 t), λ h. d.1 (append_cancel_left b (rest ++ x) y (sym whole ∙ h)))

pub same_before : (a x b y rest : List ℕ) (r : Bool) → b ≡ a ++ rest → (IsTrue r ↔ (rest ++ y ≡ x)) → IsTrue r ↔ (a ++ x ≡ b ++ y)
same_before a x b y rest r e d = let s = same_behind b y a x rest r e d in (λ t. sym (s.0 t), λ h. s.1 (sym h))

-- of two texts that begin alike the shorter one begins the longer one
front_of : (a x b y : List ℕ) → a ++ x ≡ b ++ y → length b ≤ length a → a ≡ b ++ drop (length b) a
front_of a x b y e h =
    let begins : take (length b) a ≡ b = sym (take-append-le (length b) a x h) ∙ (ap (take (length b)) e ∙ take_at b y (length b) refl) in
    sym (take-append-drop (length b) a) ∙ ap (λ (l : List ℕ). l ++ drop (length b) a) begins

pub not_same : (a x b y : List ℕ) → ((rest : List ℕ) → a ≢ b ++ rest) → ((rest : List ℕ) → b ≢ a ++ rest) → IsTrue false ↔ (a ++ x ≡ b ++ y)
not_same a x b y no_front no_other = (
  λ t. absurd cc,
  λ e. absurd (elim (cases_order (length b) (length a)) [
    | inl same ↦ no_front _ (front_of a x b y e (omega arith))
    | inr apart ↦ elim apart [
      | inl less ↦ no_front _ (front_of a x b y e (omega arith))
      | inr more ↦ no_other _ (front_of b y a x (sym e) (omega arith))
    ]
  ]),
)

-- ---- names in common
module _ {A B : Type 0} (f : A → B) (P : B → Type 0) where
  any_map : (xs : List A) → Any (λ x. P (f x)) xs → Any P (map f xs)
  any_map [] (k, x, h, e, p) = absurd (omega arith)
  any_map (y ∷ xs) (zero, x, h, e, p) = (0, f x, omega arith, ap f e, p)
  any_map (y ∷ xs) (suc k, x, h, e, p) = let r = any_map xs (k, x, omega arith, e, p) in (suc r.0, r.1, omega (arith, r.2), r.3, r.4)

  map_any : (xs : List A) → Any P (map f xs) → Any (λ x. P (f x)) xs
  map_any [] (k, x, h, e, p) = absurd (omega arith)
  map_any (y ∷ xs) (zero, x, h, e, p) = (0, y, omega arith, refl, subst P (sym e) p)
  map_any (y ∷ xs) (suc k, x, h, e, p) = let r = map_any xs (k, x, omega arith, e, p) in (suc r.0, r.1, omega (arith, r.2), r.3, r.4)

any_weaker : {A : Type 0} (P Q : A → Type 0) → ((x : A) → P x → Q x) → (xs : List A) → Any P xs → Any Q xs
any_weaker P Q f xs (k, x, h, e, p) = (k, x, h, e, f x p)

-- texts as the code holds them are those of the lists
module _ (name : List ℕ) (suffixes : List (Bor (List ℕ))) (other : List ℕ) (others : List (Bor (List ℕ))) where
  common_found : Any (λ (s : Bor (List ℕ)). Any (λ (t : Bor (List ℕ)). name ++ s.now ≡ other ++ t.now) others) suffixes →
      HaveCommon (names_by name (map (λ (s : Bor (List ℕ)). s.now) suffixes)) (names_by other (map (λ (s : Bor (List ℕ)). s.now) others))
  common_found h =
      let Named : List ℕ → Type 0 = λ x. Any (λ y. x ≡ y) (names_by other (map (λ (s : Bor (List ℕ)). s.now) others)) in
      any_map (λ s. name ++ s) Named (map (λ (s : Bor (List ℕ)). s.now) suffixes)
      (any_map (λ (s : Bor (List ℕ)). s.now) (λ s. Named (name ++ s)) suffixes
      (any_weaker _ _ (λ s found. any_map (λ t. other ++ t) (λ y. name ++ s.now ≡ y) (map (λ (t : Bor (List ℕ)). t.now) others) (any_map (λ (t : Bor (List ℕ)). t.now) (λ t. name ++ s.now ≡ other ++ t) others found)) suffixes h))

  found_common : HaveCommon (names_by name (map (λ (s : Bor (List ℕ)). s.now) suffixes)) (names_by other (map (λ (s : Bor (List ℕ)). s.now) others)) →
      Any (λ (s : Bor (List ℕ)). Any (λ (t : Bor (List ℕ)). name ++ s.now ≡ other ++ t.now) others) suffixes
  found_common h =
      let Named : List ℕ → Type 0 = λ x. Any (λ y. x ≡ y) (names_by other (map (λ (s : Bor (List ℕ)). s.now) others)) in
      any_weaker _ _ (λ s found. map_any (λ (t : Bor (List ℕ)). t.now) (λ t. name ++ s.now ≡ other ++ t) others (map_any (λ t. other ++ t) (λ y. name ++ s.now ≡ y) (map (λ (t : Bor (List ℕ)). t.now) others) found)) suffixes
      (map_any (λ (s : Bor (List ℕ)). s.now) (λ s. Named (name ++ s)) suffixes (map_any (λ s. name ++ s) Named (map (λ (s : Bor (List ℕ)). s.now) suffixes) h))

  pub common_is : (first second : List (List ℕ)) (b : Bool) → map (λ (s : Bor (List ℕ)). s.now) suffixes ≡ first → map (λ (s : Bor (List ℕ)). s.now) others ≡ second →
      (IsTrue b ↔ Any (λ (s : Bor (List ℕ)). Any (λ (t : Bor (List ℕ)). name ++ s.now ≡ other ++ t.now) others) suffixes) →
      IsTrue b ↔ HaveCommon (names_by name first) (names_by other second)
  common_is first second b e f d =
      let P : List (List ℕ) → List (List ℕ) → Type 0 = λ xs ys. IsTrue b ↔ HaveCommon (names_by name xs) (names_by other ys) in
      let is : P (map (λ (s : Bor (List ℕ)). s.now) suffixes) (map (λ (s : Bor (List ℕ)). s.now) others) = (λ t. common_found (d.0 t), λ h. d.1 (found_common h)) in
      subst (λ ys. P first ys) f (subst (λ xs. P xs (map (λ (s : Bor (List ℕ)). s.now) others)) e is)

-- of two tests the first of which fails
pub second_alone : (a b : Bool) (P Q : Type 0) → (IsTrue a ↔ P) → (IsTrue b ↔ Q) → a ≡ false → IsTrue b ↔ (P ⊎ Q)
second_alone a b P Q p q fails = (λ t. inr (q.0 t), λ h. elim h [ inl x ↦ absurd (let t : a ≡ true = p.1 x in cc) | inr y ↦ q.1 y ])

common_turned : (a b : List (List ℕ)) → HaveCommon a b → HaveCommon b a
common_turned a b (k, x, h, e, (l, y, g, f, same)) = (l, y, g, f, (k, x, h, e, sym same))

pub share_turned : (kind : Kind) (name : List ℕ) (other_kind : Kind) (other : List ℕ) → ShareName kind name other_kind other → ShareName other_kind other kind name
share_turned kind name other_kind other (inl h) = inl (common_turned _ _ h)
share_turned kind name other_kind other (inr h) = inr (common_turned _ _ h)

pub share_same : (k k' : Kind) (n n' : List ℕ) (l l' : Kind) (m m' : List ℕ) → k ≡ k' → n ≡ n' → l ≡ l' → m ≡ m' → ShareName k n l m → ShareName k' n' l' m'
share_same k k' n n' l l' m m' a b c d h =
    let P : Kind → Type 0 = λ x. ShareName x n l m in
    let Q : List ℕ → Type 0 = λ x. ShareName k' x l m in
    let R : Kind → Type 0 = λ x. ShareName k' n' x m in
    let S : List ℕ → Type 0 = λ x. ShareName k' n' l' x in
    subst S d (subst R c (subst Q b (subst P a h)))

pub stems_share : (root : UrdfJoint) (joints : List UrdfJoint) (s t : Stem) (x y : UrdfJoint) → bearer_of root joints s.joint ≡ Some x → bearer_of root joints t.joint ≡ Some y →
    JointsShare x y → StemsShare root joints s t
unfolding StemsShare
stems_share root joints s t x y e f h =
    let P : Option UrdfJoint → Type 0 = λ b. BearersShare (bearer_of root joints s.joint) b in
    let Q : Option UrdfJoint → Type 0 = λ b. BearersShare b (Some y) in
    subst P (sym f) (subst Q (sym e) h)

none_shares : (o p : Option UrdfJoint) → p ≡ None → BearersShare o p → ⊥
none_shares None None e h = h
none_shares (Some x) None e h = h
none_shares None (Some y) e h = h
none_shares (Some x) (Some y) e h = absurd cc

-- a body without a joint has no name in common with another
pub unborne_apart : (root : UrdfJoint) (joints : List UrdfJoint) (s : Stem) (stems : List Stem) → bearer_of root joints s.joint ≡ None → Any (λ t. StemsShare root joints t s) stems → ⊥
unfolding StemsShare
unborne_apart root joints s stems e (k, t, h, at, shares) = none_shares (bearer_of root joints t.joint) (bearer_of root joints s.joint) e shares
