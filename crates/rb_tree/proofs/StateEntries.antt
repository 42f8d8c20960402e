-- The entries that numbers set of a body, and those of a state, one value behind another.
use Rattle.std.proofs.Common.{◌≡◌, ℕ, suc, ◌+◌, ◌-◌, ◌<◌, ◌≤◌, ◌^◌, Bool, true, false, not, cond, ◌||◌, nat_lt, List, [], ◌∷◌, ◌++◌, length, take, get_or, is_some, Option, None, Some, Result, Ok, Err, refl, sym, ap, ◌∙◌, subst, append_assoc, true≢false, arith}
use Rattle.std.specs.Prelude.{bytes_eq}
use Rattle.std.specs.Option.{option_map_or}
use Rattle.std.specs.List.{All, list_any, position_or_len}
use Rattle.std.proofs.lemmas.Bool.Decides.{nat_tests}
use Rattle.std.proofs.lemmas.List.{length-take-le, take_more}
use Rattle.std.proofs.lemmas.List.Elements.{All-append, All-from_recursion}
use Rattle.std.proofs.lemmas.Slice.Eq.{bytes_eq-Decides}
use Rattle.rb_tags.specs.Names.{number_of_name}
use Rattle.rb_num.specs.Interval.{Interval}
use Rattle.rb_flat.specs.Joint as Kinds
use Rattle.rb_flat.specs.Joint.{Kind}
use Rattle.rb_flat.specs.Choice.{IsOrdered}
use Rattle.rb_joint.specs.Any.{kind_of}
use Rattle.rb_srdf.specs.declared.srdf.JointNumbers.{JointNumbers}
use Rattle.rb_srdf.specs.declared.srdf.Virtual.{Virtual}
use Rattle.rb_srdf.specs.Srdf.{names_of_virtuals}
use Rattle.rb_tree.specs.declared.columns.Start.{Start}
use Rattle.rb_tree.specs.declared.faults.TreeKind.{TreeKind}
use Rattle.rb_tree.specs.declared.faults.TreeKind.TheVariants.{UnknownName}
use Rattle.rb_tree.specs.declared.robot.Body.{Body}
use Rattle.rb_tree.specs.declared.robot.Mimic.{Mimic}
use Rattle.rb_tree.specs.declared.states.Entry.{Entry}
use Rattle.rb_tree.specs.Columns.{body_at, leader_at, mimic_or, start_behind, AreStarts}
use Rattle.rb_tree.specs.Groups.{body_of_joint, is_virtual}
use Rattle.rb_tree.specs.States.{entries_unless, entries_from, body_entries, value_entries}
use Rattle.rb_tree.proofs.ListLaws.{IsListOf-get}
use Rattle.rb_tree.proofs.ColumnLaws.{entry_small}

-- ---- a body
same_ok : (x y : List Interval) → (let r : Result (List Interval) TreeKind = Ok x in r) ≡ Ok y → x ≡ y
same_ok x y h = cc

-- the numbers of a joint that follows another are passed over
passed_over : (k : Kind) (mimic : Mimic) (numbers values : List Interval) → entries_unless k (Some mimic) numbers ≡ Ok values → values ≡ []
passed_over Kinds.Fixed mimic numbers values h = sym (same_ok [] values h)
passed_over Kinds.Revolute mimic numbers values h = sym (same_ok [] values h)
passed_over Kinds.Continuous mimic numbers values h = sym (same_ok [] values h)
passed_over Kinds.Prismatic mimic numbers values h = sym (same_ok [] values h)
passed_over Kinds.Planar mimic numbers values h = sym (same_ok [] values h)
passed_over Kinds.Free mimic numbers values h = sym (same_ok [] values h)

-- where the entries of a body stand that follows no other
own_place : (bodies : List Body) (i : ℕ) (body : Body) (m : Option Mimic) → body_at bodies i ≡ Some body → body.mimic ≡ m → mimic_or m i ≡ i → leader_at bodies i ≡ i
own_place bodies i body m is follows own =
    ap (λ (o : Option Body). option_map_or (λ (b : Body). mimic_or b.mimic i) o i) is ∙ ap (λ f. mimic_or f i) follows ∙ own

same_entries : (bodies : List Body) (i : ℕ) (values : List Interval) (body : Body) (m : Option Mimic) (k : Kind) (numbers : List Interval) → body_at bodies i ≡ Some body → body.mimic ≡ m →
    entries_unless k m numbers ≡ Ok values → entries_from (start_behind bodies (i - 1)).entry values ≡ entries_from (start_behind bodies (leader_at bodies i - 1)).entry values
same_entries bodies i values body None k numbers is follows given =
    ap (λ j. entries_from (start_behind bodies (j - 1)).entry values) (sym (own_place bodies i body None is follows refl))
same_entries bodies i values body (Some mimic) k numbers is follows given =
    let none : values ≡ [] = passed_over k mimic numbers values given in
    ap (entries_from (start_behind bodies (i - 1)).entry) none ∙ sym (ap (entries_from (start_behind bodies (leader_at bodies i - 1)).entry) none)

abbrev pub made : List Entry → Result (List Entry) TreeKind
made entries = Ok entries

module _ (bodies : List Body) (i : ℕ) (numbers : List Interval) (body : Body) (is : body_at bodies i ≡ Some body) where
  pub body_gives : (values : List Interval) (place : ℕ) → place ≡ (start_behind bodies (i - 1)).entry → entries_unless (kind_of body.joint) body.mimic numbers ≡ Ok values →
      made (entries_from place values) ≡ body_entries bodies i numbers (body_at bodies i)
  body_gives values place at given =
      rw is (rw given (ap Ok (ap (λ p. entries_from p values) at ∙ same_entries bodies i values body body.mimic (kind_of body.joint) numbers is refl given)))

  pub body_refuses : (kind : TreeKind) → entries_unless (kind_of body.joint) body.mimic numbers ≡ Err kind → (let r : Result (List Entry) TreeKind = Err kind in r) ≡ body_entries bodies i numbers (body_at bodies i)
  body_refuses kind given = rw is (rw given refl)

-- where a body's entries begin
pub start_read : (bodies : List Body) (starts : List Start) (k : ℕ) (d : Start) → AreStarts bodies starts → k < length bodies → get_or starts k d ≡ start_behind bodies k
start_read bodies starts k d are h = IsListOf-get (length bodies + 1) (start_behind bodies) starts k d are (omega arith)

pub start_low : (bodies : List Body) (k : ℕ) → k ≤ 256 → (start_behind bodies k).entry < 2 ^ 32
start_low bodies k h = omega (arith, entry_small bodies k)

-- ---- names
less_first : (n len : ℕ) (b : Bool) → nat_lt (cond (not b) (1 + n) 0) (suc len) ≡ (b || nat_lt n len)
less_first n len true = grind (arith, nat_tests)
less_first n len false = grind (arith, nat_tests)

found_any : {X : Type 0} (p : X → Bool) (xs : List X) → nat_lt (position_or_len p xs) (length xs) ≡ list_any p xs
found_any p [] = refl
found_any p (x ∷ xs) = less_first (position_or_len p xs) (length xs) (p x) ∙ ap (λ b. p x || b) (found_any p xs)

chosen : (b : Bool) (n : ℕ) → is_some (cond b (Some n) None) ≡ b
chosen true n = refl
chosen false n = refl

either_way : (a b : List ℕ) → bytes_eq a b ≡ bytes_eq b a
either_way a b = by (bytes_eq a b) (bytes_eq b a) refl refl
  where
    by : (s t : Bool) → bytes_eq a b ≡ s → bytes_eq b a ≡ t → s ≡ t
    by true true p q = refl
    by false false p q = refl
    by true false p q = absurd (true≢false (sym ((bytes_eq-Decides b a).1 (sym ((bytes_eq-Decides a b).0 p))) ∙ q))
    by false true p q = absurd (true≢false (sym ((bytes_eq-Decides a b).1 (sym ((bytes_eq-Decides b a).0 q))) ∙ p))

named_any : (virtuals : List Virtual) (name : List ℕ) → list_any (bytes_eq name) (names_of_virtuals virtuals) ≡ is_virtual virtuals name
unfolding is_virtual
named_any [] name = refl
named_any (virtual ∷ virtuals) name =
    ap (λ b. b || list_any (bytes_eq name) (names_of_virtuals virtuals)) (either_way name virtual.name) ∙ ap (λ b. bytes_eq virtual.name name || b) (named_any virtuals name)

-- a name is in the set of their names
pub virtual_is : (virtuals : List Virtual) (names : List (List ℕ)) (name : List ℕ) → names ≡ names_of_virtuals virtuals → is_some (number_of_name names name) ≡ is_virtual virtuals name
unfolding number_of_name
virtual_is virtuals names name e =
    chosen (nat_lt (position_or_len (bytes_eq name) names) (length names)) (position_or_len (bytes_eq name) names) ∙ found_any (bytes_eq name) names
    ∙ ap (list_any (bytes_eq name)) e ∙ named_any virtuals name

module _ (bodies : List Body) (virtuals : List Virtual) (value : JointNumbers) (none : body_of_joint bodies value.joint ≡ None) where
  pub virtual_gives : is_virtual virtuals value.joint ≡ true → made [] ≡ value_entries bodies virtuals value
  unfolding value_entries
  virtual_gives h = rw (none, h) refl

  pub unknown_gives : is_virtual virtuals value.joint ≡ false → (let r : Result (List Entry) TreeKind = Err UnknownName in r) ≡ value_entries bodies virtuals value
  unfolding value_entries
  unknown_gives h = rw (none, h) refl

pub none_from : (place : ℕ) (values : List Interval) → values ≡ [] → made (entries_from place values) ≡ made []
none_from place values e = ap (λ vs. made (entries_from place vs)) e

-- ---- values put behind one another
entries_push : (place : ℕ) (xs : List Interval) (y : Interval) → entries_from place (xs ++ y ∷ []) ≡ entries_from place xs ++ record { place = place + length xs; value = y } ∷ []
entries_push place [] y = let e : place ≡ place + 0 = omega arith in ap (λ p. record { place = p; value = y } ∷ []) e
entries_push place (x ∷ xs) y =
    let e : place + 1 + length xs ≡ place + length (x ∷ xs) = omega arith in
    ap (λ es. record { place = place; value = x } ∷ es) (entries_push (place + 1) xs y ∙ ap (λ p. entries_from (place + 1) xs ++ record { place = p; value = y } ∷ []) e)

values_more : (place k : ℕ) (values : List Interval) (x : Interval) → k < length values → x ≡ get_or values k x →
    entries_from place (take (k + 1) values) ≡ entries_from place (take k values) ++ record { place = place + k; value = x } ∷ []
values_more place k values x h is =
    let size : length (take k values) ≡ k = length-take-le k values (omega arith) in
    ap (entries_from place) (take_more values k x h ∙ ap (λ y. take k values ++ y ∷ []) (sym is)) ∙ entries_push place (take k values) x
    ∙ ap (λ n. entries_from place (take k values) ++ record { place = place + n; value = x } ∷ []) size

pub ordered_more : (k : ℕ) (values : List Interval) (x : Interval) → k < length values → x ≡ get_or values k x → IsOrdered x → All IsOrdered (take k values) → All IsOrdered (take (k + 1) values)
ordered_more k values x h is ordered all =
    let P : List Interval → Type 0 = λ vs. All IsOrdered vs in
    subst P (sym (take_more values k x h ∙ ap (λ y. take k values ++ y ∷ []) (sym is))) (All-append IsOrdered (take k values) (x ∷ []) all (All-from_recursion IsOrdered (x ∷ []) (ordered, tt)))

pub put_more : (place k : ℕ) (values : List Interval) (x : Interval) (before now after : List Entry) → k < length values → x ≡ get_or values k x → now ≡ before ++ entries_from place (take k values) →
    after ≡ now ++ record { place = place + k; value = x } ∷ [] → after ≡ before ++ entries_from place (take (k + 1) values)
put_more place k values x before now after h is done pushed =
    let one : List Entry = record { place = place + k; value = x } ∷ [] in
    pushed ∙ ap (λ es. es ++ one) done ∙ append_assoc before (entries_from place (take k values)) one ∙ ap (λ es. before ++ es) (sym (values_more place k values x h is))
