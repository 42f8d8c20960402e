-- The states that were read are those that elements describe.
use Rattle.std.proofs.Common.{◌≡◌, ◌≢◌, ◌⊎◌, inl, inr, ℕ, true, false, List, [], ◌∷◌, Option, Some, None, Ok, Err, refl, sym, ◌∙◌, subst}
use Rattle.std.specs.Prelude.{Any, bytes_eq, codes, filter}
use Rattle.std.specs.List.{AllZip, AllByRecursion, list_any}
use Rattle.std.proofs.lemmas.Bool.{and_parts}
use Rattle.rb_num.specs.Interval.{Interval}
use Rattle.rb_text.specs.Bracket.{bracket_of}
use Rattle.rb_tags.specs.Elements.{Element, attribute}
use Rattle.rb_tags.specs.Words.{words}
use Rattle.rb_tags.specs.InOrder.{SaysNone, ◌when◌}
use Rattle.rb_result.proofs.Results.{then-ok, unless-ok, told-ok, told-err}
use Rattle.rb_tags.proofs.Obeying.{Obeys, obeys-ok, obeys-err, obeys-next, obeys-value, obeys-either, obeys-same, obeys-said, obeys-unless}
use Rattle.rb_srdf.specs.declared.faults.SrdfFaultKind.{SrdfFaultKind}
use Rattle.rb_srdf.specs.declared.faults.SrdfFaultKind.TheVariants.{NoName, NameTwice, BadNumber}
use Rattle.rb_srdf.specs.declared.srdf.JointNumbers.{JointNumbers}
use Rattle.rb_srdf.specs.declared.srdf.GroupState.{GroupState}
use Rattle.rb_srdf.specs.Names.{name_in}
use Rattle.rb_srdf.specs.ReadStates.{as_bad_number, number_in, numbers_after, numbers_in, numbers_said, value_in, values_after, all_named, joints_inside, new_state, state_of}
use Rattle.rb_srdf.specs.StateNames.{StateName, is_state, name_of_state, names_of_states}
use Rattle.rb_tags.proofs.Numbering.{list_any-map}
use Rattle.rb_srdf.specs.Profile.{Gives, HasName, IsNumber, IsValue, IsState}
use Rattle.rb_srdf.specs.Refusals.{Lacks, IsStateAgain, LacksNumbers, state_refusals}
use Rattle.rb_srdf.proofs.GivenLaws.{given-says, given-read, given-obeys, is-text, same-text, one-text}
use Rattle.rb_srdf.proofs.AgainLaws.{is_named, fails-not}
use Rattle.rb_srdf.proofs.Collects.{IsCollect, collect-says, collect-read, collect-obeys}
use Rattle.rb_srdf.proofs.Lists.{any-join, any-cases, any-none, any-weaker, any-filter, filter-any, zip-any, any-zip}

-- numbers

number-says : (word : List ℕ) (v : Interval) → number_in word ≡ Ok v → IsNumber word v
unfolding number_in
number-says word v h = told-ok as_bad_number (bracket_of word) v h

number-read : (word : List ℕ) (v : Interval) → IsNumber word v → number_in word ≡ Ok v
unfolding number_in
number-read word v h = rw h refl

number-kind : (word : List ℕ) (k : SrdfFaultKind) → number_in word ≡ Err k → BadNumber ≡ k
unfolding number_in
number-kind word k h = (told-err as_bad_number (bracket_of word) k h).2

number-obeys : (word : List ℕ) → Obeys (BadNumber when SaysNone (IsNumber word) ∷ []) (number_in word)
number-obeys word = obeys-said BadNumber (IsNumber word) (number_in word) (number-says word) (number-read word) (number-kind word)

numbers_collect : IsCollect numbers_after number_in
unfolding numbers_after
numbers_collect = record { none = λ xs. refl; more = λ xs y ys. refl }

all-numbers : (ws : List (List ℕ)) → AllByRecursion (λ word. Obeys (BadNumber when SaysNone (IsNumber word) ∷ []) (number_in word)) ws
all-numbers [] = tt
all-numbers (word ∷ ws) = (number-obeys word, all-numbers ws)

-- what a `value` says
record SaysNumbers (said : Option (List ℕ)) (numbers : List Interval) : Type 0 where
  text : List ℕ
  says : said ≡ Some text
  some : words text ≢ []
  are : AllZip IsNumber (words text) numbers

words-say : (ws : List (List ℕ)) (numbers : List Interval) → numbers_in ws ≡ Ok numbers → (ws ≢ []) × AllZip IsNumber ws numbers
unfolding numbers_in
words-say [] numbers h = absurd cc
words-say (word ∷ ws) numbers h =
    let p = collect-says numbers_collect IsNumber number-says [] (word ∷ ws) numbers h in
    (λ e. absurd cc, subst (AllZip IsNumber (word ∷ ws)) (sym p.1) p.2)

words-read : (ws : List (List ℕ)) (numbers : List Interval) → ws ≢ [] → AllZip IsNumber ws numbers → numbers_in ws ≡ Ok numbers
unfolding numbers_in
words-read [] numbers some each = absurd (some refl)
words-read (word ∷ ws) numbers some each = collect-read numbers_collect IsNumber number-read [] (word ∷ ws) numbers each

abbrev LacksWords : List (List ℕ) → Type 0
LacksWords ws = (ws ≡ []) ⊎ Any (λ word. SaysNone (IsNumber word)) ws

words-obey : (ws : List (List ℕ)) → Obeys (BadNumber when LacksWords ws ∷ []) (numbers_in ws)
unfolding numbers_in
words-obey [] = obeys-err (BadNumber when LacksWords [] ∷ []) BadNumber (inl (inl refl, refl))
words-obey (word ∷ ws) =
    obeys-same inr
    (λ h. elim h [ inl e ↦ absurd cc | inr p ↦ p ])
    (collect-obeys numbers_collect BadNumber (λ w. SaysNone (IsNumber w)) [] (word ∷ ws) (all-numbers (word ∷ ws)))

numbers-say : (said : Option (List ℕ)) (numbers : List Interval) → numbers_said said ≡ Ok numbers → SaysNumbers said numbers
numbers-say None numbers h = absurd cc
numbers-say (Some text) numbers h = let p = words-say (words text) numbers h in record { text = text; says = refl; some = p.0; are = p.1 }

numbers-read : (said : Option (List ℕ)) (numbers : List Interval) → SaysNumbers said numbers → numbers_said said ≡ Ok numbers
numbers-read said numbers s = rw s.says (words-read (words s.text) numbers s.some s.are)

numbers-obey : (said : Option (List ℕ)) → Obeys (BadNumber when ((text : List ℕ) → said ≡ Some text → LacksWords (words text)) ∷ []) (numbers_said said)
numbers-obey None = obeys-err (BadNumber when ((text : List ℕ) → None ≡ Some text → LacksWords (words text)) ∷ []) BadNumber (inl ((λ text e. absurd cc), refl))
numbers-obey (Some text) =
    obeys-same
    (λ h other e. let same : text ≡ other = cc in subst (λ t. LacksWords (words t)) same h)
    (λ h. h text refl)
    (words-obey (words text))

-- the numbers of a joint

value-says : (element : Element) (value : JointNumbers) → value_in element ≡ Ok value → IsValue element value
unfolding value_in
value-says element value h =
    let a = then-ok (name_in (codes "name") element) _ value h in
    let b = then-ok (numbers_said (attribute (codes "value") element)) _ value a.2 in
    let s = numbers-say (attribute (codes "value") element) b.0 b.1 in
    let made : (let v : JointNumbers = record { joint = a.0; numbers = b.0 } in v) ≡ value = cc in
    subst (IsValue element) made (record { joint = given-says (codes "name") element a.0 a.1; text = s.text; says = s.says; some = s.some; numbers = s.are })

value-read : (element : Element) (value : JointNumbers) → IsValue element value → value_in element ≡ Ok value
unfolding value_in
value-read element value s =
    rw (
      given-read (codes "name") element value.joint s.joint,
      numbers-read (attribute (codes "value") element) value.numbers (record { text = s.text; says = s.says; some = s.some; are = s.numbers }),
    ) refl

value-obeys : (element : Element) (name : List ℕ) → HasName element name → Obeys (BadNumber when LacksNumbers element ∷ []) (value_in element)
unfolding value_in
value-obeys element name has =
    rw (given-read (codes "name") element name has)
    (obeys-value (numbers_said (attribute (codes "value") element)) (λ numbers. record { joint = name; numbers = numbers })
    (numbers-obey (attribute (codes "value") element)))

values_collect : IsCollect values_after value_in
unfolding values_after
values_collect = record { none = λ xs. refl; more = λ xs y ys. refl }

-- names of the joints of a state

abbrev IsNamed : Element → Type 0
IsNamed element = (name : List ℕ) × HasName element name

named-say : (elements : List Element) (r : Unit {0}) → all_named elements ≡ Ok r → AllByRecursion IsNamed elements
unfolding all_named
named-say [] r h = tt
named-say (element ∷ elements) r h =
    let p = then-ok (name_in (codes "name") element) _ r h in
    ((p.0, given-says (codes "name") element p.0 p.1), named-say elements r p.2)

named-read : (elements : List Element) (values : List JointNumbers) → AllZip IsValue elements values → all_named elements ≡ Ok tt
unfolding all_named
named-read [] values each = refl
named-read (element ∷ elements) [] each = absurd each
named-read (element ∷ elements) (value ∷ values) each = rw (given-read (codes "name") element value.joint each.0.joint) (named-read elements values each.1)

named-obey : (elements : List Element) → Obeys (NoName when Any (Lacks (codes "name")) elements ∷ []) (all_named elements)
unfolding all_named
named-obey [] = obeys-ok (NoName when Any (Lacks (codes "name")) [] ∷ []) tt (any-none (Lacks (codes "name")), tt)
named-obey (element ∷ elements) =
    let P = Lacks (codes "name") in
    obeys-same
    (any-join P element elements)
    (any-cases P element elements)
    (obeys-either
    (obeys-next (name_in (codes "name") element) _ (given-obeys (codes "name") element) (λ name e. named-obey elements)))

values-obey : (elements : List Element) → AllByRecursion IsNamed elements → Obeys (BadNumber when Any LacksNumbers elements ∷ []) (values_after [] elements)
values-obey elements named = collect-obeys values_collect BadNumber LacksNumbers [] elements (each elements named)
  where
    each : (elements : List Element) → AllByRecursion IsNamed elements → AllByRecursion (λ e. Obeys (BadNumber when LacksNumbers e ∷ []) (value_in e)) elements
    each [] named = tt
    each (element ∷ elements) named = (value-obeys element named.0.0 named.0.1, each elements named.1)

-- a state with the group and the name of an earlier one

module _ (before : List Element) (states : List GroupState) (each : AllZip IsState (filter (is_named (codes "group_state")) before) states) (element : Element) (alike : element.tag.name ≡ codes "group_state") (name group : List ℕ) (has : HasName element name) (has_group : Gives (codes "group") element group) where
  abbrev HasBoth : Element → Type 0
  HasBoth e = HasName e name × Gives (codes "group") e group

  again-says : list_any (is_state group name) (names_of_states states) ≡ true → IsStateAgain before element
  again-says h =
      any-weaker (λ e. (is_named (codes "group_state") e ≡ true) × HasBoth e) _ before
      (λ e p. (is-text e.tag.name (codes "group_state") p.0 ∙ sym alike, record { text = name; first = p.1.0; second = has }, record { text = group; first = p.1.1; second = has_group }))
      (any-filter HasBoth (is_named (codes "group_state")) before
      (zip-any IsState (λ s. is_state group name (name_of_state s)) HasBoth
      (λ e s r same. let both = and_parts (bytes_eq group s.group) (bytes_eq name s.name) same in (subst (HasName e) (sym (is-text name s.name both.1)) r.name, subst (Gives (codes "group") e) (sym (is-text group s.group both.0)) r.group))
      (filter (is_named (codes "group_state")) before) states each (sym (list_any-map name_of_state (is_state group name) states) ∙ h)))

  again-read : IsStateAgain before element → list_any (is_state group name) (names_of_states states) ≡ true
  again-read h =
      list_any-map name_of_state (is_state group name) states
      ∙ any-zip IsState (λ s. is_state group name (name_of_state s)) HasBoth
      (λ e s r both. rw (same-text group s.group (one-text (codes "group") e group s.group both.1 r.group), same-text name s.name (one-text (codes "name") e name s.name both.0 r.name)) refl)
      (filter (is_named (codes "group_state")) before) states each
      (filter-any HasBoth (is_named (codes "group_state")) before
      (any-weaker _ (λ e. (is_named (codes "group_state") e ≡ true) × HasBoth e) before
      (λ e p. (same-text e.tag.name (codes "group_state") (p.0 ∙ alike), (subst (HasName e) (one-text (codes "name") element p.1.text name p.1.second has) p.1.first, subst (Gives (codes "group") e) (one-text (codes "group") element p.2.text group p.2.second has_group) p.2.first)))
      h))

  new-obeys : Obeys (NameTwice when IsStateAgain before element ∷ []) (new_state (names_of_states states) group name)
  unfolding new_state
  new-obeys =
      obeys-unless NameTwice (IsStateAgain before element) [] (list_any (is_state group name) (names_of_states states)) (Ok tt) again-says
      (fails-not (list_any (is_state group name) (names_of_states states)) (IsStateAgain before element) again-read) (λ _. obeys-ok [] tt tt)

-- a state

pub state-says : (names : List StateName) (element : Element) (state : GroupState) → state_of names element ≡ Ok state → IsState element state × (list_any (is_state state.group state.name) names ≡ false)
unfolding state_of new_state
state-says names element state h =
    let a = then-ok (name_in (codes "name") element) _ state h in
    let b = then-ok (name_in (codes "group") element) _ state a.2 in
    let c = then-ok (all_named (joints_inside element)) _ state b.2 in
    let d = then-ok (new_state names b.0 a.0) _ state c.2 in
    let e = then-ok (values_after [] (joints_inside element)) _ state d.2 in
    let new = unless-ok (list_any (is_state b.0 a.0) names) NameTwice (Ok tt) d.0 d.1 in
    let values = collect-says values_collect IsValue value-says [] (joints_inside element) e.0 e.1 in
    let made : (let s : GroupState = record { name = a.0; group = b.0; place = element.tag.place; values = e.0 } in s) ≡ state = cc in
    let Whole : GroupState → Type 0 = λ s. IsState element s × (list_any (is_state s.group s.name) names ≡ false) in
    subst Whole made (
      record {
        name = given-says (codes "name") element a.0 a.1;
        group = given-says (codes "group") element b.0 b.1;
        place = refl;
        values = subst (AllZip IsValue (joints_inside element)) (sym values.1) values.2;
      },
      new.0,
    )

pub state-read : (names : List StateName) (element : Element) (state : GroupState) → IsState element state → list_any (is_state state.group state.name) names ≡ false → state_of names element ≡ Ok state
unfolding state_of new_state
state-read names element state s new =
    rw (
      given-read (codes "name") element state.name s.name,
      given-read (codes "group") element state.group s.group,
      named-read (joints_inside element) state.values s.values,
      new,
      collect-read values_collect IsValue value-read [] (joints_inside element) state.values s.values,
      ← s.place,
    ) refl

pub state-obeys : (before : List Element) (states : List GroupState) → AllZip IsState (filter (is_named (codes "group_state")) before) states → (element : Element) → element.tag.name ≡ codes "group_state" → Obeys (state_refusals before element) (state_of (names_of_states states) element)
unfolding state_of
state-obeys before states each element is =
    let joints = joints_inside element in
    obeys-either
    (obeys-next (name_in (codes "name") element) _ (given-obeys (codes "name") element)
    (λ name n. obeys-either
    (obeys-next (name_in (codes "group") element) _ (given-obeys (codes "group") element)
    (λ group g. obeys-next (all_named joints) _ (named-obey joints)
    (λ _ named. obeys-next (new_state (names_of_states states) group name) _
    (new-obeys before states each element is name group (given-says (codes "name") element name n) (given-says (codes "group") element group g))
    (λ _ new. obeys-value (values_after [] joints) _ (values-obey joints (named-say joints _ named))))))))
