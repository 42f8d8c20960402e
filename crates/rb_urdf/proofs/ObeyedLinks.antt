-- Names, numbers and links are refused as the refusals say.
use Rattle.std.proofs.Common.{◌≡◌, inl, inr, ℕ, suc, ℤ, Bool, true, false, ◌||◌, List, [], ◌∷◌, ◌++◌, map, get_or, slice_get, Option, Some, None, Result, Ok, Err, refl, sym, ap, ◌∙◌, subst, arith, true≢false}
use Rattle.std.specs.Prelude.{codes, pos, int_lt, ◌<ℤ◌, bytes_eq}
use Rattle.std.specs.List.{AllZip, list_any}
use Rattle.std.proofs.lemmas.Int.{ints}
use Rattle.std.proofs.lemmas.List.Folds.{list_any_at}
use Rattle.std.proofs.lemmas.Option.{same_Some, slice_get_within, get_or_from_slice_get}
use Rattle.std.proofs.lemmas.Slice.Eq.{bytes_eq-Decides}
use Rattle.rb_num.specs.Interval.{Interval, zero_interval}
use Rattle.rb_text.specs.Bracket.{bracket_of}
use Rattle.rb_text.specs.Three.{three_of}
use Rattle.rb_tags.specs.Elements.{Element, child, child_in, attribute_in, given}
use Rattle.rb_tags.proofs.Folds.{IsFold}
use Rattle.rb_result.specs.Steps.{◌>>=◌, placed}
use Rattle.rb_result.proofs.Results.{then-err, placed-ok, found-err, told-err, same_ok}
use Rattle.rb_urdf.specs.declared.robot.UrdfLink.{UrdfLink}
use Rattle.rb_urdf.specs.declared.faults.UrdfFault.{UrdfFault}
use Rattle.rb_urdf.specs.declared.faults.UrdfFaultKind.{UrdfFaultKind}
use Rattle.rb_urdf.specs.declared.faults.UrdfFaultKind.TheVariants.{NoName, NameTwice, BadNumber, NegativeMass}
use Rattle.rb_urdf.specs.Faults.{fault_at}
use Rattle.rb_urdf.specs.Robot.{names_of_links}
use Rattle.rb_urdf.specs.Numbers.{zeros, number_in, three_in, said_or, number_or, three_or, origin_of, as_bad_number}
use Rattle.rb_urdf.specs.Names.{new_name, name_of, name_after}
use Rattle.rb_urdf.specs.Links.{six_of, inertial_of, link_of, links_after}
use Rattle.rb_urdf.specs.Profile.{SaysNumber, SaysThree, SaysSix, HasName, IsLink}
use Rattle.rb_urdf.specs.Refusals.{LacksName, HasNameAgain, HasBadOrigin, LinkHasBadNumber, HasNegativeMass, link_refusals, in_order}
use Rattle.rb_tags.specs.InOrder.{SaysNone, Refusal, ◌when◌, at_place}
use Rattle.rb_urdf.proofs.NumberLaws.{number_or-says, number_or-read, three_or-says, three_or-read}
use Rattle.rb_urdf.proofs.NameLaws.{name-says, name-read}
use Rattle.rb_urdf.proofs.LinkLaws.{six-says, six-read, link-says}
use Rattle.rb_urdf.proofs.Zips.{beside, beside_left, push, slice_get-of_map, slice_get-to_map}
use Rattle.rb_tags.proofs.Obeying.{Obeys, obeys-ok, obeys-then, obeys-next, obeys-value, obeys-either, obeys-said, obeys-unless, obeys-placed}

-- numbers

number_in-kind : (text : List ℕ) (k : UrdfFaultKind) → number_in text ≡ Err k → BadNumber ≡ k
unfolding number_in
number_in-kind text k h = (told-err as_bad_number (bracket_of text) k h).2

three_in-kind : (text : List ℕ) (k : UrdfFaultKind) → three_in text ≡ Err k → BadNumber ≡ k
unfolding three_in
three_in-kind text k h = (told-err as_bad_number (three_of text) k h).2

said-kind : {A : Type 0} (default : A) (read : List ℕ → Result A UrdfFaultKind) → ((text : List ℕ) (k : UrdfFaultKind) → read text ≡ Err k → BadNumber ≡ k) → (said : Option (List ℕ)) (k : UrdfFaultKind) → said_or default read said ≡ Err k → BadNumber ≡ k
said-kind default read each None k h = absurd cc
said-kind default read each (Some text) k h = each text k h

number-kind : (default : Interval) (key : List ℕ) (element : Option Element) (k : UrdfFaultKind) → number_or default key element ≡ Err k → BadNumber ≡ k
unfolding number_or
number-kind default key element k h = said-kind default number_in number_in-kind (attribute_in key element) k h

three-kind : (default : List Interval) (key : List ℕ) (element : Option Element) (k : UrdfFaultKind) → three_or default key element ≡ Err k → BadNumber ≡ k
unfolding three_or
three-kind default key element k h = said-kind default three_in three_in-kind (attribute_in key element) k h

pub number-obeys : (default : Interval) (key : List ℕ) (element : Option Element) → Obeys (BadNumber when SaysNone (SaysNumber default key element) ∷ []) (number_or default key element)
number-obeys default key element =
    obeys-said BadNumber (SaysNumber default key element) (number_or default key element) (number_or-says default key element) (number_or-read default key element) (number-kind default key element)

pub three-obeys : (default : List Interval) (key : List ℕ) (element : Option Element) → Obeys (BadNumber when SaysNone (SaysThree default key element) ∷ []) (three_or default key element)
three-obeys default key element =
    obeys-said BadNumber (SaysThree default key element) (three_or default key element) (three_or-says default key element) (three_or-read default key element) (three-kind default key element)

pub origin-obeys : (origin : Option Element) → Obeys (BadNumber when HasBadOrigin origin ∷ []) (origin_of origin)
unfolding origin_of
origin-obeys origin =
    obeys-either (obeys-next (three_or zeros (codes "xyz") origin) _ (three-obeys zeros (codes "xyz") origin)
    (λ xyz _. obeys-value (three_or zeros (codes "rpy") origin) _ (three-obeys zeros (codes "rpy") origin)))

-- neither of two steps has another fault
no-other : {A B : Type 0} (r : Result A UrdfFaultKind) (f : A → Result B UrdfFaultKind) (kind : UrdfFaultKind) → ((k : UrdfFaultKind) → r ≡ Err k → kind ≡ k) → ((x : A) (k : UrdfFaultKind) → f x ≡ Err k → kind ≡ k) → (k : UrdfFaultKind) → (r >>= f) ≡ Err k → kind ≡ k
no-other r f kind first second k h = elim (then-err r f k h) [ inl e ↦ first k e | inr p ↦ second p.0 k p.2 ]

six-kind : (inertia : Option Element) (k : UrdfFaultKind) → six_of inertia ≡ Err k → BadNumber ≡ k
unfolding six_of
six-kind inertia =
    let number : (key : List ℕ) → Result Interval UrdfFaultKind = λ key. number_or zero_interval key inertia in
    let kind : (key : List ℕ) (k : UrdfFaultKind) → number key ≡ Err k → BadNumber ≡ k = λ key. number-kind zero_interval key inertia in
    no-other (number (codes "ixx")) _ BadNumber (kind (codes "ixx"))
    (λ ixx. no-other (number (codes "ixy")) _ BadNumber (kind (codes "ixy"))
    (λ ixy. no-other (number (codes "ixz")) _ BadNumber (kind (codes "ixz"))
    (λ ixz. no-other (number (codes "iyy")) _ BadNumber (kind (codes "iyy"))
    (λ iyy. no-other (number (codes "iyz")) _ BadNumber (kind (codes "iyz"))
    (λ iyz. no-other (number (codes "izz")) _ BadNumber (kind (codes "izz"))
    (λ izz k h. absurd cc))))))

six-obeys : (inertia : Option Element) → Obeys (BadNumber when SaysNone (SaysSix inertia) ∷ []) (six_of inertia)
six-obeys inertia = obeys-said BadNumber (SaysSix inertia) (six_of inertia) (six-says inertia) (six-read inertia) (six-kind inertia)

-- names

name-kind : (element : Element) (k : UrdfFaultKind) → name_of element ≡ Err k → NoName ≡ k
unfolding name_of
name-kind element k h = (found-err (given (codes "name") element) NoName k h).0

pub name-obeys : (element : Element) → Obeys (NoName when LacksName element ∷ []) (name_of element)
name-obeys element = obeys-said NoName (HasName element) (name_of element) (name-says element) (name-read element) (name-kind element)

pub one-name : (element : Element) (a b : List ℕ) → HasName element a → HasName element b → a ≡ b
one-name element a b p q = same_Some a b (sym p.says ∙ q.says)

any-at : (name : List ℕ) (names : List (List ℕ)) → list_any (bytes_eq name) names ≡ true → (n : ℕ) × (slice_get names n ≡ Some name)
any-at name [] h = absurd cc
any-at name (other ∷ names) h = by (bytes_eq name other) refl h (any-at name names)
  where
    by : (b : Bool) → bytes_eq name other ≡ b → (b || list_any (bytes_eq name) names) ≡ true → (list_any (bytes_eq name) names ≡ true → (n : ℕ) × (slice_get names n ≡ Some name)) → (n : ℕ) × (slice_get (other ∷ names) n ≡ Some name)
    by true e h rest = (0, ap Some (sym ((bytes_eq-Decides name other).0 e)))
    by false e h rest = let p = rest h in (suc p.0, p.1)

any-there : (name : List ℕ) (names : List (List ℕ)) (n : ℕ) → slice_get names n ≡ Some name → list_any (bytes_eq name) names ≡ true
any-there name names n h =
    list_any_at (bytes_eq name) names n name (slice_get_within names n name h)
    ((bytes_eq-Decides name (get_or names n name)).1 (sym (get_or_from_slice_get names n name name h)))

-- the elements before have these names
module _ {A : Type 0} (name : A → List ℕ) (R : Element → A → Type 0) (named : (element : Element) (x : A) → R element x → HasName element (name x)) (before : List Element) (xs : List A) (each : AllZip R before xs) (element : Element) where
  name-again : (said : List ℕ) → HasName element said → list_any (bytes_eq said) (map name xs) ≡ true → HasNameAgain before element
  name-again said is h =
      let at = any-at said (map name xs) h in
      let x = slice_get-of_map name xs at.0 said at.1 in
      let e = beside_left R before xs each at.0 x.0 x.1 in
      record { name = said; says = is; number = at.0; earlier = e.0; is = e.1; same = subst (HasName e.0) x.2 (named e.0 x.0 e.2) }

  name-new : (said : List ℕ) → HasName element said → list_any (bytes_eq said) (map name xs) ≡ false → ¬ HasNameAgain before element
  name-new said is h = λ again.
      let x = beside R before xs each again.number again.earlier again.is in
      let same : name x.0 ≡ said = one-name again.earlier (name x.0) again.name (named again.earlier x.0 x.2) again.same ∙ one-name element again.name said again.says is in
      true≢false (sym (any-there said (map name xs) again.number (slice_get-to_map name xs again.number x.0 x.1 ∙ ap Some same)) ∙ h)

  pub name_after-obeys : Obeys (NoName when LacksName element ∷ NameTwice when HasNameAgain before element ∷ []) (name_after (map name xs) element)
  unfolding name_after new_name
  name_after-obeys =
      obeys-next (name_of element) _ (name-obeys element)
      (λ said is. obeys-unless NameTwice (HasNameAgain before element) [] (list_any (bytes_eq said) (map name xs)) (Ok said) (name-again said (name-says element said is)) (name-new said (name-says element said is)) (λ _. obeys-ok [] said tt))

-- links

below : (z : ℤ) → int_lt z (pos 0) ≡ true → z <ℤ pos 0
below z h = grind (arith, ints)

not-below : (z : ℤ) → int_lt z (pos 0) ≡ false → z <ℤ pos 0 → ⊥
not-below z h less = grind (arith, ints)

mass-not-negative : (link : Element) (mass : Interval) → number_or zero_interval (codes "value") (child_in (codes "mass") (child (codes "inertial") link)) ≡ Ok mass → int_lt mass.lo (pos 0) ≡ false → ¬ HasNegativeMass link
mass-not-negative link mass is h = λ bad.
    let other = number_or-read zero_interval (codes "value") (child_in (codes "mass") (child (codes "inertial") link)) bad.mass bad.says in
    not-below mass.lo h (subst (λ (v : Interval). v.lo <ℤ pos 0) (same_ok bad.mass mass (sym other ∙ is)) bad.negative)

inertial-obeys : (link : Element) → Obeys (BadNumber when LinkHasBadNumber link ∷ NegativeMass when HasNegativeMass link ∷ []) (inertial_of (child (codes "inertial") link))
unfolding inertial_of
inertial-obeys link =
    let inertial = child (codes "inertial") link in
    let mass_of = number_or zero_interval (codes "value") (child_in (codes "mass") inertial) in
    obeys-either (obeys-next (origin_of (child_in (codes "origin") inertial)) _ (origin-obeys (child_in (codes "origin") inertial))
    (λ origin _. obeys-either (obeys-next mass_of _ (number-obeys zero_interval (codes "value") (child_in (codes "mass") inertial))
    (λ mass is. obeys-next (six_of (child_in (codes "inertia") inertial)) _ (six-obeys (child_in (codes "inertia") inertial))
    (λ six _. obeys-unless NegativeMass (HasNegativeMass link) [] (int_lt mass.lo (pos 0)) _
    (λ b. record { mass = mass; says = number_or-says zero_interval (codes "value") (child_in (codes "mass") inertial) mass is; negative = below mass.lo b })
    (mass-not-negative link mass is)
    (λ _. obeys-ok [] _ tt))))))

link-obeys : (before : List Element) (links : List UrdfLink) → AllZip IsLink before links → (link : Element) → Obeys (link_refusals before link) (link_of (names_of_links links) link)
unfolding link_of
link-obeys before links each link =
    obeys-then (NoName when LacksName link ∷ NameTwice when HasNameAgain before link ∷ []) (BadNumber when LinkHasBadNumber link ∷ NegativeMass when HasNegativeMass link ∷ []) (name_after (names_of_links links) link) _
    (name_after-obeys (λ link. link.name) IsLink (λ e l s. s.name) before links each link)
    (λ name _. obeys-value (inertial_of (child (codes "inertial") link)) _ (inertial-obeys link))

-- elements one by one

module _ {A : Type 0} {after : List A → List Element → Result (List A) UrdfFault} {step : List A → Element → Result A UrdfFaultKind} (fold : IsFold fault_at after step) (R : Element → A → Type 0) (refusals : List Element → Element → List (Refusal UrdfFaultKind))
    (says : (made : List A) (element : Element) (x : A) → step made element ≡ Ok x → R element x)
    (obeys : (before : List Element) (made : List A) → AllZip R before made → (element : Element) → Obeys (refusals before element) (step made element)) where
  pub all-obey : (before : List Element) (made : List A) (elements : List Element) → AllZip R before made → Obeys (in_order refusals before elements) (after made elements)
  all-obey before made [] each = subst (Obeys []) (sym (fold.none made)) (obeys-ok [] made tt)
  all-obey before made (element ∷ elements) each =
      subst (Obeys (in_order refusals before (element ∷ elements))) (sym (fold.more made element elements))
      (obeys-then (at_place fault_at element.tag.place (refusals before element)) (in_order refusals (before ++ element ∷ []) elements) (placed fault_at element.tag.place (step made element)) _
      (obeys-placed fault_at element.tag.place (step made element) (obeys before made each element))
      (λ x is. all-obey (before ++ element ∷ []) (made ++ x ∷ []) elements
      (push R before made element x each (says made element x (placed-ok fault_at element.tag.place (step made element) x is)))))

links_fold : IsFold fault_at links_after (λ links element. link_of (names_of_links links) element)
unfolding links_after
links_fold = record { none = λ xs. refl; more = λ xs e es. refl }

pub links-obey : (elements : List Element) → Obeys (in_order link_refusals [] elements) (links_after [] elements)
links-obey elements = all-obey links_fold IsLink link_refusals (λ made element link h. (link-says (names_of_links made) element link h).0) link-obeys [] [] elements tt
