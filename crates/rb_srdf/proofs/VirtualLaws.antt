-- The virtual joints that were read are those that elements describe.
use Rattle.std.proofs.Common.{◌≡◌, ℕ, Bool, true, false, cond, List, [], ◌∷◌, Option, Some, None, Ok, Err, refl, ap, ◌∙◌, subst}
use Rattle.std.specs.Prelude.{bytes_eq, codes, filter, option_and_then}
use Rattle.std.specs.List.{AllZip}
use Rattle.rb_tags.specs.InOrder.{SaysNone, ◌when◌}
use Rattle.rb_result.proofs.Results.{then-ok, unless-ok, found-ok, found-err}
use Rattle.rb_tags.proofs.Obeying.{Obeys, obeys-next, obeys-value, obeys-either, obeys-said}
use Rattle.rb_tags.specs.declared.root.RootKind.{RootKind}
use Rattle.rb_tags.specs.declared.root.RootKind.TheVariants.{Fixed, Planar, Floating}
use Rattle.rb_tags.specs.Elements.{Element, attribute}
use Rattle.rb_srdf.specs.declared.faults.SrdfFaultKind.{SrdfFaultKind}
use Rattle.rb_srdf.specs.declared.faults.SrdfFaultKind.TheVariants.{NameTwice, BadType}
use Rattle.rb_srdf.specs.declared.srdf.Virtual.{Virtual}
use Rattle.rb_srdf.specs.Names.{has_name, name_in, new_name}
use Rattle.rb_srdf.specs.ReadVirtuals.{kind_named, kind_of, virtual_of}
use Rattle.rb_srdf.specs.Srdf.{names_of_virtuals}
use Rattle.rb_srdf.specs.Profile.{type_name, HasType, IsVirtual}
use Rattle.rb_srdf.specs.Refusals.{virtual_refusals}
use Rattle.rb_srdf.proofs.GivenLaws.{given-says, given-read, given-obeys, is-text}
use Rattle.rb_srdf.proofs.AgainLaws.{is_named, again-obeys}

-- types

kind-named : (text : List ℕ) (kind : RootKind) → kind_named text ≡ Some kind → text ≡ type_name kind
unfolding kind_named
kind-named text kind h = by (bytes_eq text (codes "fixed")) (bytes_eq text (codes "floating")) (bytes_eq text (codes "planar")) refl refl refl h
  where
    some : (a b : RootKind) → text ≡ type_name a → Some a ≡ Some b → text ≡ type_name b
    some a b e h = let same : a ≡ b = cc in e ∙ ap type_name same

    by : (a b c : Bool) → bytes_eq text (codes "fixed") ≡ a → bytes_eq text (codes "floating") ≡ b → bytes_eq text (codes "planar") ≡ c → cond a (Some Fixed) (cond b (Some Floating) (cond c (Some Planar) None)) ≡ Some kind → text ≡ type_name kind
    by true b c f l p h = some Fixed kind (is-text text (codes "fixed") f) h
    by false true c f l p h = some Floating kind (is-text text (codes "floating") l) h
    by false false true f l p h = some Planar kind (is-text text (codes "planar") p) h
    by false false false f l p h = absurd cc

name-kind : (kind : RootKind) → kind_named (type_name kind) ≡ Some kind
unfolding kind_named
name-kind Fixed = refl
name-kind Planar = refl
name-kind Floating = refl

kind-found : (said : Option (List ℕ)) (kind : RootKind) → option_and_then kind_named said ≡ Some kind → said ≡ Some (type_name kind)
kind-found None kind h = absurd cc
kind-found (Some text) kind h = ap Some (kind-named text kind h)

kind-says : (element : Element) (kind : RootKind) → kind_of element ≡ Ok kind → HasType element kind
unfolding kind_of
kind-says element kind h = kind-found (attribute (codes "type") element) kind (found-ok _ BadType kind h)

kind-read : (element : Element) (kind : RootKind) → HasType element kind → kind_of element ≡ Ok kind
unfolding kind_of
kind-read element kind h = rw (h, name-kind kind) refl

kind-fault : (element : Element) (k : SrdfFaultKind) → kind_of element ≡ Err k → BadType ≡ k
unfolding kind_of
kind-fault element k h = (found-err _ BadType k h).0

kind-obeys : (element : Element) → Obeys (BadType when SaysNone (HasType element) ∷ []) (kind_of element)
kind-obeys element = obeys-said BadType (HasType element) (kind_of element) (kind-says element) (kind-read element) (kind-fault element)

-- a virtual joint

pub virtual-says : (names : List (List ℕ)) (element : Element) (virtual : Virtual) → virtual_of names element ≡ Ok virtual → IsVirtual element virtual × (has_name names virtual.name ≡ false)
unfolding virtual_of new_name
virtual-says names element virtual h =
    let a = then-ok (name_in (codes "name") element) _ virtual h in
    let b = then-ok (name_in (codes "child_link") element) _ virtual a.2 in
    let c = then-ok (new_name names a.0) _ virtual b.2 in
    let d = then-ok (kind_of element) _ virtual c.2 in
    let new = unless-ok (has_name names a.0) NameTwice (Ok tt) c.0 c.1 in
    let made : (let v : Virtual = record { name = a.0; place = element.tag.place; kind = d.0; child = b.0 } in v) ≡ virtual = cc in
    let Whole : Virtual → Type 0 = λ v. IsVirtual element v × (has_name names v.name ≡ false) in
    subst Whole made (
      record {
        name = given-says (codes "name") element a.0 a.1;
        place = refl;
        kind = kind-says element d.0 d.1;
        child = given-says (codes "child_link") element b.0 b.1;
      },
      new.0,
    )

pub virtual-read : (names : List (List ℕ)) (element : Element) (virtual : Virtual) → IsVirtual element virtual → has_name names virtual.name ≡ false → virtual_of names element ≡ Ok virtual
unfolding virtual_of new_name
virtual-read names element virtual s new =
    rw (
      given-read (codes "name") element virtual.name s.name,
      given-read (codes "child_link") element virtual.child s.child,
      new,
      kind-read element virtual.kind s.kind,
      ← s.place,
    ) refl

pub virtual-obeys : (before : List Element) (virtuals : List Virtual) → AllZip IsVirtual (filter (is_named (codes "virtual_joint")) before) virtuals → (element : Element) → element.tag.name ≡ codes "virtual_joint" → Obeys (virtual_refusals before element) (virtual_of (names_of_virtuals virtuals) element)
unfolding virtual_of
virtual-obeys before virtuals each element is =
    obeys-either
    (obeys-next (name_in (codes "name") element) _ (given-obeys (codes "name") element)
    (λ name e. obeys-next (name_in (codes "child_link") element) _ (given-obeys (codes "child_link") element)
    (λ borne f. obeys-next (new_name (names_of_virtuals virtuals) name) _
    (again-obeys (λ virtual. virtual.name) IsVirtual (λ x virtual v. v.name) (codes "virtual_joint") before virtuals each element is name (given-says (codes "name") element name e))
    (λ _ new. obeys-value (kind_of element) _ (kind-obeys element)))))
