-- The links that were read are those that the elements describe.
use Rattle.std.proofs.Common.{◌≡◌, ℕ, List, [], ◌∷◌, ◌++◌, Option, Result, Ok, refl, sym, ap, ◌∙◌, subst, arith, append_assoc, false}
use Rattle.std.specs.Prelude.{codes, ℤ, pos, ◌≤ℤ◌, int_lt, bytes_eq}
use Rattle.std.specs.List.{AllZip, list_any}
use Rattle.std.proofs.lemmas.List.{append-nil, map-append}
use Rattle.std.proofs.lemmas.Int.{ints}
use Rattle.rb_num.specs.Interval.{Interval, zero_interval}
use Rattle.rb_urdf.specs.declared.robot.UrdfLink.{UrdfLink}
use Rattle.rb_urdf.specs.declared.faults.UrdfFaultKind.{UrdfFaultKind}
use Rattle.rb_urdf.specs.declared.faults.UrdfFaultKind.TheVariants.{NegativeMass}
use Rattle.rb_urdf.specs.declared.link.Inertial.{Inertial}
use Rattle.rb_tags.specs.Elements.{Element, child, child_in}
use Rattle.rb_urdf.specs.Numbers.{number_or, origin_of}
use Rattle.rb_urdf.specs.Names.{name_after}
use Rattle.rb_urdf.specs.Links.{six_of, inertial_of, link_with, link_of, links_after}
use Rattle.rb_urdf.specs.Profile.{SaysSix, IsInertial, IsLink}
use Rattle.rb_urdf.proofs.NumberLaws.{number_or-says, number_or-read, origin-says, origin-read}
use Rattle.rb_urdf.proofs.NameLaws.{name_after-says, name_after-read, differ-new}
use Rattle.rb_result.proofs.Results.{then-ok, unless-ok, placed-ok}
use Rattle.rb_result.specs.Steps.{placed}
use Rattle.rb_urdf.specs.Faults.{fault_at}
use Rattle.rb_urdf.specs.Robot.{names_of_links}
use Rattle.rb_tags.specs.Names.{AreDifferent}
use Rattle.rb_tags.proofs.Different.{differ-push}

not_below : (z : ℤ) → int_lt z (pos 0) ≡ false → pos 0 ≤ℤ z
not_below z h = grind (arith, ints)

at_least : (z : ℤ) → pos 0 ≤ℤ z → int_lt z (pos 0) ≡ false
at_least z h = grind (arith, ints)

pub six-says : (inertia : Option Element) (six : List Interval) → six_of inertia ≡ Ok six → SaysSix inertia six
unfolding six_of
six-says inertia six h =
    let number : (key : List ℕ) → Result Interval UrdfFaultKind = λ key. number_or zero_interval key inertia in
    let a = then-ok (number (codes "ixx")) _ six h in
    let b = then-ok (number (codes "ixy")) _ six a.2 in
    let c = then-ok (number (codes "ixz")) _ six b.2 in
    let d = then-ok (number (codes "iyy")) _ six c.2 in
    let e = then-ok (number (codes "iyz")) _ six d.2 in
    let f = then-ok (number (codes "izz")) _ six e.2 in
    record {
      ixx = a.0;
      ixy = b.0;
      ixz = c.0;
      iyy = d.0;
      iyz = e.0;
      izz = f.0;
      ixx_is = number_or-says zero_interval (codes "ixx") inertia a.0 a.1;
      ixy_is = number_or-says zero_interval (codes "ixy") inertia b.0 b.1;
      ixz_is = number_or-says zero_interval (codes "ixz") inertia c.0 c.1;
      iyy_is = number_or-says zero_interval (codes "iyy") inertia d.0 d.1;
      iyz_is = number_or-says zero_interval (codes "iyz") inertia e.0 e.1;
      izz_is = number_or-says zero_interval (codes "izz") inertia f.0 f.1;
      are = let same : six ≡ a.0 ∷ b.0 ∷ c.0 ∷ d.0 ∷ e.0 ∷ f.0 ∷ [] = cc in same;
    }

pub six-read : (inertia : Option Element) (six : List Interval) → SaysSix inertia six → six_of inertia ≡ Ok six
unfolding six_of
six-read inertia six s =
    rw (
      number_or-read zero_interval (codes "ixx") inertia s.ixx s.ixx_is,
      number_or-read zero_interval (codes "ixy") inertia s.ixy s.ixy_is,
      number_or-read zero_interval (codes "ixz") inertia s.ixz s.ixz_is,
      number_or-read zero_interval (codes "iyy") inertia s.iyy s.iyy_is,
      number_or-read zero_interval (codes "iyz") inertia s.iyz s.iyz_is,
      number_or-read zero_interval (codes "izz") inertia s.izz s.izz_is,
    )
    (ap Ok (sym s.are))

-- what `inertial` says of the link that has it
inertial-says : (element : Option Element) (i : Inertial) (name : List ℕ) (place : ℕ) → inertial_of element ≡ Ok i → IsInertial element (link_with name place i)
unfolding inertial_of
inertial-says element i name place h =
    let a = then-ok (origin_of (child_in (codes "origin") element)) _ i h in
    let b = then-ok (number_or zero_interval (codes "value") (child_in (codes "mass") element)) _ i a.2 in
    let c = then-ok (six_of (child_in (codes "inertia") element)) _ i b.2 in
    let d = unless-ok (int_lt b.0.lo (pos 0)) NegativeMass _ i c.2 in
    let origin : a.0 ≡ i.origin = cc in
    let mass : b.0 ≡ i.mass = cc in
    let six : c.0 ≡ i.six = cc in
    record {
      origin = origin-says (child_in (codes "origin") element) i.origin (a.1 ∙ ap Ok origin);
      mass = number_or-says zero_interval (codes "value") (child_in (codes "mass") element) i.mass (b.1 ∙ ap Ok mass);
      not_negative = subst (λ (v : Interval). pos 0 ≤ℤ v.lo) mass (not_below b.0.lo d.0);
      six = six-says (child_in (codes "inertia") element) i.six (c.1 ∙ ap Ok six);
    }

inertial-read : (element : Option Element) (link : UrdfLink) → IsInertial element link → inertial_of element ≡ Ok (record { mass = link.mass; origin = record { xyz = link.«com»; rpy = link.rpy }; six = link.six })
unfolding inertial_of
inertial-read element link s =
    let light : int_lt link.mass.lo (pos 0) ≡ false = at_least link.mass.lo s.not_negative in
    rw (
      origin-read (child_in (codes "origin") element) link.«com» link.rpy s.origin,
      number_or-read zero_interval (codes "value") (child_in (codes "mass") element) link.mass s.mass,
      six-read (child_in (codes "inertia") element) link.six s.six,
      light,
    ) refl

-- the link of an element has a new name
pub link-says : (names : List (List ℕ)) (element : Element) (link : UrdfLink) → link_of names element ≡ Ok link → IsLink element link × (list_any (bytes_eq link.name) names ≡ false)
unfolding link_of
link-says names element link h =
    let a = then-ok (name_after names element) _ link h in
    let b = then-ok (inertial_of (child (codes "inertial") element)) _ link a.2 in
    let made : link_with a.0 element.tag.place b.0 ≡ link = cc in
    let n = name_after-says names element a.0 a.1 in
    let Whole : UrdfLink → Type 0 = λ l. IsLink element l × (list_any (bytes_eq l.name) names ≡ false) in
    subst Whole made (record { name = n.0; place = refl; inertial = inertial-says (child (codes "inertial") element) b.0 a.0 element.tag.place b.1 }, n.1)

pub link-read : (names : List (List ℕ)) (element : Element) (link : UrdfLink) → IsLink element link → list_any (bytes_eq link.name) names ≡ false → link_of names element ≡ Ok link
unfolding link_of
link-read names element link s new =
    rw (name_after-read names element link.name s.name new, inertial-read (child (codes "inertial") element) link s.inertial, ← s.place) refl

-- the links that are read behind others
pub record LinksRead (links : List UrdfLink) (elements : List Element) (all : List UrdfLink) : Type 0 where
  pub more : List UrdfLink
  pub are : all ≡ links ++ more
  pub each : AllZip IsLink elements more
  pub differ : AreDifferent (names_of_links all)

pub links-say : (links : List UrdfLink) (elements : List Element) (all : List UrdfLink) → AreDifferent (names_of_links links) → links_after links elements ≡ Ok all → LinksRead links elements all
unfolding links_after
links-say links [] all differ h =
    let same : links ≡ all = cc in
    record { more = []; are = sym same ∙ sym (append-nil links); each = tt; differ = subst (λ ls. AreDifferent (names_of_links ls)) same differ }
links-say links (element ∷ elements) all differ h =
    let p = then-ok (placed fault_at element.tag.place (link_of (names_of_links links) element)) _ all h in
    let l = link-says (names_of_links links) element p.0 (placed-ok fault_at element.tag.place _ p.0 p.1) in
    let names : names_of_links links ++ p.0.name ∷ [] ≡ names_of_links (links ++ p.0 ∷ []) = sym (map-append (λ link. link.name) links (p.0 ∷ [])) in
    let rest = links-say (links ++ p.0 ∷ []) elements all (subst AreDifferent names (differ-push (names_of_links links) p.0.name differ l.1)) p.2 in
    record { more = p.0 ∷ rest.more; are = rest.are ∙ append_assoc links (p.0 ∷ []) rest.more; each = (l.0, rest.each); differ = rest.differ }

-- links that elements describe are read
pub links-read : (done : List UrdfLink) (elements : List Element) (links : List UrdfLink) → AllZip IsLink elements links → AreDifferent (names_of_links (done ++ links)) → links_after done elements ≡ Ok (done ++ links)
unfolding links_after
links-read done [] [] each differ = ap Ok (sym (append-nil done))
links-read done [] (link ∷ links) each differ = absurd each
links-read done (element ∷ elements) [] each differ = absurd each
links-read done (element ∷ elements) (link ∷ links) each differ =
    let names : names_of_links (done ++ link ∷ links) ≡ names_of_links done ++ link.name ∷ names_of_links links = map-append (λ link. link.name) done (link ∷ links) in
    let new = differ-new (names_of_links done) (names_of_links links) link.name (subst AreDifferent names differ) in
    let more : (done ++ link ∷ []) ++ links ≡ done ++ link ∷ links = append_assoc done (link ∷ []) links in
    rw (link-read (names_of_links done) element link each.0 new)
    (links-read (done ++ link ∷ []) elements links each.1 (subst (λ ls. AreDifferent (names_of_links ls)) (sym more) differ) ∙ ap Ok more)
