-- Texts that attributes give.
use Rattle.std.proofs.Common.{◌≡◌, ◌≢◌, ℕ, Bool, true, false, List, [], ◌∷◌, Some, Ok, Err, refl, sym, ◌∙◌, true≢false}
use Rattle.std.specs.Prelude.{bytes_eq}
use Rattle.std.proofs.lemmas.Slice.Eq.{bytes_eq-Decides}
use Rattle.rb_tags.specs.InOrder.{◌when◌}
use Rattle.rb_result.proofs.Results.{found-ok, found-err}
use Rattle.rb_tags.proofs.Obeying.{Obeys, obeys-said}
use Rattle.rb_tags.specs.Elements.{Element, given}
use Rattle.rb_tags.proofs.Given.{given_says, given_read}
use Rattle.rb_srdf.specs.declared.faults.SrdfFaultKind.{SrdfFaultKind}
use Rattle.rb_srdf.specs.declared.faults.SrdfFaultKind.TheVariants.{NoName}
use Rattle.rb_srdf.specs.Names.{name_in}
use Rattle.rb_srdf.specs.Profile.{Gives}
use Rattle.rb_srdf.specs.Refusals.{Lacks}

pub given-says : (key : List ℕ) (element : Element) (text : List ℕ) → name_in key element ≡ Ok text → Gives key element text
unfolding name_in
given-says key element text h =
    let s = given_says key element text (found-ok (given key element) NoName text h) in
    record { says = s.0; some = s.1 }

pub given-read : (key : List ℕ) (element : Element) (text : List ℕ) → Gives key element text → name_in key element ≡ Ok text
unfolding name_in
given-read key element text h = rw (given_read key element text h.says h.some) refl

given-kind : (key : List ℕ) (element : Element) (k : SrdfFaultKind) → name_in key element ≡ Err k → NoName ≡ k
unfolding name_in
given-kind key element k h = (found-err (given key element) NoName k h).0

pub given-obeys : (key : List ℕ) (element : Element) → Obeys (NoName when Lacks key element ∷ []) (name_in key element)
given-obeys key element = obeys-said NoName (Gives key element) (name_in key element) (given-says key element) (given-read key element) (given-kind key element)

-- one text only
pub one-text : (key : List ℕ) (element : Element) (a b : List ℕ) → Gives key element a → Gives key element b → a ≡ b
one-text key element a b p q = let same : Some a ≡ Some b = sym p.says ∙ q.says in cc

-- texts that are compared

pub is-text : (a b : List ℕ) → bytes_eq a b ≡ true → a ≡ b
is-text a b h = (bytes_eq-Decides a b).0 h

pub same-text : (a b : List ℕ) → a ≡ b → bytes_eq a b ≡ true
same-text a b h = (bytes_eq-Decides a b).1 h

pub other-text : (a b : List ℕ) → a ≢ b → bytes_eq a b ≡ false
other-text a b differ = by (bytes_eq a b) refl
  where
    by : (t : Bool) → bytes_eq a b ≡ t → bytes_eq a b ≡ false
    by false e = e
    by true e = absurd (differ (is-text a b e))

pub not-text : (a b : List ℕ) → bytes_eq a b ≡ false → a ≢ b
not-text a b h same = true≢false (sym (same-text a b same) ∙ h)
