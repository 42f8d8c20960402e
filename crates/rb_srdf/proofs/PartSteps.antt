-- The parts of a file, element by element, and the groups that they name.
use Rattle.std.proofs.Common.{◌≡◌, ℕ, Bool, true, false, List, [], ◌∷◌, Result, Ok, Err, refl, sym, ap, ◌∙◌}
use Rattle.std.specs.List.{list_all}
use Rattle.rb_result.specs.Steps.{placed}
use Rattle.rb_tags.specs.Elements.{Element}
use Rattle.rb_srdf.specs.declared.faults.SrdfFault.{SrdfFault}
use Rattle.rb_srdf.specs.declared.faults.SrdfFaultKind.TheVariants.{UnknownName}
use Rattle.rb_srdf.specs.Faults.{fault_at}
use Rattle.rb_srdf.specs.Parts.{parts_with, parts_after, is_settled, all_settled}
use Rattle.rb_srdf.proofs.Passes.{IsPass}

pub parts_pass : IsPass (λ parts element. placed fault_at element.tag.place (parts_with parts element)) (λ parts more. more) parts_after
unfolding parts_after
parts_pass = record { none = λ parts. refl; more = λ parts e es. refl }

module _ (groups : List (List ℕ)) (whole : Result (Unit {0}) SrdfFault) (all left : List Element) (e : Element) where
  pub settled-next : whole ≡ all_settled groups all → all ≡ e ∷ left → is_settled groups e ≡ true → whole ≡ all_settled groups left
  unfolding all_settled
  settled-next is parts ok = is ∙ ap (all_settled groups) parts ∙ rw ok refl

  pub settled-stops : (fault : SrdfFault) → whole ≡ all_settled groups all → all ≡ e ∷ left → is_settled groups e ≡ false → fault ≡ fault_at UnknownName e.tag.place → Err fault ≡ whole
  unfolding all_settled
  settled-stops fault is parts fails told = sym (is ∙ ap (all_settled groups) parts ∙ rw fails (ap Err (sym told)))

pub settled-ends : (groups : List (List ℕ)) (whole : Result (Unit {0}) SrdfFault) (left : List Element) → whole ≡ all_settled groups left → left ≡ [] → Ok tt ≡ whole
unfolding all_settled
settled-ends groups whole left is none = sym (is ∙ ap (all_settled groups) none)

module _ (p : Element → Bool) (whole : Bool) (all left : List Element) (e : Element) where
  pub all-next : whole ≡ list_all p all → all ≡ e ∷ left → p e ≡ true → whole ≡ list_all p left
  all-next is parts ok = is ∙ ap (list_all p) parts ∙ rw ok refl

  pub all-stops : whole ≡ list_all p all → all ≡ e ∷ left → p e ≡ false → false ≡ whole
  all-stops is parts fails = sym (is ∙ ap (list_all p) parts ∙ rw fails refl)

pub all-ends : (p : Element → Bool) (whole : Bool) (left : List Element) → whole ≡ list_all p left → left ≡ [] → true ≡ whole
all-ends p whole left is none = sym (is ∙ ap (list_all p) none)
