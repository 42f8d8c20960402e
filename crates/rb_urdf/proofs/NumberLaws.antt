-- The numbers that were read are those that the texts say.
use Rattle.std.proofs.Common.{◌≡◌, ℕ, List, Option, Some, None, Result, Ok, refl, sym, ap, ◌∙◌}
use Rattle.std.specs.Prelude.{codes}
use Rattle.rb_num.specs.Interval.{Interval}
use Rattle.rb_text.specs.Bracket.{bracket_of}
use Rattle.rb_urdf.specs.declared.faults.UrdfFaultKind.{UrdfFaultKind}
use Rattle.rb_urdf.specs.declared.numbers.Origin.{Origin}
use Rattle.rb_tags.specs.Elements.{Element, attribute_in}
use Rattle.rb_urdf.specs.Numbers.{number_in, three_in, said_or, number_or, three_or, origin_of, zeros, as_bad_number}
use Rattle.rb_urdf.specs.Profile.{SaidOr, IsNumber, SaysNumber, SaysThree, SaysOrigin}
use Rattle.rb_text.specs.Three.{IsThree, three_of}
use Rattle.rb_result.proofs.Results.{then-ok, told-ok}
use Rattle.rb_text.proofs.Threes.{three_says, three_read}

number-says : (text : List ℕ) (v : Interval) → number_in text ≡ Ok v → IsNumber text v
unfolding number_in
number-says text v h = told-ok as_bad_number (bracket_of text) v h

number-read : (text : List ℕ) (v : Interval) → IsNumber text v → number_in text ≡ Ok v
unfolding number_in
number-read text v h = rw h refl

three-says : (text : List ℕ) (v : List Interval) → three_in text ≡ Ok v → IsThree text v
unfolding three_in
three-says text v h = three_says text v (told-ok as_bad_number (three_of text) v h)

three-read : (text : List ℕ) (v : List Interval) → IsThree text v → three_in text ≡ Ok v
unfolding three_in
three-read text v t = rw (three_read text v t) refl

said-says : {A : Type 0} (default : A) (read : List ℕ → Result A UrdfFaultKind) (Says : List ℕ → A → Type 0) → ((text : List ℕ) (v : A) → read text ≡ Ok v → Says text v) → (said : Option (List ℕ)) (v : A) → said_or default read said ≡ Ok v → SaidOr default Says said v
said-says default read Says each None v h = let same : v ≡ default = cc in same
said-says default read Says each (Some text) v h = each text v h

said-read : {A : Type 0} (default : A) (read : List ℕ → Result A UrdfFaultKind) (Says : List ℕ → A → Type 0) → ((text : List ℕ) (v : A) → Says text v → read text ≡ Ok v) → (said : Option (List ℕ)) (v : A) → SaidOr default Says said v → said_or default read said ≡ Ok v
said-read default read Says each None v h = ap Ok (sym h)
said-read default read Says each (Some text) v h = each text v h

pub number_or-says : (default : Interval) (key : List ℕ) (element : Option Element) (v : Interval) → number_or default key element ≡ Ok v → SaysNumber default key element v
unfolding number_or
number_or-says default key element v h = said-says default number_in IsNumber number-says (attribute_in key element) v h

pub number_or-read : (default : Interval) (key : List ℕ) (element : Option Element) (v : Interval) → SaysNumber default key element v → number_or default key element ≡ Ok v
unfolding number_or
number_or-read default key element v h = said-read default number_in IsNumber number-read (attribute_in key element) v h

pub three_or-says : (default : List Interval) (key : List ℕ) (element : Option Element) (v : List Interval) → three_or default key element ≡ Ok v → SaysThree default key element v
unfolding three_or
three_or-says default key element v h = said-says default three_in IsThree three-says (attribute_in key element) v h

pub three_or-read : (default : List Interval) (key : List ℕ) (element : Option Element) (v : List Interval) → SaysThree default key element v → three_or default key element ≡ Ok v
unfolding three_or
three_or-read default key element v h = said-read default three_in IsThree three-read (attribute_in key element) v h

pub origin-says : (element : Option Element) (origin : Origin) → origin_of element ≡ Ok origin → SaysOrigin element origin.xyz origin.rpy
unfolding origin_of
origin-says element origin h =
    let p = then-ok (three_or zeros (codes "xyz") element) _ origin h in
    let q = then-ok (three_or zeros (codes "rpy") element) _ origin p.2 in
    let xyz : origin.xyz ≡ p.0 = cc in
    let rpy : origin.rpy ≡ q.0 = cc in
    record {
      place = three_or-says zeros (codes "xyz") element origin.xyz (p.1 ∙ ap Ok (sym xyz));
      turn = three_or-says zeros (codes "rpy") element origin.rpy (q.1 ∙ ap Ok (sym rpy));
    }

pub origin-read : (origin : Option Element) (xyz rpy : List Interval) → SaysOrigin origin xyz rpy → origin_of origin ≡ Ok (record { xyz = xyz; rpy = rpy })
unfolding origin_of
origin-read origin xyz rpy s =
    rw (three_or-read zeros (codes "xyz") origin xyz s.place, three_or-read zeros (codes "rpy") origin rpy s.turn) refl
