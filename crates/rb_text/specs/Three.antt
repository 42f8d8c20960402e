-- The brackets of a list of three numbers.
use Rattle.std.specs.Prelude.{◌≡◌, ℕ, List, [], ◌∷◌, Result, Ok, Err}
use Rattle.rb_num.specs.Interval.{Interval}
use Rattle.rb_tags.specs.Words.{words}
use Rattle.rb_result.specs.Steps.{◌>>=◌}
use Rattle.rb_text.specs.declared.bracket.TextFault.{TextFault}
use Rattle.rb_text.specs.declared.bracket.TextFault.TheVariants.{NotNumber}
use Rattle.rb_text.specs.Bracket.{bracket_of}

abbrev pub brackets_of_three : List (List ℕ) → Result (List Interval) TextFault
brackets_of_three (a ∷ b ∷ c ∷ []) = bracket_of a >>= λ x. bracket_of b >>= λ y. bracket_of c >>= λ z. Ok (x ∷ y ∷ z ∷ [])
brackets_of_three _ = Err NotNumber

-- the brackets of a text of three words
unfoldable pub three_of : List ℕ → Result (List Interval) TextFault
three_of text = brackets_of_three (words text)

-- the text is three words, and these are their brackets
pub record IsThree (text : List ℕ) (v : List Interval) : Type 0 where
  pub first : List ℕ
  pub second : List ℕ
  pub third : List ℕ
  pub x : Interval
  pub y : Interval
  pub z : Interval
  pub words_are : words text ≡ first ∷ second ∷ third ∷ []
  pub x_is : bracket_of first ≡ Ok x
  pub y_is : bracket_of second ≡ Ok y
  pub z_is : bracket_of third ≡ Ok z
  pub are : v ≡ x ∷ y ∷ z ∷ []
