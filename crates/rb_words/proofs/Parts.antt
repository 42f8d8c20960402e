-- The first part of a text between commas.
use Rattle.std.proofs.Common.{◌≡◌, ◌<◌, List, [], ◌∷◌, length, Option, Some, None, Err, arith, refl}
use Rattle.std.specs.Prelude.{MatchOption}
use Rattle.std.specs.List.{after_first, before_first, position_or_len}
use Rattle.std.specs.Borrow.{Bor}
use Rattle.std.proofs.lemmas.List.Splits.{length-slice_split, slice_split_first, slice_split_none}
use Rattle.std.proofs.lemmas.List.Sums.{fails_before_first}
use Rattle.clap.specs.Walk.{Text}
use Rattle.rb_words.specs.Words.{brackets_in, gravity_of, is_comma, parts}
use Rattle.rb_words.specs.declared.faults.WordsFault.TheVariants.{Gravity}

pub first_part : (text : Text) (found : Option (Bor Text × Bor Text))
    → MatchOption found (position_or_len is_comma text ≡ length text)
    (λ x. (x.0.now ≡ before_first is_comma text) × (x.1.now ≡ after_first is_comma text) × (position_or_len is_comma text < length text))
    → MatchOption found (parts text ≡ text ∷ []) (λ x. parts text ≡ x.0.now ∷ parts x.1.now)
first_part text None past = slice_split_none is_comma text (λ k d lt. fails_before_first is_comma text k d (omega arith))
first_part text (Some x) h = rw (h.0, h.1) (slice_split_first is_comma text 0 h.2)

more_refused : (x y z : Text) (more : List Text) → 0 < length more → brackets_in (x ∷ y ∷ z ∷ more) ≡ Err Gravity
more_refused x y z [] lt = absurd (omega arith)
more_refused x y z (w ∷ more) lt = refl

-- a text of more than three parts is refused
pub four_parts : (text others z rest x y w : Text) → parts text ≡ x ∷ parts others → parts others ≡ y ∷ parts z → parts z ≡ w ∷ parts rest
    → gravity_of text ≡ Err Gravity
unfolding gravity_of
four_parts text others z rest x y w first second third =
    rw (first, second, third) (more_refused x y w (parts rest) (omega (arith, length-slice_split is_comma rest)))
