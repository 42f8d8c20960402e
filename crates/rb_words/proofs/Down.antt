-- The gravity that is the default.
use Rattle.std.proofs.Common.{◌≡◌, refl, codes, Ok}
use Rattle.std.specs.Prelude.{pos, neg_ℤ}
use Rattle.rb_num.specs.Interval.{interval}
use Rattle.rb_text.specs.Bracket.{bracket_of, bracket_of_value, rounded}
use Rattle.rb_text.specs.Decimal.{decimal_of, denominator_of, exact_value, exponent_of, numerator_of, part_of, scale_of, sign_of, span_of, start_of}
use Rattle.rb_text.specs.Range.{number_of, split_of}
use Rattle.rb_words.specs.Words.{gravity_of}
use Rattle.rb_words.specs.Laws.{standing_gravity}

bracket_zero : bracket_of (codes "0") ≡ Ok (interval (pos 0) (pos 0))
unfolding bracket_of number_of split_of decimal_of start_of sign_of part_of span_of exponent_of scale_of exact_value numerator_of denominator_of bracket_of_value rounded
bracket_zero = refl

bracket_down : bracket_of (codes "-9.81") ≡ Ok (interval (neg_ℤ (pos 9810000000000)) (neg_ℤ (pos 9810000000000)))
unfolding bracket_of number_of split_of decimal_of start_of sign_of part_of span_of exponent_of scale_of exact_value numerator_of denominator_of bracket_of_value rounded
bracket_down = refl

pub gravity_down : gravity_of (codes "0,0,-9.81") ≡ Ok standing_gravity
unfolding gravity_of
gravity_down = rw (bracket_zero, bracket_down) refl
