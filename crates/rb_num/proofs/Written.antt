-- What a format string writes of an end, and what two ends make.
use Rattle.std.proofs.Common.{◌≡◌, ℕ, ◌/◌, ◌%◌, ◌-◌, ◌^◌, ℤ, false, List, [], ◌∷◌, ◌++◌, ap, ◌∙◌, to_z, of_z, arith}
use mir.Syntax.{w128}
use mir.Val.{SFits}
use Rattle.std.specs.Prelude.{decimal, unsigned_abs}
use Rattle.std.specs.Fmt.{padded_integral, format_spec, char_count, styled_decimal}
use native.Mathlib.Numerals.{unary_clauses}
use Rattle.std.proofs.lemmas.Int.{ints, to_z-of_z}
use Rattle.std.proofs.lemmas.List.{append-nil}
use Rattle.rb_num.specs.Interval.{Interval, IsInterval, grid}
use Rattle.rb_num.specs.Text.{part_text, minus_text, end_text, iv_text}

padded_part : (n : ℕ) → padded_integral (format_spec 32 0 4 12 (2 ^ 64 - 1)) false [] (decimal n) ≡ part_text n
unfolding padded_integral part_text char_count
padded_part n = simp (unary_clauses, append-nil)

pub written_end : (z : ℤ) (sign part : List ℕ) (size : ℕ) → SFits w128 z → sign ≡ minus_text (to_z w128 (of_z w128 z)) → size ≡ unsigned_abs (to_z w128 (of_z w128 z))
    → part ≡ styled_decimal (format_spec 32 0 4 12 (2 ^ 64 - 1)) (size % grid) → sign ++ (decimal (size / grid) ++ (46 ∷ part)) ≡ end_text z
unfolding end_text
written_end z sign part size f s n e =
    let same = to_z-of_z w128 z f in
    let a : sign ≡ minus_text z = s ∙ ap minus_text same in
    let b : size ≡ unsigned_abs z = n ∙ ap unsigned_abs same in
    let d : part ≡ part_text (size % grid) = e ∙ padded_part (size % grid) in
    cc

pub written_ends : (v : Interval) (lo hi : ℤ) → IsInterval v.lo v.hi → lo ≡ v.lo → hi ≡ v.hi
    → end_text (to_z w128 (of_z w128 lo)) ++ (46 ∷ (46 ∷ end_text (to_z w128 (of_z w128 hi)))) ≡ iv_text v
unfolding iv_text
written_ends v lo hi h e d =
    let low : SFits w128 v.lo = omega (arith, ints, h.ordered, h.low, h.high) in
    let high : SFits w128 v.hi = omega (arith, ints, h.ordered, h.low, h.high) in
    let a = to_z-of_z w128 v.lo low in
    let b = to_z-of_z w128 v.hi high in
    cc
