-- Exact fractions: a whole number over a positive whole number.
use Rattle.std.specs.Prelude.{ℕ, ℤ, pos, negsuc, ◌+ℤ◌, ◌*ℤ◌, neg_ℤ, ◌≤ℤ◌, ◌<◌, ◌*◌, ◌≡◌, zero, suc}
use Rattle.rb_frac.specs.Ops.{Ops}
use Rattle.rb_frac.specs.Positive.{times_pos, suc_pos}

pub record Frac : Type 0 where
  pub num : ℤ
  pub den : ℕ
  pub some : 0 < den

-- the same number: by cross-multiplication
abbrev pub Same : Frac → Frac → Type 0
Same x y = x.num *ℤ pos y.den ≡ y.num *ℤ pos x.den

abbrev pub Le : Frac → Frac → Type 0
Le x y = (x.num *ℤ pos y.den) ≤ℤ (y.num *ℤ pos x.den)

unfoldable pub add : Frac → Frac → Frac
add x y = record { num = x.num *ℤ pos y.den +ℤ y.num *ℤ pos x.den; den = x.den * y.den; some = times_pos x.den y.den x.some y.some }

unfoldable pub neg : Frac → Frac
neg x = record { num = neg_ℤ x.num; den = x.den; some = x.some }

unfoldable pub sub : Frac → Frac → Frac
sub x y = add x (neg y)

unfoldable pub mul : Frac → Frac → Frac
mul x y = record { num = x.num *ℤ y.num; den = x.den * y.den; some = times_pos x.den y.den x.some y.some }

unfoldable pub whole : ℤ → Frac
whole n = record { num = n; den = 1; some = suc_pos 0 }

-- (n, d) by (m, e): (n e, d m), both negated where m < 0; the case m = 0 is not asked for, and gives 0
unfoldable pub turn : ℤ → ℕ → Frac
turn (pos zero) e = whole (pos 0)
turn (pos (suc m)) e = record { num = pos e; den = suc m; some = suc_pos m }
turn (negsuc m) e = record { num = neg_ℤ (pos e); den = suc m; some = suc_pos m }

unfoldable pub quot : Frac → Frac → Frac
quot x y = mul x (turn y.num y.den)

-- the operations, for the definitions of Ops
abbrev pub fracs : Ops Frac
fracs = record { add = add; mul = mul; neg = neg; nul = whole (pos 0); one = whole (pos 1) }
