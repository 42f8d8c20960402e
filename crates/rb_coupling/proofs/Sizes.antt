-- Sums are refused for their size alone.
use Rattle.std.proofs.Common.{◌≡◌, List, Bool, true, false, cond, Ok, Err, refl}
use Rattle.rb_num.specs.declared.interval.NumFault.{NumFault}
use Rattle.rb_num.specs.declared.interval.NumFault.TheVariants as N
use Rattle.rb_num.specs.Interval.{Interval, sum_of}
use Rattle.rb_num.specs.Dot.{all_fit, dot_of, iv_dot}
use Rattle.rb_num.specs.Refusing.{ends_fit, iv_add}

unless_else : (c : Bool) (v : Interval) (f : NumFault) → cond c (Ok v) (Err N.Size) ≡ Err f → cond c (Ok v) (Err N.Size) ≡ Err N.Size
unless_else true v f h = absurd cc
unless_else false v f h = refl

pub dot_size : (ps : List (Interval × Interval)) (f : NumFault) → iv_dot ps ≡ Err f → iv_dot ps ≡ Err N.Size
unfolding iv_dot
dot_size ps f h = unless_else (all_fit ps) (dot_of ps) f h

pub add_size : (a b : Interval) (f : NumFault) → iv_add a b ≡ Err f → iv_add a b ≡ Err N.Size
unfolding iv_add
add_size a b f h = unless_else (ends_fit (sum_of a b)) (sum_of a b) f h
