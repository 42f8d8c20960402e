-- The nested products in 64 bits, as far as they are known.
use Rattle.std.specs.Prelude.{◌≡◌, ℕ, ◌-◌, ◌≤◌, pos}
use Rattle.rb_num.specs.Interval.{Interval, interval}
use Rattle.rb_trig.specs.declared.sine.Series.{Series}
use Rattle.rb_trig.specs.Sine.{scale, nested}

-- of n terms, those from the term k on; no end is larger than one
pub record ShortNested (s : Series) (u : Interval) (n k lo hi : ℕ) : Type 0 where
  pub some : 1 ≤ k
  pub value : interval (pos lo) (pos hi) ≡ nested s u k (n - k)
  pub high : hi ≤ scale
