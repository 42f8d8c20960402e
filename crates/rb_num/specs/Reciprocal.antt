-- Division by a product with a reciprocal.
use Rattle.std.specs.Prelude.{◌≡◌, ℕ, ◌+◌, ◌*◌, ◌/◌, ◌<◌, ◌≤◌, ◌^◌, ℤ, pos, neg_ℤ, ◌≤ℤ◌, ◌<ℤ◌}

-- the reciprocal of `by`, in parts of one in 2^(shift + 66), and what makes a product with it precise
pub record IsReciprocal (by shift reciprocal : ℕ) : Type 0 where
  pub value : reciprocal ≡ 2 ^ (shift + 66) / by
  pub low : 2 ^ (shift + 2) ≤ by
  pub high : by < 2 ^ 63
  pub short : shift < 62

-- the quotient of z by `by` lies from -2^60 up to below 2^60
pub record IsNear (by : ℕ) (z : ℤ) : Type 0 where
  pub above : neg_ℤ (pos (by * 2 ^ 60)) ≤ℤ z
  pub below : z <ℤ pos (by * 2 ^ 60)
