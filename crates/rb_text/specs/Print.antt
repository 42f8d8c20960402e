-- What number the text of an end says, and the names of faults.
use Rattle.std.specs.Prelude.{◌≡◌, ℕ, List, codes, ℤ, pos, ◌*ℤ◌}
use Rattle.rb_num.specs.Interval.{grid}
use Rattle.rb_text.specs.Decimal.{Decimal, IsDecimal, exact_value}
use Rattle.rb_text.specs.declared.bracket.TextFault.{TextFault}
use Rattle.rb_text.specs.declared.bracket.TextFault.TheVariants.{NotNumber, TooLarge, Backwards}

-- the text is a decimal, whose value is so many units of the grid
pub record Says (text : List ℕ) (end : ℤ) : Type 0 where
  pub decimal : Decimal
  pub is_decimal : IsDecimal text decimal
  pub value : (exact_value decimal).num *ℤ pos grid ≡ end *ℤ pos (exact_value decimal).den

-- the fault's name
abbrev pub fault_text : TextFault → List ℕ
fault_text NotNumber = codes "NotNumber"
fault_text TooLarge = codes "TooLarge"
fault_text Backwards = codes "Backwards"
