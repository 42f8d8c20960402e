-- The laws of fractions: `Same` is an equivalence that the operations and the order keep, and with it the fractions are an ordered field.
use Rattle.std.specs.Prelude.{pos, ◌≡◌, ◌↔◌, ◌⊎◌}
use Rattle.rb_frac.specs.Frac.{Frac, Same, Le, add, neg, sub, mul, quot, whole}

abbrev pub zero : Frac
zero = whole (pos 0)

abbrev pub one : Frac
one = whole (pos 1)

pub record IsEquivalence : Type 0 where
  pub refl : (x : Frac) → Same x x
  pub sym : (x y : Frac) → Same x y → Same y x
  pub trans : (x y z : Frac) → Same x y → Same y z → Same x z

-- what is made of the same numbers is the same number
pub record KeepsSame : Type 0 where
  pub add : (x x' y y' : Frac) → Same x x' → Same y y' → Same (add x y) (add x' y')
  pub neg : (x x' : Frac) → Same x x' → Same (neg x) (neg x')
  pub sub : (x x' y y' : Frac) → Same x x' → Same y y' → Same (sub x y) (sub x' y')
  pub mul : (x x' y y' : Frac) → Same x x' → Same y y' → Same (mul x y) (mul x' y')
  pub quot : (x x' y y' : Frac) → Same x x' → Same y y' → Same (quot x y) (quot x' y')
  pub le : (x x' y y' : Frac) → Same x x' → Same y y' → Le x y → Le x' y'

pub record IsField : Type 0 where
  pub add_assoc : (x y z : Frac) → Same (add (add x y) z) (add x (add y z))
  pub add_comm : (x y : Frac) → Same (add x y) (add y x)
  pub add_zero : (x : Frac) → Same (add x zero) x
  pub add_neg : (x : Frac) → Same (add x (neg x)) zero
  pub sub : (x y : Frac) → Same (sub x y) (add x (neg y))
  pub mul_assoc : (x y z : Frac) → Same (mul (mul x y) z) (mul x (mul y z))
  pub mul_comm : (x y : Frac) → Same (mul x y) (mul y x)
  pub mul_one : (x : Frac) → Same (mul x one) x
  pub mul_add : (x y z : Frac) → Same (mul x (add y z)) (add (mul x y) (mul x z))
  pub is_zero : (x : Frac) → Same x zero ↔ (x.num ≡ pos 0)
  pub one_is_not_zero : ¬ Same one zero
  pub inverse : (x : Frac) → ¬ Same x zero → Same (mul x (quot one x)) one
  pub quot : (x y : Frac) → ¬ Same y zero → Same (mul (quot x y) y) x

pub record IsOrdered : Type 0 where
  pub refl : (x : Frac) → Le x x
  pub trans : (x y z : Frac) → Le x y → Le y z → Le x z
  pub antisym : (x y : Frac) → Le x y → Le y x → Same x y
  pub total : (x y : Frac) → Le x y ⊎ Le y x
  pub add : (x y z : Frac) → Le x y → Le (add x z) (add y z)
  pub mul : (x y z : Frac) → Le zero z → Le x y → Le (mul x z) (mul y z)
