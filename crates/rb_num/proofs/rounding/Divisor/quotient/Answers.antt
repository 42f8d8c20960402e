use Rattle.std.proofs.Common.{refl, arith}
use Rattle.rb_num.proofs.Reciprocal.{cut_small, product_small, guess_less}
use Rattle.rb_num.proofs.rounding.Divisor.quotient.Goals as goal

pub overflow_cast-guess-2 : goal.overflow_cast-guess-2
overflow_cast-guess-2 c = omega (arith, cut_small c.args.x c.args.self.shift c.requires)

pub overflow_mul-guess : goal.overflow_mul-guess
overflow_mul-guess c = omega (arith, product_small c.args.x _ _ _ c.args.self.is_reciprocal c.requires)

pub overflow_cast-guess-5 : goal.overflow_cast-guess-5
overflow_cast-guess-5 c = omega (arith, product_small c.args.x _ _ _ c.args.self.is_reciprocal c.requires)

pub overflow_add-result : goal.overflow_add-result
overflow_add-result c = omega (arith, product_small c.args.x _ _ _ c.args.self.is_reciprocal c.requires)

pub returns-else-rest-self : goal.returns-else-rest-self
returns-else-rest-self c = guess_less c.args.x _ _ _ _ c.args.self.is_reciprocal c.requires refl (omega (arith, c.if-rest-self.false))
