-- The numbers that a rule is over: intervals, whose operations may be refused, or fractions, which are exact. A rule is defined once over
-- `Arith`, and read at `intervals` for the value that the code computes, and at `fractions` for the value that it encloses.
use Rattle.std.specs.Prelude.{List, Result, Ok}
use Rattle.rb_result.specs.Steps.{◌>>=◌}
use Rattle.rb_num.specs.declared.interval.NumFault.{NumFault}
use Rattle.rb_num.specs.Interval.{Interval, zero_interval, one_interval, negative_of}
use Rattle.rb_num.specs.Dot.{iv_dot}
use Rattle.rb_num.specs.Refusing.{iv_add, iv_sub, iv_div}
use Rattle.rb_frac.specs.Ops.{Ops, Signs}
use Rattle.rb_frac.specs.Pairs.{dot}
use Rattle.rb_frac.specs.Frac.{fracs, quot}

pub record Arith : Type 1 where
  -- the numbers
  pub N : Type 0
  -- what a step with a value of the given type answers: the value, or a refusal
  pub M : Type 0 → Type 0
  -- the sum of the products of the pairs
  pub dot : List (N × N) → M N
  pub neg : N → N
  pub add : N → N → M N
  pub sub : N → N → M N
  pub one : N
  pub zero : N
  -- the step that answers this value, and a step followed by the next
  pub ret : {A : Type 0} → A → M A
  pub bind : {A B : Type 0} → M A → (A → M B) → M B

-- what needs neither sum nor product
abbrev pub signs_of : (R : Arith) → Signs R.N
signs_of R = record { neg = R.neg; nul = R.zero; one = R.one }

-- intervals, with the operations of the code
abbrev pub intervals : Arith
intervals = record {
  N = Interval;
  M = λ A. Result A NumFault;
  dot = iv_dot;
  neg = negative_of;
  add = iv_add;
  sub = iv_sub;
  one = one_interval;
  zero = zero_interval;
  ret = λ x. Ok x;
  bind = λ r f. r >>= f;
}

-- the numbers of `Ops`, whose steps are never refused
abbrev pub plain : {A : Type 0} → Ops A → Arith
plain {A} o = record {
  N = A;
  M = λ X. X;
  dot = λ ps. dot o ps;
  neg = o.neg;
  add = o.add;
  sub = λ x y. o.add x (o.neg y);
  one = o.one;
  zero = o.nul;
  ret = λ x. x;
  bind = λ x f. f x;
}

-- exact fractions
abbrev pub fractions : Arith
fractions = plain fracs

-- the same with quotients
pub record Field : Type 1 where
  pub arith : Arith
  pub div : arith.N → arith.N → arith.M arith.N

abbrev pub interval_field : Field
interval_field = record { arith = intervals; div = iv_div }

-- a quotient by 0 is 0 here; the intervals refuse it
abbrev pub fraction_field : Field
fraction_field = record { arith = fractions; div = quot }
