-- The relations of arithmetics: a fraction and an interval that it lies in, a fraction and its rational number, two fractions of the same
-- number, an expression and its value.
use Rattle.std.proofs.Common.{◌≡◌, ℕ, List, [], ◌∷◌, Result, Ok, Err, IfOk, refl, sym, ◌∙◌, ap, arith}
use Rattle.std.proofs.lemmas.Int.{ints}
use mathlib.Core.Path.{ap₂}
use Rattle.rb_num.specs.declared.interval.NumFault.{NumFault}
use Rattle.rb_result.specs.Steps.{◌>>=◌}
use Rattle.rb_num.proofs.Refused.{if_ok, if_added, if_subtracted, if_divided}
use Rattle.rb_frac.specs.Ops.{Ops}
use Rattle.rb_frac.specs.Frac as F
use Rattle.rb_frac.specs.Frac.{Frac, fracs}
use Rattle.rb_frac.proofs.Ring.{expr, eval}
use Rattle.rb_frac.proofs.Rational.{ℚ, inv, cls_of_quot, ◌*ℚ◌, qo, cls, cls-add, cls-mul, cls-neg, cls-zero, cls-one}
use Rattle.rb_num.specs.Arith.{Arith, Field, interval_field, fraction_field, intervals, plain, fractions}
use Rattle.rb_frac.specs.Pairs.{dot, PairsRelate}
use Rattle.rb_num.specs.Fraction.{LiesIn}
use Rattle.rb_num.proofs.Fractions.{dot_lies, neg_lies, add_lies, sub_lies, quot_lies}
use Rattle.std.proofs.lemmas.Result.{IfOk-at_ok}
use Rattle.rb_num.proofs.Relates.{Relates, RelatesField, Met}

abbrev pub rationals : Arith
rationals = plain qo

abbrev pub expressions : Arith
expressions = plain expr

-- ---- a map that keeps the operations
pub record Keeps {A B : Type 0} (o : Ops A) (p : Ops B) (h : A → B) : Type 0 where
  pub add : (x y : A) → h (o.add x y) ≡ p.add (h x) (h y)
  pub mul : (x y : A) → h (o.mul x y) ≡ p.mul (h x) (h y)
  pub neg : (x : A) → h (o.neg x) ≡ p.neg (h x)
  pub nul : h o.nul ≡ p.nul
  pub one : h o.one ≡ p.one

-- x and y have the same value
pub record Agree {A B C : Type 0} (h : A → C) (g : B → C) (x : A) (y : B) : Type 0 where
  pub is : h x ≡ g y

pub dot_agrees : {A B C : Type 0} (o : Ops A) (p : Ops B) (q : Ops C) (h : A → C) (g : B → C) (k : Keeps o q h) (l : Keeps p q g) (xs : List (A × A)) (ys : List (B × B)) → PairsRelate (Agree h g) xs ys → h (dot o xs) ≡ g (dot p ys)
unfolding dot
dot_agrees o p q h g k l [] [] i = k.nul ∙ sym l.nul
dot_agrees o p q h g k l (x ∷ xs) (y ∷ ys) i = k.add _ _ ∙ ap₂ q.add (k.mul _ _ ∙ ap₂ q.mul i.0.is i.1.is ∙ sym (l.mul _ _)) (dot_agrees o p q h g k l xs ys i.2) ∙ sym (l.add _ _)
dot_agrees o p q h g k l [] (y ∷ ys) i = absurd i
dot_agrees o p q h g k l (x ∷ xs) [] i = absurd i

-- two kinds with values of a third
abbrev pub agree : {A B C : Type 0} {o : Ops A} {p : Ops B} {q : Ops C} {h : A → C} {g : B → C} → Keeps o q h → Keeps p q g → Relates (plain o) (plain p)
agree {A} {B} {C} {o} {p} {q} {h} {g} k l = record {
  rel = λ x y. Agree h g x y;
  lift = λ r x y. r x y;
  ret = λ r a b i. i;
  bind = λ r s m n f g i j. j m n i;
  dot = λ xs ys i. record { is = dot_agrees o p q h g k l xs ys i };
  neg = λ a b i. record { is = k.neg a ∙ ap q.neg i.is ∙ sym (l.neg b) };
  add = λ a b c d i j. record { is = k.add a b ∙ ap₂ q.add i.is j.is ∙ sym (l.add c d) };
  sub = λ a b c d i j. record { is = k.add _ _ ∙ ap₂ q.add i.is (k.neg b ∙ ap q.neg j.is ∙ sym (l.neg d)) ∙ sym (l.add _ _) };
  one = record { is = k.one ∙ sym l.one };
  zero = record { is = k.nul ∙ sym l.nul };
}

pub itself_keeps : {A : Type 0} (o : Ops A) → Keeps o o (λ x. x)
itself_keeps o = record { add = λ x y. refl; mul = λ x y. refl; neg = λ x. refl; nul = refl; one = refl }

pub cls_keeps : Keeps fracs qo cls
cls_keeps = record { add = λ x y. sym (cls-add x y); mul = λ x y. sym (cls-mul x y); neg = λ x. sym (cls-neg x); nul = cls-zero; one = cls-one }

pub eval_keeps : {A : Type 0} (o : Ops A) (ρ : ℕ → A) → Keeps expr o (eval o ρ)
eval_keeps o ρ = record { add = λ x y. refl; mul = λ x y. refl; neg = λ x. refl; nul = refl; one = refl }

-- a fraction and its number
abbrev pub to_numbers : Relates fractions rationals
to_numbers = agree cls_keeps (itself_keeps qo)

-- an expression and its value
abbrev pub to_values : {A : Type 0} (o : Ops A) (ρ : ℕ → A) → Relates expressions (plain o)
to_values o ρ = agree (eval_keeps o ρ) (itself_keeps o)

-- an expression whose value is the fraction's number
abbrev pub to_fractions : (ρ : ℕ → ℚ) → Relates expressions fractions
to_fractions ρ = agree (eval_keeps qo ρ) cls_keeps

-- ---- fractions that lie in intervals
pub bind_lies : {A B C D : Type 0} (r : A → B → Type 0) (s : C → D → Type 0) (m : A) (n : Result B NumFault) (f : A → C) (g : B → Result D NumFault) → IfOk n (λ y. r m y) → ((a : A) (b : B) → r a b → IfOk (g b) (λ y. s (f a) y)) → IfOk (n >>= g) (λ y. s (f m) y)
bind_lies r s m (Ok y) f g h k = k m y h
bind_lies r s m (Err e) f g h k = tt

pub one_lies : LiesIn fractions.one intervals.one
unfolding F.whole
one_lies = record { above = omega (arith, ints); below = omega (arith, ints) }

pub zero_lies : LiesIn fractions.zero intervals.zero
unfolding F.whole
zero_lies = record { above = omega (arith, ints); below = omega (arith, ints) }

abbrev pub to_intervals : Relates fractions intervals
to_intervals = record {
  rel = λ x v. LiesIn x v;
  lift = λ r x m. IfOk m (λ y. r x y);
  ret = λ r a b h. h;
  bind = bind_lies;
  dot = λ ps vs h. if_ok vs (λ v. LiesIn (dot fracs ps) v) (dot_lies ps vs h);
  neg = neg_lies;
  add = λ x y v w h k. if_added v w (λ t. LiesIn (F.add x y) t) (add_lies x y v w h k);
  sub = λ x y v w h k. if_subtracted v w (λ t. LiesIn (F.add x (F.neg y)) t) (sub_lies x y v w h k);
  one = one_lies;
  zero = zero_lies;
}

-- where the step over intervals has an answer, what is related lies in it
pub ok_met : {A B : Type 0} {r : A → B → Type 0} {m : A} {n : Result B NumFault} {v : B} → n ≡ Ok v → Met to_intervals r m n → r m v
ok_met e h = IfOk-at_ok _ e h.met

-- a fact of the answer, if there is one
pub if_answer : {B : Type 0} (n : Result B NumFault) (P : B → Type 0) → ((v : B) → n ≡ Ok v → P v) → IfOk n P
if_answer (Ok v) P f = f v refl
if_answer (Err e) P f = tt

-- ---- quotients
abbrev pub rational_field : Field
rational_field = record { arith = rationals; div = λ p q. p *ℚ inv q }

pub interval_quotients : RelatesField fraction_field interval_field
interval_quotients = record { base = to_intervals; div = λ x y v w h k. if_divided v w (λ t. LiesIn (F.quot x y) t) (quot_lies x y v w h k) }

-- also by 0, whose inverse is 0
pub number_quotients : RelatesField fraction_field rational_field
number_quotients = record { base = to_numbers; div = λ x y p q h k. record { is = cls_of_quot x y ∙ ap₂ (λ s t. s *ℚ inv t) h.is k.is } }

-- a fraction and another of the same number: each rule keeps `Same`
abbrev pub to_same : Relates fractions fractions
to_same = agree cls_keeps cls_keeps
