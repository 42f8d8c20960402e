-- Two kinds of arithmetic whose operations keep a relation of their numbers. A rule over `Arith` is shown once to keep any such relation;
-- that it encloses, that it respects equal fractions and that it evaluates are then three readings (`Bridges`).
use Rattle.std.proofs.Common.{List}
use Rattle.rb_num.specs.Arith.{Arith, Field}
use Rattle.rb_frac.specs.Pairs.{PairsRelate}

pub record Relates (R Q : Arith) : Type 1 where
  pub rel : R.N → Q.N → Type 0
  -- that the answers of two steps are related
  pub lift : {A B : Type 0} → (A → B → Type 0) → R.M A → Q.M B → Type 0
  pub ret : {A B : Type 0} (r : A → B → Type 0) (a : A) (b : B) → r a b → lift r (R.ret a) (Q.ret b)
  pub bind : {A B C D : Type 0} (r : A → B → Type 0) (s : C → D → Type 0) (m : R.M A) (n : Q.M B) (f : A → R.M C) (g : B → Q.M D) → lift r m n → ((a : A) (b : B) → r a b → lift s (f a) (g b)) → lift s (R.bind m f) (Q.bind n g)
  pub dot : (ps : List (R.N × R.N)) (qs : List (Q.N × Q.N)) → PairsRelate rel ps qs → lift rel (R.dot ps) (Q.dot qs)
  pub neg : (a : R.N) (b : Q.N) → rel a b → rel (R.neg a) (Q.neg b)
  pub add : (a b : R.N) (c d : Q.N) → rel a c → rel b d → lift rel (R.add a b) (Q.add c d)
  pub sub : (a b : R.N) (c d : Q.N) → rel a c → rel b d → lift rel (R.sub a b) (Q.sub c d)
  pub one : rel R.one Q.one
  pub zero : rel R.zero Q.zero

pub record RelatesField (R Q : Field) : Type 1 where
  pub base : Relates R.arith Q.arith
  pub div : (a b : R.arith.N) (c d : Q.arith.N) → base.rel a c → base.rel b d → base.lift base.rel (R.div a b) (Q.div c d)

-- the same, as a record, so that its arguments are found
pub record Met {R Q : Arith} (K : Relates R Q) {A B : Type 0} (r : A → B → Type 0) (m : R.M A) (n : Q.M B) : Type 0 where
  pub met : K.lift r m n

module _ {R Q : Arith} (K : Relates R Q) where
  pub dot_met : (ps : List (R.N × R.N)) (qs : List (Q.N × Q.N)) → PairsRelate K.rel ps qs → Met K K.rel (R.dot ps) (Q.dot qs)
  dot_met ps qs h = record { met = K.dot ps qs h }

  pub ret_met : {A B : Type 0} {r : A → B → Type 0} {a : A} {b : B} → r a b → Met K r (R.ret a) (Q.ret b)
  ret_met {a = a} {b = b} h = record { met = K.ret _ a b h }

  pub then_met : {A B C D : Type 0} {r : A → B → Type 0} {s : C → D → Type 0} {m : R.M A} {n : Q.M B} {f : A → R.M C} {g : B → Q.M D} → Met K r m n → ((a : A) (b : B) → r a b → Met K s (f a) (g b)) → Met K s (R.bind m f) (Q.bind n g)
  then_met {f = f} {g = g} h k = record { met = K.bind _ _ _ _ f g h.met (λ a b i. (k a b i).met) }

  pub add_met : {a b : R.N} {c d : Q.N} → K.rel a c → K.rel b d → Met K K.rel (R.add a b) (Q.add c d)
  add_met h k = record { met = K.add _ _ _ _ h k }

  pub sub_met : {a b : R.N} {c d : Q.N} → K.rel a c → K.rel b d → Met K K.rel (R.sub a b) (Q.sub c d)
  sub_met h k = record { met = K.sub _ _ _ _ h k }

pub div_met : {R Q : Field} (K : RelatesField R Q) {a b : R.arith.N} {c d : Q.arith.N} → K.base.rel a c → K.base.rel b d → Met K.base K.base.rel (R.div a b) (Q.div c d)
div_met K h k = record { met = K.div _ _ _ _ h k }
