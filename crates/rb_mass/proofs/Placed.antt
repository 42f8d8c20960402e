-- The laws of one place of a work, and of two, taken from those of calls.
use Rattle.std.proofs.Common.{◌≡◌, ◌≢◌, ℕ, ◌+◌, ◌-◌, ◌*◌, ◌<◌, [], ◌∷◌, Err, ◌⊎◌, inl, inr, refl, sym, subst, arith}
use Rattle.std.proofs.lemmas.Bool.{cases_lt}
use Rattle.rb_work.specs.declared.names.NameKind.TheVariants as K
use Rattle.rb_work.specs.declared.names.RowFault.TheVariants.{Size}
use Rattle.rb_work.specs.Names.{one}
use Rattle.rb_work.specs.Path.{Ascends}
use Rattle.rb_work.specs.View.{Extent, View, blank_of}
use Rattle.rb_work.specs.Place.{Place, I_of, H_of, packed_of, ValueOf, look, put, Rule, names}
use Rattle.rb_work.proofs.PlaceLaws.{Inside, Call, IsCall, ordered}
use Rattle.rb_work.proofs.Sizes.{sizes_of, sizes_for}
use Rattle.rb_sweep.specs.Naming.{run}

abbrev none : Rule
none n w = Err (Size (one K.I 0))

module _ (e : Extent) (ascends : Ascends e.up) where
  abbrev only : Place → Call
  only p = record {
    rule = none;
    order = p ∷ [];
    extent = e;
    rank = λ m. 0;
    Own = λ m. m ≡ p;
    Read = λ m. ⊥;
    rest = λ w. blank_of e;
    sweep = run (names none (p ∷ [])) (p ∷ []);
  }

  is_only : (p : Place) → Inside e p → IsCall (only p)
  is_only p inside = record {
    ascends = ascends;
    first = 0;
    end = 1;
    climbs = (refl, omega arith, omega arith);
    listed = λ m k. inl k;
    inside = λ m k. subst (λ (q : Place). Inside e q) (sym k) inside;
    apart = λ m x w k. refl;
    reads = λ n s t k g h. refl;
    runs = λ w. refl;
  }

  pub look_same : (p : Place) (x : ValueOf p) (w : View) → Inside e p → sizes_of w ≡ sizes_for e → look p (put p x w) ≡ x
  look_same p x w i f = (ordered (only p) (is_only p i)).put_same p x w refl f

  module _ (m q : Place) (rank : Place → ℕ) (l : rank m < rank q) (inside_m : Inside e m) (inside_q : Inside e q) where
    abbrev both : Call
    both = record {
      rule = none;
      order = m ∷ q ∷ [];
      extent = e;
      rank = rank;
      Own = λ n. (n ≡ m) ⊎ (n ≡ q);
      Read = λ n. ⊥;
      rest = λ w. blank_of e;
      sweep = run (names none (m ∷ q ∷ [])) (m ∷ q ∷ []);
    }

    inside_both : (n : Place) → (n ≡ m) ⊎ (n ≡ q) → Inside e n
    inside_both n (inl k) = subst (λ (q : Place). Inside e q) (sym k) inside_m
    inside_both n (inr k) = subst (λ (q : Place). Inside e q) (sym k) inside_q

    is_both : IsCall both
    is_both = record {
      ascends = ascends;
      first = rank m;
      end = rank q + 1;
      climbs = (inl refl, omega arith, (inr refl, omega arith, omega arith));
      listed = λ n k. elim k [ inl a ↦ inl a | inr b ↦ inr (inl b) ];
      inside = inside_both;
      apart = λ n x w k. refl;
      reads = λ n s t k g h. refl;
      runs = λ w. refl;
    }

    look_other : (x : ValueOf q) (w : View) → sizes_of w ≡ sizes_for e → look m (put q x w) ≡ look m w
    look_other x w f = (ordered both is_both).put_other m q x w (inl refl) (inr refl) f l

  -- of the tables that are written here
  abbrev pub number : Place → ℕ
  number (I_of i) = i
  number (H_of f g) = f * 1000 + g
  number (packed_of c d) = c * 1000 + d
  number _ = 0

  pub look_apart : (m q : Place) (x : ValueOf q) (w : View) → number m ≢ number q → number m < 100000 → number q < 100000 → Inside e m → Inside e q
      → sizes_of w ≡ sizes_for e → look m (put q x w) ≡ look m w
  look_apart m q x w ne hm hq im iq f =
      elim (cases_lt (number m) (number q)) [
        | inl l ↦ look_other m q number l im iq x w f
        | inr g ↦ look_other m q (λ p. 100000 - number p) (omega arith) im iq x w f
      ]
