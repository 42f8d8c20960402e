-- What one pair of joint columns adds to an entry of the table.
use Rattle.std.proofs.Common.{◌≡◌, ℕ, ◌==◌, ◌&&◌, ◌||◌, Bool, true, false, if◌then◌else◌, [], ◌∷◌, Result, Ok, refl, sym, ◌∙◌, subst, arith}
use Rattle.rb_result.specs.Steps.{◌>>=◌}
use Rattle.rb_frac.specs.Frac.{Frac, Same, fracs, add, mul}
use Rattle.rb_frac.specs.Pairs.{dot}
use Rattle.rb_frac.proofs.Ring.{expr, var}
use Rattle.rb_frac.proofs.Reduce.{same_refl, same_sym, same_trans}
use Rattle.rb_frac.proofs.Rational.{mul_same}
use Rattle.rb_frac.proofs.Hom.{frac_ring}
use Rattle.rb_frac.proofs.Variables.{at}
use Rattle.rb_num.specs.declared.interval.NumFault.{NumFault}
use Rattle.rb_num.specs.Interval.{Interval}
use Rattle.rb_num.specs.Dot.{iv_dot}
use Rattle.rb_num.specs.Refusing.{iv_add}
use Rattle.rb_num.specs.Fraction.{LiesIn}
use Rattle.rb_num.proofs.Same.{lies_in_same}
use Rattle.rb_num.proofs.Relates.{Met, dot_met, add_met}
use Rattle.rb_num.proofs.Bridges.{to_intervals}
use Rattle.rb_composite.proofs.Adding.{Adds, then_lies, met_same, adds_same, adds_nul}
use Rattle.rb_composite.proofs.Summands.{numbers}
use Rattle.rb_mass.proofs.Pass.{weighed, twice_if, pair_adds, is_pair, add_counted}

abbrev NumberWithin : Frac → Result Interval NumFault → Type 0
NumberWithin x r = Met to_intervals LiesIn x r

product_alone : (x y : Frac) → Same (dot fracs ((x, y) ∷ [])) (mul x y)
unfolding dot
product_alone x y =
    frac_ring (at (x ∷ y ∷ [])) (expr.add (expr.mul (var 0) (var 1)) expr.nul) (expr.mul (var 0) (var 1)) refl

multiple_lies : {x y : Frac} {v w : Interval} → LiesIn x v → LiesIn y w → NumberWithin (mul x y) (iv_dot ((v, w) ∷ []))
multiple_lies {x} {y} {v} {w} hx hy =
    met_same numbers (dot fracs ((x, y) ∷ [])) (mul x y) (iv_dot ((v, w) ∷ [])) (product_alone x y) (dot_met to_intervals ((x, y) ∷ []) ((v, w) ∷ []) (hx, hy, tt))

-- ---- shares
-- by how much the two count together, once or twice
abbrev pub counted : Frac → Frac → Bool → Frac
counted r s twice = let both = mul r s in if twice then add both both else both

doubled : (both e : Frac) → Same (add (mul both e) (mul both e)) (mul (add both both) e)
doubled both e =
    frac_ring (at (both ∷ e ∷ [])) (expr.add (expr.mul (var 0) (var 1)) (expr.mul (var 0) (var 1))) (expr.mul (expr.add (var 0) (var 0)) (var 1)) refl

no_share : (e : Frac) → Same fracs.nul (mul fracs.nul e)
no_share e = frac_ring (at (e ∷ [])) expr.nul (expr.mul expr.nul (var 0)) refl

ones : (e : Frac) → Same e (mul (mul fracs.one fracs.one) e)
ones e = frac_ring (at (e ∷ [])) (var 0) (expr.mul (expr.mul expr.one expr.one) (var 0)) refl

both_ones : (r s e : Frac) → Same r fracs.one → Same s fracs.one → Same e (mul (mul r s) e)
both_ones r s e h k =
    same_trans e (mul (mul fracs.one fracs.one) e) (mul (mul r s) e) (ones e)
    (mul_same (mul fracs.one fracs.one) (mul r s) e e (mul_same fracs.one r fracs.one s (same_sym r fracs.one h) (same_sym s fracs.one k)) (same_refl e))

adds_number : (h : Frac) (v : Interval) → LiesIn h v → Adds numbers h (λ sum. iv_add sum v)
adds_number h v l = record { at = λ x w i. add_met to_intervals i l }

-- ---- a pair that is or follows p and q
-- by how much it counts for c and d
abbrev pub share_of : ℕ → ℕ → ℕ → ℕ → Frac → Frac → Frac
share_of c d p q r s =
    let both = mul r s in
    if p == c
    then (if q == d then (if c == d then add both both else both) else fracs.nul)
    else (if p == d then (if q == c then both else fracs.nul) else fracs.nul)

module _ (r s e : Frac) (v w entry : Interval) (hr : LiesIn r v) (hs : LiesIn s w) (he : LiesIn e entry) where
  weighed_lies : NumberWithin (mul (mul r s) e) (weighed v w entry)
  weighed_lies = then_lies (multiple_lies hr hs) (λ both hb. multiple_lies hb he)

  twice_lies : (twice : Bool) (x : Interval) → LiesIn (mul (mul r s) e) x → NumberWithin (mul (counted r s twice) e) (twice_if twice x)
  twice_lies true x hx = met_same numbers (add (mul (mul r s) e) (mul (mul r s) e)) (mul (add (mul r s) (mul r s)) e) (iv_add x x) (doubled (mul r s) e) (add_met to_intervals hx hx)
  twice_lies false x hx = record { met = hx }

  -- where neither joint follows another, its power alone is added
  pair_lies : (follow twice : Bool) → (follow ≡ false → Same r fracs.one × (Same s fracs.one × (twice ≡ false)))
      → NumberWithin (mul (counted r s twice) e) (pair_adds follow twice v w entry)
  pair_lies true twice lead = then_lies weighed_lies (λ x hx. twice_lies twice x hx)
  pair_lies false true lead = absurd (let no : true ≡ false = (lead refl).1.1 in cc)
  pair_lies false false lead = record { met = lies_in_same e (mul (mul r s) e) entry (both_ones r s e (lead refl).0 (lead refl).1.0) he }

  adds_added : (follow twice : Bool) → (follow ≡ false → Same r fracs.one × (Same s fracs.one × (twice ≡ false)))
      → Adds numbers (mul (counted r s twice) e) (λ sum. pair_adds follow twice v w entry >>= λ x. iv_add sum x)
  adds_added follow twice lead = record { at = λ x u l. then_lies (pair_lies follow twice lead) (λ y hy. add_met to_intervals l hy) }

  none_added : (h : Frac) → h ≡ fracs.nul → Adds numbers (mul h e) (λ sum. Ok sum)
  none_added h same = subst (λ (t : Frac). Adds numbers (mul t e) (λ sum. Ok sum)) (sym same) (adds_same numbers fracs.nul (mul fracs.nul e) (λ sum. Ok sum) (no_share e) (adds_nul numbers))

  -- by what is known of p, q, c and d
  by_tests : (pc qd pd qc same follow : Bool) → (pc ≡ true → qd ≡ false → (pd && qc) ≡ false) → (pc ≡ false → pd ≡ true → same ≡ false)
      → (((pc && qd) || (pd && qc)) ≡ true → follow ≡ false → Same r fracs.one × (Same s fracs.one × (same ≡ false)))
      → Adds numbers
      (mul (let both = mul r s in if pc then (if qd then (if same then add both both else both) else fracs.nul) else (if pd then (if qc then both else fracs.nul) else fracs.nul)) e)
      (λ sum. if (pc && qd) || (pd && qc) then (pair_adds follow (same && true) v w entry >>= λ x. iv_add sum x) else Ok sum)
  by_tests true true pd qc true follow h k lead = adds_added follow true (lead refl)
  by_tests true true pd qc false follow h k lead = adds_added follow false (lead refl)
  by_tests true false true true same follow h k lead = absurd (let no : true ≡ false = h refl refl in cc)
  by_tests true false true false same follow h k lead = none_added fracs.nul refl
  by_tests true false false qc same follow h k lead = none_added fracs.nul refl
  by_tests false qd true true true follow h k lead = absurd (let no : true ≡ false = k refl refl in cc)
  by_tests false qd true true false follow h k lead = adds_added follow false (lead refl)
  by_tests false qd true false same follow h k lead = none_added fracs.nul refl
  by_tests false qd false qc same follow h k lead = none_added fracs.nul refl

  -- a column with itself counts once
  by_itself : (pc pd same follow : Bool) → ((pc && pd) ≡ true → follow ≡ false → Same r fracs.one × Same s fracs.one)
      → Adds numbers (mul (if pc then (if pd then mul r s else fracs.nul) else fracs.nul) e)
      (λ sum. if (pc && pd) || (pd && pc) then (pair_adds follow (same && false) v w entry >>= λ x. iv_add sum x) else Ok sum)
  by_itself true true true follow lead = adds_added follow false (λ f. let ones : Same r fracs.one × Same s fracs.one = lead refl f in (ones.0, (ones.1, refl)))
  by_itself true true false follow lead = adds_added follow false (λ f. let ones : Same r fracs.one × Same s fracs.one = lead refl f in (ones.0, (ones.1, refl)))
  by_itself true false same follow lead = none_added fracs.nul refl
  by_itself false true same follow lead = none_added fracs.nul refl
  by_itself false false same follow lead = none_added fracs.nul refl

not_both : (c d p q : ℕ) → (p == c) ≡ true → (q == d) ≡ false → (p == d && q == c) ≡ false
not_both c d p q h k = go (p == d) (q == c) refl refl
  where
    go : (s t : Bool) → (p == d) ≡ s → (q == c) ≡ t → (s && t) ≡ false
    go true true e f = absurd (let pc : p ≡ c = grind arith in let pd : p ≡ d = grind arith in let qc : q ≡ c = grind arith in let qd : ¬ (q ≡ d) = grind arith in qd (qc ∙ sym pc ∙ pd))
    go true false e f = refl
    go false t e f = refl

differ : (c d p : ℕ) → (p == c) ≡ false → (p == d) ≡ true → (c == d) ≡ false
differ c d p h k = grind arith

module _ (c d p q : ℕ) (follow : Bool) (r s e : Frac) (v w entry : Interval) (hr : LiesIn r v) (hs : LiesIn s w) (he : LiesIn e entry) where
  -- two columns
  pub adds_two : (own : Bool) → own ≡ false → (is_pair c d p q ≡ true → follow ≡ false → Same r fracs.one × (Same s fracs.one × ((c == d) ≡ false)))
      → Adds numbers (mul (share_of c d p q r s) e) (λ sum. add_counted c d p q follow own v w entry sum)
  adds_two true o lead = absurd cc
  adds_two false o lead =
      by_tests r s e v w entry hr hs he (p == c) (q == d) (p == d) (q == c) (c == d) follow (not_both c d p q) (differ c d p) lead

module _ (c d p : ℕ) (follow : Bool) (r e : Frac) (v entry : Interval) (hr : LiesIn r v) (he : LiesIn e entry) where
  -- a column with itself
  pub adds_itself : (own : Bool) → own ≡ true → ((p == c && p == d) ≡ true → follow ≡ false → Same r fracs.one)
      → Adds numbers (mul (if p == c then (if p == d then mul r r else fracs.nul) else fracs.nul) e) (λ sum. add_counted c d p p follow own v v entry sum)
  adds_itself true o lead = by_itself r r e v v entry hr hr he (p == c) (p == d) (c == d) follow (λ h f. (lead h f, lead h f))
  adds_itself false o lead = absurd cc
