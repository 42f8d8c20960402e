-- The values of a row are those of the passes over numbered premises.
use Rattle.std.proofs.Common.{◌≡◌, ℕ, zero, suc, ◌+◌, ◌-◌, ◌<◌, List, [], ◌∷◌, ◌++◌, Result, Ok, Err, refl, sym, ap, ◌∙◌, arith}
use Rattle.rb_result.specs.Steps.{◌>>=◌}
use Rattle.rb_result.proofs.Results.{then-ok, same_ok}
use Rattle.rb_sweep.specs.Sweep.{sweep, upward, downward, counting_up, counting_down}
use Rattle.rb_sweep.proofs.SweepLaws.{sweep-append}
use Rattle.rb_num.specs.declared.interval.NumFault.{NumFault}
use Rattle.rb_num.specs.Interval.{Interval}
use Rattle.rb_num.specs.Arith.{intervals, interval_field}
use Rattle.rb_frac.specs.Spatial.{Force, Inertia}
use Rattle.rb_spatial.specs.Inertias.{less_outer}
use Rattle.rb_articulated.specs.Rules.{and_multiple, over}
use Rattle.rb_aba.specs.Articulated.{Rest, give_way}

-- ---- numbers one after the other
counting_down-last : (n lo : ℕ) → counting_down lo (suc n) ≡ counting_down (suc lo) n ++ (lo ∷ [])
counting_down-last zero lo = let e : lo + 0 ≡ lo = omega arith in ap (λ (k : ℕ). k ∷ []) e
counting_down-last (suc n) lo =
    let e : lo + suc n ≡ suc lo + n = omega arith in
    ap (λ (k : ℕ). k ∷ counting_down lo (suc n)) e ∙ ap (λ (ks : List ℕ). (suc lo + n) ∷ ks) (counting_down-last n lo)

downward-last : (lo hi : ℕ) → lo < hi → downward lo hi ≡ downward (suc lo) hi ++ (lo ∷ [])
unfolding downward
downward-last lo hi h =
    let e : hi - lo ≡ suc (hi - suc lo) = omega arith in
    ap (counting_down lo) e ∙ counting_down-last (hi - suc lo) lo

counting_up-last : (n lo : ℕ) → counting_up lo (suc n) ≡ counting_up lo n ++ ((lo + n) ∷ [])
counting_up-last zero lo = let e : lo + 0 ≡ lo = omega arith in ap (λ (k : ℕ). k ∷ []) (sym e)
counting_up-last (suc n) lo =
    let e : lo + 1 + n ≡ lo + suc n = omega arith in
    ap (λ (ks : List ℕ). lo ∷ ks) (counting_up-last n (lo + 1)) ∙ ap (λ (k : ℕ). lo ∷ (counting_up (lo + 1) n ++ (k ∷ []))) e

upward-last : (k : ℕ) → upward 0 (suc k) ≡ upward 0 k ++ (k ∷ [])
unfolding upward
upward-last k =
    let e : suc k - 0 ≡ suc k = omega arith in
    let f : k - 0 ≡ k = omega arith in
    let g : 0 + k ≡ k = omega arith in
    ap (counting_up 0) e ∙ counting_up-last k 0 ∙ ap (λ (n : ℕ). counting_up 0 n ++ ((0 + k) ∷ [])) (sym f) ∙ ap (λ (n : ℕ). counting_up 0 (k - 0) ++ (n ∷ [])) g

downward-none : (n : ℕ) → downward n n ≡ []
unfolding downward
downward-none n = let e : n - n ≡ 0 = omega arith in ap (counting_down n) e

upward-none : upward 0 0 ≡ []
unfolding upward
upward-none = refl

-- one more step
module _ {S E : Type 0} (step : ℕ → S → Result S E) where
  last : (k : ℕ) (t : S) → (sweep step (k ∷ []) t) ≡ step k t
  last k t = go (step k t)
    where
      go : (r : Result S E) → (r >>= λ x. (let y : Result S E = Ok x in y)) ≡ r
      go (Ok x) = refl
      go (Err e) = refl

  pub sweep_down_last : (lo hi : ℕ) (s t u : S) → lo < hi → sweep step (downward (suc lo) hi) s ≡ Ok t → step lo t ≡ Ok u → sweep step (downward lo hi) s ≡ Ok u
  sweep_down_last lo hi s t u h e f =
      ap (λ (ks : List ℕ). sweep step ks s) (downward-last lo hi h)
      ∙ sweep-append step (downward (suc lo) hi) (lo ∷ []) s
      ∙ ap (λ (r : Result S E). r >>= λ x. sweep step (lo ∷ []) x) e
      ∙ last lo t ∙ f

  pub sweep_up_last : (k : ℕ) (s t u : S) → sweep step (upward 0 k) s ≡ Ok t → step k t ≡ Ok u → sweep step (upward 0 (suc k)) s ≡ Ok u
  sweep_up_last k s t u e f =
      ap (λ (ks : List ℕ). sweep step ks s) (upward-last k)
      ∙ sweep-append step (upward 0 k) (k ∷ []) s
      ∙ ap (λ (r : Result S E). r >>= λ x. sweep step (k ∷ []) x) e
      ∙ last k t ∙ f

  pub sweep_down_none : (n : ℕ) (s : S) → sweep step (downward n n) s ≡ Ok s
  sweep_down_none n s = ap (λ (ks : List ℕ). sweep step ks s) (downward-none n)

  pub sweep_up_none : (s : S) → sweep step (upward 0 0) s ≡ Ok s
  sweep_up_none s = ap (λ (ks : List ℕ). sweep step ks s) upward-none

-- what was found, or something else
abbrev pub found_or : {A E : Type 0} → Result A E → A → A
found_or (Ok x) d = x
found_or (Err e) d = d

pub found_is : {A E : Type 0} (r : Result A E) (x d : A) → r ≡ Ok x → found_or r d ≡ x
found_is r x d e = ap (λ q. found_or q d) e

-- ---- a column that gives way
pub record GaveWay (U : Force Interval) (D u : Interval) (rest next : Rest) : Type 0 where
  pub W : Force Interval
  pub divided : over interval_field U D ≡ Ok W
  pub inertia : less_outer intervals rest.0 U W ≡ Ok next.0
  pub bias : and_multiple intervals rest.1 u W ≡ Ok next.1

pub gave_way : (U : Force Interval) (D u : Interval) (rest next : Rest) → give_way U D u rest ≡ Ok next → GaveWay U D u rest next
unfolding give_way
gave_way U D u rest next e =
    let first = then-ok (over interval_field U D) _ next e in
    let second = then-ok (less_outer intervals rest.0 U first.0) _ next first.2 in
    let third = then-ok (and_multiple intervals rest.1 u first.0) _ next second.2 in
    let pair : Inertia Interval → Force Interval → Rest = λ x y. (x, y) in
    let same : pair second.0 third.0 ≡ next = same_ok {E = NumFault} (pair second.0 third.0) next third.2 in
    let wrap_inertia : Inertia Interval → Result (Inertia Interval) NumFault = λ x. Ok x in
    let wrap_force : Force Interval → Result (Force Interval) NumFault = λ x. Ok x in
    record {
      W = first.0;
      divided = first.1;
      inertia = second.1 ∙ ap (λ (r : Rest). wrap_inertia r.0) same;
      bias = third.1 ∙ ap (λ (r : Rest). wrap_force r.1) same;
    }
