use Rattle.std.proofs.Common.{◌≡◌, ◌+◌, ◌++◌, ◌∷◌, [], ℕ, zero, suc, List, ◌∙◌, ap, sym, arith}
use Rattle.std.specs.List.{range_with_len}
use Rattle.rb_srdf.proofs.loops.numbers_to.Goals as goal

range_more : (a n : ℕ) → range_with_len a (suc n) ≡ range_with_len a n ++ (a + n) ∷ []
range_more a zero = let e : a ≡ a + 0 = omega arith in ap (λ k. k ∷ []) e
range_more a (suc n) =
    let e : a + 1 + n ≡ a + suc n = omega arith in
    ap (λ ks. a ∷ ks) (range_more (a + 1) n ∙ ap (λ k. range_with_len (a + 1) n ++ k ∷ []) e)

pushed : (news ks : List ℕ) (k : ℕ) → news ≡ ks ++ k ∷ [] → ks ≡ range_with_len 0 k → news ≡ range_with_len 0 (k + 1)
pushed news ks k pushes is =
    let one : suc k ≡ k + 1 = omega arith in
    let zero_more : k ≡ 0 + k = omega arith in
    pushes ∙ ap (λ (xs : List ℕ). xs ++ k ∷ []) is ∙ ap (λ j. range_with_len 0 k ++ j ∷ []) zero_more ∙ sym (range_more 0 k) ∙ ap (range_with_len 0) one

pub loop-k-preserved : goal.loop-k-preserved
loop-k-preserved c = pushed c.push.new.self.items c.loop-k.order.items c.loop-k.k c.in_ok-push.ensures.items c.loop-k.invariant

pub returns : goal.returns
returns c = let e : c.loop-k.k ≡ c.args.count = omega arith in c.loop-k.invariant ∙ ap (range_with_len 0) e
