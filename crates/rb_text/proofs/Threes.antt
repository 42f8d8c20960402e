-- The three brackets that were read are those of the three words.
use Rattle.std.proofs.Common.{◌≡◌, ℕ, List, [], ◌∷◌, Ok, refl, sym, ap}
use Rattle.rb_num.specs.Interval.{Interval}
use Rattle.rb_tags.specs.Words.{words}
use Rattle.rb_result.proofs.Results.{then-ok}
use Rattle.rb_text.specs.Bracket.{bracket_of}
use Rattle.rb_text.specs.Three.{brackets_of_three, three_of, IsThree}

brackets_say : (text : List ℕ) (ws : List (List ℕ)) (v : List Interval) → words text ≡ ws → brackets_of_three ws ≡ Ok v → IsThree text v
brackets_say text [] v w h = absurd cc
brackets_say text (a ∷ []) v w h = absurd cc
brackets_say text (a ∷ b ∷ []) v w h = absurd cc
brackets_say text (a ∷ b ∷ c ∷ d ∷ ws) v w h = absurd cc
brackets_say text (a ∷ b ∷ c ∷ []) v w h =
    let p = then-ok (bracket_of a) _ v h in
    let q = then-ok (bracket_of b) _ v p.2 in
    let r = then-ok (bracket_of c) _ v q.2 in
    record {
      first = a;
      second = b;
      third = c;
      x = p.0;
      y = q.0;
      z = r.0;
      words_are = w;
      x_is = p.1;
      y_is = q.1;
      z_is = r.1;
      are = let same : v ≡ p.0 ∷ q.0 ∷ r.0 ∷ [] = cc in same;
    }

pub three_says : (text : List ℕ) (v : List Interval) → three_of text ≡ Ok v → IsThree text v
unfolding three_of
three_says text v h = brackets_say text (words text) v refl h

pub three_read : (text : List ℕ) (v : List Interval) → IsThree text v → three_of text ≡ Ok v
unfolding three_of
three_read text v t = rw (t.words_are, t.x_is, t.y_is, t.z_is) (ap Ok (sym t.are))
