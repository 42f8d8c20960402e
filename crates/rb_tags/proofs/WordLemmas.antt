-- Words come off the front of a text one by one.
use Rattle.std.proofs.Common.{◌≡◌, ℕ, zero, suc, ◌+◌, ◌<◌, ◌≤◌, Bool, true, false, not, List, [], ◌∷◌, length, take, drop, filter, eqb, refl, sym, ap, ◌∙◌, arith}
use Rattle.std.specs.List.{prefix_len, position_or_len, slice_split}
use Rattle.std.proofs.lemmas.List.Sums.{prefix_len-le-length}
use Rattle.std.proofs.lemmas.Bool.Decides.{nat_tests}
use Rattle.rb_tags.specs.Bytes.{is_space}
use Rattle.rb_tags.specs.Words.{words}

abbrev is_word : List ℕ → Bool
is_word word = not (eqb (length word) 0)

is_word-take : (n : ℕ) (text : List ℕ) → 0 < n → n ≤ length text → is_word (take n text) ≡ true
is_word-take zero text h w = absurd (omega arith)
is_word-take (suc n) [] h w = absurd (omega arith)
is_word-take (suc n) (b ∷ bs) h w = grind (arith, nat_tests)

position-le : (p : ℕ → Bool) (text : List ℕ) → position_or_len p text ≤ length text
position-le p text = prefix_len-le-length (λ b. not (p b)) text

-- white space at the front is passed over
pub words-past_space : (text : List ℕ) → words text ≡ words (drop (prefix_len is_space text) text)
unfolding words
words-past_space [] = refl
words-past_space (b ∷ bs) = by (is_space b) refl (words-past_space bs)
  where
    by : (t : Bool) → is_space b ≡ t → words bs ≡ words (drop (prefix_len is_space bs) bs) → words (b ∷ bs) ≡ words (drop (prefix_len is_space (b ∷ bs)) (b ∷ bs))
    by true e rest =
        let one : 1 + prefix_len is_space bs ≡ suc (prefix_len is_space bs) = omega arith in
        rw (e, one) rest
    by false e rest = simp e

-- no word follows
words-none : (text : List ℕ) → position_or_len is_space (drop (prefix_len is_space text) text) ≡ 0 → words (drop (prefix_len is_space text) text) ≡ []
unfolding words
words-none [] h = refl
words-none (b ∷ bs) h = by (is_space b) refl (words-none bs) h
  where
    by : (t : Bool) → is_space b ≡ t → (position_or_len is_space (drop (prefix_len is_space bs) bs) ≡ 0 → words (drop (prefix_len is_space bs) bs) ≡ []) → position_or_len is_space (drop (prefix_len is_space (b ∷ bs)) (b ∷ bs)) ≡ 0 → words (drop (prefix_len is_space (b ∷ bs)) (b ∷ bs)) ≡ []
    by true e rest h =
        let one : 1 + prefix_len is_space bs ≡ suc (prefix_len is_space bs) = omega arith in
        rw (e, one) (rest (rw (e, one) at h))
    by false e rest h = absurd (omega (arith, simp e at h))

-- the first part of a text, and the words of the others
record Parts (text : List ℕ) : Type 0 where
  others : List (List ℕ)
  split : slice_split is_space text ≡ take (position_or_len is_space text) text ∷ others
  words_are : filter is_word others ≡ words (drop (position_or_len is_space text) text)

parts_of : (text : List ℕ) → Parts text
unfolding words
parts_of [] = record { others = []; split = refl; words_are = refl }
parts_of (b ∷ bs) = by (is_space b) refl (parts_of bs)
  where
    by : (t : Bool) → is_space b ≡ t → Parts bs → Parts (b ∷ bs)
    by true e p = record { others = slice_split is_space bs; split = simp e; words_are = simp e }
    by false e p =
        let one : 1 + position_or_len is_space bs ≡ suc (position_or_len is_space bs) = omega arith in
        record { others = p.others; split = rw (e, one, p.split) refl; words_are = rw (e, one) p.words_are }

-- a word follows, and stands before the words behind it
words-next : (text : List ℕ) → 0 < position_or_len is_space text → words text ≡ take (position_or_len is_space text) text ∷ words (drop (position_or_len is_space text) text)
unfolding words
words-next text h =
    let p = parts_of text in
    let some : is_word (take (position_or_len is_space text) text) ≡ true = is_word-take (position_or_len is_space text) text h (position-le is_space text) in
    ap (filter is_word) p.split ∙ rw some (ap (λ ws. take (position_or_len is_space text) text ∷ ws) p.words_are)

-- what the count of white space, and that of the bytes behind it, say of the words
pub no_word : (text rest : List ℕ) (space len : ℕ) → space ≡ prefix_len is_space text → rest ≡ drop space text → len ≡ position_or_len is_space rest → len ≡ 0 → words text ≡ []
no_word text rest space len s r l none =
    words-past_space text ∙ words-none text (ap (position_or_len is_space) (ap (λ k. drop k text) (sym s) ∙ sym r) ∙ sym l ∙ none)

pub one_word : (text rest word others : List ℕ) (space len : ℕ) → space ≡ prefix_len is_space text → rest ≡ drop space text → len ≡ position_or_len is_space rest → 0 < len → word ≡ take len rest → others ≡ drop len rest → words text ≡ word ∷ words others
one_word text rest word others space len s r l some w o =
    words-past_space text ∙ ap words (ap (λ k. drop k text) (sym s) ∙ sym r)
    ∙ words-next rest (rw (← l) some) ∙ rw (← l, ← w, ← o) refl
