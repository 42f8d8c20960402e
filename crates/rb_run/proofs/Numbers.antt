-- The fields of numbers, one after the other.
use Rattle.std.proofs.Common.{◌≡◌, ◌<◌, ◌≤◌, ◌+◌, ◌*◌, ℕ, List, [], ◌∷◌, ◌++◌, Bool, length, take, get_or, ◌∙◌, ap, sym, arith, append-nil, append_assoc, length-append}
use Rattle.std.proofs.lemmas.List.{take_more, take_all, flat_map_more}
use Rattle.rb_num.specs.Interval.{Interval}
use Rattle.rb_run.specs.Line.{number_text, numbers_text}

-- what is put behind old, and the room that is left, where these are the first k numbers
pub record NumbersPut (told : Bool) (numbers : List Interval) (old new : List ℕ) (room spare k : ℕ) : Type 0 where
  pub bytes : new ≡ old ++ numbers_text told (take k numbers)
  pub left : spare + length (numbers_text told (take k numbers)) ≡ room
  pub short : length (numbers_text told (take k numbers)) ≤ 81 * k
  pub few : k ≤ length numbers

pub numbers_none : (told : Bool) (numbers : List Interval) (old : List ℕ) (room : ℕ) → NumbersPut told numbers old old room room 0
numbers_none told numbers old room = record { bytes = sym (append-nil old); left = omega arith; short = omega arith; few = omega arith }

pub numbers_more : (told : Bool) (numbers : List Interval) (old mid new : List ℕ) (room spare left k : ℕ) (default number : Interval) → k < length numbers → number ≡ get_or numbers k default
    → NumbersPut told numbers old mid room spare k → new ≡ mid ++ number_text told number → left + length (number_text told number) ≡ spare → length (number_text told number) ≤ 81
    → NumbersPut told numbers old new room left (k + 1)
numbers_more told numbers old mid new room spare left k default number within is put more room_left short =
    let text = numbers_text told (take k numbers) in
    let next : numbers_text told (take (k + 1) numbers) ≡ text ++ number_text told number =
    ap (numbers_text told) (take_more numbers k default within) ∙ ap (λ (n : Interval). numbers_text told (take k numbers ++ n ∷ [])) (sym is)
    ∙ sym (flat_map_more (number_text told) [] (take k numbers) number) in
    let long = length-append text (number_text told number) in
    record {
      bytes = rw (next, more, put.bytes) (append_assoc old text (number_text told number));
      left = rw (next, long) (omega (arith, put.left));
      short = rw (next, long) (omega (arith, put.short));
      few = omega (arith, within);
    }

-- all numbers are put
pub record NumbersWhole (told : Bool) (numbers : List Interval) (old new : List ℕ) (room spare : ℕ) : Type 0 where
  pub bytes : new ≡ old ++ numbers_text told numbers
  pub left : spare + length (numbers_text told numbers) ≡ room
  pub short : length (numbers_text told numbers) ≤ 81 * length numbers

pub numbers_whole : (told : Bool) (numbers : List Interval) (old new : List ℕ) (room spare k : ℕ) → length numbers ≤ k → NumbersPut told numbers old new room spare k → NumbersWhole told numbers old new room spare
numbers_whole told numbers old new room spare k end put =
    let all : take k numbers ≡ numbers = take_all k numbers end in
    let text : numbers_text told (take k numbers) ≡ numbers_text told numbers = ap (numbers_text told) all in
    let long : length (numbers_text told (take k numbers)) ≡ length (numbers_text told numbers) = ap length text in
    record {
      bytes = put.bytes ∙ ap (λ t. old ++ t) text;
      left = omega (arith, put.left, long);
      short = omega (arith, put.short, put.few, long, end);
    }
