-- Marks that run to their closing bytes.
use Rattle.std.proofs.Common.{◌≡◌, ℕ, suc, ◌+◌, ◌≤◌, List, [], ◌∷◌, ◌++◌, length, Option, Some, None, refl, sym, ap, ◌∙◌, append_assoc, arith}
use Rattle.std.proofs.lemmas.List.{length-append, nil_from_length}
use Rattle.rb_tags.specs.Bytes.{after_front, after_first}
use Rattle.std.specs.Option.{option_or}
use Rattle.rb_tags.specs.Grammar.{RunsTo}
use Rattle.rb_tags.specs.BadMarks.{Begins, Lacks}
use Rattle.rb_tags.proofs.Runs.{front_found}
use Rattle.rb_tags.proofs.Steps.{some_is, front_takes}

pub not_front : (front bytes : List ℕ) → after_front front bytes ≡ None → Begins front bytes → ⊥
not_front front bytes none h =
    let some : after_front front bytes ≡ Some h.rest = ap (after_front front) h.text ∙ front_found front h.rest in
    cc

pub no_front : (front bytes : List ℕ) → (Begins front bytes → ⊥) → after_front front bytes ≡ None
no_front front bytes never = by_read (after_front front bytes) refl
  where
    by_read : (o : Option (List ℕ)) → after_front front bytes ≡ o → after_front front bytes ≡ None
    by_read None e = e
    by_read (Some rest) e = absurd (never (record { rest = rest; text = front_takes front bytes rest e }))

-- where two texts begin alike, the shorter one begins the longer one
cut_front : (closing text rest back : List ℕ) → length closing ≤ length text → text ++ rest ≡ closing ++ back → Begins closing text
cut_front [] text rest back short e = record { rest = text; text = refl }
cut_front (c ∷ cs) [] rest back short e = absurd (omega arith)
cut_front (c ∷ cs) (b ∷ bs) rest back short e =
    let first : b ≡ c = cc in
    let others : bs ++ rest ≡ cs ++ back = cc in
    let inner = cut_front cs bs rest back (omega arith) others in
    let whole = inner.text in
    record { rest = inner.rest; text = cc }

-- a part that runs to its closing bytes, and what follows these
pub record Runs (closing bytes rest : List ℕ) : Type 0 where
  pub body : List ℕ
  pub runs : RunsTo closing body
  pub text : bytes ≡ body ++ (closing ++ rest)

runs_none : (closing : List ℕ) → RunsTo closing []
runs_none closing front back e =
    nil_from_length back (omega (arith, ap length e, length-append front (closing ++ back), length-append closing back))

runs_more : (closing : List ℕ) (b : ℕ) (body : List ℕ) → (Begins closing ((b ∷ body) ++ closing) → ⊥) → RunsTo closing body → RunsTo closing (b ∷ body)
runs_more closing b body never runs [] back e = absurd (never (record { rest = back; text = e }))
runs_more closing b body never runs (f ∷ front) back e = let others : body ++ closing ≡ front ++ (closing ++ back) = cc in runs front back others

runs_step : (closing : List ℕ) (b : ℕ) (bs rest : List ℕ) → after_front closing (b ∷ bs) ≡ None → Runs closing bs rest → Runs closing (b ∷ bs) rest
runs_step closing b bs rest none inner =
    let whole : b ∷ bs ≡ (b ∷ inner.body) ++ (closing ++ rest) = ap (λ (t : List ℕ). b ∷ t) inner.text in
    let never : Begins closing ((b ∷ inner.body) ++ closing) → ⊥ = λ (h : Begins closing ((b ∷ inner.body) ++ closing)). not_front closing (b ∷ bs) none (record {
      rest = h.rest ++ rest;
      text = whole ∙ sym (append_assoc (b ∷ inner.body) closing rest) ∙ ap (λ (t : List ℕ). t ++ rest) h.text ∙ append_assoc closing h.rest rest;
    }) in
    record { body = b ∷ inner.body; runs = runs_more closing b inner.body never inner.runs; text = whole }

pub first_takes : (closing bytes rest : List ℕ) → after_first closing bytes ≡ Some rest → Runs closing bytes rest
unfolding after_first
first_takes closing [] rest e = record { body = []; runs = runs_none closing; text = front_takes closing [] rest e }
first_takes closing (b ∷ bs) rest e = by_read (after_front closing (b ∷ bs)) refl e (first_takes closing bs rest)
  where
    by_read : (o : Option (List ℕ)) → after_front closing (b ∷ bs) ≡ o → option_or o (after_first closing bs) ≡ Some rest → (after_first closing bs ≡ Some rest → Runs closing bs rest) → Runs closing (b ∷ bs) rest
    by_read (Some r) is given inner =
        let same : r ≡ rest = some_is r rest given in
        record { body = []; runs = runs_none closing; text = front_takes closing (b ∷ bs) rest (is ∙ ap (λ (t : List ℕ). Some t) same) }
    by_read None is given inner = runs_step closing b bs rest is (inner given)

at_front : (closing bytes rest : List ℕ) → after_front closing bytes ≡ Some rest → after_first closing bytes ≡ Some rest
unfolding after_first
at_front closing [] rest e = e
at_front closing (b ∷ bs) rest e = rw e refl

runs_less : (closing : List ℕ) (b : ℕ) (body : List ℕ) → RunsTo closing (b ∷ body) → RunsTo closing body
runs_less closing b body runs = λ front back e. runs (b ∷ front) back (ap (λ (t : List ℕ). b ∷ t) e)

-- closing bytes do not begin before the end of the body
not_yet : (closing : List ℕ) (b : ℕ) (body rest : List ℕ) → RunsTo closing (b ∷ body) → Begins closing ((b ∷ body) ++ (closing ++ rest)) → ⊥
not_yet closing b body rest runs h =
    let text = (b ∷ body) ++ closing in
    let long : length text ≡ suc (length body) + length closing = length-append (b ∷ body) closing in
    let short : length closing ≤ length text = omega (arith, long) in
    let early = cut_front closing text rest h.rest short (append_assoc (b ∷ body) closing rest ∙ h.text) in
    let none : early.rest ≡ [] = runs [] early.rest early.text in
    let size : length text ≡ length closing + length early.rest = ap length early.text ∙ length-append closing early.rest in
    let nothing : length early.rest ≡ 0 = ap length none in
    omega arith

pub first_again : (closing body rest : List ℕ) → RunsTo closing body → after_first closing (body ++ (closing ++ rest)) ≡ Some rest
unfolding after_first
first_again closing [] rest runs = at_front closing (closing ++ rest) rest (front_found closing rest)
first_again closing (b ∷ body) rest runs =
    let none : after_front closing ((b ∷ body) ++ (closing ++ rest)) ≡ None = no_front closing ((b ∷ body) ++ (closing ++ rest)) (not_yet closing b body rest runs) in
    rw none (first_again closing body rest (runs_less closing b body runs))

some_first : (closing front back : List ℕ) → after_first closing (front ++ (closing ++ back)) ≡ None → ⊥
unfolding after_first
some_first closing [] back none = let some = at_front closing (closing ++ back) back (front_found closing back) in cc
some_first closing (f ∷ front) back none = by_read (after_front closing ((f ∷ front) ++ (closing ++ back))) none (some_first closing front back)
  where
    by_read : (o : Option (List ℕ)) → option_or o (after_first closing (front ++ (closing ++ back))) ≡ None → (after_first closing (front ++ (closing ++ back)) ≡ None → ⊥) → ⊥
    by_read (Some r) given later = cc
    by_read None given later = later given

pub first_lacks : (closing bytes : List ℕ) → after_first closing bytes ≡ None → Lacks closing bytes
first_lacks closing bytes none front back e = some_first closing front back (ap (after_first closing) (sym e) ∙ none)
