-- What the fields of a record say: records, links and numbers.
use Rattle.std.proofs.Common.{◌≡◌, ◌≢◌, ◌||◌, not, ℕ, T, Bool, true, false, cond, pos, ℤ, ◌≤ℤ◌, ◌<ℤ◌, List, [], ◌∷◌, length, Option, Some, None, Result, Ok, Err, refl, sym, ap, ◌∙◌, subst, arith, true≢false, eqb-true, eq-eqb}
use Rattle.std.specs.Prelude.{option_map, option_and_then, is_some, ◌==◌}
use Rattle.std.specs.Result.{MatchResult, IsOk}
use Rattle.std.specs.Int.Signed.{lt_z, lt_z_yes, lt_z_no}
use Rattle.std.specs.List.{list_all}
use Rattle.std.specs.Str.{is_utf8, IsUtf8}
use Rattle.std.proofs.lemmas.Str.{IsUtf8-from_is_utf8}
use Rattle.std.proofs.lemmas.Int.{ints}
use Rattle.std.proofs.lemmas.Bool.{and_parts}
use Rattle.rb_frac.specs.Ops.{V3}
use Rattle.rb_frac.specs.Tables.{Vectors}
use Rattle.rb_num.specs.Interval.{Interval, grid}
use Rattle.rb_text.specs.Bracket.{bracket_of}
use Rattle.rb_text.specs.declared.bracket.TextFault.{TextFault}
use Rattle.rb_record.specs.Record.{fields_in}
use Rattle.rb_flat.specs.Contact.{RowNumbers}
use Rattle.rb_tree.specs.Robot.{Tree}
use Rattle.rb_tree.specs.Groups.{body_of_link}
use Rattle.rb_constraint.specs.Constraints.{AreNumbersWithin}
use Rattle.rb_constraint.specs.File.{field, name_in, first_link, second_link, three_from, IsRecord, IsLinkOrWorld, AreLinks, IsNumber, AreNumbers}
use Rattle.rb_constraint.specs.Read.{is_empty, is_whole, if_whole, record_of, link_or_world, both, links_of, if_read, number_of, three_of, is_outside, numbers_of}

-- ---- options
pub some-once : {A : Type 0} (o : Option A) (x y : A) → o ≡ Some x → o ≡ Some y → x ≡ y
some-once o x y p q = let same : Some x ≡ Some y = sym p ∙ q in cc

pub some-none : {A : Type 0} (o : Option A) (x : A) → o ≡ Some x → o ≡ None → ⊥
some-none o x p q = let same : Some x ≡ None = sym p ∙ q in absurd cc

and-then-some : {A B : Type 0} (f : A → Option B) (o : Option A) (y : B) → option_and_then f o ≡ Some y → (x : A) × (o ≡ Some x) × (f x ≡ Some y)
and-then-some f None y h = absurd cc
and-then-some f (Some x) y h = (x, refl, h)

mapped-some : {A B : Type 0} (f : A → B) (o : Option A) (y : B) → option_map f o ≡ Some y → (x : A) × (o ≡ Some x) × (f x ≡ y)
mapped-some f None y h = absurd cc
mapped-some f (Some x) y h = let same : f x ≡ y = cc in (x, refl, same)

if-some : {A : Type 0} (b : Bool) (x y : A) → cond b (Some x) None ≡ Some y → (b ≡ true) × (x ≡ y)
if-some true x y h = let same : x ≡ y = cc in (refl, same)
if-some false x y h = absurd cc

unless-some : {A : Type 0} (b : Bool) (x y : A) → cond b None (Some x) ≡ Some y → (b ≡ false) × (x ≡ y)
unless-some false x y h = let same : x ≡ y = cc in (refl, same)
unless-some true x y h = absurd cc

-- ---- records
empty-not : (xs : List ℕ) → not (is_empty xs) ≡ true → xs ≢ []
empty-not [] h none = true≢false (sym h)
empty-not (x ∷ xs) h none = cc none

not-empty : (xs : List ℕ) → xs ≢ [] → not (is_empty xs) ≡ true
not-empty [] some = absurd (some refl)
not-empty (x ∷ xs) some = refl

whole-says : (line : List ℕ) (fields : List (List ℕ)) → fields_in line ≡ Some fields → is_whole fields ≡ true → IsRecord line fields
unfolding is_whole
whole-says line fields read whole =
    let p = and_parts (length fields == 12) _ whole in
    let q = and_parts (list_all is_utf8 fields) _ p.1 in
    record { read = read; twelve = eqb-true (length fields) 12 p.0; text = q.0; named = empty-not (name_in fields) q.1 }

whole-read : (line : List ℕ) (fields : List (List ℕ)) → IsRecord line fields → is_whole fields ≡ true
unfolding is_whole
whole-read line fields is = rw (eq-eqb (length fields) 12 is.twelve, is.text) (not-empty (name_in fields) is.named)

pub record-says : (line : List ℕ) (fields : List (List ℕ)) → record_of line ≡ Some fields → IsRecord line fields
unfolding record_of
record-says line fields h =
    let p = and-then-some if_whole (fields_in line) fields h in
    let q = if-some (is_whole p.0) p.0 fields p.2 in
    subst (IsRecord line) q.1 (whole-says line p.0 p.1 q.0)

pub record-read : (line : List ℕ) (fields : List (List ℕ)) → IsRecord line fields → record_of line ≡ Some fields
unfolding record_of
record-read line fields is = ap (option_and_then if_whole) is.read ∙ ap (λ b. cond b (Some fields) None) (whole-read line fields is)

pub record-once : (line : List ℕ) (a b : List (List ℕ)) → IsRecord line a → IsRecord line b → a ≡ b
record-once line a b p q = some-once (fields_in line) a b p.read q.read

-- ---- links
world-says : (tree : Tree) (text : List ℕ) (body : ℕ) → link_or_world tree text ≡ Some body → IsLinkOrWorld tree text body
world-says tree [] body h = let same : 0 ≡ body = cc in sym same
world-says tree (byte ∷ bytes) body h = h

world-read : (tree : Tree) (text : List ℕ) (body : ℕ) → IsLinkOrWorld tree text body → link_or_world tree text ≡ Some body
world-read tree [] body h = ap Some (sym h)
world-read tree (byte ∷ bytes) body h = h

both-some : (a b : Option ℕ) (bodies : ℕ × ℕ) → both a b ≡ Some bodies → (a ≡ Some bodies.0) × (b ≡ Some bodies.1)
both-some None b bodies h = absurd cc
both-some (Some i) None bodies h = absurd cc
both-some (Some i) (Some j) bodies h = let same : (i, j) ≡ bodies = cc in (ap (λ (p : ℕ × ℕ). Some p.0) same, ap (λ (p : ℕ × ℕ). Some p.1) same)

pub links-say : (tree : Tree) (fields : List (List ℕ)) (bodies : ℕ × ℕ) → links_of tree fields ≡ Some bodies → AreLinks tree fields bodies
unfolding links_of
links-say tree fields bodies h =
    let p = both-some (body_of_link tree.bodies (first_link fields)) (link_or_world tree (second_link fields)) bodies h in
    record { first = p.0; second = world-says tree (second_link fields) bodies.1 p.1 }

pub links-read : (tree : Tree) (fields : List (List ℕ)) (bodies : ℕ × ℕ) → AreLinks tree fields bodies → links_of tree fields ≡ Some bodies
unfolding links_of
links-read tree fields bodies are = rw (are.first, world-read tree (second_link fields) bodies.1 are.second) refl

-- ---- numbers
number-says : (text : List ℕ) (v : Interval) → number_of text ≡ Some v → IsNumber text v
unfolding number_of
number-says [] v h = cc
number-says (byte ∷ bytes) v h = by (bracket_of (byte ∷ bytes)) refl h
  where
    by : (r : Result Interval TextFault) → bracket_of (byte ∷ bytes) ≡ r → if_read r ≡ Some v → bracket_of (byte ∷ bytes) ≡ Ok v
    by (Ok w) e h = let same : w ≡ v = cc in e ∙ ap Ok same
    by (Err fault) e h = absurd cc

number-read : (text : List ℕ) (v : Interval) → IsNumber text v → number_of text ≡ Some v
unfolding number_of
number-read [] v h = ap Some (sym h)
number-read (byte ∷ bytes) v h = ap if_read h

three-say : (t : V3 (List ℕ)) (v : V3 Interval) → three_of t ≡ Some v → Vectors IsNumber t v
unfolding three_of
three-say t v h =
    let x = and-then-some _ (number_of t.x) v h in
    let y = and-then-some _ (number_of t.y) v x.2 in
    let z = mapped-some _ (number_of t.z) v y.2 in
    subst (Vectors IsNumber t) z.2 (record { x = number-says t.x x.0 x.1; y = number-says t.y y.0 y.1; z = number-says t.z z.0 z.1 })

three-read : (t : V3 (List ℕ)) (v : V3 Interval) → Vectors IsNumber t v → three_of t ≡ Some v
unfolding three_of
three-read t v are = rw (number-read t.x v.x are.x, number-read t.y v.y are.y, number-read t.z v.z are.z) refl

lt-false : (a b : ℤ) → lt_z a b ≡ false → b ≤ℤ a
lt-false a b e = lt_z_no (subst (λ (x : Bool). T (not x)) (sym e) tt)

not-lt : (a b : ℤ) → b ≤ℤ a → lt_z a b ≡ false
not-lt a b le = by (lt_z a b) refl
  where
    by : (t : Bool) → lt_z a b ≡ t → lt_z a b ≡ false
    by false e = e
    by true e = let less : a <ℤ b = lt_z_yes (subst (λ (x : Bool). T x) (sym e) tt) in absurd (omega (arith, ints))

neither : (a b : Bool) → (a || b) ≡ false → (a ≡ false) × (b ≡ false)
neither false b h = (refl, h)
neither true b h = absurd (true≢false h)

inside-says : (n : RowNumbers Interval) → is_outside n.compliance n.restitution ≡ false → AreNumbersWithin n
unfolding is_outside
inside-says n h =
    let p = neither (lt_z n.compliance.lo (pos 0)) _ h in
    let q = neither (lt_z n.restitution.lo (pos 0)) _ p.1 in
    record { compliance = lt-false n.compliance.lo (pos 0) p.0; restitution_from = lt-false n.restitution.lo (pos 0) q.0; restitution_to = lt-false (pos grid) n.restitution.hi q.1 }

inside-read : (n : RowNumbers Interval) → AreNumbersWithin n → is_outside n.compliance n.restitution ≡ false
unfolding is_outside
inside-read n are = rw (not-lt n.compliance.lo (pos 0) are.compliance, not-lt n.restitution.lo (pos 0) are.restitution_from, not-lt (pos grid) n.restitution.hi are.restitution_to) refl

pub numbers-say : (fields : List (List ℕ)) (n : RowNumbers Interval) → numbers_of fields ≡ Some n → AreNumbers fields n
unfolding numbers_of
numbers-say fields n h =
    let p = and-then-some _ (three_of (three_from 3 fields)) n h in
    let q = and-then-some _ (three_of (three_from 7 fields)) n p.2 in
    let mu = and-then-some _ (number_of (field 10 fields)) n q.2 in
    let e = and-then-some _ (number_of (field 11 fields)) n mu.2 in
    let found : RowNumbers Interval = record { first_point = p.0; second_point = q.0; compliance = mu.0; restitution = e.0 } in
    let w = unless-some (is_outside mu.0 e.0) found n e.2 in
    subst (AreNumbers fields) w.1 (record {
      first_point = three-say (three_from 3 fields) p.0 p.1;
      second_point = three-say (three_from 7 fields) q.0 q.1;
      compliance = number-says (field 10 fields) mu.0 mu.1;
      restitution = number-says (field 11 fields) e.0 e.1;
      within = inside-says found w.0;
    })

pub numbers-read : (fields : List (List ℕ)) (n : RowNumbers Interval) → AreNumbers fields n → numbers_of fields ≡ Some n
unfolding numbers_of
numbers-read fields n are =
    rw (three-read (three_from 3 fields) n.first_point are.first_point, three-read (three_from 7 fields) n.second_point are.second_point, number-read (field 10 fields) n.compliance are.compliance, number-read (field 11 fields) n.restitution are.restitution, inside-read n are.within) refl

-- ---- what tests of a record show
pub record_tested : (line : List ℕ) (fields : List (List ℕ)) (whole : Bool) → fields_in line ≡ Some fields → whole ≡ is_whole fields → whole ≡ is_some (record_of line)
unfolding record_of
record_tested line fields whole read is = is ∙ by (is_whole fields) ∙ ap (λ o. is_some (option_and_then if_whole o)) (sym read)
  where
    by : (b : Bool) → b ≡ is_some (cond b (Some fields) None)
    by true = refl
    by false = refl

pub record_found : (line : List ℕ) (fields : List (List ℕ)) (whole : Bool) → fields_in line ≡ Some fields → whole ≡ is_whole fields → whole ≡ true → record_of line ≡ Some fields
unfolding record_of
record_found line fields whole read is passed = ap (option_and_then if_whole) read ∙ ap (λ b. cond b (Some fields) None) (sym is ∙ passed)

pub record_none : (line : List ℕ) (one : Bool) → one ≡ is_some (fields_in line) → one ≡ false → one ≡ is_some (record_of line)
unfolding record_of
record_none line one is failed = failed ∙ by (fields_in line) (sym failed ∙ is)
  where
    by : (o : Option (List (List ℕ))) → false ≡ is_some o → false ≡ is_some (option_and_then if_whole o)
    by None e = refl
    by (Some x) e = absurd (true≢false (sym e))

-- the name of a record is text
first-text : (fields : List (List ℕ)) → list_all is_utf8 fields ≡ true → length fields ≡ 12 → is_utf8 (field 0 fields) ≡ true
first-text [] all twelve = absurd (omega arith)
first-text (x ∷ xs) all twelve = (and_parts (is_utf8 x) (list_all is_utf8 xs) all).0

pub name_is_text : (fields : List (List ℕ)) → is_whole fields ≡ true → is_utf8 (name_in fields) ≡ true
unfolding is_whole
name_is_text fields whole =
    let p = and_parts (length fields == 12) _ whole in
    let q = and_parts (list_all is_utf8 fields) _ p.1 in
    first-text fields q.0 (eqb-true (length fields) 12 p.0)

pub text_read : {A E : Type 0} (text : List ℕ) (P : A → Type 0) (Q : E → Type 0) (r : Result A E) → MatchResult r (λ s. P s × IsUtf8 text) (λ e. ¬ (IsUtf8 text) × Q e) → is_utf8 text ≡ true → IsOk r
text_read text P Q (Ok s) cases is = refl
text_read text P Q (Err e) cases is = absurd (cases.0 (IsUtf8-from_is_utf8 text is))

pub record_whole : (line : List ℕ) (fields : List (List ℕ)) → record_of line ≡ Some fields → is_whole fields ≡ true
record_whole line fields h = whole-read line fields (record-says line fields h)
