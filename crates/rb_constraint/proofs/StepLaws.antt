-- One line behind those before it: the constraint that it says, and what may be wrong with it.
use Rattle.std.proofs.Common.{◌≡◌, ◌≤◌, ◌<◌, ◌+◌, ℕ, Bool, true, false, List, [], ◌∷◌, length, Option, Some, Ok, refl, sym, ap, ◌∙◌, subst, arith, true≢false, ltb-true, ltb-false}
use Rattle.std.specs.Prelude.{Any, bytes_eq, nat_lt}
use Rattle.std.specs.List.{AllZip}
use Rattle.std.specs.Option.{ok_or}
use lib.ListN.{length-map}
use Rattle.rb_num.specs.Interval.{Interval}
use Rattle.rb_flat.specs.Contact.{RowNumbers}
use Rattle.rb_result.proofs.Results.{then-ok, found-ok, unless-ok}
use Rattle.rb_tags.specs.InOrder.{SaysNone, ◌when◌}
use Rattle.rb_tags.proofs.Obeying.{Obeys, obeys-ok, obeys-next, obeys-found, obeys-unless}
use Rattle.rb_srdf.proofs.GivenLaws.{is-text, same-text}
use Rattle.rb_srdf.proofs.Lists.{zip-any, any-zip}
use Rattle.rb_tree.specs.Robot.{Tree}
use Rattle.rb_constraint.specs.declared.axes.Axes.{Axes}
use Rattle.rb_constraint.specs.declared.faults.ConKind.{ConKind}
use Rattle.rb_constraint.specs.declared.faults.ConKind.TheVariants as kind
use Rattle.rb_constraint.specs.declared.constraints.Constraint.{Constraint}
use Rattle.rb_constraint.specs.declared.constraints.TheConstants.{MAX_ROWS}
use Rattle.rb_constraint.specs.Axes.{directions}
use Rattle.rb_constraint.specs.Constraints.{row_of, own_rows, rows_of, numbers_of as numbers_in}
use Rattle.rb_constraint.specs.File.{NumberedLine, name_in, axes_in, IsRecord, IsAxes, AreLinks, AreNumbers, Says}
use Rattle.rb_constraint.specs.Refusals.{HasFields, LacksRecord, IsNamed, HasNameAgain, LacksAxes, LacksLinks, LacksNumbers, HasTooManyRows, line_refusals}
use Rattle.rb_constraint.specs.Read.{record_of, axes_of, links_of, numbers_of, is_named, constraint_with, constraint_of, constraint_in}
use Rattle.rb_constraint.proofs.AxesLaws.{letters-counted, axes-say, axes-read, axes-once}
use Rattle.rb_constraint.proofs.FieldLaws.{some-once, some-none, record-says, record-read, record-once, links-say, links-read, numbers-say, numbers-read}

-- ---- what a line says is one constraint
world-once : (tree : Tree) (fields : List (List ℕ)) (a b : ℕ × ℕ) → AreLinks tree fields a → AreLinks tree fields b → a ≡ b
world-once tree fields a b p q = some-once (links_of tree fields) a b (links-read tree fields a p) (links-read tree fields b q)

same-parts : (name other : List ℕ) (axes others : Axes) (bodies ends : ℕ × ℕ) (n m : RowNumbers Interval) → name ≡ other → axes ≡ others → bodies ≡ ends → n ≡ m
    → constraint_with name axes bodies n ≡ constraint_with other others ends m
same-parts name other axes others bodies ends n m e f g h = rw (e, f, g, h) refl

pub says-once : (tree : Tree) (line : NumberedLine) (a b : Constraint) → Says tree line a → Says tree line b → a ≡ b
says-once tree line a b p q =
    let same = record-once line.content p.fields q.fields p.is q.is in
    let axes : IsAxes (axes_in q.fields) a.axes = subst (λ f. IsAxes (axes_in f) a.axes) same p.axes in
    let links : AreLinks tree q.fields (a.body1, a.body2) = subst (λ f. AreLinks tree f (a.body1, a.body2)) same p.links in
    let numbers : AreNumbers q.fields (numbers_in a) = subst (λ f. AreNumbers f (numbers_in a)) same p.numbers in
    same-parts a.name b.name a.axes b.axes (a.body1, a.body2) (b.body1, b.body2) (numbers_in a) (numbers_in b)
    (p.name ∙ ap name_in same ∙ sym q.name)
    (axes-once (axes_in q.fields) a.axes b.axes axes q.axes)
    (world-once tree q.fields (a.body1, a.body2) (b.body1, b.body2) links q.links)
    (some-once (numbers_of q.fields) (numbers_in a) (numbers_in b) (numbers-read q.fields (numbers_in a) numbers) (numbers-read q.fields (numbers_in b) q.numbers))

pub say-once : (tree : Tree) (lines : List NumberedLine) (list others : List Constraint) → AllZip (Says tree) lines list → AllZip (Says tree) lines others → list ≡ others
say-once tree [] [] [] p q = refl
say-once tree [] (a ∷ list) others p q = absurd p
say-once tree [] [] (b ∷ others) p q = absurd q
say-once tree (line ∷ lines) [] others p q = absurd p
say-once tree (line ∷ lines) (a ∷ list) [] p q = absurd q
say-once tree (line ∷ lines) (a ∷ list) (b ∷ others) p q = rw (says-once tree line a b p.0 q.0, say-once tree lines list others p.1 q.1) refl

-- it has as many rows as letters
pub rows-counted : (text : List ℕ) (c : Constraint) → IsAxes text c.axes → length text ≡ length (own_rows c)
rows-counted text c is = ap length is.written ∙ letters-counted c.axes ∙ sym (length-map (directions c.axes) (row_of c))

-- ---- names
named-any : (tree : Tree) (before : List NumberedLine) (made : List Constraint) (name : List ℕ) → AllZip (Says tree) before made → is_named made name ≡ true → Any (IsNamed name) before
named-any tree before made name each h =
    zip-any (Says tree) (λ c. bytes_eq c.name name) (IsNamed name)
    (λ line c s same. record { fields = s.fields; is = s.is; so = sym s.name ∙ is-text c.name name same })
    before made each h

any-named : (tree : Tree) (before : List NumberedLine) (made : List Constraint) (name : List ℕ) → AllZip (Says tree) before made → Any (IsNamed name) before → is_named made name ≡ true
any-named tree before made name each h =
    any-zip (Says tree) (λ c. bytes_eq c.name name) (IsNamed name)
    (λ line c s n. same-text c.name name (s.name ∙ ap name_in (record-once line.content s.fields n.fields s.is n.is) ∙ n.so))
    before made each h

-- ---- what may be wrong
module _ (line : NumberedLine) (fields : List (List ℕ)) (is : IsRecord line.content fields) where
  is-so : (P : List (List ℕ) → Type 0) → HasFields line P → P fields
  is-so P h = subst P (record-once line.content h.fields fields h.is is) h.so

  has-so : (P : List (List ℕ) → Type 0) → P fields → HasFields line P
  has-so P so = record { fields = fields; is = is; so = so }

  lacks-obey : {A : Type 0} (e : ConKind) (S : List (List ℕ) → A → Type 0) (o : Option A) → ((x : A) → o ≡ Some x → S fields x) → ((x : A) → S fields x → o ≡ Some x)
      → Obeys (e when HasFields line (λ f. SaysNone (S f)) ∷ []) (ok_or o e)
  lacks-obey e S o says read =
      obeys-found e (HasFields line (λ f. SaysNone (S f))) o
      (λ x found lacks. is-so (λ f. SaysNone (S f)) lacks x (says x found))
      (λ none. has-so (λ f. SaysNone (S f)) (λ x s. some-none o x (read x s) none))

  module _ (tree : Tree) (before : List NumberedLine) (made : List Constraint) (each : AllZip (Says tree) before made) where
    many : ℕ
    many = length (rows_of made) + length (axes_in fields)

    too-many : nat_lt MAX_ROWS many ≡ true → HasTooManyRows tree before line
    unfolding many
    too-many h = record { earlier = made; say = each; more = has-so (λ f. MAX_ROWS < length (rows_of made) + length (axes_in f)) (ltb-true MAX_ROWS _ h) }

    not-many : nat_lt MAX_ROWS many ≡ false → ¬ HasTooManyRows tree before line
    unfolding many
    not-many h m =
        let more : MAX_ROWS < length (rows_of m.earlier) + length (axes_in fields) = is-so (λ f. MAX_ROWS < length (rows_of m.earlier) + length (axes_in f)) m.more in
        let same : m.earlier ≡ made = say-once tree before m.earlier made m.say each in
        let few : length (rows_of made) + length (axes_in fields) ≤ MAX_ROWS = ltb-false MAX_ROWS _ h in
        absurd (omega (arith, ap (λ list. length (rows_of list)) same))

    fields-obey : Obeys
        (kind.NameTwice when HasNameAgain before line
        ∷ kind.BadRows when LacksAxes line
        ∷ kind.UnknownLink when LacksLinks tree line
        ∷ kind.BadNumber when LacksNumbers line
        ∷ kind.TooMany when HasTooManyRows tree before line
        ∷ [])
        (constraint_of tree made fields)
    unfolding constraint_of many
    fields-obey =
        obeys-unless kind.NameTwice (HasNameAgain before line) _ (is_named made (name_in fields)) _
        (λ h. has-so (λ f. Any (IsNamed (name_in f)) before) (named-any tree before made (name_in fields) each h))
        (λ h again. true≢false (sym (any-named tree before made (name_in fields) each (is-so (λ f. Any (IsNamed (name_in f)) before) again)) ∙ h))
        (λ h.
        obeys-next (ok_or (axes_of (axes_in fields)) kind.BadRows) _ (lacks-obey kind.BadRows (λ f. IsAxes (axes_in f)) (axes_of (axes_in fields)) (axes-say (axes_in fields)) (axes-read (axes_in fields)))
        (λ axes h.
        obeys-next (ok_or (links_of tree fields) kind.UnknownLink) _ (lacks-obey kind.UnknownLink (AreLinks tree) (links_of tree fields) (links-say tree fields) (links-read tree fields))
        (λ bodies h.
        obeys-next (ok_or (numbers_of fields) kind.BadNumber) _ (lacks-obey kind.BadNumber AreNumbers (numbers_of fields) (numbers-say fields) (numbers-read fields))
        (λ n h.
        obeys-unless kind.TooMany (HasTooManyRows tree before line) [] (nat_lt MAX_ROWS many) _ too-many not-many (λ h. obeys-ok [] (constraint_with (name_in fields) axes bodies n) tt)))))

pub line-obeys : (tree : Tree) (before : List NumberedLine) (made : List Constraint) (line : NumberedLine) → AllZip (Says tree) before made
    → Obeys (line_refusals tree before line) (constraint_in tree made line.content)
unfolding constraint_in
line-obeys tree before made line each =
    obeys-next (ok_or (record_of line.content) kind.BadLine) (λ fields. constraint_of tree made fields)
    (obeys-found kind.BadLine (LacksRecord line) (record_of line.content)
    (λ fields found lacks. lacks fields (record-says line.content fields found))
    (λ none fields is. some-none (record_of line.content) fields (record-read line.content fields is) none))
    (λ fields h. fields-obey line fields (record-says line.content fields (found-ok (record_of line.content) kind.BadLine fields h)) tree before made each)

-- ---- the constraint of a line, with a new name and no more rows than there may be
pub record IsNext (tree : Tree) (made : List Constraint) (line : NumberedLine) (c : Constraint) : Type 0 where
  pub say : Says tree line c
  pub new : is_named made c.name ≡ false
  pub few : length (rows_of made) + length (own_rows c) ≤ MAX_ROWS

pub next-says : (tree : Tree) (made : List Constraint) (line : NumberedLine) (c : Constraint) → constraint_in tree made line.content ≡ Ok c → IsNext tree made line c
unfolding constraint_in constraint_of
next-says tree made line c h =
    let r = then-ok (ok_or (record_of line.content) kind.BadLine) _ c h in
    let fields = r.0 in
    let n = unless-ok (is_named made (name_in fields)) kind.NameTwice _ c r.2 in
    let a = then-ok (ok_or (axes_of (axes_in fields)) kind.BadRows) _ c n.1 in
    let l = then-ok (ok_or (links_of tree fields) kind.UnknownLink) _ c a.2 in
    let m = then-ok (ok_or (numbers_of fields) kind.BadNumber) _ c l.2 in
    let t = unless-ok (nat_lt MAX_ROWS (length (rows_of made) + length (axes_in fields))) kind.TooMany _ c m.2 in
    let found = constraint_with (name_in fields) a.0 l.0 m.0 in
    let same : found ≡ c = cc in
    let is = record-says line.content fields (found-ok (record_of line.content) kind.BadLine fields r.1) in
    let axes : IsAxes (axes_in fields) found.axes = axes-say (axes_in fields) a.0 (found-ok (axes_of (axes_in fields)) kind.BadRows a.0 a.1) in
    let few : length (rows_of made) + length (axes_in fields) ≤ MAX_ROWS = ltb-false MAX_ROWS _ t.0 in
    subst (IsNext tree made line) same (record {
      say = record {
        fields = fields;
        is = is;
        name = refl;
        axes = axes;
        links = links-say tree fields l.0 (found-ok (links_of tree fields) kind.UnknownLink l.0 l.1);
        numbers = numbers-say fields m.0 (found-ok (numbers_of fields) kind.BadNumber m.0 m.1);
      };
      new = n.0;
      few = omega (arith, rows-counted (axes_in fields) found axes);
    })

not-over : (a b : ℕ) → b ≤ a → nat_lt a b ≡ false
not-over a b le = by (nat_lt a b) refl
  where
    by : (t : Bool) → nat_lt a b ≡ t → nat_lt a b ≡ false
    by false e = e
    by true e = absurd (omega (arith, ltb-true a b e))

pub next-read : (tree : Tree) (made : List Constraint) (line : NumberedLine) (c : Constraint) → IsNext tree made line c → constraint_in tree made line.content ≡ Ok c
unfolding constraint_in constraint_of
next-read tree made line c is =
    let fields = is.say.fields in
    let name = is.say.name in
    let new : is_named made (name_in fields) ≡ false = ap (is_named made) (sym name) ∙ is.new in
    let few : nat_lt MAX_ROWS (length (rows_of made) + length (axes_in fields)) ≡ false = not-over MAX_ROWS _ (omega (arith, is.few, rows-counted (axes_in fields) c is.say.axes)) in
    let made-of : constraint_with (name_in fields) c.axes (c.body1, c.body2) (numbers_in c) ≡ c = ap (λ n. constraint_with n c.axes (c.body1, c.body2) (numbers_in c)) (sym name) in
    rw (record-read line.content fields is.say.is, new, axes-read (axes_in fields) c.axes is.say.axes, links-read tree fields (c.body1, c.body2) is.say.links, numbers-read fields (numbers_in c) is.say.numbers, few)
    (ap Ok made-of)
