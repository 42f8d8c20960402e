-- What states keep: their entries are there, and the ends of their values are in order.
use Rattle.std.proofs.Common.{◌≡◌, ℕ, zero, suc, ◌+◌, ◌-◌, ◌<◌, ◌≤◌, List, [], ◌∷◌, ◌++◌, length, Bool, true, false, cond, Option, None, Some, Result, Ok, Err, refl, sym, ap, ◌∙◌, subst, arith}
use Rattle.std.specs.Option.{option_map_or}
use Rattle.std.specs.List.{All, AllByRecursion}
use Rattle.std.proofs.lemmas.Option.{slice_get_within}
use Rattle.rb_result.specs.Steps.{◌>>=◌, told_as}
use Rattle.rb_result.proofs.Results.{then-ok}
use Rattle.rb_trig.specs.Sine.{sin_cos_of}
use Rattle.rb_num.specs.Interval.{Interval}
use Rattle.rb_flat.specs.Choice.{IsOrdered}
use Rattle.rb_flat.specs.Joint as Kinds
use Rattle.rb_flat.specs.Joint.{Kind}
use Rattle.rb_joint.specs.Any.{kind_of}
use Rattle.rb_srdf.specs.declared.srdf.JointNumbers.{JointNumbers}
use Rattle.rb_srdf.specs.declared.srdf.Virtual.{Virtual}
use Rattle.rb_tree.specs.declared.faults.TreeKind.{TreeKind}
use Rattle.rb_tree.specs.declared.faults.TreeKind.TheVariants.{UnknownName}
use Rattle.rb_tree.specs.declared.robot.Body.{Body}
use Rattle.rb_tree.specs.declared.robot.Mimic.{Mimic}
use Rattle.rb_tree.specs.declared.states.Entry.{Entry}
use Rattle.rb_tree.specs.Columns.{body_at, leader_at, unless_mimic, own_entries, entry_count, first_entry, start_behind, entries_at, mimic_or}
use Rattle.rb_tree.specs.Groups.{body_of_joint, is_virtual}
use Rattle.rb_tree.specs.Robot.{IsEntryKept, Tree}
use Rattle.rb_tree.specs.States.{turn_of, entries_for, entries_unless, entries_from, body_entries, named_entries, value_entries}
use Rattle.rb_tree.proofs.Spans.{entry_within}

-- ---- how many entries
same_ok : (x y : List Interval) → (let r : Result (List Interval) TreeKind = Ok x in r) ≡ Ok y → x ≡ y
same_ok x y h = cc

counted : (n : ℕ) (x values : List Interval) → length x ≡ n → (let r : Result (List Interval) TreeKind = Ok x in r) ≡ Ok values → length values ≡ n
counted n x values e h = ap length (sym (same_ok x values h)) ∙ e

turn_count : (angle : Interval) (turn : List Interval) → turn_of angle ≡ Ok turn → length turn ≡ 2
unfolding turn_of
turn_count angle turn h = let p = then-ok (told_as _ (sin_cos_of angle)) _ turn h in counted 2 _ turn refl p.2

level_count : (x y angle : Interval) (values : List Interval) → (turn_of angle >>= λ turn. Ok (x ∷ y ∷ turn)) ≡ Ok values → length values ≡ 4
level_count x y angle values h =
    let p = then-ok (turn_of angle) (λ turn. Ok (x ∷ y ∷ turn)) values h in
    let two : length p.0 ≡ 2 = turn_count angle p.0 p.1 in
    counted 4 (x ∷ y ∷ p.0) values (omega arith) p.2

entries_counted : (k : Kind) (numbers values : List Interval) → entries_for k numbers ≡ Ok values → length values ≡ Kinds.entry_count k
unfolding entries_for
entries_counted Kinds.Fixed numbers values h = absurd cc
entries_counted Kinds.Revolute [] values h = absurd cc
entries_counted Kinds.Revolute (a ∷ []) values h = counted 1 (a ∷ []) values refl h
entries_counted Kinds.Revolute (a ∷ b ∷ rest) values h = absurd cc
entries_counted Kinds.Prismatic [] values h = absurd cc
entries_counted Kinds.Prismatic (a ∷ []) values h = counted 1 (a ∷ []) values refl h
entries_counted Kinds.Prismatic (a ∷ b ∷ rest) values h = absurd cc
entries_counted Kinds.Continuous [] values h = absurd cc
entries_counted Kinds.Continuous (a ∷ []) values h = turn_count a values h
entries_counted Kinds.Continuous (a ∷ b ∷ []) values h = counted 2 (a ∷ b ∷ []) values refl h
entries_counted Kinds.Continuous (a ∷ b ∷ c ∷ rest) values h = absurd cc
entries_counted Kinds.Planar [] values h = absurd cc
entries_counted Kinds.Planar (a ∷ []) values h = absurd cc
entries_counted Kinds.Planar (a ∷ b ∷ []) values h = absurd cc
entries_counted Kinds.Planar (a ∷ b ∷ c ∷ []) values h = level_count a b c values h
entries_counted Kinds.Planar (a ∷ b ∷ c ∷ d ∷ rest) values h = absurd cc
entries_counted Kinds.Free [] values h = absurd cc
entries_counted Kinds.Free (a ∷ []) values h = absurd cc
entries_counted Kinds.Free (a ∷ b ∷ []) values h = absurd cc
entries_counted Kinds.Free (a ∷ b ∷ c ∷ []) values h = absurd cc
entries_counted Kinds.Free (a ∷ b ∷ c ∷ d ∷ []) values h = absurd cc
entries_counted Kinds.Free (a ∷ b ∷ c ∷ d ∷ e ∷ []) values h = absurd cc
entries_counted Kinds.Free (a ∷ b ∷ c ∷ d ∷ e ∷ f ∷ []) values h = absurd cc
entries_counted Kinds.Free (a ∷ b ∷ c ∷ d ∷ e ∷ f ∷ g ∷ []) values h = counted 7 (a ∷ b ∷ c ∷ d ∷ e ∷ f ∷ g ∷ []) values refl h
entries_counted Kinds.Free (a ∷ b ∷ c ∷ d ∷ e ∷ f ∷ g ∷ i ∷ rest) values h = absurd cc

-- as many as the joint has of its own
own_count : (k : Kind) (m : Option Mimic) (numbers values : List Interval) → entries_unless k m numbers ≡ Ok values → length values ≡ unless_mimic m (Kinds.entry_count k)
own_count Kinds.Fixed None numbers values h = counted 0 [] values refl h
own_count Kinds.Fixed (Some mimic) numbers values h = counted 0 [] values refl h
own_count Kinds.Revolute None numbers values h = entries_counted Kinds.Revolute numbers values h
own_count Kinds.Revolute (Some mimic) numbers values h = counted 0 [] values refl h
own_count Kinds.Continuous None numbers values h = entries_counted Kinds.Continuous numbers values h
own_count Kinds.Continuous (Some mimic) numbers values h = counted 0 [] values refl h
own_count Kinds.Prismatic None numbers values h = entries_counted Kinds.Prismatic numbers values h
own_count Kinds.Prismatic (Some mimic) numbers values h = counted 0 [] values refl h
own_count Kinds.Planar None numbers values h = entries_counted Kinds.Planar numbers values h
own_count Kinds.Planar (Some mimic) numbers values h = counted 0 [] values refl h
own_count Kinds.Free None numbers values h = entries_counted Kinds.Free numbers values h
own_count Kinds.Free (Some mimic) numbers values h = counted 0 [] values refl h

-- ---- entries of values
abbrev pub IsBelow : ℕ → Entry → Type 0
IsBelow count entry = entry.place < count

abbrev pub HasOrder : Entry → Type 0
HasOrder entry = IsOrdered entry.value

all_below : (count place : ℕ) (values : List Interval) → place + length values ≤ count → AllByRecursion (IsBelow count) (entries_from place values)
all_below count place [] h = tt
all_below count place (x ∷ xs) h = (omega arith, all_below count (place + 1) xs (omega arith))

rest_ordered : (x : Interval) (xs : List Interval) → All IsOrdered (x ∷ xs) → All IsOrdered xs
rest_ordered x xs all k d h = all (suc k) d (omega arith)

all_ordered : (place : ℕ) (values : List Interval) → All IsOrdered values → AllByRecursion HasOrder (entries_from place values)
all_ordered place [] all = tt
all_ordered place (x ∷ xs) all = (all 0 x (omega arith), all_ordered (place + 1) xs (rest_ordered x xs all))

-- the same of what an entry set is seen as
pub entries_ordered : (place : ℕ) (values given : List Interval) (entries : List Entry) → given ≡ values → entries_from place values ≡ entries → All IsOrdered given → AllByRecursion HasOrder entries
entries_ordered place values given entries e view all =
    let P : List Interval → Type 0 = λ vs. All IsOrdered vs in
    subst (AllByRecursion HasOrder) view (all_ordered place values (subst P e all))

pub all_kept : (bodies : List Body) (entries : List Entry) → AllByRecursion (IsBelow (entry_count bodies)) entries → AllByRecursion HasOrder entries → AllByRecursion (IsEntryKept bodies) entries
all_kept bodies [] below ordered = tt
all_kept bodies (entry ∷ entries) below ordered = (record { there = below.0; ordered = ordered.0 }, all_kept bodies entries below.1 ordered.1)

pub kept_append : (bodies : List Body) (first second : List Entry) → AllByRecursion (IsEntryKept bodies) first → AllByRecursion (IsEntryKept bodies) second → AllByRecursion (IsEntryKept bodies) (first ++ second)
kept_append bodies [] second h k = k
kept_append bodies (entry ∷ entries) second h k = (h.0, kept_append bodies entries second h.1 k)

-- ---- where they stand
body_there : (bodies : List Body) (i : ℕ) (body : Body) → body_at bodies i ≡ Some body → (1 ≤ i) × (i ≤ length bodies)
body_there bodies zero body h = absurd cc
body_there bodies (suc k) body h = let within = slice_get_within bodies k body h in (omega arith, omega arith)

own_leader : (bodies : List Body) (i : ℕ) (body : Body) → body_at bodies i ≡ Some body → body.mimic ≡ None → leader_at bodies i ≡ i
own_leader bodies i body is leads = ap (λ (o : Option Body). option_map_or (λ (b : Body). mimic_or b.mimic i) o i) is ∙ ap (λ m. mimic_or m i) leads

own_entries_at : (bodies : List Body) (i : ℕ) (body : Body) → body_at bodies i ≡ Some body → entries_at bodies i ≡ own_entries body
own_entries_at bodies i body is = ap (λ (o : Option Body). option_map_or own_entries o 0) is

below_for : (bodies : List Body) (i : ℕ) (body : Body) (m : Option Mimic) (numbers values : List Interval) → body_at bodies i ≡ Some body → body.mimic ≡ m →
    entries_unless (kind_of body.joint) body.mimic numbers ≡ Ok values → AllByRecursion (IsBelow (entry_count bodies)) (entries_from (first_entry bodies i) values)
below_for bodies i body None numbers values is leads h =
    let tree : Tree = record { name = []; bodies = bodies; groups = []; states = [] } in
    let inside = body_there bodies i body is in
    let within = entry_within tree i (record { from = inside.0; to = inside.1 }) in
    let own : length values ≡ own_entries body = own_count (kind_of body.joint) body.mimic numbers values h in
    let lead = ap (λ j. (start_behind bodies (j - 1)).entry) (own_leader bodies i body is leads) in
    all_below (entry_count bodies) (first_entry bodies i) values (omega (arith, own_entries_at bodies i body is))
below_for bodies i body (Some mimic) numbers values is follows h =
    let none : length values ≡ unless_mimic body.mimic (Kinds.entry_count (kind_of body.joint)) = own_count (kind_of body.joint) body.mimic numbers values h in
    let no : length values ≡ 0 = none ∙ ap (λ m. unless_mimic m (Kinds.entry_count (kind_of body.joint))) follows in
    let P : List Interval → Type 0 = λ vs. AllByRecursion (IsBelow (entry_count bodies)) (entries_from (first_entry bodies i) vs) in
    subst P (sym (empty values no)) tt
  where
    empty : (xs : List Interval) → length xs ≡ 0 → xs ≡ []
    empty [] e = refl
    empty (x ∷ xs) e = absurd (omega arith)

same_entries : (x y : List Entry) → (let r : Result (List Entry) TreeKind = Ok x in r) ≡ Ok y → x ≡ y
same_entries x y h = cc

body_below : (bodies : List Body) (i : ℕ) (numbers : List Interval) (o : Option Body) (entries : List Entry) → body_at bodies i ≡ o → body_entries bodies i numbers o ≡ Ok entries →
    AllByRecursion (IsBelow (entry_count bodies)) entries
body_below bodies i numbers None entries is h = subst (AllByRecursion (IsBelow (entry_count bodies))) (same_entries [] entries h) tt
body_below bodies i numbers (Some body) entries is h =
    let p = then-ok (entries_unless (kind_of body.joint) body.mimic numbers) _ entries h in
    subst (AllByRecursion (IsBelow (entry_count bodies))) (same_entries _ entries p.2) (below_for bodies i body body.mimic numbers p.0 is refl p.1)

named_below : (bodies : List Body) (virtuals : List Virtual) (value : JointNumbers) (o : Option ℕ) (entries : List Entry) → named_entries bodies virtuals value o ≡ Ok entries →
    AllByRecursion (IsBelow (entry_count bodies)) entries
named_below bodies virtuals value (Some i) entries h = body_below bodies i value.numbers (body_at bodies i) entries refl h
named_below bodies virtuals value None entries h = by (is_virtual virtuals value.joint) h
  where
    by : (b : Bool) → (let r : Result (List Entry) TreeKind = Ok [] in cond b r (Err UnknownName)) ≡ Ok entries → AllByRecursion (IsBelow (entry_count bodies)) entries
    by true e = subst (AllByRecursion (IsBelow (entry_count bodies))) (same_entries [] entries e) tt
    by false e = absurd cc

-- the entries of a value are there
pub value_below : (bodies : List Body) (virtuals : List Virtual) (value : JointNumbers) (entries : List Entry) → Ok entries ≡ value_entries bodies virtuals value → AllByRecursion (IsBelow (entry_count bodies)) entries
unfolding value_entries
value_below bodies virtuals value entries h = named_below bodies virtuals value (body_of_joint bodies value.joint) entries (sym h)
