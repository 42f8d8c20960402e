-- Positions where entries are set, one after the other.
use Rattle.std.proofs.Common.{◌≡◌, ◌≢◌, ℕ, ◌+◌, ◌<◌, ◌==◌, Bool, true, false, cond, List, [], ◌∷◌, ◌++◌, length, take, set, get_or, filter, flat_map, Option, None, Some, refl, sym, ap, ◌∙◌, subst, arith}
use Rattle.std.specs.Prelude.{bytes_eq, reverse, find}
use Rattle.std.specs.Option.{option_map_or, option_or}
use Rattle.std.specs.List.{All, AllByRecursion}
use Rattle.std.proofs.lemmas.List.{reverse-append, ext_get_or, get_or-set_same, get_or-set_other, take_more, length-set, append-nil}
use Rattle.std.proofs.lemmas.List.Folds.{find-append}
use Rattle.std.proofs.lemmas.List.Elements.{filter-append, All-set}
use Rattle.std.proofs.lemmas.Grind.{flat_map-append}
use Rattle.std.proofs.lemmas.Bool.Decides.{nat_tests}
use Rattle.std.proofs.lemmas.Option.{slice_get_read}
use Rattle.rb_num.specs.Interval.{Interval, zero_interval}
use Rattle.rb_flat.specs.Choice.{IsOrdered}
use Rattle.rb_tree.specs.declared.states.Entry.{Entry}
use Rattle.rb_tree.specs.declared.states.NamedState.{NamedState}
use Rattle.rb_tree.specs.State.{at_place}
use Rattle.rb_tree.specs.States.{last_at, entries_named, IsPositionWith}
use Rattle.rb_tree.proofs.ListLaws.{All-at}

abbrev pub value_of : Entry → Interval
value_of entry = entry.value

-- the last of two lists of entries that has the place
last_both : (place : ℕ) (a b : List Entry) → last_at place (a ++ b) ≡ option_or (last_at place b) (last_at place a)
last_both place a b = ap (find (λ (entry : Entry). entry.place == place)) (reverse-append a b) ∙ find-append (λ (entry : Entry). entry.place == place) (reverse b) (reverse a)

later_holds : (o1 o2 : Option Entry) (d : Interval) → option_map_or value_of (option_or o1 o2) d ≡ option_map_or value_of o1 (option_map_or value_of o2 d)
later_holds None o2 d = refl
later_holds (Some entry) o2 d = refl

pub position_none : (q : List Interval) → IsPositionWith [] q q
position_none q = record { count = refl; at = λ place h. refl }

pub position_both : (a b : List Entry) (x y z : List Interval) → IsPositionWith a x y → IsPositionWith b y z → IsPositionWith (a ++ b) x z
position_both a b x y z first second = record {
  count = second.count ∙ first.count;
  at = λ place h.
      second.at place (omega (arith, first.count)) ∙ ap (option_map_or value_of (last_at place b)) (first.at place h)
      ∙ sym (later_holds (last_at place b) (last_at place a) (at_place x place)) ∙ ap (λ o. option_map_or value_of o (at_place x place)) (sym (last_both place a b));
}

at_set : (q : List Interval) (entry : Entry) (place : ℕ) → entry.place < length q → at_place (set q entry.place entry.value) place ≡ option_map_or value_of (last_at place (entry ∷ [])) (at_place q place)
at_set q entry place h = by (entry.place == place) refl
  where
    by : (b : Bool) → (entry.place == place) ≡ b → at_place (set q entry.place entry.value) place ≡ option_map_or value_of (cond (entry.place == place) (Some entry) None) (at_place q place)
    by true e =
        let same : entry.place ≡ place = grind (arith, nat_tests) in
        ap (at_place (set q entry.place entry.value)) (sym same) ∙ get_or-set_same q entry.place entry.value zero_interval h ∙ ap (λ c. option_map_or value_of (cond c (Some entry) None) (at_place q place)) (sym e)
    by false e =
        let other : place ≢ entry.place = grind (arith, nat_tests) in
        get_or-set_other q entry.place place entry.value zero_interval other ∙ ap (λ c. option_map_or value_of (cond c (Some entry) None) (at_place q place)) (sym e)

position_one : (q : List Interval) (entry : Entry) → entry.place < length q → IsPositionWith (entry ∷ []) q (set q entry.place entry.value)
position_one q entry h = record { count = length-set q entry.place entry.value; at = λ place inside. at_set q entry place h }

-- one entry more
pub position_more : (entries : List Entry) (k : ℕ) (entry : Entry) (before now : List Interval) → k < length entries → entry ≡ get_or entries k entry → entry.place < length before →
    IsPositionWith (take k entries) before now → IsPositionWith (take (k + 1) entries) before (set now entry.place entry.value)
position_more entries k entry before now h is within so_far =
    let P : List Entry → Type 0 = λ es. IsPositionWith es before (set now entry.place entry.value) in
    subst P (sym (take_more entries k entry h ∙ ap (λ e. take k entries ++ e ∷ []) (sym is)))
    (position_both (take k entries) (entry ∷ []) before now (set now entry.place entry.value) so_far (position_one now entry (omega (arith, so_far.count))))

-- a position with entries is one
pub position_once : (entries : List Entry) (before after other : List Interval) → IsPositionWith entries before after → IsPositionWith entries before other → after ≡ other
position_once entries before after other a b =
    ext_get_or zero_interval after other (a.count ∙ sym b.count) (λ place h. a.at place (omega (arith, a.count)) ∙ sym (b.at place (omega (arith, a.count))))

-- ---- states of a name
named_one : (state : NamedState) (b : Bool) → flat_map (λ (s : NamedState). s.entries) (cond b (state ∷ []) []) ≡ cond b (state.entries ++ []) []
named_one state true = refl
named_one state false = refl

named_more : (states : List NamedState) (k : ℕ) (state : NamedState) (name : List ℕ) (b : Bool) → k < length states → state ≡ get_or states k state → bytes_eq state.name name ≡ b →
    entries_named (take (k + 1) states) name ≡ entries_named (take k states) name ++ cond b (state.entries ++ []) []
unfolding entries_named
named_more states k state name b h is test =
    let p : NamedState → Bool = λ s. bytes_eq s.name name in
    let f : NamedState → List Entry = λ s. s.entries in
    ap (λ ss. flat_map f (filter p ss)) (take_more states k state h ∙ ap (λ s. take k states ++ s ∷ []) (sym is))
    ∙ ap (flat_map f) (filter-append p (take k states) (state ∷ []))
    ∙ flat_map-append f (filter p (take k states)) (filter p (state ∷ []))
    ∙ ap (λ es. flat_map f (filter p (take k states)) ++ es) (ap (λ c. flat_map f (cond c (state ∷ []) [])) test ∙ named_one state b)

pub position_unnamed : (name : List ℕ) (q : List Interval) → IsPositionWith (entries_named [] name) q q
unfolding entries_named
position_unnamed name q = position_none q

module _ (states : List NamedState) (k : ℕ) (state : NamedState) (name : List ℕ) (x y : List Interval) (h : k < length states) (is : state ≡ get_or states k state)
    (so_far : IsPositionWith (entries_named (take k states) name) x y) where
  pub named_put : (z : List Interval) (entries : List Entry) → bytes_eq state.name name ≡ true → entries ≡ state.entries → IsPositionWith entries y z → IsPositionWith (entries_named (take (k + 1) states) name) x z
  named_put z entries test same put =
      let P : List Entry → Type 0 = λ es. IsPositionWith es x z in
      let more = named_more states k state name true h is test in
      let joined : entries_named (take k states) name ++ entries ≡ entries_named (take k states) name ++ (state.entries ++ []) = ap (λ es. entries_named (take k states) name ++ es) (same ∙ sym (append-nil state.entries)) in
      subst P (joined ∙ sym more) (position_both (entries_named (take k states) name) entries x y z so_far put)

  pub named_left : bytes_eq state.name name ≡ false → IsPositionWith (entries_named (take (k + 1) states) name) x y
  named_left test =
      let P : List Entry → Type 0 = λ es. IsPositionWith es x y in
      subst P (sym (named_more states k state name false h is test ∙ append-nil (entries_named (take k states) name))) so_far

-- ---- room
abbrev pub HasRoom : ℕ → List Entry → Type 0
HasRoom room entries = AllByRecursion (λ entry. entry.place < room) entries

pub room_for : (states : List NamedState) (k : ℕ) (state : NamedState) (entries : List Entry) (room count : ℕ) → AllByRecursion (λ (s : NamedState). HasRoom room s.entries) states → k < length states → state ≡ get_or states k state →
    entries ≡ state.entries → count ≡ room → HasRoom count entries
room_for states k state entries room count all h is same size =
    let P : ℕ → Type 0 = λ n. HasRoom n entries in
    let Q : List Entry → Type 0 = λ es. HasRoom room es in
    subst P (sym size) (subst Q (sym same) (All-at (λ (s : NamedState). HasRoom room s.entries) states k state all (slice_get_read states (length states) k state refl h is)))

pub entry_room : (entries : List Entry) (k : ℕ) (entry : Entry) (room : ℕ) → HasRoom room entries → k < length entries → entry ≡ get_or entries k entry → entry.place < room
entry_room entries k entry room all h is = All-at (λ (e : Entry). e.place < room) entries k entry all (slice_get_read entries (length entries) k entry refl h is)

pub set_ordered : (before q : List Interval) (k : ℕ) (value : Interval) → IsOrdered value → (All IsOrdered before → All IsOrdered q) → All IsOrdered before → All IsOrdered (set q k value)
set_ordered before q k value one all given = All-set IsOrdered q k value one (all given)
