-- What `clap` makes of lists of words: the task and the file alone, as words of their own and joined to their options, and every option.
use Rattle.std.proofs.Common.{◌≡◌, ◌∙◌, ◌==◌, ℕ, Bool, true, false, not, refl, sym, ap, List, [], ◌∷◌, Some, None, Result, Ok, codes}
use Rattle.std.specs.Str.{bytes_eq}
use Rattle.clap.specs.Lexer.{long_of, short_of}
use Rattle.clap.specs.Kinds.{Kinds, or_else}
use Rattle.clap.specs.Walk.{Held, Names, Rule, Text, Waiting, Walk, arg_by_id, finished, next, nothing_held, option, option_word, rows_after, settled, walk, walk_from, walked, word_met}
use Rattle.clap.specs.Simple.{App, Shape, argument_words, built, matches_of, names_of}
use Rattle.clap.specs.Faults.{built_fault, check_fault, defaults_fault, fault_of, settle_fault, turn_fault, walk_fault, word_fault}
use Rattle.clap.proofs.OnLiterals.{clap_on_literals}
use Rattle.rb_frac.specs.Ops.{V3}
use Rattle.rb_num.specs.Interval.{Interval}
use Rattle.rb_result.specs.Steps.{◌>>=◌}
use Rattle.rb_words.specs.Options.{app}
use Rattle.rb_words.specs.Words.{Asked, asked_in, gravity_of, order_of, root_in}
use Rattle.rb_words.specs.Laws.{AllWordsTell, JoinedWordsTell, ShortWordsTell, Texts, all_command, all_words, by_defaults, joined_words, short_command, short_words, stands_alone}
use Rattle.rb_words.specs.declared.faults.WordsFault.{WordsFault}
use Rattle.rb_words.proofs.Down.{gravity_down}
use Rattle.rb_words.proofs.Telling.{words_accepted}

-- ---- a word that stands alone is a value

no_hyphen : (b : Bool) → not b ≡ true → b ≡ false
no_hyphen true h = absurd cc
no_hyphen false h = refl

no_hyphens : (v : Text) → stands_alone v ≡ true → bytes_eq v (45 ∷ 45 ∷ []) ≡ false
no_hyphens [] h = refl
no_hyphens (x ∷ xs) h = rw (no_hyphen (x == 45) h) refl

no_long : (v : Text) → stands_alone v ≡ true → long_of v ≡ None
no_long [] h = refl
no_long (x ∷ xs) h = rw (no_hyphen (x == 45) h) refl

no_short : (v : Text) → stands_alone v ≡ true → short_of v ≡ None
no_short [] h = refl
no_short (x ∷ xs) h = rw (no_hyphen (x == 45) h) refl

abbrev valued : List Rule → Text → Text → Held → Held × Waiting
valued c id v h = option_word (arg_by_id c id) id v h

-- behind an option it is the option's value
value_met : (c : List Rule) (names : Names) (id v : Text) (position : ℕ) (h : Held) → stands_alone v ≡ true
    → word_met c names false (option id) position v h ≡ ((valued c id v h).0, next (valued c id v h).1)
value_met c names id v position h alone = rw (no_hyphens v alone, no_long v alone, no_short v alone) refl

value_fault : (s : Shape) (names : Names) (id v : Text) (h : Held) → stands_alone v ≡ true → word_fault s names false (option id) v h ≡ []
value_fault s names id v h alone = rw (no_hyphens v alone, no_long v alone, no_short v alone) refl

-- between two words, where nothing has stopped
abbrev stands : Held → Waiting → Walk
stands h waiting = record { held = h; waiting = waiting; position = 1; is_trailing = false; stopped = None }

value_walked : (c : List Rule) (names : Names) (id v : Text) (h : Held) → stands_alone v ≡ true
    → walked c names (stands h (option id)) v ≡ stands (valued c id v h).0 (valued c id v h).1
unfolding walked
value_walked c names id v h alone = rw (value_met c names id v 1 h alone) refl

value_turn : (s : Shape) (names : Names) (id v : Text) (h : Held) → stands_alone v ≡ true → turn_fault s names (stands h (option id)) v ≡ []
value_turn s names id v h alone = rw (value_met s.rules names id v 1 h alone, value_fault s names id v h alone) refl

-- ---- a walk over four words, of which the second and the fourth are values

or_else_nil : (a b : Kinds) → a ≡ [] → b ≡ [] → or_else a b ≡ []
or_else_nil a b e f = rw (e, f) refl

four_walked : (c : List Rule) (names : Names) (m n v w : Text) (h i : Held) (p q : Text)
    → walked c names (walk_from nothing_held) m ≡ stands h (option p) → stands_alone v ≡ true
    → walked c names (stands (valued c p v h).0 (valued c p v h).1) n ≡ stands i (option q) → stands_alone w ≡ true
    → walk c names nothing_held (m ∷ v ∷ n ∷ w ∷ []) ≡ stands (valued c q w i).0 (valued c q w i).1
four_walked c names m n v w h i p q first alone third alone2 =
    ap (λ s. walked c names (walked c names (walked c names s v) n) w) first
    ∙ ap (λ s. walked c names (walked c names s n) w) (value_walked c names p v h alone)
    ∙ ap (λ s. walked c names s w) third
    ∙ value_walked c names q w i alone2

four_faultless : (s : Shape) (names : Names) (m n v w : Text) (h i : Held) (p q : Text)
    → walked s.rules names (walk_from nothing_held) m ≡ stands h (option p) → turn_fault s names (walk_from nothing_held) m ≡ [] → stands_alone v ≡ true
    → walked s.rules names (stands (valued s.rules p v h).0 (valued s.rules p v h).1) n ≡ stands i (option q)
    → turn_fault s names (stands (valued s.rules p v h).0 (valued s.rules p v h).1) n ≡ [] → stands_alone w ≡ true
    → walk_fault s names (walk_from nothing_held) (m ∷ v ∷ n ∷ w ∷ []) ≡ []
unfolding walk_fault
four_faultless s names m n v w h i p q first first_ok alone third third_ok alone2 =
    let second = value_walked s.rules names p v h alone in
    let a : turn_fault s names (walked s.rules names (walk_from nothing_held) m) v ≡ [] = rw first (value_turn s names p v h alone) in
    let b : turn_fault s names (walked s.rules names (walked s.rules names (walk_from nothing_held) m) v) n ≡ [] = rw (first, second) third_ok in
    let d : turn_fault s names (walked s.rules names (walked s.rules names (walked s.rules names (walk_from nothing_held) m) v) n) w ≡ [] = rw (first, second, third) (value_turn s names q w i alone2) in
    or_else_nil _ _ first_ok (or_else_nil _ _ a (or_else_nil _ _ b (or_else_nil _ _ d refl)))

-- ---- after the walk

abbrev end_fault : Shape → Held → Kinds
end_fault s end =
    or_else (settle_fault s.rules s.args_override_self end)
    (or_else (defaults_fault (settled s.rules end).rows s.rules) (check_fault s (finished s.rules end) false))

built_faultless : (a : App) (words : List Text) (end : Held) (waiting : Waiting) → walk a.top.rules (names_of a) nothing_held words ≡ stands end waiting
    → walk_fault a.top (names_of a) (walk_from nothing_held) words ≡ [] → end_fault a.top end ≡ [] → built_fault a nothing_held words ≡ []
built_faultless a words end waiting over walk_ok end_ok = rw (over, walk_ok) end_ok

-- ---- the two options

abbrev own_rules : List Rule
own_rules = (built app).top.rules

abbrev names : Names
names = names_of (built app)

abbrev asks : Text → Held
asks id = record { rows = []; pending = Some (id, []); skip = 0 }

task_asked : walked own_rules names (walk_from nothing_held) (codes "--task") ≡ stands (asks (codes "task")) (option (codes "task"))
unfolding clap_on_literals app
task_asked = refl

task_turn : turn_fault (built app).top names (walk_from nothing_held) (codes "--task") ≡ []
unfolding clap_on_literals app
task_turn = refl

abbrev told : Text → Held × Waiting
told task = valued own_rules (codes "task") task (asks (codes "task"))

abbrev asks_urdf : Text → Held
asks_urdf task = record (settled own_rules (told task).0) { pending = Some (codes "urdf", []) }

urdf_asked : (task : Text) → walked own_rules names (stands (told task).0 (told task).1) (codes "--urdf") ≡ stands (asks_urdf task) (option (codes "urdf"))
unfolding clap_on_literals app
urdf_asked task = refl

urdf_turn : (task : Text) → turn_fault (built app).top names (stands (told task).0 (told task).1) (codes "--urdf") ≡ []
unfolding clap_on_literals app
urdf_turn task = refl

abbrev all_told : Text → Text → Held × Waiting
all_told task urdf = valued own_rules (codes "urdf") urdf (asks_urdf task)

end_ok : (task urdf : Text) → end_fault (built app).top (all_told task urdf).0 ≡ []
unfolding clap_on_literals app
end_ok task urdf = refl

abbrev behind : Text → Text → List Text
behind task urdf = codes "--task" ∷ task ∷ codes "--urdf" ∷ urdf ∷ []

words_behind : (program : Text) (words : List Text) → argument_words app (program ∷ words) ≡ words
unfolding app
words_behind program words = refl

walk_over : (task urdf : Text) → stands_alone task ≡ true → stands_alone urdf ≡ true
    → walk own_rules names nothing_held (behind task urdf) ≡ stands (all_told task urdf).0 (all_told task urdf).1
walk_over task urdf alone alone2 =
    four_walked own_rules names (codes "--task") (codes "--urdf") task urdf (asks (codes "task")) (asks_urdf task) (codes "task") (codes "urdf")
    task_asked alone (urdf_asked task) alone2

walk_faultless : (task urdf : Text) → stands_alone task ≡ true → stands_alone urdf ≡ true
    → walk_fault (built app).top names (walk_from nothing_held) (behind task urdf) ≡ []
walk_faultless task urdf alone alone2 =
    four_faultless (built app).top names (codes "--task") (codes "--urdf") task urdf (asks (codes "task")) (asks_urdf task) (codes "task") (codes "urdf")
    task_asked task_turn alone (urdf_asked task) (urdf_turn task) alone2

faultless : (program task urdf : Text) → stands_alone task ≡ true → stands_alone urdf ≡ true → fault_of app (short_words program task urdf) ≡ []
faultless program task urdf alone alone2 =
    ap (built_fault (built app) nothing_held) (words_behind program (behind task urdf))
    ∙ built_faultless (built app) (behind task urdf) (all_told task urdf).0 (all_told task urdf).1
    (walk_over task urdf alone alone2) (walk_faultless task urdf alone alone2) (end_ok task urdf)

rows_are : (program task urdf : Text) → stands_alone task ≡ true → stands_alone urdf ≡ true
    → matches_of app (short_words program task urdf) ≡ finished own_rules (all_told task urdf).0
rows_are program task urdf alone alone2 =
    ap (rows_after own_rules names) (words_behind program (behind task urdf))
    ∙ ap (λ (w : Walk). finished own_rules w.held) (walk_over task urdf alone alone2)

-- ---- what they ask for

abbrev with_gravity : Text → Text → Result (V3 Interval) WordsFault → Result Asked WordsFault
with_gravity task urdf read = order_of task >>= λ order. read >>= λ gravity. Ok (record (by_defaults urdf order) { gravity = gravity })

down : (task urdf : Text) → with_gravity task urdf (gravity_of (codes "0,0,-9.81")) ≡ short_command task urdf
down task urdf = ap (with_gravity task urdf) gravity_down

asked : (task urdf : Text) → asked_in (finished own_rules (all_told task urdf).0) ≡ with_gravity task urdf (gravity_of (codes "0,0,-9.81"))
unfolding clap_on_literals app asked_in root_in
asked task urdf = refl

pub short_words_tell : ShortWordsTell
short_words_tell program task urdf alone alone2 =
    words_accepted _ _ _ (faultless program task urdf alone alone2) (sym (rows_are program task urdf alone alone2)) (asked task urdf ∙ down task urdf)

-- ---- the same, joined to the options

joined_faultless : (program task urdf : Text) → fault_of app (joined_words program task urdf) ≡ []
unfolding clap_on_literals app
joined_faultless program task urdf = refl

joined_asked : (program task urdf : Text) → asked_in (matches_of app (joined_words program task urdf))
    ≡ with_gravity task urdf (gravity_of (codes "0,0,-9.81"))
unfolding clap_on_literals app asked_in root_in
joined_asked program task urdf = refl

pub joined_words_tell : JoinedWordsTell
joined_words_tell program task urdf = words_accepted _ _ _ (joined_faultless program task urdf) refl (joined_asked program task urdf ∙ down task urdf)

-- ---- every option

all_faultless : (program : Text) (texts : Texts) → fault_of app (all_words program texts) ≡ []
unfolding clap_on_literals app
all_faultless program texts = refl

all_asked : (program : Text) (texts : Texts) → asked_in (matches_of app (all_words program texts)) ≡ all_command texts
unfolding clap_on_literals app asked_in
all_asked program texts = refl

pub all_words_tell : AllWordsTell
all_words_tell program texts = words_accepted _ _ _ (all_faultless program texts) refl (all_asked program texts)
