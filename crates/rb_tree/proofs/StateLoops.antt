-- The states of a file, read one value behind another.
use Rattle.std.proofs.Common.{◌≡◌, ◌⊎◌, inl, inr, ℕ, zero, suc, ◌+◌, ◌<◌, ◌≤◌, List, [], ◌∷◌, ◌++◌, length, drop, get_or, Result, Ok, Err, refl, sym, ap, ◌∙◌, subst, append_assoc, add-one, arith}
use Rattle.std.specs.List.{AllByRecursion}
use Rattle.std.proofs.Math.Seq.{drop-cons}
use Rattle.std.proofs.lemmas.List.{append-nil}
use Rattle.rb_result.specs.Steps.{◌>>=◌, placed, Gives}
use Rattle.rb_srdf.specs.declared.srdf.GroupState.{GroupState}
use Rattle.rb_srdf.specs.declared.srdf.JointNumbers.{JointNumbers}
use Rattle.rb_srdf.specs.declared.srdf.Virtual.{Virtual}
use Rattle.rb_tree.specs.declared.faults.TreeFault.{TreeFault}
use Rattle.rb_tree.specs.declared.faults.TreeKind.{TreeKind}
use Rattle.rb_tree.specs.declared.robot.Body.{Body}
use Rattle.rb_tree.specs.declared.states.Entry.{Entry}
use Rattle.rb_tree.specs.declared.states.NamedState.{NamedState}
use Rattle.rb_tree.specs.Robot.{IsEntryKept, IsStateKept}
use Rattle.rb_tree.specs.States.{value_entries, state_entries, state_fault, states_made}
use Rattle.rb_tree.proofs.StateKept.{HasOrder, value_below, all_kept, kept_append}

-- what comes behind items that are there
abbrev pub behind : {F X : Type 0} → List X → Result (List X) F → Result (List X) F
behind items rest = rest >>= λ more. Ok (items ++ more)

behind_none : {F X : Type 0} (rest : Result (List X) F) → behind [] rest ≡ rest
behind_none (Ok more) = refl
behind_none (Err e) = refl

behind_both : {F X : Type 0} (a b : List X) (rest : Result (List X) F) → behind a (behind b rest) ≡ behind (a ++ b) rest
behind_both a b (Ok more) = ap Ok (sym (append_assoc a b more))
behind_both a b (Err e) = refl

next_item : {X : Type 0} (xs : List X) (k : ℕ) (x : X) → k < length xs → x ≡ get_or xs k x → drop k xs ≡ x ∷ drop (k + 1) xs
next_item xs k x h is = drop-cons xs k x h ∙ ap (λ n. get_or xs k x ∷ drop n xs) (sym (add-one k)) ∙ ap (λ y. y ∷ drop (k + 1) xs) (sym is)

past_end : {X : Type 0} (xs : List X) (n : ℕ) → length xs ≤ n → drop n xs ≡ []
past_end [] zero p = refl
past_end [] (suc n) p = refl
past_end (x ∷ xs) zero p = absurd (omega arith)
past_end (x ∷ xs) (suc n) p = past_end xs n (omega arith)

-- ---- the values of a state
both : {F : Type 0} (a b : List Entry) (given rest : Result (List Entry) F) → Ok b ≡ given → behind a (given >>= λ entries. behind entries rest) ≡ behind (a ++ b) rest
both a b given rest e = rw (← e) (behind_both a b rest)

module _ (bodies : List Body) (virtuals : List Virtual) where
  -- the entries of the values from a place on, behind those of the values before
  abbrev pub IsSoFar : List JointNumbers → ℕ → List Entry → Type 0
  IsSoFar values k entries = state_entries bodies virtuals values ≡ behind entries (state_entries bodies virtuals (drop k values))

  pub none_yet : (values : List JointNumbers) (entries : List Entry) → entries ≡ [] → IsSoFar values 0 entries
  none_yet values entries e = sym (ap (λ es. behind es (state_entries bodies virtuals values)) e ∙ behind_none _)

  pub more_entries : (values : List JointNumbers) (k : ℕ) (value : JointNumbers) (entries more after : List Entry) → k < length values → value ≡ get_or values k value → IsSoFar values k entries →
      Ok more ≡ value_entries bodies virtuals value → after ≡ entries ++ more → IsSoFar values (k + 1) after
  unfolding state_entries
  more_entries values k value entries more after h is far given put =
      far ∙ ap (λ vs. behind entries (state_entries bodies virtuals vs)) (next_item values k value h is) ∙ both entries more (value_entries bodies virtuals value) (state_entries bodies virtuals (drop (k + 1) values)) given
      ∙ ap (λ es. behind es (state_entries bodies virtuals (drop (k + 1) values))) (sym put)

  pub refused_value : (values : List JointNumbers) (k : ℕ) (value : JointNumbers) (entries : List Entry) (kind : TreeKind) → k < length values → value ≡ get_or values k value → IsSoFar values k entries →
      Err kind ≡ value_entries bodies virtuals value → state_entries bodies virtuals values ≡ Err kind
  unfolding state_entries
  refused_value values k value entries kind h is far given =
      far ∙ ap (λ vs. behind entries (state_entries bodies virtuals vs)) (next_item values k value h is) ∙ rw (← given) refl

  pub all_entries : (values : List JointNumbers) (k : ℕ) (entries : List Entry) → length values ≤ k → IsSoFar values k entries → state_entries bodies virtuals values ≡ Ok entries
  unfolding state_entries
  all_entries values k entries h far = far ∙ ap (λ vs. behind entries (state_entries bodies virtuals vs)) (past_end values k h) ∙ ap Ok (append-nil entries)

  pub kept_more : (value : JointNumbers) (entries more after : List Entry) → Ok more ≡ value_entries bodies virtuals value → AllByRecursion HasOrder more → after ≡ entries ++ more →
      AllByRecursion (IsEntryKept bodies) entries → AllByRecursion (IsEntryKept bodies) after
  kept_more value entries more after given ordered put kept =
      subst (AllByRecursion (IsEntryKept bodies)) (sym put) (kept_append bodies entries more kept (all_kept bodies more (value_below bodies virtuals value more given) ordered))

  -- ---- the states of a file
  abbrev pub AreSoFar : List GroupState → ℕ → List NamedState → Type 0
  AreSoFar states k made = states_made bodies virtuals states ≡ behind made (states_made bodies virtuals (drop k states))

  pub no_states : (states : List GroupState) (made : List NamedState) → made ≡ [] → AreSoFar states 0 made
  no_states states made e = sym (ap (λ ms. behind ms (states_made bodies virtuals states)) e ∙ behind_none _)

  pub more_states : (states : List GroupState) (k : ℕ) (state : GroupState) (made after : List NamedState) (name : List ℕ) (entries : List Entry) → k < length states → state ≡ get_or states k state → AreSoFar states k made →
      placed state_fault state.place (state_entries bodies virtuals state.values) ≡ Ok entries → name ≡ state.name → after ≡ made ++ record { name = name; entries = entries } ∷ [] → AreSoFar states (k + 1) after
  unfolding states_made
  more_states states k state made after name entries h is far given named pushed =
      let rest : Result (List NamedState) TreeFault = states_made bodies virtuals (drop (k + 1) states) in
      let one : List NamedState = record { name = state.name; entries = entries } ∷ [] in
      far ∙ ap (λ ss. behind made (states_made bodies virtuals ss)) (next_item states k state h is) ∙ rw given (behind_both made one rest)
      ∙ ap (λ ms. behind ms rest) (sym (pushed ∙ ap (λ n. made ++ record { name = n; entries = entries } ∷ []) named))

  pub refused_state : (states : List GroupState) (k : ℕ) (state : GroupState) (made : List NamedState) (fault : TreeFault) → k < length states → state ≡ get_or states k state → AreSoFar states k made →
      placed state_fault state.place (state_entries bodies virtuals state.values) ≡ Err fault → states_made bodies virtuals states ≡ Err fault
  unfolding states_made
  refused_state states k state made fault h is far given =
      far ∙ ap (λ ss. behind made (states_made bodies virtuals ss)) (next_item states k state h is) ∙ rw given refl

  pub all_states : (states : List GroupState) (k : ℕ) (made : List NamedState) → length states ≤ k → AreSoFar states k made → states_made bodies virtuals states ≡ Ok made
  unfolding states_made
  all_states states k made h far = far ∙ ap (λ ss. behind made (states_made bodies virtuals ss)) (past_end states k h) ∙ ap Ok (append-nil made)

  pub kept_states : (made after : List NamedState) (state : NamedState) → AllByRecursion (IsStateKept bodies) made → IsStateKept bodies state → after ≡ made ++ state ∷ [] → AllByRecursion (IsStateKept bodies) after
  kept_states made after state all one pushed = subst (AllByRecursion (IsStateKept bodies)) (sym pushed) (push made all)
    where
      push : (xs : List NamedState) → AllByRecursion (IsStateKept bodies) xs → AllByRecursion (IsStateKept bodies) (xs ++ state ∷ [])
      push [] all = (one, tt)
      push (x ∷ xs) all = (all.0, push xs all.1)

-- the answer that is handed on, where the entries of a state were refused
pub handed_on : {X : Type 0} (no_memory : TreeFault) (view : X → List NamedState) (result : Result X TreeFault) (fault : TreeFault) (given : Result (List Entry) TreeFault) (read : Result (List NamedState) TreeFault) → result ≡ Err fault →
    (fault ≡ no_memory) ⊎ (given ≡ Err fault) → (given ≡ Err fault → read ≡ Err fault) → Gives no_memory view result read
handed_on no_memory view result fault given read e (inl memory) refuses = rw e (inl memory)
handed_on no_memory view result fault given read e (inr refused) refuses = rw e (inr (refuses refused))
