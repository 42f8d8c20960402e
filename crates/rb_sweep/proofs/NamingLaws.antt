-- What holds of names that are found in turn, whatever the state held before.
use Rattle.std.proofs.Common.{◌≡◌, ℕ, ◌+◌, ◌<◌, ◌≤◌, List, [], ◌∷◌, ◌++◌, Result, Ok, Err, ◌⊎◌, inl, inr, refl, ap, sym, ◌∙◌, subst, arith}
use Rattle.std.proofs.lemmas.List.{append_assoc}
use Rattle.rb_result.specs.Steps.{◌>>=◌}
use Rattle.rb_result.proofs.Results.{then-ok, then-err, same_ok, same_err}
use Rattle.rb_sweep.specs.Sweep.{Among}
use Rattle.rb_sweep.specs.Naming.{Naming, run, Stands, Stand, IsRefusedFirst}
use Rattle.rb_sweep.proofs.Climbing.{Climbs, climbs_before, climbs_among, climbs_known, among_left, among_right, stands_at, stand_each, run_append, run_standing}

never : {X A E : Type 0} (x : A) (e : E) → (let r : Result A E = Ok x in r ≡ Err e) → X
never x e h = absurd cc

-- ---- what a call has to show
-- how its names are seen: their ranks, which there are, which states have room for them, all that no name is put in,
-- what of that the rules read, and the sweep that finds the names
pub record Shape {S E : Type 0} (p : Naming S E) : Type 1 where
  pub rank : p.Name → ℕ
  pub Known : p.Name → Type 0
  pub Fits : S → Type 0
  pub Kept : Type 0
  pub kept : S → Kept
  pub Given : Type 0
  pub Worth : Given → Type 0
  pub given : (g : Given) → Kept → Worth g
  pub sweep : S → Result S E

-- two states give the rules the same to begin with
abbrev pub SameGiven : {S E : Type 0} (p : Naming S E) → Shape p → S → S → Type 0
SameGiven p v s t = (g : v.Given) → v.given g (v.kept s) ≡ v.given g (v.kept t)

-- the order ascends in rank and has each known name, a rule reads no more than what is given and known names of smaller rank,
-- a name is put in its own place, and the sweep runs over the order
pub record IsOrdered {S E : Type 0} (p : Naming S E) (v : Shape p) : Type 0 where
  pub first : ℕ
  pub end : ℕ
  pub climbs : Climbs v.rank v.Known first p.order end
  pub listed : (m : p.Name) → v.Known m → Among m p.order
  pub reads : (n : p.Name) (s t : S) → v.Known n → SameGiven p v s t → ((m : p.Name) → v.Known m → v.rank m < v.rank n → p.look m s ≡ p.look m t) → p.rule n s ≡ p.rule n t
  pub put_same : (n : p.Name) (x : p.Value n) (s : S) → v.Known n → v.Fits s → p.look n (p.put n x s) ≡ x
  pub put_other : (m n : p.Name) (x : p.Value n) (s : S) → v.Known m → v.Known n → v.Fits s → v.rank m < v.rank n → p.look m (p.put n x s) ≡ p.look m s
  pub put_fits : (n : p.Name) (x : p.Value n) (s : S) → v.Fits s → v.Fits (p.put n x s)
  pub put_kept : (n : p.Name) (x : p.Value n) (s : S) → v.Known n → v.kept s ≡ v.kept (p.put n x s)
  pub runs : (s : S) → v.sweep s ≡ run p p.order s

-- ---- where a run is refused
record RunRefused {S E : Type 0} (p : Naming S E) (names : List p.Name) (s : S) (e : E) : Type 0 where
  before : List p.Name
  name : p.Name
  after : List p.Name
  reached : S
  split : names ≡ before ++ name ∷ after
  until : run p before s ≡ Ok reached
  refused : p.rule name reached ≡ Err e

run_refused : {S E : Type 0} (p : Naming S E) (names : List p.Name) (s : S) (e : E) → run p names s ≡ Err e → RunRefused p names s e
run_refused {S} {E} p [] s e r = never {A = S} s e r
run_refused {S} {E} p (n ∷ ns) s e r =
    elim (then-err (p.rule n s) (λ x. run p ns (p.put n x s)) e r) [
      | inl d ↦ record { before = []; name = n; after = ns; reached = s; split = refl; until = refl; refused = d }
      | inr m ↦
          let h : RunRefused p ns (p.put n m.0 s) e = run_refused p ns (p.put n m.0 s) e m.2 in
          record {
            before = n ∷ h.before;
            name = h.name;
            after = h.after;
            reached = h.reached;
            split = ap (λ ks. n ∷ ks) h.split;
            until = ap (λ r. (r >>= λ x. run p h.before (p.put n x s))) m.1 ∙ h.until;
            refused = h.refused;
          }
    ]

module _ {S E : Type 0} (p : Naming S E) (v : Shape p) (o : IsOrdered p v) where
  -- what a run over names leaves
  record Swept (a : ℕ) (ns : List p.Name) (s t : S) : Type 0 where
    keeps : v.kept s ≡ v.kept t
    below : (m : p.Name) → v.Known m → v.rank m < a → p.look m s ≡ p.look m t
    fits : v.Fits t
    stand : Stand p t ns

  swept : (ns : List p.Name) (a b : ℕ) (s t : S) → Climbs v.rank v.Known a ns b → v.Fits s → run p ns s ≡ Ok t → Swept a ns s t
  swept [] a b s t c f e =
      let same : s ≡ t = same_ok {E = E} s t e in
      record { keeps = ap v.kept same; below = λ m k l. ap (p.look m) same; fits = subst v.Fits same f; stand = tt }
  swept (n ∷ ns) a b s t c f e =
      let h = then-ok (p.rule n s) (λ x. run p ns (p.put n x s)) t e in
      let r : Swept (v.rank n + 1) ns (p.put n h.0 s) t = swept ns (v.rank n + 1) b (p.put n h.0 s) t c.2 (o.put_fits n h.0 s f) h.2 in
      let keeps : v.kept s ≡ v.kept t = o.put_kept n h.0 s c.0 ∙ r.keeps in
      let below : (m : p.Name) → v.Known m → v.rank m < v.rank n → p.look m s ≡ p.look m t =
      λ m k l. sym (o.put_other m n h.0 s k c.0 f l) ∙ r.below m k (omega arith) in
      let ok : p.Value n → Result (p.Value n) E = λ x. Ok x in
      let value : p.look n t ≡ h.0 = sym (r.below n c.0 (omega arith)) ∙ o.put_same n h.0 s c.0 f in
      record {
        keeps = keeps;
        below = λ m k l. let high : a ≤ v.rank n = c.1 in below m k (omega arith);
        fits = r.fits;
        stand = (sym (o.reads n s t c.0 (λ g. ap (v.given g) keeps) below) ∙ h.1 ∙ ap ok (sym value), r.stand);
      }

  -- each known name stands
  abbrev pub Holds : S → Type 0
  Holds w = (m : p.Name) → v.Known m → Stands p w m

  all_stand : (w : S) → Holds w → Stand p w p.order
  all_stand w h = stand_each p w p.order (λ m i. h m (climbs_known v.rank v.Known p.order o.first o.end m o.climbs i))

  -- ---- what a sweep finds
  -- after a sweep each name stands, and all that no name is put in is kept
  pub record Found (s t : S) : Type 0 where
    pub keeps : v.kept s ≡ v.kept t
    pub fits : v.Fits t
    pub holds : Holds t

  pub found : (s t : S) → v.Fits s → v.sweep s ≡ Ok t → Found s t
  found s t f e =
      let r : Swept o.first p.order s t = swept p.order o.first o.end s t o.climbs f (sym (o.runs s) ∙ e) in
      record { keeps = r.keeps; fits = r.fits; holds = λ m k. stands_at p t m p.order r.stand (o.listed m k) }

  -- where a sweep is refused, there are values in which a name is refused first
  pub record Refusal (s : S) (e : E) : Type 0 where
    pub reached : S
    pub keeps : v.kept s ≡ v.kept reached
    pub fits : v.Fits reached
    pub first : IsRefusedFirst p reached e

  pub refusal : (s : S) (e : E) → v.Fits s → v.sweep s ≡ Err e → Refusal s e
  refusal s e f r =
      let h : RunRefused p p.order s e = run_refused p p.order s e (sym (o.runs s) ∙ r) in
      let c = climbs_before v.rank v.Known h.before h.name h.after o.first o.end (subst (λ ns. Climbs v.rank v.Known o.first ns o.end) h.split o.climbs) in
      let w : Swept o.first h.before s h.reached = swept h.before o.first (v.rank h.name) s h.reached c f h.until in
      record {
        reached = h.reached;
        keeps = w.keeps;
        fits = w.fits;
        first = record { before = h.before; name = h.name; after = h.after; split = h.split; stand = w.stand; refused = h.refused };
      }

  -- ---- one answer: nothing of what the states hold else comes in
  -- each known name is the same in both, or still to come
  abbrev ToCome : List p.Name → S → S → Type 0
  ToCome ns u w = (m : p.Name) → v.Known m → (p.look m u ≡ p.look m w) ⊎ Among m ns

  head_rule : (n : p.Name) (ns : List p.Name) (a b : ℕ) (u w : S) → Climbs v.rank v.Known a (n ∷ ns) b → SameGiven p v u w → ToCome (n ∷ ns) u w → p.rule n u ≡ p.rule n w
  head_rule n ns a b u w c g t = o.reads n u w c.0 g (λ m k l. before m l (t m k))
    where
      before : (m : p.Name) → v.rank m < v.rank n → (p.look m u ≡ p.look m w) ⊎ Among m (n ∷ ns) → p.look m u ≡ p.look m w
      before m l (inl e) = e
      before m l (inr (inl e)) = let h : v.rank m ≡ v.rank n = ap v.rank e in absurd (omega arith)
      before m l (inr (inr i)) = let h : v.rank n + 1 ≤ v.rank m = climbs_among v.rank v.Known ns (v.rank n + 1) b m c.2 i in absurd (omega arith)

  fewer_to_come : (n : p.Name) (ns : List p.Name) (u w : S) → p.rule n u ≡ p.rule n w → Stands p u n → Stands p w n → ToCome (n ∷ ns) u w → ToCome ns u w
  fewer_to_come n ns u w e hu hw t = λ m k. less m (t m k)
    where
      less : (m : p.Name) → (p.look m u ≡ p.look m w) ⊎ Among m (n ∷ ns) → (p.look m u ≡ p.look m w) ⊎ Among m ns
      less m (inl h) = inl h
      less m (inr (inl h)) = inl (subst (λ k. p.look k u ≡ p.look k w) (sym h) (same_ok {E = E} (p.look n u) (p.look n w) (sym hu ∙ e ∙ hw)))
      less m (inr (inr i)) = inr i

  same_along : (ns : List p.Name) (a b : ℕ) (u w : S) → Climbs v.rank v.Known a ns b → SameGiven p v u w → ToCome ns u w → Stand p u ns → Stand p w ns
      → (m : p.Name) → v.Known m → p.look m u ≡ p.look m w
  same_along [] a b u w c g t hu hw m k = elim (t m k) [ inl e ↦ e | inr i ↦ absurd i ]
  same_along (n ∷ ns) a b u w c g t hu hw m k =
      same_along ns (v.rank n + 1) b u w c.2 g (fewer_to_come n ns u w (head_rule n ns a b u w c g t) hu.0 hw.0 t) hu.1 hw.1 m k

  -- two states in which the names stand agree on them
  pub same_values : (u w : S) → SameGiven p v u w → Holds u → Holds w → (m : p.Name) → v.Known m → p.look m u ≡ p.look m w
  same_values u w g hu hw = same_along p.order o.first o.end u w o.climbs g (λ m k. inr (o.listed m k)) (all_stand u hu) (all_stand w hw)

  not_both_along : (before : List p.Name) (n : p.Name) (after : List p.Name) (a b : ℕ) (u w : S) (e : E) → Climbs v.rank v.Known a (before ++ n ∷ after) b
      → SameGiven p v u w → ToCome (before ++ n ∷ after) u w → Stand p u (before ++ n ∷ after) → Stand p w before → p.rule n w ≡ Err e → ⊥
  not_both_along [] n after a b u w e c g t hu hw r = never (p.look n u) e (sym hu.0 ∙ head_rule n after a b u w c g t ∙ r)
  not_both_along (m ∷ ms) n after a b u w e c g t hu hw r =
      not_both_along ms n after (v.rank m + 1) b u w e c.2 g
      (fewer_to_come m (ms ++ n ∷ after) u w (head_rule m (ms ++ n ∷ after) a b u w c g t) hu.0 hw.0 t) hu.1 hw.1 r

  -- where the names stand in one state, none is refused first in another
  pub not_both : (u w : S) (e : E) → SameGiven p v u w → Holds u → IsRefusedFirst p w e → ⊥
  not_both u w e g hu f =
      not_both_along f.before f.name f.after o.first o.end u w e (subst (λ ns. Climbs v.rank v.Known o.first ns o.end) f.split o.climbs) g
      (λ m k. inr (subst (λ ns. Among m ns) f.split (o.listed m k))) (subst (λ ns. Stand p u ns) f.split (all_stand u hu)) f.stand f.refused

  one_along : (bs : List p.Name) (n : p.Name) (as' : List p.Name) (cs : List p.Name) (m : p.Name) (ds : List p.Name) (a b : ℕ) (u w : S) (d e : E)
      → bs ++ n ∷ as' ≡ cs ++ m ∷ ds → Climbs v.rank v.Known a (cs ++ m ∷ ds) b → SameGiven p v u w → ToCome (cs ++ m ∷ ds) u w
      → Stand p u bs → p.rule n u ≡ Err d → Stand p w cs → p.rule m w ≡ Err e → d ≡ e
  one_along [] n as' [] m ds a b u w d e q c g t hu ru hw rw' =
      let same : n ≡ m = cc in
      let ru' : p.rule m u ≡ Err d = subst (λ k. p.rule k u ≡ Err d) same ru in
      same_err {A = p.Value m} d e (sym ru' ∙ head_rule m ds a b u w c g t ∙ rw')
  one_along [] n as' (k ∷ ks) m ds a b u w d e q c g t hu ru hw rw' =
      let same : n ≡ k = cc in
      let ru' : p.rule k u ≡ Err d = subst (λ k. p.rule k u ≡ Err d) same ru in
      never (p.look k w) d (sym hw.0 ∙ sym (head_rule k (ks ++ m ∷ ds) a b u w c g t) ∙ ru')
  one_along (k ∷ ks) n as' [] m ds a b u w d e q c g t hu ru hw rw' =
      let same : k ≡ m = cc in
      let hu' : Stands p u m = subst (λ k. Stands p u k) same hu.0 in
      never (p.look m u) e (sym hu' ∙ head_rule m ds a b u w c g t ∙ rw')
  one_along (k ∷ ks) n as' (j ∷ js) m ds a b u w d e q c g t hu ru hw rw' =
      let same : k ≡ j = cc in
      let rest : ks ++ n ∷ as' ≡ js ++ m ∷ ds = cc in
      let hu' : Stands p u j = subst (λ k. Stands p u k) same hu.0 in
      one_along ks n as' js m ds (v.rank j + 1) b u w d e rest c.2 g
      (fewer_to_come j (js ++ m ∷ ds) u w (head_rule j (js ++ m ∷ ds) a b u w c g t) hu' hw.0 t) hu.1 ru hw.1 rw'

  -- two first refusals are equal
  pub one_refusal : (u w : S) (d e : E) → SameGiven p v u w → IsRefusedFirst p u d → IsRefusedFirst p w e → d ≡ e
  one_refusal u w d e g fu fw =
      one_along fu.before fu.name fu.after fw.before fw.name fw.after o.first o.end u w d e (sym fu.split ∙ fw.split)
      (subst (λ ns. Climbs v.rank v.Known o.first ns o.end) fw.split o.climbs) g
      (λ m k. inr (subst (λ ns. Among m ns) fw.split (o.listed m k))) fu.stand fu.refused fw.stand fw.refused

  -- ---- from any state with room the sweep answers as the declarations say
  pub record Finds (s w : S) : Type 0 where
    pub reached : S
    pub sweeps : v.sweep s ≡ Ok reached
    pub keeps : v.kept s ≡ v.kept reached
    pub fits : v.Fits reached
    pub same : (m : p.Name) → v.Known m → p.look m reached ≡ p.look m w

  -- where the names stand in some state, the sweep finds these values
  pub finds : (s w : S) → v.Fits s → SameGiven p v s w → Holds w → Finds s w
  finds s w f g hw = go (v.sweep s) refl
    where
      go : (r : Result S E) → v.sweep s ≡ r → Finds s w
      go (Ok t) e =
          let h : Found s t = found s t f e in
          let same : SameGiven p v t w = λ i. sym (ap (v.given i) h.keeps) ∙ g i in
          record { reached = t; sweeps = e; keeps = h.keeps; fits = h.fits; same = same_values t w same h.holds hw }
      go (Err d) e =
          let h : Refusal s d = refusal s d f e in
          let same : SameGiven p v w h.reached = λ i. sym (g i) ∙ ap (v.given i) h.keeps in
          absurd (not_both w h.reached d same hw h.first)

  -- where a name is refused first in some state, the sweep is refused so
  pub refuses : (s w : S) (e : E) → v.Fits s → SameGiven p v s w → IsRefusedFirst p w e → v.sweep s ≡ Err e
  refuses s w e f g first = go (v.sweep s) refl
    where
      go : (r : Result S E) → v.sweep s ≡ r → r ≡ Err e
      go (Ok t) q =
          let h : Found s t = found s t f q in
          let same : SameGiven p v t w = λ i. sym (ap (v.given i) h.keeps) ∙ g i in
          absurd (not_both t w e same h.holds first)
      go (Err d) q =
          let h : Refusal s d = refusal s d f q in
          let same : SameGiven p v h.reached w = λ i. sym (ap (v.given i) h.keeps) ∙ g i in
          let fault : E → Result S E = λ e. Err e in
          ap fault (one_refusal h.reached w d e same h.first first)

  -- from two states with room that are given the same, the sweep finds the same values or is refused alike
  pub same_found : (s t u : S) → v.Fits s → v.Fits t → SameGiven p v s t → v.sweep s ≡ Ok u → Finds t u
  same_found s t u fs ft g e = let h : Found s u = found s u fs e in finds t u ft (λ i. sym (g i) ∙ ap (v.given i) h.keeps) h.holds

  pub same_refused : (s t : S) (e : E) → v.Fits s → v.Fits t → SameGiven p v s t → v.sweep s ≡ Err e → v.sweep t ≡ Err e
  same_refused s t e fs ft g r = let h : Refusal s e = refusal s e fs r in refuses t h.reached e ft (λ i. sym (g i) ∙ ap (v.given i) h.keeps) h.first

-- ---- names that are found behind those of a call: the order begins with the call's, whose names have the same rules
module _ {S E : Type 0} (p : Naming S E) (v : Shape p) (o : IsOrdered p v) (rule : (n : p.Name) → S → Result (p.Value n) E) (behind : List p.Name)
    (same : (n : p.Name) (w : S) → v.Known n → rule n w ≡ p.rule n w) where
  abbrev pub longer : Naming S E
  longer = record p { rule = rule; order = p.order ++ behind }

  stand_so : (w : S) (ns : List p.Name) → ((m : p.Name) → Among m ns → v.Known m) → Stand p w ns → Stand longer w ns
  stand_so w [] known h = tt
  stand_so w (n ∷ ns) known h = (same n w (known n (inl refl)) ∙ h.0, stand_so w ns (λ m i. known m (inr i)) h.1)

  -- where the names of the call stand, the others are found from there, if putting what a state holds leaves it
  pub run_behind : (w : S) → ((m : p.Name) → v.Known m → p.put m (p.look m w) w ≡ w) → Holds p v o w → run longer longer.order w ≡ run longer behind w
  run_behind w held h =
      let known : (m : p.Name) → Among m p.order → v.Known m = λ m i. climbs_known v.rank v.Known p.order o.first o.end m o.climbs i in
      run_append longer p.order behind w
      ∙ ap (λ r. (r >>= λ t. run longer behind t)) (run_standing longer p.order w (λ m i. held m (known m i)) (stand_so w p.order known (all_stand p v o w h)))

  -- what is refused first of the call's names is refused first
  pub refused_behind : (w : S) (e : E) → IsRefusedFirst p w e → IsRefusedFirst longer w e
  refused_behind w e f =
      let known : (m : p.Name) → Among m (f.before ++ f.name ∷ f.after) → v.Known m =
      λ m i. climbs_known v.rank v.Known p.order o.first o.end m o.climbs (subst (λ ns. Among m ns) (sym f.split) i) in
      record {
        before = f.before;
        name = f.name;
        after = f.after ++ behind;
        split = ap (λ ns. ns ++ behind) f.split ∙ append_assoc f.before (f.name ∷ f.after) behind;
        stand = stand_so w f.before (λ m i. known m (among_left m f.before (f.name ∷ f.after) i)) f.stand;
        refused = same f.name w (known f.name (among_right f.name f.before (f.name ∷ f.after) (inl refl))) ∙ f.refused;
      }
