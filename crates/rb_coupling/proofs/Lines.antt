-- A row of a table by rows and columns, as a list, and sweeps that answer as others do.
use Rattle.std.proofs.Common.{◌≡◌, ℕ, ◌+◌, ◌*◌, ◌-◌, ◌<◌, ◌≤◌, List, [], ◌∷◌, length, take, drop, slice_set, Result, Ok, Err, inl, inr, refl, ap, sym, ◌∙◌, subst, arith, length-drop}
use Rattle.std.proofs.lemmas.List.{drop-set-add, get_or-take, get_or-drop, length-take-le}
use Rattle.std.proofs.Math.Seq.{take-set-lt}
use Rattle.rb_result.specs.Steps.{◌>>=◌}
use Rattle.rb_result.proofs.Results.{same_ok, then-ok, then-err}
use Rattle.rb_num.specs.Interval.{Interval}
use Rattle.rb_num.specs.declared.interval.NumFault.{NumFault}
use Rattle.rb_work.specs.declared.names.Name.{Name}
use Rattle.rb_work.specs.declared.names.RowFault.{RowFault}
use Rattle.rb_work.specs.declared.names.RowFault.TheVariants.{Size}
use Rattle.rb_work.specs.Names.{named_as}
use Rattle.rb_factor.proofs.Refusals.{made, not_made}
use Rattle.rb_sweep.specs.Sweep.{sweep, Among}
use Rattle.rb_factor.specs.Sweeps.{number_at}
use Rattle.rb_coupling.specs.Sweeps.{place_of, cell_at}
use Rattle.rb_coupling.proofs.Cells.{Fits, place_within}

abbrev pub line : ℕ → ℕ → List Interval → List Interval
line n r cells = take (n + 1) (drop (r * (n + 1)) cells)

pub line_at : (n r : ℕ) (cells : List Interval) (c : ℕ) → c ≤ n → number_at (line n r cells) c ≡ cell_at n cells r c
line_at n r cells c l = let m : c < n + 1 = omega arith in rw (get_or-take, get_or-drop) refl

pub line_put : (n r : ℕ) (cells : List Interval) (c : ℕ) (x : Interval) → c ≤ n → line n r (slice_set cells (place_of n r c) x) ≡ slice_set (line n r cells) c x
line_put n r cells c x l = let m : c < n + 1 = omega arith in rw (drop-set-add, take-set-lt) refl

pub line_long : (R n r : ℕ) (cells : List Interval) → r ≤ R → Fits R n cells → length (line n r cells) ≡ n + 1
line_long R n r cells l f =
    let m : r * (n + 1) + n < (R + 1) * (n + 1) = place_within R n r n l (omega arith) in
    let k : length (drop (r * (n + 1)) cells) ≡ length cells - r * (n + 1) = length-drop (r * (n + 1)) cells in
    let g : length cells ≡ (R + 1) * (n + 1) = f in
    length-take-le (n + 1) (drop (r * (n + 1)) cells) (omega arith)

-- ---- a sweep that answers as another one does, of states that are seen
module _ {N S T E F : Type 0} (seen : S → T) (step : N → S → Result S E) (other : N → T → Result T F) where
  pub record Answering (ns : List N) : Type 0 where
    pub does : (i : N) (s t : S) → Among i ns → step i s ≡ Ok t → other i (seen s) ≡ Ok (seen t)
    pub refuses : (i : N) (s : S) (e : E) → Among i ns → step i s ≡ Err e → (f : F) × (other i (seen s) ≡ Err f)

  later : (n : N) (ns : List N) → Answering (n ∷ ns) → Answering ns
  later n ns a = record { does = λ i s t m h. a.does i s t (inr m) h; refuses = λ i s e m h. a.refuses i s e (inr m) h }

  pub answers : (ns : List N) → Answering ns → (s t : S) → sweep step ns s ≡ Ok t → sweep other ns (seen s) ≡ Ok (seen t)
  answers [] a s t h = let ok : S → Result T F = λ x. Ok (seen x) in ap ok (same_ok s t h)
  answers (n ∷ ns) a s t h =
      let p = then-ok (step n s) (λ u. sweep step ns u) t h in
      ap (λ x. x >>= λ u. sweep other ns u) (a.does n s p.0 (inl refl) p.1) ∙ answers ns (later n ns a) p.0 t p.2

  pub answers_refused : (ns : List N) → Answering ns → (s : S) (e : E) → sweep step ns s ≡ Err e → (f : F) × (sweep other ns (seen s) ≡ Err f)
  answers_refused [] a s e h = absurd cc
  answers_refused (n ∷ ns) a s e h =
      elim (then-err (step n s) (λ u. sweep step ns u) e h) [
        | inl k ↦ let p = a.refuses n s e (inl refl) k in (p.0, ap (λ x. x >>= λ u. sweep other ns u) p.1)
        | inr p ↦
            let q = answers_refused ns (later n ns a) p.0 e p.2 in
            (q.0, ap (λ x. x >>= λ u. sweep other ns u) (a.does n s p.0 (inl refl) p.1) ∙ q.1)
      ]

module _ {N S E : Type 0} (step : N → S → Result S E) where
  -- the refusal of a sweep is one of its steps'
  pub refused_so : (P : E → Type 0) (ns : List N) → ((i : N) (s : S) (e : E) → step i s ≡ Err e → P e) → (s : S) (e : E) → sweep step ns s ≡ Err e → P e
  refused_so P [] each s e h = absurd cc
  refused_so P (n ∷ ns) each s e h =
      elim (then-err (step n s) (λ u. sweep step ns u) e h) [
        | inl k ↦ each n s e k
        | inr p ↦ refused_so P ns each p.0 e p.2
      ]

  -- what each step keeps, the sweep keeps
  pub keeps_over : (K : S → S → Type 0) → ((s : S) → K s s) → ((s t u : S) → K s t → K t u → K s u) → (ns : List N)
      → ((i : N) (s t : S) → Among i ns → step i s ≡ Ok t → K s t) → (s t : S) → sweep step ns s ≡ Ok t → K s t
  keeps_over K none both [] keeps s t h = subst (λ u. K s u) (same_ok s t h) (none s)
  keeps_over K none both (n ∷ ns) keeps s t h =
      let p = then-ok (step n s) (λ u. sweep step ns u) t h in
      both s p.0 t (keeps n s p.0 (inl refl) p.1) (keeps_over K none both ns (λ i u v m k. keeps i u v (inr m) k) p.0 t p.2)

-- ---- a step under a name and another one of the same value
module _ (name name' : Name) (value value' : Result Interval NumFault) (same : value' ≡ value) where
  pub remade : {S T : Type 0} (f : Interval → S) (g : Interval → T) (seen : S → T) → ((x : Interval) → seen (f x) ≡ g x) → (t : S)
      → (named_as name value >>= λ x. Ok (f x)) ≡ Ok t → (named_as name' value' >>= λ x. Ok (g x)) ≡ Ok (seen t)
  remade {S} {T} f g seen is t h =
      let p = made name value f t h in
      let go : Result Interval NumFault → Result T RowFault = λ r. named_as name' r >>= λ x. Ok (g x) in
      let ok : T → Result T RowFault = λ x. Ok x in
      ap go (same ∙ p.1) ∙ ap ok (sym (is p.0) ∙ ap seen p.2)

  pub refailed : {S T : Type 0} (f : Interval → S) (g : Interval → T) (e : RowFault)
      → (named_as name value >>= λ x. Ok (f x)) ≡ Err e → (d : RowFault) × ((named_as name' value' >>= λ x. Ok (g x)) ≡ Err d)
  refailed {S} {T} f g e h =
      let p = not_made name value f e h in
      let go : Result Interval NumFault → Result T RowFault = λ r. named_as name' r >>= λ x. Ok (g x) in
      (Size name', ap go (same ∙ p.1))
