-- Marks that are read are written as the grammar says, those that are written so are read, and where none is read the fault is as named.
use Rattle.std.proofs.Common.{◌≡◌, ◌≢◌, ℕ, suc, ◌<◌, Bool, true, false, cond, eqb, List, [], ◌∷◌, ◌++◌, length, take, drop, codes, Option, Some, None, Result, Ok, Err, refl, sym, ap, subst, ◌∙◌, ◌⊎◌, inl, inr, append_assoc, arith}
use Rattle.std.specs.List.{flat_map}
use Rattle.std.proofs.Math.Seq.{split_at}
use Rattle.std.proofs.lemmas.List.{length-append}
use Rattle.rb_tags.specs.declared.read.TagKind.{TagKind}
use Rattle.rb_tags.specs.declared.read.TagKind.TheVariants.{Doctype, Unclosed, BadMark}
use Rattle.rb_tags.specs.declared.marks.StartTag.{StartTag}
use Rattle.rb_tags.specs.References.{◌>?=◌}
use Rattle.rb_tags.specs.Bytes.{after_front, after_first}
use Rattle.rb_tags.specs.Marks.{Mark, start_in, end_in, tag_in, closing_at, tag_at, run_to, if_some, mark_at}
use Rattle.rb_tags.specs.Grammar.{RunsTo, WrittenStart, IsStart, start_text, start_of, attr_text, WrittenEnd, IsEnd, WrittenMark, Instruction, Comment, Data, Start, End, IsMark, mark_text, mark_of_written}
use Rattle.rb_tags.specs.BadMarks.{Begins, BeginsTag, Opened, IsBadMark}
use Rattle.rb_tags.proofs.Steps.{bind_some, some_is, front_takes}
use Rattle.rb_tags.proofs.Closing.{closing_is}
use Rattle.rb_tags.proofs.Closes.{not_front, Runs, first_takes, first_lacks, first_again}
use Rattle.rb_tags.proofs.Again.{start_inside, name_first}
use Rattle.rb_tags.proofs.Over.{start_tag_again, end_tag_again}
use Rattle.rb_tags.proofs.TagParts.{ends_found, ends_there}
use Rattle.rb_tags.proofs.TakesTag.{slash, start_takes, end_takes}
use Rattle.rb_result.specs.Steps.{◌>>=◌}
use Rattle.std.specs.Option.{ok_or}
use Rattle.rb_result.proofs.Results.{then-ok, found-ok, same_ok, found-err, then-err}

-- a mark as it is written, and the bytes after it
pub record TakesMark (bytes : List ℕ) (m : Mark) (rest : List ℕ) : Type 0 where
  pub written : WrittenMark
  pub is_mark : IsMark written
  pub text : codes "<" ++ bytes ≡ mark_text written ++ rest
  pub mark : m ≡ mark_of_written written

-- the five sorts of marks
data Sort (bytes : List ℕ) (read : Result (Mark × List ℕ) TagKind) : Type 0 where
  AnInstruction : (rest : List ℕ) → bytes ≡ codes "?" ++ rest → run_to (codes "?>") Mark.Passed rest ≡ read → Sort bytes read
  AComment : (rest : List ℕ) → bytes ≡ codes "!--" ++ rest → run_to (codes "-->") Mark.Passed rest ≡ read → Sort bytes read
  ASection : (rest : List ℕ) → bytes ≡ codes "![CDATA[" ++ rest → run_to (codes "]]>") Mark.Data rest ≡ read → Sort bytes read
  ADoctype : (rest : List ℕ) → bytes ≡ codes "!DOCTYPE" ++ rest → Err Doctype ≡ read → Sort bytes read
  ATag : BeginsTag bytes → tag_at bytes ≡ read → Sort bytes read

front_cases : {A : Type 0} (front bytes : List ℕ) (f : List ℕ → A) (other y : A) → if_some (after_front front bytes) f other ≡ y → ((rest : List ℕ) × (bytes ≡ front ++ rest) × (f rest ≡ y)) ⊎ ((Begins front bytes → ⊥) × (other ≡ y))
front_cases front bytes f other y e = by_read (after_front front bytes) refl e
  where
    by_read : (o : Option (List ℕ)) → after_front front bytes ≡ o → if_some o f other ≡ y → ((rest : List ℕ) × (bytes ≡ front ++ rest) × (f rest ≡ y)) ⊎ ((Begins front bytes → ⊥) × (other ≡ y))
    by_read (Some rest) is given = inl (rest, front_takes front bytes rest is, given)
    by_read None is given = inr (not_front front bytes is, given)

sort_of : (bytes : List ℕ) (read : Result (Mark × List ℕ) TagKind) → mark_at bytes ≡ read → Sort bytes read
unfolding mark_at
sort_of bytes read e =
    elim (front_cases (codes "?") bytes (run_to (codes "?>") Mark.Passed) _ read e) [
      | inl i ↦ AnInstruction i.0 i.1 i.2
      | inr a ↦ elim (front_cases (codes "!--") bytes (run_to (codes "-->") Mark.Passed) _ read a.1) [
        | inl c ↦ AComment c.0 c.1 c.2
        | inr b ↦ elim (front_cases (codes "![CDATA[") bytes (run_to (codes "]]>") Mark.Data) _ read b.1) [
          | inl s ↦ ASection s.0 s.1 s.2
          | inr d ↦ elim (front_cases (codes "!DOCTYPE") bytes (λ _. Err Doctype) (tag_at bytes) read d.1) [
            | inl t ↦ ADoctype t.0 t.1 t.2
            | inr t ↦ ATag (record { instruction = a.0; comment = b.0; section = d.0; doctype = t.0 }) t.1
          ]
        ]
      ]
    ]

abbrev read_pair : Mark → List ℕ → Result (Mark × List ℕ) TagKind
read_pair m rest = Ok (m, rest)

pair_is : (m n : Mark) (rest back : List ℕ) → read_pair m rest ≡ read_pair n back → (m ≡ n) × (rest ≡ back)
pair_is m n rest back e =
    let x : Mark × List ℕ = (m, rest) in
    let y : Mark × List ℕ = (n, back) in
    let same : x ≡ y = same_ok {E = TagKind} x y e in
    (ap (λ (p : Mark × List ℕ). p.0) same, ap (λ (p : Mark × List ℕ). p.1) same)

-- a mark that runs to its closing bytes
run_takes : (closing : List ℕ) (m n : Mark) (bytes rest : List ℕ) → run_to closing m bytes ≡ Ok (n, rest) → Runs closing bytes rest × (n ≡ m)
run_takes closing m n bytes rest e =
    let r = then-ok (ok_or (after_first closing bytes) Unclosed) (λ back. read_pair m back) (n, rest) e in
    let is = pair_is m n r.0 rest r.2 in
    let found : after_first closing bytes ≡ Some rest = found-ok (after_first closing bytes) Unclosed r.0 r.1 ∙ ap (λ (t : List ℕ). Some t) is.1 in
    (first_takes closing bytes rest found, sym is.0)

run_text : (opening closing bytes body after rest : List ℕ) → bytes ≡ opening ++ after → after ≡ body ++ (closing ++ rest) → 60 ∷ bytes ≡ ((60 ∷ opening) ++ (body ++ closing)) ++ rest
run_text opening closing bytes body after rest e h =
    ap (λ (t : List ℕ). 60 ∷ t) (e ∙ ap (λ (t : List ℕ). opening ++ t) h) ∙ regroup (60 ∷ opening) body closing rest
  where
    regroup : (a b c d : List ℕ) → a ++ (b ++ (c ++ d)) ≡ (a ++ (b ++ c)) ++ d
    regroup a b c d = simp append_assoc

-- all that stands between the < and the > of a tag
start_regroup : (s : WrittenStart) (rest : List ℕ) → 60 ∷ ((s.name ++ (flat_map attr_text s.attrs ++ (s.after ++ slash s.closes))) ++ 62 ∷ rest) ≡ start_text s ++ rest
start_regroup s rest = by_test s.closes
  where
    by_test : (b : Bool) → 60 ∷ ((s.name ++ (flat_map attr_text s.attrs ++ (s.after ++ cond b (47 ∷ []) []))) ++ 62 ∷ rest) ≡ (60 ∷ (s.name ++ (flat_map attr_text s.attrs ++ (s.after ++ cond b (47 ∷ 62 ∷ []) (62 ∷ []))))) ++ rest
    by_test true = simp append_assoc
    by_test false = simp append_assoc

end_regroup : (name after rest : List ℕ) → 60 ∷ ((47 ∷ (name ++ after)) ++ 62 ∷ rest) ≡ (60 ∷ 47 ∷ (name ++ (after ++ 62 ∷ []))) ++ rest
end_regroup name after rest = simp append_assoc

start_written : (inside bytes rest : List ℕ) (x : StartTag) → bytes ≡ inside ++ 62 ∷ rest → start_in inside ≡ Some x → TakesMark bytes (Mark.Start x) rest
start_written inside bytes rest x e h =
    let t = start_takes inside x h in
    record {
      written = Start t.written;
      is_mark = t.is_start;
      text = ap (λ (r : List ℕ). 60 ∷ r) (e ∙ ap (λ (r : List ℕ). r ++ 62 ∷ rest) t.parts) ∙ start_regroup t.written rest;
      mark = ap (λ (y : StartTag). Mark.Start y) t.start;
    }

end_written : (inside bytes rest x : List ℕ) → bytes ≡ (47 ∷ inside) ++ 62 ∷ rest → end_in inside ≡ Some x → TakesMark bytes (Mark.End x) rest
end_written inside bytes rest x e h =
    let t = end_takes inside x h in
    record {
      written = End (record { name = x; after = t.after });
      is_mark = t.is_end;
      text = ap (λ (r : List ℕ). 60 ∷ r) (e ∙ ap (λ (r : List ℕ). (47 ∷ r) ++ 62 ∷ rest) t.parts) ∙ end_regroup x t.after rest;
      mark = refl;
    }

inside_written : (inside bytes rest : List ℕ) (m : Mark) → bytes ≡ inside ++ 62 ∷ rest → tag_in inside ≡ Some m → TakesMark bytes m rest
unfolding tag_in
inside_written inside bytes rest m e h =
    elim (front_cases (codes "/") inside (λ back. end_in back >?= λ name. Some (Mark.End name)) (start_in inside >?= λ start. Some (Mark.Start start)) (Some m) h) [
      | inl t ↦
          let name = bind_some (end_in t.0) (λ name. Some (Mark.End name)) m t.2 in
          subst (λ (n : Mark). TakesMark bytes n rest) (some_is (Mark.End name.0) m name.2) (end_written t.0 bytes rest name.0 (e ∙ ap (λ (r : List ℕ). r ++ 62 ∷ rest) t.1) name.1)
      | inr t ↦
          let start = bind_some (start_in inside) (λ start. Some (Mark.Start start)) m t.1 in
          subst (λ (n : Mark). TakesMark bytes n rest) (some_is (Mark.Start start.0) m start.2) (start_written inside bytes rest start.0 e start.1)
    ]

cut_at : (bytes : List ℕ) (n : ℕ) → closing_at None bytes ≡ Some n → bytes ≡ take n bytes ++ 62 ∷ drop (suc n) bytes
cut_at bytes n e =
    let closes = closing_is None bytes n e in
    split_at bytes n 0 closes.within ∙ ap (λ (b : ℕ). take n bytes ++ b ∷ drop (suc n) bytes) closes.closes

tag_written : (bytes : List ℕ) (m : Mark) (rest : List ℕ) → tag_at bytes ≡ Ok (m, rest) → TakesMark bytes m rest
unfolding tag_at
tag_written bytes m rest e =
    let n = then-ok (ok_or (closing_at None bytes) Unclosed) (λ end. ok_or (tag_in (take end bytes)) BadMark >>= λ mark. Ok (mark, drop (suc end) bytes)) (m, rest) e in
    let k = then-ok (ok_or (tag_in (take n.0 bytes)) BadMark) (λ mark. read_pair mark (drop (suc n.0) bytes)) (m, rest) n.2 in
    let is = pair_is k.0 m (drop (suc n.0) bytes) rest k.2 in
    let read : tag_in (take n.0 bytes) ≡ Some m = found-ok (tag_in (take n.0 bytes)) BadMark k.0 k.1 ∙ ap (λ (x : Mark). Some x) is.0 in
    let cut : bytes ≡ take n.0 bytes ++ 62 ∷ rest = cut_at bytes n.0 (found-ok (closing_at None bytes) Unclosed n.0 n.1) ∙ ap (λ (t : List ℕ). take n.0 bytes ++ 62 ∷ t) is.1 in
    inside_written (take n.0 bytes) bytes rest m cut read

sort_sound : (bytes : List ℕ) (m : Mark) (rest : List ℕ) → Sort bytes (Ok (m, rest)) → TakesMark bytes m rest
sort_sound bytes m rest (AnInstruction after e given) =
    let t = run_takes (codes "?>") Mark.Passed m after rest given in
    record { written = Instruction t.0.body; is_mark = t.0.runs; text = run_text (codes "?") (codes "?>") bytes t.0.body after rest e t.0.text; mark = t.1 }
sort_sound bytes m rest (AComment after e given) =
    let t = run_takes (codes "-->") Mark.Passed m after rest given in
    record { written = Comment t.0.body; is_mark = t.0.runs; text = run_text (codes "!--") (codes "-->") bytes t.0.body after rest e t.0.text; mark = t.1 }
sort_sound bytes m rest (ASection after e given) =
    let t = run_takes (codes "]]>") Mark.Data m after rest given in
    record { written = Data t.0.body; is_mark = t.0.runs; text = run_text (codes "![CDATA[") (codes "]]>") bytes t.0.body after rest e t.0.text; mark = t.1 }
sort_sound bytes m rest (ADoctype after e given) = absurd cc
sort_sound bytes m rest (ATag is given) = tag_written bytes m rest given

pub mark_sound : (bytes : List ℕ) (m : Mark) (rest : List ℕ) → mark_at bytes ≡ Ok (m, rest) → TakesMark bytes m rest
mark_sound bytes m rest e = sort_sound bytes m rest (sort_of bytes (Ok (m, rest)) e)

pub some_text : (w : WrittenMark) → 0 < length (mark_text w)
some_text (Instruction body) = simp length-append (omega arith)
some_text (Comment body) = simp length-append (omega arith)
some_text (Data body) = simp length-append (omega arith)
some_text (Start s) = simp length-append (omega arith)
some_text (End e) = simp length-append (omega arith)

-- a mark takes some bytes
pub mark_shortens : (bytes : List ℕ) (m : Mark) (rest : List ℕ) → mark_at bytes ≡ Ok (m, rest) → length rest < length (60 ∷ bytes)
mark_shortens bytes m rest e =
    let t = mark_sound bytes m rest e in
    omega (arith, some_text t.written, ap length t.text, length-append (mark_text t.written) rest)

-- the bytes behind the < of a mark as it is written
behind : (bytes other : List ℕ) → 60 ∷ bytes ≡ 60 ∷ other → bytes ≡ other
behind bytes other e = cc

run_cut : (opening body closing rest : List ℕ) → (opening ++ (body ++ closing)) ++ rest ≡ opening ++ (body ++ (closing ++ rest))
run_cut opening body closing rest = simp append_assoc

instruction_again : (body rest : List ℕ) → RunsTo (codes "?>") body → mark_at (codes "?" ++ (body ++ (codes "?>" ++ rest))) ≡ Ok (Mark.Passed, rest)
unfolding mark_at after_front
instruction_again body rest h = rw (first_again (codes "?>") body rest h) refl

comment_again : (body rest : List ℕ) → RunsTo (codes "-->") body → mark_at (codes "!--" ++ (body ++ (codes "-->" ++ rest))) ≡ Ok (Mark.Passed, rest)
unfolding mark_at after_front
comment_again body rest h = rw (first_again (codes "-->") body rest h) refl

section_again : (body rest : List ℕ) → RunsTo (codes "]]>") body → mark_at (codes "![CDATA[" ++ (body ++ (codes "]]>" ++ rest))) ≡ Ok (Mark.Data, rest)
unfolding mark_at after_front
section_again body rest h = rw (first_again (codes "]]>") body rest h) refl

-- what begins with neither ! nor ? is a tag
tag_again : (b : ℕ) (bs : List ℕ) → eqb b 33 ≡ false → eqb b 63 ≡ false → mark_at (b ∷ bs) ≡ tag_at (b ∷ bs)
unfolding mark_at after_front
tag_again b bs no_mark no_question = rw (no_question, no_mark) refl

start_mark_again : (s : WrittenStart) (rest : List ℕ) → IsStart s → mark_at (start_inside s ++ 62 ∷ rest) ≡ Ok (Mark.Start (start_of s), rest)
unfolding start_inside
start_mark_again s rest h =
    let f = name_first s.name h.name in
    let others = flat_map attr_text s.attrs ++ (s.after ++ slash s.closes) in
    let whole : (s.name ++ others) ++ 62 ∷ rest ≡ f.first ∷ ((f.others ++ others) ++ 62 ∷ rest) = ap (λ (t : List ℕ). (t ++ others) ++ 62 ∷ rest) f.text in
    ap mark_at whole ∙ tag_again f.first ((f.others ++ others) ++ 62 ∷ rest) f.no_mark f.no_question ∙ ap tag_at (sym whole) ∙ start_tag_again s rest h

end_mark_again : (e : WrittenEnd) (rest : List ℕ) → IsEnd e → mark_at ((47 ∷ (e.name ++ e.after)) ++ 62 ∷ rest) ≡ Ok (Mark.End e.name, rest)
end_mark_again e rest h = tag_again 47 ((e.name ++ e.after) ++ 62 ∷ rest) refl refl ∙ end_tag_again e rest h

start_cut : (s : WrittenStart) (rest : List ℕ) → 60 ∷ (start_inside s ++ 62 ∷ rest) ≡ start_text s ++ rest
unfolding start_inside
start_cut s rest = start_regroup s rest

pub mark_complete : (w : WrittenMark) (bytes rest : List ℕ) → IsMark w → codes "<" ++ bytes ≡ mark_text w ++ rest → mark_at bytes ≡ Ok (mark_of_written w, rest)
mark_complete (Instruction body) bytes rest h e = ap mark_at (behind bytes _ (e ∙ run_cut (codes "<?") body (codes "?>") rest)) ∙ instruction_again body rest h
mark_complete (Comment body) bytes rest h e = ap mark_at (behind bytes _ (e ∙ run_cut (codes "<!--") body (codes "-->") rest)) ∙ comment_again body rest h
mark_complete (Data body) bytes rest h e = ap mark_at (behind bytes _ (e ∙ run_cut (codes "<![CDATA[") body (codes "]]>") rest)) ∙ section_again body rest h
mark_complete (Start s) bytes rest h e = ap mark_at (behind bytes _ (e ∙ sym (start_cut s rest))) ∙ start_mark_again s rest h
mark_complete (End end) bytes rest h e = ap mark_at (behind bytes _ (e ∙ sym (end_regroup end.name end.after rest))) ∙ end_mark_again end rest h

run_refused : (opening closing bytes rest : List ℕ) (m : Mark) (kind : TagKind) → bytes ≡ opening ++ rest → run_to closing m rest ≡ Err kind → Opened opening closing bytes × (Unclosed ≡ kind)
run_refused opening closing bytes rest m kind text e =
    elim (then-err (ok_or (after_first closing rest) Unclosed) (λ back. read_pair m back) kind e) [
      | inl f ↦ let is = found-err (after_first closing rest) Unclosed kind f in (record { rest = rest; text = text; never = first_lacks closing rest is.1 }, is.0)
      | inr f ↦ let wrong = f.2 in absurd cc
    ]

-- no mark that is written as the grammar says was refused
never_read : (bytes : List ℕ) (kind : TagKind) → mark_at bytes ≡ Err kind → (w : WrittenMark) (rest : List ℕ) → IsMark w → codes "<" ++ bytes ≢ mark_text w ++ rest
never_read bytes kind e w rest h text = let read = mark_complete w bytes rest h text in cc

tag_refused : (bytes : List ℕ) (kind : TagKind) → BeginsTag bytes → mark_at bytes ≡ Err kind → tag_at bytes ≡ Err kind → IsBadMark bytes kind
unfolding tag_at
tag_refused bytes kind begins whole e =
    elim (then-err (ok_or (closing_at None bytes) Unclosed) (λ end. ok_or (tag_in (take end bytes)) BadMark >>= λ mark. Ok (mark, drop (suc end) bytes)) kind e) [
      | inl f ↦
          let is = found-err (closing_at None bytes) Unclosed kind f in
          subst (λ (k : TagKind). IsBadMark bytes k) is.0 (inr (inr (inr (record { tag = begins; never = ends_found bytes is.1 }))))
      | inr f ↦
          elim (then-err (ok_or (tag_in (take f.0 bytes)) BadMark) (λ mark. read_pair mark (drop (suc f.0) bytes)) kind f.2) [
            | inl g ↦
                let is = found-err (tag_in (take f.0 bytes)) BadMark kind g in
                subst (λ (k : TagKind). IsBadMark bytes k) is.0 (record { tag = begins; ends = ends_there bytes f.0 (found-ok (closing_at None bytes) Unclosed f.0 f.1); never = never_read bytes kind whole })
            | inr g ↦ let wrong = g.2 in absurd cc
          ]
    ]

sort_refused : (bytes : List ℕ) (kind : TagKind) → mark_at bytes ≡ Err kind → Sort bytes (Err kind) → IsBadMark bytes kind
sort_refused bytes kind whole (AnInstruction after e given) =
    let f = run_refused (codes "?") (codes "?>") bytes after Mark.Passed kind e given in subst (λ (k : TagKind). IsBadMark bytes k) f.1 (inl f.0)
sort_refused bytes kind whole (AComment after e given) =
    let f = run_refused (codes "!--") (codes "-->") bytes after Mark.Passed kind e given in subst (λ (k : TagKind). IsBadMark bytes k) f.1 (inr (inl f.0))
sort_refused bytes kind whole (ASection after e given) =
    let f = run_refused (codes "![CDATA[") (codes "]]>") bytes after Mark.Data kind e given in subst (λ (k : TagKind). IsBadMark bytes k) f.1 (inr (inr (inl f.0)))
sort_refused bytes kind whole (ADoctype after e given) =
    let is : Doctype ≡ kind = cc in subst (λ (k : TagKind). IsBadMark bytes k) is (record { rest = after; text = e })
sort_refused bytes kind whole (ATag is given) = tag_refused bytes kind is whole given

pub mark_refused : (bytes : List ℕ) (kind : TagKind) → mark_at bytes ≡ Err kind → IsBadMark bytes kind
mark_refused bytes kind e = sort_refused bytes kind e (sort_of bytes (Err kind) e)
