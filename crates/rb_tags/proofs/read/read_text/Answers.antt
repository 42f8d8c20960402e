use Rattle.std.proofs.Common.{◌≡◌, ℕ, ◌-◌, List, length, Option, Some, None, Bor, rules, refl, Result, sym, ap, ◌∙◌, subst, arith, codes}
use Rattle.std.proofs.lemmas.Result.{err_from_is_err_and}
use Rattle.rb_tags.specs.declared.read.TagFault.{TagFault}
use Rattle.rb_tags.specs.declared.tag.Tag.{Tag}
use Rattle.rb_tags.specs.Bytes.{after_front}
use Rattle.std.specs.Option.{option_copied, unwrap_or}
use Rattle.rb_tags.specs.Tags.{order_mark, behind_order_mark}
use Rattle.rb_tags.specs.Views.{seen_of}
use Rattle.rb_tags.proofs.SoFar.{left_begin, text_more, text_refused, mark_begins, mark_more, mark_refused, left_end, read_no_longer}
use Rattle.rb_tags.proofs.read.read_text.Goals as goal
use Rattle.rb_result.specs.Steps.{Gives}
use Rattle.rb_tags.specs.Faults.{no_memory}

pub overflow_sub-size : goal.overflow_sub-size
overflow_sub-size c = let h = c.loop-reader.invariant.1 in h.within

pub text-requires : goal.text-requires
text-requires c = let h = c.loop-reader.invariant.1 in let within = h.within in omega arith

pub returns-in_err-rest : goal.returns-in_err-rest
returns-in_err-rest c =
    let p = err_from_is_err_and c.from_residual.result c.from_residual.ensures.1 in
    rw (p.1, p.2) (text_refused c.args.text.now (seen_of c.loop-reader.reader) c.loop-reader.left.now c.in_err-rest.field-0.0 c.loop-reader.invariant.1 c.in_err-rest.ensures.gives)

pub overflow_sub-size-in-loop-reader : goal.overflow_sub-size-in-loop-reader
overflow_sub-size-in-loop-reader c =
    let h = text_more c.args.text.now (seen_of c.loop-reader.reader) c.loop-reader.left.now c.in_ok-rest.rest.now c.loop-reader.invariant.1 c.in_ok-rest.ensures.gives in
    let shorter = h.shorter in
    let within = h.within in
    omega arith

pub returns-in_default : goal.returns-in_default
returns-in_default c =
    let h = text_more c.args.text.now (seen_of c.loop-reader.reader) c.loop-reader.left.now c.in_ok-rest.rest.now c.loop-reader.invariant.1 c.in_ok-rest.ensures.gives in
    let none : after_front (codes "<") c.in_ok-rest.rest.now ≡ None = sym c.in_default.ensures in
    subst (λ (r : Result (List Tag) TagFault). Gives no_memory (λ tags. tags) c.finish.result r) (left_end c.args.text.now (seen_of c.loop-reader.reader) c.loop-reader.left.now c.in_ok-rest.rest.now h none) c.finish.ensures.gives

pub returns-in_err-left : goal.returns-in_err-left
returns-in_err-left c =
    let h = text_more c.args.text.now (seen_of c.loop-reader.reader) c.loop-reader.left.now c.in_ok-rest.rest.now c.loop-reader.invariant.1 c.in_ok-rest.ensures.gives in
    let some : after_front (codes "<") c.in_ok-rest.rest.now ≡ Some c.in-Some.behind.now = sym c.in-Some.ensures in
    let p = err_from_is_err_and c.from_residual-in_err-left.result c.from_residual-in_err-left.ensures.1 in
    rw (p.1, p.2) (mark_refused c.args.text.now (seen_of c.loop-reader.reader) c.loop-reader.left.now c.in_ok-rest.rest.now c.in-Some.behind.now c.in_err-left.field-0.0 h (mark_begins c.in_ok-rest.rest.now c.in-Some.behind.now some) c.in_err-left.ensures)

pub loop-reader-smaller : goal.loop-reader-smaller
loop-reader-smaller c =
    let h = text_more c.args.text.now (seen_of c.loop-reader.reader) c.loop-reader.left.now c.in_ok-rest.rest.now c.loop-reader.invariant.1 c.in_ok-rest.ensures.gives in
    let some : after_front (codes "<") c.in_ok-rest.rest.now ≡ Some c.in-Some.behind.now = sym c.in-Some.ensures in
    let begins = mark_begins c.in_ok-rest.rest.now c.in-Some.behind.now some in
    let less = read_no_longer (seen_of c.loop-reader.reader) (length c.args.text.now - length c.in_ok-rest.rest.now) c.in-Some.behind.now (seen_of c.mark.new.self) c.in_ok-left.left.now c.in_ok-left.ensures in
    let shorter = h.shorter in
    let longer = ap length begins in
    omega arith

begins : (o : Option (Bor (List ℕ))) (text : Bor (List ℕ)) → option_copied o ≡ after_front order_mark text.now → (unwrap_or o text).now ≡ behind_order_mark (after_front order_mark text.now) text.now
begins (Some rest) text e = rw (sym e) refl
begins None text e = rw (sym e) refl

pub loop-reader-init : goal.loop-reader-init
loop-reader-init c =
    let left : c.unwrap_or-left.result.now ≡ behind_order_mark (after_front order_mark c.args.text.now) c.args.text.now = ap (λ (r : Bor (List ℕ)). r.now) c.unwrap_or-left.ensures ∙ begins c.past_front.result c.args.text c.past_front.ensures in
    (c.unwrap_or-left.utf8, rw (left, c.new-reader.ensures) (left_begin c.args.text.now))

pub loop-reader-preserved : goal.loop-reader-preserved
loop-reader-preserved c =
    let h = text_more c.args.text.now (seen_of c.loop-reader.reader) c.loop-reader.left.now c.in_ok-rest.rest.now c.loop-reader.invariant.1 c.in_ok-rest.ensures.gives in
    let some : after_front (codes "<") c.in_ok-rest.rest.now ≡ Some c.in-Some.behind.now = sym c.in-Some.ensures in (
      search rules,
      mark_more c.args.text.now (seen_of c.loop-reader.reader) (seen_of c.mark.new.self) c.loop-reader.left.now c.in_ok-rest.rest.now c.in-Some.behind.now c.in_ok-left.left.now h (mark_begins c.in_ok-rest.rest.now c.in-Some.behind.now some) c.in_ok-left.ensures,
    )
