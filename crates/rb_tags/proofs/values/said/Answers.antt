use Rattle.std.proofs.Common.{List, Some, ℕ, ◌++◌, string_bytes, encode_utf8, rules, sym, ap, subst, ◌∙◌}
use Rattle.rb_tags.proofs.ValueSteps.{SaysSoFar, says_more, says_end, reads_shorter, reads_reference, reads_some}
use Rattle.rb_tags.proofs.values.said.Goals as goal

pub unwrap-character-requires : goal.unwrap-character-requires
unwrap-character-requires c = reads_some c.reference.result c.args.text.now _ _ _ c.requires c.loop-plain.invariant.says c.in-Some.ensures.1 c.reference.ensures

pub loop-plain-smaller : goal.loop-plain-smaller
loop-plain-smaller c = reads_shorter c.loop-plain.rest.now _ _ c.in-Some.ensures.1 (reads_reference c.reference.result _ c.unwrap-character.result.0 c.unwrap-character.result.1 c.reference.ensures c.unwrap-character.ensures)

pub loop-plain-preserved : goal.loop-plain-preserved
loop-plain-preserved c =
    let read = reads_reference c.reference.result _ c.unwrap-character.result.0 c.unwrap-character.result.1 c.reference.ensures c.unwrap-character.ensures in
    let more = says_more c.args.text.now _ _ _ _ _ c.loop-plain.invariant.says c.in-Some.ensures.1 read in
    let said = c.in_ok-push.ensures.bytes ∙ ap (λ (t : List ℕ). t ++ encode_utf8 c.unwrap-character.result.0) (c.in_ok-push_str.ensures.bytes ∙ ap (λ (t : List ℕ). string_bytes c.loop-plain.said ++ t) c.in-Some.ensures.0) in
    record { utf8 = search rules; says = subst (λ (t : List ℕ). SaysSoFar c.args.text.now t c.unwrap-character.result.1.now) (sym said) more }

pub returns : goal.returns
returns c = says_end c.args.text.now _ _ c.loop-plain.invariant.says c.in_default.ensures ∙ ap (λ (t : List ℕ). Some t) (sym (c.from_string.ensures ∙ c.in_ok-push_str-2.ensures.bytes))
