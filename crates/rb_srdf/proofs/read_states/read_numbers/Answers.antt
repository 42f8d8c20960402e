use Rattle.std.proofs.Common.{rules, sym, ap, ◌∙◌, inr}
use Rattle.rb_tags.specs.Words.{words}
use Rattle.rb_srdf.specs.ReadStates.{numbers_after}
use Rattle.rb_srdf.proofs.Passes.{goes-on, stops, ends}
use Rattle.rb_srdf.proofs.ValueSteps.{numbers_pass, numbers-none, numbers-some}
use Rattle.rb_srdf.proofs.read_states.read_numbers.Goals as goal

pub returns-in_default : goal.returns-in_default
returns-in_default c = inr (numbers-none (words c.args.text.now) c.in_default.ensures)

pub loop-word-init : goal.loop-word-init
loop-word-init c = numbers-some (words c.args.text.now) _ _ c.in-Some.ensures ∙ ap (λ numbers. numbers_after numbers (words c.args.text.now)) (sym c.new-numbers.ensures.items)

pub returns-in_err-number_in : goal.returns-in_err-number_in
returns-in_err-number_in c =
    rw (stops numbers_pass _ c.loop-word.numbers.items (words c.loop-word.rest.now) _ _ _ c.loop-word.invariant c.in-Some-next_word.ensures (sym c.in_err-number_in.ensures.exact)) (search rules)

pub loop-word-preserved : goal.loop-word-preserved
loop-word-preserved c =
    goes-on numbers_pass _ c.loop-word.numbers.items (words c.loop-word.rest.now) _ _ _ _ c.loop-word.invariant c.in-Some-next_word.ensures (sym c.in_ok-number_in.ensures.exact) c.in_ok-push.ensures.items

pub returns : goal.returns
returns c = ends numbers_pass _ c.loop-word.numbers.items (words c.loop-word.rest.now) c.loop-word.invariant c.in_default-next_word.ensures
