use Rattle.std.proofs.Common.{rules, sym, [], refl}
use Rattle.rb_tags.specs.Words.{words}
use Rattle.rb_srdf.proofs.Passes.{goes-on, stops, ends}
use Rattle.rb_srdf.proofs.ValueSteps.{numbers_pass, numbers-none, numbers-some}
use Rattle.rb_srdf.proofs.read_states.check_numbers.Goals as goal

pub returns-in_default-clause-exact : goal.returns-in_default-clause-exact
returns-in_default-clause-exact c = rw (numbers-none (words c.args.text.now) c.in_default.ensures) refl

pub loop-word-init : goal.loop-word-init
loop-word-init c = record { so_far = []; are = numbers-some (words c.args.text.now) _ _ c.in-Some.ensures }

pub returns-in_err-number_in-clause-exact : goal.returns-in_err-number_in-clause-exact
returns-in_err-number_in-clause-exact c =
    rw (stops numbers_pass _ c.loop-word.invariant.so_far (words c.loop-word.rest.now) _ _ _ c.loop-word.invariant.are c.in-Some-next_word.ensures (sym c.in_err-number_in.ensures.exact)) (search rules)

pub loop-word-preserved : goal.loop-word-preserved
loop-word-preserved c = record {
  so_far = _;
  are = goes-on numbers_pass _ c.loop-word.invariant.so_far (words c.loop-word.rest.now) _ _ _ _ c.loop-word.invariant.are c.in-Some-next_word.ensures (sym c.in_ok-number_in.ensures.exact) refl;
}

pub returns-clause-exact : goal.returns-clause-exact
returns-clause-exact c = rw (ends numbers_pass _ c.loop-word.invariant.so_far (words c.loop-word.rest.now) c.loop-word.invariant.are c.in_default-next_word.ensures) refl
