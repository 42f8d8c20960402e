use Rattle.std.proofs.Common.{length, get_or, inr, Err, sym, ap, ◌∙◌, arith}
use Rattle.rb_result.specs.Steps.{placed}
use Rattle.rb_tree.specs.States.{state_fault}
use Rattle.rb_tree.proofs.StateLoops.{more_entries, refused_value, all_entries, kept_more}
use Rattle.rb_tree.proofs.states.state_entries.Goals as goal

pub returns-in-Err-clause-gives : goal.returns-in-Err-clause-gives
returns-in-Err-clause-gives c = λ virtuals names.
    let bodies = c.args.bodies.now in
    let state = c.args.state.now in
    let k = c.loop-value.value-index in
    let value = c.value-item.result in
    let items = c.as_slice-value-items.ensures in
    let size = ap length items in
    let at = c.value-item.is ∙ ap (λ values. get_or values k value) items in
    inr (ap (placed state_fault state.place) (refused_value bodies virtuals state.values k value c.loop-value.entries c.in-Err.kind (omega arith) at (c.loop-value.invariant.entries virtuals names) (c.in-Err.ensures virtuals names)) ∙ ap Err (sym c.new.ensures))

pub loop-value-preserved : goal.loop-value-preserved
loop-value-preserved c =
    let bodies = c.args.bodies.now in
    let state = c.args.state.now in
    let k = c.loop-value.value-index in
    let value = c.value-item.result in
    let items = c.as_slice-value-items.ensures in
    let size = ap length items in
    let at = c.value-item.is ∙ ap (λ values. get_or values k value) items in
    record {
      entries = λ virtuals names. more_entries bodies virtuals state.values k value c.loop-value.entries c.in-Ok.more c.put.new.self (omega arith) at (c.loop-value.invariant.entries virtuals names) (c.in-Ok.ensures virtuals names) c.in_ok-put-in-Ok.ensures.entries;
      kept = λ virtuals names. kept_more bodies virtuals value c.loop-value.entries c.in-Ok.more c.put.new.self (c.in-Ok.ensures virtuals names) c.in_ok-put-in-Ok.ensures.ordered c.in_ok-put-in-Ok.ensures.entries (c.loop-value.invariant.kept virtuals names);
    }

pub returns-clause-gives : goal.returns-clause-gives
returns-clause-gives c = λ virtuals names.
    let state = c.args.state.now in
    let size = ap length c.as_slice-value-items.ensures in
    ap (placed state_fault state.place) (all_entries c.args.bodies.now virtuals state.values c.loop-value.value-index c.loop-value.entries (omega arith) (c.loop-value.invariant.entries virtuals names))
