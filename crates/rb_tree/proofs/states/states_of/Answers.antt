use Rattle.std.proofs.Common.{length, get_or, Err, ap, ◌∙◌, arith}
use Rattle.std.proofs.lemmas.Result.{err_from_is_err_and}
use Rattle.rb_srdf.specs.Srdf.{names_of_virtuals}
use Rattle.rb_tree.specs.Faults.{no_memory}
use Rattle.rb_tree.proofs.StateLoops.{more_states, refused_state, all_states, kept_states, handed_on}
use Rattle.rb_tree.proofs.states.states_of.Goals as goal

pub returns-in_err-entries-clause-gives : goal.returns-in_err-entries-clause-gives
returns-in_err-entries-clause-gives c =
    let bodies = c.args.bodies.now in
    let srdf = c.args.srdf.now in
    let k = c.loop-state.state-index in
    let state = c.state-item.result in
    let items = c.as_slice-state-items.ensures ∙ c.states.ensures.same in
    let size = ap length items in
    let at = c.state-item.is ∙ ap (λ states. get_or states k state) items in
    let names = c.in_ok-names.ensures ∙ ap names_of_virtuals (c.as_slice.ensures ∙ c.virtuals.ensures.same) in
    let p = err_from_is_err_and c.from_residual-in_err-entries.result c.from_residual-in_err-entries.ensures.1 in
    let fault = c.in_err-entries.field-0.0 in
    handed_on no_memory (λ states. states.items) c.from_residual-in_err-entries.result fault _ _ (p.1 ∙ ap Err p.2) (c.in_err-entries.ensures.gives srdf.virtuals names)
    (refused_state bodies srdf.virtuals srdf.states k state c.loop-state.states.items fault (omega arith) at c.loop-state.invariant.made)

pub loop-state-preserved : goal.loop-state-preserved
loop-state-preserved c =
    let bodies = c.args.bodies.now in
    let srdf = c.args.srdf.now in
    let k = c.loop-state.state-index in
    let state = c.state-item.result in
    let items = c.as_slice-state-items.ensures ∙ c.states.ensures.same in
    let size = ap length items in
    let at = c.state-item.is ∙ ap (λ states. get_or states k state) items in
    let names = c.in_ok-names.ensures ∙ ap names_of_virtuals (c.as_slice.ensures ∙ c.virtuals.ensures.same) in
    record {
      made = more_states bodies srdf.virtuals srdf.states k state c.loop-state.states.items c.push.new.self.items c.in_ok-name.name c.in_ok-entries.entries (omega arith) at c.loop-state.invariant.made
          (c.in_ok-entries.ensures.gives srdf.virtuals names) (c.in_ok-name.ensures ∙ c.as_str.ensures.same) c.in_ok-push.ensures.items;
      kept = kept_states bodies srdf.virtuals c.loop-state.states.items c.push.new.self.items (record { name = c.in_ok-name.name; entries = c.in_ok-entries.entries }) c.loop-state.invariant.kept
          (c.in_ok-entries.ensures.kept srdf.virtuals names) c.in_ok-push.ensures.items;
    }

pub returns-clause-gives : goal.returns-clause-gives
returns-clause-gives c =
    let srdf = c.args.srdf.now in
    let size = ap length (c.as_slice-state-items.ensures ∙ c.states.ensures.same) in
    all_states c.args.bodies.now srdf.virtuals srdf.states c.loop-state.state-index c.loop-state.states.items (omega arith) c.loop-state.invariant.made
