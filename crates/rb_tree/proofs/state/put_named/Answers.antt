use Rattle.std.proofs.Common.{length, sym, ap, ◌∙◌}
use Rattle.std.specs.Prelude.{bytes_eq}
use Rattle.rb_tree.proofs.StatePositions.{position_unnamed, named_put, named_left, room_for}
use Rattle.rb_tree.proofs.state.put_named.Goals as goal
use Rattle.rb_tree.proofs.state.put_named.Goals.{then-eq, else-eq}

pub loop-state-init : goal.loop-state-init
loop-state-init c = record { position = position_unnamed c.args.name.now c.args.q.now; ordered = λ all. all }

pub put_entries-requires : goal.put_entries-requires
put_entries-requires c =
    room_for c.args.states.now c.loop-state.state-index c.state-item.result c.as_slice.result.now (length c.args.q.now) _ c.requires c.loop-state-test.true c.state-item.is c.as_slice.ensures c.loop-state.invariant.position.count

pub loop-state-preserved : goal.loop-state-preserved
loop-state-preserved c =
    let states = c.args.states.now in
    let k = c.loop-state.state-index in
    let state = c.state-item.result in
    let name = c.args.name.now in
    let before = c.args.q.now in
    let so_far = c.loop-state.invariant in
    let named = ap (λ text. bytes_eq text name) (c.as_bytes.ensures.value ∙ c.as_str.ensures.same) in
    elim c.if-eq.branch [
      | then-eq w ↦ rw w.q-is (record {
        position = named_put states k state name before c.loop-state.q c.loop-state-test.true c.state-item.is so_far.position w.put_entries.new.q w.as_slice.result.now (sym named ∙ sym w.if-eq.ensures) w.as_slice.ensures w.put_entries.ensures.position;
        ordered = λ all. w.put_entries.ensures.ordered (so_far.ordered all);
      })
      | else-eq w ↦ rw w.q-is (record {
        position = named_left states k state name before c.loop-state.q c.loop-state-test.true c.state-item.is so_far.position (sym named ∙ sym w.if-eq.ensures);
        ordered = so_far.ordered;
      })
    ]
