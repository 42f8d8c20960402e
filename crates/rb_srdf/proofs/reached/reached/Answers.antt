use Rattle.std.proofs.Common.{◌≡◌, ℕ, get_or, ◌∙◌, ap, Option, unwrap_or, arith}
use Rattle.std.proofs.lemmas.Option.{unwrap_or-slice_get}
use Rattle.rb_srdf.proofs.LoopSearch.{search_begins, search_more, search_ends}
use Rattle.rb_srdf.proofs.reached.reached.Goals as goal

pub loop-next-init : goal.loop-next-init
loop-next-init c =
    search_begins c.args.rows.now c.args.from c.row_at.result.now c.new-found.result.keys c.add_row.new.found.keys
    c.new-found.ensures.empty c.row_at.ensures c.in_ok-add_row.ensures

pub loop-next-preserved : goal.loop-next-preserved
loop-next-preserved c =
    let found = c.loop-next.found.keys in
    let next = c.loop-next.next in
    let number_is : c.unwrap_or-number.result ≡ get_or found next 0 =
    c.unwrap_or-number.ensures ∙ ap (λ (o : Option ℕ). unwrap_or o 0) (c.copied.ensures ∙ c.get_index.ensures.key) ∙ unwrap_or-slice_get found next 0 in
    search_more c.args.rows.now c.args.from c.row_at-in-loop-next.result.now found c.add_row-in-loop-next.new.found.keys next c.unwrap_or-number.result
    c.loop-next.invariant (omega arith) number_is c.row_at-in-loop-next.ensures c.in_ok-add_row-2.ensures

pub returns : goal.returns
returns c = search_ends c.args.rows.now c.args.from c.loop-next.found.keys c.loop-next.next (omega arith) c.loop-next.invariant
