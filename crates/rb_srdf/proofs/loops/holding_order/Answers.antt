use Rattle.std.proofs.Common.{◌≡◌, ℕ, List, length, ◌∙◌, ap, subst, arith}
use Rattle.rb_tags.specs.Names.{AreDifferent}
use Rattle.rb_srdf.specs.Loops.{rows_of, IsRowAnswer}
use Rattle.rb_srdf.proofs.LoopGroups.{rows_long, answer_on_groups}
use Rattle.rb_srdf.proofs.loops.holding_order.Goals as goal

-- the rows that were made
made : (c : goal.After-as_slice) → c.as_slice.result.now ≡ rows_of c.args.groups.now
made c = c.as_slice.ensures.value ∙ c.in_ok-rows.ensures

pub answer_of-requires : goal.answer_of-requires
answer_of-requires c = omega (arith, ap (length {A = List ℕ}) (made c), rows_long c.args.groups.now)

pub returns : goal.returns
returns c =
    let P : List (List ℕ) → Type 0 = λ rows. IsRowAnswer rows c.in_ok-holding.holding in
    let Q : List (List ℕ) → Type 0 = λ names. AreDifferent names in
    answer_on_groups c.args.groups.now (subst Q c.requires.names c.differ.ensures) c.in_ok-holding.holding
    (subst P (c.as_slice.ensures.value ∙ c.in_ok-rows.ensures) c.in_ok-holding.ensures)
