use Rattle.std.proofs.Common.{ap, inl, inr, arith, string_bytes}
use Rattle.rb_model.proofs.Joined.{IsBetween, joined_more}
use Rattle.rb_model.proofs.lines.numbers_text.Goals as goal
use Rattle.rb_model.proofs.lines.numbers_text.Goals.{then-k-eq0, else-k-eq0}

pub loop-k-preserved : goal.loop-k-preserved
loop-k-preserved c =
    let between : IsBetween c.loop-k.k c.if-k-eq0.between.now =
    elim c.if-k-eq0.branch [
      | then-k-eq0 w ↦ inl (w.if-k-eq0.true, ap (λ t. t.now) w.between-is)
      | else-k-eq0 w ↦ inr ((λ e. w.if-k-eq0.false e), ap (λ t. t.now) w.between-is)
    ] in
    joined_more c.args.numbers.now c.loop-k.k (string_bytes c.loop-k.text) _ c.if-k-eq0.between.now (omega arith) between c.in_ok-write.ensures.bytes c.loop-k.invariant
