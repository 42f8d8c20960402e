use Rattle.std.proofs.Common.{◌≡◌, ◌<◌, ◌≤◌, true, false, length, get_or, arith}
use Rattle.rb_tags.specs.Marks.{ends_tag}
use Rattle.rb_tags.proofs.Closing.{closes_more, closes_here, closes_never}
use Rattle.rb_tags.proofs.marks.closing.Goals as goal

pub returns-then-ends_tag : goal.returns-then-ends_tag
returns-then-ends_tag c =
    let lt : c.loop-place.place < length c.args.text.now = omega arith in
    let ends : ends_tag c.loop-place.quote (get_or c.args.text.now c.loop-place.place 0) ≡ true = cc in
    closes_here c.args.text.now c.loop-place.place c.loop-place.quote c.loop-place.invariant lt ends

pub loop-place-preserved : goal.loop-place-preserved
loop-place-preserved c =
    let lt : c.loop-place.place < length c.args.text.now = omega arith in
    let on : ends_tag c.loop-place.quote (get_or c.args.text.now c.loop-place.place 0) ≡ false = cc in
    rw (c.quote_after-quote.ensures, c.as_bytes-bytes.ensures.value) (closes_more c.args.text.now c.loop-place.place c.loop-place.quote c.loop-place.invariant lt on)

pub returns : goal.returns
returns c =
    let end : length c.args.text.now ≤ c.loop-place.place = omega arith in
    closes_never c.args.text.now c.loop-place.place c.loop-place.quote c.loop-place.invariant end
