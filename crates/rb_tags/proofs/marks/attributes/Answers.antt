use Rattle.std.proofs.Common.{◌≡◌, true, false, rules}
use Rattle.std.proofs.lemmas.Result.{err_from_is_err_and}
use Rattle.rb_tags.specs.Marks.{attr_follows}
use Rattle.rb_tags.proofs.Loop.{attrs_go_on, attrs_shorten, attrs_refused, attrs_done}
use Rattle.rb_tags.proofs.marks.attributes.Goals as goal

pub returns-in_err-attr : goal.returns-in_err-attr
returns-in_err-attr c =
    let follows : attr_follows c.loop-alloc.rest.now ≡ true = cc in
    let p = err_from_is_err_and c.from_residual.result c.from_residual.ensures.1 in
    rw (p.1, p.2) (attrs_refused c.args.text.now c.loop-alloc.attrs.items c.loop-alloc.rest.now c.in_err-attr.field-0.0 c.loop-alloc.invariant.so_far follows (rw c.past.ensures at c.in_err-attr.ensures.gives))

pub loop-alloc-smaller : goal.loop-alloc-smaller
loop-alloc-smaller c =
    let follows : attr_follows c.loop-alloc.rest.now ≡ true = cc in
    attrs_shorten c.loop-alloc.rest.now c.in_ok-attr.attr c.in_ok-attr.after.now follows (rw c.past.ensures at c.in_ok-attr.ensures.gives)

pub loop-alloc-preserved : goal.loop-alloc-preserved
loop-alloc-preserved c =
    let follows : attr_follows c.loop-alloc.rest.now ≡ true = cc in
    let so_far = attrs_go_on c.args.text.now c.loop-alloc.attrs.items c.loop-alloc.rest.now c.in_ok-attr.attr c.in_ok-attr.after.now c.loop-alloc.invariant.so_far follows (rw c.past.ensures at c.in_ok-attr.ensures.gives) in
    record { utf8 = search rules; so_far = rw c.in_ok-push.ensures.items so_far }

pub returns : goal.returns
returns c =
    let ends : attr_follows c.loop-alloc.rest.now ≡ false = cc in
    attrs_done c.args.text.now c.loop-alloc.attrs.items c.loop-alloc.rest.now c.loop-alloc.invariant.so_far ends
