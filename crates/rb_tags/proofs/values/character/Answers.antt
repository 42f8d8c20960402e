use Rattle.std.proofs.Common.{◌≢◌, get_or, lit<, sym}
use Rattle.rb_tags.proofs.References.{no_plus, parse_fails, parse_is}
use Rattle.rb_tags.proofs.values.character.Goals as goal

pub returns-in_err-number : goal.returns-in_err-number
returns-in_err-number c =
    let plain : get_or c.args.digits.now 0 0 ≢ 43 = no_plus _ (c.if-starts_with.ensures.byte (lit< tt) (lit< tt) (λ w o h. h)) in
    rw c.from_residual.ensures (sym (parse_fails c.args.radix c.args.digits.now c.from_str_radix.result plain c.from_str_radix.ensures.value c.in_err-number.ensures.value))

pub returns : goal.returns
returns c =
    let plain : get_or c.args.digits.now 0 0 ≢ 43 = no_plus _ (c.if-starts_with.ensures.byte (lit< tt) (lit< tt) (λ w o h. h)) in
    parse_is c.args.radix c.args.digits.now c.from_str_radix.result c.in_ok-number.number c.from_u32.result plain c.from_str_radix.ensures.value c.in_ok-number.ensures.value c.from_u32.ensures.value
