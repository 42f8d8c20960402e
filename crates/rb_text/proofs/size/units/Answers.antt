use Rattle.std.proofs.Common.{◌≤◌, ◌*◌, ◌^◌, ℕ, subst, rules}
use Rattle.std.specs.Option.{SomeIff}
use Rattle.rb_num.specs.Interval.{grid}
use Rattle.rb_text.proofs.Digits.{whole_past, all_past, all_read}
use Rattle.rb_text.proofs.size.units.Goals as goal
use Rattle.rb_text.specs.declared.size.TheConstants.{LARGEST}

pub returns-in_err-whole : goal.returns-in_err-whole
returns-in_err-whole c =
    let past = whole_past c.args.digits.whole.now c.args.digits.part.now c.args.zeros (LARGEST * grid) c.in_err-whole.ensures in
    search (rules, past)

pub returns-in_err-all : goal.returns-in_err-all
returns-in_err-all c =
    let past = all_past c.args.digits.whole.now c.args.digits.part.now c.in_ok-whole.whole c.args.zeros (LARGEST * grid) c.in_ok-whole.ensures.1 c.in_err-all.ensures in
    search (rules, past)

pub returns : goal.returns
returns c =
    let same = all_read c.args.digits.whole.now c.args.digits.part.now c.in_ok-whole.whole c.in_ok-all.all c.in_ok-whole.ensures.1 c.in_ok-all.ensures.1 in
    subst (λ (x : ℕ). SomeIff c.with_zeros.result (x * 10 ^ c.args.zeros ≤ LARGEST * grid) (x * 10 ^ c.args.zeros)) same c.with_zeros.ensures
