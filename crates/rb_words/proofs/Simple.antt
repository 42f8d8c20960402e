-- `clap` says exactly what it makes of the words for these options.
use Rattle.std.proofs.Common.{◌≡◌, true, refl, codes}
use Rattle.clap.specs.Simple.{is_simple, new_app, with_rule}
use Rattle.clap.specs.Faults.{is_simple_and_free}
use Rattle.clap.proofs.OnLiterals.{clap_on_literals}
use Rattle.rb_words.specs.Options.{app, by_default, flag, option, required}

pub app_is_simple : is_simple app ≡ true
unfolding clap_on_literals app
app_is_simple = refl

pub app_is_free : is_simple_and_free app ≡ true
unfolding clap_on_literals app
app_is_free = refl

-- the command with the options, one after the other
pub app_by_rules : with_rule (with_rule (with_rule (with_rule (with_rule (with_rule (with_rule (with_rule (with_rule (new_app (codes "rbd"))
    (required (option (codes "task")))) (required (option (codes "urdf")))) (option (codes "srdf"))) (option (codes "state"))) (option (codes "root"))) (option (codes "constraints")))
    (by_default (codes "-") (option (codes "rows")))) (by_default (codes "0,0,-9.81") (option (codes "gravity")))) (flag (codes "echo")) ≡ app
unfolding app
app_by_rules = refl
